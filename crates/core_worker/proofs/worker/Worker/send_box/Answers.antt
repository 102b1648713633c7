-- What waits for a member is sent, or stays where it was.
use Rattle.std.proofs.Common.{inl, inr, ⊎_elim, Some, refl, sym, ◌∙◌, ap}
use Rattle.std.proofs.lemmas.Option.{slice_get-get_or}
use Rattle.core_worker.proofs.ReadiedMail.{box_sent}
use Rattle.core_worker.proofs.worker.Worker.send_box.Goals as goal

pub returns-in-Ok-clause-sent : goal.returns-in-Ok-clause-sent
returns-in-Ok-clause-sent g c =
    let old = c.index_mut.result.now in
    let was = slice_get-get_or c.args.self.now.notices.items c.args.to _ c.requires.within ∙ ap Some (sym c.index_mut.ensures.value) in
    box_sent c.in-Ok.sent (g.B.Board.seat c.args.board.now).number c.args.to (g.B.Board.whole c.args.board.now) (g.B.Board.whole c.send_waiting.new.board) (g.B.Board.view c.args.board.now) (g.B.Board.view c.send_waiting.new.board) c.args.self.now old c.send_waiting.new.waiting _
    was refl (c.in-Ok.ensures.spare (c.requires.spare old was)) (λ yes. ⊎_elim (λ none. inl none) (λ same. inr (c.in-Ok.ensures.places yes ∙ same)) c.gone_places-places.ensures) c.in-Ok.ensures.sends
