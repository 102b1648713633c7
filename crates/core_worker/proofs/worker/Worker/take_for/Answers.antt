-- Names that awaited are taken out of the index.
use Rattle.std.proofs.Common.{◌≡◌, ◌∙◌, refl, sym, ap, subst, Some}
use Rattle.std.proofs.lemmas.Option.{slice_get-get_or}
use Rattle.group_board.specs.declared.names.Notices.{Notices}
use Rattle.core_worker.specs.Outbox.{HasSpare}
use Rattle.core_worker.proofs.ReadiedMail.{takes_in, box_here}
use Rattle.core_worker.proofs.worker.Worker.take_for.Goals as goal

pub returns-in-Ok-clause-takes : goal.returns-in-Ok-clause-takes
returns-in-Ok-clause-takes c =
    let old = c.index_mut-waiting.result.now in
    takes_in c.args.home c.args.to c.args.self.now old (record { dead = c.take_notices.new.names; gone = old.gone }) _ c.take_notices.new.index _
    (slice_get-get_or c.args.self.now.notices.items c.args.to _ c.requires.within ∙ ap Some (sym c.index_mut-waiting.ensures.value)) refl c.in-Ok.ensures.takes refl

pub returns-in-Ok-clause-ready : goal.returns-in-Ok-clause-ready
returns-in-Ok-clause-ready c = record {
  none = c.in-Ok.ensures.none;
  spare = λ n is.
      let old = c.index_mut-waiting.result.now in
      let new : Notices = record { dead = c.take_notices.new.names; gone = old.gone } in
      let here = box_here c.args.self.now.notices.items c.args.to old new (slice_get-get_or c.args.self.now.notices.items c.args.to _ c.requires.within ∙ ap Some (sym c.index_mut-waiting.ensures.value)) in
      let same : new ≡ n = (let both : Some new ≡ Some n = sym here ∙ is in cc both) in
      subst HasSpare same c.in-Ok.ensures.spare;
  works = refl;
}

pub returns-in-Err-clause-takes : goal.returns-in-Err-clause-takes
returns-in-Err-clause-takes c =
    let old = c.index_mut-waiting.result.now in
    takes_in c.args.home c.args.to c.args.self.now old (record { dead = c.take_notices.new.names; gone = old.gone }) _ c.take_notices.new.index _
    (slice_get-get_or c.args.self.now.notices.items c.args.to _ c.requires.within ∙ ap Some (sym c.index_mut-waiting.ensures.value)) refl c.in-Err.ensures.takes refl
