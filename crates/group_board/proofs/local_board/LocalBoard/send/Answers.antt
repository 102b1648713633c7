use Rattle.std.proofs.Common.{◌∙◌, ap, sym, ◌∷◌, false}
use Rattle.group_laws.specs.Steps.{finds}
use Rattle.group_laws.specs.declared.types.Seen.TheVariants as loads
use Rattle.group_board.specs.Mailing.{notices_of}
use Rattle.group_board.specs.Journals.{state, trail_in}
use Rattle.group_board.proofs.Mail.{can_send, send_steps, send_place, send_view, mail_step, steps_lawful}
use Rattle.group_laws.specs.Runs as runs
use Rattle.group_laws.proofs.Clients.{step_keeps}
use Rattle.group_board.specs.Trails.{step_with}
use Rattle.group_laws.specs.MemberViews.{view_of}
use Rattle.group_board.proofs.Views as views
use Rattle.group_board.proofs.local_board.LocalBoard.send.Goals as goal

pub put_mail-requires : goal.put_mail-requires
put_mail-requires c = can_send (state c.args.self.now.keeper.me.0) (state c.look_at_mail.new.self.keeper.me.0) c.args.member c.args.to (notices_of c.args.notices) (c.look_at_mail.ensures.state ∙ ap (λ x. finds (state c.args.self.now.keeper.me.0) c.args.member (loads.Mail c.args.member c.args.to x)) c.if-look_at_mail.false) c.requires

pub returns-clause-place : goal.returns-clause-place
returns-clause-place c = send_place (state c.args.self.now.keeper.me.0) (state c.look_at_mail.new.self.keeper.me.0) c.args.member c.args.to (notices_of c.args.notices) (c.look_at_mail.ensures.state ∙ ap (λ x. finds (state c.args.self.now.keeper.me.0) c.args.member (loads.Mail c.args.member c.args.to x)) c.if-look_at_mail.false) c.requires (state c.put_mail.new.self.keeper.me.0) c.put_mail.ensures.state

pub returns-clause-step : goal.returns-clause-step
returns-clause-step c = send_steps (state c.args.self.now.keeper.me.0) (state c.look_at_mail.new.self.keeper.me.0) c.args.member c.args.to (notices_of c.args.notices) (c.look_at_mail.ensures.state ∙ ap (λ x. finds (state c.args.self.now.keeper.me.0) c.args.member (loads.Mail c.args.member c.args.to x)) c.if-look_at_mail.false) c.requires (state c.put_mail.new.self.keeper.me.0) c.put_mail.ensures.state (sym c.if-look_at_mail.false ∙ c.look_at_mail.ensures.found)

pub returns-clause-view : goal.returns-clause-view
returns-clause-view c = send_view (state c.args.self.now.keeper.me.0) (state c.look_at_mail.new.self.keeper.me.0) c.args.member c.args.to (notices_of c.args.notices) (c.look_at_mail.ensures.state ∙ ap (λ x. finds (state c.args.self.now.keeper.me.0) c.args.member (loads.Mail c.args.member c.args.to x)) c.if-look_at_mail.false) c.requires (state c.put_mail.new.self.keeper.me.0) c.put_mail.ensures.state

pub returns-clause-lawful : goal.returns-clause-lawful
returns-clause-lawful c =
    steps_lawful (state c.args.self.now.keeper.me.0) c.args.member (runs.Kind.LookMail c.args.member c.args.to) (runs.Kind.Send c.args.to (notices_of c.args.notices)) (state c.put_mail.new.self.keeper.me.0)
    (send_steps (state c.args.self.now.keeper.me.0) (state c.look_at_mail.new.self.keeper.me.0) c.args.member c.args.to (notices_of c.args.notices) (c.look_at_mail.ensures.state ∙ ap (λ x. finds (state c.args.self.now.keeper.me.0) c.args.member (loads.Mail c.args.member c.args.to x)) c.if-look_at_mail.false) c.requires (state c.put_mail.new.self.keeper.me.0) c.put_mail.ensures.state (sym c.if-look_at_mail.false ∙ c.look_at_mail.ensures.found))

pub returns-then-look_at_mail-clause-lawful : goal.returns-then-look_at_mail-clause-lawful
returns-then-look_at_mail-clause-lawful c =
    λ L. step_keeps (state c.args.self.now.keeper.me.0) c.args.member (runs.Kind.LookMail c.args.member c.args.to) (state c.look_at_mail.new.self.keeper.me.0) L
    (mail_step (state c.args.self.now.keeper.me.0) (state c.look_at_mail.new.self.keeper.me.0) c.args.member c.args.member c.args.to c.look_at_mail.result c.look_at_mail.ensures.state c.requires.member c.requires.member c.requires.receiver c.look_at_mail.ensures.found)

pub returns-clause-made : goal.returns-clause-made
returns-clause-made c =
    let w = state c.args.self.now.keeper.me.0 in
    let m = c.args.member in
    let last = step_with (runs.Kind.Send c.args.to (notices_of c.args.notices)) (view_of (state c.put_mail.new.self.keeper.me.0) m) in
    let found = ap (λ x. view_of x m) c.look_at_mail.ensures.state ∙ ap (λ x. view_of (finds w m (loads.Mail m c.args.to x)) m) c.if-look_at_mail.false ∙ views.view_finds w m (loads.Mail m c.args.to false) in
    c.put_mail.ensures.made ∙ ap (λ l. last ∷ l) c.look_at_mail.ensures.made ∙ ap (λ v. last ∷ step_with (runs.Kind.LookMail m c.args.to) v ∷ trail_in m c.args.self.now.keeper.me.0) found
