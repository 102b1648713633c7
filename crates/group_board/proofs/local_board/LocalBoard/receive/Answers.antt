use Rattle.std.proofs.Common.{◌∙◌, ap, sym, true, ◌∷◌}
use Rattle.group_laws.specs.Steps.{finds}
use Rattle.group_laws.specs.declared.types.Seen.TheVariants as loads
use Rattle.group_board.specs.Mailing.{notices_of}
use Rattle.group_board.specs.Journals.{state, trail_in}
use Rattle.group_board.proofs.Mail.{seen_in, receive_steps, receive_place, receive_view, mail_step, steps_lawful, heard_before}
use Rattle.group_laws.specs.Runs as runs
use Rattle.group_laws.proofs.Clients.{step_keeps}
use Rattle.group_board.specs.Trails.{step_with}
use Rattle.group_laws.specs.MemberViews.{view_of}
use Rattle.group_board.proofs.Views as views
use Rattle.group_board.proofs.local_board.LocalBoard.receive.Goals as goal

pub take_mail-requires-clause-seen : goal.take_mail-requires-clause-seen
take_mail-requires-clause-seen c = seen_in (state c.args.self.now.keeper.me.0) (state c.look_at_mail.new.self.keeper.me.0) c.args.member c.args.from c.args.member true (c.look_at_mail.ensures.state ∙ ap (λ x. finds (state c.args.self.now.keeper.me.0) c.args.member (loads.Mail c.args.from c.args.member x)) c.if-look_at_mail.true)

pub returns-then-look_at_mail-clause-place : goal.returns-then-look_at_mail-clause-place
returns-then-look_at_mail-clause-place c = receive_place (state c.args.self.now.keeper.me.0) (state c.look_at_mail.new.self.keeper.me.0) c.args.member c.args.from (notices_of c.take_mail.result) (c.look_at_mail.ensures.state ∙ ap (λ x. finds (state c.args.self.now.keeper.me.0) c.args.member (loads.Mail c.args.from c.args.member x)) c.if-look_at_mail.true) (state c.take_mail.new.self.keeper.me.0) c.take_mail.ensures.state

pub returns-then-look_at_mail-clause-step : goal.returns-then-look_at_mail-clause-step
returns-then-look_at_mail-clause-step c = receive_steps (state c.args.self.now.keeper.me.0) (state c.look_at_mail.new.self.keeper.me.0) c.args.member c.args.from (notices_of c.take_mail.result) (c.look_at_mail.ensures.state ∙ ap (λ x. finds (state c.args.self.now.keeper.me.0) c.args.member (loads.Mail c.args.from c.args.member x)) c.if-look_at_mail.true) (state c.take_mail.new.self.keeper.me.0) c.requires.member c.requires.sender c.take_mail.ensures.stood c.take_mail.ensures.state (sym c.if-look_at_mail.true ∙ c.look_at_mail.ensures.found)

pub returns-then-look_at_mail-clause-view : goal.returns-then-look_at_mail-clause-view
returns-then-look_at_mail-clause-view c = receive_view (state c.args.self.now.keeper.me.0) (state c.look_at_mail.new.self.keeper.me.0) c.args.member c.args.from (notices_of c.take_mail.result) (c.look_at_mail.ensures.state ∙ ap (λ x. finds (state c.args.self.now.keeper.me.0) c.args.member (loads.Mail c.args.from c.args.member x)) c.if-look_at_mail.true) (state c.take_mail.new.self.keeper.me.0) c.take_mail.ensures.state

pub returns-then-look_at_mail-clause-heard : goal.returns-then-look_at_mail-clause-heard
returns-then-look_at_mail-clause-heard c =
    heard_before (state c.args.self.now.keeper.me.0) (state c.look_at_mail.new.self.keeper.me.0) c.args.member c.args.from (loads.Mail c.args.from c.args.member c.look_at_mail.result) (notices_of c.take_mail.result) c.look_at_mail.ensures.state c.take_mail.ensures.heard

pub returns-then-look_at_mail-clause-lawful : goal.returns-then-look_at_mail-clause-lawful
returns-then-look_at_mail-clause-lawful c =
    steps_lawful (state c.args.self.now.keeper.me.0) c.args.member (runs.Kind.LookMail c.args.from c.args.member) (runs.Kind.Receive c.args.from) (state c.take_mail.new.self.keeper.me.0)
    (receive_steps (state c.args.self.now.keeper.me.0) (state c.look_at_mail.new.self.keeper.me.0) c.args.member c.args.from (notices_of c.take_mail.result) (c.look_at_mail.ensures.state ∙ ap (λ x. finds (state c.args.self.now.keeper.me.0) c.args.member (loads.Mail c.args.from c.args.member x)) c.if-look_at_mail.true) (state c.take_mail.new.self.keeper.me.0) c.requires.member c.requires.sender c.take_mail.ensures.stood c.take_mail.ensures.state (sym c.if-look_at_mail.true ∙ c.look_at_mail.ensures.found))

pub returns-else-look_at_mail-clause-lawful : goal.returns-else-look_at_mail-clause-lawful
returns-else-look_at_mail-clause-lawful c =
    λ L. step_keeps (state c.args.self.now.keeper.me.0) c.args.member (runs.Kind.LookMail c.args.from c.args.member) (state c.look_at_mail.new.self.keeper.me.0) L
    (mail_step (state c.args.self.now.keeper.me.0) (state c.look_at_mail.new.self.keeper.me.0) c.args.member c.args.from c.args.member c.look_at_mail.result c.look_at_mail.ensures.state c.requires.member c.requires.sender c.requires.member c.look_at_mail.ensures.found)

pub returns-then-look_at_mail-clause-made : goal.returns-then-look_at_mail-clause-made
returns-then-look_at_mail-clause-made c =
    let w = state c.args.self.now.keeper.me.0 in
    let m = c.args.member in
    let last = step_with (runs.Kind.Receive c.args.from) (view_of (state c.take_mail.new.self.keeper.me.0) m) in
    let found = ap (λ x. view_of x m) c.look_at_mail.ensures.state ∙ ap (λ x. view_of (finds w m (loads.Mail c.args.from m x)) m) c.if-look_at_mail.true ∙ views.view_finds w m (loads.Mail c.args.from m true) in
    c.take_mail.ensures.made ∙ ap (λ l. last ∷ l) c.look_at_mail.ensures.made ∙ ap (λ v. last ∷ step_with (runs.Kind.LookMail c.args.from m) v ∷ trail_in m c.args.self.now.keeper.me.0) found
