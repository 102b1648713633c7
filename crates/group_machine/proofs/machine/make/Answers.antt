use Rattle.std.proofs.Common.{List, subst}
use Rattle.std.specs.Prelude.{IfOk}
use Rattle.log_entry.specs.declared.entry.EntryName.{EntryName}
use Rattle.group_machine.specs.Makes.{Makes}
use Rattle.group_board.specs.Mailing.{notices_of}
use Rattle.group_laws.specs.Runs.Kind.{Lock, Take, Mark, Finish, Fail, Withdraw, Doom, Retire, Send, Receive}
use Rattle.group_machine.specs.declared.kinds.Kind.TheVariants as kinds
use Rattle.group_machine.proofs.Laws.{as_kind, same_step}
use Rattle.group_machine.proofs.machine.make.Goals as goal

pub returns-in-Post : goal.returns-in-Post
returns-in-Post c = same_step c.post_change.result c.args.state.now c.post_change.new.state c.args.step.now (kinds.Post c.in-Post.slot c.in-Post.change c.in-Post.value) c.in-Post.is c.post_change.ensures

pub returns-in-Lock : goal.returns-in-Lock
returns-in-Lock c = as_kind c.lock.result c.args.state.now c.lock.new.state c.args.step.now Lock kinds.Lock c.in-Lock.is (λ u q. q) (λ u q. q) c.lock.ensures

pub returns-in-Look : goal.returns-in-Look
returns-in-Look c = same_step c.look.result c.args.state.now c.look.new.state c.args.step.now (kinds.Look c.in-Look.word) c.in-Look.is c.look.ensures

pub returns-in-Take : goal.returns-in-Take
returns-in-Take c = as_kind c.take.result c.args.state.now c.take.new.state c.args.step.now (Take c.in-Take.owner c.in-Take.slot) (kinds.Take c.in-Take.owner c.in-Take.slot) c.in-Take.is (λ u q. q) (λ u q. q) c.take.ensures

pub returns-in-Mark : goal.returns-in-Mark
returns-in-Mark c = as_kind c.mark.result c.args.state.now c.mark.new.state c.args.step.now (Mark c.in-Mark.owner c.in-Mark.slot) (kinds.Mark c.in-Mark.owner c.in-Mark.slot) c.in-Mark.is (λ u q. q) (λ u q. q) c.mark.ensures

pub returns-in-Finish : goal.returns-in-Finish
returns-in-Finish c = as_kind c.finish.result c.args.state.now c.finish.new.state c.args.step.now (Finish c.in-Finish.slot) (kinds.Finish c.in-Finish.slot) c.in-Finish.is (λ u q. q) (λ u q. q) c.finish.ensures

pub returns-in-Fail : goal.returns-in-Fail
returns-in-Fail c = as_kind c.fail.result c.args.state.now c.fail.new.state c.args.step.now (Fail c.in-Fail.owner c.in-Fail.slot) (kinds.Fail c.in-Fail.owner c.in-Fail.slot) c.in-Fail.is (λ u q. q) (λ u q. q) c.fail.ensures

pub returns-in-Withdraw : goal.returns-in-Withdraw
returns-in-Withdraw c = as_kind c.withdraw.result c.args.state.now c.withdraw.new.state c.args.step.now (Withdraw c.in-Withdraw.slot) (kinds.Withdraw c.in-Withdraw.slot) c.in-Withdraw.is (λ u q. q) (λ u q. q) c.withdraw.ensures

pub returns-in-Receive : goal.returns-in-Receive
returns-in-Receive c = as_kind c.receive.result c.args.state.now c.receive.new.state c.args.step.now (Receive c.in-Receive.from) (kinds.Receive c.in-Receive.from) c.in-Receive.is (λ u q. q) (λ u q. q) c.receive.ensures

pub returns-in-Send : goal.returns-in-Send
returns-in-Send c = as_kind c.send.result c.args.state.now c.send.new.state c.args.step.now (Send c.in-Send.to (notices_of c.in-Send.notices)) (kinds.Send c.in-Send.to c.in-Send.notices) c.in-Send.is (λ u q. q) (λ u q. q) c.send.ensures

pub returns-in-Doom : goal.returns-in-Doom
returns-in-Doom c = as_kind c.doom.result c.args.state.now c.doom.new.state c.args.step.now (Doom c.in-Doom.names.names) (kinds.Doom c.in-Doom.names) c.in-Doom.is (λ u q. q) (λ u q. q)
    (subst (λ (xs : List EntryName). IfOk c.doom.result (λ made. Makes made c.args.state.now c.args.step.now.member (Doom xs) c.doom.new.state)) c.names.ensures c.doom.ensures)

pub returns-in-Retire : goal.returns-in-Retire
returns-in-Retire c = as_kind c.retire.result c.args.state.now c.retire.new.state c.args.step.now (Retire c.in-Retire.names.names) (kinds.Retire c.in-Retire.names) c.in-Retire.is (λ u q. q) (λ u q. q)
    (subst (λ (xs : List EntryName). IfOk c.retire.result (λ made. Makes made c.args.state.now c.args.step.now.member (Retire xs) c.retire.new.state)) c.names-in-Retire.ensures c.retire.ensures)
