use Rattle.std.proofs.Common.{sym}
use Rattle.group_laws.specs.Runs.{Kind as Law}
use Rattle.group_laws.specs.Runs.Kind.{Post}
use Rattle.group_machine.specs.declared.kinds.Kind.TheVariants as kinds
use Rattle.group_machine.specs.declared.kinds.MemberStep.{MemberStep}
use Rattle.group_machine.specs.Makes.{Makes}
use Rattle.group_machine.specs.Steps.{MakesStep}
use Rattle.group_machine.proofs.Laws.{along, as_data, not_some}
use Rattle.group_machine.proofs.machine.post_change.Goals as goal

pub returns : goal.returns
returns c =
    let s : MemberStep = record { member = c.args.member; kind = kinds.Post c.args.slot c.args.change.now c.args.value.now } in
    let law : Law = Post c.args.slot c.args.change.now.entry c.args.value.now in
    let g = c.args.state.now in
    let h = c.post.new.state in
    along c.post.result (λ made. Makes made g c.args.member law h) (λ made. MakesStep made g s h) (as_data g h s law (λ u q. (not_some c.args.change.now.home (sym c.if-is_some.ensures), q)) (λ u q. q.1)) c.post.ensures
