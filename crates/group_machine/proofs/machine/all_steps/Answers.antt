use Rattle.std.proofs.Common.{Some, List, take, sym, ap, ◌∙◌, subst}
use Rattle.std.proofs.lemmas.Option.{slice_get-get_or}
use Rattle.std.proofs.lemmas.List.{take_all}
use Rattle.group_machine.specs.declared.kinds.MemberStep.{MemberStep}
use Rattle.group_machine.specs.Shows.{group_of}
use Rattle.group_machine.specs.Steps.{AreMade, IsMade}
use Rattle.group_machine.proofs.Runs.{made_keeps, made_more, reached, stopped}
use Rattle.group_machine.proofs.machine.all_steps.Goals as goal

pub loop-i-preserved : goal.loop-i-preserved
loop-i-preserved c =
    let made = rw c.in-Ok-true.field-0-test at c.in-Ok-true.ensures in
    let old = c.loop-i.invariant in
    let x = c.index-steps-i.result in
    record {
      made = made_more (group_of c.args.state) c.args.steps.now c.loop-i.i x (group_of c.loop-i.state) (group_of c.make.new.state) c.loop-i-test.true old.made
          (subst (λ (y : MemberStep). IsMade (group_of c.loop-i.state) y.member y.kind (group_of c.make.new.state)) c.index-steps-i.is made);
      lawful = made_keeps (group_of c.loop-i.state) x.member x.kind (group_of c.make.new.state) old.lawful made;
    }

pub returns-in-Ok-false : goal.returns-in-Ok-false
returns-in-Ok-false c =
    let made = rw c.in-Ok-false.field-0-test at c.in-Ok-false.ensures in
    let old = c.loop-i.invariant in
    let x = c.index-steps-i.result in
    let there = reached c.args.state (take c.loop-i.i c.args.steps.now) c.loop-i.state c.requires old.made old.lawful in
    stopped c.args.state c.args.steps.now c.loop-i.i x c.loop-i.state c.make.new.state made.0 there
    (slice_get-get_or c.args.steps.now c.loop-i.i x c.loop-i-test.true ∙ ap Some (sym c.index-steps-i.is)) made.1

pub returns : goal.returns
returns c =
    let old = c.loop-i.invariant in
    let all = take_all c.loop-i.i c.args.steps.now c.loop-i-test.false in
    reached c.args.state c.args.steps.now c.loop-i.state c.requires (subst (λ (xs : List MemberStep). AreMade (group_of c.args.state) xs (group_of c.loop-i.state)) all old.made) old.lawful
