use Rattle.std.proofs.Common.{◌+◌, ◌-◌, ◌∙◌, ap, arith}
use Rattle.core_worker.proofs.Members.{core_few, member_low, core_moved}
use Rattle.core_worker.proofs.finish_item.core_beside.Goals as goal

pub overflow_sub-result : goal.overflow_sub-result
overflow_sub-result c = let p = c.requires.0 in let e = c.requires.2 in let low = member_low p c.args.member in omega (arith, e, low)

pub overflow_add-result : goal.overflow_add-result
overflow_add-result c =
    let p = c.requires.0 in
    let few = core_few p c.requires.1 c.args.home c.requires.3 in
    let e = ap (λ n. n - c.args.member + c.args.home) c.requires.2 ∙ core_moved p c.args.member c.args.home in
    omega (arith, few, e)

pub returns : goal.returns
returns c p e = ap (λ n. n - c.args.member + c.args.home) e ∙ core_moved p c.args.member c.args.home
