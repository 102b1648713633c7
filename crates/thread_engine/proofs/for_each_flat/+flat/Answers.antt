use Rattle.std.proofs.Common.{arith}
use Rattle.std.specs.Fork.{ChangesAt}
use Rattle.thread_engine.proofs.FlatWork.{one_changes, split_changes}
use Rattle.thread_engine.proofs.for_each_flat.+flat.Goals as goal

pub for_each_flat-returns-then-count-eq1 : goal.for_each_flat-returns-then-count-eq1
for_each_flat-returns-then-count-eq1 g t c =
    one_changes (ChangesAt g.F.Fn c.args.f.now) _ c.index-s-0.result _ c.if-count-eq1.true c.at_one.ensures

pub for_each_flat-returns : goal.for_each_flat-returns
for_each_flat-returns g t c =
    let cut = c.split_at_mut-rest.ensures in
    split_changes (ChangesAt g.F.Fn c.args.f.now) _ _ _ _ c.index-last-0.result _ _ cut.value cut.front_len
    (omega (arith, c.if-count-eq0.false)) c.rest_and_last.ensures.count c.rest_and_last.ensures.rest
    c.rest_and_last.ensures.last.it

pub rest_and_last-own-returns : goal.rest_and_last-own-returns
rest_and_last-own-returns g t c = record { each = λ i d low. (c.for_each_flat.ensures i d low).1 }
