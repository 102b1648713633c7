use Rattle.std.proofs.Common.{List, sym, subst}
use Rattle.core_index.specs.declared.types.LiveKey.{LiveKey}
use Rattle.core_index.specs.Lives.{Lives, AllLess, KeysRise}
use Rattle.core_index.proofs.live_list.LiveList.is_below.Goals as goal

pub all_less-requires : goal.all_less-requires
all_less-requires c = subst KeysRise (sym c.deref.ensures.value) c.self.invariant.rising

pub returns : goal.returns
returns c = λ lt. subst (λ (a : Lives). AllLess a.items c.args.key) c.self.view_is (subst (λ (ts : List LiveKey). AllLess ts c.args.key) c.deref.ensures.value (c.all_less.ensures lt))
