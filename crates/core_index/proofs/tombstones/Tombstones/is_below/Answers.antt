use Rattle.std.proofs.Common.{List, sym, subst}
use Rattle.core_index.specs.declared.types.Tombstone.{Tombstone}
use Rattle.core_index.specs.Tombs.{Tombs, AreLess, Rising}
use Rattle.core_index.proofs.tombstones.Tombstones.is_below.Goals as goal

pub are_less-requires : goal.are_less-requires
are_less-requires c = subst Rising (sym c.items.ensures.items) c.self.invariant

pub returns : goal.returns
returns c = λ lt. subst (λ (a : Tombs). AreLess a.items c.args.key) c.self.view_is (subst (λ (ts : List Tombstone). AreLess ts c.args.key) c.items.ensures.items (c.are_less.ensures lt))
