use Rattle.std.proofs.Common.{sym, ◌∙◌}
use Rattle.core_index.specs.Index.{place_at}
use Rattle.core_index.proofs.OverLaws.{none_of}
use Rattle.core_index.proofs.PlaceLaws.{forgets_none}
use Rattle.core_index.proofs.slot_map.forget_there.Goals as goal

pub returns-else-has : goal.returns-else-has
returns-else-has c = forgets_none c.args.slots.now.entries c.args.key (none_of (place_at c.args.slots.now.entries c.args.key) (sym c.has.ensures ∙ c.if-has.false))
