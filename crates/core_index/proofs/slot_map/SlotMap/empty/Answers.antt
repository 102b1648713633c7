use Rattle.std.proofs.Common.{◌∙◌, ap}
use Rattle.core_index.specs.Slabs.{by_key}
use Rattle.core_index.proofs.SlabLaws.{none_by_key}
use Rattle.core_index.proofs.slot_map.SlotMap.empty.Goals as goal

pub returns : goal.returns
returns c =
    ap by_key c.new.ensures.empty ∙ none_by_key
