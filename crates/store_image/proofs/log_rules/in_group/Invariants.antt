use Rattle.std.proofs.Common.{◌≡◌, drop}
use Rattle.std.specs.List.{list_all}
use Rattle.chunk_map.specs.Layouts.{is_of_group}
use Rattle.store_image.proofs.log_rules.in_group.Given as goal

abbrev pub invariant-loop-x : goal.invariant-loop-x
invariant-loop-x l = list_all (λ x. is_of_group l.layout l.part x.name.key) l.entries ≡ list_all (λ x. is_of_group l.layout l.part x.name.key) (drop l.x-index l.entries)
