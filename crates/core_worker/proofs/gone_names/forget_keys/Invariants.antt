use Rattle.std.proofs.Common.{◌≤◌, take}
use Rattle.core_index.specs.Index.{all_untold}
use Rattle.core_worker.specs.GoneNames.{Forgets}
use Rattle.core_worker.proofs.gone_names.forget_keys.Given as goal

abbrev pub invariant-loop-name : goal.invariant-loop-name
invariant-loop-name l = Forgets (take l.name-index l.names) l.fn.places.items l.places.items l.fn.index l.index × (all_untold l.index ≤ all_untold l.fn.index)
