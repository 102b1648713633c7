use Rattle.std.proofs.Common.{◌≤◌, take}
use Rattle.core_index.specs.Index.{all_untold}
use Rattle.core_worker.specs.GoneNames.{Lacks}
use Rattle.core_worker.proofs.gone_names.take_names.Given as goal

abbrev pub invariant-loop-name : goal.invariant-loop-name
invariant-loop-name l = Lacks (take l.name-index l.names) l.fn.index l.index × (all_untold l.index ≤ all_untold l.fn.index)
