use Rattle.std.proofs.Common.{◌≡◌, ◌⊎◌, ◌+◌, ◌*◌, ◌^◌, ◌<◌}
use Rattle.lazy_alloc.proofs.classes.class_of.Given as goal

abbrev pub invariant-loop-class : goal.invariant-loop-class
invariant-loop-class l = (l.class ≡ 1) ⊎ (128 * 2 ^ l.class < l.length + 8)
