-- The class is the one class of the length.
use Rattle.std.proofs.Common.{sym}
use Rattle.core_room.proofs.LengthLaws.{class_for_long, class_twelve}
use Rattle.core_room.proofs.needs.class_or_zero.Goals as goal

pub returns-then-length-ge-SHORTEST_IN_BLOCK : goal.returns-then-length-ge-SHORTEST_IN_BLOCK
returns-then-length-ge-SHORTEST_IN_BLOCK c = sym (class_for_long c.args.length c.class_of.result c.class_of.ensures (class_twelve c.args.length c.class_of.result c.requires c.class_of.ensures))
