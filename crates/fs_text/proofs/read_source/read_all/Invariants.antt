use Rattle.std.proofs.Common.{◌≡◌, ◌-◌, ◌≤◌, false, length, take}
use Rattle.fs_text.specs.Streams.{Gives}
use Rattle.fs_text.proofs.read_source.read_all.Given as goal

abbrev pub invariant-loop-filled : goal.invariant-loop-filled
invariant-loop-filled g l = record {
  within : l.filled ≤ length l.bytes.items;
  most : length l.bytes.items ≤ l.fn.most;
  gives : Gives (g.S.Source.coming l.fn.source) (g.S.Source.coming l.source) (take l.filled l.bytes.items);
  open_ : g.S.Source.ended l.source ≡ false;
  count : g.S.Source.fault_count l.fn.source ≤ g.S.Source.fault_count l.source;
}

abbrev pub decreases-loop-filled : goal.decreases-loop-filled
decreases-loop-filled g l = l.fn.most - l.filled
