use Rattle.std.proofs.Common.{◌≡◌, ◌+◌, ◌*◌, ◌≤◌}
use Rattle.std.specs.Prelude.{drop}
use Rattle.core_worker.specs.OwnPlaces.{own}
use Rattle.core_worker.proofs.worker_room.own_lines.Given as goal

-- the lines so far and those of what is left are all, and there are few so far
abbrev pub invariant-loop-place : goal.invariant-loop-place
invariant-loop-place l = record {
  told : l.lines + own (drop l.place-index l.place-items) ≡ own l.place-items;
  few : l.lines ≤ 5 * l.place-index;
}
