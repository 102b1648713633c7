use Rattle.std.proofs.Common.{◌≡◌, ℕ, ◌+◌, ◌-◌, ◌≤◌, ◌<◌, length, get_or}
use Rattle.region_file.specs.Pages.{byte_under}
use Rattle.region_file.proofs.own_pages.copy_under.Given as goal

abbrev pub invariant-loop-done : goal.invariant-loop-done
invariant-loop-done l = record {
  most : l.done ≤ length l.room;
  count : length l.room ≡ length l.initial.room;
  bytes : (j : ℕ) → j < l.done → get_or l.room j 0 ≡ byte_under l.base (l.from + j);
}

abbrev pub decreases-loop-done : goal.decreases-loop-done
decreases-loop-done l = length l.room - l.done
