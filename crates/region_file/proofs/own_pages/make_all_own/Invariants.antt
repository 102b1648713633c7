use Rattle.std.proofs.Common.{◌≡◌, ℕ, ◌*◌, ◌<◌, length}
use Rattle.region_file.specs.Slots.{slot_at}
use Rattle.region_file.specs.Pages.{byte_in}
use Rattle.region_file.proofs.own_pages.make_all_own.Given as goal

abbrev pub invariant-loop-page : goal.invariant-loop-page
invariant-loop-page l = record {
  count : length l.own.slots.items ≡ length l.initial.own.slots.items;
  own : (k : ℕ) → k < 32768 * l.page → 0 < slot_at l.own.slots.items k;
  bytes : (k : ℕ) → byte_in l.own l.base k ≡ byte_in l.initial.own l.base k;
}
