use Rattle.std.proofs.Common.{List, length, sym, ◌∙◌, ap, arith}
use Rattle.log_entry.specs.declared.entry.EntryName.{EntryName}
use Rattle.log_standing.specs.NameCounts.{count_in, times_in}
use Rattle.log_cleaner.proofs.clearing.Clearing.begin.Goals as goal

pub invariant_of-result : goal.invariant_of-result
invariant_of-result g c =
    let names = c.in_ok-names.ensures.items in
    let doomed = c.in_ok-doomed.ensures.items in
    let long = ap (λ (l : List EntryName). length l) names in
    let more = ap (λ (l : List EntryName). length l) doomed in
    let cap = c.in_ok-names.ensures.exact in
    let cap_2 = c.in_ok-doomed.ensures.exact in
    record {
      names_fit = omega (arith, long, cap, c.room.ensures);
      doomed_fit = omega (arith, long, cap_2, c.room-2.ensures);
      fewer = omega (arith, long, more);
      seen = λ k v. ap count_in (c.reserve.ensures.copies k v ∙ c.in_ok-seen.ensures.names k v) ∙ sym (ap (λ (l : List EntryName). times_in l k v) names);
      once = λ k v. let none = ap (λ (l : List EntryName). times_in l k v) names in omega (arith, none);
    }
