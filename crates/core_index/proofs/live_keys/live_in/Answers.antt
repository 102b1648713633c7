use Rattle.std.proofs.Common.{◌++◌, refl, rules}
use Rattle.core_index.specs.Index.{live_names}
use Rattle.core_index.specs.Listing.{start_names}
use Rattle.std.proofs.lemmas.List.Sorted.{IsPermutation-trans, IsNonDecreasingBy-from_sort_by_key}
use Rattle.log_entry.specs.declared.entry.EntryName.{EntryName}
use Rattle.core_index.proofs.ListingLaws.{rising_names, sorted_each, keys_order}
use Rattle.core_index.proofs.live_keys.live_in.Goals as goal

pub returns-clause-rising : goal.returns-clause-rising
returns-clause-rising c =
    let es = c.args.slots.now.entries in
    let xs = c.args.start.now.lone.live.items in
    let moved = IsPermutation-trans (live_names es ++ start_names es xs) c.in_ok-names.names.items c.sort_unstable_by_key.new.self.items c.in_ok-names.ensures.names c.sort_unstable_by_key.ensures.permutation in
    rising_names es xs c.sort_unstable_by_key.new.self.items c.in_ok-names.ensures.ordered c.in_ok-names.ensures.rising moved (keys_order c.sort_unstable_by_key.new.self.items (IsNonDecreasingBy-from_sort_by_key (λ (n : EntryName). n.key) c.sort_unstable_by_key.new.self.items c.sort_unstable_by_key.ensures.sorted (λ a r g h. search rules)))

pub returns-clause-each : goal.returns-clause-each
returns-clause-each c = λ k v.
    let es = c.args.slots.now.entries in
    let names = live_names es ++ start_names es c.args.start.now.lone.live.items in
    let moved = IsPermutation-trans names c.in_ok-names.names.items c.sort_unstable_by_key.new.self.items c.in_ok-names.ensures.names c.sort_unstable_by_key.ensures.permutation in
    sorted_each es c.args.start.now names c.sort_unstable_by_key.new.self.items k v c.in_ok-names.ensures.ordered c.in_ok-names.ensures.rising refl moved
