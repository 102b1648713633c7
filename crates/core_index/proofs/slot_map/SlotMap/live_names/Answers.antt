use Rattle.std.proofs.Common.{ℕ, List, ap, subst, sym}
use Rattle.std.specs.List.Sorted.{IsPermutation, IsStrictlySortedBy}
use Rattle.std.specs.Map.{keys_of}
use Rattle.std.specs.Ordering.{nat_cmp}
use Rattle.core_index.specs.Slots.{Place}
use Rattle.core_index.specs.Slabs.{Slab}
use Rattle.core_index.specs.Index.{live_names}
use Rattle.core_index.proofs.SlabLaws.{names_by_key, sorted_by_key}
use Rattle.core_index.proofs.ListingLaws.{if_ok_both}
use Rattle.core_index.proofs.StepLaws.{if_ok_is}
use Rattle.core_index.proofs.slot_map.SlotMap.live_names.Goals as goal

pub returns-clause-names : goal.returns-clause-names
returns-clause-names c =
    let es = c.self.inside.slots.entries in
    let view = ap (λ (s : Slab). s.entries) c.self.view_is in
    if_ok_both c.names_in.result (λ names is once. subst (λ (fs : List (ℕ × Place)). IsPermutation (live_names fs) names.items) view (subst (IsPermutation _) (sym is) (names_by_key es once))) c.names_in.ensures.names c.names_in.ensures.unique

pub returns-clause-ordered : goal.returns-clause-ordered
returns-clause-ordered c =
    let view = ap (λ (s : Slab). s.entries) c.self.view_is in
    if_ok_is c.names_in.result (subst (λ (fs : List (ℕ × Place)). IsStrictlySortedBy nat_cmp (keys_of fs)) view (sorted_by_key c.self.inside.slots.entries))
