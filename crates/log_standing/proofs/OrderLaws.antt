-- Items that were put in order by name and chunk.
use Rattle.std.proofs.Common.{◌≡◌, ◌≢◌, ⊎_elim, ℕ, ◌+◌, ◌<◌, ◌≤◌, ◌==◌, nat_lt, true, false, cond, List, get_or, refl, sym, arith}
use Rattle.std.specs.List.{All, count_by}
use Rattle.std.specs.List.Sorted.{IsPermutation, IsSortedBy}
use Rattle.std.specs.Ordering.{nat_cmp, is_lt, ordering_then}
use Rattle.std.specs.declared.cmp.Ordering.{Ordering}
use Rattle.std.specs.declared.cmp.Ordering.TheVariants.{Less, Equal, Greater}
use Rattle.std.proofs.lemmas.Bool.{ltb-false, le-ltb, eq-eqb, cases_eq, cases_lt}
use Rattle.std.proofs.lemmas.List.Sorted.{IsNonDecreasingBy-from_all_adjacent, All-permutation, list_any-IsPermutation}
use Rattle.core_log.specs.declared.types.LogChunk.{LogChunk}
use Rattle.log_standing.specs.declared.name_item.NameItem.{NameItem}
use Rattle.log_standing.specs.NameItems.{order_of, is_note, chunks_noted, Fits, InOrder}

not_less : (o p : Ordering) → is_lt (ordering_then o p) ≡ false → (is_lt o ≡ false) × (o ≡ Equal → is_lt p ≡ false)
not_less Less p isnt = absurd (cc isnt)
not_less Equal p isnt = (refl, λ _. isnt)
not_less Greater p isnt = (refl, λ e. absurd (cc e))

at_most : (a b : ℕ) → is_lt (nat_cmp a b) ≡ false → b ≤ a
at_most a b isnt = elim (nat_lt a b) as (λ t. nat_lt a b ≡ t → is_lt (cond t Less (cond (a == b) Equal Greater)) ≡ false → b ≤ a) [
  | true ↦ λ _ no_less. absurd (cc no_less)
  | false ↦ λ e _. ltb-false a b e
] refl isnt

equal : (a b : ℕ) → a ≡ b → nat_cmp a b ≡ Equal
equal a b e = (λ i. cond (le-ltb a b (omega (arith, e)) i) Less (cond (eq-eqb a b e i) Equal Greater))

abbrev names_then_chunks : NameItem → NameItem → Ordering
names_then_chunks x y = ordering_then (ordering_then (nat_cmp x.key y.key) (nat_cmp x.version y.version)) (nat_cmp x.chunk y.chunk)

order_up : (x y : NameItem) → Fits x → Fits y → is_lt (names_then_chunks y x) ≡ false → order_of x ≤ order_of y
order_up x y fx fy isnt =
    let names = ordering_then (nat_cmp y.key x.key) (nat_cmp y.version x.version) in
    let a = not_less names (nat_cmp y.chunk x.chunk) isnt in
    let b = not_less (nat_cmp y.key x.key) (nat_cmp y.version x.version) a.0 in
    let key = at_most y.key x.key b.0 in
    let vx = fx.version in
    let vy = fy.version in
    let cx = fx.chunk in
    let cy = fy.chunk in
    ⊎_elim
    (λ (k : y.key ≡ x.key).
    let version = at_most y.version x.version (b.1 (equal y.key x.key k)) in
    ⊎_elim
    (λ (v : y.version ≡ x.version).
    let both : names ≡ Equal = λ i. ordering_then (equal y.key x.key k i) (equal y.version x.version v i) in
    let chunk = at_most y.chunk x.chunk (a.1 both) in
    omega (arith, k, v, chunk))
    (λ (v : y.version ≢ x.version). ⊎_elim (λ (lt : x.version < y.version). omega (arith, k, lt, cx)) (λ (ge : y.version ≤ x.version). absurd (v (omega (arith, ge, version)))) (cases_lt x.version y.version))
    (cases_eq y.version x.version))
    (λ (k : y.key ≢ x.key). ⊎_elim (λ (lt : x.key < y.key). omega (arith, lt, vx, cx)) (λ (ge : y.key ≤ x.key). absurd (k (omega (arith, ge, key)))) (cases_lt x.key y.key))
    (cases_eq y.key x.key)

pub sorted_order : (was now : List NameItem) → IsPermutation was now → IsSortedBy (λ (x y : NameItem). is_lt (names_then_chunks x y)) now → All Fits was → InOrder now
sorted_order was now moved sorted fits =
    let all : All Fits now = All-permutation Fits was now moved fits in
    record {
      rising = IsNonDecreasingBy-from_all_adjacent order_of now (λ k d lt. order_up (get_or now k d) (get_or now (k + 1) d) (all k d (omega (arith, lt))) (all (k + 1) d lt) (sorted k d (omega arith) lt));
      fits = all;
    }

pub same_notes : (was now : List NameItem) → IsPermutation was now → (cs : List LogChunk) (k v : ℕ) → chunks_noted cs now k v ≡ chunks_noted cs was k v
same_notes was now moved cs k v = λ i. count_by (λ (c : LogChunk). sym (list_any-IsPermutation (is_note k v c.chunk) was now moved) i) cs
