-- Bytes by pages.
use Rattle.std.proofs.Common.{◌≡◌, ⊎_elim, ℕ, zero, suc, ◌+◌, ◌*◌, ◌/◌, ◌%◌, ◌≤◌, ◌<◌, ◌==◌, List, [], ◌∷◌, length, get_or, map, take, drop, replicate, refl, sym, ◌∙◌, ap, subst, arith}
use Rattle.std.proofs.lemmas.List.FromFn.{length-map-range_with_len, get_or-map-range_with_len, fill_by_all}
use Rattle.std.proofs.Common.{length-take, length-set}
use Rattle.std.proofs.Math.ListN.{set}
use Rattle.std.proofs.lemmas.Bool.{cases_lt, cases_eq, cond-true, cond-false}
use Rattle.std.proofs.lemmas.Bool.Decides.{nat_tests}
use Rattle.std.proofs.lemmas.List.{get_or-take, get_or-drop, get_or-replicate, get_or_past, length-replicate}
use Rattle.std.proofs.lemmas.List.Sums.{sum_by-cons, sum_by-set}
use Rattle.std.specs.List.{range_with_len, sum_by}
use Rattle.std.specs.Prelude.{Option, None}
use Rattle.region_file.specs.Slots.{one_if, ArePages, slot_at, page_byte}
use Rattle.region_file.specs.Pages.{FileItems, byte_in, byte_under, items_in, stored_byte}
use Rattle.region_file.specs.declared.pages.Pages.{Pages}
use Rattle.region_file.specs.declared.shared_bytes.SharedBytes.{SharedBytes}

-- the first n values of a function
pub size_of : (f : ℕ → ℕ) (n : ℕ) → length (map f (range_with_len 0 n)) ≡ n
size_of f n = length-map-range_with_len f 0 n

pub item_of : (f : ℕ → ℕ) (n k : ℕ) → k < n → get_or (map f (range_with_len 0 n)) k 0 ≡ f k
item_of f n k lt = get_or-map-range_with_len f 0 n k k 0 lt (omega arith)

one_for : (slot : ℕ) → 0 < slot → one_if slot ≡ 1
one_for slot lt = cond-false (slot == 0) _ _ (grind (arith, nat_tests))

-- how many pages are stored
pub at_most_all : (slots : List ℕ) → sum_by one_if slots ≤ length slots
at_most_all [] = omega arith
at_most_all (zero ∷ slots) = let h = at_most_all slots in let m = sum_by-cons one_if zero slots in omega (arith, h, m)
at_most_all (suc s ∷ slots) = let h = at_most_all slots in let m = sum_by-cons one_if (suc s) slots in let o = one_for (suc s) (omega arith) in omega (arith, h, m, o)

-- one more is stored
pub one_more : (slots : List ℕ) (g slot : ℕ) → g < length slots → get_or slots g 0 ≡ 0 → 0 < slot → sum_by one_if (set slots g slot) ≡ sum_by one_if slots + 1
one_more slots g slot lt none some =
    let h = sum_by-set one_if slots g slot 0 lt in
    let z : one_if (get_or slots g 0) ≡ 0 = ap one_if none in
    let o = one_for slot some in
    omega arith

-- so one that isn't stored has room
pub room_left : (slots bytes : List ℕ) (g : ℕ) → ArePages slots bytes → g < length slots → get_or slots g 0 ≡ 0 → length bytes + 32768 ≤ 32768 * length slots
room_left slots bytes g are lt none =
    let more = one_more slots g 1 lt none (omega arith) in
    let most = at_most_all (set slots g 1) in
    let same = length-set slots g 1 in
    let count = are.count in
    omega arith

zeros_from : (zs : List ℕ) (n k j : ℕ) → zs ≡ replicate n 0 → get_or (drop k zs) j 0 ≡ 0
zeros_from zs n k j is =
    get_or-drop k zs j 0 ∙ ap (λ (l : List ℕ). get_or l (k + j) 0) is
    ∙ ⊎_elim (λ lt. get_or-replicate n (k + j) 0 0 lt) (λ ge. get_or_past (replicate n 0) (k + j) 0 (omega (arith, length-replicate {A = ℕ} n 0))) (cases_lt (k + j) n)

-- zeros from a place on
pub zeros_in : (zs : List ℕ) (n k m j : ℕ) → zs ≡ replicate n 0 → get_or (take m (drop k zs)) j 0 ≡ 0
zeros_in zs n k m j is = ⊎_elim (λ lt. get_or-take m (drop k zs) j 0 lt ∙ zeros_from zs n k j is) (λ ge. get_or_past (take m (drop k zs)) j 0 (omega (arith, length-take m (drop k zs)))) (cases_lt j m)

-- a slot that was read, whatever stands for one that isn't there
pub same_slot : (slots : List ℕ) (g slot : ℕ) → 0 < get_or slots g 0 → slot ≡ get_or slots g slot → get_or slots g 0 ≡ slot
same_slot [] g slot lt e = absurd (omega arith)
same_slot (s ∷ slots) zero slot lt e = sym e
same_slot (s ∷ slots) (suc g) slot lt e = same_slot slots g slot lt e

pub not_zero : (n : ℕ) → (n ≡ 0 → ⊥) → 0 < n
not_zero zero ne = absurd (ne refl)
not_zero (suc n) ne = omega arith

-- a byte in a page that is stored, and in one that isn't
pub in_own : (own : Pages) (base : Option SharedBytes) (k : ℕ) → 0 < slot_at own.slots.items k → byte_in own base k ≡ page_byte own.slots.items own.bytes.items k
in_own own base k lt = cond-false (slot_at own.slots.items k == 0) _ _ (grind (arith, nat_tests))

pub in_under : (own : Pages) (base : Option SharedBytes) (k : ℕ) → slot_at own.slots.items k ≡ 0 → byte_in own base k ≡ byte_under base k
in_under own base k none = cond-true (slot_at own.slots.items k == 0) _ _ (grind (arith, nat_tests))

-- a page that was copied has the bytes that stood under it
pub page_copied : (old new : Pages) (base : Option SharedBytes) (page : ℕ) (bytes : List ℕ) → get_or old.slots.items page 0 ≡ 0 → 0 < get_or new.slots.items page 0
    → ((j : ℕ) → j < 32768 → page_byte new.slots.items new.bytes.items (32768 * page + j) ≡ get_or bytes j 0)
    → ((k : ℕ) → (k / 32768 ≡ page → ⊥) → slot_at new.slots.items k ≡ slot_at old.slots.items k)
    → ((k : ℕ) → 0 < slot_at old.slots.items k → page_byte new.slots.items new.bytes.items k ≡ page_byte old.slots.items old.bytes.items k)
    → ((j : ℕ) → j < 32768 → get_or bytes j 0 ≡ byte_under base (32768 * page + j))
    → (k : ℕ) → byte_in new base k ≡ byte_in old base k
page_copied old new base page bytes none some this others other_bytes under k = ⊎_elim here there (cases_eq (k / 32768) page)
  where
    here : k / 32768 ≡ page → byte_in new base k ≡ byte_in old base k
    here e =
        let j = k % 32768 in
        let at : k ≡ 32768 * page + j = omega arith in
        let was : slot_at old.slots.items k ≡ 0 = ap (λ (g : ℕ). get_or old.slots.items g 0) e ∙ none in
        let now : 0 < slot_at new.slots.items k = subst (λ (g : ℕ). 0 < get_or new.slots.items g 0) (sym e) some in
        in_own new base k now ∙ ap (page_byte new.slots.items new.bytes.items) at ∙ this j (omega arith) ∙ under j (omega arith) ∙ ap (byte_under base) (sym at) ∙ sym (in_under old base k was)

    there : (k / 32768 ≡ page → ⊥) → byte_in new base k ≡ byte_in old base k
    there ne =
        let same = others k ne in
        ⊎_elim (λ was. in_under new base k (same ∙ was) ∙ sym (in_under old base k was))
        (λ ne'. let was : 0 < slot_at old.slots.items k = not_zero _ ne' in in_own new base k (subst (λ (s : ℕ). 0 < s) (sym same) was) ∙ other_bytes k was ∙ sym (in_own old base k was))
        (cases_eq (slot_at old.slots.items k) 0)

-- the bytes as clauses see them
pub count_is : (v : FileItems) (own : Pages) (base : Option SharedBytes) (len : ℕ) → record { items = items_in own base len } ≡ v → length v.items ≡ len
count_is v own base len is = sym (ap (λ (w : FileItems). length w.items) is) ∙ size_of (byte_in own base) len

pub item_is : (v : FileItems) (own : Pages) (base : Option SharedBytes) (len k : ℕ) → record { items = items_in own base len } ≡ v → k < len → get_or v.items k 0 ≡ byte_in own base k
item_is v own base len k is lt = sym (ap (λ (w : FileItems). get_or w.items k 0) is) ∙ item_of (byte_in own base) len k lt

-- so they stay where each byte does
pub same_items : (own own' : Pages) (base base' : Option SharedBytes) (len : ℕ) → ((k : ℕ) → k < len → byte_in own' base' k ≡ byte_in own base k) → items_in own' base' len ≡ items_in own base len
same_items own own' base base' len same = fill_by_all (byte_in own base) (items_in own' base' len) len 0 (size_of (byte_in own' base') len) (λ k lt. item_of (byte_in own' base') len k lt ∙ same k lt)

-- without anything under them the pages are all
pub alone_none : (own : Pages) (base : Option SharedBytes) (k : ℕ) → base ≡ None → stored_byte own k ≡ byte_in own base k
alone_none own base k none = sym (ap (λ (b : Option SharedBytes). byte_in own b k) none)

-- nor where every one is stored
pub alone_all : (own : Pages) (base : Option SharedBytes) (k : ℕ) → 0 < slot_at own.slots.items k → stored_byte own k ≡ byte_in own base k
alone_all own base k lt = cond-false (slot_at own.slots.items k == 0) _ _ (grind (arith, nat_tests)) ∙ sym (in_own own base k lt)
