-- Bytes that are stored in pages, as clauses see them.
use Rattle.std.proofs.Common.{◌≡◌, ◌⊎◌, ⊎_elim, ℕ, ◌+◌, ◌-◌, ◌*◌, ◌/◌, ◌%◌, ◌≤◌, ◌<◌, List, length, get_or, map, take, drop, replicate, sym, ◌∙◌, ap, subst, arith, length-drop}
use Rattle.std.proofs.lemmas.Bool.{cases_lt, cases_eq}
use Rattle.std.proofs.lemmas.List.{get_or-replicate, get_or_past, get_or-take, get_or-drop, length-replicate, length-take-le, ext_get_or}
use Rattle.std.proofs.lemmas.List.FromFn.{fill_by_all}
use Rattle.std.specs.Prelude.{Option}
use Rattle.std.specs.List.{range_with_len}
use Rattle.pm_region.specs.Bytes.{word_at}
use Rattle.pm_region.proofs.Clients.{word_same}
use Rattle.region_file.specs.Slots.{ArePages, slot_at, page_byte}
use Rattle.region_file.specs.Pages.{byte_in, items_in}
use Rattle.region_file.specs.declared.pages.Pages.{Pages}
use Rattle.region_file.specs.declared.shared_bytes.SharedBytes.{SharedBytes}
use Rattle.region_file.proofs.Paging.{size_of, item_of, in_own, in_under, not_zero}

-- zeros
pub zeros_are : (f : ℕ → ℕ) (n : ℕ) → ((k : ℕ) → f k ≡ 0) → map f (range_with_len 0 n) ≡ replicate n 0
zeros_are f n zeros = sym (fill_by_all f (replicate n 0) n 0 (length-replicate {A = ℕ} n 0) (λ k lt. get_or-replicate n k 0 0 lt ∙ sym (zeros k)))

module _ (base : Option SharedBytes) (len : ℕ) where
  -- bytes behind the last one
  past : (own own' : Pages) (k : ℕ) → len ≤ k → get_or (items_in own' base len) k 0 ≡ get_or (items_in own base len) k 0
  past own own' k le = get_or_past (items_in own' base len) k 0 (omega (arith, size_of (byte_in own' base) len)) ∙ sym (get_or_past (items_in own base len) k 0 (omega (arith, size_of (byte_in own base) len)))

  -- a byte that stays
  stays : (own own' : Pages) (k : ℕ) → byte_in own' base k ≡ byte_in own base k → get_or (items_in own' base len) k 0 ≡ get_or (items_in own base len) k 0
  stays own own' k same = ⊎_elim (λ lt. item_of (byte_in own' base) len k lt ∙ same ∙ sym (item_of (byte_in own base) len k lt)) (λ le. past own own' k le) (cases_lt k len)

  -- the word at a place in a page that is stored
  pub own_word : (own : Pages) (place : ℕ) → 0 < slot_at own.slots.items (8 * place) → 8 * place + 8 ≤ len
      → word_at (items_in own base len) place ≡ word_at own.bytes.items (4096 * (slot_at own.slots.items (8 * place) - 1) + place % 4096)
  own_word own place some fits =
      word_same (items_in own base len) own.bytes.items place (4096 * (slot_at own.slots.items (8 * place) - 1) + place % 4096) (λ j lt.
      let k = 8 * place + j in
      let page : k / 32768 ≡ 8 * place / 32768 = omega arith in
      let slot : slot_at own.slots.items k ≡ slot_at own.slots.items (8 * place) = ap (λ (g : ℕ). get_or own.slots.items g 0) page in
      let at : 32768 * (slot_at own.slots.items k - 1) + k % 32768 ≡ 8 * (4096 * (slot_at own.slots.items (8 * place) - 1) + place % 4096) + j = omega (arith, slot, lt) in
      item_of (byte_in own base) len k (omega arith) ∙ in_own own base k (subst (λ (s : ℕ). 0 < s) (sym slot) some) ∙ ap (λ (i : ℕ). get_or own.bytes.items i 0) at)

  module _ (own own' : Pages) (slots : own'.slots ≡ own.slots) where
    slot_same : (k : ℕ) → slot_at own'.slots.items k ≡ slot_at own.slots.items k
    slot_same k = ap (λ v. slot_at v.items k) slots

    -- a word in a page that isn't stored
    under_word : (k : ℕ) → slot_at own.slots.items (8 * k) ≡ 0 → word_at (items_in own' base len) k ≡ word_at (items_in own base len) k
    under_word k none =
        word_same (items_in own' base len) (items_in own base len) k k (λ j lt.
        let at = 8 * k + j in
        let page : at / 32768 ≡ 8 * k / 32768 = omega arith in
        let none' : slot_at own.slots.items at ≡ 0 = ap (λ (g : ℕ). get_or own.slots.items g 0) page ∙ none in
        stays own own' at (in_under own' base at (slot_same at ∙ none') ∙ sym (in_under own base at none')))

    -- the other words stay, where one is stored in its page
    pub other_words : (place : ℕ) → ArePages own.slots.items own.bytes.items → len % 8 ≡ 0 → 0 < slot_at own.slots.items (8 * place)
        → ((q : ℕ) → (q ≡ 4096 * (slot_at own.slots.items (8 * place) - 1) + place % 4096 → ⊥) → word_at own'.bytes.items q ≡ word_at own.bytes.items q)
        → (k : ℕ) → (k ≡ place → ⊥) → word_at (items_in own' base len) k ≡ word_at (items_in own base len) k
    other_words place are whole some others k ne =
        ⊎_elim (λ lt. ⊎_elim (λ none. under_word k none) (λ ne'. stored (omega (arith, lt, whole)) (not_zero _ ne')) (cases_eq (slot_at own.slots.items (8 * k)) 0))
        (λ le. word_same (items_in own' base len) (items_in own base len) k k (λ j lt. past own own' (8 * k + j) (omega (arith, le)))) (cases_lt (8 * k) len)
      where
        apart : 0 < slot_at own.slots.items (8 * k) → 4096 * (slot_at own.slots.items (8 * k) - 1) + k % 4096 ≡ 4096 * (slot_at own.slots.items (8 * place) - 1) + place % 4096 → ⊥
        apart some' e =
            let slot : slot_at own.slots.items (8 * k) ≡ slot_at own.slots.items (8 * place) = omega (arith, e, some, some') in
            let page = are.apart (8 * k / 32768) (8 * place / 32768) some' slot in
            ne (omega (arith, e, slot, page))

        stored : 8 * k + 8 ≤ len → 0 < slot_at own.slots.items (8 * k) → word_at (items_in own' base len) k ≡ word_at (items_in own base len) k
        stored fits some' =
            let at : 4096 * (slot_at own'.slots.items (8 * k) - 1) + k % 4096 ≡ 4096 * (slot_at own.slots.items (8 * k) - 1) + k % 4096 = omega (arith, slot_same (8 * k)) in
            own_word own' k (subst (λ (s : ℕ). 0 < s) (sym (slot_same (8 * k))) some') fits ∙ ap (λ (q : ℕ). word_at own'.bytes.items q) at ∙ others _ (apart some') ∙ sym (own_word own k some' fits)

    -- bytes that were put in a page that is stored
    pub put_inner : (low : ℕ) (bytes : List ℕ) → 0 < slot_at own.slots.items low → low % 32768 + length bytes ≤ 32768 → low + length bytes ≤ len
        → ((j : ℕ) → j < length bytes → page_byte own'.slots.items own'.bytes.items (low + j) ≡ get_or bytes j 0)
        → (j : ℕ) → j < length bytes → get_or (items_in own' base len) (low + j) 0 ≡ get_or bytes j 0
    put_inner low bytes some page fits this j lt =
        let same : (low + j) / 32768 ≡ low / 32768 = omega (arith, page, lt) in
        let slot : slot_at own.slots.items (low + j) ≡ slot_at own.slots.items low = ap (λ (g : ℕ). get_or own.slots.items g 0) same in
        item_of (byte_in own' base) len (low + j) (omega arith) ∙ in_own own' base (low + j) (subst (λ (s : ℕ). 0 < s) (sym (slot_same (low + j) ∙ slot)) some) ∙ this j lt

    -- and the others
    pub put_outer : (low n : ℕ) → ((k : ℕ) → 0 < slot_at own.slots.items k → (k < low) ⊎ (low + n ≤ k) → page_byte own'.slots.items own'.bytes.items k ≡ page_byte own.slots.items own.bytes.items k)
        → (k : ℕ) → (k < low) ⊎ (low + n ≤ k) → get_or (items_in own' base len) k 0 ≡ get_or (items_in own base len) k 0
    put_outer low n others k out =
        stays own own' k (⊎_elim (λ none. in_under own' base k (slot_same k ∙ none) ∙ sym (in_under own base k none))
        (λ ne. let some = not_zero _ ne in in_own own' base k (subst (λ (s : ℕ). 0 < s) (sym (slot_same k)) some) ∙ others k some out ∙ sym (in_own own base k some))
        (cases_eq (slot_at own.slots.items k) 0))

  -- a page that was stored whole
  pub store_inner : (own' : Pages) (low : ℕ) (bytes : List ℕ) → low % 32768 ≡ 0 → low + 32768 ≤ len → 0 < get_or own'.slots.items (low / 32768) 0
      → ((j : ℕ) → j < 32768 → page_byte own'.slots.items own'.bytes.items (32768 * (low / 32768) + j) ≡ get_or bytes j 0)
      → (j : ℕ) → j < 32768 → get_or (items_in own' base len) (low + j) 0 ≡ get_or bytes j 0
  store_inner own' low bytes whole fits some this j lt =
      let page : (low + j) / 32768 ≡ low / 32768 = omega (arith, whole, lt) in
      let at : low + j ≡ 32768 * (low / 32768) + j = omega (arith, whole) in
      item_of (byte_in own' base) len (low + j) (omega arith) ∙ in_own own' base (low + j) (subst (λ (g : ℕ). 0 < get_or own'.slots.items g 0) (sym page) some)
      ∙ ap (page_byte own'.slots.items own'.bytes.items) at ∙ this j lt

  -- and the bytes of the others
  pub store_outer : (own own' : Pages) (low : ℕ) → low % 32768 ≡ 0 → ((k : ℕ) → (k / 32768 ≡ low / 32768 → ⊥) → slot_at own'.slots.items k ≡ slot_at own.slots.items k)
      → ((k : ℕ) → 0 < slot_at own.slots.items k → page_byte own'.slots.items own'.bytes.items k ≡ page_byte own.slots.items own.bytes.items k)
      → (k : ℕ) → (k < low) ⊎ (low + 32768 ≤ k) → get_or (items_in own' base len) k 0 ≡ get_or (items_in own base len) k 0
  store_outer own own' low whole others other_bytes k out =
      let ne : k / 32768 ≡ low / 32768 → ⊥ = λ e. ⊎_elim (λ lt. omega (arith, e, whole, lt)) (λ le. omega (arith, e, whole, le)) out in
      let same = others k ne in
      stays own own' k (⊎_elim (λ none. in_under own' base k (same ∙ none) ∙ sym (in_under own base k none))
      (λ ne'. let some = not_zero _ ne' in in_own own' base k (subst (λ (s : ℕ). 0 < s) (sym same) some) ∙ other_bytes k some ∙ sym (in_own own base k some))
      (cases_eq (slot_at own.slots.items k) 0))

-- bytes that are those from a place on
pub same_part : (part bytes : List ℕ) (low n : ℕ) → length part ≡ n → low + n ≤ length bytes → ((j : ℕ) → j < n → get_or part j 0 ≡ get_or bytes (low + j) 0) → part ≡ take n (drop low bytes)
same_part part bytes low n size fits same =
    let there : length (take n (drop low bytes)) ≡ n = length-take-le n (drop low bytes) (omega (arith, length-drop low bytes)) in
    ext_get_or 0 part (take n (drop low bytes)) (size ∙ sym there) (λ k lt.
    let below : k < n = omega (arith, lt, size) in
    same k below ∙ sym (get_or-drop low bytes k 0) ∙ sym (get_or-take n (drop low bytes) k 0 below))
