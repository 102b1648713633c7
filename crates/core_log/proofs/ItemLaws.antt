-- Words that spell batches are entries and single zero words, one after another.
use Rattle.std.proofs.Common.{◌≡◌, ◌≢◌, ⊎_elim, ℕ, zero, suc, ◌+◌, ◌-◌, ◌≤◌, ◌<◌, nat_le, List, [], ◌∷◌, ◌++◌, length, map, drop, get_or, replicate, Option, Some, None, refl, sym, ◌∙◌, ap, arith, append_assoc, length-append}
use Rattle.std.specs.List.{flat_map, AllByRecursion}
use Rattle.std.proofs.lemmas.Bool.{cond-false, cases_eq}
use Rattle.std.proofs.lemmas.Bool.Decides.{nat_tests}
use Rattle.log_entry.specs.declared.entry.Body.{Body}
use Rattle.log_entry.specs.declared.entry.Body.TheVariants.{Pointer, Embedded, Tombstone}
use Rattle.log_entry.specs.declared.entry.Entry.{Entry}
use Rattle.log_entry.specs.Spelling.{words_of, body_words, HasSpelling}
use Rattle.log_entry.specs.Batches.{padding, batch_words, IsBatch}
use Rattle.log_entry.proofs.Clients.{entries_from, batches_from, length-batch}
use Rattle.core_log.specs.Walking.{next_entry, IsBetween}

-- an entry, or a word of padding
abbrev pub item_words : Option Entry → List ℕ
item_words None = 0 ∷ []
item_words (Some e) = words_of e

abbrev pub spelled_by : List (Option Entry) → List ℕ
spelled_by items = flat_map item_words items

abbrev pub placed_items : ℕ → List (Option Entry) → List (ℕ × Entry)
placed_items p [] = []
placed_items p (None ∷ is) = placed_items (p + 1) is
placed_items p (Some e ∷ is) = (p, e) ∷ placed_items (p + length (words_of e)) is

abbrev pub HaveSpelling : List (Option Entry) → Type 0
HaveSpelling [] = Unit {0}
HaveSpelling (None ∷ is) = HaveSpelling is
HaveSpelling (Some e ∷ is) = HasSpelling e × HaveSpelling is

-- the first word of an entry isn't 0
first_of_body : (k v : ℕ) (b : Body) → (1 < length (body_words k v b)) × (get_or (body_words k v b) 0 0 ≢ 0)
first_of_body k v (Pointer p) = (omega arith, λ e. omega (arith, e))
first_of_body k v (Embedded bytes) = (omega arith, λ e. omega (arith, e))
first_of_body k v Tombstone = (omega arith, λ e. omega (arith, e))

pub first_is : (e : Entry) → (1 < length (words_of e)) × (get_or (words_of e) 0 0 ≢ 0)
first_is e = first_of_body e.key e.version e.body

front : (xs ys : List ℕ) → 0 < length xs → get_or (xs ++ ys) 0 0 ≡ get_or xs 0 0
front [] ys lt = absurd (omega (arith, lt))
front (x ∷ xs) ys lt = refl

pub drop_behind : (xs ys : List ℕ) (n m : ℕ) → n ≡ length xs + m → drop n (xs ++ ys) ≡ drop m ys
drop_behind [] ys n m e = let same : n ≡ m = omega (arith, e) in ap (λ (k : ℕ). drop k ys) same
drop_behind (x ∷ xs) ys n m e = let same : n ≡ suc (length xs + m) = omega (arith, e) in ap (λ (k : ℕ). drop k (x ∷ (xs ++ ys))) same ∙ drop_behind xs ys (length xs + m) m refl

-- a place between entries is reached
pub record Reached (items : List (Option Entry)) (p place : ℕ) : Type 0 where
  pub rest : List (Option Entry)
  pub words : drop (place - p) (spelled_by items) ≡ spelled_by rest
  pub same : next_entry place (placed_items p items) ≡ next_entry place (placed_items place rest)
  pub spelling : HaveSpelling rest

here : (items : List (Option Entry)) (p place : ℕ) → HaveSpelling items → p ≡ place → Reached items p place
here items p place has is = let none : place - p ≡ 0 = omega (arith, is) in record {
  rest = items;
  words = ap (λ (n : ℕ). drop n (spelled_by items)) none;
  same = ap (λ (n : ℕ). next_entry place (placed_items n items)) is;
  spelling = has;
}

pub reaches : (items : List (Option Entry)) (p place : ℕ) → HaveSpelling items → IsBetween place (placed_items p items) → p ≤ place → place ≤ p + length (spelled_by items) → Reached items p place
reaches [] p place has between low high = here [] p place has (omega (arith, low, high))
reaches (None ∷ is) p place has between low high = ⊎_elim
    (λ at. here (None ∷ is) p place has at)
    (λ ne.
    let r = reaches is (p + 1) place has between (omega (arith, low, ne)) (omega (arith, high)) in
    record { rest = r.rest; words = drop_behind (0 ∷ []) (spelled_by is) (place - p) (place - (p + 1)) (omega (arith, low, ne)) ∙ r.words; same = r.same; spelling = r.spelling })
    (cases_eq p place)
reaches (Some e ∷ is) p place has between low high = ⊎_elim
    (λ at. here (Some e ∷ is) p place has at)
    (λ ne.
    let n = length (words_of e) in
    let past : p + n ≤ place = ⊎_elim (λ le. absurd (omega (arith, le, low, ne))) (λ le. le) between.0 in
    let long = length-append (words_of e) (spelled_by is) in
    let r = reaches is (p + n) place has.1 between.1 past (omega (arith, high, long)) in
    record {
      rest = r.rest;
      words = drop_behind (words_of e) (spelled_by is) (place - p) (place - (p + n)) (omega (arith, past)) ∙ r.words;
      same = cond-false (nat_le place p) (Some (p, e)) (next_entry place (placed_items (p + n) is)) (grind (arith, nat_tests, low, ne)) ∙ r.same;
      spelling = r.spelling;
    })
    (cases_eq p place)

-- what stands behind so many zeros
pub no_more : (items : List (Option Entry)) (p : ℕ) → ((k : ℕ) → k < length (spelled_by items) → get_or (spelled_by items) k 0 ≡ 0) → placed_items p items ≡ []
no_more [] p zeros = refl
no_more (None ∷ is) p zeros = no_more is (p + 1) (λ k lt. zeros (suc k) (omega (arith, lt)))
no_more (Some e ∷ is) p zeros =
    let first = first_is e in
    let long = length-append (words_of e) (spelled_by is) in
    absurd (first.1 (sym (front (words_of e) (spelled_by is) (omega (arith, first.0))) ∙ zeros 0 (omega (arith, first.0, long))))

pub record Stands (items : List (Option Entry)) (p m : ℕ) : Type 0 where
  pub entry : Entry
  pub spelling : HasSpelling entry
  pub behind : List (ℕ × Entry)
  pub placed : placed_items p items ≡ (p + m, entry) ∷ behind
  pub rest : List ℕ
  pub words : drop m (spelled_by items) ≡ words_of entry ++ rest

pub stands : (items : List (Option Entry)) (p m : ℕ) → HaveSpelling items → ((k : ℕ) → k < m → get_or (spelled_by items) k 0 ≡ 0) → get_or (spelled_by items) m 0 ≢ 0 → Stands items p m
stands [] p m has zeros some = absurd (some refl)
stands (None ∷ is) p zero has zeros some = absurd (some refl)
stands (None ∷ is) p (suc m) has zeros some =
    let s = stands is (p + 1) m has (λ k lt. zeros (suc k) (omega (arith, lt))) some in
    let at : p + 1 + m ≡ p + suc m = omega arith in
    record { entry = s.entry; spelling = s.spelling; behind = s.behind; placed = s.placed ∙ ap (λ (n : ℕ). (n, s.entry) ∷ s.behind) at; rest = s.rest; words = s.words }
stands (Some e ∷ is) p zero has zeros some =
    let at : p ≡ p + 0 = omega arith in
    record { entry = e; spelling = has.0; behind = placed_items (p + length (words_of e)) is; placed = ap (λ (n : ℕ). (n, e) ∷ placed_items (p + length (words_of e)) is) at; rest = spelled_by is; words = refl }
stands (Some e ∷ is) p (suc m) has zeros some =
    let first = first_is e in
    absurd (first.1 (sym (front (words_of e) (spelled_by is) (omega (arith, first.0))) ∙ zeros 0 (omega arith)))

-- batches as items
abbrev pub batch_items : List Entry → List (Option Entry)
batch_items es = map Some es ++ replicate (padding (length (flat_map words_of es))) None

abbrev pub items_of : List (List Entry) → List (Option Entry)
items_of bs = flat_map batch_items bs

words_both : (xs ys : List (Option Entry)) → spelled_by (xs ++ ys) ≡ spelled_by xs ++ spelled_by ys
words_both [] ys = refl
words_both (x ∷ xs) ys = ap (λ (l : List ℕ). item_words x ++ l) (words_both xs ys) ∙ sym (append_assoc (item_words x) (spelled_by xs) (spelled_by ys))

words_some : (es : List Entry) → spelled_by (map Some es) ≡ flat_map words_of es
words_some [] = refl
words_some (e ∷ es) = ap (λ (l : List ℕ). words_of e ++ l) (words_some es)

words_zeros : (n : ℕ) → spelled_by (replicate n None) ≡ replicate n 0
words_zeros zero = refl
words_zeros (suc n) = ap (λ (l : List ℕ). 0 ∷ l) (words_zeros n)

batch_spelled : (es : List Entry) → spelled_by (batch_items es) ≡ batch_words es
batch_spelled es =
    let n = padding (length (flat_map words_of es)) in
    words_both (map Some es) (replicate n None) ∙ (λ i. words_some es i ++ words_zeros n i)

pub items_spelled : (bs : List (List Entry)) → spelled_by (items_of bs) ≡ flat_map batch_words bs
items_spelled [] = refl
items_spelled (b ∷ bs) = words_both (batch_items b) (items_of bs) ∙ (λ i. batch_spelled b i ++ items_spelled bs i)

placed_some : (es : List Entry) (p : ℕ) (rest : List (Option Entry)) → placed_items p (map Some es ++ rest) ≡ entries_from p es ++ placed_items (p + length (flat_map words_of es)) rest
placed_some [] p rest = let at : p ≡ p + 0 = omega arith in ap (λ (n : ℕ). placed_items n rest) at
placed_some (e ∷ es) p rest =
    let long = length-append (words_of e) (flat_map words_of es) in
    let at : p + length (words_of e) + length (flat_map words_of es) ≡ p + length (words_of e ++ flat_map words_of es) = omega (arith, long) in
    ap (λ (l : List (ℕ × Entry)). (p, e) ∷ l) (placed_some es (p + length (words_of e)) rest ∙ ap (λ (n : ℕ). entries_from (p + length (words_of e)) es ++ placed_items n rest) at)

placed_zeros : (n p : ℕ) (rest : List (Option Entry)) → placed_items p (replicate n None ++ rest) ≡ placed_items (p + n) rest
placed_zeros zero p rest = let at : p ≡ p + 0 = omega arith in ap (λ (k : ℕ). placed_items k rest) at
placed_zeros (suc n) p rest = let at : p + 1 + n ≡ p + suc n = omega arith in placed_zeros n (p + 1) rest ∙ ap (λ (k : ℕ). placed_items k rest) at

pub items_placed : (bs : List (List Entry)) (p : ℕ) → placed_items p (items_of bs) ≡ batches_from p bs
items_placed [] p = refl
items_placed (b ∷ bs) p =
    let words = length (flat_map words_of b) in
    let n = padding words in
    let long = length-batch b in
    let at : p + words + n ≡ p + length (batch_words b) = omega (arith, long) in
    ap (placed_items p) (append_assoc (map Some b) (replicate n None) (items_of bs))
    ∙ placed_some b p (replicate n None ++ items_of bs)
    ∙ ap (λ (l : List (ℕ × Entry)). entries_from p b ++ l) (placed_zeros n (p + words) (items_of bs) ∙ ap (λ (k : ℕ). placed_items k (items_of bs)) at ∙ items_placed bs (p + length (batch_words b)))

have_both : (xs ys : List (Option Entry)) → HaveSpelling xs → HaveSpelling ys → HaveSpelling (xs ++ ys)
have_both [] ys a b = b
have_both (None ∷ xs) ys a b = have_both xs ys a b
have_both (Some e ∷ xs) ys a b = (a.0, have_both xs ys a.1 b)

have_some : (es : List Entry) → AllByRecursion HasSpelling es → HaveSpelling (map Some es)
have_some [] all = tt
have_some (e ∷ es) all = (all.0, have_some es all.1)

have_zeros : (n : ℕ) → HaveSpelling (replicate n None)
have_zeros zero = tt
have_zeros (suc n) = have_zeros n

pub items_have : (bs : List (List Entry)) → AllByRecursion IsBatch bs → HaveSpelling (items_of bs)
items_have [] all = tt
items_have (b ∷ bs) all = have_both (batch_items b) (items_of bs) (have_both (map Some b) (replicate (padding (length (flat_map words_of b))) None) (have_some b all.0.each) (have_zeros (padding (length (flat_map words_of b))))) (items_have bs all.1)
