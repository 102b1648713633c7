-- What a search has counted of a chunk stays right.
use Rattle.std.proofs.Common.{◌≡◌, inl, inr, ⊎_elim, ℕ, zero, suc, ◌+◌, ◌≤◌, ◌==◌, ◌&&◌, not, Bool, true, false, cond, List, [], ◌∷◌, ◌++◌, length, take, Option, is_some, refl, sym, ◌∙◌, ap, subst, arith}
use Rattle.std.specs.List.{AllByRecursion, count_by, filter, sum_by}
use Rattle.std.proofs.lemmas.List.Sums.{sum_by-cons}
use Rattle.log_entry.specs.declared.entry.Entry.{Entry}
use Rattle.log_entry.specs.Spelling.{words_of}
use Rattle.store_image.specs.Facts.{In}
use Rattle.log_standing.specs.declared.types.Amount.{Amount}
use Rattle.pm_region.specs.State.{State}
use Rattle.core_log.specs.Log.{LogState}
use Rattle.core_log.specs.Walking.{entries_in}
use Rattle.log_standing.specs.Tallies.{TallyState}
use Rattle.log_standing.specs.NameCounts.{StandingState, count_of, floor_at, is_told, spot_of}
use Rattle.log_standing.specs.ChunkCounts.{is_named}
use Rattle.log_cleaner.specs.Copying.{awaits, left_to_copy, words_sum}
use Rattle.log_cleaner.specs.Floors.{HasFloors, IsClosed, IsCounted, IsFloor, IsFoundIn, IsSeen, Searches}
use Rattle.log_cleaner.specs.Tallied.{words_named}
use Rattle.log_cleaner.proofs.Batches.{filter_same}

-- what is so of every entry, and where one follows from the other
pub every : {X : Type 0} (P : X → Type 0) → ((x : X) → P x) → (xs : List X) → AllByRecursion P xs
every P each [] = tt
every P each (x ∷ xs) = (each x, every P each xs)

pub each_so : {X : Type 0} (P Q : X → Type 0) → ((x : X) → P x → Q x) → (xs : List X) → AllByRecursion P xs → AllByRecursion Q xs
each_so P Q so [] all = tt
each_so P Q so (x ∷ xs) all = (so x all.0, each_so P Q so xs all.1)

pub both_so : {X : Type 0} (P Q R : X → Type 0) → ((x : X) → P x → Q x → R x) → (xs : List X) → AllByRecursion P xs → AllByRecursion Q xs → AllByRecursion R xs
both_so P Q R so [] all also = tt
both_so P Q R so (x ∷ xs) all also = (so x all.0 also.0, both_so P Q R so xs all.1 also.1)

pub and_last : {X : Type 0} (P : X → Type 0) (xs : List X) (x : X) → AllByRecursion P xs → P x → AllByRecursion P (xs ++ x ∷ [])
and_last P [] x all is = (is, tt)
and_last P (y ∷ ys) x all is = (all.0, and_last P ys x all.1 is)

module _ (k v : ℕ) where
  one_or_none : (y : ℕ × Entry) (es : List (ℕ × Entry)) → count_by (is_named k v) (y ∷ es) ≡ cond (is_named k v y) 1 0 + count_by (is_named k v) es
  one_or_none y es = sum_by-cons (λ (x : ℕ × Entry). cond (is_named k v x) 1 0) y es

  its_words : (y : ℕ × Entry) (es : List (ℕ × Entry)) → words_named k v (y ∷ es) ≡ cond (is_named k v y) (length (words_of y.1)) 0 + words_named k v es
  its_words y es = sum_by-cons (λ (x : ℕ × Entry). cond (is_named k v x) (length (words_of x.1)) 0) y es

  -- no entry has the name
  pub none_named : (es : List (ℕ × Entry)) → AllByRecursion (λ (y : ℕ × Entry). is_named k v y ≡ true → ⊥) es → (count_by (is_named k v) es ≡ 0) × (words_named k v es ≡ 0)
  none_named [] none = (refl, refl)
  none_named (y ∷ es) none = by (is_named k v y) refl (none_named es none.1) where
    by : (b : Bool) → is_named k v y ≡ b → (count_by (is_named k v) es ≡ 0) × (words_named k v es ≡ 0) → (count_by (is_named k v) (y ∷ es) ≡ 0) × (words_named k v (y ∷ es) ≡ 0)
    by true is rest = absurd (none.0 is)
    by false isnt rest =
        let a = one_or_none y es in
        let b = its_words y es in
        let c = ap {B = ℕ} (λ (t : Bool). cond t 1 0) isnt in
        let d = ap {B = ℕ} (λ (t : Bool). cond t (length (words_of y.1)) 0) isnt in
        (omega (arith, a, c, rest.0), omega (arith, b, d, rest.1))

  -- one entry at most has the name, and so many words
  pub one_named : (w : ℕ) (es : List (ℕ × Entry)) → AllByRecursion (λ (y : ℕ × Entry). is_named k v y ≡ true → length (words_of y.1) ≡ w) es → count_by (is_named k v) es ≤ 1
      → (words_named k v es ≤ w) × (count_by (is_named k v) es ≡ 0 → words_named k v es ≡ 0)
  one_named w [] each once = (omega arith, λ none. refl)
  one_named w (y ∷ es) each once = by (is_named k v y) refl (one_named w es each.1) where
    by : (b : Bool) → is_named k v y ≡ b → (count_by (is_named k v) es ≤ 1 → (words_named k v es ≤ w) × (count_by (is_named k v) es ≡ 0 → words_named k v es ≡ 0)) → (words_named k v (y ∷ es) ≤ w) × (count_by (is_named k v) (y ∷ es) ≡ 0 → words_named k v (y ∷ es) ≡ 0)
    by true is later =
        let a = one_or_none y es in
        let b = its_words y es in
        let c = ap {B = ℕ} (λ (t : Bool). cond t 1 0) is in
        let d = ap {B = ℕ} (λ (t : Bool). cond t (length (words_of y.1)) 0) is in
        let none : count_by (is_named k v) es ≡ 0 = omega (arith, a, c, once) in
        let rest = (later (omega (arith, none))).1 none in
        let e = each.0 is in
        (omega (arith, b, d, rest, e), λ no. absurd (omega (arith, a, c, no)))
    by false isnt later =
        let a = one_or_none y es in
        let b = its_words y es in
        let c = ap {B = ℕ} (λ (t : Bool). cond t 1 0) isnt in
        let d = ap {B = ℕ} (λ (t : Bool). cond t (length (words_of y.1)) 0) isnt in
        let rest = later (omega (arith, a, c, once)) in
        (let r = rest.0 in omega (arith, b, d, r), λ none. (let r = rest.1 (omega (arith, a, c, none)) in omega (arith, b, d, r)))

-- the spots of these entries are what they were
abbrev pub SameSpot : StandingState → StandingState → ℕ × Entry → Type 0
SameSpot old new y = spot_of new y.1.key y.1.version ≡ spot_of old y.1.key y.1.version

-- of the first entries
pub all_taken : {X : Type 0} (P : X → Type 0) (n : ℕ) (xs : List X) → AllByRecursion P xs → AllByRecursion P (take n xs)
all_taken P zero xs all = tt
all_taken P (suc n) [] all = tt
all_taken P (suc n) (x ∷ xs) all = (all.0, all_taken P n xs all.1)

pub in_taken : {X : Type 0} (n : ℕ) (xs : List X) (y : X) → In y (take n xs) → In y xs
in_taken zero xs y is = absurd is
in_taken (suc n) [] y is = absurd is
in_taken (suc n) (x ∷ xs) y is = ⊎_elim (λ e. inl e) (λ later. inr (in_taken n xs y later)) is

abbrev pub seen_kept : (old new : StandingState) (j : ℕ) (es : List (ℕ × Entry)) → ((k v : ℕ) → is_told new k v ≡ false → is_told old k v ≡ false) → AllByRecursion (SameSpot old new) es → IsSeen old j es → IsSeen new j es
seen_kept old new j es still spots was = record {
  many = was.many;
  seen = record {
    found = both_so (SameSpot old new) (IsFoundIn old j) (IsFoundIn new j) (λ y same found untold. same ∙ found (still y.1.key y.1.version untold)) (take was.many es) (all_taken (SameSpot old new) was.many es spots) was.seen.found;
    once = λ k v untold. was.seen.once k v (still k v untold);
  };
}

-- what is left of those that pass a test passes it
passes : {X : Type 0} (f : X → Bool) (x : X) (xs : List X) → In x (filter f xs) → f x ≡ true
passes f x [] is = absurd is
passes {X = X} f x (y ∷ ys) is = by (f y) refl (passes f x ys) is where
  by : (b : Bool) → f y ≡ b → (In x (filter f ys) → f x ≡ true) → In x (cond b (y ∷ filter f ys) (filter f ys)) → f x ≡ true
  by true on later here = ⊎_elim (λ e. ap f e ∙ on) later here
  by false off later here = later here

same_rest : {X : Type 0} (x : X) (xs ys : List X) → x ∷ xs ≡ x ∷ ys → xs ≡ ys
same_rest x xs ys e = cc e

-- where of a list the same pass two tests, so do of its first elements
pub taken_alike : {X : Type 0} (f g : X → Bool) (xs : List X) → filter f xs ≡ filter g xs → (n : ℕ) → filter f (take n xs) ≡ filter g (take n xs)
taken_alike f g xs same zero = refl
taken_alike f g [] same (suc n) = refl
taken_alike {X = X} f g (x ∷ xs) same (suc n) = by (f x) refl (g x) refl (λ e. taken_alike f g xs e n) same where
  by : (b : Bool) → f x ≡ b → (d : Bool) → g x ≡ d → (filter f xs ≡ filter g xs → filter f (take n xs) ≡ filter g (take n xs)) → cond b (x ∷ filter f xs) (filter f xs) ≡ cond d (x ∷ filter g xs) (filter g xs) → cond b (x ∷ filter f (take n xs)) (filter f (take n xs)) ≡ cond d (x ∷ filter g (take n xs)) (filter g (take n xs))
  by true on true also rest e = ap (λ (l : List X). x ∷ l) (rest (same_rest x (filter f xs) (filter g xs) e))
  by true on false off rest e = absurd (let is = passes g x xs (subst (λ (l : List X). In x l) e (inl refl)) in let both : true ≡ false = sym is ∙ off in cc both)
  by false off true on rest e = absurd (let is = passes f x xs (subst (λ (l : List X). In x l) (sym e) (inl refl)) in let both : true ≡ false = sym is ∙ off in cc both)
  by false off false also rest e = rest e

pub floor_kept : (a : Amount) (old new : StandingState) (es : List (ℕ × Entry)) → left_to_copy new es ≡ left_to_copy old es → {n : ℕ} → IsFloor a old n es → IsFloor a new n es
floor_kept a old new es left {n} floor =
    let same = taken_alike (awaits new) (awaits old) es left n in
    let long = ap (λ (l : List (ℕ × Entry)). length l) same in
    let words = ap words_sum same in
    let e = floor.entries in
    let w = floor.words in
    record { entries = omega (arith, long, e); words = omega (arith, words, w) }

-- by equal counts and deaths
pub left_alike : (old new : StandingState) → ((k v : ℕ) → count_of new k v ≡ count_of old k v) → ((k v : ℕ) → is_told new k v ≡ is_told old k v) → (es : List (ℕ × Entry)) → left_to_copy new es ≡ left_to_copy old es
left_alike old new counts told es = filter_same (awaits new) (awaits old) es (λ y i. (counts y.1.key y.1.version i) == 1 && not (told y.1.key y.1.version i))

pub left_searched : (old new : StandingState) → Searches old new → (es : List (ℕ × Entry)) → left_to_copy new es ≡ left_to_copy old es
left_searched old new same = left_alike old new same.counts same.told

pub searches_itself : (st : StandingState) → Searches st st
searches_itself st = record { counts = λ k v. refl; told = λ k v. refl; names = refl; room = refl; settled = refl; tally = refl }

pub searches_both : (old mid new : StandingState) → Searches old mid → Searches mid new → Searches old new
searches_both old mid new a b = record {
  counts = λ k v. b.counts k v ∙ a.counts k v;
  told = λ k v. b.told k v ∙ a.told k v;
  names = b.names ∙ a.names;
  room = b.room ∙ a.room;
  settled = b.settled ∙ a.settled;
  tally = b.tally ∙ a.tally;
}

pub all_in : {X : Type 0} (P : X → Type 0) (xs : List X) → ((x : X) → In x xs → P x) → AllByRecursion P xs
all_in P [] each = tt
all_in P (x ∷ xs) each = (each x (inl refl), all_in P xs (λ y is. each y (inr is)))

pub sum_ones : (xs : List (ℕ × Entry)) → sum_by (λ (x : ℕ × Entry). 1) xs ≡ length xs
sum_ones [] = refl
sum_ones (x ∷ xs) = let a = sum_by-cons (λ (y : ℕ × Entry). 1) x xs in let rest = sum_ones xs in omega (arith, a, rest)

-- of more that pass there is more
pub more_sums : {X : Type 0} (f g : X → Bool) (xs : List X) → AllByRecursion (λ (x : X). f x ≡ true → g x ≡ true) xs → (w : X → ℕ) → sum_by w (filter f xs) ≤ sum_by w (filter g xs)
more_sums {X = X} f g [] all w = omega arith
more_sums {X = X} f g (x ∷ xs) all w =
    let rest = more_sums f g xs all.1 w in
    let a = sums (f x) (filter f xs) in
    let c = sums (g x) (filter g xs) in
    let e = one (f x) (g x) all.0 in
    omega (arith, rest, a, c, e) where
      sums : (b : Bool) (ys : List X) → sum_by w (cond b (x ∷ ys) ys) ≡ cond b (w x) 0 + sum_by w ys
      sums true ys = sum_by-cons w x ys
      sums false ys = omega arith

      one : (b d : Bool) → (b ≡ true → d ≡ true) → cond {A = ℕ} b (w x) 0 ≤ cond {A = ℕ} d (w x) 0
      one true true so = omega arith
      one true false so = absurd (cc (so refl))
      one false d so = omega arith

-- where no chunk was counted
pub none_floors : (s : State) (log : LogState) (st : StandingState) → ((j : ℕ) → is_some (floor_at st j) ≡ true → ⊥) → HasFloors s log st
none_floors s log st none = record { closed = λ j some. absurd (none j some); counted = λ j a is. absurd (none j (ap is_some is)) }

-- whatever is counted of the chunk that is copied
pub floors_tally : (s : State) (log : LogState) (st : StandingState) (t : Option TallyState) → HasFloors s log st → HasFloors s log (record st { tally = t })
floors_tally s log st t F = record {
  closed = F.closed;
  counted = λ j a is. (let was = F.counted j a is in record { seen = record { many = was.seen.many; seen = record { found = was.seen.seen.found; once = was.seen.seen.once } }; floor = record { entries = was.floor.entries; words = was.floor.words } });
}

-- in a log whose closed chunks stay, and have the same entries
pub floors_moved : (s t : State) (log log' : LogState) (st : StandingState) → ((j : ℕ) → IsClosed log j → IsClosed log' j × (entries_in t log' j ≡ entries_in s log j)) → HasFloors s log st → HasFloors t log' st
floors_moved s t log log' st stays F = record {
  closed = λ j some. (stays j (F.closed j some)).0;
  counted = λ j a is. subst (IsCounted st j a) (sym (stays j (F.closed j (ap is_some is))).1) (F.counted j a is);
}
