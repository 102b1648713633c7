-- What is known of the names in the own log, after each change of them.
use Rattle.std.proofs.Common.{◌≡◌, ◌⊎◌, inl, inr, ⊎_elim, ℕ, zero, suc, ◌<◌, Bool, true, false, List, [], ◌∷◌, ◌++◌, Option, refl, sym, ◌∙◌, ap, arith}
use Rattle.std.specs.Prelude.{is_some}
use Rattle.log_entry.specs.declared.entry.Entry.{Entry}
use Rattle.core_index.specs.Slots as slots
use Rattle.group_laws.proofs.Clients.{In-append_left, In-append_right, In-append}
use Rattle.log_standing.specs.NameCounts.{StandingState, name_eq, count_in, count_of}
use Rattle.log_standing.specs.NameCounts as counts
use Rattle.log_standing.proofs.Clients.{same_name, name_same}
use Rattle.log_cleaner.proofs.TallyLaws.{keeps_both, keeps_same}
use Rattle.core_worker.specs.StandingTies.{IsNamedIn, named_in, KnowsDead, SameNames, HasCopies, HearsOwn, AddsNames}
use Rattle.core_worker.specs.LogNames.{KnowsNames}
use Rattle.core_worker.proofs.NamesAdded.{one_if, named_more}

-- nothing but places was reserved
pub knows_same : (m : ℕ) (kept : List Entry) (present : ℕ → ℕ → Option ℕ) (told dead : ℕ → ℕ → Bool) (old new : StandingState) → SameNames old new → KnowsNames m kept present told dead old → KnowsNames m kept present told dead new
knows_same m kept present told dead old new same K = record {
  stands = λ k n some. K.stands k n (let e = ap count_in (same.copies k n) in omega (arith, e, some));
  all = λ k n is. (let e = ap count_in (same.copies k n) in let some = K.all k n is in omega (arith, e, some));
  deaths = λ k n. ap counts.told_in (same.copies k n) ∙ K.deaths k n;
  buried = K.buried;
  own = K.own;
  heard = K.heard;
}

pub dead_same : (m : ℕ) (kept : List Entry) (present : ℕ → ℕ → Option ℕ) (told dead : ℕ → ℕ → Bool) (old new : StandingState) → SameNames old new → KnowsDead m kept present told dead old → KnowsDead m kept present told dead new
dead_same m kept present told dead old new same K = record {
  deaths = λ k n t. K.deaths k n (ap counts.told_in (sym (same.copies k n)) ∙ t);
  buried = K.buried;
  own = K.own;
  heard = K.heard;
}

-- names are counted where an entry has them
named_some : (es : List Entry) (k n : ℕ) → 0 < named_in es k n → IsNamedIn es k n
named_some [] k n some = absurd (omega (arith, some))
named_some (e ∷ es) k n some = by (name_eq (e.key, e.version) (k, n)) refl (λ more. named_some es k n more) where
  by : (b : Bool) → name_eq (e.key, e.version) (k, n) ≡ b → (0 < named_in es k n → IsNamedIn es k n) → IsNamedIn (e ∷ es) k n
  by true is again = let same = same_name e.key e.version k n is in (e, inl refl, same.0, same.1)
  by false isnt again =
      let more = named_more e es k n in
      let none = ap one_if isnt in
      let rest = again (omega (arith, more, none, some)) in
      (rest.0, inr rest.1, rest.2, rest.3)

some_named : (es : List Entry) (k n : ℕ) → IsNamedIn es k n → 0 < named_in es k n
some_named [] k n x = absurd x.1
some_named (e ∷ es) k n x =
    let more = named_more e es k n in
    ⊎_elim
    (λ same.
    let yes : name_eq (e.key, e.version) (k, n) ≡ true = (λ i. name_eq ((ap (λ (d : Entry). d.key) (sym same) ∙ x.2) i, (ap (λ (d : Entry). d.version) (sym same) ∙ x.3) i) (k, n)) ∙ name_same k n in
    let one = ap one_if yes in omega (arith, more, one))
    (λ rest. let some = some_named es k n (x.0, rest, x.2, x.3) in omega (arith, more, some))
    x.1

some_or_none : (a : ℕ) → (0 < a) ⊎ (a ≡ 0)
some_or_none zero = inr refl
some_or_none (suc a) = inl (omega arith)

-- a batch is certain
pub knows_added : (m : ℕ) (kept es : List Entry) (present : ℕ → ℕ → Option ℕ) (told dead : ℕ → ℕ → Bool) (old new : StandingState) → AddsNames old new es → KnowsNames m kept present told dead old → KnowsNames m (kept ++ es) present told dead new
knows_added m kept es present told dead old new A K = record {
  stands = λ k n some. ⊎_elim
      (λ before. first k n (K.stands k n before))
      (λ none. second k n (named_some es k n (let c = A.counts k n in omega (arith, c, none, some))))
      (some_or_none (count_of old k n));
  all = λ k n is. ⊎_elim
      (λ left. let c = A.counts k n in let some = K.all k n (is.0, left, is.2, is.3) in omega (arith, c, some))
      (λ right. let c = A.counts k n in let some = some_named es k n (is.0, right, is.2, is.3) in omega (arith, c, some))
      (In-append is.0 kept es is.1);
  deaths = λ k n. A.told k n ∙ K.deaths k n;
  buried = λ k n dies. first k n (K.buried k n dies);
  own = λ k n here. first k n (K.own k n here);
  heard = K.heard;
} where
  first : (k n : ℕ) → IsNamedIn kept k n → IsNamedIn (kept ++ es) k n
  first k n x = (x.0, In-append_left x.0 kept es x.1, x.2, x.3)

  second : (k n : ℕ) → IsNamedIn es k n → IsNamedIn (kept ++ es) k n
  second k n x = (x.0, In-append_right x.0 kept es x.1, x.2, x.3)

pub dead_added : (m : ℕ) (kept es : List Entry) (present : ℕ → ℕ → Option ℕ) (told dead : ℕ → ℕ → Bool) (old new : StandingState) → AddsNames old new es → KnowsDead m kept present told dead old → KnowsDead m (kept ++ es) present told dead new
dead_added m kept es present told dead old new A K = record {
  deaths = λ k n t. K.deaths k n (sym (A.told k n) ∙ t);
  buried = λ k n dies. first k n (K.buried k n dies);
  own = λ k n here. first k n (K.own k n here);
  heard = K.heard;
} where
  first : (k n : ℕ) → IsNamedIn kept k n → IsNamedIn (kept ++ es) k n
  first k n x = (x.0, In-append_left x.0 kept es x.1, x.2, x.3)

-- what was heard, after places were reserved
pub heard_later : (home : ℕ) (es : List (ℕ × slots.Place)) (old mid new : StandingState) → SameNames old mid → HearsOwn home es mid new → HearsOwn home es old new
heard_later home es old mid new same h = record {
  counts = λ k n. h.counts k n ∙ ap count_in (same.copies k n);
  told = λ k n t. ⊎_elim (λ before. inl (ap counts.told_in (sym (same.copies k n)) ∙ before)) (λ a. inr a) (h.told k n t);
  all = λ k n some which. h.all k n (let e = ap count_in (same.copies k n) in omega (arith, e, some)) (⊎_elim (λ before. inl (ap counts.told_in (same.copies k n) ∙ before)) (λ a. inr a) which);
  settled = h.settled ∙ same.settled;
  room = (let a = h.room in let b = same.room in omega (arith, a, b));
  tally = keeps_both old mid new (keeps_same old mid same.copies same.tally same.floors) h.tally;
}

-- and of what stood before there was a copy
pub copies_before : (old mid : StandingState) → SameNames old mid → HasCopies mid → HasCopies old
copies_before old mid same has k n some = (let there = has k n (ap is_some (same.copies k n) ∙ some) in let e = ap count_in (same.copies k n) in omega (arith, there, e))

-- places were reserved after names were added
pub adds_same : (old mid new : StandingState) (es : List Entry) → AddsNames old mid es → SameNames mid new → AddsNames old new es
adds_same old mid new es A same = record {
  counts = λ k n. ap count_in (same.copies k n) ∙ A.counts k n;
  told = λ k n. ap counts.told_in (same.copies k n) ∙ A.told k n;
  settled = same.settled ∙ A.settled;
  spots = λ k n none. ap counts.spot_in (same.copies k n) ∙ A.spots k n none;
  floors = same.floors ∙ A.floors;
}
