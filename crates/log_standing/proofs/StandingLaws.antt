-- The names after each change.
use Rattle.std.proofs.Common.{◌≡◌, ℕ, zero, suc, ◌+◌, ◌<◌, Bool, true, false, List, length, get_or, take, Option, Some, None, refl, sym, ◌∙◌, ap, arith}
use Rattle.std.specs.Prelude.{nat_eq}
use Rattle.std.proofs.lemmas.Bool.{and_parts, and_from, eqb-true, eq-eqb, cond-true, cond-false}
use Rattle.std.proofs.lemmas.List.Sums.{count_by_more_yes, count_by_more_no}
use Rattle.log_entry.specs.declared.entry.EntryName.{EntryName}
use Rattle.log_standing.specs.declared.types.Copies.{Copies}
use Rattle.log_standing.specs.NameCounts.{StandingState, name_eq, copies_at, count_in, count_of, living, one_more, copies_with, nowhere, times_in, bit, Changes, SameCopies}

-- names that are equal
pub same_name : (k v j w : ℕ) → name_eq (k, v) (j, w) ≡ true → (k ≡ j) × (v ≡ w)
same_name k v j w is = let parts = and_parts (nat_eq k j) (nat_eq v w) is in (eqb-true k j parts.0, eqb-true v w parts.1)

pub name_same : (k v : ℕ) → name_eq (k, v) (k, v) ≡ true
name_same k v = and_from (nat_eq k k) (nat_eq v v) (eq-eqb k k refl) (eq-eqb v v refl)

one_more_living : (n : ℕ) → Some (one_more (living n)) ≡ living (n + 1)
one_more_living zero = refl
one_more_living (suc n) = let e : suc n + 1 ≡ suc (suc n) = omega arith in ap (λ (m : ℕ). Some (copies_with m false nowhere)) e ∙ sym (ap living e)

-- one name of a list more was added
pub entered : (s mid new : StandingState) (ns : List EntryName) (i : ℕ) (d : EntryName) → i < length ns → ((k v : ℕ) → copies_at s k v ≡ living (times_in (take i ns) k v)) → SameCopies s mid
    → (let n = get_or ns i d in Changes mid new n.key n.version (Some (one_more (copies_at mid n.key n.version)))) → (k v : ℕ) → copies_at new k v ≡ living (times_in (take (i + 1) ns) k v)
entered s mid new ns i d lt before same changes k v = let n = get_or ns i d in elim (name_eq (n.key, n.version) (k, v)) as (λ b. name_eq (n.key, n.version) (k, v) ≡ b → copies_at new k v ≡ living (times_in (take (i + 1) ns) k v)) [
  | true ↦ λ is.
      let e = same_name n.key n.version k v is in
      let was : copies_at mid n.key n.version ≡ living (times_in (take i ns) k v) = (λ t. copies_at mid (e.0 t) (e.1 t)) ∙ same k v ∙ before k v in
      let p : EntryName → Bool = λ m. name_eq (m.key, m.version) (k, v) in
      changes k v ∙ cond-true (name_eq (n.key, n.version) (k, v)) (Some (one_more (copies_at mid n.key n.version))) (copies_at mid k v) is ∙ ap (λ (o : Option Copies). Some (one_more o)) was ∙ one_more_living (times_in (take i ns) k v)
      ∙ sym (ap living (count_by_more_yes p ns i d lt is))
  | false ↦ λ isnt.
      let p : EntryName → Bool = λ m. name_eq (m.key, m.version) (k, v) in
      changes k v ∙ cond-false (name_eq (n.key, n.version) (k, v)) (Some (one_more (copies_at mid n.key n.version))) (copies_at mid k v) isnt ∙ same k v ∙ before k v ∙ sym (ap living (count_by_more_no p ns i d lt isnt))
] refl

count_more : (o : Option Copies) → count_in (Some (one_more o)) ≡ count_in o + 1
count_more None = refl
count_more (Some c) = refl

-- one copy more of a name
pub count_added : (old new : StandingState) (k v : ℕ) → Changes old new k v (Some (one_more (copies_at old k v))) → (j w : ℕ) → count_of new j w ≡ count_of old j w + bit (name_eq (k, v) (j, w))
count_added old new k v changes j w = elim (name_eq (k, v) (j, w)) as (λ b. name_eq (k, v) (j, w) ≡ b → count_of new j w ≡ count_of old j w + bit b) [
  | true ↦ λ is. let e = same_name k v j w is in ap count_in (changes j w ∙ cond-true (name_eq (k, v) (j, w)) (Some (one_more (copies_at old k v))) (copies_at old j w) is) ∙ count_more (copies_at old k v) ∙ (λ i. count_of old (e.0 i) (e.1 i) + 1)
  | false ↦ λ isnt. let zero_more : count_of old j w ≡ count_of old j w + 0 = omega arith in ap count_in (changes j w ∙ cond-false (name_eq (k, v) (j, w)) (Some (one_more (copies_at old k v))) (copies_at old j w) isnt) ∙ zero_more
] refl
