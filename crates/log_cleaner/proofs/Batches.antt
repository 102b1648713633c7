-- A batch of copies, collected entry by entry.
use Rattle.std.proofs.Common.{◌≡◌, ◌⊎◌, inl, inr, ⊎_elim, ℕ, zero, suc, ◌+◌, ◌-◌, ◌<◌, ◌==◌, ◌&&◌, ◌||◌, not, Bool, true, false, cond, List, [], ◌∷◌, ◌++◌, length, take, Option, Some, None, refl, sym, ◌∙◌, ap, subst, arith, append_assoc, append-nil, length-append}
use Rattle.std.specs.List.{filter, flat_map, AllByRecursion}
use Rattle.std.proofs.lemmas.Bool.{cond-true, cond-false, eqb-true, and_parts}
use Rattle.pm_region.specs.State.{State}
use Rattle.pm_region.specs.Words.{lasts}
use Rattle.log_entry.specs.declared.entry.Entry.{Entry}
use Rattle.log_entry.specs.Spelling.{words_of, HasSpelling}
use Rattle.log_entry.specs.Words.{words_from}
use Rattle.log_entry.specs.Buffer.{Buffer}
use Rattle.core_log.specs.declared.types.Peek.{Peek}
use Rattle.core_log.specs.Log.{LogState, HoldsEntries}
use Rattle.core_log.specs.Walking.{entries_in, behind, IsFound}
use Rattle.log_standing.specs.declared.types.Copies.{Copies}
use Rattle.log_standing.specs.NameCounts.{StandingState, name_eq, copies_at, count_in, told_in, count_of, one_more, Changes, SameCopies, wants}
use Rattle.log_standing.specs.ChunkCounts.{is_named, has_name}
use Rattle.log_cleaner.specs.Copying.{awaits, left_to_copy}
use Rattle.log_cleaner.specs.CopyBatch.{firsts, next_batch, entries_of, Adds, Collected}
use Rattle.log_standing.proofs.Clients.{same_name, name_same, has_push}

-- names are equal either way
pub name_sym : (k v j w : ℕ) → name_eq (k, v) (j, w) ≡ name_eq (j, w) (k, v)
name_sym k v j w = elim (name_eq (k, v) (j, w)) as (λ b. name_eq (k, v) (j, w) ≡ b → b ≡ name_eq (j, w) (k, v)) [
  | true ↦ λ is. let e = same_name k v j w is in sym ((λ i. name_eq (j, w) (e.0 i, e.1 i)) ∙ name_same j w)
  | false ↦ λ isnt. elim (name_eq (j, w) (k, v)) as (λ b. name_eq (j, w) (k, v) ≡ b → false ≡ b) [
    | true ↦ λ is. let e = same_name j w k v is in absurd (cc (sym isnt ∙ (λ i. name_eq (k, v) (e.0 i, e.1 i)) ∙ name_same k v))
    | false ↦ λ same. refl
  ] refl
] refl

and_sym : (a b : Bool) → (a && b) ≡ (b && a)
and_sym true true = refl
and_sym true false = refl
and_sym false true = refl
and_sym false false = refl

and_self : (a : Bool) → (a && a) ≡ a
and_self true = refl
and_self false = refl

module _ {X : Type 0} where
  pub filter_same : (p q : X → Bool) (xs : List X) → ((x : X) → p x ≡ q x) → filter p xs ≡ filter q xs
  filter_same p q [] same = refl
  filter_same p q (x ∷ xs) same = λ i. cond (same x i) (x ∷ filter_same p q xs same i) (filter_same p q xs same i)

  pub filter_both : (p q : X → Bool) (xs : List X) → filter (λ x. p x && q x) xs ≡ filter q (filter p xs)
  filter_both p q [] = refl
  filter_both p q (x ∷ xs) = by (p x) refl (filter_both p q xs)
    where
      by : (a : Bool) → p x ≡ a → filter (λ x. p x && q x) xs ≡ filter q (filter p xs) → filter (λ x. p x && q x) (x ∷ xs) ≡ filter q (filter p (x ∷ xs))
      by true e rest = ap (λ (b : Bool). cond (b && q x) (x ∷ filter (λ x. p x && q x) xs) (filter (λ x. p x && q x) xs)) e
          ∙ ap (λ (l : List X). cond (q x) (x ∷ l) l) rest ∙ sym (ap (filter q) (cond-true (p x) (x ∷ filter p xs) (filter p xs) e))
      by false e rest = ap (λ (b : Bool). cond (b && q x) (x ∷ filter (λ x. p x && q x) xs) (filter (λ x. p x && q x) xs)) e
          ∙ rest ∙ sym (ap (filter q) (cond-false (p x) (x ∷ filter p xs) (filter p xs) e))

  pub filter_swap : (p q : X → Bool) (xs : List X) → filter p (filter q xs) ≡ filter q (filter p xs)
  filter_swap p q xs = sym (filter_both q p xs) ∙ filter_same (λ x. q x && p x) (λ x. p x && q x) xs (λ x. and_sym (q x) (p x)) ∙ filter_both p q xs

  filter_twice : (p : X → Bool) (xs : List X) → filter p (filter p xs) ≡ filter p xs
  filter_twice p xs = sym (filter_both p p xs) ∙ filter_same (λ x. p x && p x) p xs (λ x. and_self (p x))

-- an entry of another name
abbrev pub differs : ℕ → ℕ → ℕ × Entry → Bool
differs k v y = not (is_named k v y)

not_false : (b : Bool) → not b ≡ false → b ≡ true
not_false true e = refl
not_false false e = absurd (cc e)

firsts_filter : (k v : ℕ) (xs : List (ℕ × Entry)) → firsts (filter (differs k v) xs) ≡ filter (differs k v) (firsts xs)
firsts_filter k v [] = refl
firsts_filter k v (x ∷ xs) = by (differs k v x) refl (firsts_filter k v xs)
  where
    by : (b : Bool) → differs k v x ≡ b → firsts (filter (differs k v) xs) ≡ filter (differs k v) (firsts xs) → firsts (filter (differs k v) (x ∷ xs)) ≡ filter (differs k v) (x ∷ filter (differs x.1.key x.1.version) (firsts xs))
    by true e rest = ap firsts (cond-true (differs k v x) (x ∷ filter (differs k v) xs) (filter (differs k v) xs) e)
        ∙ ap (λ (l : List (ℕ × Entry)). x ∷ filter (differs x.1.key x.1.version) l) rest
        ∙ ap (λ (l : List (ℕ × Entry)). x ∷ l) (filter_swap (differs x.1.key x.1.version) (differs k v) (firsts xs))
        ∙ sym (cond-true (differs k v x) (x ∷ filter (differs k v) (filter (differs x.1.key x.1.version) (firsts xs))) (filter (differs k v) (filter (differs x.1.key x.1.version) (firsts xs))) e)
    by false e rest =
        let same = same_name x.1.key x.1.version k v (not_false (is_named k v x) e) in
        ap firsts (cond-false (differs k v x) (x ∷ filter (differs k v) xs) (filter (differs k v) xs) e)
        ∙ rest ∙ sym (filter_twice (differs k v) (firsts xs))
        ∙ sym (λ i. filter (differs k v) (filter (differs (same.0 i) (same.1 i)) (firsts xs)))
        ∙ sym (cond-false (differs k v x) (x ∷ filter (differs k v) (filter (differs x.1.key x.1.version) (firsts xs))) (filter (differs k v) (filter (differs x.1.key x.1.version) (firsts xs))) e)

-- what awaits a copy when a name has a second one
pub and_false : (a : Bool) → (a && false) ≡ false
and_false true = refl
and_false false = refl

pub and_true : (a : Bool) → (a && true) ≡ a
and_true true = refl
and_true false = refl

pub two_wants : (o : Option Copies) → count_in o ≡ 1 → (count_in (Some (one_more o)) == 1 && not (told_in (Some (one_more o)))) ≡ false
two_wants None e = absurd (cc e)
two_wants (Some c) e = let two : (c.count + 1 == 1) ≡ false = ap (λ (n : ℕ). n + 1 == 1) e in ap (λ (b : Bool). b && not c.dead) two

awaits_less : (st new : StandingState) (k v : ℕ) → Changes st new k v (Some (one_more (copies_at st k v))) → count_of st k v ≡ 1 → (y : ℕ × Entry) → awaits new y ≡ (awaits st y && differs k v y)
awaits_less st new k v changes one y = by (is_named k v y) refl
  where
    by : (b : Bool) → is_named k v y ≡ b → awaits new y ≡ (awaits st y && differs k v y)
    by true is =
        let at = changes y.1.key y.1.version ∙ cond-true (name_eq (k, v) (y.1.key, y.1.version)) (Some (one_more (copies_at st k v))) (copies_at st y.1.key y.1.version) (name_sym k v y.1.key y.1.version ∙ is) in
        ap (λ (o : Option Copies). count_in o == 1 && not (told_in o)) at ∙ two_wants (copies_at st k v) one ∙ sym (ap (λ (b : Bool). awaits st y && not b) is ∙ and_false (awaits st y))
    by false isnt =
        let at = changes y.1.key y.1.version ∙ cond-false (name_eq (k, v) (y.1.key, y.1.version)) (Some (one_more (copies_at st k v))) (copies_at st y.1.key y.1.version) (name_sym k v y.1.key y.1.version ∙ isnt) in
        ap (λ (o : Option Copies). count_in o == 1 && not (told_in o)) at ∙ sym (ap (λ (b : Bool). awaits st y && not b) isnt ∙ and_true (awaits st y))

-- the entries before a place are collected
pub record Collecting (old st : StandingState) (es : List (ℕ × Entry)) (place taken : ℕ) (words : List ℕ) : Type 0 where
  pub done : List (ℕ × Entry)
  pub count : taken ≡ length done
  pub words_are : words ≡ flat_map words_of (entries_of done)
  pub adds : Adds old st done
  pub ones : (k v : ℕ) → has_name done k v ≡ true → count_of old k v ≡ 1
  pub spelled : AllByRecursion HasSpelling (entries_of done)
  pub rest : done ++ take (64 - taken) (firsts (left_to_copy st (behind place es))) ≡ next_batch old es
  pub settled : left_to_copy st es ≡ left_to_copy st (behind place es)

pub collect_starts : (st : StandingState) (es : List (ℕ × Entry)) (place : ℕ) (words : List ℕ) → left_to_copy st es ≡ left_to_copy st (behind place es) → words ≡ [] → Collecting st st es place 0 words
collect_starts st es place words left none = record {
  done = [];
  count = refl;
  words_are = none;
  adds = λ k v. refl;
  ones = λ k v is. absurd (cc is);
  spelled = tt;
  rest = ap (λ (l : List (ℕ × Entry)). take 64 (firsts l)) (sym left);
  settled = left;
}

count_one_more : (o : Option Copies) → count_in (Some (one_more o)) ≡ count_in o + 1
count_one_more None = refl
count_one_more (Some c) = refl

words_more_of : (xs : List (ℕ × Entry)) (x : ℕ × Entry) → flat_map words_of (entries_of (xs ++ x ∷ [])) ≡ flat_map words_of (entries_of xs) ++ words_of x.1
words_more_of [] x = append-nil (words_of x.1)
words_more_of (y ∷ ys) x = ap (λ (l : List ℕ). words_of y.1 ++ l) (words_more_of ys x) ∙ sym (append_assoc (words_of y.1) (flat_map words_of (entries_of ys)) (words_of x.1))

spelled_more : (xs : List (ℕ × Entry)) (x : ℕ × Entry) → AllByRecursion HasSpelling (entries_of xs) → HasSpelling x.1 → AllByRecursion HasSpelling (entries_of (xs ++ x ∷ []))
spelled_more [] x all is = (is, tt)
spelled_more (y ∷ ys) x all is = (all.0, spelled_more ys x all.1 is)

or_split : (a b : Bool) → (a || (b || false)) ≡ true → (a ≡ true) ⊎ (b ≡ true)
or_split true b is = inl refl
or_split false true is = inr refl
or_split false false is = absurd (cc is)

module _ (s : State) (log : LogState) (old st : StandingState) (j place taken : ℕ) (words : List ℕ) (p : Peek) (f : IsFound s log j place p) (so_far : Collecting old st (entries_in s log j) place taken words) where
  wants_is : wants st p.name.key p.name.version ≡ awaits st f.found
  wants_is = λ i. wants st (f.key i) (f.version i)

  -- an entry is passed over
  module _ (st' : StandingState) (unwanted : wants st p.name.key p.name.version ≡ false) (same : SameCopies st st') where
    left_same : (xs : List (ℕ × Entry)) → left_to_copy st' xs ≡ left_to_copy st xs
    left_same xs = filter_same (awaits st') (awaits st) xs (λ y. ap (λ (o : Option Copies). count_in o == 1 && not (told_in o)) (same y.1.key y.1.version))

    left_passed : left_to_copy st' (behind p.next (entries_in s log j)) ≡ left_to_copy st (behind place (entries_in s log j))
    left_passed =
        let r = left_to_copy st (behind p.next (entries_in s log j)) in
        left_same (behind p.next (entries_in s log j)) ∙ sym (ap (left_to_copy st) f.left ∙ cond-false (awaits st f.found) (f.found ∷ r) r (sym wants_is ∙ unwanted))

    pub collect_passes : (words' : List ℕ) → words' ≡ words → Collecting old st' (entries_in s log j) p.next taken words'
    collect_passes words' kept = record {
      done = so_far.done;
      count = so_far.count;
      words_are = kept ∙ so_far.words_are;
      adds = λ k v. same k v ∙ so_far.adds k v;
      ones = so_far.ones;
      spelled = so_far.spelled;
      rest = ap (λ (l : List (ℕ × Entry)). so_far.done ++ take (64 - taken) (firsts l)) left_passed ∙ so_far.rest;
      settled = left_same (entries_in s log j) ∙ so_far.settled ∙ sym left_passed;
    }

  -- an entry is taken
  module _ (st' : StandingState) (words' : List ℕ) (wanted : wants st p.name.key p.name.version ≡ true) (changes : Changes st st' p.name.key p.name.version (Some (one_more (copies_at st p.name.key p.name.version))))
      (added : words' ≡ words ++ words_from (lasts s) p.at (p.next - p.place)) (less : taken < 64) where
    x : ℕ × Entry
    x = f.found

    k : ℕ
    k = p.name.key

    v : ℕ
    v = p.name.version

    one : count_of st p.name.key p.name.version ≡ 1
    one = eqb-true (count_of st p.name.key p.name.version) 1 (and_parts _ _ wanted).0

    -- it wasn't taken before
    fresh : has_name so_far.done p.name.key p.name.version ≡ false
    fresh = elim (has_name so_far.done p.name.key p.name.version) as (λ b. has_name so_far.done p.name.key p.name.version ≡ b → b ≡ false) [
      | true ↦ λ is.
          let was = so_far.ones p.name.key p.name.version is in
          let now = ap count_in (so_far.adds p.name.key p.name.version ∙ cond-true (has_name so_far.done p.name.key p.name.version) (Some (one_more (copies_at old p.name.key p.name.version))) (copies_at old p.name.key p.name.version) is) ∙ count_one_more (copies_at old p.name.key p.name.version) in
          let e = one in
          absurd (omega (arith, was, now, e))
      | false ↦ λ isnt. refl
    ] refl

    same_old : copies_at st p.name.key p.name.version ≡ copies_at old p.name.key p.name.version
    same_old = so_far.adds p.name.key p.name.version ∙ cond-false (has_name so_far.done p.name.key p.name.version) (Some (one_more (copies_at old p.name.key p.name.version))) (copies_at old p.name.key p.name.version) fresh

    named : (i w : ℕ) → name_eq (p.name.key, p.name.version) (i, w) ≡ is_named i w f.found
    named i w = λ t. name_eq (f.key t, f.version t) (i, w)

    adds_more : Adds old st' (so_far.done ++ f.found ∷ [])
    adds_more i w = elim (is_named i w f.found) as (λ b. is_named i w f.found ≡ b → copies_at st' i w ≡ cond (has_name (so_far.done ++ f.found ∷ []) i w) (Some (one_more (copies_at old i w))) (copies_at old i w)) [
      | true ↦ λ is.
          let e = same_name p.name.key p.name.version i w (named i w ∙ is) in
          let none : has_name so_far.done i w ≡ false = sym (λ t. has_name so_far.done (e.0 t) (e.1 t)) ∙ fresh in
          let has : has_name (so_far.done ++ f.found ∷ []) i w ≡ true = has_push so_far.done f.found i w ∙ (λ t. none t || (is t || false)) in
          changes i w ∙ cond-true (name_eq (p.name.key, p.name.version) (i, w)) (Some (one_more (copies_at st p.name.key p.name.version))) (copies_at st i w) (named i w ∙ is)
          ∙ ap (λ (o : Option Copies). Some (one_more o)) (same_old ∙ (λ t. copies_at old (e.0 t) (e.1 t))) ∙ sym (cond-true (has_name (so_far.done ++ f.found ∷ []) i w) (Some (one_more (copies_at old i w))) (copies_at old i w) has)
      | false ↦ λ isnt.
          let has : has_name (so_far.done ++ f.found ∷ []) i w ≡ has_name so_far.done i w = has_push so_far.done f.found i w ∙ ap (λ (b : Bool). has_name so_far.done i w || (b || false)) isnt ∙ or_none (has_name so_far.done i w) in
          changes i w ∙ cond-false (name_eq (p.name.key, p.name.version) (i, w)) (Some (one_more (copies_at st p.name.key p.name.version))) (copies_at st i w) (named i w ∙ isnt)
          ∙ so_far.adds i w ∙ sym (ap (λ (b : Bool). cond b (Some (one_more (copies_at old i w))) (copies_at old i w)) has)
    ] refl
      where
        or_none : (b : Bool) → (b || (false || false)) ≡ b
        or_none true = refl
        or_none false = refl

    left_filtered : (xs : List (ℕ × Entry)) → left_to_copy st' xs ≡ filter (differs f.found.1.key f.found.1.version) (left_to_copy st xs)
    left_filtered xs =
        filter_same (awaits st') (λ y. awaits st y && differs p.name.key p.name.version y) xs (awaits_less st st' p.name.key p.name.version changes one)
        ∙ filter_both (awaits st) (differs p.name.key p.name.version) xs
        ∙ (λ t. filter (differs (f.key t) (f.version t)) (left_to_copy st xs))

    left_less : left_to_copy st' (behind p.next (entries_in s log j)) ≡ filter (differs f.found.1.key f.found.1.version) (left_to_copy st (behind p.next (entries_in s log j)))
    left_less = left_filtered (behind p.next (entries_in s log j))

    -- nothing of the name is left
    settled_on : left_to_copy st' (entries_in s log j) ≡ left_to_copy st' (behind p.next (entries_in s log j))
    settled_on =
        let r = left_to_copy st (behind p.next (entries_in s log j)) in
        let d : ℕ × Entry → Bool = differs f.found.1.key f.found.1.version in
        let here : left_to_copy st (behind place (entries_in s log j)) ≡ f.found ∷ r = ap (left_to_copy st) f.left ∙ cond-true (awaits st f.found) (f.found ∷ r) r (sym wants_is ∙ wanted) in
        left_filtered (entries_in s log j) ∙ ap (filter d) (so_far.settled ∙ here)
        ∙ cond-false (d f.found) (f.found ∷ filter d r) (filter d r) (ap not (name_same f.found.1.key f.found.1.version)) ∙ sym left_less

    next_taken : take (64 - taken) (firsts (left_to_copy st (behind place (entries_in s log j)))) ≡ f.found ∷ take (64 - (taken + 1)) (firsts (left_to_copy st' (behind p.next (entries_in s log j))))
    next_taken =
        let r = left_to_copy st (behind p.next (entries_in s log j)) in
        let here : left_to_copy st (behind place (entries_in s log j)) ≡ f.found ∷ r = ap (left_to_copy st) f.left ∙ cond-true (awaits st f.found) (f.found ∷ r) r (sym wants_is ∙ wanted) in
        let rest : firsts (left_to_copy st' (behind p.next (entries_in s log j))) ≡ filter (differs f.found.1.key f.found.1.version) (firsts r) = ap firsts left_less ∙ firsts_filter f.found.1.key f.found.1.version r in
        let n : 64 - taken ≡ suc (64 - (taken + 1)) = omega (arith, less) in
        (λ t. take (n t) (firsts (here t))) ∙ ap (λ (l : List (ℕ × Entry)). f.found ∷ take (64 - (taken + 1)) l) (sym rest)

    pub collect_takes : Collecting old st' (entries_in s log j) p.next (taken + 1) words'
    collect_takes =
        let size : p.next - p.place ≡ length (words_of f.found.1) = let e = f.next in omega (arith, e) in
        let n = length-append so_far.done (f.found ∷ []) in
        let m = so_far.count in
        record {
          done = so_far.done ++ f.found ∷ [];
          count = omega (arith, n, m);
          words_are = added ∙ (λ t. so_far.words_are t ++ words_from (lasts s) p.at (size t)) ∙ ap (λ (l : List ℕ). flat_map words_of (entries_of so_far.done) ++ l) f.words ∙ sym (words_more_of so_far.done f.found);
          adds = adds_more;
          ones = λ i w is. ⊎_elim (λ had. so_far.ones i w had)
              (λ is_it. let e = same_name p.name.key p.name.version i w (named i w ∙ is_it) in sym (λ t. count_of old (e.0 t) (e.1 t)) ∙ sym (ap count_in same_old) ∙ one)
              (or_split (has_name so_far.done i w) (is_named i w f.found) (sym (has_push so_far.done f.found i w) ∙ is));
          spelled = spelled_more so_far.done f.found so_far.spelled f.spelling;
          rest = append_assoc so_far.done (f.found ∷ []) (take (64 - (taken + 1)) (firsts (left_to_copy st' (behind p.next (entries_in s log j))))) ∙ ap (λ (l : List (ℕ × Entry)). so_far.done ++ l) (sym next_taken) ∙ so_far.rest;
          settled = settled_on;
        }

  pub collect_on : (st' : StandingState) (b b' : Buffer) (r : ℕ) → words ≡ b.words → (wants st p.name.key p.name.version ≡ false → (r ≡ 0) × SameCopies st st' × (b' ≡ b))
      → (wants st p.name.key p.name.version ≡ true → (r ≡ 1) × Changes st st' p.name.key p.name.version (Some (one_more (copies_at st p.name.key p.name.version)))) → (wants st p.name.key p.name.version ≡ true → b'.words ≡ b.words ++ words_from (lasts s) p.at (p.next - p.place))
      → taken < 64 → Collecting old st' (entries_in s log j) p.next (taken + r) b'.words
  collect_on st' b b' r same passed added copied less = elim (wants st p.name.key p.name.version) as (λ w. wants st p.name.key p.name.version ≡ w → Collecting old st' (entries_in s log j) p.next (taken + r) b'.words) [
    | true ↦ λ is.
        let a = added is in
        subst (λ (n : ℕ). Collecting old st' (entries_in s log j) p.next (taken + n) b'.words) (sym a.0) (collect_takes st' b'.words is a.1 (copied is ∙ ap (λ (l : List ℕ). l ++ words_from (lasts s) p.at (p.next - p.place)) (sym same)) less)
    | false ↦ λ isnt.
        let a = passed isnt in
        let n : taken ≡ taken + r = let e = a.0 in omega (arith, e) in
        subst (λ (m : ℕ). Collecting old st' (entries_in s log j) p.next m b'.words) n (collect_passes st' isnt a.1 b'.words (ap (λ (c : Buffer). c.words) a.2 ∙ sym same))
  ] refl

-- nothing more is taken
pub collect_ends : (old st : StandingState) (es : List (ℕ × Entry)) (place taken : ℕ) (words : List ℕ) → Collecting old st es place taken words → take (64 - taken) (firsts (left_to_copy st (behind place es))) ≡ [] → Collected old st (next_batch old es) taken words
collect_ends old st es place taken words so_far none =
    let all : so_far.done ≡ next_batch old es = sym (append-nil so_far.done) ∙ ap (λ (l : List (ℕ × Entry)). so_far.done ++ l) (sym none) ∙ so_far.rest in
    record {
      count_is = so_far.count ∙ ap (λ (l : List (ℕ × Entry)). length l) all;
      words_are = so_far.words_are ∙ ap (λ (l : List (ℕ × Entry)). flat_map words_of (entries_of l)) all;
      adds = λ k v. so_far.adds k v ∙ ap (λ (l : List (ℕ × Entry)). cond (has_name l k v) (Some (one_more (copies_at old k v))) (copies_at old k v)) all;
      spelled = subst (λ (l : List (ℕ × Entry)). AllByRecursion HasSpelling (entries_of l)) all so_far.spelled;
    }

long_entries : (xs : List (ℕ × Entry)) → length (entries_of xs) ≡ length xs
long_entries [] = refl
long_entries (x ∷ xs) = ap (λ (n : ℕ). suc n) (long_entries xs)

pub collect_holds : (old st : StandingState) (es : List (ℕ × Entry)) (place taken : ℕ) (words : List ℕ) → Collecting old st es place taken words → 0 < taken → HoldsEntries words
collect_holds old st es place taken words so_far some =
    let n = long_entries so_far.done in
    let m = so_far.count in
    record { entries = entries_of so_far.done; words = so_far.words_are; batch = record { some = omega (arith, n, m, some); each = so_far.spelled } }

take_none : (n : ℕ) (xs : List (ℕ × Entry)) → xs ≡ [] → take n xs ≡ []
take_none zero xs none = refl
take_none (suc n) xs none = ap (take (suc n)) none

pub none_left : (st : StandingState) (es : List (ℕ × Entry)) (place taken : ℕ) → behind place es ≡ [] → take (64 - taken) (firsts (left_to_copy st (behind place es))) ≡ []
none_left st es place taken none = take_none (64 - taken) (firsts (left_to_copy st (behind place es))) (ap (λ (l : List (ℕ × Entry)). firsts (left_to_copy st l)) none)

pub full_taken : (st : StandingState) (es : List (ℕ × Entry)) (place taken : ℕ) → taken ≡ 64 → take (64 - taken) (firsts (left_to_copy st (behind place es))) ≡ []
full_taken st es place taken full = let n : 64 - taken ≡ 0 = omega (arith, full) in ap (λ (m : ℕ). take m (firsts (left_to_copy st (behind place es)))) n
