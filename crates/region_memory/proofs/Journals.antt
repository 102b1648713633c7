-- What one step more in a journal says.
use Rattle.std.proofs.Common.{◌≡◌, ◌≢◌, ⊎_elim, ℕ, ◌+◌, ◌-◌, ◌^◌, ◌≤◌, ◌<◌, nat_le, true, List, [], ◌∷◌, ◌++◌, length, get_or, take, drop, set, refl, sym, ◌∙◌, ap, arith}
use Rattle.std.proofs.lemmas.Bool.{cases_eq, and_parts, and_from}
use Rattle.std.proofs.lemmas.Bool.Decides.{nat_tests}
use Rattle.std.proofs.lemmas.List.{take-append-le, take_all, take_more, drop-append-le, get_or-set_same, get_or-set_other}
use Rattle.pm_region.specs.Cell.{Cell, certain, stored, store_at}
use Rattle.pm_region.specs.State.{Frame, Goes}
use Rattle.region_memory.specs.Journals.{act, cell_after, journal_told, Records, IsComplete}
use Rattle.region_memory.specs.Histories.{state_by, Outside}
use Rattle.region_memory.specs.declared.region_journal.Journal.{Journal}
use Rattle.region_memory.specs.declared.step.Step.{Step}

pub after_append : (xs ys : List Step) (w : ℕ) (c : Cell) → cell_after (xs ++ ys) w c ≡ cell_after ys w (cell_after xs w c)
after_append [] ys w c = refl
after_append (x ∷ xs) ys w c = after_append xs ys w (act x w c)

pub replay_more : (steps : List Step) (i : ℕ) (d : Step) (w : ℕ) (first c : Cell) → i < length steps → c ≡ cell_after (take i steps) w first → act (get_or steps i d) w c ≡ cell_after (take (i + 1) steps) w first
replay_more steps i d w first c lt is =
    ap (λ (x : Cell). act (get_or steps i d) w x) is
    ∙ sym (ap (λ (l : List Step). cell_after l w first) (take_more steps i d lt) ∙ after_append (take i steps) (get_or steps i d ∷ []) w first)

-- what `journal_told` tests
pub record Told (j : Journal) (t : ℕ) : Type 0 where
  pub since : j.since ≤ t
  pub kept : t ≤ j.limit

pub told_facts : (j : Journal) (t : ℕ) → journal_told j t ≡ true → Told j t
told_facts j t is =
    let both = and_parts (nat_le j.since t) (nat_le t j.limit) is in
    let a = both.0 in let b = both.1 in
    record { since = grind (arith, nat_tests); kept = grind (arith, nat_tests) }

pub told_from : (j : Journal) (t : ℕ) → Told j t → journal_told j t ≡ true
told_from j t facts =
    let a = facts.since in let b = facts.kept in
    and_from (nat_le j.since t) (nat_le t j.limit) (grind (arith, nat_tests)) (grind (arith, nat_tests))

-- the steps up to a told stamp are in the journal
pub long_enough : (j : Journal) (t : ℕ) → Told j t → t ≤ j.stamp → j.base + (t - j.since) ≤ length j.steps.items
long_enough j t facts seen = omega (arith, j.kept, facts.since, facts.kept)

module _ (old new : Journal) (step : Step) (records : Records old new step) where
  prefix : (n : ℕ) → n ≤ length old.steps.items → take n new.steps.items ≡ take n old.steps.items
  prefix n le = ⊎_elim (λ same. ap (λ (l : List Step). take n l) same.0) (λ more. ap (λ (l : List Step). take n l) more.0 ∙ take-append-le n old.steps.items (step ∷ []) le) records.steps

  keeps_told : (t : ℕ) → Told old t → Told new t
  keeps_told t facts = record { since = omega (arith, facts.since, records.since); kept = omega (arith, facts.kept, records.limit) }

  was_told : (t : ℕ) → Told new t → Told old t
  was_told t facts = record { since = omega (arith, facts.since, records.since); kept = omega (arith, facts.kept, records.limit) }

  place : (t : ℕ) → new.base + (t - new.since) ≡ old.base + (t - old.since)
  place t = omega (arith, records.base, records.since)

  -- the step is in the journal where the new moment is told
  in_journal : new.stamp < 2 ^ 64 - 1 → new.stamp ≤ new.limit → (new.steps.items ≡ old.steps.items ++ step ∷ []) × (old.stamp < old.limit)
  in_journal below kept = ⊎_elim (λ same. absurd (omega (arith, same.1, below, kept, records.stamp, records.limit))) (λ more. more) records.steps

  -- and nothing outside the range is written
  pub inside_on : (first words : ℕ) → ((w : ℕ) (c : Cell) → Outside first words w → cell_after (drop old.base old.steps.items) w c ≡ c)
      → ((w : ℕ) (c : Cell) → Outside first words w → act step w c ≡ c)
      → (w : ℕ) (c : Cell) → Outside first words w → cell_after (drop new.base new.steps.items) w c ≡ c
  inside_on first words was stays w c out =
      ap (λ (n : ℕ). cell_after (drop n new.steps.items) w c) records.base ∙ ⊎_elim (λ same. ap (λ (l : List Step). cell_after (drop old.base l) w c) same.0 ∙ was w c out)
      (λ more. ap (λ (l : List Step). cell_after l w c) (ap (λ (l : List Step). drop old.base l) more.0 ∙ drop-append-le old.base old.steps.items (step ∷ []) (omega (arith, old.kept)))
      ∙ after_append (drop old.base old.steps.items) (step ∷ []) w c ∙ ap (λ (d : Cell). act step w d) (was w c out) ∙ stays w c out) records.steps

  -- the last values stay those that the words have
  pub matches_on : (first : ℕ) (start words words' : List ℕ)
      → (IsComplete old → (k : ℕ) → k < length words → get_or words k 0 ≡ (cell_after old.steps.items (first + k) (certain (get_or start k 0))).last)
      → ((k : ℕ) (c : Cell) → k < length words → get_or words k 0 ≡ c.last → get_or words' k 0 ≡ (act step (first + k) c).last)
      → IsComplete new → (k : ℕ) → k < length words → get_or words' k 0 ≡ (cell_after new.steps.items (first + k) (certain (get_or start k 0))).last
  matches_on first start words words' matches effect complete k lt =
      let below = complete.below in
      let more = in_journal below complete.kept in
      let earlier = more.1 in
      let was : IsComplete old = record { kept = omega arith; below = omega (arith, below, records.later) } in
      let c = cell_after old.steps.items (first + k) (certain (get_or start k 0)) in
      let same : cell_after new.steps.items (first + k) (certain (get_or start k 0)) ≡ act step (first + k) c =
      ap (λ (l : List Step). cell_after l (first + k) (certain (get_or start k 0))) more.0 ∙ after_append old.steps.items (step ∷ []) (first + k) (certain (get_or start k 0)) in
      effect k c lt (matches was k lt) ∙ sym (ap (λ (d : Cell). d.last) same)

  pub recorded : (f : Frame) (n n' first : ℕ) (start : List ℕ) → f.since ≡ old.since → n ≤ n' → Goes (state_by f n first start old) (state_by f n' first start new) (act step)
  recorded f n n' first start from le = record {
    frame = refl;
    faults = le;
    later = records.later;
    rose = omega (arith, records.stamp);
    keeps = λ t told. record { says = told_from new t (keeps_told t (told_facts old t told.says)); since = told.since; seen = omega (arith, told.seen, records.later); below = told.below };
    same = λ t w told.
        ap (λ (l : List Step). cell_after l w (certain (get_or start (w - first) 0)))
        (ap (λ (k : ℕ). take k new.steps.items) (place t) ∙ prefix (old.base + (t - old.since)) (long_enough old t (told_facts old t told.says) told.seen));
    only = λ t told isnt.
        let seen = told.seen in
        record { says = told_from old t (was_told t (told_facts new t told.says)); since = told.since; seen = omega (arith, records.stamp, seen, isnt); below = told.below };
    was = λ telling.
        let facts = told_facts new new.stamp telling.says in
        let more = in_journal telling.below facts.kept in
        let earlier = more.1 in
        record { says = told_from old old.stamp (record { since = old.ordered; kept = omega arith }); since = omega (arith, from, old.ordered); seen = omega arith; below = omega (arith, telling.below, records.later) };
    now = λ w telling.
        let facts = told_facts new new.stamp telling.says in
        let more = in_journal telling.below facts.kept in
        let earlier = more.1 in
        let here : take (new.base + (new.stamp - new.since)) new.steps.items ≡ old.steps.items ++ step ∷ [] =
        take_all (new.base + (new.stamp - new.since)) new.steps.items (omega (arith, new.kept, facts.since)) ∙ more.0 in
        let before : take (old.base + (old.stamp - old.since)) old.steps.items ≡ old.steps.items = take_all (old.base + (old.stamp - old.since)) old.steps.items (omega (arith, old.kept, old.ordered)) in
        ap (λ (l : List Step). cell_after l w (certain (get_or start (w - first) 0))) here ∙ after_append old.steps.items (step ∷ []) w (certain (get_or start (w - first) 0))
        ∙ ap (λ (l : List Step). act step w (cell_after l w (certain (get_or start (w - first) 0)))) (sym before);
  }

-- a store's effect on the words
pub store_effect : (first at value : ℕ) (words : List ℕ) → first ≤ at → at < first + length words → (k : ℕ) (c : Cell) → k < length words → get_or words k 0 ≡ c.last
    → get_or (set words (at - first) value) k 0 ≡ (store_at at value (first + k) c).last
store_effect first at value words low high k c lt is = ⊎_elim here there (cases_eq k (at - first))
  where
    here : k ≡ at - first → get_or (set words (at - first) value) k 0 ≡ (store_at at value (first + k) c).last
    here e =
        let l : at - first < length words = omega arith in
        ap (λ (j : ℕ). get_or (set words (at - first) value) j 0) e ∙ get_or-set_same words (at - first) value 0 l ∙ sym (ap (λ (d : Cell). d.last) (stores (omega arith)))
      where
        stores : first + k ≡ at → store_at at value (first + k) c ≡ stored c value
        stores same = grind (arith, nat_tests)

    there : (k ≡ at - first → ⊥) → get_or (set words (at - first) value) k 0 ≡ (store_at at value (first + k) c).last
    there ne = get_or-set_other words (at - first) k value 0 ne ∙ is ∙ sym (ap (λ (d : Cell). d.last) (stays (omega arith)))
      where
        stays : (first + k ≢ at) → store_at at value (first + k) c ≡ c
        stays other = grind (arith, nat_tests)
