-- A name is told dead between two turns of a cleaning.
use Rattle.std.proofs.Common.{◌≡◌, ℕ, ◌≤◌, ◌==◌, ◌&&◌, not, Bool, true, false, List, [], length, Option, Some, None, refl, sym, ◌∙◌, ap, arith}
use Rattle.std.specs.Prelude.{option_map}
use Rattle.std.specs.List.{filter}
use Rattle.std.proofs.lemmas.Bool.{cond-true, cond-false, eqb-true, eq-eqb}
use Rattle.pm_region.specs.State.{State}
use Rattle.log_entry.specs.declared.entry.Entry.{Entry}
use Rattle.log_entry.specs.Spelling.{words_of}
use Rattle.core_log.specs.Log.{LogState}
use Rattle.log_standing.specs.declared.types.Copies.{Copies}
use Rattle.log_standing.specs.NameCounts.{StandingState, name_eq, copies_at, count_in, told_in, count_of, is_told, killed, spot_in, tally_without, Changes, LowersFloors, bit}
use Rattle.log_standing.specs.ChunkCounts.{is_named, has_name, IsStandingOf}
use Rattle.core_log.specs.Walking.{entries_in, behind}
use Rattle.log_cleaner.specs.Copying.{awaits, left_to_copy, words_sum, IsSettledIn, IsUpToDate}
use Rattle.log_cleaner.specs.Clearing.{ClearingState, is_doomed, IsGathered}
use Rattle.log_cleaner.specs.Tallied.{KeepsTally}
use Rattle.log_standing.proofs.Clients.{name_same, same_name}
use Rattle.log_cleaner.proofs.TallyLaws.{wanted_no_more}
use Rattle.log_cleaner.proofs.Batches.{name_sym, differs, filter_same, filter_both, and_false, and_true}
use Rattle.log_cleaner.proofs.LessLaws.{sum_filter, sum_ones}
use Rattle.log_cleaner.proofs.Parts.{name_in}
use Rattle.log_cleaner.proofs.ClearLaws.{filter_has}

same_count : (o : Option Copies) → count_in (option_map killed o) ≡ count_in o
same_count None = refl
same_count (Some c) = refl

killed_awaits : (o : Option Copies) → (count_in (option_map killed o) == 1 && not (told_in (option_map killed o))) ≡ false
killed_awaits None = refl
killed_awaits (Some c) = and_false (c.count == 1)

killed_doomed : (o : Option Copies) → (count_in o ≡ 1 → told_in o ≡ true) → (told_in (option_map killed o) && count_in (option_map killed o) == 1) ≡ (told_in o && count_in o == 1)
killed_doomed None told = refl
killed_doomed (Some c) told = elim (c.count == 1) as (λ b. (c.count == 1) ≡ b → b ≡ (c.dead && b)) [
  | true ↦ λ is. sym (ap (λ (d : Bool). d && true) (told (eqb-true c.count 1 is)))
  | false ↦ λ isnt. sym (and_false c.dead)
] refl

killed_spot : (o : Option Copies) → spot_in (option_map killed o) ≡ spot_in o
killed_spot None = refl
killed_spot (Some c) = refl

killed_still : (o : Option Copies) → told_in (option_map killed o) ≡ false → told_in o ≡ false
killed_still None untold = untold
killed_still (Some c) untold = absurd (cc untold)

module _ (old new : StandingState) (k v : ℕ) (changes : Changes old new k v (option_map killed (copies_at old k v))) where
  -- the names stand as before
  pub kill_count : (j w : ℕ) → count_of new j w ≡ count_of old j w
  kill_count j w = elim (name_eq (k, v) (j, w)) as (λ b. name_eq (k, v) (j, w) ≡ b → count_of new j w ≡ count_of old j w) [
    | true ↦ λ is. let e = same_name k v j w is in ap count_in (changes j w ∙ cond-true (name_eq (k, v) (j, w)) (option_map killed (copies_at old k v)) (copies_at old j w) is) ∙ same_count (copies_at old k v) ∙ (λ i. count_of old (e.0 i) (e.1 i))
    | false ↦ λ isnt. ap count_in (changes j w ∙ cond-false (name_eq (k, v) (j, w)) (option_map killed (copies_at old k v)) (copies_at old j w) isnt)
  ] refl

  pub kill_standing : (s : State) (log : LogState) → IsStandingOf s log old → IsStandingOf s log new
  kill_standing s log standing j w = kill_count j w ∙ standing j w

  kill_awaits : (y : ℕ × Entry) → awaits new y ≡ (awaits old y && differs k v y)
  kill_awaits y = by (is_named k v y) refl
    where
      by : (b : Bool) → is_named k v y ≡ b → awaits new y ≡ (awaits old y && differs k v y)
      by true is =
          let at = changes y.1.key y.1.version ∙ cond-true (name_eq (k, v) (y.1.key, y.1.version)) (option_map killed (copies_at old k v)) (copies_at old y.1.key y.1.version) (name_sym k v y.1.key y.1.version ∙ is) in
          ap (λ (o : Option Copies). count_in o == 1 && not (told_in o)) at ∙ killed_awaits (copies_at old k v) ∙ sym (ap (λ (b : Bool). awaits old y && not b) is ∙ and_false (awaits old y))
      by false isnt =
          let at = changes y.1.key y.1.version ∙ cond-false (name_eq (k, v) (y.1.key, y.1.version)) (option_map killed (copies_at old k v)) (copies_at old y.1.key y.1.version) (name_sym k v y.1.key y.1.version ∙ isnt) in
          ap (λ (o : Option Copies). count_in o == 1 && not (told_in o)) at ∙ sym (ap (λ (b : Bool). awaits old y && not b) isnt ∙ and_true (awaits old y))

  -- no more is left to be copied
  pub kill_left : (es : List (ℕ × Entry)) → left_to_copy new es ≡ filter (differs k v) (left_to_copy old es)
  kill_left es = filter_same (awaits new) (λ y. awaits old y && differs k v y) es kill_awaits ∙ filter_both (awaits old) (differs k v) es

  pub kill_less : (es : List (ℕ × Entry)) → (length (left_to_copy new es) ≤ length (left_to_copy old es)) × (words_sum (left_to_copy new es) ≤ words_sum (left_to_copy old es))
  kill_less es =
      let same = ap (λ (l : List (ℕ × Entry)). length l) (kill_left es) in
      let a = sum_filter (λ (x : ℕ × Entry). 1) (differs k v) (left_to_copy old es) in
      let b = sum_ones (filter (differs k v) (left_to_copy old es)) in
      let d = sum_ones (left_to_copy old es) in
      let words = ap words_sum (kill_left es) in
      let e = sum_filter (λ (x : ℕ × Entry). length (words_of x.1)) (differs k v) (left_to_copy old es) in
      (omega (arith, same, a, b, d), omega (arith, words, e))

  -- what was settled stays so
  pub kill_settled : (s : State) (log : LogState) → new.settled ≡ old.settled → IsSettledIn s log old → IsSettledIn s log new
  kill_settled s log same settled h at =
      let was = settled h (sym same ∙ at) in
      let es = entries_in s log h.chunk in
      record { between = was.between; none = kill_left es ∙ ap (filter (differs k v)) was.none ∙ sym (kill_left (behind h.place es)) }

  pub kill_up : (s : State) (log : LogState) → new.settled ≡ old.settled → IsUpToDate s log old → IsUpToDate s log new
  kill_up s log same up = record { counts = kill_standing s log up.counts; settled = kill_settled s log same up.settled }

  -- what is counted of a chunk stays so
  pub kill_tally : new.tally ≡ tally_without old k v → LowersFloors old new k v → KeepsTally old new
  kill_tally = wanted_no_more old new k v (option_map killed (copies_at old k v)) changes
      (ap (λ (o : Option Copies). count_in o == 1 && not (told_in o)) (changes k v ∙ cond-true (name_eq (k, v) (k, v)) (option_map killed (copies_at old k v)) (copies_at old k v) (name_same k v)) ∙ killed_awaits (copies_at old k v))
      (killed_spot (copies_at old k v)) (killed_still (copies_at old k v))

  -- what was gathered stays so
  pub kill_gathered : (es : List (ℕ × Entry)) (c : ClearingState) → left_to_copy old es ≡ [] → IsGathered old es c → IsGathered new es c
  kill_gathered es c none gathered = record {
    names = gathered.names;
    doomed = λ j w. gathered.doomed j w ∙ sym (same_doomed j w);
  }
    where
      same_doomed : (j w : ℕ) → bit (has_name es j w && is_doomed new j w) ≡ bit (has_name es j w && is_doomed old j w)
      same_doomed j w = elim (has_name es j w) as (λ h. has_name es j w ≡ h → bit (h && is_doomed new j w) ≡ bit (h && is_doomed old j w)) [
        | true ↦ λ has. ap bit (elim (name_eq (k, v) (j, w)) as (λ b. name_eq (k, v) (j, w) ≡ b → is_doomed new j w ≡ is_doomed old j w) [
          | true ↦ λ is.
              let e = same_name k v j w is in
              let n = name_in es j w has in
              let told : count_of old j w ≡ 1 → is_told old j w ≡ true = λ one. elim (is_told old j w) as (λ t. is_told old j w ≡ t → t ≡ true) [
                | true ↦ λ t. refl
                | false ↦ λ t. absurd (filter_has (awaits old) es n.found n.here ((λ i. count_of old (n.key i) (n.version i) == 1 && not (is_told old (n.key i) (n.version i))) ∙ (λ i. eq-eqb (count_of old j w) 1 one i && not (t i))) none)
              ] refl in
              ap (λ (o : Option Copies). told_in o && count_in o == 1) (changes j w ∙ cond-true (name_eq (k, v) (j, w)) (option_map killed (copies_at old k v)) (copies_at old j w) is ∙ (λ i. option_map killed (copies_at old (e.0 i) (e.1 i))))
              ∙ killed_doomed (copies_at old j w) told
          | false ↦ λ isnt. ap (λ (o : Option Copies). told_in o && count_in o == 1) (changes j w ∙ cond-false (name_eq (k, v) (j, w)) (option_map killed (copies_at old k v)) (copies_at old j w) isnt)
        ] refl)
        | false ↦ λ hasnt. refl
      ] refl
