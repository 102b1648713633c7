-- Entries are appended to the log between two turns of a cleaning.
use Rattle.std.proofs.Common.{◌≡◌, ◌≢◌, ℕ, ◌+◌, ◌==◌, ◌&&◌, ◌||◌, nat_le, not, Bool, true, false, cond, List, [], ◌∷◌, Option, Some, None, is_some, refl, sym, ◌∙◌, ap, subst, arith}
use Rattle.std.proofs.lemmas.Bool.{cond-false}
use Rattle.pm_region.specs.State.{State, IsTelling, cell_now}
use Rattle.pm_region.specs.Words.{KeepsOutside}
use Rattle.pm_region.proofs.Clients.{told_at_entry}
use Rattle.chunk_map.specs.Layouts.{chunk_words}
use Rattle.log_entry.specs.declared.entry.Entry.{Entry}
use Rattle.core_log.specs.Log.{LogState, tail_of, open_number, open_first}
use Rattle.core_log.specs.Walking.{IsBetween, entries_in, behind}
use Rattle.log_standing.specs.declared.types.Copies.{Copies}
use Rattle.log_standing.specs.NameCounts.{StandingState, copies_at, count_in, told_in, count_of, one_more, bit}
use Rattle.log_standing.specs.ChunkCounts.{is_named, has_name, IsStandingOf}
use Rattle.log_cleaner.specs.Copying.{awaits, left_to_copy, IsSettledIn, IsUpToDate}
use Rattle.log_cleaner.specs.Clearing.{ClearingState, is_doomed, IsGathered}
use Rattle.log_cleaner.specs.Additions.{is_among, Lacks, AddsEach, AppendsNew}
use Rattle.log_cleaner.proofs.Parts.{count_has, in_named}
use Rattle.log_cleaner.proofs.AppendLaws.{else_has, chunks_more}
use Rattle.log_cleaner.proofs.LessLaws.{filter_same_in}

or_second : (a b : Bool) → (a || b) ≡ false → b ≡ false
or_second true b none = absurd (cc none)
or_second false b none = none

behind_lacks : (es : List Entry) (place : ℕ) (xs : List (ℕ × Entry)) → Lacks xs es → Lacks (behind place xs) es
behind_lacks es place [] lacks k v is = refl
behind_lacks es place (x ∷ xs) lacks k v is = elim (nat_le place x.0) as (λ b. has_name (cond b (x ∷ xs) (behind place xs)) k v ≡ false) [
  | true ↦ lacks k v is
  | false ↦ behind_lacks es place xs (λ i w among. or_second (is_named i w x) (has_name xs i w) (lacks i w among)) k v is
]

more_count : (o p : Option Copies) (b : Bool) → p ≡ cond b (Some (one_more o)) o → count_in p ≡ count_in o + cond b 1 0
more_count None p true is = ap count_in is
more_count (Some c) p true is = ap count_in is
more_count o p false is = let e = ap count_in is in omega (arith, e)

module _ (old new : StandingState) (es : List Entry) (adds : AddsEach old new es) (xs : List (ℕ × Entry)) (lacks : Lacks xs es) where
  -- a name of the chunk has what it had
  same_at : (k v : ℕ) → has_name xs k v ≡ true → copies_at new k v ≡ copies_at old k v
  same_at k v has = adds.copies k v ∙ cond-false (is_among es k v) (Some (one_more (copies_at old k v))) (copies_at old k v) (elim (is_among es k v) as (λ b. is_among es k v ≡ b → b ≡ false) [
    | true ↦ λ is. absurd (cc (sym (lacks k v is) ∙ has))
    | false ↦ λ isnt. refl
  ] refl)

  pub add_left : left_to_copy new xs ≡ left_to_copy old xs
  add_left = filter_same_in (awaits new) (awaits old) xs (λ y is. ap (λ (o : Option Copies). count_in o == 1 && not (told_in o)) (same_at y.1.key y.1.version (in_named xs y is)))

  pub add_gathered : (c : ClearingState) → IsGathered old xs c → IsGathered new xs c
  add_gathered c gathered = record { names = gathered.names; doomed = λ k v. gathered.doomed k v ∙ sym (same_doomed k v) }
    where
      same_doomed : (k v : ℕ) → bit (has_name xs k v && is_doomed new k v) ≡ bit (has_name xs k v && is_doomed old k v)
      same_doomed k v = elim (has_name xs k v) as (λ h. has_name xs k v ≡ h → bit (h && is_doomed new k v) ≡ bit (h && is_doomed old k v)) [
        | true ↦ λ has. ap (λ (o : Option Copies). bit (told_in o && count_in o == 1)) (same_at k v has)
        | false ↦ λ hasnt. refl
      ] refl

module _ (s t : State) (log log' : LogState) (old new : StandingState) (es : List Entry) (appends : AppendsNew s t log log' old es) (adds : AddsEach old new es) (telling : IsTelling t) where
  pub told_then : IsTelling s
  told_then = told_at_entry s t (KeepsOutside (cell_now s) (open_first log) (open_first log + chunk_words log.layout)) appends.outside telling

  pub add_chunk : (j : ℕ) → j ≢ open_number log → is_some (tail_of log.chunks j) ≡ true → entries_in t log' j ≡ entries_in s log j
  add_chunk = else_has s t log log' es appends.own appends.opened (appends.spelled told_then) appends.batch appends.appended appends.outside telling

  pub add_up : IsUpToDate s log old → IsUpToDate t log' new
  add_up up = record { counts = counts; settled = settled }
    where
      counts : IsStandingOf t log' new
      counts k v =
          let a = more_count (copies_at old k v) (copies_at new k v) (is_among es k v) (adds.copies k v) in
          let b = chunks_more s t log log' es appends.own appends.opened (appends.spelled told_then) appends.batch appends.appended appends.outside telling (appends.fresh told_then) k v in
          let n = up.counts k v in
          omega (arith, a, b, n)

      settled : IsSettledIn t log' new
      settled h at =
          let was = up.settled h (sym adds.settled ∙ at) in
          let apart = appends.apart h (sym adds.settled ∙ at) in
          let there : entries_in t log' h.chunk ≡ entries_in s log h.chunk = add_chunk h.chunk apart.closed apart.has in
          let xs = entries_in s log h.chunk in
          let lacks = apart.lacks told_then in
          record {
            between = subst (λ (ys : List (ℕ × Entry)). IsBetween h.place ys) (sym there) was.between;
            none = subst (λ (ys : List (ℕ × Entry)). left_to_copy new ys ≡ left_to_copy new (behind h.place ys)) (sym there)
                (add_left old new es adds xs lacks ∙ was.none ∙ sym (add_left old new es adds (behind h.place xs) (behind_lacks es h.place xs lacks)));
          }

-- names that didn't stand in the log are new in each of its chunks
pub new_lacks : (s : State) (log : LogState) (st : StandingState) (es : List Entry) → IsStandingOf s log st → ((k v : ℕ) → is_among es k v ≡ true → count_of st k v ≡ 0) → (j : ℕ) → is_some (tail_of log.chunks j) ≡ true → Lacks (entries_in s log j) es
new_lacks s log st es standing fresh j has k v is = elim (has_name (entries_in s log j) k v) as (λ b. has_name (entries_in s log j) k v ≡ b → b ≡ false) [
  | true ↦ λ there.
      let none = fresh k v is in
      let n = standing k v in
      let some = count_has (λ (i : ℕ). has_name (entries_in s log i) k v) log.chunks j has there in
      absurd (omega (arith, none, n, some))
  | false ↦ λ isnt. refl
] refl
