-- What stands in the own log by its region stays so, where places were reserved, names were told dead, and words of the log are kept.
use Rattle.std.proofs.Common.{◌≡◌, inl, ℕ, ◌<◌, ◌≤◌, ◌==◌, ◌&&◌, ◌||◌, eqb, length, not, Bool, true, false, cond, List, [], ◌∷◌, Option, Some, is_some, refl, sym, ◌∙◌, ap, subst, arith}
use Rattle.std.specs.List.{filter}
use Rattle.std.proofs.lemmas.Bool.{and_parts, and_from, eqb-true, eq-eqb}
use Rattle.pm_region.specs.State.{State}
use Rattle.log_entry.specs.declared.entry.Entry.{Entry}
use Rattle.log_entry.specs.Batches.{scan_of}
use Rattle.core_log.specs.Chunk.{words_now}
use Rattle.core_log.specs.Log.{LogState, tail_of, tail_in, first_of}
use Rattle.core_log.specs.Walking.{IsBetween, entries_in, behind}
use Rattle.core_log.proofs.Clients.{is_tail}
use Rattle.core_index.specs.Slots as slots
use Rattle.log_standing.specs.declared.types.Settled.{Settled}
use Rattle.log_entry.specs.Spelling.{words_of}
use Rattle.log_standing.specs.declared.types.Copies.{Copies}
use Rattle.log_standing.specs.NameCounts.{StandingState, SameCopies, bit, count_in, told_in, count_of, is_told, wants}
use Rattle.log_standing.specs.ChunkCounts.{is_named, has_name}
use Rattle.log_standing.proofs.Clients.{same_name}
use Rattle.log_cleaner.specs.Clearing.{ClearingState, IsGathered, is_doomed}
use Rattle.log_cleaner.specs.Copying.{awaits, left_to_copy, words_sum, IsSettled}
use Rattle.log_cleaner.specs.CopyBatch.{Bounds}
use Rattle.log_cleaner.specs.Tallied.{IsTallied, KeepsTally}
use Rattle.log_cleaner.proofs.FloorLaws.{floors_moved}
use Rattle.log_cleaner.proofs.TallyLaws.{floors_kept, keeps_same}
use Rattle.log_cleaner.proofs.LessLaws.{filter_same_in, sum_filter, sum_ones}
use Rattle.log_cleaner.proofs.Parts.{count_same}
use Rattle.log_cleaner.proofs.SettledLaws.{settled_same}
use Rattle.core_worker.specs.declared.types.Cleaning.{Cleaning}
use Rattle.core_worker.specs.declared.types.Cleaning.TheVariants.{Nothing, Copying, Doomed}
use Rattle.core_worker.specs.StandingTies.{SameNames, HearsOwn}
use Rattle.core_worker.specs.LogNames.{KnowsNames, NamesStand, ClearsIn, IsCleanedBy}
use Rattle.core_worker.proofs.NamesKnown.{knows_same}

left_by : (old new : StandingState) → SameCopies old new → (es : List (ℕ × Entry)) → left_to_copy new es ≡ left_to_copy old es
left_by old new same es = filter_same_in (awaits new) (awaits old) es (λ y is. ap (λ (p : Option Copies). (count_in p == 1) && not (told_in p)) (same y.1.key y.1.version))

-- what stands in no list of those that are still to be copied isn't
none_named : (st : StandingState) (xs : List (ℕ × Entry)) → left_to_copy st xs ≡ [] → (k n : ℕ) → has_name xs k n ≡ true → wants st k n ≡ true → ⊥
none_named st [] none k n has waits = cc has
none_named st (x ∷ xs) none k n has waits = by (awaits st x) refl none (λ rest others. none_named st xs rest k n others waits) where
  named : (b : Bool) → is_named k n x ≡ b → awaits st x ≡ false → (has_name xs k n ≡ true → ⊥) → ⊥
  named true is off later =
      let same = same_name x.1.key x.1.version k n is in
      let both : true ≡ false = sym waits ∙ (λ i. wants st (sym same.0 i) (sym same.1 i)) ∙ off in
      cc both
  named false isnt off later = later (sym (ap (λ (b : Bool). b || has_name xs k n) isnt) ∙ has)

  by : (b : Bool) → awaits st x ≡ b → cond b (x ∷ left_to_copy st xs) (left_to_copy st xs) ≡ [] → (left_to_copy st xs ≡ [] → has_name xs k n ≡ true → ⊥) → ⊥
  by true is rest later = cc rest
  by false off rest later = named (is_named k n x) refl off (later rest)

-- what is counted of names alone is so by equal counts
cleaned_same : (s : State) (log : LogState) (old new : StandingState) (o : Option ClearingState) (c : Cleaning) → SameCopies old new → KeepsTally old new → IsCleanedBy s log old o c → IsCleanedBy s log new o c
cleaned_same s log old new o Nothing same keeps C = tt
cleaned_same s log old new o (Copying victim first) same keeps C =
    let es = entries_in s log victim.chunk in
    let left = left_by old new same es in
    record {
      chunk = C.chunk;
      bounds = record {
        entries = (let a = ap length left in let b = C.bounds.entries in omega (arith, a, b));
        words = (let a = ap words_sum left in let b = C.bounds.words in omega (arith, a, b));
      };
      counts = keeps.tally es C.counts;
      room = C.room;
    }
cleaned_same s log old new o (Doomed chunk) same keeps C = λ x is.
    let had = C x is in
    let es = entries_in s log x.chunk in
    record {
      chunk = had.chunk;
      ready = record {
        gathered = record {
          names = had.ready.gathered.names;
          doomed = λ k n. had.ready.gathered.doomed k n ∙ ap (λ (p : Option Copies). bit (has_name es k n && (told_in p && (count_in p == 1)))) (sym (same k n));
        };
        copied = left_by old new same es ∙ had.ready.copied;
      };
    }

-- nothing but places was reserved
pub names_same : (s : State) (m : ℕ) (kept : List Entry) (present : ℕ → ℕ → Option ℕ) (told dead : ℕ → ℕ → Bool) (log : LogState) (old new : StandingState) (o : Option ClearingState) (c : Cleaning) → SameNames old new → NamesStand s m kept present told dead log old o c → NamesStand s m kept present told dead log new o c
names_same s m kept present told dead log old new o c same N = record {
  counted = record {
    counts = λ k n. ap count_in (same.copies k n) ∙ N.counted.counts k n;
    settled = λ h at. settled_same s log old new h same.copies (N.counted.settled h (sym same.settled ∙ at));
  };
  read = λ h at. N.read h (sym same.settled ∙ at);
  floors = floors_kept s log old new (keeps_same old new same.copies same.tally same.floors) N.floors;
  knows = knows_same m kept present told dead old new same N.knows;
  cleaned = cleaned_same s log old new o c same.copies (keeps_same old new same.copies same.tally same.floors) N.cleaned;
}

-- fewer are filtered out of fewer
pub narrow : {X : Type 0} (f g : X → Bool) → ((x : X) → f x ≡ true → g x ≡ true) → (xs : List X) → filter f xs ≡ filter f (filter g xs)
narrow f g less [] = refl
narrow f g less (x ∷ xs) = by (g x) refl (narrow f g less xs) where
  off : (b : Bool) → f x ≡ b → g x ≡ false → f x ≡ false
  off false e isnt = e
  off true e isnt = absurd (let both : true ≡ false = sym (less x e) ∙ isnt in cc both)

  by : (b : Bool) → g x ≡ b → filter f xs ≡ filter f (filter g xs) → filter f (x ∷ xs) ≡ filter f (cond (g x) (x ∷ filter g xs) (filter g xs))
  by true e again = (λ i. cond (f x) (x ∷ again i) (again i)) ∙ sym (ap (λ (b : Bool). filter f (cond b (x ∷ filter g xs) (filter g xs))) e)
  by false e again = ap (λ (b : Bool). cond b (x ∷ filter f xs) (filter f xs)) (off (f x) refl e) ∙ again ∙ sym (ap (λ (b : Bool). filter f (cond b (x ∷ filter g xs) (filter g xs))) e)

-- more names were told dead: what a cleaning has read awaits no more than before
module _ (s : State) (m : ℕ) (kept kept' : List Entry) (present present' : ℕ → ℕ → Option ℕ) (told told' dead dead' : ℕ → ℕ → Bool) (log : LogState) (old new : StandingState) (o : Option ClearingState) (c : Cleaning)
    (counts : (k n : ℕ) → count_of new k n ≡ count_of old k n) (up : (k n : ℕ) → 0 < count_of old k n → is_told old k n ≡ true → is_told new k n ≡ true) (still : new.settled ≡ old.settled) (keeps : KeepsTally old new) (N : NamesStand s m kept present told dead log old o c) where
  fewer : (x : ℕ × Entry) → awaits new x ≡ true → awaits old x ≡ true
  fewer x is =
      let k = x.1.key in
      let n = x.1.version in
      let both = and_parts (count_of new k n == 1) (not (is_told new k n)) is in
      let one : count_of old k n ≡ 1 = sym (counts k n) ∙ eqb-true (count_of new k n) 1 both.0 in
      and_from (count_of old k n == 1) (not (is_told old k n)) (eq-eqb (count_of old k n) 1 one) (by (is_told old k n) refl both.1 one)
    where
      by : (b : Bool) → is_told old x.1.key x.1.version ≡ b → not (is_told new x.1.key x.1.version) ≡ true → count_of old x.1.key x.1.version ≡ 1 → not (is_told old x.1.key x.1.version) ≡ true
      by false e isnt one = ap not e
      by true e isnt one = absurd (let now = up x.1.key x.1.version (omega (arith, one)) e in let both : false ≡ true = sym (ap not now) ∙ isnt in cc both)

  left_narrow : (xs : List (ℕ × Entry)) → left_to_copy new xs ≡ filter (awaits new) (left_to_copy old xs)
  left_narrow xs = narrow (awaits new) (awaits old) fewer xs

  still_settled : (h : Settled) → IsSettled s log old h → IsSettled s log new h
  still_settled h was = record {
    between = was.between;
    none = left_narrow (entries_in s log h.chunk) ∙ ap (filter (awaits new)) was.none ∙ sym (left_narrow (behind h.place (entries_in s log h.chunk)));
  }

  -- a name of the chunk that wasn't told before is one of which there is another copy
  doomed_same : (xs : List (ℕ × Entry)) → left_to_copy old xs ≡ [] → (k n : ℕ) → has_name xs k n ≡ true → is_doomed new k n ≡ is_doomed old k n
  doomed_same xs none k n has = by (count_of old k n == 1) refl where
    stays : (a : Bool) → is_told old k n ≡ a → count_of old k n ≡ 1 → is_told new k n ≡ a
    stays true is one = up k n (omega (arith, one)) is
    stays false is one = absurd (let waits : wants old k n ≡ true = (λ i. eqb (one i) 1 && not (is i)) in none_named old xs none k n has waits)

    by : (b : Bool) → (count_of old k n == 1) ≡ b → is_doomed new k n ≡ is_doomed old k n
    by true is = (λ i. stays (is_told old k n) refl (eqb-true (count_of old k n) 1 is) i && (counts k n i == 1))
    by false is = ap (λ (b : Bool). is_told new k n && b) (ap (λ (x : ℕ). x == 1) (counts k n) ∙ is) ∙ no (is_told new k n) ∙ sym (no (is_told old k n)) ∙ ap (λ (b : Bool). is_told old k n && b) (sym is) where
      no : (b : Bool) → (b && false) ≡ false
      no true = refl
      no false = refl

  clears_heard : (x : ClearingState) → ClearsIn s log old x → ClearsIn s log new x
  clears_heard x C = record {
    chunk = C.chunk;
    ready = record {
      gathered = record {
        names = C.ready.gathered.names;
        doomed = λ k n. C.ready.gathered.doomed k n ∙ by k n (has_name (entries_in s log x.chunk) k n) refl;
      };
      copied = left_narrow (entries_in s log x.chunk) ∙ ap (filter (awaits new)) C.ready.copied;
    };
  } where
    by : (k n : ℕ) (b : Bool) → has_name (entries_in s log x.chunk) k n ≡ b → bit (has_name (entries_in s log x.chunk) k n && is_doomed old k n) ≡ bit (has_name (entries_in s log x.chunk) k n && is_doomed new k n)
    by k n true is = ap (λ (d : Bool). bit (has_name (entries_in s log x.chunk) k n && d)) (sym (doomed_same (entries_in s log x.chunk) C.ready.copied k n is))
    by k n false is = ap (λ (b : Bool). bit (b && is_doomed old k n)) is ∙ sym (ap (λ (b : Bool). bit (b && is_doomed new k n)) is)

  cleaned_heard : (d : Cleaning) → IsCleanedBy s log old o d → IsCleanedBy s log new o d
  cleaned_heard Nothing C = tt
  cleaned_heard (Copying victim first) C = record {
    chunk = C.chunk;
    bounds =
        let es = entries_in s log victim.chunk in
        let fewer_entries = sum_filter (λ (y : ℕ × Entry). 1) (awaits new) (left_to_copy old es) in
        let fewer_words = sum_filter (λ (y : ℕ × Entry). length (words_of y.1)) (awaits new) (left_to_copy old es) in
        let entries = C.bounds.entries in
        let words = C.bounds.words in
        let one = sum_ones (filter (awaits new) (left_to_copy old es)) in
        let two = sum_ones (left_to_copy old es) in
        let same = ap length (left_narrow es) in
        let same_words = ap words_sum (left_narrow es) in
        record { entries = omega (arith, fewer_entries, entries, one, two, same); words = omega (arith, fewer_words, words, same_words) };
    counts = keeps.tally (entries_in s log victim.chunk) C.counts;
    room = C.room;
  }
  cleaned_heard (Doomed chunk) C = λ x is. clears_heard x (C x is)

  pub names_more : KnowsNames m kept' present' told' dead' new → NamesStand s m kept' present' told' dead' log new o c
  names_more knows = record {
    counted = record {
      counts = λ k n. counts k n ∙ N.counted.counts k n;
      settled = λ h at. still_settled h (N.counted.settled h (sym still ∙ at));
    };
    read = λ h at. N.read h (sym still ∙ at);
    floors = floors_kept s log old new keeps N.floors;
    knows = knows;
    cleaned = cleaned_heard c N.cleaned;
  }

-- own names were told dead
pub names_heard : (s : State) (m home : ℕ) (index : List (ℕ × slots.Place)) (kept kept' : List Entry) (present present' : ℕ → ℕ → Option ℕ) (told told' dead dead' : ℕ → ℕ → Bool) (log : LogState) (old new : StandingState) (o : Option ClearingState) (c : Cleaning) → HearsOwn home index old new
    → NamesStand s m kept present told dead log old o c → KnowsNames m kept' present' told' dead' new → NamesStand s m kept' present' told' dead' log new o c
names_heard s m home index kept kept' present present' told told' dead dead' log old new o c tells = names_more s m kept kept' present present' told told' dead dead' log old new o c tells.counts (λ k n some is. tells.all k n some (inl is)) tells.settled tells.tally

-- the words of the log are what they were
module _ (s t : State) (m : ℕ) (kept : List Entry) (present : ℕ → ℕ → Option ℕ) (told dead : ℕ → ℕ → Bool) (log : LogState) (st : StandingState) (o : Option ClearingState) (c : Cleaning) (words : (j u : ℕ) → tail_of log.chunks j ≡ Some u → words_now t (first_of log j) u ≡ words_now s (first_of log j) u) where
  entries_kept : (j : ℕ) → is_some (tail_of log.chunks j) ≡ true → entries_in t log j ≡ entries_in s log j
  entries_kept j has = ap (λ (ws : List ℕ). (scan_of ws).entries) (words j (tail_in log j) (is_tail (tail_of log.chunks j) has))

  cleaned_kept : (d : Cleaning) → IsCleanedBy s log st o d → IsCleanedBy t log st o d
  cleaned_kept Nothing C = tt
  cleaned_kept (Copying victim first) C =
      let there = sym (entries_kept victim.chunk C.chunk) in
      record { chunk = C.chunk; bounds = subst (λ (es : List (ℕ × Entry)). Bounds victim st es) there C.bounds; counts = subst (IsTallied st) there C.counts; room = λ x is. subst (λ (es : List (ℕ × Entry)). length es ≤ x.room) there (C.room x is) }
  cleaned_kept (Doomed chunk) C = λ x is.
      let had = C x is in
      let there = sym (entries_kept x.chunk had.chunk) in
      record {
        chunk = had.chunk;
        ready = record {
          gathered = subst (λ (es : List (ℕ × Entry)). IsGathered st es x) there had.ready.gathered;
          copied = subst (λ (es : List (ℕ × Entry)). left_to_copy st es ≡ []) there had.ready.copied;
        };
      }

  pub names_kept : NamesStand s m kept present told dead log st o c → NamesStand t m kept present told dead log st o c
  names_kept N = record {
    counted = record {
      counts = λ k n. N.counted.counts k n ∙ sym (count_same (λ (i : ℕ). has_name (entries_in t log i) k n) (λ (i : ℕ). has_name (entries_in s log i) k n) log.chunks (λ i has. ap (λ (xs : List (ℕ × Entry)). has_name xs k n) (entries_kept i has)));
      settled = λ h at.
          let was = N.counted.settled h at in
          let there = entries_kept h.chunk (N.read h at).has in
          record {
            between = subst (λ (ys : List (ℕ × Entry)). IsBetween h.place ys) (sym there) was.between;
            none = subst (λ (ys : List (ℕ × Entry)). left_to_copy st ys ≡ left_to_copy st (behind h.place ys)) (sym there) was.none;
          };
    };
    read = N.read;
    floors = floors_moved s t log log st (λ j c. (c, entries_kept j c.has)) N.floors;
    knows = N.knows;
    cleaned = cleaned_kept c N.cleaned;
  }
