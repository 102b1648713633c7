-- Where the allocator or the log changes, each chunk is still one's or the other's.
use Rattle.std.proofs.Common.{◌≡◌, ◌≢◌, ◌⊎◌, inl, inr, ⊎_elim, ℕ, ◌+◌, ◌<◌, ◌==◌, ◌&&◌, not, Bool, true, false, List, length, Option, Some, None, refl, sym, ◌∙◌, ap, subst}
use Rattle.std.specs.Prelude.{is_some}
use Rattle.std.proofs.lemmas.Bool.{cases_eq, eq-eqb, ne_eqb, and_from}
use Rattle.core_log.specs.declared.types.LogChunk.{LogChunk}
use Rattle.core_log.specs.Log.{LogState, tail_of, with_tail, open_number, open_tail}
use Rattle.core_log.proofs.Clients.{tail_set, tail_other}
use Rattle.lazy_alloc.specs.Sets.{Sets, AreSets, chunk_is_free, chunk_class}
use Rattle.batch_leader.specs.Persisting.{opened_for}
use Rattle.core_worker.specs.OwnChunks.{IsFreeOrData, IsTaken, HasChunk, AreChunks}
use Rattle.core_worker.specs.Turns.{TakesChunkIf}

-- the allocator keeps what it has, and takes back nothing
pub chunk_kept : (a b : Sets) (cs : List LogChunk) (j : ℕ) → (IsFreeOrData a j → IsFreeOrData b j) → (IsTaken a j → IsTaken b j) → HasChunk a cs j → HasChunk b cs j
chunk_kept a b cs j has gave = ⊎_elim (λ x. inl (has x.0, x.1)) (λ y. inr (gave y.0, y.1))

-- so it is where each chunk is free or cut as before
pub chunk_same : (a b : Sets) (cs : List LogChunk) (j : ℕ) → chunk_is_free b j ≡ chunk_is_free a j → chunk_class b j ≡ chunk_class a j → HasChunk a cs j → HasChunk b cs j
chunk_same a b cs j free class = chunk_kept a b cs j
    (⊎_elim (λ e. inl (free ∙ e)) (λ e. inr (ap is_some class ∙ e)))
    (λ t. (free ∙ t.0, class ∙ t.1))

-- a chunk of the log is not the allocator's
pub chunk_taken : (n : ℕ) (a : Sets) (cs : List LogChunk) → AreChunks n a cs → (j : ℕ) → j < n → is_some (tail_of cs j) ≡ true → IsTaken a j
chunk_taken n a cs are j low has = ⊎_elim
    (λ x. absurd (let both : true ≡ false = sym has ∙ ap is_some x.1 in cc both))
    (λ y. y.0)
    (are j low)

-- a chunk of the log stays one
pub has_more : (cs : List LogChunk) (j t i : ℕ) → is_some (tail_of cs i) ≡ true → is_some (tail_of (with_tail cs j t) i) ≡ true
has_more cs j t i e = ⊎_elim
    (λ same. ap (λ (x : ℕ). is_some (tail_of (with_tail cs j t) x)) same ∙ ap is_some (tail_set cs j t))
    (λ ne. ap is_some (tail_other cs j t i ne) ∙ e)
    (cases_eq i j)

pub opened_more : (log : LogState) (o : Option ℕ) (i : ℕ) → is_some (tail_of log.chunks i) ≡ true → is_some (tail_of (opened_for log o).chunks i) ≡ true
opened_more log None i e = e
opened_more log (Some j) i e = has_more log.chunks j 0 i e

pub opened_here : (log : LogState) (o : Option ℕ) (i : ℕ) → o ≡ Some i → is_some (tail_of (opened_for log o).chunks i) ≡ true
opened_here log None i e = absurd (cc e)
opened_here log (Some j) i e = let same : j ≡ i = cc e in ap (λ (x : ℕ). is_some (tail_of (with_tail log.chunks j 0) x)) (sym same) ∙ ap is_some (tail_set log.chunks j 0)

-- where a batch goes to the open chunk, the log has that
abbrev pub HasOpen : LogState → Option ℕ → Type 0
HasOpen log o = o ≡ None → is_some (tail_of log.chunks (open_number log)) ≡ true

-- a chunk that the log hasn't, but for the one that is taken, it hasn't after the batch either
none_more : (log : LogState) (o : Option ℕ) (t i : ℕ) → HasOpen log o → (o ≡ Some i → ⊥) → tail_of log.chunks i ≡ None
    → tail_of (with_tail (opened_for log o).chunks (open_number (opened_for log o)) t) i ≡ None
none_more log None t i opened ne none =
    tail_other log.chunks (open_number log) t i
    (λ same. (let both : true ≡ false = sym (opened refl) ∙ ap (λ (x : ℕ). is_some (tail_of log.chunks x)) (sym same) ∙ ap is_some none in cc both))
    ∙ none
none_more log (Some j) t i opened ne none =
    let off : i ≢ j = λ same. ne (ap Some (sym same)) in
    tail_other (with_tail log.chunks j 0) j t i off ∙ tail_other log.chunks j 0 i off ∙ none

-- what the allocator had it has, but for the chunk that was taken
pub taken_or_had : (f : Bool) (old new : Sets) (o : Option ℕ) → TakesChunkIf f old new o → (i : ℕ) → IsFreeOrData old i → ((o ≡ Some i → ⊥) × IsFreeOrData new i) ⊎ (o ≡ Some i)
taken_or_had true old new None t i had = inl ((λ e. cc e), subst (λ (a : Sets). IsFreeOrData a i) (sym t.1) had)
taken_or_had true old new (Some j) t i had = ⊎_elim
    (λ same. inr (ap Some (sym same)))
    (λ ne. inl ((λ e. ne (let same : j ≡ i = cc e in sym same)), ⊎_elim (λ e. inl (t.free i ∙ and_from (chunk_is_free old i) (not (i == j)) e (ap not (ne_eqb i j ne)))) (λ e. inr (ap is_some (t.classes i) ∙ e)) had))
    (cases_eq i j)
taken_or_had false old new o t i had = inl ((λ e. (let both : None ≡ Some i = sym t.0 ∙ e in cc both)), subst (λ (a : Sets). IsFreeOrData a i) (sym t.1) had)

-- the chunk that was taken is the allocator's no more
pub taken_gone : (f : Bool) (old new : Sets) (o : Option ℕ) → AreSets old → TakesChunkIf f old new o → (i : ℕ) → o ≡ Some i → IsTaken new i
taken_gone true old new None sets t i e = absurd (cc e)
taken_gone true old new (Some j) sets t i e =
    let same : j ≡ i = cc e in
    subst (IsTaken new) same
    (t.free j ∙ ap (λ (b : Bool). chunk_is_free old j && not b) (eq-eqb j j refl) ∙ and_not (chunk_is_free old j), t.classes j ∙ (sets.free_in j t.was_free).1)
  where
    and_not : (b : Bool) → (b && false) ≡ false
    and_not true = refl
    and_not false = refl
taken_gone false old new o sets t i e = absurd (let both : None ≡ Some i = sym t.0 ∙ e in cc both)

-- what it had given away it hasn't
pub taken_still : (f : Bool) (old new : Sets) (o : Option ℕ) → TakesChunkIf f old new o → (i : ℕ) → IsTaken old i → IsTaken new i
taken_still true old new None t i was = subst (λ (a : Sets). IsTaken a i) (sym t.1) was
taken_still true old new (Some j) t i was = (t.free i ∙ ap (λ (b : Bool). b && not (i == j)) was.0, t.classes i ∙ was.1)
taken_still false old new o t i was = subst (λ (a : Sets). IsTaken a i) (sym t.1) was

-- a chunk is opened, or none
pub chunks_opened : (n : ℕ) (f : Bool) (old new : Sets) (o : Option ℕ) (log log' : LogState) → AreSets old → TakesChunkIf f old new o → log' ≡ opened_for log o
    → AreChunks n old log.chunks → AreChunks n new log'.chunks
chunks_opened n f old new o log log' sets takes is had j low = ⊎_elim
    (λ x. ⊎_elim
    (λ y. inl (y.1, ap (λ (l : LogState). tail_of l.chunks j) is ∙ none_opened log o j y.0 x.1))
    (λ here. inr (taken_gone f old new o sets takes j here, ap (λ (l : LogState). is_some (tail_of l.chunks j)) is ∙ opened_here log o j here))
    (taken_or_had f old new o takes j x.0))
    (λ e. inr (taken_still f old new o takes j e.0, ap (λ (l : LogState). is_some (tail_of l.chunks j)) is ∙ opened_more log o j e.1))
    (had j low)
  where
    none_opened : (log : LogState) (o : Option ℕ) (i : ℕ) → (o ≡ Some i → ⊥) → tail_of log.chunks i ≡ None → tail_of (opened_for log o).chunks i ≡ None
    none_opened log None i ne none = none
    none_opened log (Some k) i ne none = tail_other log.chunks k 0 i (λ same. ne (ap Some (sym same))) ∙ none

-- and a batch is appended
pub chunks_wrote : (n : ℕ) (f : Bool) (old new : Sets) (o : Option ℕ) (log log' : LogState) (batch : List ℕ) → AreSets old → TakesChunkIf f old new o → HasOpen log o
    → log' ≡ record (opened_for log o) { chunks = with_tail (opened_for log o).chunks (open_number (opened_for log o)) (open_tail (opened_for log o) + length batch) }
    → AreChunks n old log.chunks → AreChunks n new log'.chunks
chunks_wrote n f old new o log log' batch sets takes opened is had j low = ⊎_elim
    (λ x. ⊎_elim
    (λ y. inl (y.1, ap (λ (l : LogState). tail_of l.chunks j) is ∙ none_more log o (open_tail (opened_for log o) + length batch) j opened y.0 x.1))
    (λ here. inr (taken_gone f old new o sets takes j here, grown (opened_here log o j here)))
    (taken_or_had f old new o takes j x.0))
    (λ e. inr (taken_still f old new o takes j e.0, grown (opened_more log o j e.1)))
    (had j low)
  where
    grown : is_some (tail_of (opened_for log o).chunks j) ≡ true → is_some (tail_of log'.chunks j) ≡ true
    grown e = ap (λ (l : LogState). is_some (tail_of l.chunks j)) is ∙ has_more (opened_for log o).chunks (open_number (opened_for log o)) (open_tail (opened_for log o) + length batch) j e
