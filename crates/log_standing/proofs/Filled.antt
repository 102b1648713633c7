-- Names in a list of entries, and the chunks of a log.
use Rattle.std.proofs.Common.{◌≡◌, ℕ, zero, suc, ◌+◌, ◌<◌, ◌==◌, ◌||◌, Bool, true, false, cond, List, [], ◌∷◌, ◌++◌, length, get_or, Some, is_some, refl, sym, ap, arith}
use Rattle.std.proofs.lemmas.Bool.{cond-true, eq-eqb}
use Rattle.std.proofs.lemmas.List.Folds.{list_any-append}
use Rattle.log_entry.specs.declared.entry.Entry.{Entry}
use Rattle.core_log.specs.declared.types.LogChunk.{LogChunk}
use Rattle.core_log.specs.Log.{tail_of}
use Rattle.log_standing.specs.NameCounts.{bit}
use Rattle.log_standing.specs.ChunkCounts.{is_named, has_name}

pub has_push : (xs : List (ℕ × Entry)) (x : ℕ × Entry) (k v : ℕ) → has_name (xs ++ x ∷ []) k v ≡ (has_name xs k v || (is_named k v x || false))
has_push xs x k v = list_any-append (is_named k v) xs (x ∷ [])

-- truth values
pub again_named : (h q : Bool) → (q ≡ true → h ≡ true) → (h || (q || false)) ≡ h
again_named true q known = refl
again_named false true known = sym (known refl)
again_named false false known = refl

pub new_named : (h q : Bool) → (q ≡ true → h ≡ false) → bit h + bit q ≡ bit (h || (q || false))
new_named true true none = absurd (cc (none refl))
new_named true false none = refl
new_named false true none = refl
new_named false false none = refl

-- a chunk of the list is one of the log's
pub is_there : (cs : List LogChunk) (i : ℕ) (d : LogChunk) → i < length cs → is_some (tail_of cs (get_or cs i d).chunk) ≡ true
is_there [] i d lt = absurd (omega (arith, lt))
is_there (c ∷ cs) zero d lt = ap is_some (cond-true (c.chunk == c.chunk) (Some c.tail) (tail_of cs c.chunk) (eq-eqb c.chunk c.chunk refl))
is_there (c ∷ cs) (suc i) d lt = elim (c.chunk == (get_or cs i d).chunk) as (λ b. is_some (cond b (Some c.tail) (tail_of cs (get_or cs i d).chunk)) ≡ true) [
  | true ↦ refl
  | false ↦ is_there cs i d (omega (arith, lt))
]
