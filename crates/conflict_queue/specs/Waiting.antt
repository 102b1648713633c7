-- The waiting requests as callers see them: a list in which each key's requests stand in order of arrival.
-- How requests of different keys stand to one another says nothing.
use Rattle.std.specs.Prelude.{◌≡◌, ◌≢◌, ℕ, ◌+◌, ◌==◌, List, [], ◌∷◌, ◌++◌, length}
use Rattle.std.specs.List.{filter}
use Rattle.fs_model.specs.declared.model.Request.{Request}
use Rattle.fs_model.specs.Cells.{key_of}
use Rattle.conflict_queue.specs.declared.types.Held.{Held}

abbrev pub held_with : ℕ → Request → Held
held_with n r = record { number = n; request = r }

-- the waiting requests of a key, first to last
abbrev pub waiting : List Held → ℕ → List Held
waiting hs k = filter (λ h. key_of h.request == k) hs

-- the request comes behind those of its key, and no other key's list changes
pub record AddsLast (old new : List Held) (h : Held) : Type 0 where
  pub key : waiting new (key_of h.request) ≡ waiting old (key_of h.request) ++ h ∷ []
  pub others : (k : ℕ) → k ≢ key_of h.request → waiting new k ≡ waiting old k
  pub together : length new ≡ length old + 1

-- the first request of the key goes, and no other key's list changes
pub record TakesFirst (old new : List Held) (k : ℕ) (h : Held) : Type 0 where
  pub key : waiting old k ≡ h ∷ waiting new k
  pub others : (j : ℕ) → j ≢ k → waiting new j ≡ waiting old j
  pub together : length old ≡ length new + 1
