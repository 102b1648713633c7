-- What a run does to the cells, by what was posted: each finish of a key leaves what its last post offered.
use Rattle.std.specs.Prelude.{ℕ, Bool, false, cond, ◌||◌, eqb, List, [], ◌∷◌, Option, Some, None}
use Rattle.log_entry.specs.declared.entry.Body.{Body}
use Rattle.log_entry.specs.declared.entry.Body.TheVariants.{Pointer, Embedded, Tombstone}
use Rattle.group_laws.specs.declared.types.Pending.{Pending}
use Rattle.group_laws.specs.Places.{owner}
use Rattle.group_laws.specs.State.{Group}
use Rattle.group_laws.specs.Steps.{left_by}
use Rattle.group_laws.specs.Runs.{Kind, Runs}
use Rattle.group_laws.specs.Runs.Kind.{Post}
use Rattle.group_laws.specs.Finishes.{finished}

-- the cell that an entry is to leave: of one with a pointer the bytes that are posted with it
abbrev pub offer_by : List ℕ → Body → Option (List ℕ)
offer_by value (Pointer p) = Some value
offer_by value (Embedded v) = Some v
offer_by value Tombstone = None

-- what the key's last post offers after a step of this kind
abbrev pub offered : ℕ → Kind → Option (List ℕ) → Option (List ℕ)
offered k (Post s e value) c = cond (eqb k e.key) (offer_by value e.body) c
offered k kind c = c

abbrev pub offer_at : Group → ℕ → Option Pending → Option (List ℕ)
offer_at w m None = None
offer_at w m (Some p) = left_by w m p.entry.body

-- what the key's pending entry offers, by the blocks of its owner
abbrev pub offer_of : Group → ℕ → Option (List ℕ)
offer_of w k = offer_at w (owner w.place k) (w.pending k)

-- a change of the key is among these
abbrev pub has_key : ℕ → List (ℕ × Option (List ℕ)) → Bool
has_key k [] = false
has_key k (f ∷ fs) = eqb k f.0 || has_key k fs

-- The cell of a key after a run: each finish of the key leaves what its last post before it offered, and no other step changes the cell.
abbrev pub settled : ℕ → (w : Group) (steps : List (ℕ × Kind)) (u : Group) → Runs w steps u
    → Option (List ℕ) → Option (List ℕ) → Option (List ℕ)
settled k w [] u r offer cell = cell
settled k w (x ∷ xs) u r offer cell = settled k r.0 xs u r.2 (offered k x.1 offer)
    (cond (has_key k (finished w x.0 x.1 r.0 r.1)) offer cell)
