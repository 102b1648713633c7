-- The slots that a seat has out, by number.
use Rattle.std.specs.Prelude.{◌≡◌, ◌≢◌, ℕ, ◌*◌, ◌<◌, Bool, true, false, eqb, ◌&&◌, not, List, [], ◌∷◌, Option, Some, None}
use Rattle.std.specs.List.{list_any}
use Rattle.log_entry.specs.declared.entry.Entry.{Entry}
use Rattle.group_laws.specs.declared.group_sizes.TheConstants.{SLOTS}
use Rattle.group_laws.specs.declared.types.Pending.{Pending}
use Rattle.group_laws.specs.Places.{Place, owner}
use Rattle.atomic_board.specs.declared.parcel.Parcel.{Parcel}
use Rattle.atomic_board.specs.TableWords.{pool_place}

-- the number stands among these
abbrev pub has : ℕ → List ℕ → Bool
has k xs = list_any (eqb k) xs

-- none stands twice
abbrev pub distinct : List ℕ → Bool
distinct [] = true
distinct (x ∷ xs) = not (has x xs) && distinct xs

abbrev pub numbers : List (ℕ × Option Parcel) → List ℕ
numbers [] = []
numbers (x ∷ xs) = x.0 ∷ numbers xs

abbrev pub is_nothing : Option Parcel → Bool
is_nothing None = true
is_nothing (Some x) = false

-- nothing lies in them
abbrev pub all_empty : List (ℕ × Option Parcel) → Bool
all_empty [] = true
all_empty (x ∷ xs) = is_nothing x.1 && all_empty xs

-- these slots, with nothing in them
abbrev pub empties : List ℕ → List (ℕ × Option Parcel)
empties [] = []
empties (k ∷ ks) = (k, None) ∷ empties ks

-- no change of these stands in slot t
abbrev pub IsFreeBy : (ℕ → Option Pending) → ℕ → Type 0
IsFreeBy pending t = (k : ℕ) (e : Entry) → pending k ≢ Some (record { entry = e; slot = Some t })

-- an own key has a change in slot t
abbrev pub IsNamedBy : Place → ℕ → (ℕ → Option Pending) → ℕ → Type 0
IsNamedBy p m pending t = (k : ℕ) × (e : Entry) × (owner p k ≡ m)
    × (pending k ≡ Some (record { entry = e; slot = Some t }))

-- A seat has out the own slots that no change stands in, and those of the changes that its member has in its hands. It has no other slot out.
pub record Holds (p : Place) (m n : ℕ) (pending : ℕ → Option Pending) (taken : ℕ → ℕ → Option Entry)
    (held : List ℕ) : Type 0 where
  pub mine : (t : ℕ) → t < SLOTS → IsFreeBy pending t → has (pool_place m t) held ≡ true
  pub hands : (a t : ℕ) (e : Entry) → a < n → t < SLOTS → taken a t ≡ Some e
      → has (pool_place a t) held ≡ true
  pub others : (a t : ℕ) → a < n → t < SLOTS → (a ≡ m → IsNamedBy p m pending t) → taken a t ≡ None
      → has (pool_place a t) held ≡ false
  pub below : (k : ℕ) → has k held ≡ true → k < SLOTS * n
