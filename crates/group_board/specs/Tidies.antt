-- The two rules on a member's own keys as a function of the state. A state has no list of the names that stand, so such a list is given.
use Rattle.std.specs.Prelude.{◌≡◌, ℕ, ◌==◌, ◌&&◌, ◌||◌, not, nat_lt, Bool, true, List, Some, is_none, if◌then◌else◌}
use Rattle.std.specs.List.{list_all}
use Rattle.log_entry.specs.declared.entry.EntryName.{EntryName}
use Rattle.group_laws.specs.Places.{owner}
use Rattle.group_laws.specs.Updates.{has}
use Rattle.group_laws.specs.State.{Group}
use Rattle.group_laws.specs.Tidying.{tidies}
use Rattle.group_laws.specs.OpeningImages.{is_at}

-- each name that stands is in the list
abbrev pub Covers : List EntryName → Group → Type 0
Covers ns w = (k v h : ℕ) → w.present k v ≡ Some h → has ns k v ≡ true

-- m's key is deleted, nothing of it stands, and no change of it is under way
abbrev pub is_spent : Group → List EntryName → ℕ → ℕ → Bool
is_spent w ns m k = owner w.place k == m && (is_none (w.cell k) &&
    (list_all (λ n. not (n.key == k) || is_none (w.present k n.version)) ns && is_none
    (w.pending k)))

-- no other name of the key stands
abbrev pub stands_alone : Group → List EntryName → ℕ → ℕ → Bool
stands_alone w ns k v = list_all (λ n. not (n.key == k) ||
    (n.version == v || is_none (w.present k n.version))) ns

abbrev pub is_dead : Group → List EntryName → ℕ → ℕ → Bool
is_dead w ns k v = nat_lt v (w.last k) || (v == w.last k &&
    (is_none (w.cell k) && stands_alone w ns k v))

-- a dead entry of m's key stands in m's own log
abbrev pub tells_itself : Group → List EntryName → ℕ → ℕ → ℕ → Bool
tells_itself w ns m k v = owner w.place k == m && (is_at m (w.present k v) && is_dead w ns k v)

-- the state after the rules on m's keys
abbrev pub tidied : Group → List EntryName → ℕ → Group
tidied w ns m =
    tidies w
    (λ k. if is_spent w ns m k then 0 else w.last k)
    (λ k v. w.told k v || tells_itself w ns m k v)
    (λ h k v. w.dead h k v || (h == m && tells_itself w ns m k v))
