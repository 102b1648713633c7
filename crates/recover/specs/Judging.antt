-- The rules on winners, told of a list of them by rising key.
use Rattle.std.specs.Prelude.{◌≡◌, ℕ, ◌*◌, Bool, List, [], ◌∷◌, ◌++◌, Option, Some, None, option_map, if◌then◌else◌}
use Rattle.std.specs.Option.{option_or}
use Rattle.std.specs.List.{list_any}
use Rattle.std.specs.Ordering.{nat_cmp}
use Rattle.std.specs.BTreeSet.{BTreeSet, contains}
use Rattle.log_entry.specs.declared.entry.Body.{Body}
use Rattle.log_entry.specs.declared.entry.Body.TheVariants.{Pointer, Embedded, Tombstone}
use Rattle.chunk_map.specs.declared.layouts.Geometry.{Geometry}
use Rattle.chunk_map.specs.Layouts.{owner, has_class}
use Rattle.store_image.specs.declared.types.PlacedEntry.{PlacedEntry}
use Rattle.store_image.specs.declared.types.Fault.{Fault}
use Rattle.store_image.specs.Parts.{block_class}
use Rattle.store_image.specs.Soundness.{damaged, same_body}
use Rattle.chunk_map.specs.declared.layout_sizes.TheConstants.{UNIT_WORDS}

-- whether one of these entries has the pointer
abbrev pub is_taken : ℕ → List PlacedEntry → Bool
is_taken p ws = list_any (λ x. same_body (Pointer p) x.entry.body) ws

-- the first rule of 9 to 11 that a pointer breaks beside those of smaller keys, by the class of the block there
abbrev pub rule_beside : (ℕ → ℕ) → List PlacedEntry → ℕ → Option ℕ → Option ℕ
rule_beside image before p None = Some 9
rule_beside image before p (Some class) = if has_class (image (UNIT_WORDS * p)) class then
    (if is_taken p before then Some 11 else None) else Some 10

abbrev pub body_beside : Geometry → (ℕ → ℕ) → List PlacedEntry → ℕ → Body → Option ℕ
body_beside l image before k (Pointer p) = rule_beside image before p
    (block_class l image (owner l k) p)
body_beside l image before k (Embedded v) = None
body_beside l image before k Tombstone = None

abbrev pub fault_beside : Geometry → (ℕ → ℕ) → List PlacedEntry → PlacedEntry → Option Fault
fault_beside l image before x = option_map (damaged x.core x.chunk)
    (body_beside l image before x.entry.key x.entry.body)

-- the first winner that breaks one of the rules, behind those before
abbrev pub winners_fault : Geometry → (ℕ → ℕ) → List PlacedEntry → List PlacedEntry → Option Fault
winners_fault l image before [] = None
winners_fault l image before (x ∷ xs) = option_or (fault_beside l image before x)
    (winners_fault l image (before ++ x ∷ []) xs)

-- the set has exactly the pointers of these entries
abbrev pub HasPointers : BTreeSet ℕ → List PlacedEntry → Type 0
HasPointers taken ws = (p : ℕ) → contains nat_cmp taken p ≡ is_taken p ws
