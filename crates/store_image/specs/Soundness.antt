-- The first broken rule of soundness, in the order in which they are tested.
use Rattle.std.specs.Prelude.{◌≡◌, ℕ, ◌*◌, ◌==◌, ◌&&◌, not, nat_lt, List, [], ◌∷◌, ◌++◌, Bool, true, false, Option, Some, None, Result, Ok, Err, if◌then◌else◌, bytes_eq, option_map}
use Rattle.std.specs.Option.{option_or}
use Rattle.std.specs.List.{list_any, list_all}
use Rattle.log_entry.specs.declared.entry.Body.{Body}
use Rattle.log_entry.specs.declared.entry.Body.TheVariants.{Pointer, Embedded, Tombstone}
use Rattle.log_entry.specs.Batches.{Scan}
use Rattle.chunk_map.specs.declared.layout_sizes.TheConstants.{UNIT_WORDS}
use Rattle.chunk_map.specs.declared.layouts.Geometry.{Geometry}
use Rattle.chunk_map.specs.declared.heads.Head.{Head}
use Rattle.store_image.specs.declared.types.PlacedEntry.{PlacedEntry}
use Rattle.store_image.specs.declared.types.Fault.{Fault}
use Rattle.store_image.specs.declared.types.Fault.TheVariants.{NotARegion, Damaged}
use Rattle.chunk_map.specs.Layouts.{numbers, superblock_rule, layout_of, chunk_first, head_at, owner, is_of_group, has_class}
use Rattle.store_image.specs.Parts.{scan_at, all_entries, block_class}
use Rattle.store_image.specs.Winners.{winner_in, keys_of}

-- the first answer of a list of questions
abbrev pub first_some : {X Y : Type 0} → (X → Option Y) → List X → Option Y
first_some f [] = None
first_some f (x ∷ xs) = option_or (f x) (first_some f xs)

abbrev pub damaged : ℕ → ℕ → ℕ → Fault
damaged c j rule = Damaged c j rule

-- rules 4 to 7 in a chunk: the entries before the first place where none may stand are judged first
abbrev pub rule_of : Geometry → ℕ → Scan → Option ℕ
rule_of l c s =
    if list_all (λ x. is_of_group l c x.1.key) s.entries then (if s.whole then None else Some 6)
    else Some 7

abbrev pub rule_behind : Geometry → ℕ → Result Head ℕ → Scan → Option ℕ
rule_behind l c (Err rule) s = Some rule
rule_behind l c (Ok head) s = rule_of l c s

abbrev pub chunk_rule : Geometry → (ℕ → ℕ) → ℕ → ℕ → Option ℕ
chunk_rule l image c j =
    rule_behind l c (head_at l image (chunk_first l c j)) (scan_at l image (chunk_first l c j))

abbrev pub part_fault : Geometry → (ℕ → ℕ) → ℕ → Option Fault
part_fault l image c =
    first_some (λ j. option_map (damaged c j) (chunk_rule l image c j)) (numbers 0 l.chunks)

abbrev pub chunk_fault : Geometry → (ℕ → ℕ) → Option Fault
chunk_fault l image = first_some (λ c. part_fault l image c) (numbers 0 l.cores)

abbrev pub same_body : Body → Body → Bool
same_body (Pointer p) (Pointer q) = p == q
same_body (Pointer p) (Embedded v) = false
same_body (Pointer p) Tombstone = false
same_body (Embedded u) (Pointer q) = false
same_body (Embedded u) (Embedded v) = bytes_eq u v
same_body (Embedded u) Tombstone = false
same_body Tombstone (Pointer q) = false
same_body Tombstone (Embedded v) = false
same_body Tombstone Tombstone = true

-- rule 8, of two entries
abbrev pub contradicts : PlacedEntry → PlacedEntry → Bool
contradicts x y =
    x.entry.key == y.entry.key && x.entry.version == y.entry.version
    && not (same_body x.entry.body y.entry.body && x.core == y.core)

-- the first that contradicts one before it
abbrev pub clash_after : List PlacedEntry → List PlacedEntry → Option PlacedEntry
clash_after before [] = None
clash_after before (x ∷ xs) =
    if list_any (contradicts x) before then Some x else clash_after (before ++ x ∷ []) xs

abbrev pub clash_fault : List PlacedEntry → Option Fault
clash_fault es = option_map (λ x. damaged x.core x.chunk 8) (clash_after [] es)

abbrev pub points_to : ℕ → Option PlacedEntry → Bool
points_to p None = false
points_to p (Some x) = same_body (Pointer p) x.entry.body

-- rules 9 to 11 of a key whose winner points at p, where there may be a block of a class
abbrev pub pointer_rule : (ℕ → ℕ) → List PlacedEntry → ℕ → ℕ → Option ℕ → Option ℕ
pointer_rule image es k p None = Some 9
pointer_rule image es k p (Some class) =
    if has_class (image (UNIT_WORDS * p)) class then
    (if list_any (λ j. nat_lt j k && points_to p (winner_in j es)) (keys_of es) then Some 11
    else None) else Some 10

abbrev pub body_rule : Geometry → (ℕ → ℕ) → List PlacedEntry → ℕ → Body → Option ℕ
body_rule l image es k (Pointer p) =
    pointer_rule image es k p (block_class l image (owner l k) p)
body_rule l image es k (Embedded v) = None
body_rule l image es k Tombstone = None

abbrev pub winner_fault : Geometry → (ℕ → ℕ) → List PlacedEntry → ℕ → Option PlacedEntry → Option Fault
winner_fault l image es k None = None
winner_fault l image es k (Some x) =
    option_map (damaged x.core x.chunk) (body_rule l image es k x.entry.body)

abbrev pub block_fault : Geometry → (ℕ → ℕ) → List PlacedEntry → Option Fault
block_fault l image es = first_some (λ k. winner_fault l image es k (winner_in k es)) (keys_of es)

-- rules 4 to 11
abbrev pub damage : Geometry → (ℕ → ℕ) → Option Fault
damage l image =
    let es = all_entries l image in
    option_or (chunk_fault l image) (option_or (clash_fault es) (block_fault l image es))

abbrev pub fault_by : (ℕ → ℕ) → Option ℕ → Option Fault
fault_by image None = damage (layout_of image) image
fault_by image (Some rule) = Some (NotARegion rule)

unfoldable pub first_fault : ℕ → (ℕ → ℕ) → Option Fault
first_fault bytes image = fault_by image (superblock_rule bytes image)

abbrev pub IsSound : ℕ → (ℕ → ℕ) → Type 0
IsSound bytes image = first_fault bytes image ≡ None
