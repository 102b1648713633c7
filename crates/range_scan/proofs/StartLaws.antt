-- What recovery gives says which keys are live, and where their values are.
use Rattle.std.proofs.Common.{◌≡◌, ⊎_elim, inl, inr, ℕ, zero, suc, ◌+◌, ◌*◌, ◌/◌, ◌%◌, ◌<◌, ◌≤◌, ◌==◌, ◌&&◌, ◌||◌, leb, List, [], ◌∷◌, length, get_or, Bool, true, false, cond, Option, Some, None, Result, Ok, Err, refl, sym, ◌∙◌, ap, subst, arith}
use Rattle.std.specs.Prelude.{is_some, slice_index_or}
use Rattle.std.specs.Option.{option_and_then}
use Rattle.std.specs.List.{list_any}
use Rattle.std.proofs.lemmas.Bool.{eqb-true, and_parts, or_cases, or_from, true≢false, false_from_ne_true}
use Rattle.log_entry.specs.declared.entry.Body.{Body}
use Rattle.log_entry.specs.declared.entry.Body.TheVariants as bodies
use Rattle.pm_region.specs.State.{State, Frame, IsTelling}
use Rattle.pm_region.specs.Words.{lasts}
use Rattle.chunk_map.specs.declared.layouts.Geometry.{Geometry}
use Rattle.chunk_map.specs.declared.heads.Head.{Head}
use Rattle.chunk_map.specs.declared.heads.Head.TheVariants.{Free, Log, Data}
use Rattle.chunk_map.specs.Layouts.{IsLayout, chunk_first, chunk_words, head_at, has_class, layout_of, owner, part_first}
use Rattle.chunk_map.proofs.Clients.{part_within}
use Rattle.store_image.specs.declared.types.PlacedEntry.{PlacedEntry}
use Rattle.store_image.specs.Facts.{In, KeepsRules}
use Rattle.store_image.specs.Listing.{IsRising}
use Rattle.store_image.specs.Parts.{chunk_at, unit_at, class_behind, block_class, block_bytes, value_in_block, value_by_class}
use Rattle.store_image.specs.Winners.{winner, cell_by, recovered}
use Rattle.store_image.proofs.Clients.{layout_numbers, pairs_of, lists_cells}
use Rattle.core_index.specs.Records.{KeyRecord, is_tombstone, live_version, block_of}
use Rattle.core_index.specs.Index.{known_at}
use Rattle.lazy_alloc.specs.Heads.{class_in}
use Rattle.lazy_alloc.specs.Sets.{Sets, start_in, chunk_class, class_at}
use Rattle.lazy_alloc.specs.Written.{PartLies}
use Rattle.recover.specs.declared.types.CoreStart.{CoreStart}
use Rattle.recover.specs.declared.types.Recovered.{Recovered}
use Rattle.recover.specs.Listing.{cell_known}
use Rattle.recover.specs.Recovering.{IsMade, IsOf, IsFound, cells_found}
use Rattle.recover.specs.Regions.{Covers}
use Rattle.recover.specs.Starts.{IsAllocatorOf, KnownAs}
use Rattle.range_scan.specs.Keys.{has}
use Rattle.range_scan.specs.LiveKeys.{AreLiveKeys, is_live}
use Rattle.range_scan.specs.Starts.{AreStartsOf, AreStartsIn, HasBlock, HasLivePairs}
use Rattle.range_scan.proofs.PairLaws.{keys_listed}

-- a block that has a value has a class, which the length is of
held_class : (image : ℕ → ℕ) (q : ℕ) (o : Option ℕ) (v : List ℕ) → value_by_class image q o ≡ Some v → (class : ℕ) × (o ≡ Some class) × (has_class (image (32 * q)) class ≡ true)
held_class image q None v e = absurd (cc e)
held_class image q (Some class) v e = by (has_class (image (32 * q)) class) refl e where
  by : (b : Bool) → has_class (image (32 * q)) class ≡ b → cond b (Some (block_bytes image q)) None ≡ Some v → (c : ℕ) × (Some class ≡ Some c) × (has_class (image (32 * q)) c ≡ true)
  by true fits is = (class, refl, fits)
  by false fits is = absurd (cc is)

behind_is : (l : Geometry) (u : ℕ) (h : Result Head ℕ) → class_behind l u h ≡ option_and_then (start_in l u) (class_in h)
behind_is l u (Ok Free) = refl
behind_is l u (Ok (Log tail)) = refl
behind_is l u (Ok (Data class)) = refl
behind_is l u (Err rule) = refl

-- the allocator of a core knows the blocks of its part
module _ (l : Geometry) (layout : IsLayout l) (image : ℕ → ℕ) (c : ℕ) (a : Sets) (layout_is : a.layout ≡ l) (part_is : a.part ≡ c) (is : IsAllocatorOf l image c a) where
  class_here : (q : ℕ) → (leb 16 q && chunk_at l q / l.chunks == c) ≡ true → class_behind l (unit_at l q) (head_at l image (512 + chunk_at l q * chunk_words l)) ≡ option_and_then (start_in l (unit_at l q)) (chunk_class a (chunk_at l q % l.chunks))
  class_here q test =
      let part : chunk_at l q / l.chunks ≡ c = eqb-true (chunk_at l q / l.chunks) c (and_parts (leb 16 q) (chunk_at l q / l.chunks == c) test).1 in
      let many = (layout_numbers l layout).chunks in
      let low : chunk_at l q % l.chunks < l.chunks = omega (arith, many) in
      let split : l.chunks * (chunk_at l q / l.chunks) + chunk_at l q % l.chunks ≡ chunk_at l q = omega (arith, many) in
      let number : chunk_at l q ≡ c * l.chunks + chunk_at l q % l.chunks = sym split ∙ ap (λ n. l.chunks * n + chunk_at l q % l.chunks) part ∙ omega arith in
      ap (λ n. class_behind l (unit_at l q) (head_at l image (512 + n * chunk_words l))) number
      ∙ behind_is l (unit_at l q) (head_at l image (chunk_first l c (chunk_at l q % l.chunks)))
      ∙ ap (option_and_then (start_in l (unit_at l q))) (sym (is.class (chunk_at l q % l.chunks) low))

  same_class : (q : ℕ) → block_class l image c q ≡ class_at a q
  same_class q = (elim (leb 16 q && chunk_at l q / l.chunks == c) as (λ b. (leb 16 q && chunk_at l q / l.chunks == c) ≡ b
      → cond b (class_behind l (unit_at l q) (head_at l image (512 + chunk_at l q * chunk_words l))) None ≡ cond b (option_and_then (start_in l (unit_at l q)) (chunk_class a (chunk_at l q % l.chunks))) None) [
        | true ↦ λ test. class_here q test
        | false ↦ λ test. refl
      ] refl)
      ∙ sym (λ i. cond (leb 16 q && chunk_at (layout_is i) q / (layout_is i).chunks == part_is i) (option_and_then (start_in (layout_is i) (unit_at (layout_is i) q)) (chunk_class a (chunk_at (layout_is i) q % (layout_is i).chunks))) None)

  pub has_block : (q : ℕ) (v : List ℕ) → value_in_block l image c q ≡ Some v → HasBlock image a q
  has_block q v held =
      let h = held_class image q (block_class l image c q) v held in
      (h.0, sym (same_class q) ∙ h.1, h.2)

-- a key is live where it has a cell
some_live : (blocks : ℕ → List ℕ) (o : Option KeyRecord) → is_some (cell_known (λ p. Some (blocks p)) o) ≡ is_some (live_version o)
some_live blocks None = refl
some_live blocks (Some r) = by r.body where
  by : (b : Body) → is_some (cell_by (λ p. Some (blocks p)) b) ≡ is_some (cond (is_tombstone b) None (Some r.version))
  by (bodies.Pointer p) = refl
  by (bodies.Embedded v) = refl
  by bodies.Tombstone = refl

none_pass : {X : Type 0} (p : X → Bool) (xs : List X) (d : X) → ((i : ℕ) → i < length xs → p (get_or xs i d) ≡ false) → list_any p xs ≡ false
none_pass p [] d each = refl
none_pass p (x ∷ xs) d each = or_from (p x) (list_any p xs) (each 0 (omega arith)) (none_pass p xs d (λ i lt. each (suc i) (omega (arith, lt))))

or_false : (b : Bool) → (b || false) ≡ b
or_false true = refl
or_false false = refl

-- only one item can pass
any_only : {X : Type 0} (p : X → Bool) (xs : List X) (c : ℕ) (d : X) → c < length xs → ((i : ℕ) → i < length xs → (i ≡ c → ⊥) → p (get_or xs i d) ≡ false) → list_any p xs ≡ p (get_or xs c d)
any_only p [] c d low others = absurd (omega (arith, low))
any_only p (x ∷ xs) zero d low others = ap (λ b. p x || b) (none_pass p xs d (λ i lt. others (suc i) (omega (arith, lt)) (λ e. absurd (omega (arith, e))))) ∙ or_false (p x)
any_only p (x ∷ xs) (suc c) d low others = ap (λ b. b || list_any p xs) (others 0 (omega arith) (λ e. absurd (omega (arith, e)))) ∙ any_only p xs c d (omega (arith, low)) (λ i lt ne. others (suc i) (omega (arith, lt)) (λ e. ne (omega (arith, e))))

module _ (l : Geometry) (layout : IsLayout l) (image : ℕ → ℕ) (r : Recovered) (is : IsOf l image r) (rules : KeepsRules l image) (count : length r.starts.items ≡ l.cores) where
  abbrev starts : List CoreStart
  starts = r.starts.items

  pub owner_low : (k : ℕ) → owner l k < length starts
  owner_low k = let some = (layout_numbers l layout).cores in omega (arith, some, count)

  owner_in : (k : ℕ) → owner l k < l.cores
  owner_in k = let some = (layout_numbers l layout).cores in omega (arith, some)

  by_winner : (k : ℕ) (o : Option PlacedEntry) (known : Option KeyRecord) → KnownAs o known → winner l image k ≡ o → cell_known (λ p. Some (block_bytes image p)) known ≡ option_and_then (λ (x : PlacedEntry). cell_by (value_in_block l image (owner l k)) x.entry.body) o
  by_winner k None known same w = ap (cell_known (λ p. Some (block_bytes image p))) same
  by_winner k (Some x) None same w = absurd same
  by_winner k (Some x) (Some known) same w = ap (cell_by (λ p. Some (block_bytes image p))) same.1 ∙ by x.entry.body refl where
    by : (b : Body) → x.entry.body ≡ b → cell_by (λ p. Some (block_bytes image p)) b ≡ cell_by (value_in_block l image (owner l k)) b
    by (bodies.Pointer p) e = sym (rules.holds k p x w e)
    by (bodies.Embedded v) e = refl
    by bodies.Tombstone e = refl

  -- the cell of a key by the index of its core
  pub cell_by_index : (k : ℕ) (d : CoreStart) → cell_known (λ p. Some (block_bytes image p)) (known_at (slice_index_or starts (owner l k) d).index k) ≡ recovered l image k
  cell_by_index k d = by_winner k (winner l image k) (known_at (slice_index_or starts (owner l k) d).index k) ((is.indexes (owner l k) d (owner_in k)).known k refl) refl

  -- no other core knows it
  others : (k : ℕ) (d : CoreStart) (i : ℕ) → i < length starts → (i ≡ owner l k → ⊥) → is_live k (slice_index_or starts i d) ≡ false
  others k d i lt ne = ap (λ o. is_some (live_version o)) ((is.indexes i d (omega (arith, lt, count))).others k (λ e. ne (sym e)))

  pub live_cells : (k : ℕ) (d : CoreStart) → list_any (is_live k) starts ≡ is_some (recovered l image k)
  live_cells k d =
      any_only (is_live k) starts (owner l k) d (owner_low k) (others k d)
      ∙ sym (some_live (block_bytes image) (known_at (slice_index_or starts (owner l k) d).index k))
      ∙ ap is_some (cell_by_index k d)

  -- the block of its value is one of the part
  pointed : (k p : ℕ) (known : KeyRecord) (o : Option PlacedEntry) → KnownAs o (Some known) → winner l image k ≡ o → known.body ≡ bodies.Pointer p → value_in_block l image (owner l k) p ≡ Some (block_bytes image p)
  pointed k p known None same w b = absurd (cc same)
  pointed k p known (Some x) same w b = rules.holds k p x w (sym same.1 ∙ b)

  record_of : (o : Option KeyRecord) (p : ℕ) → block_of o ≡ Some p → (known : KeyRecord) × (o ≡ Some known) × (known.body ≡ bodies.Pointer p)
  record_of None p e = absurd (cc e)
  record_of (Some known) p e = (known, refl, by known.body e) where
    by : (b : Body) → block_of (Some (record { version = 0; body = b; standing = [] })) ≡ Some p → b ≡ bodies.Pointer p
    by (bodies.Pointer q) e = ap bodies.Pointer (cc e)
    by (bodies.Embedded v) e = absurd (cc e)
    by bodies.Tombstone e = absurd (cc e)

  pub block_there : (k : ℕ) (d : CoreStart) → (slice_index_or starts (owner l k) d).allocator.layout ≡ l → (slice_index_or starts (owner l k) d).allocator.part ≡ owner l k → (p : ℕ) → block_of (known_at (slice_index_or starts (owner l k) d).index k) ≡ Some p → HasBlock image (slice_index_or starts (owner l k) d).allocator p
  block_there k d layout_is part_is p e =
      let at = slice_index_or starts (owner l k) d in
      let rec = record_of (known_at at.index k) p e in
      let known = subst (KnownAs (winner l image k)) rec.1 ((is.indexes (owner l k) d (owner_in k)).known k refl) in
      has_block l layout image (owner l k) at.allocator layout_is part_is (is.allocators (owner l k) d (owner_in k)) p (block_bytes image p)
      (pointed k p rec.0 (winner l image k) known refl rec.2)

-- as recovery gives them
module _ (bytes : ℕ) (image : ℕ → ℕ) (r : Recovered) (made : IsMade bytes r) (found : IsFound bytes image r) where
  pub same_layout : r.layout ≡ layout_of image
  same_layout = found.is_of.layout_is

  pub of_own : IsOf r.layout image r
  of_own = subst (λ (k : Geometry). IsOf k image r) (sym same_layout) found.is_of

  pub rules_own : KeepsRules r.layout image
  rules_own = subst (λ (k : Geometry). KeepsRules k image) (sym same_layout) found.sound.rules

  live_found : (k : ℕ) (d : CoreStart) → list_any (is_live k) r.starts.items ≡ is_some (cells_found image k)
  live_found k d = live_cells r.layout made.layout image r of_own rules_own made.count k d ∙ ap (λ (l : Geometry). is_some (recovered l image k)) same_layout

  no_start : r.starts.items ≡ [] → ⊥
  no_start none = let some = (layout_numbers r.layout made.layout).cores in let count = sym (ap length none) ∙ made.count in omega (arith, some, count)

  pub live_everywhere : (k : ℕ) → list_any (is_live k) r.starts.items ≡ is_some (cells_found image k)
  live_everywhere k = by r.starts.items refl where
    by : (xs : List CoreStart) → r.starts.items ≡ xs → list_any (is_live k) r.starts.items ≡ is_some (cells_found image k)
    by [] e = absurd (no_start e)
    by (x ∷ xs) e = live_found k x

has_in : (k : ℕ) (ks : List ℕ) → has ks k ≡ true → In k ks
has_in k [] is = absurd (true≢false (sym is))
has_in k (j ∷ js) is = ⊎_elim
    (λ (here : (j == k) ≡ true). inl (sym (eqb-true j k here)))
    (λ (there : has js k ≡ true). inr (has_in k js there))
    (or_cases (j == k) (has js k) is)

not_some : (o : Option (List ℕ)) → is_some o ≡ false → o ≡ None
not_some None e = refl
not_some (Some v) e = absurd (true≢false e)

-- live keys are those of the pairs that list the cells
pub live_pairs_of : (cells : ℕ → Option (List ℕ)) (keys : List ℕ) → IsRising keys → ((k : ℕ) → has keys k ≡ is_some (cells k)) → HasLivePairs cells keys
live_pairs_of cells keys rising live =
    let lists = lists_cells cells keys rising (λ k none. not_some (cells k) (sym (live k) ∙ false_from_ne_true (has keys k) (λ is. none (has_in k keys is)))) in
    (pairs_of cells keys, lists, keys_listed cells keys (pairs_of cells keys) rising live lists)

pub live_in_cells : (image : ℕ → ℕ) (starts : List CoreStart) (keys : List ℕ) → AreStartsOf image starts → AreLiveKeys starts keys → (k : ℕ) → has keys k ≡ is_some (cells_found image k)
live_in_cells image starts keys s live k = live.each k ∙ ap (list_any (is_live k)) (sym s.starts_are) ∙ live_everywhere s.bytes image s.all s.made s.found k

pub pairs_found : (image : ℕ → ℕ) (starts : List CoreStart) (keys : List ℕ) → AreStartsOf image starts → AreLiveKeys starts keys → HasLivePairs (cells_found image) keys
pairs_found image starts keys s live = live_pairs_of (cells_found image) keys live.rising (live_in_cells image starts keys s live)

-- the part of a core lies in the region
lies_part : (f : Frame) (l : Geometry) (c : ℕ) (a : Sets) → Covers f l → c < l.cores → a.layout ≡ l → a.part ≡ c → PartLies f a
lies_part f l c a covers lt layout_is part_is =
    let first = covers.first in
    let words = covers.words in
    let within = part_within l c covers.layout lt in
    let most = (layout_numbers l covers.layout).total in
    let same : part_first a.layout (a.part + 1) ≡ part_first l (c + 1) = λ i. part_first (layout_is i) (part_is i + 1) in
    let zero : f.first ≡ 0 = first in
    record {
      low = omega (arith, zero);
      high = omega (arith, zero, words, within, same);
      fits = omega (arith, zero, words, most);
    }

-- the start of a key's core, in a region as it stands
module _ (s : State) (starts : List CoreStart) (is : AreStartsIn s starts) (k : ℕ) (x : CoreStart) (at : x ≡ slice_index_or starts (k % length starts) x) where
  abbrev l : Geometry
  l = is.all.layout

  here : x ≡ slice_index_or is.all.starts.items (owner l k) x
  here = at ∙ ap (λ (xs : List CoreStart). slice_index_or xs (k % length xs) x) (sym is.starts_are) ∙ ap (λ (n : ℕ). slice_index_or is.all.starts.items (k % n) x) is.made.count

  low : owner l k < l.cores
  low = let some = (layout_numbers l is.made.layout).cores in omega (arith, some)

  layout_here : (slice_index_or is.all.starts.items (owner l k) x).allocator.layout ≡ l
  layout_here = (is.made.starts (owner l k) x low).allocator_layout

  part_here : (slice_index_or is.all.starts.items (owner l k) x).allocator.part ≡ owner l k
  part_here = (is.made.starts (owner l k) x low).allocator_part

  pub lies_here : PartLies s.frame x.allocator
  lies_here = subst (λ (d : CoreStart). PartLies s.frame d.allocator) (sym here) (lies_part s.frame l (owner l k) (slice_index_or is.all.starts.items (owner l k) x).allocator is.covers low layout_here part_here)

  pub block_here : IsTelling s → (p : ℕ) → block_of (known_at x.index k) ≡ Some p → HasBlock (lasts s) x.allocator p
  block_here telling p e =
      let found = is.found telling in
      subst (λ (d : CoreStart). HasBlock (lasts s) d.allocator p) (sym here)
      (block_there l is.made.layout (lasts s) is.all (of_own is.bytes (lasts s) is.all is.made found) (rules_own is.bytes (lasts s) is.all is.made found) is.made.count k x layout_here part_here p
      (ap (λ (d : CoreStart). block_of (known_at d.index k)) (sym here) ∙ e))

  pub cell_here : IsTelling s → cell_known (λ p. Some (block_bytes (lasts s) p)) (known_at x.index k) ≡ cells_found (lasts s) k
  cell_here telling =
      let found = is.found telling in
      ap (λ (d : CoreStart). cell_known (λ p. Some (block_bytes (lasts s) p)) (known_at d.index k)) here
      ∙ cell_by_index l is.made.layout (lasts s) is.all (of_own is.bytes (lasts s) is.all is.made found) (rules_own is.bytes (lasts s) is.all is.made found) is.made.count k x
      ∙ ap (λ (g : Geometry). recovered g (lasts s) k) (same_layout is.bytes (lasts s) is.all is.made found)

-- there is a core
pub some_core : (s : State) (starts : List CoreStart) → AreStartsIn s starts → 1 ≤ length starts
some_core s starts is =
    let some = (layout_numbers is.all.layout is.made.layout).cores in
    let count = sym (ap (λ (xs : List CoreStart). length xs) is.starts_are) ∙ is.made.count in
    omega (arith, some, count)

pub starts_of : (s : State) (starts : List CoreStart) → AreStartsIn s starts → IsTelling s → AreStartsOf (lasts s) starts
starts_of s starts is telling = record { bytes = is.bytes; all = is.all; starts_are = is.starts_are; made = is.made; found = is.found telling }
