-- The live pairs are those of the recovered cells.
use Rattle.std.proofs.Common.{◌≡◌, ◌≢◌, ⊎_elim, ℕ, ◌+◌, ◌<◌, ◌≤◌, ltb, List, [], ◌∷◌, ◌++◌, length, get_or, Bool, true, false, cond, Option, Some, None, refl, sym, ◌∙◌, ap, subst, arith, append_assoc}
use Rattle.std.specs.Prelude.{slice_index_or}
use Rattle.std.specs.Option.{option_and_then}
use Rattle.std.specs.List.{AllByRecursion}
use Rattle.std.specs.List.{list_any}
use Rattle.std.specs.List.Sorted.{IsStrictlySortedBy}
use Rattle.std.specs.Ordering.{nat_cmp}
use Rattle.std.specs.declared.cmp.Ordering.TheVariants.{Less}
use Rattle.std.specs.Cmp.{ranked, unsigned_tied}
use Rattle.std.specs.BTreeMap.{is_at}
use Rattle.std.specs.BTreeSet.{BTreeSet, contains, Updates}
use Rattle.std.proofs.lemmas.Bool.{eqb-true, ltb-true, ltb-false, cases_eq}
use Rattle.std.proofs.lemmas.List.{get_or_past, get_or_read}
use Rattle.std.proofs.lemmas.Option.{slice_get-get_or}
use Rattle.std.proofs.lemmas.Map.Keys.{sorted_head, sorted_tail}
use Rattle.fs_model.specs.declared.model.Pair.{Pair}
use Rattle.log_entry.specs.declared.entry.EntryName.{EntryName}
use Rattle.log_entry.specs.declared.entry.Body.{Body}
use Rattle.log_entry.specs.declared.entry.Body.TheVariants.{Pointer, Embedded, Tombstone}
use Rattle.chunk_map.specs.declared.layouts.Geometry.{Geometry}
use Rattle.chunk_map.specs.Layouts.{owner}
use Rattle.store_image.specs.declared.types.PlacedEntry.{PlacedEntry}
use Rattle.store_image.specs.Parts.{value_in_block}
use Rattle.store_image.specs.Winners.{winner, cell_by, recovered}
use Rattle.store_image.specs.Listing.{IsRising, with_pair}
use Rattle.store_image.specs.Facts.{In}
use Rattle.store_image.proofs.Clients.{pairs_of}
use Rattle.core_index.specs.Records.{KeyRecord, is_tombstone, live_version}
use Rattle.core_index.specs.Index.{known_at}
use Rattle.lazy_alloc.specs.Sets.{chunk_is_due}
use Rattle.recover.specs.declared.types.CoreStart.{CoreStart}
use Rattle.recover.specs.declared.types.Recovered.{Recovered}
use Rattle.recover.specs.Starts.{KnownAs}
use Rattle.recover.specs.Listing.{cell_known}
use Rattle.recover.specs.Recovering.{IsOf}
use Rattle.recover.proofs.ListLaws.{any_found}

module _ (cells : ℕ → Option (List ℕ)) where
  -- one more
  pub pair_more : (old new : List Pair) (k : ℕ) (ks : List ℕ) (v : Option (List ℕ)) → new ≡ old ++ with_pair k v [] → v ≡ cells k → new ++ pairs_of cells ks ≡ old ++ pairs_of cells (k ∷ ks)
  pair_more old new k ks v is value =
      ap (λ p. p ++ pairs_of cells ks) is ∙ append_assoc old (with_pair k v []) (pairs_of cells ks) ∙ ap (λ p. old ++ p) (before v ∙ ap (λ o. with_pair k o (pairs_of cells ks)) value)
    where
      before : (o : Option (List ℕ)) → with_pair k o [] ++ pairs_of cells ks ≡ with_pair k o (pairs_of cells ks)
      before None = refl
      before (Some v) = refl

module _ (l : Geometry) (image : ℕ → ℕ) (r : Recovered) (is : IsOf l image r) where
  -- there is a start for each core: one that is not there would be due and not due
  abbrev some_start : CoreStart
  some_start = record {
    core = 0;
    log = record { layout = l; part = 0; chunks = []; opened = None };
    allocator = record { layout = l; part = 0; chunks = record { is_free = false; class = None; is_due = true } ∷ []; used = [] };
    index = [];
    standing = record { entries = []; room = 0; settled = None; tally = None; floors = [] };
  }

  missing : (c : ℕ) → c < l.cores → length r.starts.items ≤ c → ⊥
  missing c lt le = cc (sym (ap (λ (s : CoreStart). chunk_is_due s.allocator 0) (get_or_past r.starts.items c some_start le)) ∙ (is.allocators c some_start lt).due 0)

  pub has_start : (c : ℕ) → c < l.cores → c < length r.starts.items
  has_start c lt = elim (ltb c (length r.starts.items)) as (λ b. ltb c (length r.starts.items) ≡ b → c < length r.starts.items) [
    | true ↦ λ e. ltb-true c (length r.starts.items) e
    | false ↦ λ e. absurd (missing c lt (ltb-false c (length r.starts.items) e))
  ] refl

  -- the cell by the index of the key's core
  same_cell : (blocks : ℕ → Option (List ℕ)) (o : Option PlacedEntry) (known : Option KeyRecord) → KnownAs o known → cell_known blocks known ≡ option_and_then (λ (x : PlacedEntry). cell_by blocks x.entry.body) o
  same_cell blocks None known as_known = ap (cell_known blocks) as_known
  same_cell blocks (Some x) None as_known = absurd as_known
  same_cell blocks (Some x) (Some known) as_known = ap (cell_by blocks) as_known.1

  pub cell_is : (k : ℕ) (d : CoreStart) → owner l k < l.cores → cell_known (value_in_block l image (owner l k)) (known_at (slice_index_or r.starts.items (owner l k) d).index k) ≡ recovered l image k
  cell_is k d lt = same_cell (value_in_block l image (owner l k)) (winner l image k) (known_at (slice_index_or r.starts.items (owner l k) d).index k) ((is.indexes (owner l k) d lt).known k refl)

  -- a key that is not live has no cell
  not_live : (blocks : ℕ → Option (List ℕ)) (known : Option KeyRecord) → ((v : ℕ) → live_version known ≡ Some v → ⊥) → cell_known blocks known ≡ None
  not_live blocks None none = refl
  not_live blocks (Some known) none = by known.body refl where
    by : (b : Body) → known.body ≡ b → cell_by blocks known.body ≡ None
    by (Pointer p) body = absurd (none known.version (ap (λ b. cond (is_tombstone b) None (Some known.version)) body))
    by (Embedded v) body = absurd (none known.version (ap (λ b. cond (is_tombstone b) None (Some known.version)) body))
    by Tombstone body = ap (cell_by blocks) body

  pub no_cell : (ks : List ℕ) → ((c k v : ℕ) (d : CoreStart) → c < length r.starts.items → live_version (known_at (slice_index_or r.starts.items c d).index k) ≡ Some v → In k ks) → (k : ℕ) → owner l k < l.cores → (In k ks → ⊥) → recovered l image k ≡ None
  no_cell ks live k lt none =
      sym (cell_is k some_start lt) ∙ not_live (value_in_block l image (owner l k)) (known_at (slice_index_or r.starts.items (owner l k) some_start).index k) (λ v is. none (live (owner l k) k v some_start (has_start (owner l k) lt) is))

-- the keys of a set
pub set_rises : (ks : List ℕ) → IsStrictlySortedBy nat_cmp ks → IsRising ks
unfolding IsStrictlySortedBy
set_rises [] sorted = tt
set_rises (k ∷ ks) sorted = (above ks (sorted_head nat_cmp k ks sorted), set_rises ks (sorted_tail nat_cmp k ks sorted)) where
  above : (ks : List ℕ) → AllByRecursion (λ y. nat_cmp k y ≡ Less) ks → AllByRecursion (λ y. k < y) ks
  above [] all = tt
  above (j ∷ js) all = (ranked k j Less (sym all.0), above js all.1)

pub set_has : (k : ℕ) (ks : List ℕ) → list_any (is_at (nat_cmp k)) ks ≡ true → In k ks
set_has k ks has = let found = any_found (is_at (nat_cmp k)) ks has in subst (λ (j : ℕ). In j ks) (sym (eqb-true k found.0 (sym (unsigned_tied k found.0) ∙ found.2))) found.1

-- a key more
pub set_kept : (old new : BTreeSet ℕ) (k : ℕ) → Updates nat_cmp old new k true → (q : ℕ) → contains nat_cmp old q ≡ true → contains nat_cmp new q ≡ true
set_kept old new k updates q has = updates.0 q ∙ ap (cond (is_at (nat_cmp k) q) true) has ∙ either (is_at (nat_cmp k) q) where
  either : (b : Bool) → cond b true true ≡ true
  either true = refl
  either false = refl

any_default : {X : Type 0} (xs : List X) (n : ℕ) (d e : X) → n < length xs → get_or xs n d ≡ get_or xs n e
any_default xs n d e lt = let same : Some (get_or xs n d) ≡ Some (get_or xs n e) = sym (slice_get-get_or xs n d lt) ∙ slice_get-get_or xs n e lt in cc same

pub names_added : (old new : BTreeSet ℕ) (names : List EntryName) (n : ℕ) (e : EntryName) → n < length names → Updates nat_cmp old new (get_or names n e).key true → ((i : ℕ) (d : EntryName) → i < n → contains nat_cmp old (slice_index_or names i d).key ≡ true)
    → (i : ℕ) (d : EntryName) → i < n + 1 → contains nat_cmp new (slice_index_or names i d).key ≡ true
names_added old new names n e low updates has i d lt = ⊎_elim
    (λ (same : i ≡ n). ap (λ (j : ℕ). contains nat_cmp new (slice_index_or names j d).key) same ∙ ap (λ (y : EntryName). contains nat_cmp new y.key) (any_default names n d e low) ∙ updates.1)
    (λ (ne : i ≢ n). set_kept old new (get_or names n e).key updates (slice_index_or names i d).key (has i d (omega (arith, lt, ne))))
    (cases_eq i n)

pub live_added : (old new : BTreeSet ℕ) (starts : List CoreStart) (n : ℕ) (x : CoreStart) → n < length starts → x ≡ get_or starts n x → ((k : ℕ) → contains nat_cmp old k ≡ true → contains nat_cmp new k ≡ true) → ((k v : ℕ) → live_version (known_at x.index k) ≡ Some v → contains nat_cmp new k ≡ true)
    → ((c k v : ℕ) (d : CoreStart) → c < n → live_version (known_at (slice_index_or starts c d).index k) ≡ Some v → contains nat_cmp old k ≡ true)
    → (c k v : ℕ) (d : CoreStart) → c < n + 1 → live_version (known_at (slice_index_or starts c d).index k) ≡ Some v → contains nat_cmp new k ≡ true
live_added old new starts n x low here kept live has c k v d lt is = ⊎_elim
    (λ (e : c ≡ n). live k v (ap (λ (y : CoreStart). live_version (known_at y.index k)) (get_or_read starts n x low here d ∙ ap (λ (j : ℕ). slice_index_or starts j d) (sym e)) ∙ is))
    (λ (ne : c ≢ n). kept k (has c k v d (omega (arith, lt, ne)) is))
    (cases_eq c n)
