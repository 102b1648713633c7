-- The names that were noted, and those of an image's chunks.
use Rattle.std.proofs.Common.{◌≡◌, ◌≢◌, ⊎_elim, ℕ, zero, suc, ◌+◌, ◌-◌, ◌/◌, ◌<◌, ◌≤◌, ◌==◌, ◌&&◌, ◌||◌, ltb, Bool, true, false, cond, List, [], ◌∷◌, ◌++◌, map, None, is_some, refl, sym, ◌∙◌, ap, arith}
use Rattle.std.specs.Prelude.{filter, unwrap_or, slice_index_or, Result, Ok, Err}
use Rattle.std.specs.List.{flat_map, list_any}
use Rattle.std.proofs.lemmas.Nat.{mod_below}
use Rattle.std.proofs.lemmas.Bool.{lt-ltb, le-ltb, eq-eqb, ne_eqb, cases_eq}
use Rattle.log_entry.specs.declared.entry.Entry.{Entry}
use Rattle.log_entry.specs.Batches.{scan_of}
use Rattle.chunk_map.specs.declared.layouts.Geometry.{Geometry}
use Rattle.chunk_map.specs.declared.heads.Head.{Head}
use Rattle.chunk_map.specs.declared.heads.Head.TheVariants.{Free, Log, Data}
use Rattle.chunk_map.specs.Layouts.{IsLayout, numbers, chunk_words, chunk_first, head_at}
use Rattle.chunk_map.proofs.Clients.{numbers_of}
use Rattle.store_image.specs.declared.types.PlacedEntry.{PlacedEntry}
use Rattle.store_image.specs.Parts.{payload, scan_behind, scan_at, placed_in_chunk, chunk_entries, part_entries, all_entries}
use Rattle.core_log.specs.Log.{LogState, tail_of}
use Rattle.log_standing.specs.ChunkCounts.{has_name}
use Rattle.log_standing.specs.Notes.{Noted, noted_as, is_noted, was_noted, AreOfLog}
use Rattle.recover.specs.declared.found_entries.Found.{Found}
use Rattle.recover.specs.ByName.{is_named, IsByName}
use Rattle.recover.specs.FoundEntries.{placed_at, entries_at, core_at, chunk_there, is_found}
use Rattle.recover.specs.LogNames.{is_found_in, AllFoundIn, AreNamesOf, AreNames}
use Rattle.recover.specs.Logs.{tail_behind, HasLogsOf}
use Rattle.recover.proofs.ListLaws.{any_append}

any_map : {X Y : Type 0} (f : X → Y) (p : Y → Bool) (xs : List X) → list_any p (map f xs) ≡ list_any (λ x. p (f x)) xs
any_map f p [] = refl
any_map f p (x ∷ xs) = ap (λ b. p (f x) || b) (any_map f p xs)

any_filter : {X : Type 0} (p q : X → Bool) (xs : List X) → list_any q (filter p xs) ≡ list_any (λ x. p x && q x) xs
any_filter p q [] = refl
any_filter p q (x ∷ xs) = elim (p x) as (λ b. list_any q (cond b (x ∷ filter p xs) (filter p xs)) ≡ ((b && q x) || list_any (λ y. p y && q y) xs)) [
  | true ↦ ap (λ b. q x || b) (any_filter p q xs)
  | false ↦ any_filter p q xs
]

any_flat : {X Y : Type 0} (p : Y → Bool) (f : X → List Y) (xs : List X) → list_any p (flat_map f xs) ≡ list_any (λ x. list_any p (f x)) xs
any_flat p f [] = refl
any_flat p f (x ∷ xs) = any_append p (f x) (flat_map f xs) ∙ ap (λ b. list_any p (f x) || b) (any_flat p f xs)

any_none : {X : Type 0} (xs : List X) → list_any (λ x. false) xs ≡ false
any_none [] = refl
any_none (x ∷ xs) = any_none xs

any_and : {X : Type 0} (b : Bool) (p : X → Bool) (xs : List X) → list_any (λ x. b && p x) xs ≡ (b && list_any p xs)
any_and true p xs = refl
any_and false p xs = any_none xs

swap : (a b : Bool) → (a && b) ≡ (b && a)
swap true true = refl
swap true false = refl
swap false true = refl
swap false false = refl

inwards : (a b c : Bool) → ((a && b) && c) ≡ (a && (b && c))
inwards true b c = refl
inwards false b c = refl

-- one number of those from a number on
number_above : (p : ℕ → Bool) (j from n : ℕ) → j < from → list_any (λ i. (i == j) && p i) (numbers from n) ≡ false
number_above p j from zero lt = refl
number_above p j from (suc n) lt = (λ t. (ne_eqb from j (λ e. omega (arith, e, lt)) t && p from) || list_any (λ i. (i == j) && p i) (numbers (suc from) n)) ∙ number_above p j (suc from) n (omega (arith, lt))

or_nothing : (b : Bool) → (b || false) ≡ b
or_nothing true = refl
or_nothing false = refl

number_among : (p : ℕ → Bool) (j from n : ℕ) → from ≤ j → list_any (λ i. (i == j) && p i) (numbers from n) ≡ (ltb j (from + n) && p j)
number_among p j from zero le = ap (λ b. b && p j) (sym (le-ltb j (from + 0) (omega (arith, le))))
number_among p j from (suc n) le = ⊎_elim
    (λ (same : from ≡ j).
    (λ t. (eq-eqb from j same t && p (same t)) || list_any (λ i. (i == j) && p i) (numbers (suc from) n))
    ∙ ap (λ b. p j || b) (number_above p j (suc from) n (omega (arith, same)))
    ∙ or_nothing (p j)
    ∙ ap (λ b. b && p j) (sym (lt-ltb j (from + suc n) (omega (arith, same)))))
    (λ (other : from ≢ j).
    (λ t. (ne_eqb from j other t && p from) || list_any (λ i. (i == j) && p i) (numbers (suc from) n))
    ∙ number_among p j (suc from) n (omega (arith, le, other))
    ∙ ap (λ m. ltb j m && p j) (let e : suc from + n ≡ from + suc n = omega arith in e))
    (cases_eq from j)

pub number_one : (p : ℕ → Bool) (j n : ℕ) → list_any (λ i. (i == j) && p i) (numbers 0 n) ≡ (ltb j n && p j)
number_one p j n = number_among p j 0 n (omega arith) ∙ ap (λ m. ltb j m && p j) (let e : 0 + n ≡ n = omega arith in e)

-- an entry that stands in chunk j of part c
abbrev pub in_chunk : ℕ → ℕ → PlacedEntry → Bool
in_chunk c j x = x.core == c && x.chunk == j

module _ (l : Geometry) (image : ℕ → ℕ) (c j k v : ℕ) where
  abbrev named_there : PlacedEntry → Bool
  named_there x = is_named k v x && in_chunk c j x

  abbrev has_at : ℕ → ℕ → Bool
  has_at a b = has_name (scan_at l image (chunk_first l a b)).entries k v

  in_one : (a b : ℕ) (es : List (ℕ × Entry)) → list_any named_there (placed_in_chunk a b es) ≡ ((a == c && b == j) && has_name es k v)
  in_one a b es =
      let named : ℕ × Entry → Bool = λ x. x.1.key == k && x.1.version == v in
      any_map (λ (x : ℕ × Entry). record { core = a; chunk = b; place = x.0; entry = x.1 }) named_there es
      ∙ (λ t. list_any (λ (x : ℕ × Entry). swap (named x) (a == c && b == j) t) es)
      ∙ any_and (a == c && b == j) named es

  in_part : (a : ℕ) → list_any named_there (part_entries l image a) ≡ (a == c && (ltb j l.chunks && has_at a j))
  in_part a =
      any_flat named_there (λ b. chunk_entries l image a b) (numbers 0 l.chunks)
      ∙ (λ t. list_any (λ b. in_one a b (scan_at l image (chunk_first l a b)).entries t) (numbers 0 l.chunks))
      ∙ (λ t. list_any (λ b. inwards (a == c) (b == j) (has_at a b) t) (numbers 0 l.chunks))
      ∙ any_and (a == c) (λ b. (b == j) && has_at a b) (numbers 0 l.chunks)
      ∙ ap (λ h. a == c && h) (number_one (λ b. has_at a b) j l.chunks)

  in_all : c < l.cores → list_any named_there (all_entries l image) ≡ (ltb j l.chunks && has_at c j)
  in_all lt =
      any_flat named_there (λ a. part_entries l image a) (numbers 0 l.cores)
      ∙ (λ t. list_any (λ a. in_part a t) (numbers 0 l.cores))
      ∙ number_one (λ a. ltb j l.chunks && has_at a j) c l.cores
      ∙ ap (λ b. b && (ltb j l.chunks && has_at c j)) (lt-ltb c l.cores lt)

  found_there : (fs : List Found) → IsByName (all_entries l image) (entries_at l image fs) → c < l.cores → list_any (is_found_in l c j k v) fs ≡ (ltb j l.chunks && has_at c j)
  found_there fs is lt =
      sym (any_map (placed_at l image) named_there fs)
      ∙ sym (any_filter (is_named k v) (in_chunk c j) (entries_at l image fs))
      ∙ ap (list_any (in_chunk c j)) (is.same k v)
      ∙ any_filter (is_named k v) (in_chunk c j) (all_entries l image)
      ∙ in_all lt

-- the names of the sorted list are those of the image
pub names_of_image : (l : Geometry) (image : ℕ → ℕ) (fs : List Found) → IsByName (all_entries l image) (entries_at l image fs) → (names : List (List Noted)) → AllFoundIn l fs names → AreNames l image names
names_of_image l image fs is names found c d lt k v j = found c d lt k v j ∙ found_there l image c j k v fs is lt

-- those of a part are those of its log
pub names_of_log : (l : Geometry) (image : ℕ → ℕ) (c : ℕ) (log : LogState) (names : List Noted) → log.layout ≡ l → log.part ≡ c → HasLogsOf l image c log → AreNamesOf l image c names → AreOfLog image log names
names_of_log l image c log names layout part logs are k v j = are k v j ∙ by_head (chunk_first l c j) (ltb j l.chunks) (head_at l image (chunk_first l c j)) ∙ back where
  by_head : (at : ℕ) (b : Bool) (h : Result Head ℕ) → (b && has_name (scan_behind image at h).entries k v)
      ≡ (is_some (cond b (tail_behind h) None) && has_name (scan_of (payload image at (unwrap_or (cond b (tail_behind h) None) 0))).entries k v)
  by_head at false h = refl
  by_head at true (Ok Free) = refl
  by_head at true (Ok (Log tail)) = refl
  by_head at true (Ok (Data class)) = refl
  by_head at true (Err rule) = refl

  back : (is_some (cond (ltb j l.chunks) (tail_behind (head_at l image (chunk_first l c j))) None) && has_name (scan_of (payload image (chunk_first l c j) (unwrap_or (cond (ltb j l.chunks) (tail_behind (head_at l image (chunk_first l c j))) None) 0))).entries k v)
      ≡ (is_some (tail_of log.chunks j) && has_name (scan_of (payload image (chunk_first log.layout log.part j) (unwrap_or (tail_of log.chunks j) 0))).entries k v)
  back = λ t. is_some (sym (logs j) t) && has_name (scan_of (payload image (chunk_first (sym layout t) (sym part t) j) (unwrap_or (sym (logs j) t) 0))).entries k v

-- one more name

-- a chunk of a part has a small number
pub chunk_small : (l : Geometry) → IsLayout l → (at : ℕ) → chunk_there l at < 64
unfolding chunk_there
chunk_small l layout at =
    let is = numbers_of l layout in
    let some = is.chunks_low in
    let high = is.chunks_high in
    let low = mod_below ((at - 512) / chunk_words l) l.chunks (omega (arith, some)) in
    omega (arith, low, high)

pub none_found : (l : Geometry) (names : List (List Noted)) → ((c : ℕ) (d : List Noted) → c < l.cores → slice_index_or names c d ≡ []) → AllFoundIn l [] names
none_found l names none c d lt k v j = ap (λ (ns : List Noted). was_noted ns k v j) (none c d lt)

one_named : (old n t b : Bool) → t ≡ true → (old || (n && b)) ≡ ((n && (t && b)) || old)
one_named old n t b is = sym (ap (λ s. (n && (s && b)) || old) is ∙ turn old n b) where
  turn : (old n b : Bool) → ((n && b) || old) ≡ (old || (n && b))
  turn true true true = refl
  turn true true false = refl
  turn true false b = refl
  turn false true true = refl
  turn false true false = refl
  turn false false b = refl

not_there : (n t b : Bool) → t ≡ false → (n && (t && b)) ≡ false
not_there true t b isnt = ap (λ s. s && b) isnt
not_there false t b isnt = refl

pub not_found : (l : Geometry) (f : Found) (fs : List Found) (c j k v : ℕ) → core_at l f.at ≢ c → list_any (is_found_in l c j k v) (f ∷ fs) ≡ list_any (is_found_in l c j k v) fs
not_found l f fs c j k v other = ap (λ b. b || list_any (is_found_in l c j k v) fs) (not_there (is_found k v f) (core_at l f.at == c) (chunk_there l f.at == j) (ne_eqb (core_at l f.at) c other))

-- of no core
pub noted_nowhere : (l : Geometry) (f : Found) (names : List (List Noted)) → l.cores ≤ core_at l f.at → (fs : List Found) → AllFoundIn l fs names → AllFoundIn l (f ∷ fs) names
noted_nowhere l f names past fs found c d lt k v j = found c d lt k v j ∙ sym (not_found l f fs c j k v (λ e. omega (arith, e, lt, past)))

noted_more : (ns : List Noted) (n : Noted) (k v j : ℕ) → was_noted (ns ++ n ∷ []) k v j ≡ (was_noted ns k v j || is_noted k v j n)
noted_more ns n k v j = any_append (is_noted k v j) ns (n ∷ []) ∙ ap (λ b. was_noted ns k v j || b) (or_nothing (is_noted k v j n))

-- of one core
pub noted_once : (l : Geometry) (f : Found) (old new : List (List Noted))
    → ((d : List Noted) → slice_index_or new (core_at l f.at) d ≡ slice_index_or old (core_at l f.at) d ++ noted_as (record { key = f.key; version = f.version }) (chunk_there l f.at) ∷ [])
    → ((c : ℕ) (d : List Noted) → c ≢ core_at l f.at → slice_index_or new c d ≡ slice_index_or old c d)
    → (fs : List Found) → AllFoundIn l fs old → AllFoundIn l (f ∷ fs) new
noted_once l f old new noted others fs found c d lt k v j = ⊎_elim
    (λ (same : core_at l f.at ≡ c).
    let n : Noted = noted_as (record { key = f.key; version = f.version }) (chunk_there l f.at) in
    (λ t. was_noted (slice_index_or new (sym same t) d) k v j)
    ∙ ap (λ (ns : List Noted). was_noted ns k v j) (noted d)
    ∙ noted_more (slice_index_or old (core_at l f.at) d) n k v j
    ∙ (λ t. was_noted (slice_index_or old (same t) d) k v j || is_noted k v j n)
    ∙ one_named (was_noted (slice_index_or old c d) k v j) (is_found k v f) (core_at l f.at == c) (chunk_there l f.at == j) (eq-eqb (core_at l f.at) c same)
    ∙ ap (λ b. is_found_in l c j k v f || b) (found c d lt k v j))
    (λ (other : core_at l f.at ≢ c).
    ap (λ (ns : List Noted). was_noted ns k v j) (others c d (λ e. other (sym e))) ∙ found c d lt k v j ∙ sym (not_found l f fs c j k v other))
    (cases_eq (core_at l f.at) c)
