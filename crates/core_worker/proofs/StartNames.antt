-- What stands in a core's log when it is opened is what its view has there.
use Rattle.std.proofs.Common.{◌≡◌, inl, inr, ⊎_elim, ℕ, ◌+◌, ◌<◌, ◌==◌, ◌||◌, nat_lt, Bool, true, false, cond, List, [], ◌∷◌, map, Some, None, Result, Ok, Err, is_some, refl, sym, ◌∙◌, ap, subst, arith}
use Rattle.std.specs.Prelude.{unwrap_or}
use Rattle.std.specs.List.{list_any, count_by}
use Rattle.std.proofs.lemmas.Bool.{eqb-true, eq-eqb, lt-ltb, ltb-true, or_cases}
use Rattle.std.proofs.lemmas.List.Sums.{sum_by-cons}
use Rattle.log_entry.specs.declared.entry.Entry.{Entry}
use Rattle.log_entry.specs.Batches.{scan_of}
use Rattle.chunk_map.specs.declared.layouts.Geometry.{Geometry}
use Rattle.chunk_map.specs.declared.heads.Head.{Head}
use Rattle.chunk_map.specs.declared.heads.Head.TheVariants.{Free, Log, Data}
use Rattle.chunk_map.specs.Layouts.{numbers, chunk_first, head_at}
use Rattle.store_image.specs.declared.types.PlacedEntry.{PlacedEntry}
use Rattle.store_image.specs.Facts.{In}
use Rattle.store_image.specs.Parts.{payload, scan_at, scan_behind, chunk_entries}
use Rattle.store_image.proofs.Clients.{number_in, in_numbers}
use Rattle.core_log.specs.declared.types.LogChunk.{LogChunk}
use Rattle.core_log.specs.Log.{tail_of, tail_in, first_of}
use Rattle.log_standing.specs.NameCounts.{name_eq, count_of}
use Rattle.log_standing.specs.ChunkCounts.{is_named, has_name}
use Rattle.log_standing.proofs.Clients.{same_name, name_same}
use Rattle.recover.specs.declared.types.CoreStart.{CoreStart}
use Rattle.recover.specs.Logs.{tail_behind}
use Rattle.group_laws.specs.Places.{Place, members, core_of}
use Rattle.group_laws.specs.Images.{log_of}
use Rattle.group_laws.specs.OpeningImages.{kept_in}
use Rattle.group_laws.proofs.Clients.{in_map, of_map, in_flat, of_flat}
use Rattle.core_worker.specs.StandingTies.{IsNamedIn}
use Rattle.core_worker.specs.Openings.{IsStartAt}

count_cons : (h : ℕ → Bool) (c : LogChunk) (cs : List LogChunk) → count_by (λ (x : LogChunk). h x.chunk) (c ∷ cs) ≡ cond {A = ℕ} (h c.chunk) 1 0 + count_by (λ (x : LogChunk). h x.chunk) cs
count_cons h c cs = sum_by-cons (λ (x : LogChunk). cond {A = ℕ} (h x.chunk) 1 0) c cs

-- a counted chunk is one of the list that passes
count_find : (h : ℕ → Bool) (cs : List LogChunk) → 0 < count_by (λ (x : LogChunk). h x.chunk) cs → (j : ℕ) × (is_some (tail_of cs j) ≡ true) × (h j ≡ true)
count_find h [] some = absurd (omega (arith, some))
count_find h (c ∷ cs) some = by (h c.chunk) refl (λ more. count_find h cs more) where
  here : is_some (tail_of (c ∷ cs) c.chunk) ≡ true
  here = ap (λ (b : Bool). is_some (cond b (Some c.tail) (tail_of cs c.chunk))) (eq-eqb c.chunk c.chunk refl)

  still : (j : ℕ) → is_some (tail_of cs j) ≡ true → is_some (tail_of (c ∷ cs) j) ≡ true
  still j has = by_same (c.chunk == j) where
    by_same : (b : Bool) → is_some (cond b (Some c.tail) (tail_of cs j)) ≡ true
    by_same true = refl
    by_same false = has

  by : (b : Bool) → h c.chunk ≡ b → (0 < count_by (λ (x : LogChunk). h x.chunk) cs → (j : ℕ) × (is_some (tail_of cs j) ≡ true) × (h j ≡ true)) → (j : ℕ) × (is_some (tail_of (c ∷ cs) j) ≡ true) × (h j ≡ true)
  by true e again = (c.chunk, here, e)
  by false e again =
      let n = count_cons h c cs in
      let none : cond {A = ℕ} (h c.chunk) 1 0 ≡ 0 = ap {B = ℕ} (λ (b : Bool). cond {A = ℕ} b 1 0) e in
      let rest = again (omega (arith, n, none, some)) in
      (rest.0, still rest.0 rest.1, rest.2)

count_has : (h : ℕ → Bool) (cs : List LogChunk) (j : ℕ) → is_some (tail_of cs j) ≡ true → h j ≡ true → 0 < count_by (λ (x : LogChunk). h x.chunk) cs
count_has h [] j has passes = absurd (cc has)
count_has h (c ∷ cs) j has passes = by (c.chunk == j) refl has (λ some. count_has h cs j some passes) where
  by : (b : Bool) → (c.chunk == j) ≡ b → is_some (cond b (Some c.tail) (tail_of cs j)) ≡ true → (is_some (tail_of cs j) ≡ true → 0 < count_by (λ (x : LogChunk). h x.chunk) cs) → 0 < count_by (λ (x : LogChunk). h x.chunk) (c ∷ cs)
  by true e some again = let n = count_cons h c cs in let one : cond {A = ℕ} (h c.chunk) 1 0 ≡ 1 = ap {B = ℕ} (λ (b : Bool). cond {A = ℕ} b 1 0) (ap h (eqb-true c.chunk j e) ∙ passes) in omega (arith, n, one)
  by false e some again = let n = count_cons h c cs in let rest = again some in omega (arith, n, rest)

any_in : {X : Type 0} (f : X → Bool) (xs : List X) → list_any f xs ≡ true → (x : X) × In x xs × (f x ≡ true)
any_in f [] t = absurd (cc t)
any_in f (x ∷ xs) t = ⊎_elim (λ here. (x, inl refl, here)) (λ more. let rest = any_in f xs more in (rest.0, inr rest.1, rest.2)) (or_cases (f x) (list_any f xs) t)

in_any : {X : Type 0} (f : X → Bool) (xs : List X) (x : X) → In x xs → f x ≡ true → list_any f xs ≡ true
in_any f [] x i t = absurd i
in_any f (y ∷ xs) x i t = by (f y) refl (λ more. in_any f xs x more t) where
  by : (b : Bool) → f y ≡ b → (In x xs → list_any f xs ≡ true) → list_any f (y ∷ xs) ≡ true
  by true e again = ap (λ (b : Bool). b || list_any f xs) e
  by false e again = ap (λ (b : Bool). b || list_any f xs) e ∙ ⊎_elim (λ same. absurd (let both : true ≡ false = sym t ∙ ap f same ∙ e in cc both)) again i

module _ (p : Place) (m : ℕ) (image : ℕ → ℕ) (start : CoreStart) (at : IsStartAt p m image start) where
  abbrev l : Geometry
  l = p.layout

  abbrev c : ℕ
  c = core_of p m

  abbrev entries : ℕ → List (ℕ × Entry)
  entries j = (scan_at l image (chunk_first l c j)).entries

  -- a chunk of the log is a Log chunk of the part, and is scanned as one
  pub record Scanned (j : ℕ) : Type 0 where
    pub low : j < l.chunks
    pub same : (scan_of (payload image (first_of start.log j) (tail_in start.log j))).entries ≡ entries j

  scanned : (j : ℕ) → is_some (tail_of start.log.chunks j) ≡ true → Scanned j
  scanned j has = by_low (nat_lt j l.chunks) refl where
    first : first_of start.log j ≡ chunk_first l c j
    first = λ i. chunk_first (at.made.layout_is i) (at.made.part_is i) j

    by_head : (h : Result Head ℕ) → head_at l image (chunk_first l c j) ≡ h → nat_lt j l.chunks ≡ true → tail_of start.log.chunks j ≡ tail_behind h → Scanned j
    by_head (Ok Free) e lt is = absurd (let both : true ≡ false = sym has ∙ ap is_some is in cc both)
    by_head (Ok (Log tail)) e lt is = record {
      low = ltb-true j l.chunks lt;
      same = (λ i. (scan_of (payload image (first i) (unwrap_or (is i) 0))).entries) ∙ sym (ap (λ (h : Result Head ℕ). (scan_behind image (chunk_first l c j) h).entries) e);
    }
    by_head (Ok (Data class)) e lt is = absurd (let both : true ≡ false = sym has ∙ ap is_some is in cc both)
    by_head (Err rule) e lt is = absurd (let both : true ≡ false = sym has ∙ ap is_some is in cc both)

    by_low : (b : Bool) → nat_lt j l.chunks ≡ b → Scanned j
    by_low true lt = by_head (head_at l image (chunk_first l c j)) refl lt (at.found.logs j ∙ ap (λ (b : Bool). cond b (tail_behind (head_at l image (chunk_first l c j))) None) lt)
    by_low false ge = absurd (let none : tail_of start.log.chunks j ≡ None = at.found.logs j ∙ ap (λ (b : Bool). cond b (tail_behind (head_at l image (chunk_first l c j))) None) ge in let both : true ≡ false = sym has ∙ ap is_some none in cc both)

  -- and a chunk of the part that is scanned with an entry is one of the log's
  logged : (j : ℕ) → j < l.chunks → (x : ℕ × Entry) → In x (entries j) → is_some (tail_of start.log.chunks j) ≡ true
  logged j low x i = by_head (head_at l image (chunk_first l c j)) refl i where
    tail_is : tail_of start.log.chunks j ≡ tail_behind (head_at l image (chunk_first l c j))
    tail_is = at.found.logs j ∙ ap (λ (b : Bool). cond b (tail_behind (head_at l image (chunk_first l c j))) None) (lt-ltb j l.chunks low)

    by_head : (h : Result Head ℕ) → head_at l image (chunk_first l c j) ≡ h → In x (scan_behind image (chunk_first l c j) h).entries → is_some (tail_of start.log.chunks j) ≡ true
    by_head (Ok Free) e i = absurd i
    by_head (Ok (Log tail)) e i = ap is_some (tail_is ∙ ap tail_behind e)
    by_head (Ok (Data class)) e i = absurd i
    by_head (Err rule) e i = absurd i

  abbrev has_at : ℕ → ℕ → ℕ → Bool
  has_at k n j = has_name (scan_of (payload image (first_of start.log j) (tail_in start.log j))).entries k n

  abbrev kept : List Entry
  kept = map (λ (x : PlacedEntry). x.entry) (log_of p image m)

  kept_is : kept_in p image m ≡ kept
  kept_is = ap (λ (b : Bool). cond b kept []) (lt-ltb m (members p) at.member)

  -- an entry of the member's log with this name
  pub record Logged (k n : ℕ) : Type 0 where
    pub y : PlacedEntry
    pub log : In y (log_of p image m)
    pub key : y.entry.key ≡ k
    pub version : y.entry.version ≡ n

  pub counted_logged : (k n : ℕ) → 0 < count_of start.standing k n → Logged k n
  counted_logged k n some =
      let count = at.found.standing k n in
      let found = count_find (has_at k n) start.log.chunks (omega (arith, count, some)) in
      let j : ℕ = found.0 in
      let s = scanned j found.1 in
      let any : has_name (entries j) k n ≡ true = ap (λ (xs : List (ℕ × Entry)). has_name xs k n) (sym s.same) ∙ found.2 in
      let x = any_in (is_named k n) (entries j) any in
      let same = same_name x.0.1.key x.0.1.version k n x.2 in
      record {
        y = record { core = c; chunk = j; place = x.0.0; entry = x.0.1 };
        log = in_flat (λ (i : ℕ). chunk_entries l image c i) j (record { core = c; chunk = j; place = x.0.0; entry = x.0.1 }) (numbers 0 l.chunks) (in_numbers 0 l.chunks j (omega arith) (let low = s.low in omega (arith, low)))
            (in_map (λ (z : ℕ × Entry). record { core = c; chunk = j; place = z.0; entry = z.1 }) x.0 (entries j) x.1);
        key = same.0;
        version = same.1;
      }

  pub logged_counted : (k n : ℕ) → Logged k n → 0 < count_of start.standing k n
  logged_counted k n g =
      let chunk = of_flat (λ (i : ℕ). chunk_entries l image c i) g.y (numbers 0 l.chunks) g.log in
      let j : ℕ = chunk.0 in
      let low : j < l.chunks = (let r = number_in 0 l.chunks j chunk.1 in omega (arith, r.1)) in
      let x = of_map (λ (z : ℕ × Entry). record { core = c; chunk = j; place = z.0; entry = z.1 }) g.y (entries j) chunk.2 in
      let has = logged j low x.0 x.1 in
      let s = scanned j has in
      let key : x.0.1.key ≡ k = ap (λ (z : PlacedEntry). z.entry.key) (sym x.2) ∙ g.key in
      let version : x.0.1.version ≡ n = ap (λ (z : PlacedEntry). z.entry.version) (sym x.2) ∙ g.version in
      let named : is_named k n x.0 ≡ true = (λ i. name_eq (key i, version i) (k, n)) ∙ name_same k n in
      let passes : has_at k n j ≡ true = ap (λ (xs : List (ℕ × Entry)). has_name xs k n) s.same ∙ in_any (is_named k n) (entries j) x.0 x.1 named in
      let some = count_has (has_at k n) start.log.chunks j has passes in
      let count = at.found.standing k n in
      omega (arith, count, some)

  pub logged_named : (k n : ℕ) → Logged k n → IsNamedIn (kept_in p image m) k n
  logged_named k n g = (g.y.entry, subst (In g.y.entry) (sym kept_is) (in_map (λ (x : PlacedEntry). x.entry) g.y (log_of p image m) g.log), g.key, g.version)

  pub named_logged : (k n : ℕ) → IsNamedIn (kept_in p image m) k n → Logged k n
  named_logged k n x =
      let f = of_map (λ (y : PlacedEntry). y.entry) x.0 (log_of p image m) (subst (In x.0) kept_is x.1) in
      record { y = f.0; log = f.1; key = ap (λ (e : Entry). e.key) (sym f.2) ∙ x.2; version = ap (λ (e : Entry). e.version) (sym f.2) ∙ x.3 }
