-- Each entry that a scan finds is read at its place.
use Rattle.std.proofs.Common.{◌≡◌, ℕ, zero, suc, ◌+◌, ◌-◌, ◌%◌, ◌<◌, ◌==◌, ◌&&◌, ◌++◌, not, Bool, true, false, cond, List, [], ◌∷◌, length, take, drop, get_or, map, arith, refl, sym, ◌∙◌, ap, append_assoc}
use Rattle.std.specs.List.{AllByRecursion}
use Rattle.std.proofs.lemmas.List.{map-append, length-map, get_or-map, take_more}
use Rattle.log_entry.specs.declared.entry.Body.TheVariants.{Tombstone}
use Rattle.log_entry.specs.declared.entry.Entry.{Entry}
use Rattle.log_entry.specs.declared.entry.Read.{Read}
use Rattle.log_entry.specs.declared.entry.Read.TheVariants as reads
use Rattle.log_entry.specs.Reading.{read}
use Rattle.log_entry.specs.Batches.{Scan, broken, with_entry, scan, scan_of}
use Rattle.store_image.specs.declared.scanning.AtPlace.{AtPlace}
use Rattle.store_image.specs.declared.types.PlacedEntry.{PlacedEntry}
use Rattle.store_image.specs.Scanned.{name_at}
use Rattle.store_image.specs.Parts.{placed_in_chunk}

pub record IsRead (ws : List ℕ) (x : ℕ × Entry) : Type 0 where
  pub within : x.0 < length ws
  pub size : ℕ
  pub is : read (drop x.0 ws) ≡ reads.Entry x.1 size

abbrev AreRead : List ℕ → Scan → Type 0
AreRead all s = AllByRecursion (IsRead all) s.entries

begins : (all : List ℕ) (p w : ℕ) (ws : List ℕ) → drop p all ≡ w ∷ ws → (p < length all) × (drop (p + 1) all ≡ ws)
begins [] zero w ws is = absurd (cc is)
begins [] (suc p) w ws is = absurd (cc is)
begins (x ∷ xs) zero w ws is = (omega arith, cc is)
begins (x ∷ xs) (suc p) w ws is = let r = begins xs p w ws is in let l = r.0 in let e : suc p + 1 ≡ suc (p + 1) = omega arith in (omega (arith, l), ap (λ n. drop n (x ∷ xs)) e ∙ r.1)

scan_read : (all ws : List ℕ) (p left : ℕ) (padded : Bool) → drop p all ≡ ws → AreRead all (scan p left padded ws)
scan_read all [] p left padded is = tt
scan_read all (w ∷ ws) p (suc left) padded is = scan_read all ws (p + 1) left padded (begins all p w ws is).1
scan_read all (w ∷ ws) p zero padded is = here (λ left padded. scan_read all ws (p + 1) left padded (begins all p w ws is).1) where
  by_read : ((left : ℕ) (padded : Bool) → AreRead all (scan (p + 1) left padded ws)) → (r : Read) → read (w ∷ ws) ≡ r → AreRead all (elim r as (λ x. Scan) [
    | reads.Entry e n ↦ with_entry p e (scan (p + 1) (n - 1) false ws)
    | reads.Padding ↦ cond (p % 8 == 0) broken (scan (p + 1) 0 true ws)
    | reads.BadEntry rule ↦ broken
  ])
  by_read again (reads.Entry e m) r = (record { within = (begins all p w ws is).0; size = m; is = ap read is ∙ r }, again (m - 1) false)
  by_read again reads.Padding r = elim (p % 8 == 0) as (λ b. AreRead all (cond b broken (scan (p + 1) 0 true ws))) [ true ↦ tt | false ↦ again 0 true ]
  by_read again (reads.BadEntry rule) r = tt

  here : ((left : ℕ) (padded : Bool) → AreRead all (scan (p + 1) left padded ws)) → AreRead all (scan p zero padded (w ∷ ws))
  here again = elim (padded && not (p % 8 == 0)) as (λ b. AreRead all (cond b (cond (w == 0) (scan (p + 1) 0 true ws) broken) (elim (read (w ∷ ws)) as (λ x. Scan) [
    | reads.Entry e n ↦ with_entry p e (scan (p + 1) (n - 1) false ws)
    | reads.Padding ↦ cond (p % 8 == 0) broken (scan (p + 1) 0 true ws)
    | reads.BadEntry rule ↦ broken
  ]))) [
    | true ↦ elim (w == 0) as (λ b. AreRead all (cond b (scan (p + 1) 0 true ws) broken)) [ true ↦ again 0 true | false ↦ tt ]
    | false ↦ by_read again (read (w ∷ ws)) refl
  ]

-- so it begins in the payload
pub places_lie : (ws : List ℕ) → AllByRecursion (λ (x : ℕ × Entry). x.0 < length ws) (scan_of ws).entries
places_lie ws = withins (scan_of ws).entries (scan_read ws ws 0 0 false refl) where
  withins : (xs : List (ℕ × Entry)) → AllByRecursion (IsRead ws) xs → AllByRecursion (λ (x : ℕ × Entry). x.0 < length ws) xs
  withins [] all = tt
  withins (x ∷ xs) all = (all.0.within, withins xs all.1)

all_at : {X : Type 0} (P : X → Type 0) (xs : List X) (i : ℕ) (d : X) → AllByRecursion P xs → i < length xs → P (get_or xs i d)
all_at P [] i d all lt = absurd (omega (arith, lt))
all_at P (x ∷ xs) zero d all lt = all.0
all_at P (x ∷ xs) (suc i) d all lt = all_at P xs i d all.1 (omega (arith, lt))

abbrev nowhere : ℕ × Entry
nowhere = (0, record { key = 0; version = 0; body = Tombstone })

-- of the names that a scan found, the one at an index
module _ (ws : List ℕ) (found : List AtPlace) (is : found ≡ map name_at (scan_of ws).entries) (i : ℕ) (d : AtPlace) (lt : i < length found) where
  abbrev x : AtPlace
  x = get_or found i d

  abbrev there : ℕ × Entry
  there = get_or (scan_of ws).entries i nowhere

  in_scan : i < length (scan_of ws).entries
  in_scan = let long = ap length is ∙ length-map (scan_of ws).entries name_at in omega (arith, lt, long)

  named : x ≡ name_at there
  named = ap (λ xs. get_or xs i d) is ∙ get_or-map name_at (scan_of ws).entries i nowhere d in_scan

  read_there : IsRead ws there
  read_there = all_at (IsRead ws) (scan_of ws).entries i nowhere (scan_read ws ws 0 0 false refl) in_scan

  pub place_within : x.place < length ws
  place_within = let p : x.place ≡ there.0 = ap (λ (y : AtPlace). y.place) named in let low = read_there.within in omega (arith, p, low)

  -- and what is read there
  reads_there : (r : Read) → r ≡ read (drop x.place ws) → r ≡ reads.Entry there.1 read_there.size
  reads_there r e = e ∙ ap (λ (y : AtPlace). read (drop y.place ws)) named ∙ read_there.is

  pub more_placed : (c j : ℕ) (old now new : List PlacedEntry) (e : Entry) (n : ℕ) → reads.Entry e n ≡ read (drop x.place ws)
      → now ≡ old ++ placed_in_chunk c j (take i (scan_of ws).entries) → new ≡ now ++ record { core = c; chunk = j; place = x.place; entry = e } ∷ []
      → new ≡ old ++ placed_in_chunk c j (take (i + 1) (scan_of ws).entries)
  more_placed c j old now new e n r so_far push =
      let es = (scan_of ws).entries in
      let f : ℕ × Entry → PlacedEntry = λ y. record { core = c; chunk = j; place = y.0; entry = y.1 } in
      let entry : e ≡ there.1 = cc (reads_there (reads.Entry e n) r) in
      let place : x.place ≡ there.0 = ap (λ (y : AtPlace). y.place) named in
      push ∙ (λ k. so_far k ++ record { core = c; chunk = j; place = place k; entry = entry k } ∷ [])
      ∙ append_assoc old (map f (take i es)) (f there ∷ [])
      ∙ ap (λ l. old ++ l) (sym (map-append f (take i es) (there ∷ [])))
      ∙ ap (λ ys. old ++ map f ys) (sym (take_more es i nowhere in_scan))

  pub no_other : (r : Read) → r ≡ read (drop x.place ws) → ((e : Entry) (n : ℕ) → r ≡ reads.Entry e n → ⊥) → ⊥
  no_other r e not = not there.1 read_there.size (reads_there r e)
