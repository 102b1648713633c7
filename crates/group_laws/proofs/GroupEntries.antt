-- The entries of a group in a sound image: each key of the group has all of its entries in the group's parts.
use Rattle.std.proofs.Common.{◌≡◌, ℕ, zero, suc, ◌+◌, ◌-◌, ◌*◌, ◌/◌, ◌%◌, ◌<◌, ◌≤◌, Bool, true, false, cond, ◌&&◌, not, ◌==◌, leb, List, [], ◌∷◌, get_or, Option, Some, None, inl, inr, arith, refl, sym, ap, ◌∙◌, subst}
use Rattle.std.specs.Prelude.{Result, Ok, Err}
use Rattle.std.specs.List.{AllByRecursion}
use Rattle.std.proofs.Math.Nat.{mul-le-mul_left, mul-div-le}
use Rattle.std.proofs.lemmas.Nat.{div-mul-add, div-add-mod'}
use Rattle.std.proofs.lemmas.Bool.{and_parts, eqb-true, eq-eqb, leb-true}
use Rattle.log_entry.specs.declared.entry.Entry.{Entry}
use Rattle.log_entry.specs.declared.entry.Read.{Read}
use Rattle.log_entry.specs.declared.entry.Read.TheVariants as reads
use Rattle.log_entry.specs.Reading.{read, read_by, entry_of, entry_rule, op_of, version_of}
use Rattle.log_entry.specs.Batches.{Scan, broken, with_entry, scan}
use Rattle.log_entry.proofs.Clients.{rules_kept}
use Rattle.chunk_map.specs.declared.heads.Head.{Head}
use Rattle.chunk_map.specs.declared.heads.Head.TheVariants.{Free, Log, Data}
use Rattle.chunk_map.specs.Layouts.{numbers, chunk_first, head_at, is_of_group}
use Rattle.chunk_map.specs.Layouts as layouts
use Rattle.store_image.specs.declared.types.PlacedEntry.{PlacedEntry}
use Rattle.store_image.specs.Parts.{all_entries, part_entries, chunk_entries, placed_in_chunk, scan_behind, payload}
use Rattle.store_image.specs.Winners.{winner_in}
use Rattle.store_image.specs.Facts.{In, KeepsRules}
use Rattle.store_image.proofs.Clients.{chosen, layout_numbers, number_in, winner_is, in_numbers, winner_some, winner_max}
use Rattle.group_laws.specs.Places.{Place, IsPlace, members, core_of, owner}
use Rattle.group_laws.specs.Crashes.{Contents, IsWinner}
use Rattle.group_laws.specs.Images.{log_of}
use Rattle.group_laws.proofs.Images.{contents, stands_there, there_stands, in_map, of_map, in_flat, of_flat, part_core}

-- what a read finds has a version
read_from_one : (ws : List ℕ) (e : Entry) (n : ℕ) → read ws ≡ reads.Entry e n → 0 < e.version
unfolding read
read_from_one ws e n is = by_zero (get_or ws 0 0 == 0) is where
  kept : (b : Bool) (v : ℕ) → cond b (leb 1 v && leb v 1048574) (leb 2 v) ≡ true → 0 < v
  kept true v t = let low = leb-true 1 v (and_parts (leb 1 v) (leb v 1048574) t).0 in omega (arith, low)
  kept false v t = let low = leb-true 2 v t in omega (arith, low)

  by_rule : (r : Option ℕ) → entry_rule ws ≡ r → read_by ws r ≡ reads.Entry e n → 0 < e.version
  by_rule None none q =
      let same : entry_of ws ≡ e = cc q in
      subst (λ (x : Entry). 0 < x.version) same (kept (op_of (get_or ws 0 0) == 1) (version_of (get_or ws 0 0)) (rules_kept ws none).k3)
  by_rule (Some r) none q = cc q

  by_zero : (b : Bool) → cond b reads.Padding (read_by ws (entry_rule ws)) ≡ reads.Entry e n → 0 < e.version
  by_zero true q = cc q
  by_zero false q = by_rule (entry_rule ws) refl q

abbrev FromOne : Scan → Type 0
FromOne s = AllByRecursion (λ (x : ℕ × Entry). 0 < x.1.version) s.entries

scan_from_one : (ws : List ℕ) (p left : ℕ) (padded : Bool) → FromOne (scan p left padded ws)
scan_from_one [] p left padded = tt
scan_from_one (w ∷ ws) p (suc left) padded = scan_from_one ws (p + 1) left padded
scan_from_one (w ∷ ws) p zero padded = here (scan_from_one ws (p + 1)) where
  by_read : ((left : ℕ) (padded : Bool) → FromOne (scan (p + 1) left padded ws)) → (r : Read) → read (w ∷ ws) ≡ r → FromOne (elim r as (λ x. Scan) [
    | reads.Entry e n ↦ with_entry p e (scan (p + 1) (n - 1) false ws)
    | reads.Padding ↦ cond (p % 8 == 0) broken (scan (p + 1) 0 true ws)
    | reads.BadEntry rule ↦ broken
  ])
  by_read again (reads.Entry e n) is = (read_from_one (w ∷ ws) e n is, again (n - 1) false)
  by_read again reads.Padding is = elim (p % 8 == 0) as (λ b. FromOne (cond b broken (scan (p + 1) 0 true ws))) [ true ↦ tt | false ↦ again 0 true ]
  by_read again (reads.BadEntry rule) is = tt

  here : ((left : ℕ) (padded : Bool) → FromOne (scan (p + 1) left padded ws)) → FromOne (scan p zero padded (w ∷ ws))
  here again = elim (padded && not (p % 8 == 0)) as (λ b. FromOne (cond b (cond (w == 0) (scan (p + 1) 0 true ws) broken) (elim (read (w ∷ ws)) as (λ x. Scan) [
    | reads.Entry e n ↦ with_entry p e (scan (p + 1) (n - 1) false ws)
    | reads.Padding ↦ cond (p % 8 == 0) broken (scan (p + 1) 0 true ws)
    | reads.BadEntry rule ↦ broken
  ]))) [
    | true ↦ elim (w == 0) as (λ b. FromOne (cond b (scan (p + 1) 0 true ws) broken)) [ true ↦ again 0 true | false ↦ tt ]
    | false ↦ by_read again (read (w ∷ ws)) refl
  ]

behind_from_one : (image : ℕ → ℕ) (at : ℕ) (h : Result Head ℕ) → FromOne (scan_behind image at h)
behind_from_one image at (Ok Free) = tt
behind_from_one image at (Ok (Log tail)) = scan_from_one (payload image at tail) 0 0 false
behind_from_one image at (Ok (Data class)) = tt
behind_from_one image at (Err rule) = tt

placed_from_one : (c j : ℕ) (xs : List (ℕ × Entry)) → AllByRecursion (λ (x : ℕ × Entry). 0 < x.1.version) xs → (y : PlacedEntry) → In y (placed_in_chunk c j xs) → 0 < y.entry.version
placed_from_one c j [] all y i = absurd i
placed_from_one c j (x ∷ xs) all y (inl q) = subst (λ (z : PlacedEntry). 0 < z.entry.version) (sym q) all.0
placed_from_one c j (x ∷ xs) all y (inr i) = placed_from_one c j xs all.1 y i

pub from_one : (p : Place) (image : ℕ → ℕ) (h : ℕ) (y : PlacedEntry) → In y (log_of p image h) → 0 < y.entry.version
from_one p image h y i =
    let l = p.layout in
    let chunk = of_flat (λ j. chunk_entries l image (core_of p h) j) y (numbers 0 l.chunks) i in
    let at = chunk_first l (core_of p h) chunk.0 in
    placed_from_one (core_of p h) chunk.0 _ (behind_from_one image at (head_at l image at)) y chunk.2

-- a member is a core of the layout
pub core_low : (p : Place) → IsPlace p → (h : ℕ) → h < members p → core_of p h < p.layout.cores
unfolding core_of
core_low p place h low =
    let l = p.layout in
    let group = place.group in
    let more : l.group * (p.group + 1) ≤ l.group * (l.cores / l.group) = mul-le-mul_left l.group (omega (arith, group)) in
    let all = mul-div-le l.cores l.group in
    omega (arith, more, all, low)

pub core_once : (p : Place) (h i : ℕ) → core_of p h ≡ core_of p i → h ≡ i
unfolding core_of
core_once p h i e = omega (arith, e)

pub core_back : (p : Place) (h : ℕ) → core_of p h - p.group * p.layout.group ≡ h
unfolding core_of
core_back p h = omega arith

core_group : (p : Place) (h : ℕ) → h < members p → core_of p h / p.layout.group ≡ p.group
unfolding core_of
core_group p h low = div-mul-add p.group p.layout.group h low

-- a core of the group's is a member
core_is : (p : Place) (c : ℕ) → 0 < p.layout.group → c / p.layout.group ≡ p.group → (c % p.layout.group < members p) × (core_of p (c % p.layout.group) ≡ c)
unfolding core_of
core_is p c some same = (omega (arith, some), ap (λ (g : ℕ). g * p.layout.group + c % p.layout.group) (sym same) ∙ div-add-mod' c p.layout.group)

-- the key is one of the group's where its core is
pub owner_of : (p : Place) (k : ℕ) → 0 < p.layout.group → layouts.owner p.layout k / p.layout.group ≡ p.group → owner p k < members p
unfolding owner
owner_of p k some same = elim (chosen (layouts.owner p.layout k / p.layout.group == p.group) (layouts.owner p.layout k % p.layout.group) p.layout.group _ refl) [
  | inl a ↦ (let is = a.1 in omega (arith, some, is))
  | inr a ↦ absurd (let t = eq-eqb (layouts.owner p.layout k / p.layout.group) p.group same in let f = a.0 in cc (t, f))
]

pub own_core : (p : Place) (k : ℕ) → 0 < p.layout.group → owner p k < members p → (core_of p (owner p k) ≡ layouts.owner p.layout k) × (layouts.owner p.layout k / p.layout.group ≡ p.group)
unfolding owner core_of
own_core p k some low = elim (chosen (layouts.owner p.layout k / p.layout.group == p.group) (layouts.owner p.layout k % p.layout.group) p.layout.group _ refl) [
  | inl a ↦
      let o = layouts.owner p.layout k in
      let same = eqb-true (o / p.layout.group) p.group a.0 in
      (ap (λ (n : ℕ). p.group * p.layout.group + n) (sym a.1) ∙ ap (λ (g : ℕ). g * p.layout.group + o % p.layout.group) (sym same) ∙ div-add-mod' o p.layout.group, same)
  | inr a ↦ absurd (let is = a.1 in omega (arith, low, is))
]

module _ (p : Place) (image : ℕ → ℕ) (place : IsPlace p) (rules : KeepsRules p.layout image) where
  abbrev es : List PlacedEntry
  es = all_entries p.layout image

  abbrev x : Contents
  x = contents p (λ h. image)

  pub some_group : 0 < p.layout.group
  some_group = let one = (layout_numbers p.layout place.layout).group in omega (arith, one)

  -- an entry of a key of the group stands in a log of the group
  pub home : (y : PlacedEntry) → In y es → owner p y.entry.key < members p → (h : ℕ) × (h < members p) × In y (log_of p image h) × (y.core ≡ core_of p h)
  home y i own =
      let l = p.layout in
      let part = of_flat (λ c. part_entries l image c) y (numbers 0 l.cores) i in
      let c : ℕ = part.0 in
      let low : c < l.cores = (let r = number_in 0 l.cores c part.1 in omega (arith, r.1)) in
      let chunk = of_flat (λ j. chunk_entries l image c j) y (numbers 0 l.chunks) part.2 in
      let fits : chunk.0 < l.chunks = (let r = number_in 0 l.chunks chunk.0 chunk.1 in omega (arith, r.1)) in
      let grouped = eqb-true (layouts.owner l y.entry.key / l.group) (c / l.group) (rules.grouped c chunk.0 y low fits chunk.2) in
      let is = core_is p c some_group (sym grouped ∙ (own_core p y.entry.key some_group own).1) in
      let log : In y (log_of p image (c % l.group)) = subst (λ (d : ℕ). In y (part_entries l image d)) (sym is.1) part.2 in
      (c % l.group, is.0, log, part_core p image (c % l.group) y log)

  -- and an entry of such a log has a key of the group
  pub back : (h : ℕ) (y : PlacedEntry) → h < members p → In y (log_of p image h) → In y es × (owner p y.entry.key < members p)
  back h y low i =
      let l = p.layout in
      let core = core_low p place h low in
      let chunk = of_flat (λ j. chunk_entries l image (core_of p h) j) y (numbers 0 l.chunks) i in
      let fits : chunk.0 < l.chunks = (let r = number_in 0 l.chunks chunk.0 chunk.1 in omega (arith, r.1)) in
      let grouped = eqb-true (layouts.owner l y.entry.key / l.group) (core_of p h / l.group) (rules.grouped (core_of p h) chunk.0 y core fits chunk.2) in (
        in_flat (λ c. part_entries l image c) (core_of p h) y (numbers 0 l.cores) (in_numbers 0 l.cores (core_of p h) (omega arith) (omega (arith, core))) i,
        owner_of p y.entry.key some_group (grouped ∙ core_group p h low),
      )

  -- what stands in the contents, as an entry of the image
  pub record Stands (h : ℕ) (e : Entry) : Type 0 where
    pub y : PlacedEntry
    pub log : In y (log_of p image h)
    pub image_has : In y es
    pub low : h < members p
    pub own : owner p e.key < members p
    pub is : e ≡ y.entry
    pub core : y.core ≡ core_of p h

  pub stands : (h : ℕ) (e : Entry) → x.entries h e ≡ true → Stands h e
  stands h e t =
      let s = stands_there p (λ h. image) h e t in
      let found = of_map (λ (z : PlacedEntry). z.entry) e _ s.1 in
      let b = back h found.0 s.0 found.1 in
      record {
        y = found.0;
        log = found.1;
        image_has = b.0;
        low = s.0;
        own = subst (λ (z : Entry). owner p z.key < members p) (sym found.2) b.1;
        is = found.2;
        core = part_core p image h found.0 found.1;
      }

  pub there : (h : ℕ) (y : PlacedEntry) → h < members p → In y (log_of p image h) → x.entries h y.entry ≡ true
  there h y low i = there_stands p (λ h. image) h y.entry low (in_map (λ (z : PlacedEntry). z.entry) y _ i)

  -- one name, one entry, one home
  pub same_entry : (y z : PlacedEntry) → In y es → In z es → y.entry.key ≡ z.entry.key → y.entry.version ≡ z.entry.version → (y.entry ≡ z.entry) × (y.core ≡ z.core)
  same_entry y z i j k v = let a = rules.agree y z i j k v in (λ t. record { key = k t; version = v t; body = a.0 t }, a.1)

  pub wins : (k : ℕ) (y : PlacedEntry) → owner p k < members p → winner_in k es ≡ Some y → IsWinner x k y.entry
  wins k y own q =
      let is = winner_is k es y q in
      let at = home y is.0 (subst (λ (j : ℕ). owner p j < members p) (sym is.1) own) in
      record {
        home = at.0;
        stands = there at.0 y at.1 at.2;
        key = is.1;
        greatest = λ d f t i. let s = stands d f t in subst (λ (g : Entry). g.version ≤ y.entry.version) (sym s.is) (winner_max k es y s.y q s.image_has (ap (λ (g : Entry). g.key) (sym s.is) ∙ i));
      }

  pub won : (k : ℕ) (e : Entry) → IsWinner x k e → (y : PlacedEntry) × (winner_in k es ≡ Some y) × (y.entry ≡ e) × (owner p k < members p)
  won k e W = by (winner_in k es) refl where
    s : Stands W.home e
    s = stands W.home e W.stands

    own : owner p k < members p
    own = subst (λ (j : ℕ). owner p j < members p) W.key s.own

    key : s.y.entry.key ≡ k
    key = ap (λ (g : Entry). g.key) (sym s.is) ∙ W.key

    by : (o : Option PlacedEntry) → winner_in k es ≡ o → (y : PlacedEntry) × (winner_in k es ≡ Some y) × (y.entry ≡ e) × (owner p k < members p)
    by None q = absurd (winner_some k es s.y s.image_has key q)
    by (Some y) q =
        let is = winner_is k es y q in
        let at = home y is.0 (subst (λ (j : ℕ). owner p j < members p) (sym is.1) own) in
        let up = W.greatest at.0 y.entry (there at.0 y at.1 at.2) is.1 in
        let down = winner_max k es y s.y q s.image_has key in
        let version : s.y.entry.version ≡ e.version = ap (λ (g : Entry). g.version) (sym s.is) in
        (y, q, (same_entry y s.y is.0 s.image_has (is.1 ∙ sym key) (omega (arith, up, down, version))).0 ∙ sym s.is, own)
