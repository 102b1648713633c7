-- Parts that are safe group by group make a sound image.
use Rattle.std.proofs.Common.{◌≡◌, ℕ, ◌/◌, ◌%◌, ◌<◌, Bool, true, List, [], ◌∷◌, Option, Some, None, ◌⊎◌, inl, inr, arith, refl, sym, ap, ◌∙◌, subst}
use Rattle.std.specs.List.{list_all}
use Rattle.std.specs.Option.{option_and_then}
use Rattle.std.proofs.Math.Nat.{div-lt_iff_lt-mul}
use Rattle.std.proofs.lemmas.Nat.{div-add-mod'}
use Rattle.std.proofs.lemmas.Bool.{and_parts, eq-eqb}
use Rattle.log_entry.specs.declared.entry.Body.TheVariants.{Pointer}
use Rattle.chunk_map.specs.declared.layouts.Geometry.{Geometry}
use Rattle.chunk_map.specs.Layouts.{IsLayout, numbers, chunk_first, is_of_group, superblock_rule, layout_of}
use Rattle.chunk_map.specs.Layouts as layouts
use Rattle.chunk_map.proofs.Clients.{numbers_of}
use Rattle.store_image.specs.declared.types.PlacedEntry.{PlacedEntry}
use Rattle.store_image.specs.Parts.{chunk_reads, reads, chunk_entries, part_entries, all_entries, value_in_block, block_bytes}
use Rattle.store_image.specs.Winners.{winner_in, cell_by}
use Rattle.store_image.specs.Winners as winners
use Rattle.store_image.specs.Facts.{In, Agree, KeepsRules}
use Rattle.store_image.specs.Soundness.{IsSound}
use Rattle.store_image.proofs.Clients.{number_in, winner_is, store_sound, in_numbers, superblock_facts, winner_some, winner_max}
use Rattle.group_laws.specs.Places.{Place, members, core_of, owner}
use Rattle.group_laws.specs.State.{Group}
use Rattle.group_laws.specs.Crashes.{IsNext}
use Rattle.group_laws.specs.Regions.{groups_in, place_at, key_group, AreSafe, ShowsCell}
use Rattle.group_laws.specs.Images.{log_of, block_of, group_entries, recovered, IsSafe}
use Rattle.group_laws.proofs.Images.{in_flat, of_flat}
use Rattle.group_laws.proofs.GroupEntries.{core_low, own_core}
use Rattle.group_laws.proofs.PartBlocks.{is_block}

-- what is said of one image of all parts
pub record Ok (p : Place) (image : ℕ → ℕ) : Type 0 where
  pub well : (h : ℕ) → h < members p → reads p.layout image (core_of p h) ≡ true
  pub grouped : (x : PlacedEntry) → In x (group_entries p (λ h. image)) → owner p x.entry.key < members p
  pub agree : Agree (group_entries p (λ h. image))
  pub block : (k q : ℕ) (x : PlacedEntry) → winner_in k (group_entries p (λ h. image)) ≡ Some x → x.entry.body ≡ Pointer q → (v : List ℕ) × (block_of p image (owner p k) q ≡ Some v)
  pub own : (j k q : ℕ) (x y : PlacedEntry) → winner_in j (group_entries p (λ h. image)) ≡ Some x → winner_in k (group_entries p (λ h. image)) ≡ Some y → x.entry.body ≡ Pointer q → y.entry.body ≡ Pointer q → j ≡ k

pub ok_of : (w : Group) (image : ℕ → ℕ) → IsSafe w (λ h. image) → Ok w.place image
ok_of w image s = record { well = s.well; grouped = s.grouped; agree = s.agree; block = s.block; own = s.own }

all_true : {X : Type 0} (f : X → Bool) (xs : List X) (x : X) → list_all f xs ≡ true → In x xs → f x ≡ true
all_true f [] x a i = absurd i
all_true f (y ∷ ys) x a (inl q) = ap f q ∙ (and_parts (f y) (list_all f ys) a).0
all_true f (y ∷ ys) x a (inr i) = all_true f ys x (and_parts (f y) (list_all f ys) a).1 i

module _ (l : Geometry) (is : IsLayout l) (image : ℕ → ℕ) (ok : (g : ℕ) → g < l.cores / l.group → Ok (place_at l g) image) where
  some : 0 < l.group
  some = let one = (numbers_of l is).group_low in omega (arith, one)

  group_low : (c : ℕ) → c < l.cores → c / l.group < l.cores / l.group
  group_low c low =
      let split = div-add-mod' l.cores l.group in
      let none = (numbers_of l is).divides in
      (div-lt_iff_lt-mul {k = l.group} some).1 (omega (arith, low, split, none))

  abbrev of_key : ℕ → ℕ
  of_key k = layouts.owner l k / l.group

  key_low : (k : ℕ) → of_key k < l.cores / l.group
  key_low k = let one = (numbers_of l is).cores_low in group_low (layouts.owner l k) (omega (arith, one))

  abbrev es : ℕ → List PlacedEntry
  es g = group_entries (place_at l g) (λ h. image)

  core_is : (c : ℕ) → core_of (place_at l (c / l.group)) (c % l.group) ≡ c
  unfolding core_of
  core_is c = div-add-mod' c l.group

  member : (c : ℕ) → c % l.group < l.group
  member c = let one = some in omega (arith, one)

  -- an entry of a part stands among those of its group
  among : (c : ℕ) (x : PlacedEntry) → In x (part_entries l image c) → In x (es (c / l.group))
  among c x i = in_flat (λ h. log_of (place_at l (c / l.group)) image h) (c % l.group) x (numbers 0 l.group) (in_numbers 0 l.group (c % l.group) (omega arith) (let m = member c in omega (arith, m))) (subst (λ (d : ℕ). In x (part_entries l image d)) (sym (core_is c)) i)

  -- and its key is one of that group
  key_group_is : (c : ℕ) (x : PlacedEntry) → c < l.cores → In x (part_entries l image c) → of_key x.entry.key ≡ c / l.group
  key_group_is c x low i = (own_core (place_at l (c / l.group)) x.entry.key some ((ok (c / l.group) (group_low c low)).grouped x (among c x i))).1

  from : (x : PlacedEntry) → In x (all_entries l image) → (c : ℕ) × (c < l.cores) × In x (part_entries l image c)
  from x i = let p = of_flat (λ c. part_entries l image c) x (numbers 0 l.cores) i in (p.0, (let r = number_in 0 l.cores p.0 p.1 in omega (arith, r.1)), p.2)

  in_group : (x : PlacedEntry) → In x (all_entries l image) → In x (es (of_key x.entry.key))
  in_group x i = let a = from x i in subst (λ (g : ℕ). In x (es g)) (sym (key_group_is a.0 x a.1 a.2)) (among a.0 x a.2)

  -- of the key k
  in_of : (k : ℕ) (x : PlacedEntry) → In x (all_entries l image) → x.entry.key ≡ k → In x (es (of_key k))
  in_of k x i e = subst (λ (j : ℕ). In x (es (of_key j))) e (in_group x i)

  back : (g : ℕ) (x : PlacedEntry) → g < l.cores / l.group → In x (es g) → In x (all_entries l image)
  back g x low i =
      let p = of_flat (λ h. log_of (place_at l g) image h) x (numbers 0 l.group) i in
      let m : p.0 < l.group = (let r = number_in 0 l.group p.0 p.1 in omega (arith, r.1)) in
      let c = core_low (place_at l g) (record { layout = is; group = low }) p.0 m in
      in_flat (λ c. part_entries l image c) (core_of (place_at l g) p.0) x (numbers 0 l.cores) (in_numbers 0 l.cores (core_of (place_at l g) p.0) (omega arith) (omega (arith, c))) p.2

  all_agree : Agree (all_entries l image)
  all_agree x y i j k v = (ok (of_key y.entry.key) (key_low y.entry.key)).agree x y (in_of y.entry.key x i k) (in_group y j) k v

  -- the winner of all parts is that of the key's group, up to its place
  wins : (k : ℕ) (x : PlacedEntry) → winner_in k (all_entries l image) ≡ Some x → (y : PlacedEntry) × (winner_in k (es (of_key k)) ≡ Some y) × (y.entry.body ≡ x.entry.body)
  wins k x q = by (winner_in k (es (of_key k))) refl where
    at : In x (all_entries l image) × (x.entry.key ≡ k)
    at = winner_is k (all_entries l image) x q

    by : (o : Option PlacedEntry) → winner_in k (es (of_key k)) ≡ o → (y : PlacedEntry) × (winner_in k (es (of_key k)) ≡ Some y) × (y.entry.body ≡ x.entry.body)
    by None none = absurd (winner_some k (es (of_key k)) x (in_of k x at.0 at.1) at.1 none)
    by (Some y) there =
        let own = winner_is k (es (of_key k)) y there in
        let here = back (of_key k) y (key_low k) own.0 in
        let up = winner_max k (all_entries l image) x y q here own.1 in
        let down = winner_max k (es (of_key k)) y x there (in_of k x at.0 at.1) at.1 in
        (y, there, (all_agree y x here at.0 (own.1 ∙ sym at.1) (omega (arith, up, down))).0)

  -- a key with a winner is one of its group
  owned : (k : ℕ) (x : PlacedEntry) → winner_in k (all_entries l image) ≡ Some x → core_of (place_at l (of_key k)) (owner (place_at l (of_key k)) k) ≡ layouts.owner l k
  owned k x q =
      let at = winner_is k (all_entries l image) x q in
      let low = (ok (of_key k) (key_low k)).grouped x (in_of k x at.0 at.1) in
      (own_core (place_at l (of_key k)) k some (subst (λ (j : ℕ). owner (place_at l (of_key k)) j < l.group) at.1 low)).0

  holds : (k p : ℕ) (x : PlacedEntry) → winner_in k (all_entries l image) ≡ Some x → x.entry.body ≡ Pointer p → value_in_block l image (layouts.owner l k) p ≡ Some (block_bytes image p)
  holds k p x q b =
      let y = wins k x q in
      let v = (ok (of_key k) (key_low k)).block k p y.0 y.1 (y.2 ∙ b) in
      let there : value_in_block l image (layouts.owner l k) p ≡ Some v.0 = subst (λ (c : ℕ). value_in_block l image c p ≡ Some v.0) (owned k x q) v.1 in
      there ∙ ap Some (is_block l image (layouts.owner l k) p v.0 there).bytes

  apart : (j k p : ℕ) (x y : PlacedEntry) → winner_in j (all_entries l image) ≡ Some x → winner_in k (all_entries l image) ≡ Some y → x.entry.body ≡ Pointer p → y.entry.body ≡ Pointer p → j ≡ k
  apart j k p x y q r b c =
      let one = (is_block l image (layouts.owner l j) p (block_bytes image p) (holds j p x q b)).starts.part in
      let two = (is_block l image (layouts.owner l k) p (block_bytes image p) (holds k p y r c)).starts.part in
      let same : of_key k ≡ of_key j = ap (λ (o : ℕ). o / l.group) (sym two ∙ one) in
      let u = wins j x q in
      let v = wins k y r in
      (ok (of_key j) (key_low j)).own j k p u.0 v.0 u.1 (subst (λ (g : ℕ). winner_in k (es g) ≡ Some v.0) same v.1) (u.2 ∙ b) (v.2 ∙ c)

  pub rules : KeepsRules l image
  rules = record {
    reads = λ c j low m. all_true (λ j. chunk_reads l image (chunk_first l c j)) (numbers 0 l.chunks) j
        (subst (λ (d : ℕ). reads l image d ≡ true) (core_is c) ((ok (c / l.group) (group_low c low)).well (c % l.group) (member c)))
        (in_numbers 0 l.chunks j (omega arith) (omega (arith, m)));
    grouped = λ c j x low m i. eq-eqb (of_key x.entry.key) (c / l.group) (key_group_is c x low (in_flat (λ j. chunk_entries l image c j) j x (numbers 0 l.chunks) (in_numbers 0 l.chunks j (omega arith) (omega (arith, m))) i));
    agree = all_agree;
    holds = holds;
    own = apart;
  }

  -- and a key's cell is what its group recovers
  pub same_cell : (k : ℕ) → winners.recovered l image k ≡ recovered (place_at l (of_key k)) (λ h. image) k
  same_cell k = by (winner_in k (all_entries l image)) refl where
    here : (o : Option PlacedEntry) → winner_in k (es (of_key k)) ≡ o → winner_in k (all_entries l image) ≡ None → None ≡ option_and_then (λ (x : PlacedEntry). cell_by (block_of (place_at l (of_key k)) image (owner (place_at l (of_key k)) k)) x.entry.body) o
    here None e none = refl
    here (Some y) e none = let own = winner_is k (es (of_key k)) y e in absurd (winner_some k (all_entries l image) y (back (of_key k) y (key_low k) own.0) own.1 none)

    by : (o : Option PlacedEntry) → winner_in k (all_entries l image) ≡ o
        → option_and_then (λ (x : PlacedEntry). cell_by (value_in_block l image (layouts.owner l k)) x.entry.body) o ≡ recovered (place_at l (of_key k)) (λ h. image) k
    by None none = here (winner_in k (es (of_key k))) refl none
    by (Some x) q =
        let y = wins k x q in
        ap (λ (c : ℕ). cell_by (value_in_block l image c) x.entry.body) (sym (owned k x q))
        ∙ ap (cell_by (block_of (place_at l (of_key k)) image (owner (place_at l (of_key k)) k))) (sym y.2)
        ∙ ap (λ o. option_and_then (λ (z : PlacedEntry). cell_by (block_of (place_at l (of_key k)) image (owner (place_at l (of_key k)) k)) z.entry.body) o) (sym y.1)

-- of groups that are safe
module _ (image : ℕ → ℕ) (w : ℕ → Group) (safe : AreSafe (layout_of image) w image) where
  ok : (g : ℕ) → g < groups_in (layout_of image) → Ok (place_at (layout_of image) g) image
  ok g low = subst (λ (p : Place). Ok p image) (safe.place g low) (ok_of (w g) image (safe.safe g low))

  -- an image whose superblock is whole is sound
  pub region_sound : (bytes : ℕ) → superblock_rule bytes image ≡ None → IsSound bytes image
  region_sound bytes none = store_sound bytes image (record { superblock = none; rules = rules (layout_of image) (superblock_facts bytes image none).1 image ok })

  -- and shows each key's cell as its group has it, or as its pending change leaves it
  pub region_cells : (bytes : ℕ) → superblock_rule bytes image ≡ None → (k : ℕ) → ShowsCell (layout_of image) w image k
  region_cells bytes none k =
      let l = layout_of image in
      let g = key_group (layout_of image) k in
      let is = (superblock_facts bytes image none).1 in
      let low = key_low (layout_of image) is image ok k in
      let own = (safe.safe g low).cells k in
      let same : winners.recovered (layout_of image) image k ≡ recovered (w (key_group (layout_of image) k)).place (λ h. image) k
      = same_cell (layout_of image) is image ok k ∙ ap (λ (p : Place). recovered p (λ h. image) k) (sym (safe.place g low)) in
      subst (λ (c : Option (List ℕ)). (c ≡ (w (key_group (layout_of image) k)).cell k) ⊎ IsNext (w (key_group (layout_of image) k)) k c) (sym same) own
