-- What the words of a region in which each chunk is free open: nothing.
use Rattle.std.proofs.Common.{◌≡◌, ℕ, ◌<◌, Bool, true, false, cond, ◌&&◌, ◌==◌, List, [], ◌∷◌, map, Option, None, unwrap_or, inl, inr, arith, refl, ap, ◌∙◌, ltb}
use Rattle.std.specs.Prelude.{find, option_map}
use Rattle.std.specs.List.{flat_map}
use Rattle.std.specs.Option.{option_and_then}
use Rattle.std.proofs.lemmas.Bool.{ltb-true}
use Rattle.chunk_map.specs.Layouts.{numbers}
use Rattle.store_image.specs.declared.types.PlacedEntry.{PlacedEntry}
use Rattle.store_image.specs.Parts.{all_entries, part_entries, chunk_entries, value_in_block}
use Rattle.store_image.specs.Winners.{winner, winner_in, keys_of, cell_by}
use Rattle.store_image.specs.Soundness.{points_to}
use Rattle.store_image.specs.Facts.{In}
use Rattle.chunk_map.specs.Layouts as layouts
use Rattle.store_image.proofs.Clients.{free_entries, number_in}
use Rattle.group_laws.specs.Places.{Place, IsPlace, members, core_of, owner}
use Rattle.group_laws.specs.Images.{log_of, block_of}
use Rattle.group_laws.specs.OpeningImages.{is_own, kept_in, last_of, cell_of, home_of, pointing, block_at, is_dead, is_at, is_own_dead, IsBlank}
use Rattle.group_laws.proofs.GroupEntries.{core_low}

flat_none : {X Y : Type 0} (f : X → List Y) (xs : List X) → ((x : X) → In x xs → f x ≡ []) → flat_map f xs ≡ []
flat_none f [] h = refl
flat_none {Y = Y} f (x ∷ xs) h = ap (λ (ys : List Y). Rattle.std.proofs.Common.◌++◌ ys (flat_map f xs)) (h x (inl refl)) ∙ flat_none f xs (λ y i. h y (inr i))

neither : {X : Type 0} (b : Bool) (x : X) → cond b x x ≡ x
neither true x = refl
neither false x = refl

module _ (p : Place) (place : IsPlace p) (image : ℕ → ℕ) (blank : IsBlank p.layout image) where
  no_part : (c : ℕ) → c < p.layout.cores → part_entries p.layout image c ≡ []
  no_part c low = flat_none (λ j. chunk_entries p.layout image c j) (numbers 0 p.layout.chunks) (λ j i. free_entries p.layout image c j (blank c j low (let r = number_in 0 p.layout.chunks j i in omega (arith, r.1))))

  no_entries : all_entries p.layout image ≡ []
  no_entries = flat_none (λ c. part_entries p.layout image c) (numbers 0 p.layout.cores) (λ c i. no_part c (let r = number_in 0 p.layout.cores c i in omega (arith, r.1)))

  pub no_log : (h : ℕ) → kept_in p image h ≡ []
  no_log h = elim (ltb h (members p)) as (λ b. ltb h (members p) ≡ b → cond b (map (λ (x : PlacedEntry). x.entry) (log_of p image h)) [] ≡ []) [
    | true ↦ λ e. ap (map (λ (x : PlacedEntry). x.entry)) (no_part (core_of p h) (core_low p place h (ltb-true h (members p) e)))
    | false ↦ λ e. refl
  ] refl

  pub no_last : (k : ℕ) → last_of p image k ≡ 0
  no_last k = ap (λ (es : List PlacedEntry). unwrap_or (option_map (λ (x : PlacedEntry). x.entry.version) (cond (is_own p k) (winner_in k es) None)) 0) no_entries ∙ ap (λ (o : Option PlacedEntry). unwrap_or (option_map (λ (x : PlacedEntry). x.entry.version) o) 0) (neither (is_own p k) None)

  pub no_cell : (k : ℕ) → cell_of p image k ≡ None
  no_cell k = ap (λ (es : List PlacedEntry). cond (is_own p k) (option_and_then (λ (x : PlacedEntry). cell_by (value_in_block p.layout image (layouts.owner p.layout k)) x.entry.body) (winner_in k es)) None) no_entries ∙ neither (is_own p k) None

  pub no_home : (k v : ℕ) → home_of p image k v ≡ None
  no_home k v = ap (λ (es : List PlacedEntry). cond (is_own p k) (option_map (λ (x : PlacedEntry). Rattle.std.proofs.Common.◌-◌ x.core (Rattle.std.proofs.Common.◌*◌ p.group p.layout.group)) (find (λ (x : PlacedEntry). x.entry.key == k && x.entry.version == v) es)) None) no_entries ∙ neither (is_own p k) None

  pub no_block : (m q : ℕ) → block_at p image m q ≡ None
  no_block m q =
      let none : pointing p image m q ≡ None = ap (λ (es : List PlacedEntry). find (λ k. owner p k == m && points_to q (winner p.layout image k)) (keys_of es)) no_entries in
      ap (λ (o : Option ℕ). cond (ltb m (members p)) (option_and_then (λ (k : ℕ). option_map (λ (v : List ℕ). record { key = k; bytes = v }) (block_of p image m q)) o) None) none ∙ neither (ltb m (members p)) None

  pub no_death : (k v : ℕ) → is_own_dead p image k v ≡ false
  no_death k v = ap (λ (o : Option ℕ). is_at (owner p k) o && is_dead p image k v) (no_home k v)
