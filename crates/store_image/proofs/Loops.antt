-- A loop over numbers, from the i-th on.
use Rattle.std.proofs.Common.{◌≡◌, ℕ, suc, ◌+◌, ◌-◌, ◌<◌, ◌≤◌, List, [], ◌∷◌, ◌++◌, length, drop, get_or, refl, sym, ◌∙◌, ap, arith, append_assoc, append-nil, Option, Some, None, true, false}
use Rattle.std.specs.Prelude.{is_some}
use Rattle.std.proofs.lemmas.List.{drop_more}
use Rattle.std.specs.Option.{option_or}
use Rattle.std.specs.List.{flat_map}
use Rattle.chunk_map.specs.Layouts.{numbers, layout_of, superblock_rule}
use Rattle.chunk_map.specs.declared.layouts.Geometry.{Geometry}
use Rattle.store_image.specs.declared.types.PlacedEntry.{PlacedEntry}
use Rattle.store_image.specs.declared.types.Fault.{Fault}
use Rattle.store_image.specs.declared.types.Fault.TheVariants.{NotARegion}
use Rattle.store_image.specs.Parts.{all_entries}
use Rattle.store_image.specs.Soundness.{first_some, chunk_fault, clash_fault, block_fault, damage, fault_by, first_fault}

numbers_next : (i n : ℕ) → i < n → numbers i (n - i) ≡ i ∷ numbers (i + 1) (n - (i + 1))
numbers_next i n lt =
    let e : n - i ≡ suc (n - (i + 1)) = omega (arith, lt) in
    let s : suc i ≡ i + 1 = omega arith in
    ap (numbers i) e ∙ ap (λ k. i ∷ numbers k (n - (i + 1))) s

numbers_end : (i n : ℕ) → n ≤ i → numbers i (n - i) ≡ []
numbers_end i n le = let e : n - i ≡ 0 = omega (arith, le) in ap (numbers i) e

or_assoc : {Y : Type 0} (a b c : Option Y) → option_or (option_or a b) c ≡ option_or a (option_or b c)
or_assoc None b c = refl
or_assoc (Some x) b c = refl

or_end : {Y : Type 0} (a : Option Y) → option_or a None ≡ a
or_end None = refl
or_end (Some x) = refl

-- the first answer so far, and that of the rest
module _ {Y : Type 0} (f : ℕ → Option Y) (i n : ℕ) where
  pub first_next : (old more : Option Y) → i < n → more ≡ option_or old (f i) → option_or more (first_some f (numbers (i + 1) (n - (i + 1)))) ≡ option_or old (first_some f (numbers i (n - i)))
  first_next old more lt e =
      let rest = first_some f (numbers (i + 1) (n - (i + 1))) in
      ap (λ o. option_or o rest) e ∙ or_assoc old (f i) rest ∙ ap (option_or old) (sym (ap (first_some f) (numbers_next i n lt)))

  pub first_end : (old : Option Y) → n ≤ i → old ≡ option_or old (first_some f (numbers i (n - i)))
  first_end old le = sym (or_end old) ∙ ap (option_or old) (sym (ap (first_some f) (numbers_end i n le)))

-- and its list
module _ {X : Type 0} (h : ℕ → List X) (i n : ℕ) where
  pub list_next : (old more : List X) → i < n → more ≡ old ++ h i → more ++ flat_map h (numbers (i + 1) (n - (i + 1))) ≡ old ++ flat_map h (numbers i (n - i))
  list_next old more lt e =
      let rest = flat_map h (numbers (i + 1) (n - (i + 1))) in
      ap (λ l. l ++ rest) e ∙ append_assoc old (h i) rest ∙ ap (λ l. old ++ l) (sym (ap (flat_map h) (numbers_next i n lt)))

  pub list_end : (old : List X) → n ≤ i → old ≡ old ++ flat_map h (numbers i (n - i))
  list_end old le = sym (append-nil old) ∙ ap (λ l. old ++ l) (sym (ap (flat_map h) (numbers_end i n le)))

-- the same over a list
pub first_at : {Y : Type 0} (f : ℕ → Option Y) (xs : List ℕ) (i : ℕ) (y : Y) → i < length xs → f (get_or xs i 0) ≡ Some y → first_some f (drop i xs) ≡ Some y
first_at f xs i y lt e = ap (first_some f) (drop_more xs i 0 lt) ∙ ap (λ o. option_or o (first_some f (drop (i + 1) xs))) e

pub first_behind : {Y : Type 0} (f : ℕ → Option Y) (xs : List ℕ) (i : ℕ) → i < length xs → f (get_or xs i 0) ≡ None → first_some f (drop i xs) ≡ first_some f (drop (i + 1) xs)
first_behind f xs i lt e = ap (first_some f) (drop_more xs i 0 lt) ∙ ap (λ o. option_or o (first_some f (drop (i + 1) xs))) e

-- what is found by the four steps is the first fault
module _ (l : Geometry) (image : ℕ → ℕ) (es : List PlacedEntry) (is : es ≡ all_entries l image) where
  pub chunks_decide : (f : Option Fault) → f ≡ chunk_fault l image → is_some f ≡ true → f ≡ damage l image
  chunks_decide None e some = cc some
  chunks_decide (Some x) e some = ap (λ o. option_or o (option_or (clash_fault (all_entries l image)) (block_fault l image (all_entries l image)))) e

  behind_chunks : (f o : Option Fault) → o ≡ chunk_fault l image → is_some o ≡ false → f ≡ option_or (clash_fault es) (block_fault l image es) → f ≡ damage l image
  behind_chunks f None e none found = found ∙ ap (λ xs. option_or (clash_fault xs) (block_fault l image xs)) is ∙ ap (λ o. option_or o (option_or (clash_fault (all_entries l image)) (block_fault l image (all_entries l image)))) e
  behind_chunks f (Some x) e none found = cc none

  pub clash_decides : (f o : Option Fault) → o ≡ chunk_fault l image → is_some o ≡ false → f ≡ clash_fault es → is_some f ≡ true → f ≡ damage l image
  clash_decides None o e none is some = cc some
  clash_decides (Some x) o e none is some = behind_chunks (Some x) o e none (ap (λ f. option_or f (block_fault l image es)) is)

  pub blocks_decide : (f o p : Option Fault) → o ≡ chunk_fault l image → is_some o ≡ false → p ≡ clash_fault es → is_some p ≡ false → f ≡ block_fault l image es → f ≡ damage l image
  blocks_decide f o None e none c last found = behind_chunks f o e none (found ∙ ap (λ q. option_or q (block_fault l image es)) c)
  blocks_decide f o (Some x) e none c last found = cc last

pub judged : (bytes : ℕ) (image : ℕ → ℕ) (l : Geometry) (f : Option Fault) → superblock_rule bytes image ≡ None → l ≡ layout_of image → f ≡ damage l image → f ≡ first_fault bytes image
unfolding first_fault
judged bytes image l f none is found = found ∙ ap (λ l. damage l image) is ∙ ap (fault_by image) (sym none)

pub not_a_region : (bytes : ℕ) (image : ℕ → ℕ) (rule : ℕ) → superblock_rule bytes image ≡ Some rule → Some (NotARegion rule) ≡ first_fault bytes image
unfolding first_fault
not_a_region bytes image rule is = ap (fault_by image) (sym is)
