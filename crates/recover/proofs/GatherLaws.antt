-- Loops that end at the first fault.
use Rattle.std.proofs.Common.{◌≡◌, ℕ, ◌+◌, ◌-◌, ◌<◌, ◌≤◌, List, [], ◌∷◌, ◌++◌, length, take, get_or, map, refl, sym, ◌∙◌, ap, append_assoc, append-nil, Option, Some, None, true, false}
use Rattle.std.specs.List.{flat_map}
use Rattle.std.proofs.lemmas.List.{map-append, take_more}
use Rattle.std.specs.Prelude.{is_some}
use Rattle.std.specs.Option.{option_or}
use Rattle.chunk_map.specs.Layouts.{numbers, chunk_first}
use Rattle.store_image.specs.Soundness.{first_some}
use Rattle.store_image.proofs.Clients.{first_next, first_end, list_next, list_end}
use Rattle.log_entry.specs.declared.entry.Entry.{Entry}
use Rattle.chunk_map.specs.declared.layouts.Geometry.{Geometry}
use Rattle.store_image.specs.declared.scanning.AtPlace.{AtPlace}
use Rattle.store_image.specs.Scanned.{name_at}
use Rattle.store_image.specs.Parts.{placed_in_chunk}
use Rattle.store_image.specs.declared.types.Fault.{Fault}
use Rattle.recover.specs.declared.found_entries.Found.{Found}
use Rattle.recover.specs.declared.types.RecoverError.{RecoverError}
use Rattle.recover.specs.declared.types.RecoverError.TheVariants as errors
use Rattle.recover.specs.Causes.{HasCause}
use Rattle.recover.specs.FoundEntries.{found_in, found_of, LieBelow}
use Rattle.recover.proofs.ListLaws.{all_at}

module _ {Y : Type 0} (f : ℕ → Option Y) (i n : ℕ) where
  pub goes_on : (o : Option Y) → i < n → o ≡ f i → is_some o ≡ false → first_some f (numbers (i + 1) (n - (i + 1))) ≡ first_some f (numbers i (n - i))
  goes_on None lt is none = ap (λ p. option_or p (first_some f (numbers (i + 1) (n - (i + 1))))) is ∙ first_next f i n None (f i) lt refl
  goes_on (Some y) lt is none = absurd (cc none)

  pub stops : (o : Option Y) → i < n → o ≡ f i → is_some o ≡ true → o ≡ first_some f (numbers i (n - i))
  stops None lt is some = absurd (cc some)
  stops (Some y) lt is some = ap (λ p. option_or p (first_some f (numbers (i + 1) (n - (i + 1))))) is ∙ first_next f i n None (f i) lt refl

  pub ends : n ≤ i → None ≡ first_some f (numbers i (n - i))
  ends le = first_end f i n None le

-- the error of the first one that has a fault
pub stops_by : (f : ℕ → Option Fault) (i n : ℕ) (e : RecoverError) → i < n → HasCause (f i) e → HasCause (first_some f (numbers i (n - i))) e
stops_by f i n (errors.Fault y) lt is = sym (stops f i n (Some y) lt (sym is) refl)
stops_by f i n errors.Memory lt is = tt

-- a loop that gathers what is found of the entries of one after another
module _ {X Y : Type 0} (f : X → Y) (h : ℕ → List X) (i n : ℕ) where
  pub found_next : (old more : List Y) → i < n → more ≡ old ++ map f (h i) → more ++ map f (flat_map h (numbers (i + 1) (n - (i + 1)))) ≡ old ++ map f (flat_map h (numbers i (n - i)))
  found_next old more lt e =
      let rest = flat_map h (numbers (i + 1) (n - (i + 1))) in
      ap (λ l. l ++ map f rest) e ∙ append_assoc old (map f (h i)) (map f rest) ∙ ap (λ l. old ++ l) (sym (map-append f (h i) rest)) ∙ ap (λ l. old ++ map f l) (list_next h i n [] (h i) lt refl)

  pub found_end : (old : List Y) → n ≤ i → old ≡ old ++ map f (flat_map h (numbers i (n - i)))
  found_end old le = sym (append-nil old) ∙ ap (λ l. old ++ map f l) (list_end h i n [] le)

-- what is found of a payload's entries
module _ (es : List AtPlace) (i : ℕ) (d : AtPlace) (lt : i < length es) where
  pub place_lies : (n : ℕ) → LieBelow n es → (get_or es i d).place < n
  place_lies n all = all_at (λ (y : AtPlace). y.place < n) es i d all lt

  pub more_noted : (first : ℕ) (old now new : List Found) → now ≡ old ++ map (found_in first) (take i es) → new ≡ now ++ found_in first (get_or es i d) ∷ []
      → new ≡ old ++ map (found_in first) (take (i + 1) es)
  more_noted first old now new so_far push =
      let f : AtPlace → Found = found_in first in
      let x = get_or es i d in
      push ∙ ap (λ l. l ++ f x ∷ []) so_far ∙ append_assoc old (map f (take i es)) (f x ∷ [])
      ∙ ap (λ l. old ++ l) (sym (map-append f (take i es) (x ∷ [])))
      ∙ ap (λ ys. old ++ map f ys) (sym (take_more es i d lt))

pub placed_found : (l : Geometry) (c j first : ℕ) (xs : List (ℕ × Entry)) → first ≡ chunk_first l c j + 32 → map (found_in first) (map name_at xs) ≡ map (found_of l) (placed_in_chunk c j xs)
placed_found l c j first [] is = refl
placed_found l c j first (x ∷ xs) is = (λ i. record { key = x.1.key; version = x.1.version; at = is i + x.0 } ∷ placed_found l c j first xs is i)
