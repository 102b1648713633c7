-- The cells of the start, put down one by one.
use Rattle.std.proofs.Common.{◌≡◌, ℕ, ◌+◌, ◌<◌, ◌==◌, List, [], ◌∷◌, ◌++◌, length, take, get_or, refl, sym, ap, ◌∙◌, true, false, cond, Option, Some, None}
use Rattle.std.specs.Prelude.{option_map, find}
use Rattle.std.specs.Option.{option_or, unwrap_or}
use Rattle.std.proofs.lemmas.List.{take_more}
use Rattle.fs_model.specs.declared.model.Pair.{Pair}
use Rattle.run_audit.specs.FirstFault.{cells_in}
use Rattle.run_audit.specs.Shares.{State, started}

pub start_state : (o : Option (List ℕ)) → unwrap_or (option_map started o) (None, false) ≡ (o, false)
start_state None = refl
start_state (Some v) = refl

-- one cell more, where no cell before it has its key
pub entered : (cells : List Pair) (cell : Pair) (k : ℕ)
    → option_or (option_map started (cells_in cells k)) (cond (cell.key == k) (Some (started cell.value)) None) ≡ option_map started (cells_in (cells ++ cell ∷ []) k)
entered [] cell k = elim (cell.key == k) as (λ b. cond b (Some (started cell.value)) None ≡ option_map started (option_map (λ (p : Pair). p.value) (cond b (Some cell) None))) [ true ↦ refl | false ↦ refl ]
entered (x ∷ xs) cell k = elim (x.key == k) as (λ b. option_or (option_map started (option_map (λ (p : Pair). p.value) (cond b (Some x) (find (λ (p : Pair). p.key == k) xs)))) (cond (cell.key == k) (Some (started cell.value)) None)
    ≡ option_map started (option_map (λ (p : Pair). p.value) (cond b (Some x) (find (λ (p : Pair). p.key == k) (xs ++ cell ∷ []))))) [
      | true ↦ refl
      | false ↦ entered xs cell k
    ]

or_none : (o : Option State) → option_or o None ≡ o
or_none None = refl
or_none (Some s) = refl

-- a cell of another key
pub unentered : (cells : List Pair) (cell : Pair) (k : ℕ) → (cell.key == k) ≡ false → option_map started (cells_in cells k) ≡ option_map started (cells_in (cells ++ cell ∷ []) k)
unentered cells cell k e =
    sym (or_none (option_map started (cells_in cells k)))
    ∙ ap (λ b. option_or (option_map started (cells_in cells k)) (cond b (Some (started cell.value)) None)) (sym e)
    ∙ entered cells cell k

pub cells_more : (cells : List Pair) (i : ℕ) (cell : Pair) → i < length cells → cell ≡ get_or cells i cell → take (i + 1) cells ≡ take i cells ++ cell ∷ []
cells_more cells i cell low is = take_more cells i cell low ∙ ap (λ x. take i cells ++ x ∷ []) (sym is)
