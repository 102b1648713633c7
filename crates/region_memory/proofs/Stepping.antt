-- How the cells of neighbouring words take a step.
use Rattle.std.proofs.Common.{◌≡◌, ◌⊎◌, inl, inr, ⊎_elim, ℕ, ◌+◌, ◌<◌, ◌/◌, ◌==◌, ◌&&◌, nat_le, nat_lt, Bool, true, false, if◌then◌else◌, zero, suc, List, [], ◌∷◌, ◌++◌, length, map, get_or, set, take, refl, sym, ◌∙◌, ap, subst, arith, length-set}
use Rattle.std.proofs.lemmas.Bool.{cases_eq}
use Rattle.std.proofs.lemmas.List.{length-map, map-set, get_or-map, get_or-set_same, get_or-set_other, take_more, take_all}
use Rattle.pm_region.specs.Cell.{Cell, certain, fenced, flushed, HasValue}
use Rattle.region_memory.specs.Image.{cell_of_data}
use Rattle.region_memory.specs.CellLists.{cell_in, HasOne, ActsAt, Acts, AllAct, AreOpen}
use Rattle.region_memory.specs.Journals.{act}
use Rattle.region_memory.specs.declared.crash_image.CellData.{CellData}
use Rattle.region_memory.specs.declared.step.Step.{Step}
use Rattle.region_memory.specs.declared.step.Step.TheVariants.{Flush, Fence}
use Rattle.pm_region.proofs.Clients.{has_split}

pub cell_there : (ds : List CellData) (k : ℕ) (d : CellData) → k < length ds → cell_in ds k ≡ cell_of_data (get_or ds k d)
cell_there ds k d lt = get_or-map cell_of_data ds k d (certain 0) lt

pub acted_at : (step : Step) (first k : ℕ) (ds : List CellData) (old new : CellData) → k < length ds → (get_or ds k old ≡ old) → cell_of_data new ≡ act step (first + k) (cell_of_data old) → ActsAt step first ds (set ds k new) k
acted_at step first k ds old new lt was is = record {
  count = length-set ds k new;
  here = ap (λ (l : List Cell). get_or l k (certain 0)) (map-set cell_of_data ds k new)
      ∙ get_or-set_same (map cell_of_data ds) k (cell_of_data new) (certain 0) (omega (arith, lt, length-map ds cell_of_data))
      ∙ is ∙ ap (λ (c : Cell). act step (first + k) c) (sym (cell_there ds k old lt ∙ ap cell_of_data was));
  others = λ j other. ap (λ (l : List Cell). get_or l j (certain 0)) (map-set cell_of_data ds k new)
      ∙ get_or-set_other (map cell_of_data ds) k j (cell_of_data new) (certain 0) (λ e. other e);
}

pub none_acts : (step : Step) (first : ℕ) (ds : List CellData) (Taken : ℕ → Type 0) → ((k : ℕ) → Taken k → ⊥) → Acts step first ds ds Taken
none_acts step first ds Taken none = record { count = refl; each = λ k. inl refl; taken = λ k t. absurd (none k t) }

-- one more cell takes a step that changes nothing the second time
pub acts_more : (step : Step) (first k : ℕ) (old mid new : List CellData) (Taken Taken' : ℕ → Type 0) → ((w : ℕ) (c : Cell) → act step w (act step w c) ≡ act step w c)
    → Acts step first old mid Taken → ActsAt step first mid new k → ((j : ℕ) → Taken' j → Taken j ⊎ (j ≡ k)) → Acts step first old new Taken'
acts_more step first k old mid new Taken Taken' twice acts at more = record {
  count = at.count ∙ acts.count;
  each = λ j. ⊎_elim (λ e. inr (here j e)) (λ other. ⊎_elim (λ a. inl (at.others j other ∙ a)) (λ a. inr (at.others j other ∙ a)) (acts.each j)) (cases_eq j k);
  taken = λ j t. ⊎_elim (here j) (λ other. ⊎_elim (λ before. at.others j other ∙ acts.taken j before) (here j) (more j t)) (cases_eq j k);
}
  where
    at_k : cell_in new k ≡ act step (first + k) (cell_in old k)
    at_k = at.here ∙ ⊎_elim (λ a. ap (λ (c : Cell). act step (first + k) c) a) (λ a. ap (λ (c : Cell). act step (first + k) c) a ∙ twice (first + k) (cell_in old k)) (acts.each k)

    here : (j : ℕ) → j ≡ k → cell_in new j ≡ act step (first + j) (cell_in old j)
    here j e = subst (λ (n : ℕ). cell_in new n ≡ act step (first + n) (cell_in old n)) (sym e) at_k

-- a cell that didn't take the step is one that the step doesn't change
pub all_act : (step : Step) (first : ℕ) (old new : List CellData) (Taken : ℕ → Type 0) → Acts step first old new Taken
    → ((k : ℕ) → k < length old → Taken k ⊎ (act step (first + k) (cell_in old k) ≡ cell_in old k)) → AllAct step first old new
all_act step first old new Taken acts either = record {
  count = acts.count;
  each = λ k lt. ⊎_elim (λ t. acts.taken k t) (λ fixed. ⊎_elim (λ same. same ∙ sym fixed) (λ is. is) (acts.each k)) (either k lt);
}

-- one cell took the step, and it changes no other
pub all_by_one : (step : Step) (first k : ℕ) (old new : List CellData) → ActsAt step first old new k → ((j : ℕ) → (j ≡ k → ⊥) → act step (first + j) (cell_in old j) ≡ cell_in old j) → AllAct step first old new
all_by_one step first k old new at fixed = record {
  count = at.count;
  each = λ j lt. ⊎_elim (λ e. subst (λ (n : ℕ). cell_in new n ≡ act step (first + n) (cell_in old n)) (sym e) at.here) (λ other. at.others j other ∙ sym (fixed j other)) (cases_eq j k);
}

pub none_need : (step : Step) (first : ℕ) (ds : List CellData) → ((k : ℕ) → k < length ds → act step (first + k) (cell_in ds k) ≡ cell_in ds k) → AllAct step first ds ds
none_need step first ds fixed = record { count = refl; each = λ k lt. sym (fixed k lt) }

-- a flush and a fence change nothing the second time
no_more : (c : Cell) → flushed (flushed c) ≡ flushed c
no_more c = λ i. record { before = append_none (c.before ++ c.marked) i; marked = []; last = c.last }
  where
    append_none : (xs : List ℕ) → xs ++ [] ≡ xs
    append_none [] = refl
    append_none (x ∷ xs) = ap (λ (l : List ℕ). x ∷ l) (append_none xs)

pub flush_twice : (line w : ℕ) (c : Cell) → act (Flush line) w (act (Flush line) w c) ≡ act (Flush line) w c
flush_twice line w c = by_case (w / 8 == line)
  where
    by_case : (b : Bool) → (if b then flushed (if b then flushed c else c) else (if b then flushed c else c)) ≡ (if b then flushed c else c)
    by_case true = no_more c
    by_case false = refl

pub fence_twice : (from words w : ℕ) (c : Cell) → act (Fence from words) w (act (Fence from words) w c) ≡ act (Fence from words) w c
fence_twice from words w c = by_case (nat_le from w && nat_lt w (from + words))
  where
    by_case : (b : Bool) → (if b then fenced (if b then fenced c else c) else (if b then fenced c else c)) ≡ (if b then fenced c else c)
    by_case true = refl
    by_case false = refl

-- a fence changes no cell that has one value
pub fence_of_one : (from words w : ℕ) (c : Cell) → HasOne c → act (Fence from words) w c ≡ c
fence_of_one from words w c one = by_case (nat_le from w && nat_lt w (from + words))
  where
    by_case : (b : Bool) → (if b then fenced c else c) ≡ c
    by_case true = λ i. record { before = sym one.0 i; marked = c.marked; last = c.last }
    by_case false = refl

-- after a flush such a cell has one value still
pub flush_of_one : (line w : ℕ) (c : Cell) → HasOne c → HasOne (act (Flush line) w c)
flush_of_one line w c one = by_case (w / 8 == line)
  where
    by_case : (b : Bool) → HasOne (if b then flushed c else c)
    by_case true = (ap (λ (l : List ℕ). l ++ c.marked) one.0 ∙ one.1, refl)
    by_case false = one

pub open_after_flush : (line first : ℕ) (old new : List CellData) (places : List ℕ) → AllAct (Flush line) first old new → AreOpen old places → AreOpen new places
open_after_flush line first old new places all are = record {
  within = λ k has. let lt = are.within k has in let count = all.count in omega arith;
  others = λ k lt. let count = all.count in let was : k < length old = omega arith in
      ⊎_elim (λ one. inl (subst HasOne (sym (all.each k was)) (flush_of_one line (first + k) (cell_in old k) one))) (λ has. inr has) (are.others k was);
}

pub open_after_store : (step : Step) (first k : ℕ) (old new : List CellData) (places : List ℕ) → ActsAt step first old new k → AreOpen old places → HasValue places k → AreOpen new places
open_after_store step first k old new places at are has_k = record {
  within = λ j has. let lt = are.within j has in let count = at.count in omega arith;
  others = λ j lt. let count = at.count in ⊎_elim (λ e. inr (subst (λ (n : ℕ). HasValue places n) (sym e) has_k))
      (λ other. ⊎_elim (λ one. inl (subst HasOne (sym (at.others j other)) one)) (λ has. inr has) (are.others j (omega arith))) (cases_eq j k);
}

pub alone : (k j : ℕ) → HasValue (k ∷ []) j → j ≡ k
alone k j (inl e) = e
alone k j (inr none) = absurd none

-- one more of the places
pub one_more_place : (places : List ℕ) (i j : ℕ) → i < length places → HasValue (take (i + 1) places) j → HasValue (take i places) j ⊎ (j ≡ get_or places i 0)
one_more_place places i j lt has = ⊎_elim (λ l. inl l) (λ r. inr (alone (get_or places i 0) j r))
    (has_split (take i places) (get_or places i 0 ∷ []) j (subst (λ (l : List ℕ). HasValue l j) (take_more places i 0 lt) has))

pub place_has : (places : List ℕ) (i : ℕ) → i < length places → HasValue places (get_or places i 0)
place_has [] i lt = absurd (omega arith)
place_has (x ∷ xs) zero lt = inl refl
place_has (x ∷ xs) (suc i) lt = inr (place_has xs i (omega arith))

pub all_places : (places : List ℕ) (j : ℕ) → HasValue places j → HasValue (take (length places) places) j
all_places places j has = subst (λ (l : List ℕ). HasValue l j) (sym (take_all (length places) places (omega arith))) has

pub has_left : (xs : List ℕ) (k j : ℕ) → HasValue xs j → HasValue (xs ++ k ∷ []) j
has_left [] k j has = absurd has
has_left (x ∷ xs) k j (inl e) = inl e
has_left (x ∷ xs) k j (inr has) = inr (has_left xs k j has)

pub pushed_open : (ds : List CellData) (places : List ℕ) (k : ℕ) → k < length ds → AreOpen ds places → AreOpen ds (places ++ k ∷ [])
pushed_open ds places k lt are = record {
  within = λ j has. ⊎_elim (λ l. are.within j l) (λ r. let e = alone k j r in omega arith) (has_split places (k ∷ []) j has);
  others = λ j within. ⊎_elim (λ one. inl one) (λ has. inr (has_left places k j has)) (are.others j within);
}
