use Rattle.std.proofs.Common.{rules, ℕ, ◌<◌, ◌∷◌, [], List, inl, inr, ⊎_elim, get_or, length, subst, sym, ap, ◌∙◌, arith}
use Rattle.pm_region.specs.Cell.{HasValue}
use Rattle.region_memory.specs.CellLists.{HasOne, cell_in}
use Rattle.region_memory.specs.Image.{cell_of_data}
use Rattle.pm_region.proofs.Clients.{has_end, has_split}
use Rattle.region_memory.proofs.Stepping.{cell_there, place_has, one_more_place, has_left, alone}
use Rattle.region_memory.proofs.word_cells.still_open.Goals as goal
use Rattle.region_memory.proofs.word_cells.still_open.Goals.{then-not-has_one+in_ok-push, else-not-has_one}

pub bounds-cells-k : goal.bounds-cells-k
bounds-cells-k c = c.requires.within _ (place_has c.args.open_places.now c.loop-k.k-index c.loop-k-test.true)

pub offset_bounds-cells-k : goal.offset_bounds-cells-k
offset_bounds-cells-k c = let lt = c.requires.within _ (place_has c.args.open_places.now c.loop-k.k-index c.loop-k-test.true) in search (rules, lt)

pub loop-k-preserved : goal.loop-k-preserved
loop-k-preserved c =
    let places = c.args.open_places.now in
    let i = c.loop-k.k-index in
    let k = get_or places i 0 in
    let lt = c.requires.within k (place_has places i c.loop-k-test.true) in
    let was = c.loop-k.invariant in
    let it = cell_there c.args.cells.now k c.index-cells-k.result lt ∙ ap cell_of_data (sym c.index-cells-k.is) in
    elim c.if-not-has_one.branch [
      | then-not-has_one+in_ok-push w ↦
          let items = ap (λ v. v.items) w.still-is ∙ w.in_ok-push.ensures.items in
          record {
            within = λ j has. ⊎_elim (λ l. was.within j l) (λ r. subst (λ (n : ℕ). n < length c.args.cells.now) (sym (alone k j r)) lt)
                (has_split c.loop-k.still.items (k ∷ []) j (subst (λ (l : List ℕ). HasValue l j) items has));
            seen = λ j has. ⊎_elim
                (λ before. ⊎_elim (λ one. inl one) (λ kept. inr (subst (λ (l : List ℕ). HasValue l j) (sym items) (has_left c.loop-k.still.items k j kept))) (was.seen j before))
                (λ e. inr (subst (λ (n : ℕ). HasValue c.if-not-has_one.still.items n) (sym e) (subst (λ (l : List ℕ). HasValue l k) (sym items) (has_end c.loop-k.still.items k))))
                (one_more_place places i j c.loop-k-test.true has);
          }
      | else-not-has_one w ↦
          let items = ap (λ v. v.items) w.still-is in
          record {
            within = λ j has. was.within j (subst (λ (l : List ℕ). HasValue l j) items has);
            seen = λ j has. ⊎_elim
                (λ before. ⊎_elim (λ one. inl one) (λ kept. inr (subst (λ (l : List ℕ). HasValue l j) (sym items) kept)) (was.seen j before))
                (λ e. inl (subst (λ (n : ℕ). HasOne (cell_in c.args.cells.now n)) (sym e) (subst HasOne (sym it) (c.has_one.ensures.yes (let t = w.if-not-has_one.false in grind (arith, t))))))
                (one_more_place places i j c.loop-k-test.true has);
          }
    ]
