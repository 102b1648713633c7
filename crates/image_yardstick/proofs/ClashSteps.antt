-- Looking for a clash, entry by entry.
use Rattle.std.proofs.Common.{◌≡◌, ℕ, ◌+◌, ◌<◌, List, length, take, drop, get_or, sym, ◌∙◌, ap, false}
use Rattle.std.proofs.lemmas.List.{drop_more, take_more}
use Rattle.std.proofs.lemmas.Bool.{cond-false}
use Rattle.std.specs.List.{list_any}
use Rattle.store_image.specs.declared.types.PlacedEntry.{PlacedEntry}
use Rattle.store_image.specs.Soundness.{contradicts, clash_after}

-- no entry up to place i contradicts one before it, nor does the next
pub clash_step : (es : List PlacedEntry) (i : ℕ) (x : PlacedEntry) → i < length es → list_any (contradicts (get_or es i x)) (take i es) ≡ false → clash_after (take i es) (drop i es) ≡ clash_after (take (i + 1) es) (drop (i + 1) es)
clash_step es i x within none =
    ap (clash_after (take i es)) (drop_more es i x within) ∙ cond-false _ _ _ none ∙ ap (λ before. clash_after before (drop (i + 1) es)) (sym (take_more es i x within))
