-- What leaves a crash no value more.
use Rattle.std.proofs.Common.{◌≡◌, ◌⊎◌, inl, inr, ⊎_elim, ℕ, ◌+◌, ◌/◌, ◌≤◌, ◌<◌, ◌==◌, ◌&&◌, nat_le, nat_lt, if◌then◌else◌, List, [], ◌∷◌, ◌++◌, refl, sym, ◌∙◌, subst, arith, append_assoc}
use Rattle.std.proofs.lemmas.Bool.{cases_lt, cond_both, cond-true, cond-false}
use Rattle.std.proofs.lemmas.Bool.Decides.{nat_tests}
use Rattle.pm_region.specs.Cell.{Cell, certain, stored, flushed, fenced, MayBe, HasValue, values, flush_line, fence_range}
use Rattle.pm_region.proofs.Cells.{may_be_last}
use Rattle.pm_region.specs.Words.{Kept, KeepsOutside, Narrows, Surely, MayLeaveIn}

pub has_right : (xs ys : List ℕ) (v : ℕ) → HasValue ys v → HasValue (xs ++ ys) v
has_right [] ys v has = has
has_right (x ∷ xs) ys v has = inr (has_right xs ys v has)

pub has_split : (xs ys : List ℕ) (v : ℕ) → HasValue (xs ++ ys) v → HasValue xs v ⊎ HasValue ys v
has_split [] ys v has = inr has
has_split (x ∷ xs) ys v has = ⊎_elim (λ e. inl (inl e)) (λ rest. ⊎_elim (λ a. inl (inr a)) (λ b. inr b) (has_split xs ys v rest)) has

pub stored_may : (c : Cell) (v x : ℕ) → MayBe (stored c v) x → MayBe c x ⊎ (x ≡ v)
stored_may c v x may =
    let e = append_assoc c.before (c.marked ++ c.last ∷ []) (v ∷ []) in
    let at : HasValue (values c ++ v ∷ []) x = subst (λ (l : List ℕ). HasValue l x) (sym e) may in
    ⊎_elim (λ a. inl a) (λ b. ⊎_elim (λ is. inr is) (λ none. absurd none) b) (has_split (values c) (v ∷ []) x at)

flushed_narrows : (c : Cell) → Narrows c (flushed c)
flushed_narrows c v may = subst (λ (l : List ℕ). HasValue l v) (append_assoc c.before c.marked (c.last ∷ [])) may

fenced_narrows : (c : Cell) → Narrows c (fenced c)
fenced_narrows c v may = has_right c.before (c.marked ++ c.last ∷ []) v may

pub flush_narrows : (line w : ℕ) (c : Cell) → Narrows c (flush_line line w c)
flush_narrows line w c = cond_both (w / 8 == line) (flushed c) c (λ d. Narrows c d) (λ yes. flushed_narrows c) (λ no v may. may)

pub fence_narrows : (first words w : ℕ) (c : Cell) → Narrows c (fence_range first words w c)
fence_narrows first words w c = cond_both (nat_le first w && nat_lt w (first + words)) (fenced c) c (λ d. Narrows c d) (λ yes. fenced_narrows c) (λ no v may. may)

pub kept_narrows : (a b : Cell) → Kept a b → Narrows a b
kept_narrows a b kept = ⊎_elim (λ same v may. subst (λ c. MayBe c v) same may) (λ after v may. fenced_narrows a v (subst (λ c. MayBe c v) after may)) kept

pub surely_narrows : (a b : Cell) (v : ℕ) → Surely a v → Narrows a b → Surely b v
surely_narrows a b v sure narrows x may = sure x (narrows x may)

pub surely_kept : (a b : Cell) (v : ℕ) → Surely a v → Kept a b → Surely b v
surely_kept a b v sure kept = surely_narrows a b v sure (kept_narrows a b kept)

pub surely_certain : (c : Cell) (v : ℕ) → c ≡ certain v → Surely c v
surely_certain c v is x may = let at : MayBe (certain v) x = subst (λ d. MayBe d x) is may in ⊎_elim (λ e. e) (λ none. absurd none) at

pub surely_last : (c : Cell) (v : ℕ) → Surely c v → c.last ≡ v
surely_last c v sure = sure c.last (may_be_last c c.last refl)

-- sure of a value is sure of the last one
pub surely_own : (c : Cell) (v : ℕ) → Surely c v → Surely c c.last
surely_own c v sure x may = sure x may ∙ sym (surely_last c v sure)

-- the image, with other words in a range
pub patch : ℕ → ℕ → (ℕ → ℕ) → (ℕ → ℕ) → ℕ → ℕ
patch from end old image w = if nat_le from w && nat_lt w end then old w else image w

pub patch_in : (from end : ℕ) (old image : ℕ → ℕ) (w : ℕ) → from ≤ w → w < end → patch from end old image w ≡ old w
unfolding patch
patch_in from end old image w low high = cond-true (nat_le from w && nat_lt w end) (old w) (image w) (grind (arith, nat_tests))

pub patch_out : (from end : ℕ) (old image : ℕ → ℕ) (w : ℕ) → (w < from) ⊎ (end ≤ w) → patch from end old image w ≡ image w
unfolding patch
patch_out from end old image w out = cond-false (nat_le from w && nat_lt w end) (old w) (image w) (⊎_elim (λ lt. grind (arith, nat_tests)) (λ ge. grind (arith, nat_tests)) out)

-- an image of cells that were kept outside a range was an image before, but for that range
pub was_image : (old new : ℕ → Cell) (from end lo hi : ℕ) (image : ℕ → ℕ) → KeepsOutside old from end new → MayLeaveIn new lo hi image
    → MayLeaveIn old lo hi (patch from end (λ w. (old w).last) image)
was_image old new from end lo hi image kept may w low high =
    ⊎_elim (λ lt. outside (inl lt)) (λ ge. ⊎_elim (λ lt. inside ge lt) (λ out. outside (inr out)) (cases_lt w end)) (cases_lt w from)
  where
    outside : (w < from) ⊎ (end ≤ w) → MayBe (old w) (patch from end (λ w. (old w).last) image w)
    outside out = subst (λ v. MayBe (old w) v) (sym (patch_out from end (λ w. (old w).last) image w out)) (kept_narrows (old w) (new w) (kept w out) (image w) (may w low high))

    inside : from ≤ w → w < end → MayBe (old w) (patch from end (λ w. (old w).last) image w)
    inside ge lt = may_be_last (old w) (patch from end (λ w. (old w).last) image w) (patch_in from end (λ w. (old w).last) image w ge lt)
