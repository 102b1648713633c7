-- Lists from whose fronts jobs are made, and lists that jobs fill.
use Rattle.std.proofs.Common.{◌≡◌, ◌+◌, ◌<◌, List, [], ◌∷◌, ◌++◌, map, length, length-append, Some, sym, ◌∙◌, ap, append_assoc, arith}
use Rattle.std.specs.List.{slice_get}
use Rattle.std.proofs.lemmas.List.{map-append}
use Rattle.thread_engine.proofs.Places.{get_behind, map_long}

-- one item more is taken
pub more_taken : {J X : Type 0} (f : J → X) (all : List X) (js : List J) (j : J) (old new : List X) → all ≡ map f js ++ old → old ≡ f j ∷ new → all ≡ map f (js ++ j ∷ []) ++ new
more_taken f all js j old new split front =
    split ∙ ap (λ l. map f js ++ l) front ∙ sym (append_assoc (map f js) (f j ∷ []) new) ∙ ap (λ l. l ++ new) (sym (map-append f js (j ∷ [])))

pub more_made : {J X : Type 0} (f : J → X) (js : List J) (j : J) (ys : List X) → map f js ≡ ys → map f (js ++ j ∷ []) ≡ ys ++ f j ∷ []
more_made f js j ys e = map-append f js (j ∷ []) ∙ ap (λ l. l ++ f j ∷ []) e

-- one item more of two lists that agree
pub more_alike : {J T X : Type 0} (f : J → X) (h : T → X) (js : List J) (ts : List T) (j : J) (t : T) → map f js ≡ map h ts → f j ≡ h t → map f (js ++ j ∷ []) ≡ map h (ts ++ t ∷ [])
more_alike f h js ts j t e one = map-append f js (j ∷ []) ∙ (λ i. e i ++ one i ∷ []) ∙ sym (map-append h ts (t ∷ []))

pub more_filled : {J X : Type 0} (f : J → X) (js : List J) (j : J) (old new : List X) → old ≡ map f js → new ≡ old ++ f j ∷ [] → new ≡ map f (js ++ j ∷ [])
more_filled f js j old new e pushed = pushed ∙ ap (λ l. l ++ f j ∷ []) e ∙ sym (map-append f js (j ∷ []))

pub moved_on : {X : Type 0} (all done old new : List X) (x : X) → all ≡ done ++ old → old ≡ x ∷ new → all ≡ (done ++ x ∷ []) ++ new
moved_on all done old new x split front = split ∙ ap (λ l. done ++ l) front ∙ sym (append_assoc done (x ∷ []) new)

-- as many are left
pub less_left : {X Y : Type 0} (old new : List X) (x : X) (rest next : List Y) (y : Y) → length old ≡ length rest → old ≡ x ∷ new → rest ≡ y ∷ next → length new ≡ length next
less_left old new x rest next y e front step = (let a = ap length front in let b = ap length step in omega (arith, e, a, b))

-- where something is left in the one, the other isn't empty
pub none_left : {X Y : Type 0} (old : List X) (rest next : List Y) (y : Y) → length old ≡ length rest → rest ≡ y ∷ next → old ≡ [] → ⊥
none_left old rest next y e step none = (let a = ap length none in let b = ap length step in omega (arith, e, a, b))

-- the item at the place of the next job
pub next_item : {J T X : Type 0} (f : J → X) (h : T → X) (all done old new : List T) (js : List J) (t : T) → all ≡ done ++ old → old ≡ t ∷ new → map f js ≡ map h done → slice_get all (length js) ≡ Some t
next_item f h all done old new js t split front e =
    let same : length js ≡ length done + 0 = (let a = ap length e in let b = map_long f js in let c = map_long h done in omega (arith, a, b, c)) in
    ap (λ l. slice_get l (length js)) (split ∙ ap (λ l. done ++ l) front) ∙ ap (slice_get (done ++ t ∷ new)) same ∙ get_behind done (t ∷ new) 0

-- the place of the next job is below their number
pub below_all : {J X : Type 0} (f : J → X) (all yielded rest next : List X) (x : X) (js : List J) → all ≡ yielded ++ rest → rest ≡ x ∷ next → map f js ≡ yielded → length js < length all
below_all f all yielded rest next x js split step e = (let a = ap length split in let b = length-append yielded rest in let c = ap length step in let d = ap length e in let g = map_long f js in omega (arith, a, b, c, d, g))
