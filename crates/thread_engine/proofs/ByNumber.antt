-- The requests of a core by key, and its answers by number.
use Rattle.std.proofs.Common.{◌≡◌, inl, inr, ℕ, zero, suc, ◌+◌, ◌<◌, ◌==◌, Bool, true, false, cond, List, [], ◌∷◌, ◌++◌, map, filter, Option, Some, None, refl, sym, ◌∙◌, ap, subst, arith}
use Rattle.std.specs.List.{AllByRecursion, enumerate_from, find, slice_get}
use Rattle.std.proofs.lemmas.Bool.{eqb-true, eq-eqb}
use Rattle.fs_model.specs.declared.model.Request.{Request}
use Rattle.fs_model.specs.Cells.{key_of}
use Rattle.fs_model.specs.Changes.{requests_of}
use Rattle.chunk_map.specs.declared.layouts.Geometry.{Geometry}
use Rattle.chunk_map.specs.Layouts.{owner}
use Rattle.store_image.specs.Facts.{In}
use Rattle.store_image.proofs.Clients.{in_front, in_back}
use Rattle.group_laws.proofs.Clients.{in_map}
use Rattle.engine_laws.specs.WorkerMoves.{Fixed, asked, replied, requests_for}
use Rattle.engine_laws.specs.Keys.{Served, pairs}
use Rattle.engine_laws.proofs.Clients.{IsUp, all_in}
use Rattle.thread_engine.specs.CoreRuns.{requests_to}
use Rattle.thread_engine.proofs.Doubts.{clash, neq}

-- a filter within another one
filter_within : {X : Type 0} (p q : X → Bool) → ((x : X) → p x ≡ true → q x ≡ true) → (xs : List X) → filter p (filter q xs) ≡ filter p xs
filter_within p q h [] = refl
filter_within p q h (y ∷ ys) = by (q y) refl (p y) refl (filter_within p q h ys) where
  by : (b : Bool) → q y ≡ b → (a : Bool) → p y ≡ a → filter p (filter q ys) ≡ filter p ys → filter p (cond (q y) (y ∷ filter q ys) (filter q ys)) ≡ cond (p y) (y ∷ filter p ys) (filter p ys)
  by true e a f again = ap (λ b. filter p (cond b (y ∷ filter q ys) (filter q ys))) e ∙ ap (λ l. cond (p y) (y ∷ l) l) again
  by false e true f again = absurd (clash (q y) (h y f) e)
  by false e false f again = ap (λ b. filter p (cond b (y ∷ filter q ys) (filter q ys))) e ∙ again ∙ sym (ap (λ a. cond a (y ∷ filter p ys) (filter p ys)) f)

-- of an own key they are all requests of the key
pub requests_are : (l : Geometry) (c k : ℕ) (trace : List Request) → owner l k ≡ c → requests_for k (requests_to l c trace) ≡ requests_of k trace
requests_are l c k trace own = filter_within (λ (x : ℕ × Request). key_of x.1 == k) (λ (x : ℕ × Request). owner l (key_of x.1) == c)
    (λ x e. eq-eqb (owner l (key_of x.1)) c (ap (owner l) (eqb-true (key_of x.1) k e) ∙ own)) (enumerate_from 0 trace)

-- the answer with this number
abbrev pub with_number : ℕ → List Fixed → Option Fixed
with_number n fs = find (λ y. y.number == n) fs

pub found_there : (fs : List Fixed) (rest : List (ℕ × Request)) → IsUp (map asked fs ++ rest) → (y : Fixed) → In y fs → with_number y.number fs ≡ Some y
found_there [] rest U y i = absurd i
found_there (z ∷ zs) rest U y (inl e) =
    ap (λ b. cond b (Some z) (with_number y.number zs)) (eq-eqb z.number y.number (ap (λ (f : Fixed). f.number) (sym e))) ∙ ap Some (sym e)
found_there (z ∷ zs) rest U y (inr i) =
    let less : z.number < y.number = all_in (λ (w : ℕ × Request). z.number < w.0) (map asked zs ++ rest) (asked y) U.0 (in_front (asked y) (map asked zs) rest (in_map asked y zs i)) in
    ap (λ b. cond b (Some z) (with_number y.number zs)) (neq z.number y.number (λ same. omega (arith, same, less))) ∙ found_there zs rest U.1 y i

pub found_nowhere : (fs : List Fixed) (rest : List (ℕ × Request)) → IsUp (map asked fs ++ rest) → (x : ℕ × Request) → In x rest → with_number x.0 fs ≡ None
found_nowhere [] rest U x i = refl
found_nowhere (z ∷ zs) rest U x i =
    let less : z.number < x.0 = all_in (λ (w : ℕ × Request). z.number < w.0) (map asked zs ++ rest) x U.0 (in_back x (map asked zs) rest i) in
    ap (λ b. cond b (Some z) (with_number x.0 zs)) (neq z.number x.0 (λ same. omega (arith, same, less))) ∙ found_nowhere zs rest U.1 x i

-- what is found is there
pub found_in : (n : ℕ) (fs : List Fixed) (y : Fixed) → with_number n fs ≡ Some y → In y fs × (y.number ≡ n)
found_in n [] y e = absurd (cc e)
found_in n (z ∷ zs) y e = by (z.number == n) refl e (found_in n zs y) where
  by : (b : Bool) → (z.number == n) ≡ b → cond b (Some z) (with_number n zs) ≡ Some y → (with_number n zs ≡ Some y → In y zs × (y.number ≡ n)) → In y (z ∷ zs) × (y.number ≡ n)
  by true t q again = (let same : z ≡ y = cc q in (inl (sym same), ap (λ (f : Fixed). f.number) (sym same) ∙ eqb-true z.number n t))
  by false t q again = (let r = again q in (inr r.0, r.1))

-- answered requests, with the stamp of the end
abbrev pub served_at : ℕ → Fixed → Served
served_at t y = record { number = y.number; request = y.request; answer = record { reply = y.reply; stamp = t } }

pub served_asked : (t : ℕ) (fs : List Fixed) → map (λ (x : Served). (x.number, x.request)) (map (served_at t) fs) ≡ map asked fs
served_asked t [] = refl
served_asked t (y ∷ ys) = ap (λ l. asked y ∷ l) (served_asked t ys)

pub served_pairs : (t : ℕ) (fs : List Fixed) → pairs (map (served_at t) fs) ≡ map replied fs
served_pairs t [] = refl
served_pairs t (y ∷ ys) = ap (λ l. replied y ∷ l) (served_pairs t ys)

pub served_all : (t : ℕ) (P : Served → Type 0) (fs : List Fixed) → ((y : Fixed) → In y fs → P (served_at t y)) → AllByRecursion P (map (served_at t) fs)
served_all t P [] h = tt
served_all t P (y ∷ ys) h = (h y (inl refl), served_all t P ys (λ z i. h z (inr i)))

-- a request with its number
pub in_enumerated : (n : ℕ) (xs : List Request) (i : ℕ) (q : Request) → slice_get xs i ≡ Some q → In (n + i, q) (enumerate_from n xs)
in_enumerated n [] i q e = absurd (cc e)
in_enumerated n (x ∷ xs) zero q e = (let same : x ≡ q = cc e in let z : n ≡ n + 0 = omega arith in inl (λ t. (sym z t, sym same t)))
in_enumerated n (x ∷ xs) (suc i) q e = (let shift : n + 1 + i ≡ n + suc i = omega arith in inr (subst (λ (m : ℕ). In (m, q) (enumerate_from (n + 1) xs)) shift (in_enumerated (n + 1) xs i q e)))
