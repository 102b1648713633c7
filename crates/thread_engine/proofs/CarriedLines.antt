-- The requests of a core's own keys after a move of it.
use Rattle.std.proofs.Common.{◌≡◌, ◌≢◌, ℕ, ◌==◌, List, ◌++◌, map, None, refl, sym, ◌∙◌, ap, subst, arith, append_assoc}
use Rattle.std.proofs.lemmas.Bool.{eq-eqb}
use Rattle.std.proofs.lemmas.List.Elements.{filter-append}
use Rattle.fs_model.specs.declared.model.Request.{Request}
use Rattle.fs_model.specs.Cells.{key_of}
use Rattle.fs_model.specs.Changes.{requests_of}
use Rattle.chunk_map.specs.declared.layouts.Geometry.{Geometry}
use Rattle.chunk_map.specs.Layouts.{owner}
use Rattle.store_image.specs.Facts.{In}
use Rattle.store_image.proofs.Clients.{in_front, in_back}
use Rattle.group_laws.proofs.Clients.{in_map}
use Rattle.engine_laws.specs.WorkerMoves.{Fixed, asked, fixed_of, requests_for}
use Rattle.engine_laws.specs.Engine.{Engine, line}
use Rattle.engine_laws.proofs.Clients.{IsUp, up, up_tail, up_apart, all_in, in_all, filter_in, one_key, OwnLines, OwnMoves}

module _ (l : Geometry) (e f : Engine) (c : ℕ) (accepted : List (ℕ × Request)) (fixed : List Fixed) (O : OwnLines l c e) (M : OwnMoves l e f c accepted fixed) (mine : (y : Fixed) → In y fixed → owner l (key_of y.request) ≡ c) where
  -- what has no answer before the move
  abbrev before : ℕ → List (ℕ × Request)
  before k = line e k ++ requests_for k (e.backlog c)

  -- after it
  abbrev after : ℕ → List (ℕ × Request)
  after k = line f k ++ requests_for k (f.backlog c)

  pub carried : (k : ℕ) → owner l k ≡ c → before k ≡ map asked (fixed_of k fixed) ++ after k
  carried k own =
      ap (λ xs. line e k ++ xs) (ap (requests_for k) M.backlog ∙ filter-append (λ (x : ℕ × Request). key_of x.1 == k) accepted (f.backlog c))
      ∙ sym (append_assoc (line e k) (requests_for k accepted) (requests_for k (f.backlog c)))
      ∙ ap (λ xs. xs ++ requests_for k (f.backlog c)) (M.order k own)
      ∙ append_assoc (map asked (fixed_of k fixed)) (line f k) (requests_for k (f.backlog c))

  was : (k : ℕ) → owner l k ≡ c → (x : ℕ × Request) → In x (after k) → In x (before k)
  was k own x i = subst (λ (xs : List (ℕ × Request)). In x xs) (sym (carried k own)) (in_back x (map asked (fixed_of k fixed)) (after k) i)

  given : (k : ℕ) → owner l k ≡ c → (x : ℕ × Request) → In x (before k) → In x (requests_of k e.given)
  given k own x i = let s = O.split k own in subst (λ (xs : List (ℕ × Request)). In x xs) (sym s.1) (in_back x s.0 (before k) i)

  fixed_at : (k : ℕ) (y : Fixed) → In y fixed → key_of y.request ≡ k → In (asked y) (map asked (fixed_of k fixed))
  fixed_at k y j key = in_map asked y (fixed_of k fixed) (filter_in (λ (z : Fixed). key_of z.request == k) fixed y j (eq-eqb (key_of y.request) k key))

  -- what was fixed has other numbers than what is left
  apart : (k : ℕ) → owner l k ≡ c → (x : ℕ × Request) → In x (after k) → (y : Fixed) → In y fixed → y.number ≢ x.0
  apart k own x i y j same =
      let h : ℕ = key_of y.request in
      let there = given h (mine y j) (asked y) (subst (λ (xs : List (ℕ × Request)). In (asked y) xs) (sym (carried h (mine y j))) (in_front (asked y) (map asked (fixed_of h fixed)) (after h) (fixed_at h y j refl))) in
      let key = one_key h k e.given (asked y) x there (given k own x (was k own x i)) same in
      let s = O.split k own in
      let rising = up_tail s.0 (map asked (fixed_of k fixed) ++ after k) (subst IsUp (s.1 ∙ ap (λ xs. s.0 ++ xs) (carried k own)) (up k 0 e.given)) in
      let less = up_apart (map asked (fixed_of k fixed)) (after k) (asked y) x rising (fixed_at k y j key) i in
      absurd (omega (arith, less, same))

  pub lines_on : OwnLines l c f
  lines_on = record {
    split = λ k own. (let s = O.split k own in (
      s.0 ++ map asked (fixed_of k fixed),
      ap (requests_of k) M.given ∙ s.1 ∙ ap (λ xs. s.0 ++ xs) (carried k own) ∙ sym (append_assoc s.0 (map asked (fixed_of k fixed)) (after k)),
    ));
    waiting = λ k own. in_all (λ (x : ℕ × Request). f.answer x.0 ≡ None) (after k) (λ x i. M.old x.0 (λ y j. apart k own x i y j) ∙ all_in (λ (x : ℕ × Request). e.answer x.0 ≡ None) (before k) x (O.waiting k own) (was k own x i));
  }
