-- What a member's view has of an own key, and that the steps of one core leave every other core's view.
use Rattle.std.proofs.Common.{◌≡◌, ◌≢◌, ◌⊎◌, inl, inr, ℕ, ◌+◌, ◌*◌, cond, List, map, None, refl, sym, ap, ◌∙◌}
use Rattle.std.proofs.lemmas.Bool.{cases_eq, eq-eqb}
use Rattle.std.proofs.lemmas.Nat.{div-add-mod'}
use Rattle.log_entry.specs.declared.entry.Body.{Body}
use Rattle.log_entry.specs.declared.entry.Body.TheVariants.{Pointer, Embedded, Tombstone}
use Rattle.chunk_map.specs.declared.layouts.Geometry.{Geometry}
use Rattle.group_laws.specs.Places.{owner}
use Rattle.group_laws.specs.State.{Group}
use Rattle.group_laws.specs.Steps.{left_by}
use Rattle.group_laws.specs.MemberViews.{view_of, of_own}
use Rattle.group_laws.specs.Runs.{Kind, Runs}
use Rattle.group_laws.proofs.Clients.{run_frame}
use Rattle.group_board.specs.Views.{left_in}
use Rattle.engine_laws.specs.Parts.{group_of, member_of}

left_is : (w : Group) (m : ℕ) (b : Body) → left_in (w.blocks m) b ≡ left_by w m b
left_is w m (Pointer p) = refl
left_is w m (Embedded v) = refl
left_is w m Tombstone = refl

-- a key of member m
module _ (w : Group) (m k : ℕ) (own : owner w.place k ≡ m) where
  in_view : {X : Type 0} (x d : X) → of_own w.place m k x d ≡ x
  in_view x d = ap (λ b. cond b x d) (eq-eqb (owner w.place k) m own)

  pub cell_in : (view_of w m).cell k ≡ w.cell k
  cell_in = in_view (w.cell k) None

  pub last_in : (view_of w m).last k ≡ w.last k
  last_in = in_view (w.last k) 0

  pub pending_in : (view_of w m).pending k ≡ w.pending k
  pending_in = in_view (w.pending k) None

  pub left_from : (b : Body) → left_in (view_of w m).blocks b ≡ left_by w (owner w.place k) b
  left_from b = left_is w m b ∙ ap (λ n. left_by w n b) (sym own)

-- two cores of one group are two members
pub apart : (l : Geometry) (c d : ℕ) → d ≢ c → group_of l d ≡ group_of l c → member_of l d ≢ member_of l c
apart l c d ne q r = let a = div-add-mod' d l.group in let b = div-add-mod' c l.group in ne (sym a ∙ (λ t. q t * l.group + r t) ∙ b)

-- Core c's steps in its group, where the other groups stay.
module _ (l : Geometry) (c : ℕ) (w u : ℕ → Group) (steps : List Kind) (others : (g : ℕ) → g ≢ group_of l c → u g ≡ w g)
    (runs : Runs (w (group_of l c)) (map (λ x. (member_of l c, x)) steps) (u (group_of l c))) where
  pub other_view : (d : ℕ) → d ≢ c → view_of (u (group_of l d)) (member_of l d) ≡ view_of (w (group_of l d)) (member_of l d)
  other_view d ne = by (cases_eq (group_of l d) (group_of l c)) where
    by : (group_of l d ≡ group_of l c) ⊎ (group_of l d ≢ group_of l c) → view_of (u (group_of l d)) (member_of l d) ≡ view_of (w (group_of l d)) (member_of l d)
    by (inl same) =
        ap (λ (g : ℕ). view_of (u g) (member_of l d)) same
        ∙ run_frame (w (group_of l c)) (member_of l c) steps (u (group_of l c)) (member_of l d) (apart l c d ne same) runs
        ∙ sym (ap (λ (g : ℕ). view_of (w g) (member_of l d)) same)
    by (inr other) = ap (λ (g : Group). view_of g (member_of l d)) (others (group_of l d) other)
