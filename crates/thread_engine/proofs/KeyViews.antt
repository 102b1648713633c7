-- A key in its owner's view, and in the state of the group.
use Rattle.std.proofs.Common.{◌≡◌, ℕ, Bool, cond, List, Option, None, refl, sym, ◌∙◌, ap, subst}
use Rattle.std.proofs.lemmas.Bool.{eq-eqb}
use mathlib.Core.Option.{some}
use lib.ListN.{get_elem?}
use Rattle.fs_model.specs.declared.model.Request.{Request}
use Rattle.fs_model.specs.declared.model.Reply.{Reply}
use Rattle.pm_region.specs.Cell.{Cell}
use Rattle.log_entry.specs.declared.entry.Body.{Body}
use Rattle.log_entry.specs.declared.entry.Body.TheVariants as bodies
use Rattle.group_laws.specs.Places.{owner}
use Rattle.group_laws.specs.State.{Group}
use Rattle.group_laws.specs.Steps.{left_by}
use Rattle.group_laws.specs.MemberViews.{View, view_of}
use Rattle.group_board.specs.Views.{left_in}
use Rattle.licence.specs.Licence.{Licensed}
use Rattle.engine_laws.specs.WorkerMoves.{Placed}
use Rattle.engine_laws.specs.KeyLaw.{KeyView, KeyIs, key_view, key_in}
use Rattle.atomic_board.specs.declared.seat_data.Origin.{Origin}
use Rattle.atomic_board.specs.declared.token.SeatToken.{SeatToken}
use Rattle.atomic_board.specs.Deeds.{place_of}
use Rattle.atomic_board.specs.ShownState.{TableState, ShowsLawful, state_shown, views_of}
use Rattle.atomic_board.specs.MemberSeats.{view_at}
use Rattle.atomic_board.specs.Tokens.{Ended}

by_left : (w : Group) (m : ℕ) (body : Body) → left_by w m body ≡ left_in (w.blocks m) body
by_left w m (bodies.Pointer q) = refl
by_left w m (bodies.Embedded v) = refl
by_left w m bodies.Tombstone = refl

-- an own key, as the member has it
pub own_view : (w : Group) (m k : ℕ) → owner w.place k ≡ m → key_view (view_of w m) k ≡ key_in w k
own_view w m k own i = record {
  cell = ap (λ b. cond b (w.cell k) None) (eq-eqb (owner w.place k) m own) i;
  pending = ap (λ b. cond b (w.pending k) None) (eq-eqb (owner w.place k) m own) i;
  left = λ body. (sym (by_left w m body) ∙ ap (λ h. left_by w h body) (sym own)) i;
}

-- the same of a state that a table shows
pub shown_view : (b : Origin) (s : TableState) (x : ShowsLawful b s) (m k : ℕ) → owner (place_of b) k ≡ m → key_view (views_of b s.views m) k ≡ key_in (state_shown b s x) k
shown_view b s x m k own i = record {
  cell = (views_of b s.views (sym own i)).cell k;
  pending = (views_of b s.views (sym own i)).pending k;
  left = λ body. (sym (by_left (state_shown b s x) m body) ∙ ap (λ h. left_by (state_shown b s x) h body) (sym own)) i;
}

module _ (b : Origin) (ts : List SeatToken) (ws : List ℕ) (E : Ended b ts ws) (m : ℕ) (t : SeatToken) (at : get_elem? ts m ≡ some t) where
  pub closed_key : (start : Option (List ℕ)) (k : ℕ) (place : Option Placed) (stopped : Bool) (xs : List (Request × Reply)) → owner (place_of b) k ≡ m
      → KeyIs start (key_view (view_at t.own) k) place stopped xs → KeyIs start (key_in (state_shown b E.table E.shows) k) place stopped xs
  closed_key start k place stopped xs own S = subst (λ (v : KeyView). KeyIs start v place stopped xs) (ap (λ (v : View). key_view v k) (sym (E.views m t at)) ∙ shown_view b E.table E.shows m k own) S

  pub closed_licence : (cells : ℕ → Cell) → Licensed (place_of b) m (view_at t.own) cells → Licensed (place_of b) m (view_of (state_shown b E.table E.shows) m) cells
  closed_licence cells L image may =
      let is = subst (λ (v : View). Licensed (place_of b) m v cells) (sym (E.views m t at)) L image may in
      record { well = is.well; has = is.has; only = is.only; whole = is.whole; blocks = is.blocks }
