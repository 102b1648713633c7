-- The worker of core 5 at the board of the second of two groups, which is opened on all words of the region.
use Rattle.std.proofs.Common.{◌≡◌, ℕ, ◌/◌, ◌%◌, ◌<◌, List, refl, sym, ◌∙◌, ap, subst, arith}
use Rattle.std.specs.Prelude.{slice_index_or}
use Rattle.pm_region.specs.State.{State}
use Rattle.pm_region.specs.Words.{lasts}
use Rattle.chunk_map.specs.declared.layouts.Geometry.{Geometry}
use Rattle.chunk_map.specs.Layouts.{layout_of}
use Rattle.store_image.specs.Soundness.{IsSound}
use Rattle.store_image.proofs.Clients.{store_sound}
use Rattle.recover.specs.declared.types.CoreStart.{CoreStart}
use Rattle.recover.specs.declared.types.Recovered.{Recovered}
use Rattle.recover.specs.Regions.{IsCertain}
use Rattle.recover.specs.Recovering.{IsMade, IsFound, AllStand}
use Rattle.group_laws.specs.OpeningImages.{opened}
use Rattle.group_laws.specs.Places.{Place}
use Rattle.group_laws.specs.Regions.{place_at}
use Rattle.group_laws.specs.State.{Group}
use Rattle.group_laws.specs.MemberViews.{View, view_of}
use Rattle.group_board.specs.Seats.{SeatAt}
use Rattle.group_board.specs.Journals.{image_of, place_in}
use Rattle.core_worker.specs.declared.worker.Worker.{Worker}
use Rattle.core_worker.specs.Accepting.{HasTie, IsTied, StaysTied}
use Rattle.core_worker.specs.Order.{InOrder}
use Rattle.core_worker.specs.Supplies.{HasKeptRoom}
use Rattle.core_worker.specs.Ties.{Holds, Stands}
use Rattle.core_worker.specs.Openings.{IsNew, IsCertainAt, ByEachImage, opened_view}
use Rattle.core_worker.proofs.Clients.{starts_nothing}
use Rattle.engine_core.specs.Working.{IsMember}
use Rattle.engine_tests.specs.WorkerTrials.{IsSeated, IsAtBoard}
use Rattle.engine_tests.proofs.WorkerTrials.{seated}

-- what opening a board asks of the words that recovery found
module _ (image : ℕ → ℕ) (r : Recovered) (found : IsFound 135168 image r) (eight : r.layout.cores ≡ 8) (four : r.layout.group ≡ 4) (ws : List ℕ) (same : image_of ws ≡ image) where
  pub words_sound : IsSound 135168 (image_of ws)
  words_sound = subst (λ (j : ℕ → ℕ). IsSound 135168 j) (sym same) (store_sound 135168 image found.sound)

  pub words_layout : layout_of (image_of ws) ≡ r.layout
  words_layout = ap layout_of same ∙ sym found.is_of.layout_is

  pub words_group : (layout_of (image_of ws)).group ≡ 4
  words_group = ap (λ (l : Geometry). l.group) words_layout ∙ four

  pub second_group : 1 < (layout_of (image_of ws)).cores / (layout_of (image_of ws)).group
  second_group =
      let cores : (layout_of (image_of ws)).cores ≡ 8 = ap (λ (l : Geometry). l.cores) words_layout ∙ eight in
      let two : (layout_of (image_of ws)).cores / (layout_of (image_of ws)).group ≡ 2 = ap (λ (n : ℕ). n / (layout_of (image_of ws)).group) cores ∙ ap (λ (n : ℕ). 8 / n) words_group in
      omega (arith, two)

  pub opened_second : (g : Group) → g ≡ opened (place_in 1 ws) (image_of ws) → g ≡ opened (place_at r.layout 1) image
  opened_second g is = is ∙ ap (λ (j : ℕ → ℕ). opened (place_at (layout_of j) 1) j) same ∙ ap (λ (l : Geometry). opened (place_at l 1) image) (sym found.is_of.layout_is)

module _ (s : State) (r : Recovered) (d start : CoreStart) (w : Worker) (first : s.frame.first ≡ 0) (words : s.frame.words ≡ 16896) (certain : IsCertain s)
    (made : IsMade 135168 r) (found : IsFound 135168 (lasts s) r) (stand : AllStand s r) (eight : r.layout.cores ≡ 8) (four : r.layout.group ≡ 4) (is : start ≡ slice_index_or r.starts.items 5 d) (N : IsNew start r.layout w)
    (holds : ByEachImage start r.layout (λ p m image. Holds p m (opened_view p m image) w))
    (stands : ByEachImage start r.layout (λ p m image. (t : State) → IsCertainAt t p m image start → Stands t p m (opened_view p m image) w))
    (order : ByEachImage start r.layout (λ p m image. InOrder p m (opened_view p m image) w)) where
  abbrev l : Geometry
  l = r.layout

  -- the same where a group has n members
  abbrev IsFifth : ℕ → Type 0
  IsFifth n = IsSeated s (place_at l (5 / n)) (5 % n) (opened_view (place_at l (5 / n)) (5 % n) (lasts s)) w

  fifth : IsFifth 4
  fifth =
      let low : 5 < 8 = omega arith in
      subst IsFifth four (seated s r 5 d start w first words certain made found stand eight low is N refl holds stands order)

  pub at_board : HasKeptRoom w → (g : Group) → g ≡ opened (place_at l 1) (lasts s) → IsAtBoard s g w
  at_board rule g opens = subst (λ (x : Group). IsAtBoard s x w) (sym opens) (record { seated = fifth; rule = rule; starts = starts_nothing w N.leading })

-- so it may accept a request for one of its keys
tied_at : (s : State) (p : Place) (m : ℕ) (v : View) (w : Worker) → IsSeated s p m v w → (k : ℕ) → k % 8 ≡ 5 → IsTied s w k (record { place = p; number = m; view = v })
tied_at s p m v w at k is = record { holds = at.holds; stands = at.stands; own = at.own k is; order = at.order }

pub has_tie : (s : State) (p : Place) (m : ℕ) (v : View) (w : Worker) → IsSeated s p m v w → (k : ℕ) → k % 8 ≡ 5 → HasTie s w k
has_tie s p m v w at k is = (record { place = p; number = m; view = v }, tied_at s p m v w at k is)

-- and stays there
pub still_seated : (s : State) (p : Place) (m : ℕ) (v : View) (w x : Worker) (k : ℕ) → IsSeated s p m v w → k % 8 ≡ 5 → StaysTied s w x k → IsSeated s p m v x
still_seated s p m v w x k at is stays =
    let tied = stays (record { place = p; number = m; view = v }) (tied_at s p m v w at k is) in
    record { holds = tied.holds; stands = tied.stands; order = tied.order; own = at.own }

-- a seat is where it was, and giving an answer out changes nothing of this
pub seated_on : (s t : State) (a b : SeatAt) (u v : View) (y w x : Worker) → IsSeated s a.place a.number u y → b ≡ a
    → Holds a.place a.number v w → Stands t a.place a.number v w → InOrder a.place a.number v w
    → ((p : Place) (m : ℕ) (u : View) → Holds p m u w → Holds p m u x)
    → ((s : State) (p : Place) (m : ℕ) (u : View) → Stands s p m u w → Stands s p m u x)
    → ((p : Place) (m : ℕ) (u : View) → InOrder p m u w → InOrder p m u x)
    → IsSeated t b.place b.number v x
seated_on s t a b u v y w x seated same holds stands order h st o = subst (λ (z : SeatAt). IsSeated t z.place z.number v x) (sym same) (record {
  holds = h a.place a.number v holds;
  stands = st t a.place a.number v stands;
  order = o a.place a.number v order;
  own = seated.own;
})

-- so an engine may give it a turn
pub is_member : (s : State) (g : Group) (w : Worker) → IsAtBoard s g w → IsMember g.place 1 s (view_of g 1) w
is_member s g w at = record { holds = at.seated.holds; stands = at.seated.stands; order = at.seated.order; rule = λ _. at.rule }
