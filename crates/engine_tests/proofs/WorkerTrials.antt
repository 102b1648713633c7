-- The tests' region and the worker that is opened over it.
use Rattle.std.proofs.Common.{◌≡◌, ℕ, ◌/◌, ◌%◌, ◌<◌, sym, ◌∙◌, ap, subst, arith}
use Rattle.std.specs.Prelude.{slice_index_or}
use Rattle.pm_region.specs.Cell.{Cell}
use Rattle.pm_region.specs.State.{State, cell_now}
use Rattle.pm_region.specs.Words.{Surely, lasts}
use Rattle.pm_region.specs.Split.{Attached}
use Rattle.pm_region.proofs.Clients.{surely_certain}
use Rattle.chunk_map.specs.declared.layouts.Geometry.{Geometry}
use Rattle.core_log.specs.Log.{StandsIn}
use Rattle.recover.specs.declared.types.CoreStart.{CoreStart}
use Rattle.recover.specs.declared.types.Recovered.{Recovered}
use Rattle.recover.specs.Regions.{IsCertain}
use Rattle.recover.specs.Recovering.{IsMade, IsFound, AllStand}
use Rattle.group_laws.specs.Places.{Place, owner}
use Rattle.group_laws.specs.Regions.{place_at}
use Rattle.group_laws.proofs.Clients.{some_group}
use Rattle.core_worker.specs.declared.worker.Worker.{Worker}
use Rattle.core_worker.specs.Accepting.{HasTie}
use Rattle.core_worker.specs.Order.{InOrder}
use Rattle.core_worker.specs.Ties.{Holds, Stands}
use Rattle.core_worker.specs.Openings.{IsNew, IsStartAt, IsCertainAt, ByEachImage, opened_view}
use Rattle.engine_tests.specs.WorkerTrials.{MayAccept, IsSeated}
use Rattle.core_worker.proofs.Clients.{start_at, certain_at, new_room, new_idle, core_is}
use Rattle.core_worker.proofs.Clients.{own_of}

-- the words of a region that was attached are certain
pub attached_certain : (s t : State) (bytes : ℕ) (image : ℕ → ℕ) → Attached s t bytes image → IsCertain t
attached_certain s t bytes image A telling w r =
    let is = A.certainly w r telling in
    subst (Surely (cell_now t w)) (sym (ap (λ (c : Cell). c.last) is)) (surely_certain (cell_now t w) (image w) is)

-- the worker of each core may accept requests for its keys
module _ (s : State) (r : Recovered) (core : ℕ) (d start : CoreStart) (w : Worker) (first : s.frame.first ≡ 0) (words : s.frame.words ≡ 16896) (certain : IsCertain s)
    (made : IsMade 135168 r) (found : IsFound 135168 (lasts s) r) (stand : AllStand s r) (eight : r.layout.cores ≡ 8) (low : core < 8) (is : start ≡ slice_index_or r.starts.items core d) (N : IsNew start r.layout w) where
  abbrev l : Geometry
  l = r.layout

  abbrev p : Place
  p = place_at l (core / l.group)

  abbrev m : ℕ
  m = core % l.group

  within : core < r.layout.cores
  within = omega (arith, eight, low)

  at : IsStartAt p m (lasts s) start
  at = subst (IsStartAt p m (lasts s)) (sym is) (start_at 135168 (lasts s) r made found core d within)

  here : IsCertainAt s p m (lasts s) start
  here = certain_at s p m (lasts s) start at (subst (λ (x : CoreStart). StandsIn s x.log) (sym is) (stand core d within)) (omega (arith, first, words)) (λ telling. certain telling)

  pub own : (k : ℕ) → k % 8 ≡ core → owner p k ≡ m
  own k is = own_of p m k (some_group p (lasts s) at.place at.rules) at.member (ap (λ (n : ℕ). k % n) eight ∙ is ∙ sym (core_is l core))

  tied : Holds p m (opened_view p m (lasts s)) w → Stands s p m (opened_view p m (lasts s)) w → InOrder p m (opened_view p m (lasts s)) w → (k : ℕ) → k % 8 ≡ core → HasTie s w k
  tied holds stands order k is = (
    record { place = p; number = m; view = opened_view p m (lasts s) },
    record { holds = holds; stands = stands; own = own k is; order = order },
  )

  -- that of core 5 is seated as its member
  pub seated : core ≡ 5
      → ByEachImage start r.layout (λ p m image. Holds p m (opened_view p m image) w)
      → ByEachImage start r.layout (λ p m image. (t : State) → IsCertainAt t p m image start → Stands t p m (opened_view p m image) w)
      → ByEachImage start r.layout (λ p m image. InOrder p m (opened_view p m image) w)
      → IsSeated s p m (opened_view p m (lasts s)) w
  seated five holds stands order = record {
    holds = holds p m (lasts s) (λ i. l) at;
    stands = stands p m (lasts s) (λ i. l) at s here;
    order = order p m (lasts s) (λ i. l) at;
    own = λ k is. own k (is ∙ sym five);
  }

  pub may_accept : ByEachImage start r.layout (λ p m image. Holds p m (opened_view p m image) w)
      → ByEachImage start r.layout (λ p m image. (t : State) → IsCertainAt t p m image start → Stands t p m (opened_view p m image) w)
      → ByEachImage start r.layout (λ p m image. InOrder p m (opened_view p m image) w)
      → MayAccept s core w
  may_accept holds stands order = record {
    tied = tied (holds p m (lasts s) (λ i. l) at) (stands p m (lasts s) (λ i. l) at s here) (order p m (lasts s) (λ i. l) at);
    room = new_room start l w N;
    free = new_idle start l w N;
    works = N.works;
  }
