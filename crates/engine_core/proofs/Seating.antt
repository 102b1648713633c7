-- A worker that is opened on what recovery found is seated in the first state of a run.
use Rattle.std.proofs.Common.{◌==◌, not, ◌&&◌, ◌++◌, map, Result, Ok, Err, IfOk, refl, sym}
use Rattle.std.specs.Prelude.{option_to_list}
use Rattle.std.specs.List.{filter}
use Rattle.fs_model.specs.Cells.{key_of}
use Rattle.pm_region.specs.State.{State}
use Rattle.chunk_map.specs.declared.layouts.Geometry.{Geometry}
use Rattle.chunk_map.specs.Layouts.{layout_of}
use Rattle.conflict_queue.specs.Waiting.{waiting}
use Rattle.recover.specs.declared.types.CoreStart.{CoreStart}
use Rattle.group_laws.specs.Regions.{place_at}
use Rattle.engine_laws.specs.Parts.{group_of, member_of}
use Rattle.core_worker.specs.declared.worker.Worker.{Worker}
use Rattle.core_worker.specs.Openings.{IsNew, IsCertainAt, ByEachImage, opened_view}
use Rattle.core_worker.specs.Order.{InOrder}
use Rattle.core_worker.specs.Supplies.{HasKeptRoom}
use Rattle.core_worker.specs.Ties.{Holds, Stands}
use Rattle.core_worker.specs.WorkerMoves.{asked_by}
use Rattle.core_worker.proofs.Clients.{new_room, new_idle, none_for, starts_nothing, free_busy}
use Rattle.engine_laws.proofs.Clients.{core_is}
use Rattle.engine_core.proofs.FreeFound.{found_free}
use Rattle.engine_core.specs.Working.{SeatsFirst}

pub seats_first : (start : CoreStart) (layout : Geometry) (w : Worker) → IsNew start layout w → HasKeptRoom w
    → ByEachImage start layout (λ p m image. Holds p m (opened_view p m image) w)
    → ByEachImage start layout (λ p m image. InOrder p m (opened_view p m image) w)
    → ByEachImage start layout (λ p m image. (s : State) → IsCertainAt s p m image start → Stands s p m (opened_view p m image) w)
    → SeatsFirst start layout w
seats_first start layout w N rule holds order stands o c same at certain =
    let l = layout_of o.found in
    let p = place_at l (group_of l c) in
    let m = member_of l c in
    let v = opened_view p m o.found in
    record {
      view = v;
      sits = record {
        view = refl;
        place = λ k own. none_for v k w.places.items (free_busy w.places.items N.free k);
        waits = λ k own. (λ i. map asked_by (filter (λ h. key_of h.request == k) (option_to_list (N.hand i)) ++ waiting (N.queue i) k));
        stopped = N.runs;
        stock = found_free p m c o.found start layout w N at (core_is l at.place.layout c);
      };
      tied = record { holds = holds p m o.found same at; stands = stands p m o.found same at o.region certain; order = order p m o.found same at; rule = λ runs. rule };
      fairly = starts_nothing w N.leading;
      takes = sym ((λ i. not (new_idle start layout w N i) && (not (N.works i) && new_room start layout w N i)));
      given = N.answers.0;
    }

pub ok_seats : {E : Type 0} (r : Result Worker E) (start : CoreStart) (layout : Geometry) → IfOk r (λ w. IsNew start layout w) → IfOk r (λ w. HasKeptRoom w)
    → IfOk r (λ w. ByEachImage start layout (λ p m image. Holds p m (opened_view p m image) w))
    → IfOk r (λ w. ByEachImage start layout (λ p m image. InOrder p m (opened_view p m image) w))
    → IfOk r (λ w. ByEachImage start layout (λ p m image. (s : State) → IsCertainAt s p m image start → Stands s p m (opened_view p m image) w))
    → IfOk r (λ w. SeatsFirst start layout w)
ok_seats (Ok w) start layout N rule holds order stands = seats_first start layout w N rule holds order stands
ok_seats (Err e) start layout N rule holds order stands = tt
