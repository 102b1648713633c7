-- What a region that stands as recovery found it gives the cores of a run: their starts, and workers that are seated.
use Rattle.std.proofs.Common.{◌≡◌, ℕ, ◌+◌, ◌^◌, ◌<◌, List, length, Some, sym, subst, arith}
use Rattle.std.specs.List.{slice_get, slice_index_or}
use Rattle.pm_region.specs.State.{State, IsTelling, InRange, cell_now}
use Rattle.pm_region.specs.Words.{Surely}
use Rattle.chunk_map.specs.declared.layouts.Geometry.{Geometry}
use Rattle.chunk_map.specs.Layouts.{layout_of}
use Rattle.store_image.proofs.Clients.{layout_numbers}
use Rattle.core_log.specs.Log.{StandsIn}
use Rattle.recover.specs.declared.types.CoreStart.{CoreStart}
use Rattle.recover.specs.declared.types.Recovered.{Recovered}
use Rattle.recover.specs.Recovering.{IsFound}
use Rattle.group_laws.specs.Regions.{place_at}
use Rattle.engine_laws.specs.Parts.{group_of, member_of}
use Rattle.engine_laws.specs.Origins.{Origin}
use Rattle.engine_laws.specs.Stands.{opening}
use Rattle.core_worker.specs.declared.worker.Worker.{Worker}
use Rattle.core_worker.specs.Beginning.{answers_of}
use Rattle.core_worker.specs.Left.{fair}
use Rattle.core_worker.specs.Openings.{IsStartAt, IsCertainAt}
use Rattle.core_worker.specs.WorkerMoves.{hands_of}
use Rattle.core_worker.proofs.Clients.{start_at, certain_at}
use Rattle.engine_core.specs.RunStarts.{StandsAsFound, BeginsAt}
use Rattle.engine_core.specs.Seated.{Seat}
use Rattle.engine_core.specs.Working.{IsMember, SeatFirst, may_take, leads}
use Rattle.engine_core.proofs.Clients.{found_agrees}
use Rattle.thread_engine.proofs.Places.{get_low, get_at, get_index}

module _ (s : State) (word : ℕ → ℕ) (r : Recovered) (o : Origin) (F : StandsAsFound s word r) (B : BeginsAt s word o) where
  abbrev l : Geometry
  l = layout_of o.found

  is_found : IsFound s.frame.bytes o.found r
  is_found = found_agrees s.frame.bytes o.found word B.reads r F.made F.found

  pub layout_found : r.layout ≡ layout_of o.found
  layout_found = is_found.is_of.layout_is

  pub surely_found : IsTelling s → (w : ℕ) → InRange s.frame w → Surely (cell_now s w) (o.found w)
  surely_found telling w at =
      let first = F.first in
      let words = F.words in
      let high = at.high in
      subst (λ v. Surely (cell_now s w) v) (sym (B.tells telling w (omega (arith, first, words, high)))) (F.certain telling w at)

  small : s.frame.first + s.frame.words < 2 ^ 64
  small =
      let first = F.first in
      let words = F.words in
      let total = F.made.total in
      let most = (layout_numbers r.layout F.made.layout).total in
      omega (arith, first, words, total, most)

  -- the start of each core
  pub start_there : (c : ℕ) → c < l.cores → (start : CoreStart) × (slice_get r.starts.items c ≡ Some start) × IsStartAt (place_at l (group_of l c)) (member_of l c) o.found start
  start_there c low = (start, from.1, subst (λ (m : Geometry). IsStartAt (place_at m (group_of m c)) (member_of m c) o.found start) layout_found (subst (λ x. IsStartAt (place_at r.layout (group_of r.layout c)) (member_of r.layout c) o.found x) same (start_at s.frame.bytes o.found r F.made is_found c start lower))) where
    lower : c < r.layout.cores
    lower = subst (λ (m : Geometry). c < m.cores) (sym layout_found) low

    from : (x : CoreStart) × (slice_get r.starts.items c ≡ Some x)
    from = get_at r.starts.items c (let many = F.made.count in let low = lower in omega (arith, many, low))

    start : CoreStart
    start = from.0

    same : slice_index_or r.starts.items c start ≡ start
    same = get_index r.starts.items c start start from.1

  -- Its worker is seated in the first state of a run.
  pub seat_there : (workers : List Worker) → SeatFirst r.starts.items r.layout workers → length workers ≡ l.cores → (c : ℕ) (w : Worker) → slice_get workers c ≡ Some w → Seat hands_of answers_of IsMember fair may_take leads (opening o) c w
  seat_there workers seated count c w at = seated c w start at from.1 o c layout_found from.2
      (subst (λ (x : State). IsCertainAt x (place_at l (group_of l c)) (member_of l c) o.found start) (sym B.region) (certain_at s (place_at l (group_of l c)) (member_of l c) o.found start from.2 stand small surely_found)) where
        low : c < l.cores
        low = let there = get_low workers c w at in let many = count in omega (arith, there, many)

        from : (x : CoreStart) × (slice_get r.starts.items c ≡ Some x) × IsStartAt (place_at l (group_of l c)) (member_of l c) o.found x
        from = start_there c low

        start : CoreStart
        start = from.0

        stand : StandsIn s start.log
        stand = subst (λ (x : CoreStart). StandsIn s x.log) (get_index r.starts.items c start start from.1) (F.stand c start (subst (λ (m : Geometry). c < m.cores) (sym layout_found) low))
