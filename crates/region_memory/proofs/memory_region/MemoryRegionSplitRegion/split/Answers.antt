use Rattle.std.proofs.Common.{◌-◌, ◌<◌, ℕ, length, get_or, refl, sym, ◌∙◌, ap, subst, arith}
use Rattle.pm_region.specs.Split.{IsPiece}
use Rattle.region_memory.specs.Plans.{FaultCounts, Plan, piece_calls}
use Rattle.region_memory.specs.Volumes.{frame_of, part_state, volume_state}
use Rattle.pm_region.proofs.Clients.{on_err}
use Rattle.region_memory.proofs.Splitting.{is_piece, parted_on}
use Rattle.region_memory.proofs.memory_region.MemoryRegionSplitRegion.split.Goals as goal

pub returns-clause-pieces : goal.returns-clause-pieces
returns-clause-pieces g c =
    let v = c.args.self.now.volume in
    let was = g.P.FaultPlan.counts c.args.self.now.counts in
    λ i p lt.
    let within : i < length c.args.cuts.now - 1 = omega (arith, lt, c.in_ok-pieces.ensures.parts.count) in
    let piece = get_or c.in_ok-pieces.pieces.items i p in
    subst (λ (m : ℕ). IsPiece (volume_state v was.refusals was.faults) c.args.cuts.now i (part_state piece.history m))
    (sym (c.in_ok-pieces.ensures.plan.faults i p within ∙ ap (λ (x : FaultCounts). x.faults) c.in_ok-open.ensures.ok))
    (is_piece (frame_of v.history v.attached v.parted v.cuts.items v.bytes v.opens v.validations was.refusals) was.faults v.history piece.history c.args.cuts.now i refl v.at_zero (c.requires.cuts.rising i (omega arith)) (c.in_ok-pieces.ensures.parts.each i p within))

pub returns-in_err-part-clause-err : goal.returns-in_err-part-clause-err
returns-in_err-part-clause-err g c = on_err _ _ (c.in_err-part.ensures.err _ _ _ _)

pub returns-clause-ok : goal.returns-clause-ok
returns-clause-ok g c =
    let was = g.P.FaultPlan.counts c.args.self.now.counts in
    parted_on c.args.self.now.volume c.part.new.self was.refusals was.faults _ _ c.args.cuts.now c.in_ok-kept.kept.items (ap (λ (x : FaultCounts). x.faults) c.in_ok-open.ensures.ok)
    (c.in_ok-kept.ensures.items_if_clones_equal (λ x y e. e)) (c.in_ok-part.ensures.ok was.refusals was.faults)

pub returns-clause-handed : goal.returns-clause-handed
returns-clause-handed g c = λ i p lt.
    let within : i < length c.args.cuts.now - 1 = omega (arith, lt, c.in_ok-pieces.ensures.parts.count) in
    c.in_ok-pieces.ensures.plan.plans i p within ∙ ap (λ (q : Plan). piece_calls q i) c.open.ensures.counted
