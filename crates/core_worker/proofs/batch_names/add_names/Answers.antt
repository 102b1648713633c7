use Rattle.std.proofs.Common.{◌≡◌, ℕ, ◌+◌, sym, ◌∙◌, subst, arith}
use Rattle.core_worker.proofs.NamesAdded.{AddsSoFar, adds_first, adds_none, adds_one, adds_all}
use Rattle.core_worker.proofs.batch_names.add_names.Goals as goal
use Rattle.core_worker.proofs.batch_names.add_names.Goals.{in-Some, in_default}

pub loop-at-init : goal.loop-at-init
loop-at-init c = adds_first c.args.batch.now.changes.taken.items c.args.standing.now c.requires.room

pub loop-at-preserved : goal.loop-at-preserved
loop-at-preserved c =
    let ts = c.args.batch.now.changes.taken.items in
    elim c.match-name_at.branch [
      | in-Some w ↦ subst (AddsSoFar ts (c.loop-at.at + 1) c.args.standing.now) (sym w.standing-is)
          (adds_one ts c.loop-at.at c.args.standing.now c.loop-at.standing c.loop-at.invariant w.add.new.self w.in-Some.name (sym c.name_at.ensures ∙ w.in-Some.is) w.add.ensures.added w.add.ensures.room w.add.ensures.settled w.add.ensures.count w.add.ensures.floors)
      | in_default w ↦ subst (AddsSoFar ts (c.loop-at.at + 1) c.args.standing.now) (sym w.standing-is)
          (adds_none ts c.loop-at.at c.args.standing.now c.loop-at.standing c.loop-at.invariant (sym c.name_at.ensures ∙ w.in_default.is))
    ]

pub returns-clause-adds : goal.returns-clause-adds
returns-clause-adds c =
    let end : c.loop-at.at ≡ 64 = (let a = c.loop-at-test.false in let b = c.loop-at.auto.at-end in omega (arith, a, b)) in
    adds_all c.args.batch.now.changes.taken.items c.args.standing.now c.loop-at.standing c.args.batch.now.changes.few
    (subst (λ (i : ℕ). AddsSoFar c.args.batch.now.changes.taken.items i c.args.standing.now c.loop-at.standing) end c.loop-at.invariant)

pub returns-clause-count : goal.returns-clause-count
returns-clause-count c = let many = c.loop-at.invariant.many in omega (arith, many)
