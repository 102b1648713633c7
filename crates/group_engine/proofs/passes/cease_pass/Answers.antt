use Rattle.std.proofs.Common.{◌≡◌, ◌∙◌, true, cond, refl, sym, ap, subst, arith}
use Rattle.engine_core.specs.Calls.{has_moved}
use Rattle.group_engine.specs.Passes.{CeasePasses}
use Rattle.group_engine.proofs.Passing.{no_higher}
use Rattle.group_engine.proofs.Ending.{cease_none, cease_one}
use Rattle.group_engine.proofs.passes.cease_pass.Goals.{in-Moved, in-Idle}
use Rattle.group_engine.proofs.passes.cease_pass.Goals as goal

pub loop-core-init : goal.loop-core-init
loop-core-init g c = record {
  shown = λ e h. (e, h, cease_none (g.R.Region.state c.args.region.now) e (g.met.C.Cores.placed (g.R.Region.state c.args.region.now) c.args.cores.now e h));
  winds = c.requires.winds;
  cores = refl;
  count_is = c.count-all.ensures;
  within = omega arith;
  less = λ q. absurd (cc q);
  idle = λ q. omega arith;
}

pub cease_core-requires-clause-core : goal.cease_core-requires-clause-core
cease_core-requires-clause-core g c = let I = c.loop-core.invariant in let t = c.loop-core-test.true in let n = I.count_is in let k = I.cores in omega (arith, t, n, k)

pub cease_core-requires-clause-stays : goal.cease_core-requires-clause-stays
cease_core-requires-clause-stays g c = let r = c.loop-core.invariant.shown c.requires.stays.0 c.requires.stays.1 in (r.0, r.1)

pub loop-core-preserved : goal.loop-core-preserved
loop-core-preserved g c =
    let left = g.C.Cores.left in
    let I = c.loop-core.invariant in
    let high = no_higher c.loop-core.turn (left c.loop-core.cores) (left c.args.cores.now) I.less I.idle in
    let ends = c.cease_core.ensures in
    elim c.match-cease_core.branch [
      | in-Moved w ↦ record {
        shown = λ e h. (let r = I.shown e h in let n = ends.ceases r.0 r.1 in (n.0, n.1, cease_one _ _ c.loop-core.core (has_moved c.loop-core.turn) (has_moved c.cease_core.result) (has_moved c.match-cease_core.turn) e r.0 n.0 r.2 n.2 (ap (λ t. cond (has_moved t) true (has_moved c.loop-core.turn)) w.in-Moved.is ∙ ap has_moved (sym w.turn-is))));
        winds = ends.winds;
        cores = ends.cores ∙ I.cores;
        count_is = I.count_is;
        within = (let t = c.loop-core-test.true in omega (arith, t));
        less = λ q. (let lt = ends.less w.in-Moved.is in omega (arith, high, lt));
        idle = λ q. absurd (let is = w.turn-is in cc (q, is));
      }
      | in-Idle w ↦ record {
        shown = λ e h. (let r = I.shown e h in let n = ends.ceases r.0 r.1 in (n.0, n.1, cease_one _ _ c.loop-core.core (has_moved c.loop-core.turn) (has_moved c.cease_core.result) (has_moved c.match-cease_core.turn) e r.0 n.0 r.2 n.2 (ap (λ t. cond (has_moved t) true (has_moved c.loop-core.turn)) w.in-Idle.is ∙ ap has_moved (sym w.turn-is))));
        winds = ends.winds;
        cores = ends.cores ∙ I.cores;
        count_is = I.count_is;
        within = (let t = c.loop-core-test.true in omega (arith, t));
        less = λ q. (let le = ends.idle w.in-Idle.is in let lt = I.less (sym w.turn-is ∙ q) in omega (arith, lt, le));
        idle = λ q. (let le = ends.idle w.in-Idle.is in let was = I.idle (sym w.turn-is ∙ q) in omega (arith, was, le));
      }
    ]

pub returns-clause-passes : goal.returns-clause-passes
returns-clause-passes g c = λ e h.
    let I = c.loop-core.invariant in
    let r = I.shown e h in
    let end : c.loop-core.core ≡ g.C.Cores.cores c.args.cores.now = (let f = c.loop-core-test.false in let w = I.within in let n = I.count_is in omega (arith, f, w, n)) in
    (r.0, r.1, subst (λ k. CeasePasses (g.R.Region.state c.loop-core.region) k (has_moved c.loop-core.turn) e r.0) end r.2)
