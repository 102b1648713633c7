use Rattle.std.proofs.Common.{◌∙◌, ◌<◌, refl, sym, subst, arith}
use Rattle.engine_core.specs.Calls.{has_moved}
use Rattle.group_engine.specs.Passes.{Ceases}
use Rattle.group_engine.proofs.Passing.{no_higher}
use Rattle.group_engine.proofs.Ending.{ceases_first, ceases_more, ceases_last}
use Rattle.group_engine.proofs.passes.cease_core.Goals as goal

pub loop-turn-init : goal.loop-turn-init
loop-turn-init g c = record {
  shown = λ e h. (e, h, ceases_first (g.R.Region.state c.args.region.now) e (g.met.C.Cores.placed (g.R.Region.state c.args.region.now) c.args.cores.now e h));
  winds = c.requires.winds;
  cores = refl;
  less = λ q. absurd (cc q);
  idle = λ q. omega arith;
}

pub cease-requires-clause-core : goal.cease-requires-clause-core
cease-requires-clause-core g c = subst (λ n. c.args.core < n) (sym c.loop-turn.invariant.cores) c.requires.core

pub cease-requires-clause-stays : goal.cease-requires-clause-stays
cease-requires-clause-stays g c = let r = c.loop-turn.invariant.shown c.requires.stays.0 c.requires.stays.1 in (r.0, r.1)

pub loop-turn-preserved : goal.loop-turn-preserved
loop-turn-preserved g c =
    let left = g.C.Cores.left in
    let I = c.loop-turn.invariant in
    let high = no_higher c.loop-turn.turn (left c.loop-turn.cores) (left c.args.cores.now) I.less I.idle in
    let low = c.cease.ensures.less c.in-Moved.is in
    record {
      shown = λ e h. (let r = I.shown e h in let n = c.cease.ensures.ceases r.0 r.1 in (n.0, n.1, ceases_more _ _ (has_moved c.loop-turn.turn) (has_moved c.cease.result) c.args.core e r.0 n.0 r.2 n.2));
      winds = c.cease.ensures.winds;
      cores = c.cease.ensures.cores ∙ I.cores;
      less = λ q. omega (arith, high, low);
      idle = λ q. absurd (cc q);
    }

pub returns-in-Idle-clause-ceases : goal.returns-in-Idle-clause-ceases
returns-in-Idle-clause-ceases g c = λ e h.
    let r = c.loop-turn.invariant.shown e h in
    let n = c.cease.ensures.ceases r.0 r.1 in
    (n.0, n.1, ceases_last (g.R.Region.state c.loop-turn.region) (g.R.Region.state c.cease.new.region) (has_moved c.loop-turn.turn) c.args.core e r.0 n.0 r.2 (subst (λ t. Ceases (g.R.Region.state c.cease.new.region) (has_moved t) c.args.core r.0 n.0) c.in-Idle.is n.2))
