use Rattle.std.proofs.Common.{◌∙◌, ◌<◌, refl, sym, subst, arith}
use Rattle.engine_core.specs.Calls.{has_moved}
use Rattle.group_engine.proofs.Passing.{no_moves, more_moves, settled, no_higher}
use Rattle.engine_core.proofs.Clients.{on_err}
use Rattle.group_engine.proofs.Ending.{keeps_all, keeps_move, ends_on}
use Rattle.group_engine.proofs.passes.settle.Goals as goal

pub loop-turn-init : goal.loop-turn-init
loop-turn-init g c = record {
  shown = λ e h. (e, h, no_moves g.C.Cores.moves c.args.core e, keeps_all e.engine);
  cores = refl;
  less = λ q. absurd (cc q);
  idle = λ q. omega arith;
}

pub advance-requires-clause-core : goal.advance-requires-clause-core
advance-requires-clause-core g c = subst (λ n. c.args.core < n) (sym c.loop-turn.invariant.cores) c.requires.core

pub advance-requires-clause-shows : goal.advance-requires-clause-shows
advance-requires-clause-shows g c = let r = c.loop-turn.invariant.shown c.requires.shows.0 c.requires.shows.1 in (r.0, r.1)

pub loop-turn-preserved : goal.loop-turn-preserved
loop-turn-preserved g c =
    let left = g.C.Cores.left in
    let I = c.loop-turn.invariant in
    let high = no_higher c.loop-turn.turn (left c.loop-turn.cores) (left c.args.cores.now) I.less I.idle in
    let low = c.in_ok-advance.ensures.less c.in-Moved.is in
    record {
      shown = λ e h.
          let r = I.shown e h in
          let n = c.in_ok-advance.ensures.moved r.0 r.1 in
          (n.0, n.1, more_moves g.C.Cores.moves c.args.core (has_moved c.loop-turn.turn) e r.0 n.0 r.2 (subst (λ t. g.C.Cores.moves r.0 c.args.core (has_moved t) n.0) c.in-Moved.is n.2), keeps_move e.engine r.0.engine n.0.engine c.args.core (has_moved c.in_ok-advance.field-0) r.3 (g.met.C.Cores.turns r.0 n.0 c.args.core (has_moved c.in_ok-advance.field-0) n.2));
      cores = c.in_ok-advance.ensures.cores ∙ I.cores;
      less = λ q. omega (arith, high, low);
      idle = λ q. absurd (cc q);
    }

pub returns-in-Idle-clause-settles : goal.returns-in-Idle-clause-settles
returns-in-Idle-clause-settles g c = λ e h.
    let r = c.loop-turn.invariant.shown e h in
    let n = c.in_ok-advance.ensures.moved r.0 r.1 in
    (n.0, n.1, settled g.C.Cores.moves c.args.core (has_moved c.loop-turn.turn) e r.0 n.0 r.2 (subst (λ t. g.C.Cores.moves r.0 c.args.core (has_moved t) n.0) c.in-Idle.is n.2))

pub returns-in_err-advance-clause-failed : goal.returns-in_err-advance-clause-failed
returns-in_err-advance-clause-failed g c = on_err c.from_residual.result (λ e h. let r = c.loop-turn.invariant.shown e h in let f = c.in_err-advance.ensures.failed r.0 r.1 in (f.0, f.1, ends_on _ e.engine r.0.engine f.0 r.3 f.2))
