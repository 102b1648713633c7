use Rattle.std.proofs.Common.{◌≡◌, ◌∙◌, ℕ, ◌+◌, ◌<◌, Bool, true, cond, refl, sym, ap, subst, arith}
use Rattle.engine_core.specs.Calls.{has_moved}
use Rattle.group_engine.specs.Passes.{Settles, PassSoFar}
use Rattle.group_engine.proofs.Passing.{no_cores, more_cores, passed, no_higher}
use Rattle.engine_core.proofs.Clients.{on_err}
use Rattle.group_engine.proofs.Ending.{keeps_all, keeps_settles, ends_on}
use Rattle.group_engine.proofs.passes.pass.Goals.{in-Moved, in-Idle}
use Rattle.group_engine.proofs.passes.pass.Goals as goal

pub loop-core-init : goal.loop-core-init
loop-core-init g c = record {
  shown = λ e h. (e, h, no_cores g.C.Cores.moves (g.C.Cores.cores c.args.cores.now) e, keeps_all e.engine);
  cores = refl;
  count_is = c.count-count.ensures;
  within = omega arith;
  less = λ q. absurd (cc q);
  idle = λ q. omega arith;
}

-- one core more
next : {S : Type 0} (Move : S → ℕ → Bool → S → Type 0) (cores at : ℕ) (a b m : Bool) (e now new : S) → PassSoFar Move cores at a e now → at < cores → Settles Move at b now new → cond b true a ≡ m → PassSoFar Move cores (at + 1) m e new
next Move cores at a b m e now new S low step is = subst (λ x. PassSoFar Move cores (at + 1) x e new) is (more_cores Move cores at a b e now new S low step)

pub settle-requires-clause-core : goal.settle-requires-clause-core
settle-requires-clause-core g c = let I = c.loop-core.invariant in let t = c.loop-core-test.true in let n = I.count_is in let k = I.cores in omega (arith, t, n, k)

pub settle-requires-clause-shows : goal.settle-requires-clause-shows
settle-requires-clause-shows g c = let r = c.loop-core.invariant.shown c.requires.0 c.requires.1 in (r.0, r.1)

pub loop-core-preserved : goal.loop-core-preserved
loop-core-preserved g c =
    let left = g.C.Cores.left in
    let I = c.loop-core.invariant in
    let cores : ℕ = g.C.Cores.cores c.args.cores.now in
    let high = no_higher c.loop-core.turn (left c.loop-core.cores) (left c.args.cores.now) I.less I.idle in
    let low : c.loop-core.core < cores = (let t = c.loop-core-test.true in let n = I.count_is in omega (arith, t, n)) in
    elim c.match-branch-2.branch [
      | in-Moved w ↦ record {
        shown = λ e h. (let r = I.shown e h in let n = c.in_ok-settle.ensures.settles r.0 r.1 in (n.0, n.1, next g.C.Cores.moves cores c.loop-core.core (has_moved c.loop-core.turn) (has_moved c.in_ok-settle.field-0) (has_moved c.match-branch-2.turn) e r.0 n.0 r.2 low n.2 (ap (λ t. cond (has_moved t) true (has_moved c.loop-core.turn)) w.in-Moved.is ∙ ap has_moved (sym w.turn-is)), keeps_settles g.C.Cores.moves g.met.C.Cores.turns e.engine r.0 n.0 c.loop-core.core (has_moved c.in_ok-settle.field-0) r.3 n.2));
        cores = c.in_ok-settle.ensures.cores ∙ I.cores;
        count_is = I.count_is;
        within = (let t = c.loop-core-test.true in omega (arith, t));
        less = λ q. (let lt = c.in_ok-settle.ensures.less w.in-Moved.is in omega (arith, high, lt));
        idle = λ q. absurd (let is = w.turn-is in cc (q, is));
      }
      | in-Idle w ↦ record {
        shown = λ e h. (let r = I.shown e h in let n = c.in_ok-settle.ensures.settles r.0 r.1 in (n.0, n.1, next g.C.Cores.moves cores c.loop-core.core (has_moved c.loop-core.turn) (has_moved c.in_ok-settle.field-0) (has_moved c.match-branch-2.turn) e r.0 n.0 r.2 low n.2 (ap (λ t. cond (has_moved t) true (has_moved c.loop-core.turn)) w.in-Idle.is ∙ ap has_moved (sym w.turn-is)), keeps_settles g.C.Cores.moves g.met.C.Cores.turns e.engine r.0 n.0 c.loop-core.core (has_moved c.in_ok-settle.field-0) r.3 n.2));
        cores = c.in_ok-settle.ensures.cores ∙ I.cores;
        count_is = I.count_is;
        within = (let t = c.loop-core-test.true in omega (arith, t));
        less = λ q. (let le = c.in_ok-settle.ensures.idle w.in-Idle.is in let lt = I.less (sym w.turn-is ∙ q) in omega (arith, lt, le));
        idle = λ q. (let le = c.in_ok-settle.ensures.idle w.in-Idle.is in let was = I.idle (sym w.turn-is ∙ q) in omega (arith, was, le));
      }
    ]

pub returns-clause-passes : goal.returns-clause-passes
returns-clause-passes g c = λ e h.
    let I = c.loop-core.invariant in
    let r = I.shown e h in
    (r.0, r.1, passed g.C.Cores.moves (g.C.Cores.cores c.args.cores.now) c.loop-core.core (has_moved c.loop-core.turn) e r.0 r.2 (let f = c.loop-core-test.false in let w = I.within in let n = I.count_is in omega (arith, f, w, n)))

pub returns-in_err-settle-clause-failed : goal.returns-in_err-settle-clause-failed
returns-in_err-settle-clause-failed g c = on_err c.from_residual.result (λ e h. let r = c.loop-core.invariant.shown e h in let f = c.in_err-settle.ensures.failed r.0 r.1 in (f.0, f.1, ends_on _ e.engine r.0.engine f.0 r.3 f.2))
