use Rattle.std.proofs.Common.{◌∙◌, ℕ, true, false, refl, subst}
use Rattle.engine_core.specs.Calls.{has_moved}
use Rattle.group_engine.specs.Passes.{Passes}
use Rattle.group_engine.proofs.Passing.{no_passes, more_passes, drained}
use Rattle.engine_core.proofs.Clients.{on_err}
use Rattle.group_engine.proofs.Ending.{keeps_all, keeps_passes, ends_on}
use Rattle.group_engine.proofs.passes.drain.Goals as goal

pub loop-init : goal.loop-init
loop-init g c = (λ e h. (e, h, no_passes g.C.Cores.moves (g.C.Cores.cores c.args.cores.now) e, keeps_all e.engine), refl)

pub pass-requires : goal.pass-requires
pass-requires g c = let r = c.loop.invariant.0 c.requires.0 c.requires.1 in (r.0, r.1)

pub loop-preserved : goal.loop-preserved
loop-preserved g c =
    let cores : ℕ = g.C.Cores.cores c.args.cores.now in
    let I = c.loop.invariant in
    (λ e h. (let r = I.0 e h in let n = c.in_ok-pass.ensures.passes r.0 r.1 in (n.0, n.1, more_passes g.C.Cores.moves cores e r.0 n.0 r.2 (subst (λ k. Passes g.C.Cores.moves k true r.0 n.0) I.1 (subst (λ t. Passes g.C.Cores.moves (g.C.Cores.cores c.loop.cores) (has_moved t) r.0 n.0) c.in-Moved.is n.2)), keeps_passes g.C.Cores.moves g.met.C.Cores.turns e.engine (g.C.Cores.cores c.loop.cores) r.0 n.0 (has_moved c.in_ok-pass.field-0) r.3 n.2)), c.in_ok-pass.ensures.cores ∙ I.1)

pub returns-in-Idle : goal.returns-in-Idle
returns-in-Idle g c =
    let cores : ℕ = g.C.Cores.cores c.args.cores.now in
    let I = c.loop.invariant in
    record { failed = tt; cores = c.in_ok-pass.ensures.cores ∙ I.1; drained = λ e h. (let r = I.0 e h in let n = c.in_ok-pass.ensures.passes r.0 r.1 in (n.0, n.1, drained g.C.Cores.moves cores e r.0 n.0 r.2 (subst (λ k. Passes g.C.Cores.moves k false r.0 n.0) I.1 (subst (λ t. Passes g.C.Cores.moves (g.C.Cores.cores c.loop.cores) (has_moved t) r.0 n.0) c.in-Idle.is n.2)))) }

pub returns-in_err-pass-clause-failed : goal.returns-in_err-pass-clause-failed
returns-in_err-pass-clause-failed g c = on_err c.from_residual.result (λ e h. let r = c.loop.invariant.0 e h in let f = c.in_err-pass.ensures.failed r.0 r.1 in (f.0, f.1, ends_on _ e.engine r.0.engine f.0 r.3 f.2))
