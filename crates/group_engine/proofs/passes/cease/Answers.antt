use Rattle.std.proofs.Common.{◌∙◌, false, refl, subst}
use Rattle.engine_core.specs.Calls.{has_moved}
use Rattle.group_engine.specs.Passes.{CeasePasses}
use Rattle.group_engine.proofs.Ending.{ends_first, ends_then, ceased_out}
use Rattle.group_engine.proofs.passes.cease.Goals as goal

pub loop-init : goal.loop-init
loop-init g c = record {
  shown = λ e h. (e, h, ends_first (g.R.Region.state c.args.region.now) e (g.met.C.Cores.placed (g.R.Region.state c.args.region.now) c.args.cores.now e h));
  winds = c.requires.winds;
  cores = refl;
}

pub cease_pass-requires-clause-stays : goal.cease_pass-requires-clause-stays
cease_pass-requires-clause-stays g c = let r = c.loop.invariant.shown c.requires.stays.0 c.requires.stays.1 in (r.0, r.1)

pub loop-preserved : goal.loop-preserved
loop-preserved g c =
    let I = c.loop.invariant in
    record {
      shown = λ e h. (let r = I.shown e h in let n = c.cease_pass.ensures.passes r.0 r.1 in (n.0, n.1, ends_then _ _ e r.0 n.0 r.2 n.2.ends));
      winds = c.cease_pass.ensures.winds;
      cores = c.cease_pass.ensures.cores ∙ I.cores;
    }

pub returns-in-Idle : goal.returns-in-Idle
returns-in-Idle g c = record {
  ceased = λ e h.
      let I = c.loop.invariant in
      let r = I.shown e h in
      let n = c.cease_pass.ensures.passes r.0 r.1 in
      (n.0, n.1, ceased_out (g.R.Region.state c.loop.region) (g.R.Region.state c.cease_pass.new.region) (g.C.Cores.cores c.args.cores.now) e r.0 n.0 r.2 (subst (λ k. CeasePasses (g.R.Region.state c.cease_pass.new.region) k false r.0 n.0) I.cores (subst (λ t. CeasePasses (g.R.Region.state c.cease_pass.new.region) (g.C.Cores.cores c.loop.cores) (has_moved t) r.0 n.0) c.in-Idle.is n.2)));
}
