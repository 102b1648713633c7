use Rattle.std.proofs.Common.{subst}
use Rattle.std.proofs.lemmas.Result.{IfOk-weaker}
use Rattle.thread_engine.specs.Supplied.{IsSupplied}
use Rattle.thread_engine.proofs.run_apart.run.Goals as goal

pub returns-clause-ran : goal.returns-clause-ran
returns-clause-ran g c =
    let z = c.in-Ok.ensures in
    IfOk-weaker c.run_supplied.result _ _ (λ x h. h z.0 c.args.recovered c.requires.region z.1 (subst (λ n. IsSupplied z.0 c.args.recovered n c.in-Ok.supplies) c.count-count.ensures z.2)) c.run_supplied.ensures.ran

pub run_supplied-requires-clause-supplied : goal.run_supplied-requires-clause-supplied
run_supplied-requires-clause-supplied g c κs within =
    let z = c.in-Ok.ensures in
    (z.0, c.args.recovered, c.requires.region, z.1, subst (λ n. IsSupplied z.0 c.args.recovered n c.in-Ok.supplies) c.count-count.ensures z.2)
