use Rattle.std.proofs.Common.{◌∙◌, length, ap, subst, arith}
use Rattle.load_run.specs.Loaded.{RanLoad}
use Rattle.load_run.proofs.Loaded.{as_err, as_ok, ran_load}
use Rattle.load_run.proofs.Made.{made_long}
use Rattle.load_run.proofs.load.run_load.Goals as goal

pub returns-in-Err-clause-cause : goal.returns-in-Err-clause-cause
returns-in-Err-clause-cause g c = as_err (g.R.Region.state c.args.region.now) (g.R.Region.state c.run.new.region) c.in-Err.error c.in-Err.ensures.cause

pub returns-in-Ok-clause-cause : goal.returns-in-Ok-clause-cause
returns-in-Ok-clause-cause g c = as_ok (g.R.Region.state c.args.region.now) (g.R.Region.state c.run.new.region) c.in-Ok.ran _ c.in-Ok.ensures.cause

pub returns-in-Ok-clause-ran : goal.returns-in-Ok-clause-ran
returns-in-Ok-clause-ran g c =
    let made = c.of-requests.ensures in
    let long = ap length made ∙ made_long c.args.start 0 c.args.count in
    let few = c.requires.few in
    subst (λ xs. RanLoad (g.R.Region.state c.args.region.now) (g.R.ReadRegion.word c.args.region.now) (g.G.Gate.may_refuse c.args.gate.now) c.args.recovered xs (g.R.Region.state c.run.new.region) (record { outcome = c.in-Ok.ran.outcome; tally = c.run.new.outlet.outlet.tally })) made
    (ran_load (λ x. x.outlet.tally) c.in-Ok.ensures.ran (ap (λ o. o.tally) c.of-outlet.ensures ∙ c.new.ensures) (omega (arith, long, few)))
