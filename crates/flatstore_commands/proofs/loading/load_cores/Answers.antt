-- The split failed, or there was no memory for the run.
use Rattle.flatstore_commands.proofs.LoadServing.{split_refused}
use Rattle.flatstore_commands.proofs.loading.load_cores.Goals as goal

pub returns-in_err-ran-clause-refused : goal.returns-in_err-ran-clause-refused
returns-in_err-ran-clause-refused g c =
    split_refused (g.R.Region.state c.args.region.now) (g.R.Region.state c.run_load.new.region) (g.R.ReadRegion.word c.args.region.now) c.in_err-ran.ensures.stays
    c.run_load.result c.run_load.ensures.cause c.in_ok-recovered.recovered c.in_ok-recovered.ensures.ok
    c.in_err-ran.field-0.0 c.in_err-ran.was c.from_residual-in_err-ran.result c.from_residual-in_err-ran.ensures.1

pub returns-clause-loaded : goal.returns-clause-loaded
returns-clause-loaded g c = record {
  recovered = c.in_ok-recovered.recovered;
  stands = c.in_ok-recovered.ensures.ok;
  ran = c.in_ok-ran.ensures.ran;
}
