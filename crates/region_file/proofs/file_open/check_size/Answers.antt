use Rattle.std.proofs.Common.{[], ◌∷◌}
use Rattle.region_file.specs.Calls.{measured, refused, OnlyReads}
use Rattle.pm_region.proofs.Clients.{on_err}
use Rattle.region_file.proofs.file_open.check_size.Goals as goal

pub returns-in_err-size-clause-err : goal.returns-in_err-size-clause-err
returns-in_err-size-clause-err c = on_err _ (OnlyReads c.args.device.now.calls.made c.size.new.self.calls.made) (refused ∷ [], c.in_err-size.ensures.err, tt)

pub returns-else-branch-size-clause-err : goal.returns-else-branch-size-clause-err
returns-else-branch-size-clause-err c = (measured _ ∷ [], c.in_ok-size.ensures.ok, tt)
