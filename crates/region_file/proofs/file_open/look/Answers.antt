use Rattle.std.proofs.Common.{[], ◌∷◌}
use Rattle.region_file.specs.Calls.{measured, stood, refused, OnlyReads}
use Rattle.pm_region.proofs.Clients.{on_err}
use Rattle.region_file.proofs.file_open.look.Goals as goal

pub returns-in_err-find-clause-err : goal.returns-in_err-find-clause-err
returns-in_err-find-clause-err g c =
    on_err _ (OnlyReads c.args.device.now.calls.made c.find.new.self.calls.made) (refused ∷ [], c.in_err-find.ensures.err, tt)

pub returns-else-branch-size-clause-err : goal.returns-else-branch-size-clause-err
returns-else-branch-size-clause-err g c =
    (measured c.in_ok-find.field-0 ∷ stood c.args.path.now ∷ [], c.in_ok-find.ensures.ok, tt)
