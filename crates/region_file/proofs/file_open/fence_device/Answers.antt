use Rattle.std.proofs.Common.{inl, inr, List, subst}
use Rattle.region_file.specs.Calls.{Call}
use Rattle.region_file.specs.Filed.{looked, IsNotFenced, IsCutShort}
use Rattle.pm_region.proofs.Clients.{on_err, err_so}
use Rattle.region_file.proofs.file_open.fence_device.Goals as goal

pub returns-in_err-look-clause-err_calls : goal.returns-in_err-look-clause-err_calls
returns-in_err-look-clause-err_calls g c =
    let made = c.args.device.now.calls.made in
    on_err _ (IsNotFenced c.args.words.now 0 made (looked c.args.path.now c.args.words.now.size made) c.look.new.device.calls.made) (inl c.in_err-look.ensures.err)

pub returns-clause-err_calls : goal.returns-clause-err_calls
returns-clause-err_calls g c =
    let words = c.write_flushed.new.self in
    let after = c.write_flushed.new.device.calls.made in
    err_so c.write_flushed.result
    (λ cut. inr (subst (λ (l : List Call). IsCutShort words 0 l after) c.in_ok-look.ensures.ok cut))
    c.write_flushed.ensures.err_calls
