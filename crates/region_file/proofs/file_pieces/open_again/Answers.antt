use Rattle.std.proofs.Common.{List, [], ◌∷◌, sym, subst}
use Rattle.region_file.specs.Calls.{Call, opened, AreReads}
use Rattle.region_file.proofs.Noting.{reads_so_far}
use Rattle.region_file.proofs.file_pieces.open_again.Goals as goal

pub returns-in-Err-clause-reads : goal.returns-in-Err-clause-reads
returns-in-Err-clause-reads g c =
    let first : AreReads (opened c.args.path.now ∷ []) = tt in
    reads_so_far c.in_ok-again.again.calls.made c.check_size.new.device.calls.made c.in-Err.ensures.err (subst (λ (l : List Call). AreReads l) (sym c.in_ok-again.ensures.ok) first)
