use Rattle.std.specs.Prelude.{None}
use Rattle.region_file.proofs.Paging.{in_under}
use Rattle.region_file.proofs.Storing.{zeros_are}
use Rattle.region_file.proofs.file_bytes.FileBytes.zeros.Goals as goal

pub returns : goal.returns
returns c = zeros_are _ c.args.len (λ k. in_under c.in_ok-own.own None k (c.in_ok-own.ensures.none k))
