use Rattle.std.proofs.Common.{◌∙◌}
use Rattle.std.specs.Prelude.{Some}
use Rattle.region_file.proofs.Paging.{in_under, item_of, size_of}
use Rattle.region_file.proofs.file_bytes.FileBytes.shared.Goals as goal

pub returns-clause-count : goal.returns-clause-count
returns-clause-count c = size_of _ c.args.len

pub returns-clause-bytes : goal.returns-clause-bytes
returns-clause-bytes c = λ k lt. item_of _ c.args.len k lt ∙ in_under c.in_ok-own.own (Some c.args.base) k (c.in_ok-own.ensures.none k)
