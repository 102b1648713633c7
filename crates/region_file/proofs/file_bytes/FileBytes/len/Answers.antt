use Rattle.std.proofs.Common.{sym}
use Rattle.region_file.proofs.Paging.{count_is}
use Rattle.region_file.proofs.file_bytes.FileBytes.len.Goals as goal

pub returns-clause-count : goal.returns-clause-count
returns-clause-count c = sym (count_is _ c.self.inside.own c.self.inside.base c.self.inside.len c.self.view_is)
