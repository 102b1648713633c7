use Rattle.std.proofs.Common.{◌-◌, ◌%◌, refl}
use Rattle.region_file.proofs.Paging.{zeros_in}
use Rattle.region_file.proofs.pages.zeros_at.Goals as goal

pub returns-clause-zeros : goal.returns-clause-zeros
returns-clause-zeros c = λ j. zeros_in _ 4096 (c.args.at % 4096) (4096 - c.args.at % 4096) j refl
