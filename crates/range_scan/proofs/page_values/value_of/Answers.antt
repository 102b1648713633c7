use Rattle.std.proofs.Common.{◌∙◌}
use Rattle.range_scan.proofs.StartLaws.{lies_here, block_here, cell_here}
use Rattle.range_scan.proofs.page_values.value_of.Goals as goal

pub value_by-requires-clause-lies : goal.value_by-requires-clause-lies
value_by-requires-clause-lies g c = lies_here (g.R.Region.state c.args.region.now) c.args.starts.now c.requires c.args.key c.index-starts-core.result c.index-starts-core.is

pub value_by-requires-clause-block : goal.value_by-requires-clause-block
value_by-requires-clause-block g c = block_here (g.R.Region.state c.args.region.now) c.args.starts.now c.requires c.args.key c.index-starts-core.result c.index-starts-core.is

pub returns : goal.returns
returns g c = λ telling. c.in_ok-value.ensures telling ∙ cell_here (g.R.Region.state c.args.region.now) c.args.starts.now c.requires c.args.key c.index-starts-core.result c.index-starts-core.is telling
