use Rattle.std.proofs.Common.{◌+◌, ◌∙◌, arith}
use Rattle.region_file.proofs.Paging.{count_is, item_is}
use Rattle.region_file.proofs.file_bytes.FileBytes.blank.Goals as goal

pub blank-requires : goal.blank-requires
blank-requires c = let n = count_is _ c.self.inside.own c.self.inside.base c.self.inside.len c.self.view_is in omega (arith, n, c.requires, c.self.invariant.most)

pub overflow_sub-self-inside : goal.overflow_sub-self-inside
overflow_sub-self-inside c = let n = count_is _ c.self.inside.own c.self.inside.base c.self.inside.len c.self.view_is in omega (arith, n, c.requires)

pub returns-clause-within : goal.returns-clause-within
returns-clause-within c = let n = count_is _ c.self.inside.own c.self.inside.base c.self.inside.len c.self.view_is in omega (arith, n, c.requires, c.min.ensures)

pub returns-clause-zeros : goal.returns-clause-zeros
returns-clause-zeros c = λ j lt.
    let n = count_is _ c.self.inside.own c.self.inside.base c.self.inside.len c.self.view_is in
    item_is _ c.self.inside.own c.self.inside.base c.self.inside.len (c.args.low + j) c.self.view_is (omega (arith, n, lt, c.requires, c.min.ensures)) ∙ c.blank.ensures.zeros j (omega (arith, lt, c.min.ensures))
