use Rattle.std.proofs.Common.{map, ◌∙◌, ap, rules}
use Rattle.core_index.specs.Records.{untold_at}
use Rattle.core_index.specs.Marks.{kept}
use Rattle.core_index.proofs.MarkLaws.{made_marks, kept_marks}
use Rattle.core_index.proofs.entry_list.EntryList.of.Goals as goal

pub invariant_of-result : goal.invariant_of-result
invariant_of-result c = made_marks c.in_ok-marks.marks.items c.in_ok-homes.homes.entries c.args.standees.now c.len.result c.args.top c.in_ok-marks.ensures c.in_ok-homes.ensures.homes c.in_ok-homes.ensures.ordered c.requires (search rules)

pub returns-clause-items : goal.returns-clause-items
returns-clause-items c = ap kept c.in_ok-marks.ensures ∙ kept_marks c.in_ok-homes.homes.entries ∙ ap (map untold_at) c.in_ok-homes.ensures.homes
