use Rattle.std.proofs.Common.{◌≤◌, length, get_or, nat_lt, ◌∙◌, ap, arith, rules}
use Rattle.std.proofs.lemmas.Bool.{ltb-true, ltb-false}
use Rattle.std.proofs.lemmas.List.{get_or_default}
use Rattle.std.proofs.lemmas.List.Sorted.{IsPartitionPoint-from_clause, IsPartitionedBy-ltb}
use Rattle.core_index.specs.declared.types.Marked.{Marked}
use Rattle.core_index.proofs.MarkLaws.{never_falls, absent_from}
use Rattle.core_index.proofs.entry_list.place_of.Goals as goal

pub returns-then-at-marks-clause-absent : goal.returns-then-at-marks-clause-absent
returns-then-at-marks-clause-absent c =
    let ms = c.args.marks.now in
    let v = c.args.version in
    let at = c.partition_point-at.result in
    let parted = IsPartitionedBy-ltb (λ (m : Marked). m.entry.version) ms v (never_falls ms c.requires) in
    let point = IsPartitionPoint-from_clause (λ (m : Marked). nat_lt m.entry.version v) _ _ c.partition_point-at.ensures.partitioned parted (λ a r q k. search rules) in
    let past : length ms ≤ at = search rules in
    absent_from ms v at c.requires
    (λ k d lt. ltb-true (get_or ms k d).entry.version v (point.0 k d (omega arith) lt))
    (λ k d le lt. ltb-false (get_or ms k d).entry.version v (point.1 k d le lt))
    (λ lt d e. absurd (omega (arith, lt, past)))

pub returns-then-marks-at-clause-absent : goal.returns-then-marks-at-clause-absent
returns-then-marks-at-clause-absent c =
    let ms = c.args.marks.now in
    let v = c.args.version in
    let at = c.partition_point-at.result in
    let parted = IsPartitionedBy-ltb (λ (m : Marked). m.entry.version) ms v (never_falls ms c.requires) in
    let point = IsPartitionPoint-from_clause (λ (m : Marked). nat_lt m.entry.version v) _ _ c.partition_point-at.ensures.partitioned parted (λ a r q k. search rules) in
    absent_from ms v at c.requires
    (λ k d lt. ltb-true (get_or ms k d).entry.version v (point.0 k d (omega arith) lt))
    (λ k d le lt. ltb-false (get_or ms k d).entry.version v (point.1 k d le lt))
    (λ lt d e. c.if-marks-at.true (ap (λ (m : Marked). m.entry.version) (get_or_default ms at _ d lt) ∙ e))
