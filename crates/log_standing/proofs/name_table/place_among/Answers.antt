use Rattle.std.proofs.Common.{◌≡◌, ◌≤◌, length, get_or, nat_lt, false, ◌∙◌, ap, arith, rules}
use Rattle.std.proofs.lemmas.Bool.{ltb-true, ltb-false}
use Rattle.std.proofs.lemmas.List.{get_or_default}
use Rattle.std.proofs.lemmas.List.Sorted.{IsPartitionPoint-from_clause, IsPartitionedBy-ltb}
use Rattle.log_standing.specs.declared.name_item.NameItem.{NameItem}
use Rattle.log_standing.specs.NameItems.{rank_of, rank_in, is_item}
use Rattle.log_standing.proofs.ItemLaws.{never_falls, absent_from, other_key, other_version}
use Rattle.log_standing.proofs.name_table.place_among.Goals.{then-found-name-via-then-found-name, then-found-name-via-else-found-name+then-found-name-2}
use Rattle.log_standing.proofs.name_table.place_among.Goals as goal

pub returns-then-at-items-clause-absent : goal.returns-then-at-items-clause-absent
returns-then-at-items-clause-absent c =
    let xs = c.args.items.now in
    let r = rank_of c.args.name.key c.args.name.version in
    let at = c.partition_point-at.result in
    let parted = IsPartitionedBy-ltb rank_in xs r (never_falls xs c.requires) in
    let point = IsPartitionPoint-from_clause (λ (x : NameItem). nat_lt (rank_in x) r) _ _ c.partition_point-at.ensures.partitioned parted (λ a r q k. search rules) in
    let past : length xs ≤ at = c.if-at-items.true in
    absent_from xs c.args.name.key c.args.name.version at c.requires
    (λ j d lt. ltb-true (rank_in (get_or xs j d)) r (point.0 j d (omega arith) lt))
    (λ j d le lt. ltb-false (rank_in (get_or xs j d)) r (point.1 j d le lt))
    (λ lt d. absurd (omega (arith, lt, past)))

pub returns-then-found-name-clause-absent : goal.returns-then-found-name-clause-absent
returns-then-found-name-clause-absent c =
    let xs = c.args.items.now in
    let k = c.args.name.key in
    let v = c.args.name.version in
    let r = rank_of k v in
    let at = c.partition_point-at.result in
    let d0 : NameItem = record { key = 0; version = 0; count = 0; chunk = 0; words = 0; dead = false } in
    let parted = IsPartitionedBy-ltb rank_in xs r (never_falls xs c.requires) in
    let point = IsPartitionPoint-from_clause (λ (x : NameItem). nat_lt (rank_in x) r) _ _ c.partition_point-at.ensures.partitioned parted (λ a r q k. search rules) in
    let isnt : is_item k v (get_or xs at d0) ≡ false = elim c.then-found-name.branch [
      | then-found-name-via-then-found-name w ↦ other_key k v (get_or xs at d0) w.if-found-name.true
      | then-found-name-via-else-found-name+then-found-name-2 w ↦ other_version k v (get_or xs at d0) w.if-found-name-2.true
    ] in
    absent_from xs k v at c.requires
    (λ j d lt. ltb-true (rank_in (get_or xs j d)) r (point.0 j d (omega arith) lt))
    (λ j d le lt. ltb-false (rank_in (get_or xs j d)) r (point.1 j d le lt))
    (λ lt d. ap (is_item k v) (get_or_default xs at d d0 lt) ∙ isnt)
