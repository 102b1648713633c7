use Rattle.std.proofs.Common.{◌≤◌, length, get_or, nat_lt, ◌∙◌, ap, arith, rules}
use Rattle.std.proofs.lemmas.Bool.{ltb-true, ltb-false}
use Rattle.std.proofs.lemmas.List.{get_or_default}
use Rattle.std.proofs.lemmas.List.Sorted.{IsPartitionPoint-from_clause, IsPartitionedBy-ltb}
use Rattle.core_index.specs.declared.types.LiveKey.{LiveKey}
use Rattle.core_index.specs.Lives.{live_key}
use Rattle.core_index.proofs.LiveLaws.{never_falls, missing_from}
use Rattle.core_index.proofs.live_list.spot_among.Goals as goal

pub returns-then-at-items-clause-missing : goal.returns-then-at-items-clause-missing
returns-then-at-items-clause-missing c =
    let ts = c.args.items.now in
    let k = c.args.key in
    let at = c.partition_point-at.result in
    let parted = IsPartitionedBy-ltb live_key ts k (never_falls ts c.requires) in
    let point = IsPartitionPoint-from_clause (λ (t : LiveKey). nat_lt (live_key t) k) _ _ c.partition_point-at.ensures.partitioned parted (λ a r q k. search rules) in
    let past : length ts ≤ at = search rules in
    missing_from ts k at c.requires
    (λ i d lt. ltb-true (live_key (get_or ts i d)) k (point.0 i d (omega arith) lt))
    (λ i d le lt. ltb-false (live_key (get_or ts i d)) k (point.1 i d le lt))
    (λ lt d e. absurd (omega (arith, lt, past)))

pub returns-then-key_of-key-clause-missing : goal.returns-then-key_of-key-clause-missing
returns-then-key_of-key-clause-missing c =
    let ts = c.args.items.now in
    let k = c.args.key in
    let at = c.partition_point-at.result in
    let parted = IsPartitionedBy-ltb live_key ts k (never_falls ts c.requires) in
    let point = IsPartitionPoint-from_clause (λ (t : LiveKey). nat_lt (live_key t) k) _ _ c.partition_point-at.ensures.partitioned parted (λ a r q k. search rules) in
    missing_from ts k at c.requires
    (λ i d lt. ltb-true (live_key (get_or ts i d)) k (point.0 i d (omega arith) lt))
    (λ i d le lt. ltb-false (live_key (get_or ts i d)) k (point.1 i d le lt))
    (λ lt d e. c.if-key_of-key.true (c.key_of.ensures ∙ ap live_key (get_or_default ts at _ d lt) ∙ e))
