use Rattle.std.proofs.Common.{◌<◌, ◌≤◌, length, get_or, nat_lt, arith, rules}
use Rattle.std.proofs.lemmas.Bool.{ltb-true, ltb-false}
use Rattle.std.proofs.lemmas.List.Sorted.{IsPartitionPoint-from_clause, IsPartitionedBy-ltb}
use Rattle.core_index.specs.declared.types.Tombstone.{Tombstone}
use Rattle.core_index.specs.Tombs.{key_of}
use Rattle.core_index.proofs.TombLaws.{never_falls, past_missing}
use Rattle.core_index.proofs.tombstone_list.first_among.Goals as goal

pub returns-then-at-items-clause-missing : goal.returns-then-at-items-clause-missing
returns-then-at-items-clause-missing c =
    let ts = c.args.items.now in
    let k = c.args.key in
    let at = c.partition_point-at.result in
    let parted = IsPartitionedBy-ltb key_of ts k (never_falls ts c.requires) in
    let point = IsPartitionPoint-from_clause (λ (t : Tombstone). nat_lt (key_of t) k) _ _ c.partition_point-at.ensures.partitioned parted (λ a r q k. search rules) in
    let past : length ts ≤ at = search rules in
    past_missing ts k at past (λ i d lt. ltb-true (key_of (get_or ts i d)) k (point.0 i d (omega arith) lt))

pub returns-clause-found : goal.returns-clause-found
returns-clause-found c =
    let ts = c.args.items.now in
    let k = c.args.key in
    let at = c.partition_point-at.result in
    let parted = IsPartitionedBy-ltb key_of ts k (never_falls ts c.requires) in
    let point = IsPartitionPoint-from_clause (λ (t : Tombstone). nat_lt (key_of t) k) _ _ c.partition_point-at.ensures.partitioned parted (λ a r q k. search rules) in
    let within : at < length ts = search rules in
    record {
      within = within;
      less = λ i d lt. ltb-true (key_of (get_or ts i d)) k (point.0 i d (omega arith) lt);
      first = λ d. ltb-false (key_of (get_or ts at d)) k (point.1 at d (omega arith) within);
    }
