use Rattle.std.proofs.Common.{ℕ, leb, ltb, take, ◌∙◌, ap, arith, rules}
use Rattle.std.specs.List.{filter}
use Rattle.std.proofs.lemmas.List.{take_rest}
use Rattle.std.proofs.lemmas.List.Sorted.{IsPartitionPoint-from_clause, IsPartitionedBy-leb, IsPartitionedBy-ltb}
use Rattle.range_scan.proofs.RangeLaws.{never_falls, rising_taken, front_passes, rest_passes, not_below, both_pass}
use Rattle.range_scan.proofs.ranging.keys_within.Goals as goal

pub returns : goal.returns
returns c =
    let keys = c.args.keys.now in
    let lo = c.args.lo in
    let hi = c.args.hi in
    let end = c.partition_point-end.result in
    let start = c.partition_point-start.result in
    let up_to = take end keys in
    let ends = IsPartitionPoint-from_clause (λ (k : ℕ). leb k hi) keys end c.partition_point-end.ensures.partitioned (IsPartitionedBy-leb (λ k. k) keys hi (never_falls keys c.requires)) (λ a r q k. search rules) in
    let starts = IsPartitionPoint-from_clause (λ (k : ℕ). ltb k lo) up_to start c.partition_point-start.ensures.partitioned (IsPartitionedBy-ltb (λ k. k) up_to lo (never_falls up_to (rising_taken end keys c.requires))) (λ a r q k. search rules) in
    take_rest up_to start
    ∙ rest_passes (λ k. ltb k lo) (λ k. leb lo k) (not_below lo) up_to start (λ i d lt within. starts.0 i d (omega arith) lt) (λ i d le within. starts.1 i d le within)
    ∙ ap (filter (λ k. leb lo k)) (front_passes (λ k. leb k hi) keys end (λ i d lt within. ends.0 i d (omega arith) lt) (λ i d le within. ends.1 i d le within))
    ∙ both_pass lo hi keys
