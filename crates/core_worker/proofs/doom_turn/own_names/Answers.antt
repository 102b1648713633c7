use Rattle.std.proofs.Common.{◌==◌, ℕ, Bool, not, List, length, take, refl, ap, arith}
use Rattle.std.proofs.lemmas.List.{length-take-le}
use Rattle.std.proofs.lemmas.List.Filters.{length-filter_both}
use Rattle.log_entry.specs.declared.entry.EntryName.{EntryName}
use Rattle.chunk_map.specs.Layouts.{owner}
use Rattle.core_worker.proofs.doom_turn.own_names.Goals as goal

pub unwrap-requires : goal.unwrap-requires
unwrap-requires c =
    let i = c.loop-name.name-index in
    let had = ap {B = ℕ} (λ (ns : List EntryName). length ns) c.loop-name.invariant.0 in
    let own : EntryName → Bool = λ x. owner c.args.layout.now x.key == c.args.core in
    let all = length-filter_both own (λ x. not (own x)) (λ x. refl) (take i c.args.names.now) in
    let low = c.loop-name-test.true in
    let few = length-take-le i c.args.names.now (omega (arith, low)) in
    let room = c.loop-name.invariant.1 in
    c.push.ensures.succeeds (omega (arith, had, all, few, low, room))
