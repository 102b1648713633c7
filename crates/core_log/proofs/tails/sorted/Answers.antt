use Rattle.std.proofs.Common.{◌≡◌, ◌+◌, ◌≤◌, List, [], drop, get_or, length, vec_len, sym, ◌∙◌, ap, subst, arith, rules}
use Rattle.std.specs.List.{AllByRecursion}
use Rattle.core_log.specs.declared.types.LogChunk.{LogChunk}
use Rattle.core_log.specs.Log.{tail_of, with_tail, chunk_with, IsRising, IsChunkOf}
use Rattle.std.proofs.lemmas.List.{drop_all}
use Rattle.core_log.specs.Fresh.{all_set}
use Rattle.core_log.proofs.TailLaws.{all_at, rising_set, all_set as each_set}
use Rattle.core_log.proofs.LogLaws.{kept_short}
use Rattle.core_log.proofs.FreshLaws.{tails_same, set_step}
use Rattle.core_log.proofs.tails.sorted.Goals as goal

pub set_tail-requires : goal.set_tail-requires
set_tail-requires c =
    let kept = c.loop-c.kept.items in
    let is = c.loop-c.invariant in
    let short : length kept ≤ c.args.layout.chunks = kept_short c.args.layout kept is.rising is.each in
    let long : vec_len c.loop-c.kept ≡ length kept = search rules in
    omega (arith, short, long, is.places)

pub loop-c-preserved : goal.loop-c-preserved
loop-c-preserved c =
    let cs = c.args.chunks.now in
    let i = c.loop-c.c-index in
    let kept = c.loop-c.kept.items in
    let x = get_or cs i (chunk_with 0 0) in
    let lt = c.loop-c-test.true in
    let is = c.loop-c.invariant in
    let items : c.set_tail.new.chunks.items ≡ with_tail kept x.chunk x.tail = c.set_tail.ensures.items in
    let capacity = c.set_tail.ensures.capacity in
    record {
      same = ap (all_set (drop (i + 1) cs)) items ∙ sym (set_step cs kept i (chunk_with 0 0) lt) ∙ is.same;
      rising = subst (λ (xs : List LogChunk). IsRising 0 xs) (sym items) (rising_set 0 kept x.chunk x.tail is.rising (omega arith));
      each = subst (λ (xs : List LogChunk). AllByRecursion (IsChunkOf c.args.layout) xs) (sym items)
          (each_set (IsChunkOf c.args.layout) kept x.chunk x.tail is.each (all_at (IsChunkOf c.args.layout) cs i (chunk_with 0 0) c.requires.each lt));
      places = omega (arith, capacity, is.places);
    }

pub returns-clause-tails : goal.returns-clause-tails
returns-clause-tails c =
    let cs = c.args.chunks.now in
    let none : drop c.loop-c.c-index cs ≡ [] = drop_all c.loop-c.c-index cs (search rules) in
    let is : c.loop-c.kept.items ≡ all_set cs [] = ap (λ (xs : List LogChunk). all_set xs c.loop-c.kept.items) (sym none) ∙ c.loop-c.invariant.same in
    λ j. ap (λ (xs : List LogChunk). tail_of xs j) is ∙ tails_same cs j c.requires.once
