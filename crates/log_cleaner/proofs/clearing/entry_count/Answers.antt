use Rattle.std.proofs.Common.{ℕ, List, length, ap, arith}
use Rattle.log_entry.specs.declared.entry.Entry.{Entry}
use Rattle.core_log.proofs.Clients.{may_start, all_behind, ordered}
use Rattle.core_log.specs.Walking.{entries_in, words_in}
use Rattle.log_cleaner.proofs.clearing.entry_count.Goals as goal

pub loop-found-init : goal.loop-found-init
loop-found-init g c =
    let s = g.R.Region.state c.args.region.now in
    let log = c.args.log.now in
    let readable = may_start s log c.args.chunk c.requires.stands c.requires.has in
    record {
      readable = readable;
      below = omega arith;
      told = λ telling. let all = ap (λ (l : List (ℕ × Entry)). length l) (all_behind (entries_in s log c.args.chunk) 0 (ordered (words_in s log c.args.chunk) (readable.spelled telling))) in omega (arith, all);
    }

pub loop-found-preserved : goal.loop-found-preserved
loop-found-preserved g c =
    let was = c.loop-found.invariant in
    let below = was.below in
    let within = c.in-Some.ensures.within in
    record {
      readable = c.in-Some.ensures.next;
      below = omega (arith, below, within.0, within.1);
      told = λ telling. let left = ap (λ (l : List (ℕ × Entry)). length l) (c.in-Some.ensures.step telling).left in let told = was.told telling in omega (arith, left, told);
    }
