use Rattle.std.proofs.Common.{refl, arith}
use Rattle.core_log.specs.Walking.{entries_in}
use Rattle.log_cleaner.proofs.SettledLaws.{starts}
use Rattle.log_standing.specs.NameCounts.{wants}
use Rattle.log_cleaner.proofs.CountLaws.{count_starts, count_below, count_on}
use Rattle.log_cleaner.proofs.counting.to_copy.Goals as goal

pub loop-found-init : goal.loop-found-init
loop-found-init g c =
    let s = g.R.Region.state c.args.region.now in
    let start = starts s c.args.log.now c.args.standing.now c.args.chunk c.begin_at-place.result c.requires.stands c.requires.has c.requires.standing c.begin_at-place.ensures.within c.begin_at-place.ensures.begins in
    record {
      readable = start.readable;
      entries = omega arith;
      words = omega arith;
      chunk = refl;
      told = λ telling. count_starts c.args.standing.now (entries_in s c.args.log.now c.args.chunk) c.begin_at-place.result _ (start.left telling) refl refl;
    }

pub loop-found-preserved : goal.loop-found-preserved
loop-found-preserved g c =
    let s = g.R.Region.state c.args.region.now in
    let p = c.in-Some.found in
    let v = c.loop-found.so_far in
    let w = c.with_entry-so_far.result in
    let was = c.loop-found.invariant in
    let below = count_below (wants c.args.standing.now p.name.key p.name.version) v w p c.args.chunk c.loop-found.place was.entries was.words was.chunk c.in-Some.ensures.within c.with_entry-so_far.ensures in
    record {
      readable = c.in-Some.ensures.next;
      entries = below.0;
      words = below.1;
      chunk = below.2;
      told = λ telling. count_on s c.args.log.now c.args.standing.now c.args.chunk c.loop-found.place p v w (c.in-Some.ensures.step telling) (was.told telling) c.with_entry-so_far.ensures;
    }
