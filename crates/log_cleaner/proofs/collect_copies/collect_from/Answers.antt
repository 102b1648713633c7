use Rattle.std.proofs.Common.{◌<◌, ℕ, List, length, refl, ◌∙◌, ap, arith}
use Rattle.core_log.specs.Walking.{entries_in}
use Rattle.log_cleaner.proofs.Batches.{collect_starts, collect_on}
use Rattle.log_cleaner.proofs.TallyLaws.{keeps_itself, keeps_both}
use Rattle.log_cleaner.proofs.collect_copies.collect_from.Goals as goal

pub loop-found-init : goal.loop-found-init
loop-found-init g c =
    let s = g.R.Region.state c.args.region.now in
    let none = ap (λ (l : List ℕ). length l) c.requires.empty in
    record {
      readable = c.requires.readable;
      most = omega arith;
      low = omega arith;
      high = omega (arith, none);
      room = c.requires.room;
      kept = refl;
      settled = refl;
      names = record { stood = λ k n some. some; stands = λ k n some. some; told = λ k n. refl; count = refl; room = refl };
      tally = keeps_itself c.args.standing.now;
      told = λ telling. collect_starts c.args.standing.now (entries_in s c.args.log.now c.args.chunk) c.args.from c.args.buffer.now.words (c.requires.left telling) c.requires.empty;
    }

pub loop-found-preserved : goal.loop-found-preserved
loop-found-preserved g c =
    let s = g.R.Region.state c.args.region.now in
    let was = c.loop-found.invariant in
    let most = was.most in
    let low = was.low in
    let high = was.high in
    let room = was.room in
    let took = c.take_in-taken.ensures in
    let long = took.long in
    let one = took.one in
    let less : c.loop-found.taken < 64 = omega arith in
    record {
      readable = c.in-Some.ensures.next;
      most = omega (arith, less, one);
      low = omega (arith, low, long.0);
      high = omega (arith, high, long.1);
      room = omega (arith, room, took.room);
      kept = took.room ∙ was.kept;
      settled = took.settled ∙ was.settled;
      names = record {
        stood = λ k n some. was.names.stood k n (took.names.stood k n some);
        stands = λ k n some. took.names.stands k n (was.names.stands k n some);
        told = λ k n. took.names.told k n ∙ was.names.told k n;
        count = took.names.count ∙ was.names.count;
        room = took.names.room ∙ was.names.room;
      };
      tally = keeps_both c.args.standing.now c.loop-found.standing c.take_in-taken.new.standing was.tally took.tally;
      told = λ telling. collect_on s c.args.log.now c.args.standing.now c.loop-found.standing c.args.chunk c.loop-found.place c.loop-found.taken c.loop-found.buffer.words c.in-Some.found (c.in-Some.ensures.step telling) (was.told telling)
          c.take_in-taken.new.standing c.loop-found.buffer c.take_in-taken.new.buffer c.take_in-taken.result refl took.passed took.added (λ wanted. took.words wanted telling) less;
    }
