use Rattle.std.proofs.Common.{refl, ◌∙◌}
use Rattle.core_log.proofs.Clients.{may_start}
use Rattle.log_cleaner.proofs.TallyLaws.{below_starts, below_on, tally_starts, tally_on}
use Rattle.log_cleaner.proofs.chunk_tally.note_all.Goals as goal

pub loop-found-init : goal.loop-found-init
loop-found-init g c =
    let s = g.R.Region.state c.args.region.now in
    let readable = may_start s c.args.log.now c.args.chunk c.requires.stands c.requires.has in
    record {
      readable = readable;
      below = below_starts c.args.tally.now c.requires.none;
      left = refl;
      told = λ telling. tally_starts s c.args.log.now c.args.chunk c.args.tally.now (readable.spelled telling) c.requires.none (c.requires.room telling);
    }

pub loop-found-preserved : goal.loop-found-preserved
loop-found-preserved g c =
    let s = g.R.Region.state c.args.region.now in
    let was = c.loop-found.invariant in
    record {
      readable = c.in-Some.ensures.next;
      below = below_on c.loop-found.tally c.note.new.tally c.loop-found.place c.in-Some.found was.below c.note.ensures c.in-Some.ensures.within;
      left = c.note.ensures.left ∙ was.left;
      told = λ telling. tally_on s c.args.log.now c.args.chunk c.loop-found.place c.in-Some.found c.loop-found.tally c.note.new.tally (c.in-Some.ensures.step telling) (was.told telling) c.note.ensures;
    }
