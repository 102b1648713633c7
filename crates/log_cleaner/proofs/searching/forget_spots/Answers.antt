use Rattle.core_log.proofs.Clients.{may_start}
use Rattle.log_cleaner.proofs.SearchLaws.{forgets_both, forgets_itself}
use Rattle.log_cleaner.proofs.searching.forget_spots.Goals as goal

pub loop-found-init : goal.loop-found-init
loop-found-init g c = record {
  readable = may_start (g.R.Region.state c.args.region.now) c.args.log.now c.args.chunk c.requires.stands c.requires.has;
  forgets = forgets_itself c.args.standing.now c.args.chunk;
}

pub loop-found-preserved : goal.loop-found-preserved
loop-found-preserved g c = record {
  readable = c.in-Some.ensures.next;
  forgets = forgets_both c.args.standing.now c.loop-found.standing c.forget_spot.new.standing c.args.chunk c.loop-found.invariant.forgets c.forget_spot.ensures;
}

pub returns-then-not-forget_spot : goal.returns-then-not-forget_spot
returns-then-not-forget_spot g c = forgets_both c.args.standing.now c.loop-found.standing c.forget_spot.new.standing c.args.chunk c.loop-found.invariant.forgets c.forget_spot.ensures
