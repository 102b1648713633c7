use Rattle.core_index.proofs.ListingLaws.{start_step}
use Rattle.core_index.proofs.live_keys.add_started.Goals as goal

pub loop-live-preserved : goal.loop-live-preserved
loop-live-preserved c = start_step c.args.slots.now.entries c.args.items.now c.loop-live.live-index _ c.args.names.now.items c.loop-live.names.items c.add_left.new.names.items c.loop-live-test.true c.loop-live.invariant c.in_ok-add_left.ensures
