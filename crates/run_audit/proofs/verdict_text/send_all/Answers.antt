use Rattle.std.proofs.Math.Nat.{le_trans}
use Rattle.fs_text.proofs.Streaming.{up_to_part}
use Rattle.run_audit.proofs.verdict_text.send_all.Goals as goal

pub loop-rest-preserved : goal.loop-rest-preserved
loop-rest-preserved g c = record {
  sent = up_to_part (g.O.Sink.taken c.args.sink.now) (g.O.Sink.taken c.loop-rest.sink) (g.O.Sink.taken c.write.new.self) c.args.bytes.now c.loop-rest.rest.now
      c.in_ok-count.count c.loop-rest.invariant.sent c.in_ok-count.ensures.takes;
  count = le_trans c.loop-rest.invariant.count c.in_ok-count.ensures.count;
}
