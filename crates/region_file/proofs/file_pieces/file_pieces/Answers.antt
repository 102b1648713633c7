use Rattle.std.proofs.Common.{refl}
use Rattle.region_file.proofs.Filing.{file_parts_more}
use Rattle.region_file.proofs.file_pieces.file_pieces.Goals as goal

pub loop-i-preserved : goal.loop-i-preserved
loop-i-preserved g c = record {
  parts = file_parts_more c.args.path.now c.args.words.now c.args.cuts.now c.args.stamp c.args.faults c.loop-i.pieces.items c.push.new.self.items c.loop-i.i _ c.loop-i.invariant.parts
      (record { first = refl; words = c.in_ok-words.ensures; since = refl; stamp_is = refl; faults_are = refl; size = refl; calls = c.in_ok-device.ensures.ok }) c.in_ok-push.ensures.items;
  reads = c.in_ok-device.ensures.reads;
}
