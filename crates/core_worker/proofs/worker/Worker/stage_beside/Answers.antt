-- What the change leaves of the ties.
use Rattle.core_room.specs.Lengths.{lines_needed}
use Rattle.core_worker.proofs.RoomKept.{room_staged, embedded_lines}
use Rattle.std.proofs.Common.{length, refl, arith}
use Rattle.log_entry.specs.declared.entry.Entry.{Entry}
use Rattle.log_entry.specs.declared.entry.Body.TheVariants as bodies
use Rattle.log_entry.specs.Spelling.{HasSpelling}
use Rattle.core_worker.specs.OwnPlaces.{place_at}
use Rattle.core_worker.specs.Supplies.{supply_of}
use Rattle.core_worker.specs.Plans.{last_version}
use Rattle.core_worker.proofs.Gains.{allots_none}
use Rattle.core_worker.proofs.Pointers.{free_is, unrefused}
use Rattle.core_worker.proofs.Staging.{holds_staged, stands_staged}
use Rattle.core_worker.proofs.worker.Worker.stage_beside.Goals as goal

pub returns : goal.returns
returns c = record {
  keeps = λ t h.
      (let p = t.place in
      let m = t.number in
      let v = t.view in
      let w = c.args.self.now in
      let plan = c.requires.planned in
      let next = plan.version_is in
      let e : Entry = record { key = c.args.key; version = c.args.version; body = bodies.Embedded c.args.value } in
      let left = (unrefused w.layout (supply_of w) w.allocator (last_version w c.args.key) (length c.args.value) plan.unrefused).unspent in
      let short = plan.short in
      let spelled : HasSpelling e = record { key = c.ranges.key.fits; fits = (omega (arith, next), omega (arith, next, left), omega (arith, short), plan.bytes) } in
      let was = free_is (place_at w.places.items c.stage-slot.result) c.stage-slot.ensures.lowest.0 in
      record { holds = holds_staged p m v w h.holds c.requires.may.runs c.stage-slot.result c.stage-slot.ensures.within was c.args.number e _ h.own c.requires.may.idle spelled next (λ t. absurd (cc t)) c.requires.may.room w.allocator (allots_none w.allocator e.body _ h.holds.sets tt) c.stage-slot.new.places c.stage-slot.ensures.placed c.requires.may.nothing.0 c.requires.may.nothing.1; stands = stands_staged p m v w h.holds c.requires.may.runs c.stage-slot.result c.stage-slot.ensures.within was c.args.number e _ h.own c.requires.may.idle spelled next (λ t. absurd (cc t)) c.requires.may.room w.allocator (allots_none w.allocator e.body _ h.holds.sets tt) c.stage-slot.new.places c.stage-slot.ensures.placed });
  staged =
      (record {
        same = record { layout = refl; core = refl; log = refl; leading = refl; cleaning = refl; stopped = refl; winds_down = refl };
        answers = refl;
        slot = c.stage-slot.result;
        lowest = c.stage-slot.ensures.lowest;
        entry = record { key = c.args.key; version = c.args.version; body = bodies.Embedded c.args.value };
        value = c.of.result;
        placed = c.stage-slot.ensures.placed;
        key = refl;
        version = c.requires.planned.version_is;
        asks = refl;
        block = refl;
        records = λ k. refl;
      });
  rule =
      (let w = c.args.self.now in
      let plan = c.requires.planned in
      let fits = (unrefused w.layout (supply_of w) w.allocator (last_version w c.args.key) (length c.args.value) plan.unrefused).room in
      let low = c.stage-slot.ensures.lowest in
      room_staged w (record w { places = c.stage-slot.new.places }) c.stage-slot.result c.args.number _ _ (lines_needed (length c.args.value)) c.stage-slot.ensures.placed (free_is (place_at w.places.items c.stage-slot.result) low.0) low.1
      (embedded_lines c.args.key c.args.version c.args.value plan.short) refl refl refl fits);
  rest = refl;
}
