-- What the change leaves of the ties.
use Rattle.core_worker.proofs.RoomKept.{room_staged}
use Rattle.std.proofs.Common.{refl, ◌∙◌}
use Rattle.log_entry.specs.declared.entry.Entry.{Entry}
use Rattle.log_entry.specs.declared.entry.Body.TheVariants as bodies
use Rattle.core_room.specs.RoomRule.{lacks_room}
use Rattle.core_worker.specs.OwnPlaces.{place_at}
use Rattle.core_worker.specs.Supplies.{supply_of}
use Rattle.core_worker.proofs.Finding.{live_is, is_live}
use Rattle.core_worker.proofs.Gains.{allots_none}
use Rattle.core_worker.proofs.Pointers.{free_is, refused, delete_spelled}
use Rattle.core_worker.proofs.Staging.{holds_staged, stands_staged}
use Rattle.core_worker.proofs.worker.Worker.stage_delete.Goals as goal

pub returns : goal.returns
returns c = record {
  keeps = λ t h.
      (let p = t.place in
      let m = t.number in
      let v = t.view in
      let w = c.args.self.now in
      let next = c.requires.planned.version_is in
      let e : Entry = record { key = c.args.key; version = c.args.version; body = bodies.Tombstone } in
      let live = is_live (v.cell c.args.key) (live_is p m v w h.holds c.requires.may.runs c.args.key h.own ∙ c.requires.planned.live) in
      let spelled = delete_spelled p m v w h.holds c.requires.may.runs c.args.key h.own live c.args.version next c.ranges.key.fits in
      let was = free_is (place_at w.places.items c.stage-slot.result) c.stage-slot.ensures.lowest.0 in
      record { holds = holds_staged p m v w h.holds c.requires.may.runs c.stage-slot.result c.stage-slot.ensures.within was c.args.number e _ h.own c.requires.may.idle spelled next (λ e. live) c.requires.may.room w.allocator (allots_none w.allocator e.body _ h.holds.sets tt) c.stage-slot.new.places c.stage-slot.ensures.placed c.requires.may.nothing.0 c.requires.may.nothing.1; stands = stands_staged p m v w h.holds c.requires.may.runs c.stage-slot.result c.stage-slot.ensures.within was c.args.number e _ h.own c.requires.may.idle spelled next (λ e. live) c.requires.may.room w.allocator (allots_none w.allocator e.body _ h.holds.sets tt) c.stage-slot.new.places c.stage-slot.ensures.placed });
  staged =
      (record {
        same = record { layout = refl; core = refl; log = refl; leading = refl; cleaning = refl; stopped = refl; winds_down = refl };
        answers = refl;
        slot = c.stage-slot.result;
        lowest = c.stage-slot.ensures.lowest;
        entry = record { key = c.args.key; version = c.args.version; body = bodies.Tombstone };
        value = c.of.result;
        placed = c.stage-slot.ensures.placed;
        key = refl;
        version = c.requires.planned.version_is;
        asks = refl;
        block = refl;
        records = λ k. refl;
      });
  rule =
      (let w = c.args.self.now in
      let low = c.stage-slot.ensures.lowest in
      room_staged w (record w { places = c.stage-slot.new.places }) c.stage-slot.result c.args.number _ _ 1 c.stage-slot.ensures.placed (free_is (place_at w.places.items c.stage-slot.result) low.0) low.1
      refl refl refl refl (refused (lacks_room (supply_of w) 1) _ _ c.requires.planned.unrefused).0);
  rest = refl;
}
