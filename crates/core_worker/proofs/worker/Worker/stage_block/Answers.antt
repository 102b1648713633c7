-- The block is there, and what the change leaves of the ties.
use Rattle.core_worker.proofs.RoomKept.{room_block}
use Rattle.std.proofs.Common.{ℕ, length, Option, Some, Bool, refl, sym, subst, arith}
use Rattle.log_entry.specs.declared.entry.Entry.{Entry}
use Rattle.log_entry.specs.declared.entry.Body.TheVariants as bodies
use Rattle.log_entry.specs.Spelling.{HasSpelling}
use Rattle.chunk_map.specs.Layouts.{IsLayout}
use Rattle.lazy_alloc.specs.Sets.{Takes}
use Rattle.core_worker.specs.OwnPlaces.{place_at}
use Rattle.core_worker.specs.Supplies.{supply_of}
use Rattle.core_room.specs.RoomRule.{may_cut}
use Rattle.core_room.specs.Lengths.{lines_needed}
use Rattle.core_worker.proofs.Gains.{Allots, allots}
use Rattle.core_worker.proofs.Pointers.{free_is, has, block_class, block_there, one_line, layout_there, unspent, room_there, pointer_small}
use Rattle.core_worker.proofs.Staging.{holds_staged, stands_staged}
use Rattle.core_worker.proofs.worker.Worker.stage_block.Goals as goal

pub take-requires : goal.take-requires
take-requires c =
    let t = c.requires.may.held.0 in
    let h = c.requires.may.held.1 in
    record { class = block_class t.place t.number t.view c.args.self.now h.holds c.args.key c.args.value c.args.version c.args.class c.args.may_cut c.requires.planned }

pub unwrap-pointer-requires : goal.unwrap-pointer-requires
unwrap-pointer-requires c =
    let t = c.requires.may.held.0 in
    let h = c.requires.may.held.1 in
    block_there t.place t.number t.view c.args.self.now h.holds c.args.key c.args.value c.args.version c.args.class c.args.may_cut c.requires.planned c.take.new.self c.take.result c.take.ensures.takes

pub returns : goal.returns
returns c = record {
  keeps = λ t h.
      (let p = t.place in
      let m = t.number in
      let v = t.view in
      let w = c.args.self.now in
      let q = c.unwrap-pointer.result in
      let k = c.args.key in
      let u = c.args.value in
      let class = c.args.class in
      let cuts = c.args.may_cut in
      let plan = c.requires.planned in
      let takes : Takes w.allocator c.take.new.self class cuts (Some q) = subst (λ (o : Option ℕ). Takes w.allocator c.take.new.self class cuts o) c.unwrap-pointer.ensures c.take.ensures.takes in
      let next = plan.version_is in
      let e : Entry = record { key = k; version = c.args.version; body = bodies.Pointer q } in
      let A : Allots w.allocator c.take.new.self (bodies.Pointer q) (length u) = allots w.allocator c.take.new.self h.holds.sets c.take.ensures.sets class q (length u) (block_class p m v w h.holds k u c.args.version class cuts plan) (has p m v w h.holds k u c.args.version class cuts plan) cuts takes in
      let f = A.fresh q refl in
      let small = pointer_small c.take.new.self q f.0.class c.take.ensures.sets (subst IsLayout (sym (A.layout_is)) (layout_there p m v w h.holds k u c.args.version class cuts plan)) f.0.class_is in
      let left = unspent p m v w h.holds k u c.args.version class cuts plan in
      let spelled : HasSpelling e = record { key = c.ranges.key.fits; fits = (omega (arith, next), omega (arith, next, left), small) } in
      let was = free_is (place_at w.places.items c.stage-slot.result) c.stage-slot.ensures.lowest.0 in
      record { holds = holds_staged p m v w h.holds c.requires.may.runs c.stage-slot.result c.stage-slot.ensures.within was c.args.number e u h.own c.requires.may.idle spelled next (λ t. absurd (cc t)) c.requires.may.room c.take.new.self A c.stage-slot.new.places c.stage-slot.ensures.placed c.requires.may.nothing.0 c.requires.may.nothing.1; stands = stands_staged p m v w h.holds c.requires.may.runs c.stage-slot.result c.stage-slot.ensures.within was c.args.number e u h.own c.requires.may.idle spelled next (λ t. absurd (cc t)) c.requires.may.room c.take.new.self A c.stage-slot.new.places c.stage-slot.ensures.placed });
  staged =
      (let w = c.args.self.now in
      let q = c.unwrap-pointer.result in
      let class = c.args.class in
      let n = length c.args.value in
      let plan = c.requires.planned in
      let takes : Takes w.allocator c.take.new.self class c.args.may_cut (Some q) = subst (λ (o : Option ℕ). Takes w.allocator c.take.new.self class c.args.may_cut o) c.unwrap-pointer.ensures c.take.ensures.takes in
      record {
        same = record { layout = refl; core = refl; log = refl; leading = refl; cleaning = refl; stopped = refl; winds_down = refl };
        answers = refl;
        slot = c.stage-slot.result;
        lowest = c.stage-slot.ensures.lowest;
        entry = record { key = c.args.key; version = c.args.version; body = bodies.Pointer q };
        value = c.args.value;
        placed = c.stage-slot.ensures.placed;
        key = refl;
        version = plan.version_is;
        asks = refl;
        block = subst (λ (k : ℕ). Takes w.allocator c.take.new.self k (may_cut (supply_of w) (lines_needed n)) (Some q)) plan.class_is
            (subst (λ (b : Bool). Takes w.allocator c.take.new.self class b (Some q)) plan.cuts_is takes);
        records = λ k. refl;
      });
  rule =
      (let t = c.requires.may.held.0 in
      let h = c.requires.may.held.1 in
      let w = c.args.self.now in
      let q = c.unwrap-pointer.result in
      let k = c.args.key in
      let u = c.args.value in
      let class = c.args.class in
      let cuts = c.args.may_cut in
      let plan = c.requires.planned in
      let takes : Takes w.allocator c.take.new.self class cuts (Some q) = subst (λ (o : Option ℕ). Takes w.allocator c.take.new.self class cuts o) c.unwrap-pointer.ensures c.take.ensures.takes in
      let low = c.stage-slot.ensures.lowest in
      room_block w (record w { allocator = c.take.new.self; places = c.stage-slot.new.places }) c.stage-slot.result c.args.number _ _ (lines_needed (length u)) c.stage-slot.ensures.placed (free_is (place_at w.places.items c.stage-slot.result) low.0) low.1
      (sym (one_line t.place t.number t.view w h.holds k u c.args.version class cuts plan)) refl refl class q (room_there t.place t.number t.view w h.holds k u c.args.version class cuts plan) (subst (λ (b : Bool). Takes w.allocator c.take.new.self class b (Some q)) plan.cuts_is takes));
  rest = refl;
}
