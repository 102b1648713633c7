use Rattle.std.proofs.Common.{◌≡◌, ◌+◌, length, ◌∙◌, ap, arith, length-append}
use Rattle.region_file.proofs.Paging.{room_left}
use Rattle.region_file.proofs.pages.Pages.store.Goals as goal

pub put_behind-requires : goal.put_behind-requires
put_behind-requires c =
    let s = c.args.self.now in
    omega (arith, room_left s.slots.items s.bytes.items c.args.page s.kept c.requires.within c.requires.none, s.room, c.requires.whole)

pub overflow_cast-slot : goal.overflow_cast-slot
overflow_cast-slot c =
    let s = c.args.self.now in
    let size : length c.put_behind.new.room.items ≡ length s.bytes.items + length c.args.bytes.now = ap length c.put_behind.ensures.items ∙ length-append s.bytes.items c.args.bytes.now in
    omega (arith, room_left s.slots.items s.bytes.items c.args.page s.kept c.requires.within c.requires.none, s.few, c.requires.whole, size, c.len-slot.ensures)
