use Rattle.std.proofs.Common.{◌≡◌, ◌*◌, ◌/◌, ◌≤◌, length, get_or, ap, arith}
use Rattle.region_file.proofs.pages.Pages.word.Goals as goal

pub word-requires : goal.word-requires
word-requires c =
    let s = c.args.self.now in
    let g = c.args.place / 4096 in
    let slot = s.in_order g (omega (arith, c.if-place-self.true)) in
    let within : 32768 * get_or s.slots.items g 0 ≤ length s.bytes.items = s.kept.within g in
    let size : length c.deref.result.now ≡ length s.bytes.items = ap length c.deref.ensures.value in
    omega (arith, slot, within, size)
