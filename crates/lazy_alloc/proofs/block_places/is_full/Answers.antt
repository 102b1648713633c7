use Rattle.std.proofs.Common.{◌+◌, ◌*◌, ◌≤◌, ℕ, ap, arith}
use Rattle.std.proofs.Math.Nat.{mul-le-mul_right, add-mul}
use Rattle.lazy_alloc.specs.Form.{room_words}
use Rattle.lazy_alloc.proofs.PlaceLaws.{blocks_room}
use Rattle.lazy_alloc.proofs.OpenLaws.{full_none, full_some}
use Rattle.lazy_alloc.proofs.block_places.is_full.Goals as goal

pub first_unset-requires : goal.first_unset-requires
first_unset-requires c =
    let l = c.args.layout.now in
    let low = blocks_room l c.args.class c.blocks_in.result c.requires.low c.blocks_in.ensures.fits in
    let lt = c.requires.chunk in
    let le : (c.args.chunk + 1) * room_words l ≤ l.chunks * room_words l = mul-le-mul_right {m = c.args.chunk + 1} {n = l.chunks} (room_words l) (omega arith) in
    let next = add-mul c.args.chunk 1 (room_words l) in
    let words = ap (λ (x : ℕ). c.args.chunk * x) c.room.ensures.value in
    let room = c.requires.bits in
    omega (arith, low, le, next, words, room)

pub returns-in-None : goal.returns-in-None
returns-in-None c = full_none c.args.layout.now c.args.bits.now c.args.chunk c.args.class (c.args.chunk * c.room.result) c.blocks_in.result (ap (λ (x : ℕ). c.args.chunk * x) c.room.ensures.value) c.blocks_in.ensures.value c.in-None.ensures

pub returns-in-Some : goal.returns-in-Some
returns-in-Some c = full_some c.args.layout.now c.args.bits.now c.args.chunk c.args.class (c.args.chunk * c.room.result) c.blocks_in.result c.in-Some.field-0 (ap (λ (x : ℕ). c.args.chunk * x) c.room.ensures.value) c.blocks_in.ensures.value c.in-Some.ensures.0 c.in-Some.ensures.1.0
