use Rattle.std.proofs.Common.{◌≡◌, ◌<◌, ◌≤◌, ◌+◌, ◌*◌, ℕ, true, false, length, None, Some, sym, ◌∙◌, ap, subst, arith}
use Rattle.std.proofs.Math.Nat.{mul-le-mul_right, add-mul}
use Rattle.lazy_alloc.specs.Bits.{has_bit}
use Rattle.lazy_alloc.specs.Sets.{Sets, chunk_class, blocks_in}
use Rattle.lazy_alloc.specs.Form.{class_in, room_words}
use Rattle.lazy_alloc.specs.Steps.{LowestIn}
use Rattle.lazy_alloc.proofs.PlaceLaws.{blocks_room, block_fits}
use Rattle.lazy_alloc.proofs.FormLaws.{class_is, class_bounds}
use Rattle.lazy_alloc.proofs.BlockLaws.{none_in, own_chunk, free_there, lowest_there}
use Rattle.lazy_alloc.proofs.allocator.Allocator.lowest_in.Goals as goal

pub blocks_in-requires : goal.blocks_in-requires
blocks_in-requires c =
    let a = c.self.inside in
    let at : class_in a.classes.items c.args.chunk ≡ Some c.args.class = sym (class_is a.layout a.part a.free a.due a.classes.items a.bits.items c.self.invariant.form c.args.chunk) ∙ ap (λ (s : Sets). chunk_class s c.args.chunk) c.self.view_is ∙ c.requires.cut in
    (class_bounds a.layout a.part a.free a.due a.classes.items a.bits.items c.self.invariant.form c.args.chunk c.args.class at).1

pub first_unset-requires : goal.first_unset-requires
first_unset-requires c =
    let a = c.self.inside in
    let l = a.layout in
    let at : class_in a.classes.items c.args.chunk ≡ Some c.args.class = sym (class_is a.layout a.part a.free a.due a.classes.items a.bits.items c.self.invariant.form c.args.chunk) ∙ ap (λ (s : Sets). chunk_class s c.args.chunk) c.self.view_is ∙ c.requires.cut in
    let some = (class_bounds a.layout a.part a.free a.due a.classes.items a.bits.items c.self.invariant.form c.args.chunk c.args.class at).0 in
    let lt : c.args.chunk < l.chunks = subst (λ (s : Sets). c.args.chunk < s.layout.chunks) (sym c.self.view_is) c.requires.within in
    let low = blocks_room l c.args.class c.blocks_in.result some c.blocks_in.ensures.fits in
    let le : (c.args.chunk + 1) * room_words l ≤ l.chunks * room_words l = mul-le-mul_right {m = c.args.chunk + 1} {n = l.chunks} (room_words l) (omega arith) in
    let next = add-mul c.args.chunk 1 (room_words l) in
    let words = ap (λ (x : ℕ). c.args.chunk * x) c.room.ensures.value in
    let long = ap (length {A = ℕ}) c.deref.ensures.value in
    let room = c.self.invariant.form.room in
    omega (arith, low, le, next, words, long, room)

pub returns-in_default : goal.returns-in_default
returns-in_default c =
    let a = c.self.inside in
    let l = a.layout in
    let at : class_in a.classes.items c.args.chunk ≡ Some c.args.class = sym (class_is a.layout a.part a.free a.due a.classes.items a.bits.items c.self.invariant.form c.args.chunk) ∙ ap (λ (s : Sets). chunk_class s c.args.chunk) c.self.view_is ∙ c.requires.cut in
    let all : (i : ℕ) → i < blocks_in l c.args.class → has_bit a.bits.items (64 * (c.args.chunk * room_words l) + i) ≡ true =
    λ i lt. (λ t. has_bit (sym c.deref.ensures.value t) (64 * (c.args.chunk * sym c.room.ensures.value t) + i)) ∙ c.in_default.ensures i (subst (λ (n : ℕ). i < n) (sym c.blocks_in.ensures.value) lt) in
    subst (λ (s : Sets). LowestIn s c.args.class c.args.chunk None) c.self.view_is (none_in l a.part a.free a.due a.classes.items a.bits.items c.self.invariant.form c.args.chunk c.args.class at all)

pub block_at-requires-clause-class : goal.block_at-requires-clause-class
block_at-requires-clause-class c =
    let a = c.self.inside in
    let at : class_in a.classes.items c.args.chunk ≡ Some c.args.class = sym (class_is a.layout a.part a.free a.due a.classes.items a.bits.items c.self.invariant.form c.args.chunk) ∙ ap (λ (s : Sets). chunk_class s c.args.chunk) c.self.view_is ∙ c.requires.cut in
    (class_bounds a.layout a.part a.free a.due a.classes.items a.bits.items c.self.invariant.form c.args.chunk c.args.class at).1

pub block_at-requires-clause-fits : goal.block_at-requires-clause-fits
block_at-requires-clause-fits c =
    let a = c.self.inside in
    let fits = block_fits a.layout c.args.class c.in-Some.block c.blocks_in.result c.in-Some.ensures.0 c.blocks_in.ensures.fits in
    omega (arith, fits)

pub returns : goal.returns
returns c =
    let a = c.self.inside in
    let l = a.layout in
    let j = c.args.chunk in
    let is = c.self.invariant.form in
    let at : class_in a.classes.items j ≡ Some c.args.class = sym (class_is a.layout a.part a.free a.due a.classes.items a.bits.items is j) ∙ ap (λ (s : Sets). chunk_class s j) c.self.view_is ∙ c.requires.cut in
    let lt : j < l.chunks = subst (λ (s : Sets). j < s.layout.chunks) (sym c.self.view_is) c.requires.within in
    let fits = block_fits l c.args.class c.in-Some.block c.blocks_in.result c.in-Some.ensures.0 c.blocks_in.ensures.fits in
    let unset : has_bit a.bits.items (64 * (j * room_words l) + c.in-Some.block) ≡ false = (λ t. has_bit (sym c.deref.ensures.value t) (64 * (j * sym c.room.ensures.value t) + c.in-Some.block)) ∙ c.in-Some.ensures.1.0 in
    let all : (i : ℕ) → i < c.in-Some.block → has_bit a.bits.items (64 * (j * room_words l) + i) ≡ true = λ i less. (λ t. has_bit (sym c.deref.ensures.value t) (64 * (j * sym c.room.ensures.value t) + i)) ∙ c.in-Some.ensures.1.1 i less in
    subst (λ (s : Sets). LowestIn s c.args.class j (Some c.block_at.result)) c.self.view_is (
      free_there l a.part a.free a.due a.classes.items a.bits.items is j c.args.class at c.in-Some.block c.block_at.result lt fits unset c.block_at.ensures,
      own_chunk l a.part a.free a.due a.classes.items a.bits.items is j c.args.class at c.in-Some.block c.block_at.result lt fits unset c.block_at.ensures,
      lowest_there l a.part a.free a.due a.classes.items a.bits.items is j c.args.class at c.in-Some.block c.block_at.result lt fits unset c.block_at.ensures all,
    )
