use Rattle.std.proofs.Common.{◌≡◌, Bool, true, false, get_or, refl, sym, subst, arith, length-set}
use Rattle.region_file.proofs.Lining.{keeps_more, room_for}
use Rattle.region_file.proofs.line_set.LineSet.insert.Goals as goal

pub invariant_of-self-clause-keeps : goal.invariant_of-self-clause-keeps
invariant_of-self-clause-keeps c =
    let s = c.args.self.now in
    let was : get_or s.marks.items c.args.line false ≡ false = sym (subst (λ (b : Bool). b ≡ get_or s.marks.items c.args.line b) c.if-index.false c.index.ensures) in
    keeps_more s.marks.items _ s.lines.items c.put.new.lines.items c.args.line s.keeps c.requires was refl c.put.ensures.items

pub invariant_of-self-clause-room : goal.invariant_of-self-clause-room
invariant_of-self-clause-room c =
    let s = c.args.self.now in
    omega (arith, length-set s.marks.items c.args.line true, s.room, c.put.ensures.room)

pub invariant_of-self-clause-few : goal.invariant_of-self-clause-few
invariant_of-self-clause-few c =
    let s = c.args.self.now in
    omega (arith, s.few, length-set s.marks.items c.args.line true)

pub put-requires : goal.put-requires
put-requires c =
    let s = c.args.self.now in
    let was : get_or s.marks.items c.args.line false ≡ false = sym (subst (λ (b : Bool). b ≡ get_or s.marks.items c.args.line b) c.if-index.false c.index.ensures) in
    omega (arith, room_for s.marks.items s.lines.items c.args.line s.keeps c.requires was, s.room)
