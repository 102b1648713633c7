use Rattle.std.proofs.Common.{◌≡◌, ℕ, sym, ap, subst, arith}
use Rattle.core_index.specs.Records.{Awaits}
use Rattle.core_index.specs.Slots.{Place, change_in, known_with, lone_deaths, TellsOne}
use Rattle.core_index.proofs.SlotLaws.{told_slot, told_one, told_lone}
use Rattle.core_index.proofs.key_slot.KeySlot.tell.Goals as goal

pub invariant_of-self : goal.invariant_of-self
invariant_of-self c = told_slot (change_in c.self.inside.head) c.self.inside.standing c.tell.new.self c.args.version c.self.invariant c.tell.ensures.items c.tell.ensures.top

pub returns-clause-told : goal.returns-clause-told
returns-clause-told c = λ _.
    let o = change_in c.self.inside.head in
    let ss = c.self.inside.standing.items in
    let n = c.self.inside.standing.room in
    let now : Place = record { known = known_with o c.tell.new.self.items; room = n } in
    let waits : Awaits (known_with o ss) c.args.home c.args.version = subst (λ (p : Place). Awaits p.known c.args.home c.args.version) (sym c.self.view_is) (c.awaits.ensures.0 c.if-not-awaits.false) in
    let tells = subst (λ (p : Place). TellsOne p now c.args.home c.args.version) c.self.view_is (told_one o ss c.tell.new.self.items n c.args.version c.args.home c.tell.ensures.items waits) in
    subst (λ (m : ℕ). TellsOne c.args.self.now (record { known = known_with o c.tell.new.self.items; room = m }) c.args.home c.args.version) (sym c.tell.ensures.room) tells

pub returns-clause-mortal : goal.returns-clause-mortal
returns-clause-mortal c =
    let o = change_in c.self.inside.head in
    let ss = c.self.inside.standing.items in
    let a : lone_deaths (known_with o c.tell.new.self.items) ≡ lone_deaths (known_with o ss) = told_lone o ss c.tell.new.self.items c.args.version c.tell.ensures.items in
    let d : lone_deaths (known_with o ss) ≡ lone_deaths c.args.self.now.known = ap (λ (p : Place). lone_deaths p.known) c.self.view_is in
    let e : c.self.inside.standing.room ≡ c.args.self.now.room = ap (λ (p : Place). p.room) c.self.view_is in
    let f = c.tell.ensures.room in
    omega (arith, a, d, e, f)
