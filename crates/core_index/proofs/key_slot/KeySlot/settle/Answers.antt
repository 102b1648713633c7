use Rattle.std.proofs.Common.{◌≡◌, ◌-◌, Option, sym, ◌∙◌, ap, subst, arith}
use Rattle.core_index.specs.declared.types.Standee.{Standee}
use Rattle.core_index.specs.Records.{last_of}
use Rattle.core_index.specs.Slots.{Place, alive_at, dead_by, OnlyDead}
use Rattle.core_index.proofs.SlotLaws.{one_lone, one_dead}
use Rattle.core_index.proofs.key_slot.KeySlot.settle.Goals as goal

pub returns-clause-dead : goal.returns-clause-dead
returns-clause-dead c =
    let old = c.args.self.now.known in
    let new = c.change.new.self.known in
    let dead : c.dead_by-dead.result ≡ dead_by c.args.version c.args.home (last_of old) (alive_at old) (alive_at new) =
    c.dead_by-dead.ensures ∙ (λ i. dead_by c.args.version c.args.home (c.last-last.ensures i) (c.alive-before.ensures i) (c.alive.ensures i)) in
    subst (λ (d : Option Standee). OnlyDead old new d) (sym dead) c.change.ensures.dead

pub returns-clause-mortal : goal.returns-clause-mortal
returns-clause-mortal c =
    let before = c.lone_deaths-lone.ensures in
    let after = c.lone_deaths.ensures in
    let count = c.count_dead.ensures in
    let one = one_lone c.change.new.self.known in
    let dead = one_dead c.dead_by-dead.result in
    let some = c.requires.room in
    let less : c.change.new.self.room ≡ c.args.self.now.room - 1 = ap (λ (p : Place). p.room) c.change.ensures.settled in
    omega (arith, before, after, count, one, dead, some, less)
