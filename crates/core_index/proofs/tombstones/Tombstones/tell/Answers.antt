use Rattle.std.proofs.Common.{Option, Some, None, sym, subst}
use Rattle.core_index.specs.declared.types.Fate.TheVariants.{Told}
use Rattle.core_index.specs.Tombs.{Tombs, tomb_places, Ahead}
use Rattle.core_index.specs.Records.{KeyRecord, Awaits}
use Rattle.core_index.specs.Index.{ToldAt}
use Rattle.core_index.proofs.TombLaws.{known_found, none_waits, told_tomb, fated_ahead}
use Rattle.core_index.proofs.tombstones.Tombstones.tell.Goals as goal

pub returns-in_default-clause-none : goal.returns-in_default-clause-none
returns-in_default-clause-none c = λ is waits.
    none_waits c.args.home c.args.name.version (subst (λ (o : Option KeyRecord). Awaits o c.args.home c.args.name.version) (known_found c.args.self.now.items c.args.name.key None c.in_default.ensures.found) waits)

pub returns-then-not-awaits-clause-none : goal.returns-then-not-awaits-clause-none
returns-then-not-awaits-clause-none c = λ is waits.
    let now = subst (λ (o : Option KeyRecord). Awaits o c.args.home c.args.name.version) (known_found c.args.self.now.items c.args.name.key (Some c.in-Some.tombstone) c.in-Some.ensures.found) waits in
    let yes = c.awaits.ensures.1 now in cc (yes, c.if-not-awaits.true)

pub returns-clause-told : goal.returns-clause-told
returns-clause-told c = λ is.
    let a = c.args.self.now in
    let n = c.args.name in
    subst (λ (b : Tombs). ToldAt (tomb_places a.items) (tomb_places b.items) c.args.home n) (sym c.set.ensures) (told_tomb a c.args.home n c.in-Some.tombstone c.in-Some.ensures.found (c.awaits.ensures.0 c.if-not-awaits.false))

pub returns-clause-ahead : goal.returns-clause-ahead
returns-clause-ahead c = λ h n ahead. subst (λ (b : Tombs). Ahead b h n) (sym c.set.ensures) (fated_ahead c.args.self.now c.args.name.key Told h n ahead)
