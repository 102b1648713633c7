use Rattle.std.proofs.Common.{Option, sym, subst}
use Rattle.core_index.specs.declared.types.Fate.TheVariants as fates
use Rattle.core_index.specs.Tombs.{Tombs}
use Rattle.core_index.specs.Starts.{started, IsAhead}
use Rattle.core_index.specs.Index.{ToldAt}
use Rattle.core_index.specs.Records.{KeyRecord, Awaits}
use Rattle.core_index.proofs.StartLaws.{lone_told, known_lone, twin_told, twin_not_waiting, older_ahead}
use Rattle.core_index.proofs.start_keys.StartKeys.tell.Goals as goal

pub returns-in-None-clause-told : goal.returns-in-None-clause-told
returns-in-None-clause-told c = λ is. lone_told c.args.self.now c.tell.new.self c.args.home c.args.name c.in-None.ensures.rising c.in-None.ensures.lone (c.tell.ensures.told is)

pub returns-in-None-clause-none : goal.returns-in-None-clause-none
returns-in-None-clause-none c = λ is waits. c.tell.ensures.none is (subst (λ (o : Option KeyRecord). Awaits o c.args.home c.args.name.version) (known_lone c.args.self.now c.args.name.key c.in-None.ensures.rising c.in-None.ensures.lone) waits)

pub returns-then-not-awaits-clause-none : goal.returns-then-not-awaits-clause-none
returns-then-not-awaits-clause-none c = λ is waits. twin_not_waiting c.args.self.now c.args.home c.args.name c.in-Some.older c.older_of.ensures.rising c.in-Some.ensures.twin (λ own. let yes = c.awaits.ensures.1 own in cc (yes, c.if-not-awaits.true)) waits

pub returns-else-not-awaits-clause-told : goal.returns-else-not-awaits-clause-told
returns-else-not-awaits-clause-told c = λ is.
    let a = c.args.self.now in
    subst (λ (d : Tombs). ToldAt (started a) (started (record { lone = a.lone; older = d; late = a.late })) c.args.home c.args.name) (sym c.set.ensures) (twin_told a c.args.home c.args.name c.in-Some.older c.older_of.ensures.rising c.in-Some.ensures.twin (c.awaits.ensures.0 c.if-not-awaits.false))

pub returns-else-not-awaits-clause-ahead : goal.returns-else-not-awaits-clause-ahead
returns-else-not-awaits-clause-ahead c = λ h n far.
    let a = c.args.self.now in
    subst (λ (d : Tombs). IsAhead (record { lone = a.lone; older = d; late = a.late }) h n) (sym c.set.ensures) (older_ahead a c.args.name.key fates.Told h n far)
