use Rattle.std.proofs.Common.{Option, None, subst}
use Rattle.core_index.specs.Records.{KeyRecord, Awaits}
use Rattle.core_index.specs.Tombs.{tomb_places}
use Rattle.core_index.specs.Lives.{entry_version, entry_home, placed_lives}
use Rattle.core_index.proofs.OverLaws.{told_second}
use Rattle.core_index.proofs.LoneLaws.{known_live, known_deleted, live_found, value_waits}
use Rattle.core_index.proofs.lone_keys.LoneKeys.tell.Goals as goal

pub returns-in-None-clause-told : goal.returns-in-None-clause-told
returns-in-None-clause-told c = λ is.
    let a = c.args.self.now in
    told_second (placed_lives a.live) (tomb_places a.deleted.items) (tomb_places c.tell.new.self.items) c.args.home c.args.name (live_found a c.args.name.key None c.in-None.ensures.found) (c.tell.ensures.told is)

pub returns-in-None-clause-none : goal.returns-in-None-clause-none
returns-in-None-clause-none c = λ is waits.
    c.tell.ensures.none is (subst (λ (o : Option KeyRecord). Awaits o c.args.home c.args.name.version) (known_deleted c.args.self.now c.args.name.key c.in-None.ensures.found) waits)

pub returns-in-Some-clause-none : goal.returns-in-Some-clause-none
returns-in-Some-clause-none c = λ is waits.
    let a = c.args.self.now in
    let x = c.in-Some.field-0 in
    value_waits a.live.bytes x.held x.fate (entry_version x) (entry_home x) c.args.home c.args.name.version (subst (λ (o : Option KeyRecord). Awaits o c.args.home c.args.name.version) (known_live a c.args.name.key x c.in-Some.ensures.found) waits)
