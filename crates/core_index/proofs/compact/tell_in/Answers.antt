use Rattle.std.proofs.Common.{ℕ, List, Option, sym, subst}
use Rattle.core_index.specs.Records.{KeyRecord, Awaits}
use Rattle.core_index.specs.Index.{place_at, all_places, ToldAt}
use Rattle.core_index.specs.Slots.{Place}
use Rattle.core_index.proofs.OverLaws.{some_of}
use Rattle.core_index.proofs.PlaceLaws.{known_there, known_else, told_there, told_else}
use Rattle.core_index.proofs.compact.tell_in.Goals as goal

pub returns-in-Some-clause-told : goal.returns-in-Some-clause-told
returns-in-Some-clause-told c = λ is. told_there c.args.slots.now.entries c.tell_at.new.slots.entries c.args.start.now c.args.home c.args.name (c.in-Some.ensures.told is)

pub returns-in-Some-clause-none : goal.returns-in-Some-clause-none
returns-in-Some-clause-none c = λ is waits.
    let es = c.args.slots.now.entries in
    let k = c.args.name.key in
    let there = some_of (place_at es k) c.in-Some.ensures.there in
    c.in-Some.ensures.none is (subst (λ (o : Option KeyRecord). Awaits o c.args.home c.args.name.version) (known_there es c.args.start.now k there.0 there.1) waits)

pub returns-in-None-clause-told : goal.returns-in-None-clause-told
returns-in-None-clause-told c = λ is.
    let es = c.args.slots.now.entries in
    let k = c.args.name.key in
    let none = c.in-None.ensures.missing in
    subst (λ (fs : List (ℕ × Place)). ToldAt (all_places es c.args.start.now) (all_places fs c.tell.new.self) c.args.home c.args.name) (sym c.in-None.ensures.missed) (told_else es c.args.start.now c.tell.new.self c.args.home c.args.name none (c.tell.ensures.told is))

pub returns-in-None-clause-none : goal.returns-in-None-clause-none
returns-in-None-clause-none c = λ is waits.
    let es = c.args.slots.now.entries in
    let k = c.args.name.key in
    let none = c.in-None.ensures.missing in
    c.tell.ensures.none is (subst (λ (o : Option KeyRecord). Awaits o c.args.home c.args.name.version) (known_else es c.args.start.now k none) waits)
