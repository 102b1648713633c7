use Rattle.std.proofs.Common.{ℕ, ◌≤◌, List, Option, None, sym, subst, arith}
use Rattle.core_index.specs.Records.{KeyRecord}
use Rattle.core_index.specs.Index.{place_at, known_at, all_places, all_untold, Changes, SameRoom, DeadOrAhead}
use Rattle.core_index.specs.Slots.{Place}
use Rattle.core_index.specs.Starts.{started}
use Rattle.core_index.proofs.OverLaws.{some_of}
use Rattle.core_index.proofs.PlaceLaws.{known_else, gone_there, gone_room, only_there, only_else, changes_else, room_else, gone_untold, untold_less}
use Rattle.core_index.proofs.compact.gone_in.Goals as goal
use Rattle.std.proofs.Common.{option_map}
use Rattle.core_index.specs.Records.{without}

pub returns-in-Some-clause-gone : goal.returns-in-Some-clause-gone
returns-in-Some-clause-gone c =
    let es = c.args.slots.now.entries in
    let k = c.args.name.key in
    let there = some_of (place_at es k) c.in-Some.ensures.there in
    gone_there es c.gone_at.new.slots.entries c.args.start.now k c.args.name.version there.0 there.1 c.in-Some.ensures.step

pub returns-in-Some-clause-room : goal.returns-in-Some-clause-room
returns-in-Some-clause-room c = gone_room c.args.slots.now.entries c.gone_at.new.slots.entries c.args.start.now c.args.name.key c.args.name.version c.in-Some.ensures.step

pub returns-in-Some-clause-dead : goal.returns-in-Some-clause-dead
returns-in-Some-clause-dead c =
    let es = c.args.slots.now.entries in
    let k = c.args.name.key in
    let there = some_of (place_at es k) c.in-Some.ensures.there in
    only_there es c.gone_at.new.slots.entries c.args.start.now k c.args.name.version there.0 c.in-Some.gone.dead there.1 c.in-Some.ensures.step c.in-Some.ensures.dead

pub returns-in-None-clause-gone : goal.returns-in-None-clause-gone
returns-in-None-clause-gone c =
    let es = c.args.slots.now.entries in
    let a = c.args.start.now in
    let k = c.args.name.key in
    let none = c.in-None.ensures.missing in
    let same : Changes (all_places es a) (all_places es c.gone.new.self) k (option_map (without c.args.name.version) (known_at (all_places es a) k)) = subst (λ (o : Option KeyRecord). Changes (all_places es a) (all_places es c.gone.new.self) k (option_map (without c.args.name.version) o)) (sym (known_else es a k none)) (changes_else es a c.gone.new.self k (option_map (without c.args.name.version) (known_at (started a) k)) none c.gone.ensures.gone) in
    subst (λ (fs : List (ℕ × Place)). Changes (all_places es a) (all_places fs c.gone.new.self) k (option_map (without c.args.name.version) (known_at (all_places es a) k))) (sym c.in-None.ensures.missed) same

pub returns-in-None-clause-room : goal.returns-in-None-clause-room
returns-in-None-clause-room c =
    let es = c.args.slots.now.entries in
    let a = c.args.start.now in
    subst (λ (fs : List (ℕ × Place)). SameRoom (all_places es a) (all_places fs c.gone.new.self)) (sym c.in-None.ensures.missed) (room_else es a c.gone.new.self)

pub returns-in-None-clause-dead : goal.returns-in-None-clause-dead
returns-in-None-clause-dead c =
    let es = c.args.slots.now.entries in
    let k = c.args.name.key in
    let none = c.in-None.ensures.missing in
    let a = c.args.start.now in
    subst (λ (fs : List (ℕ × Place)). DeadOrAhead c.gone.new.self k (known_at (all_places es a) k) (known_at (all_places fs c.gone.new.self) k) None) (sym c.in-None.ensures.missed) (only_else es a c.gone.new.self k None none c.gone.ensures.waits)

pub returns-in-Some-clause-untold : goal.returns-in-Some-clause-untold
returns-in-Some-clause-untold c = gone_untold c.args.slots.now.entries c.gone_at.new.slots.entries c.args.start.now c.args.name.key c.args.name.version c.in-Some.ensures.step

pub returns-in-None-clause-untold : goal.returns-in-None-clause-untold
returns-in-None-clause-untold c =
    let es = c.args.slots.now.entries in
    let a = c.args.start.now in
    subst (λ (fs : List (ℕ × Place)). all_untold (all_places fs c.gone.new.self) ≤ all_untold (all_places es a)) (sym c.in-None.ensures.missed) (untold_less es es a c.gone.new.self (omega arith) c.gone.ensures.untold)
