use Rattle.std.proofs.Common.{Some, None, option_map, sym, ◌∙◌, ap, subst, arith}
use Rattle.core_index.specs.Tombs.{Tombs, tomb_places}
use Rattle.core_index.specs.Records.{Awaits, without}
use Rattle.core_index.specs.Index.{Turns, all_untold, known_at}
use Rattle.core_index.specs.declared.types.Fate.TheVariants.{Gone}
use Rattle.core_index.proofs.TombLaws.{known_found, same_turns, gone_turns, gone_waits, gone_tells, fated_untold}
use Rattle.core_index.proofs.tombstones.Tombstones.gone.Goals as goal

pub returns-in_default-clause-gone : goal.returns-in_default-clause-gone
returns-in_default-clause-gone c =
    let a = c.args.self.now in
    let none = known_found a.items c.args.name.key None c.in_default.ensures.found in
    same_turns a c.args.name.key (option_map (without c.args.name.version) (known_at (tomb_places a.items) c.args.name.key)) (none ∙ ap (option_map (without c.args.name.version)) (sym none))

pub returns-then-is_dead-clause-gone : goal.returns-then-is_dead-clause-gone
returns-then-is_dead-clause-gone c =
    let a = c.args.self.now in
    let n = c.args.name in
    let stands = c.is_dead.ensures.found c.if-is_dead.true in
    subst (λ (b : Tombs). Turns a b n.key (option_map (without n.version) (known_at (tomb_places a.items) n.key))) (sym c.set.ensures) (gone_turns a n.key n.version c.in-Some.tombstone c.in-Some.ensures.found stands.0 stands.1)

pub returns-then-is_dead-clause-none : goal.returns-then-is_dead-clause-none
returns-then-is_dead-clause-none c = λ home v waits.
    let a = c.args.self.now in
    let n = c.args.name in
    absurd (gone_waits a n.key c.in-Some.tombstone c.in-Some.ensures.found home v (subst (λ (b : Tombs). Awaits (known_at (tomb_places b.items) n.key) home v) c.set.ensures waits))

pub returns-else-is_dead-clause-gone : goal.returns-else-is_dead-clause-gone
returns-else-is_dead-clause-gone c =
    let a = c.args.self.now in
    let n = c.args.name in
    let is = known_found a.items n.key (Some c.in-Some.tombstone) c.in-Some.ensures.found in
    same_turns a n.key (option_map (without n.version) (known_at (tomb_places a.items) n.key)) (is ∙ sym (c.is_dead.ensures.none c.if-is_dead.false) ∙ ap (option_map (without n.version)) (sym is))

pub returns-then-is_dead-clause-untold : goal.returns-then-is_dead-clause-untold
returns-then-is_dead-clause-untold c =
    let now = ap (λ (b : Tombs). all_untold (tomb_places b.items)) c.set.ensures in
    let fewer = fated_untold c.args.self.now.items c.args.name.key Gone gone_tells in
    omega (arith, now, fewer)
