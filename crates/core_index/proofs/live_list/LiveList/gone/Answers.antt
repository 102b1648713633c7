use Rattle.std.proofs.Common.{option_map, sym, ap, subst, arith}
use Rattle.core_index.specs.Lives.{Lives, placed_lives}
use Rattle.core_index.specs.Index.{all_untold, place_at, gone_place, TurnsAt}
use Rattle.core_index.specs.declared.types.LiveFate.TheVariants.{Gone}
use Rattle.core_index.proofs.LiveLaws.{live_gone, live_stays, live_absent, gone_tells, turned_untold}
use Rattle.core_index.proofs.live_list.LiveList.gone.Goals as goal

pub returns-in_default-clause-gone : goal.returns-in_default-clause-gone
returns-in_default-clause-gone c = let a = c.args.self.now in live_absent a.bytes a.items c.args.name.key c.args.name.version c.in_default.ensures.found

pub returns-then-stands-clause-gone : goal.returns-then-stands-clause-gone
returns-then-stands-clause-gone c =
    let a = c.args.self.now in
    let n = c.args.name in
    let stands = c.stands.ensures.found c.if-stands.true in
    subst (λ (b : Lives). TurnsAt (placed_lives a) (placed_lives b) n.key (option_map (gone_place n.version) (place_at (placed_lives a) n.key))) (sym c.set.ensures) (live_gone a.bytes a.items n.key n.version c.in-Some.live c.in-Some.ensures.found stands.0 stands.1)

pub returns-else-stands-clause-gone : goal.returns-else-stands-clause-gone
returns-else-stands-clause-gone c =
    let a = c.args.self.now in
    let n = c.args.name in
    live_stays a.bytes a.items n.key n.version c.in-Some.live c.in-Some.ensures.found (c.stands.ensures.none a.bytes c.if-stands.false)

pub returns-then-stands-clause-untold : goal.returns-then-stands-clause-untold
returns-then-stands-clause-untold c =
    let a = c.args.self.now in
    let now = ap (λ (b : Lives). all_untold (placed_lives b)) c.set.ensures in
    let fewer = turned_untold a.bytes a.items c.args.name.key Gone gone_tells in
    omega (arith, now, fewer)
