use Rattle.std.proofs.Common.{option_map, sym, ap, subst, arith}
use Rattle.core_index.specs.Lives.{Lives, placed_lives}
use Rattle.core_index.specs.Index.{all_untold, place_at, cleared, TurnsAt}
use Rattle.core_index.specs.declared.types.LiveFate.TheVariants.{Moved}
use Rattle.core_index.proofs.LiveLaws.{live_cleared, moved_tells, turned_untold}
use Rattle.core_index.proofs.live_list.LiveList.clear.Goals as goal

pub returns-clause-cleared : goal.returns-clause-cleared
returns-clause-cleared c = let a = c.args.self.now in subst (λ (b : Lives). TurnsAt (placed_lives a) (placed_lives b) c.args.key (option_map cleared (place_at (placed_lives a) c.args.key))) (sym c.set.ensures) (live_cleared a.bytes a.items c.args.key)

pub returns-clause-untold : goal.returns-clause-untold
returns-clause-untold c =
    let a = c.args.self.now in
    let now = ap (λ (b : Lives). all_untold (placed_lives b)) c.set.ensures in
    let fewer = turned_untold a.bytes a.items c.args.key Moved moved_tells in
    omega (arith, now, fewer)
