use Rattle.std.proofs.Common.{None, sym, ap, subst, arith}
use Rattle.core_index.specs.Tombs.{Tombs, tomb_places}
use Rattle.core_index.specs.declared.types.Fate.TheVariants.{Moved}
use Rattle.core_index.specs.Index.{Turns, all_untold}
use Rattle.core_index.proofs.TombLaws.{cleared, moved_tells, fated_untold}
use Rattle.core_index.proofs.tombstones.Tombstones.clear.Goals as goal

pub returns-clause-turns : goal.returns-clause-turns
returns-clause-turns c = subst (λ (b : Tombs). Turns c.args.self.now b c.args.key None) (sym c.set.ensures) (cleared c.args.self.now c.args.key)

pub returns-clause-untold : goal.returns-clause-untold
returns-clause-untold c =
    let now = ap (λ (b : Tombs). all_untold (tomb_places b.items)) c.set.ensures in
    let fewer = fated_untold c.args.self.now.items c.args.key Moved moved_tells in
    omega (arith, now, fewer)
