use Rattle.std.proofs.Common.{◌≤◌, List, sym, subst, arith}
use Rattle.std.specs.List.{AllByRecursion}
use Rattle.core_index.specs.declared.types.StandingEntry.{StandingEntry}
use Rattle.core_index.proofs.MarkLaws.{below_entries, pair_below}
use Rattle.core_index.proofs.entries.Entries.of.Goals as goal

pub returns-in-Some-clause-top : goal.returns-in-Some-clause-top
returns-in-Some-clause-top c =
    let p = c.in-Some.pair in
    let all = subst (λ (xs : List StandingEntry). AllByRecursion (λ (s : StandingEntry). s.version ≤ c.args.top) xs) (sym c.in-Some.ensures.items) (below_entries c.args.top c.args.standees.now c.requires) in
    let le = pair_below p.first p.second c.args.top all in
    let same = c.few.ensures.top_is in
    omega (arith, le, same)
