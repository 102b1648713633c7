use Rattle.std.proofs.Common.{sym, subst}
use Rattle.pm_region.specs.Words.{lasts}
use Rattle.recover.specs.FoundEntries.{AreFound, entries_at}
use Rattle.recover.specs.Gathering.{AreAgreed}
use Rattle.recover.proofs.LiveLaws.{left_lists}
use Rattle.recover.proofs.live.judged_pairs.Goals as goal

pub returns : goal.returns
returns g c = λ telling.
    let image = lasts (g.R.Region.state c.args.region.now) in
    let l = c.args.layout.now in
    let agreed = c.in_ok-found.ensures.told telling in
    let fits = subst (λ fs. AreAgreed l image (entries_at l image fs)) (sym c.deref.ensures.value) agreed.0 in
    let found = subst (AreFound l image) (sym c.deref.ensures.value) agreed.2 in
    left_lists l image (entries_at l image c.deref.result.now) fits c.pairs_left.result (c.pairs_left.ensures telling found)
