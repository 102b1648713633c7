use Rattle.std.proofs.Common.{sym, subst}
use Rattle.pm_region.specs.Words.{lasts}
use Rattle.recover.specs.FoundEntries.{AreFound, entries_at}
use Rattle.recover.specs.Gathering.{AreAgreed, Judges}
use Rattle.recover.proofs.CauseLaws.{handed_on}
use Rattle.recover.proofs.judge_winners.sound_entries.Goals as goal

pub returns-in_err-judge-clause-told : goal.returns-in_err-judge-clause-told
returns-in_err-judge-clause-told g c = λ telling.
    let image = lasts (g.R.Region.state c.args.region.now) in
    let l = c.args.layout.now in
    let agreed = c.in_ok-found.ensures.told telling in
    let fits = subst (λ fs. AreAgreed l image (entries_at l image fs)) (sym c.deref.ensures.value) agreed.0 in
    let stand = subst (AreFound l image) (sym c.deref.ensures.value) agreed.2 in
    handed_on (Judges l image) c.from_residual-in_err-judge.result c.in_err-judge.field-0.0 c.from_residual-in_err-judge.ensures.1 (c.in_err-judge.ensures telling fits stand)

pub returns-clause-told : goal.returns-clause-told
returns-clause-told g c = λ telling.
    let image = lasts (g.R.Region.state c.args.region.now) in
    let l = c.args.layout.now in
    let agreed = c.in_ok-found.ensures.told telling in
    let fits = subst (λ fs. AreAgreed l image (entries_at l image fs)) (sym c.deref.ensures.value) agreed.0 in
    let stand = subst (AreFound l image) (sym c.deref.ensures.value) agreed.2 in
    (c.in_ok-judge.ensures telling fits stand, agreed)
