use Rattle.std.proofs.Common.{List, sym, subst}
use Rattle.std.specs.Prelude.{Ok, Err}
use Rattle.pm_region.specs.Words.{lasts}
use Rattle.recover.specs.declared.found_entries.Found.{Found}
use Rattle.recover.specs.FoundEntries.{entries_at, AreFound}
use Rattle.recover.specs.Gathering.{AreAgreed}
use Rattle.recover.specs.Dividing.{Divides}
use Rattle.recover.proofs.CauseLaws.{handed_on}
use Rattle.recover.proofs.LogNameLaws.{names_of_image}
use Rattle.recover.proofs.ShareLaws.{judged_shares}
use Rattle.recover.proofs.recover_region.judged_entries.Goals as goal

pub returns-in_err-shares-clause-told : goal.returns-in_err-shares-clause-told
returns-in_err-shares-clause-told g c = λ telling.
    let l = c.args.layout.now in
    let image = lasts (g.R.Region.state c.args.region.now) in
    let e = c.in_err-shares.field-0.0 in
    let agreed = c.in_ok-sorted.ensures.told telling in
    handed_on (Divides l image) c.from_residual-in_err-shares.result e c.from_residual-in_err-shares.ensures.1
    (judged_shares l image (entries_at l image c.deref.result.now)
    (subst (λ (xs : List Found). AreAgreed l image (entries_at l image xs)) (sym c.deref.ensures.value) agreed.0) agreed.1
    (Err e) (c.in_err-shares.ensures.told telling (subst (AreFound l image) (sym c.deref.ensures.value) agreed.2)))

pub returns-clause-told : goal.returns-clause-told
returns-clause-told g c = λ telling.
    let l = c.args.layout.now in
    let image = lasts (g.R.Region.state c.args.region.now) in
    let agreed = c.in_ok-sorted.ensures.told telling in
    let told = judged_shares l image (entries_at l image c.deref.result.now)
    (subst (λ (xs : List Found). AreAgreed l image (entries_at l image xs)) (sym c.deref.ensures.value) agreed.0) agreed.1
    (Ok c.in_ok-shares.shares) (c.in_ok-shares.ensures.told telling (subst (AreFound l image) (sym c.deref.ensures.value) agreed.2)) in
    (told.0, told.1, told.2, names_of_image l image c.in_ok-sorted.sorted.items agreed.0.all c.in_ok-names.names.items c.in_ok-names.ensures.names)
