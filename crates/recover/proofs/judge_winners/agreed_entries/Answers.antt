use Rattle.std.proofs.Common.{sym, subst, ap, ◌∙◌}
use Rattle.pm_region.specs.Words.{lasts}
use Rattle.store_image.specs.Facts.{Agree}
use Rattle.store_image.specs.Soundness.{damage}
use Rattle.recover.specs.declared.types.RecoverError.TheVariants as errors
use Rattle.recover.specs.Causes.{HasCause}
use Rattle.recover.specs.FirstClash.{IsFirst, IsFirstClash}
use Rattle.recover.specs.FoundEntries.{AreFound, AreInOrder, entries_at}
use Rattle.recover.specs.Gathering.{Agrees}
use Rattle.recover.proofs.CauseLaws.{handed_on}
use Rattle.recover.proofs.JudgeLaws.{by_chunks, first_clash, sorted_agree, stand_sorted}
use Rattle.recover.proofs.WordOrderLaws.{words_rise}
use Rattle.recover.proofs.judge_winners.agreed_entries.Goals as goal

pub first_clash-requires-clause-order : goal.first_clash-requires-clause-order
first_clash-requires-clause-order g c = subst AreInOrder (sym c.deref.ensures.value) c.by_name-sorted.ensures.order

pub returns-in_err-found-clause-told : goal.returns-in_err-found-clause-told
returns-in_err-found-clause-told g c = λ telling.
    let image = lasts (g.R.Region.state c.args.region.now) in
    let l = c.args.layout.now in
    let e = c.in_err-found.field-0.0 in
    handed_on (Agrees l image) c.from_residual.result e c.from_residual.ensures.1 (by_chunks l image e (c.in_err-found.ensures telling))

pub returns-in-Some-clause-told : goal.returns-in-Some-clause-told
returns-in-Some-clause-told g c = λ telling.
    let s = g.R.Region.state c.args.region.now in
    let image = lasts s in
    let l = c.args.layout.now in
    let all = c.in_ok-found.ensures telling in
    let fs = c.in_ok-found.found.items in
    let xs = c.by_name-sorted.result.items in
    let sorted = c.by_name-sorted.ensures.names (words_rise l c.requires.covers.layout image all.2 fs all.1) in
    let stand = subst (AreFound l image) (sym c.deref.ensures.value) (stand_sorted s.frame l c.requires.covers image fs xs all.1 all.0 all.2 sorted) in
    let first = subst (IsFirst l image c.deref.result.now) c.in-Some.is (c.in_ok-at.ensures telling stand) in
    let clash = subst (λ ys. IsFirstClash l image ys c.in-Some.at) c.deref.ensures.value first in
    subst (HasCause (damage l image)) (sym (c.into.ensures ∙ ap errors.Fault c.clash_fault.ensures)) (first_clash s.frame l c.requires.covers image fs xs all.1 all.0 all.2 sorted c.in-Some.at clash)

pub returns-in-None-clause-told : goal.returns-in-None-clause-told
returns-in-None-clause-told g c = λ telling.
    let s = g.R.Region.state c.args.region.now in
    let image = lasts s in
    let l = c.args.layout.now in
    let all = c.in_ok-found.ensures telling in
    let fs = c.in_ok-found.found.items in
    let xs = c.by_name-sorted.result.items in
    let sorted = c.by_name-sorted.ensures.names (words_rise l c.requires.covers.layout image all.2 fs all.1) in
    let stand = subst (AreFound l image) (sym c.deref.ensures.value) (stand_sorted s.frame l c.requires.covers image fs xs all.1 all.0 all.2 sorted) in
    let first = subst (IsFirst l image c.deref.result.now) c.in-None.is (c.in_ok-at.ensures telling stand) in
    let both = subst (λ ys. Agree (entries_at l image ys)) c.deref.ensures.value first in
    sorted_agree s.frame l c.requires.covers image fs xs all.1 all.0 all.2 sorted both
