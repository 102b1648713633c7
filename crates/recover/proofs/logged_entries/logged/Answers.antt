use Rattle.std.proofs.Common.{sym, ◌∙◌, ap, subst}
use Rattle.pm_region.specs.Words.{lasts}
use Rattle.recover.specs.FoundEntries.{AreFound, entries_at}
use Rattle.recover.specs.Logged.{Logs}
use Rattle.recover.proofs.CauseLaws.{handed_on}
use Rattle.recover.proofs.JudgeLaws.{by_chunks}
use Rattle.recover.proofs.ReadBackLaws.{found_back, found_stand}
use Rattle.recover.proofs.EntryListLaws.{logs_read}
use Rattle.recover.proofs.logged_entries.logged.Goals as goal

pub returns-in_err-found : goal.returns-in_err-found
returns-in_err-found g c = λ telling.
    let image = lasts (g.R.Region.state c.args.region.now) in
    let l = c.args.layout.now in
    let e = c.in_err-found.field-0.0 in
    handed_on (Logs l image) c.from_residual-in_err-found.result e c.from_residual-in_err-found.ensures.1 (by_chunks l image e (c.in_err-found.ensures telling))

pub returns : goal.returns
returns g c = λ telling.
    let s = g.R.Region.state c.args.region.now in
    let image = lasts s in
    let l = c.args.layout.now in
    let all = c.in_ok-found.ensures telling in
    let fs = c.in_ok-found.found.items in
    let stand = subst (AreFound l image) (sym c.deref.ensures.value) (found_stand s.frame l c.requires.covers image all.2 fs all.1) in
    let back = ap (entries_at l image) c.deref.ensures.value ∙ found_back s.frame l c.requires.covers image all.2 fs all.1 in
    logs_read l image (c.in_ok-sound_entries.ensures.told telling).0 c.deref.result.now back c.read_entries.result (c.read_entries.ensures.told telling stand)
