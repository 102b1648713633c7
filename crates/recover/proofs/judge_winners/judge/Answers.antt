use Rattle.std.proofs.Common.{[], Option, refl, sym, subst}
use Rattle.pm_region.specs.Words.{lasts}
use Rattle.store_image.specs.declared.types.Fault.{Fault}
use Rattle.store_image.specs.Parts.{all_entries}
use Rattle.recover.specs.Causes.{AnswersFault}
use Rattle.recover.specs.Judging.{winners_fault}
use Rattle.recover.specs.Winning.{winners_of}
use Rattle.recover.specs.FoundEntries.{entries_at}
use Rattle.recover.proofs.JudgeLaws.{by_winners}
use Rattle.recover.proofs.NameLaws.{winners_same}
use Rattle.recover.proofs.judge_winners.judge.Goals as goal

pub returns : goal.returns
returns g c = λ telling agreed stand.
    let l = c.args.layout.now in
    let image = lasts (g.R.Region.state c.args.region.now) in
    let xs = entries_at l image c.args.sorted.now in
    let first = winners_fault l image [] (winners_of xs) in
    subst (λ (f : Option Fault). AnswersFault f c.judge_winners.result)
    (sym (by_winners l image (all_entries l image) refl agreed.chunks first (winners_of xs) (sym agreed.clash) (winners_same (all_entries l image) xs agreed.all) refl))
    (c.judge_winners.ensures telling stand)
