use Rattle.std.proofs.Common.{[], take, arith}
use Rattle.pm_region.specs.Words.{lasts}
use Rattle.recover.specs.Causes.{AnswersFault}
use Rattle.recover.specs.Judging.{winners_fault}
use Rattle.recover.specs.Winning.{winners_of}
use Rattle.recover.specs.FoundEntries.{Stands, entries_at}
use Rattle.recover.proofs.ListLaws.{all_at}
use Rattle.recover.proofs.CauseLaws.{handed_on}
use Rattle.recover.proofs.FoundEntryLaws.{no_found}
use Rattle.recover.proofs.RunLaws.{run_begins}
use Rattle.recover.proofs.FaultLaws.{none_more, fault_found, none_at_all}
use Rattle.recover.proofs.judge_winners.judge_winners.Goals as goal

pub loop-at-preserved : goal.loop-at-preserved
loop-at-preserved g c =
    let image = lasts (g.R.Region.state c.args.region.now) in
    let l = c.args.layout.now in
    let fs = c.args.sorted.now in
    let at = c.loop-at.at in
    let run = c.key_run-run.result in
    let is = c.key_run-run.ensures in
    let inv = c.loop-at.invariant in
    let high = is.high in
    let end = is.end in
    record {
      within = end;
      begins = run_begins l image fs c.requires.order at inv.begins run is;
      so_far = λ telling all.
          let so_far = inv.so_far telling all in
          let stands = all_at (Stands l image) fs run.winner no_found all (omega (arith, high, end)) in
          let ws = winners_of (entries_at l image (take at fs)) in
          none_more l image fs c.requires.order at inv.begins run is no_found c.loop-at.taken c.judge_winner.new.taken so_far
          (c.in_ok-judge_winner.ensures.fault ws so_far.pointers telling stands) (c.in_ok-judge_winner.ensures.taken ws so_far.pointers telling stands);
    }

pub returns-in_err-judge_winner : goal.returns-in_err-judge_winner
returns-in_err-judge_winner g c = λ telling all.
    let image = lasts (g.R.Region.state c.args.region.now) in
    let l = c.args.layout.now in
    let fs = c.args.sorted.now in
    let at = c.loop-at.at in
    let run = c.key_run-run.result in
    let is = c.key_run-run.ensures in
    let inv = c.loop-at.invariant in
    let high = is.high in
    let end = is.end in
    let so_far = inv.so_far telling all in
    let stands = all_at (Stands l image) fs run.winner no_found all (omega (arith, high, end)) in
    let e = c.in_err-judge_winner.field-0.0 in
    handed_on (AnswersFault (winners_fault l image [] (winners_of (entries_at l image fs)))) c.from_residual.result e c.from_residual.ensures.1
    (fault_found l image fs c.requires.order at inv.begins run is no_found c.loop-at.taken so_far e
    (c.in_err-judge_winner.ensures.fault (winners_of (entries_at l image (take at fs))) so_far.pointers telling stands))

pub returns : goal.returns
returns g c = λ telling all.
    let image = lasts (g.R.Region.state c.args.region.now) in
    none_at_all c.args.layout.now image c.args.sorted.now c.loop-at.at c.loop-at.taken c.loop-at-test.false (c.loop-at.invariant.so_far telling all)
