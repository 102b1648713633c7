use Rattle.std.proofs.Common.{[], take, get_or, ◌∙◌, ap, arith}
use Rattle.std.proofs.lemmas.List.{take_all}
use Rattle.pm_region.specs.Words.{lasts}
use Rattle.recover.specs.Winning.{winners_of}
use Rattle.recover.specs.Live.{pairs_by, HasLeft}
use Rattle.recover.proofs.CauseLaws.{handed_on, memory_cause}
use Rattle.recover.specs.Judging.{winners_fault}
use Rattle.recover.proofs.FaultLaws.{none_more, fault_found, none_at_all}
use Rattle.recover.specs.FoundEntries.{Stands, placed_at, entries_at}
use Rattle.recover.proofs.ListLaws.{all_at}
use Rattle.recover.proofs.FoundEntryLaws.{no_found}
use Rattle.recover.proofs.RunLaws.{run_begins, run_wins}
use Rattle.recover.proofs.LiveLaws.{left_more}
use Rattle.recover.proofs.live.pairs_left.Goals as goal

pub loop-at-preserved : goal.loop-at-preserved
loop-at-preserved g c =
    let image = lasts (g.R.Region.state c.args.region.now) in
    let l = c.args.layout.now in
    let fs = c.args.sorted.now in
    let at = c.loop-at.at in
    let run = c.key_run-run.result in
    let is = c.key_run-run.ensures in
    let inv = c.loop-at.invariant in
    let high = is.high in
    let end = is.end in
    record {
      within = end;
      begins = run_begins l image fs c.requires.order at inv.begins run is;
      so_far = λ telling all.
          let stands = all_at (Stands l image) fs run.winner no_found all (omega (arith, high, end)) in
          left_more l image c.loop-at.pairs.items c.push_left.new.pairs.items (winners_of (entries_at l image (take at fs))) (winners_of (entries_at l image (take run.end fs)))
          (placed_at l image (get_or fs run.winner no_found)) (inv.so_far telling all) (c.in_ok-push_left.ensures.appends telling stands) (run_wins l image fs c.requires.order at inv.begins run is no_found);
      judged = λ telling all.
          let judged = inv.judged telling all in
          let stands = all_at (Stands l image) fs run.winner no_found all (omega (arith, high, end)) in
          let ws = winners_of (entries_at l image (take at fs)) in
          none_more l image fs c.requires.order at inv.begins run is no_found c.loop-at.taken c.judge_winner.new.taken judged
          (c.in_ok-judge_winner.ensures.fault ws judged.pointers telling stands) (c.in_ok-judge_winner.ensures.taken ws judged.pointers telling stands);
    }

pub returns-in_err-judge_winner : goal.returns-in_err-judge_winner
returns-in_err-judge_winner g c = λ telling all.
    let image = lasts (g.R.Region.state c.args.region.now) in
    let l = c.args.layout.now in
    let fs = c.args.sorted.now in
    let at = c.loop-at.at in
    let run = c.key_run-run.result in
    let is = c.key_run-run.ensures in
    let inv = c.loop-at.invariant in
    let high = is.high in
    let end = is.end in
    let judged = inv.judged telling all in
    let stands = all_at (Stands l image) fs run.winner no_found all (omega (arith, high, end)) in
    let e = c.in_err-judge_winner.field-0.0 in
    handed_on (HasLeft l image (entries_at l image fs)) c.from_residual-in_err-judge_winner.result e c.from_residual-in_err-judge_winner.ensures.1
    (fault_found l image fs c.requires.order at inv.begins run is no_found c.loop-at.taken judged e
    (c.in_err-judge_winner.ensures.fault (winners_of (entries_at l image (take at fs))) judged.pointers telling stands))

pub returns-in_err-push_left : goal.returns-in_err-push_left
returns-in_err-push_left g c = λ telling all.
    let image = lasts (g.R.Region.state c.args.region.now) in
    let l = c.args.layout.now in
    let fs = c.args.sorted.now in
    let run = c.key_run-run.result in
    let high = c.key_run-run.ensures.high in
    let end = c.key_run-run.ensures.end in
    let stands = all_at (Stands l image) fs run.winner no_found all (omega (arith, high, end)) in
    let e = c.in_err-push_left.field-0.0 in
    handed_on (HasLeft l image (entries_at l image fs)) c.from_residual-in_err-push_left.result e c.from_residual-in_err-push_left.ensures.1
    (memory_cause (winners_fault l image [] (winners_of (entries_at l image fs))) e (c.in_err-push_left.ensures.stands telling stands))

pub returns : goal.returns
returns g c = λ telling all.
    let image = lasts (g.R.Region.state c.args.region.now) in
    let l = c.args.layout.now in
    let fs = c.args.sorted.now in (
      none_at_all l image fs c.loop-at.at c.loop-at.taken c.loop-at-test.false (c.loop-at.invariant.judged telling all),
      c.loop-at.invariant.so_far telling all ∙ ap (λ xs. pairs_by l image (winners_of (entries_at l image xs))) (take_all c.loop-at.at fs c.loop-at-test.false),
    )
