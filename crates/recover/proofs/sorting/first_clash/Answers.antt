use Rattle.std.proofs.Common.{ℕ, ◌+◌, ◌-◌, ◌<◌, length, sym, ◌∙◌, ap, subst, arith, Some}
use Rattle.pm_region.specs.Words.{lasts}
use Rattle.recover.specs.FoundEntries.{Stands}
use Rattle.recover.proofs.ListLaws.{all_at}
use Rattle.recover.proofs.FoundEntryLaws.{no_found}
use Rattle.recover.proofs.FirstClashLaws.{SoFar, none_here, clash_here, all_read}
use Rattle.recover.proofs.sorting.first_clash.Goals.{then-branch, else-branch}
use Rattle.recover.proofs.sorting.first_clash.Goals as goal

pub loop-i-preserved : goal.loop-i-preserved
loop-i-preserved g c = λ telling all.
    let image = lasts (g.R.Region.state c.args.region.now) in
    let l = c.args.layout.now in
    let fs = c.args.sorted.now in
    let i = c.loop-i.i in
    let low = c.loop-i.auto.i in
    let high = c.loop-i-test.true in
    let stands = λ (k : ℕ) (lt : k < length fs). all_at (Stands l image) fs k no_found all lt in
    let is = c.in_ok-is_contradiction.ensures telling (stands i high) (stands (i - 1) (omega (arith, high))) in
    let so_far = c.loop-i.invariant telling all in
    elim c.if-branch.branch [
      | then-branch w ↦ subst (SoFar l image fs (i + 1)) (sym (w.first-is ∙ ap Some w.lower.ensures)) (clash_here l image fs c.loop-i.first i low high so_far (sym is ∙ w.if-branch.true))
      | else-branch w ↦ subst (SoFar l image fs (i + 1)) (sym w.first-is) (none_here l image fs c.loop-i.first i low high so_far (sym is ∙ w.if-branch.false))
    ]

pub returns : goal.returns
returns g c = λ telling all.
    let image = lasts (g.R.Region.state c.args.region.now) in
    all_read c.args.layout.now image c.args.sorted.now c.requires.order c.requires.words c.loop-i.i c.loop-i.first c.loop-i-test.false (c.loop-i.invariant telling all)
