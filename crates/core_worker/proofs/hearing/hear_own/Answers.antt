use Rattle.std.proofs.Common.{refl, sym, ◌∙◌, ap, subst, arith}
use Rattle.core_index.specs.Index.{all_untold}
use Rattle.core_worker.specs.Hearing.{HearsAll}
use Rattle.core_worker.proofs.Heard.{hears_all}
use Rattle.core_worker.proofs.HeardNames.{tells_none, tells_more, tells_all}
use Rattle.core_worker.proofs.hearing.hear_own.Goals as goal

pub loop-name-init : goal.loop-name-init
loop-name-init c = (tells_none c.args.core c.args.index.now c.args.standing.now, refl, omega arith)

pub loop-name-preserved : goal.loop-name-preserved
loop-name-preserved c =
    let same = c.loop-name.invariant.1 in
    let less = c.loop-name.invariant.2 in
    let kept = c.kill.ensures.count in
    let fewer = c.in-Some.ensures.fewer in
    (tells_more c.args.core c.args.index.now c.loop-name.index c.next_notice.new.self c.args.standing.now c.loop-name.standing c.kill.new.self c.in-Some.name c.in-Some.ensures.told c.kill.ensures.killed c.kill.ensures.settled c.kill.ensures.room c.kill.ensures.tally c.kill.ensures.floors c.loop-name.invariant.0, kept ∙ same, omega (arith, less, fewer))

pub returns-clause-hears : goal.returns-clause-hears
returns-clause-hears c = subst (HearsAll c.args.core c.args.index.now) (sym c.in_default.ensures.unchanged) (hears_all c.args.core c.args.index.now c.loop-name.index c.loop-name.invariant.0.hears c.in_default.ensures.none)

pub returns-clause-own : goal.returns-clause-own
returns-clause-own c = tells_all c.args.core c.args.index.now c.loop-name.index c.args.standing.now c.loop-name.standing c.in_default.ensures.none c.loop-name.invariant.0

pub returns-clause-count : goal.returns-clause-count
returns-clause-count c = c.loop-name.invariant.1

pub returns-clause-untold : goal.returns-clause-untold
returns-clause-untold c =
    let less = c.loop-name.invariant.2 in
    let same = ap all_untold c.in_default.ensures.unchanged in
    omega (arith, less, same)
