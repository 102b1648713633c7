use Rattle.std.proofs.Common.{◌≡◌, None, arith}
use Rattle.thread_engine.proofs.Changes.{none_changed, all_changed}
use Rattle.thread_engine.proofs.TakenKept.{each_cleared}
use Rattle.thread_engine.proofs.run_answers.clear_window.Goals as goal

pub loop-at-init : goal.loop-at-init
loop-at-init c = none_changed (λ x y. y ≡ None) c.args.window.now.items

pub returns-clause-blank : goal.returns-clause-blank
returns-clause-blank c =
    let past = c.loop-at-test.false in
    let long = c.len-at-end.ensures in
    let same = c.loop-at.auto.at-end in
    each_cleared c.args.window.now.items c.loop-at.window.items
    (all_changed (λ x y. y ≡ None) c.loop-at.at c.args.window.now.items c.loop-at.window.items (omega (arith, past, long, same)) c.loop-at.invariant)

pub returns-clause-count : goal.returns-clause-count
returns-clause-count c = c.loop-at.invariant.count
