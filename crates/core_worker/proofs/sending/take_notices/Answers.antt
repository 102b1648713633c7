use Rattle.std.proofs.Common.{List, length, sym, ap, subst, arith}
use Rattle.log_entry.specs.declared.entry.EntryName.{EntryName}
use Rattle.core_worker.specs.Sending.{TakesNames}
use Rattle.core_worker.proofs.SendingLaws.{takes_then}
use Rattle.core_worker.proofs.sending.take_notices.Goals as goal

pub returns-in_err-names-clause-takes : goal.returns-in_err-names-clause-takes
returns-in_err-names-clause-takes c = takes_then c.args.home c.args.index.now c.loop-alloc.index c.take_names.new.index c.args.names.now.names c.loop-alloc.names.names c.take_names.new.names.names c.loop-alloc.invariant.0 c.take_names.ensures.takes

pub returns-clause-takes : goal.returns-clause-takes
returns-clause-takes c = takes_then c.args.home c.args.index.now c.loop-alloc.index c.take_names.new.index c.args.names.now.names c.loop-alloc.names.names c.take_names.new.names.names c.loop-alloc.invariant.0 c.take_names.ensures.takes

pub loop-alloc-preserved : goal.loop-alloc-preserved
loop-alloc-preserved c =
    let all = takes_then c.args.home c.args.index.now c.loop-alloc.index c.take_names.new.index c.args.names.now.names c.loop-alloc.names.names c.take_names.new.names.names c.loop-alloc.invariant.0 c.take_names.ensures.takes in
    let same = ap (λ (xs : List EntryName). length xs) c.in_ok-names.ensures.names in
    let room = c.in_ok-names.ensures.room in
    let shown = ap (λ (xs : List EntryName). length xs) c.names-in-loop-alloc.ensures in
    let before = c.loop-alloc.invariant.2 in
    let more = c.min-more.ensures in (
      subst (λ (xs : List EntryName). TakesNames c.args.home c.args.index.now c.take_names.new.index c.args.names.now.names xs) (sym c.in_ok-names.ensures.names) all,
      omega (arith, same, room, shown),
      omega (arith, same, room, shown, before, more),
    )
