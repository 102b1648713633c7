use Rattle.std.proofs.Common.{◌++◌, ap, ◌∙◌, subst}
use Rattle.std.proofs.Math.Nat.{le_trans}
use Rattle.fs_text.specs.Output.{lines_text, ended}
use Rattle.fs_text.specs.Streams.{TakesUpTo, TakesPrefix}
use Rattle.fs_text.proofs.Streaming.{on_err_any, prefix_none, takes_none}
use Rattle.fs_text.proofs.Texts.{sent_more, prefix_more, prefix_last, prefix_so_far}
use Rattle.fs_text.proofs.output.write_each.Goals as goal

pub returns-in_err-pending-clause-err : goal.returns-in_err-pending-clause-err
returns-in_err-pending-clause-err g c =
    let a = g.O.Sink.taken c.args.sink.now in
    on_err_any c.from_residual.result (prefix_none a a (lines_text g.T.TextLine.line c.args.items.now) (takes_none a))

pub returns-in_err-rest-clause-err : goal.returns-in_err-rest-clause-err
returns-in_err-rest-clause-err g c =
    on_err_any c.from_residual-in_err-rest.result
    (prefix_so_far (λ x. ended (g.T.TextLine.line x)) c.args.items.now c.loop-item.item-index
    (g.O.Sink.taken c.args.sink.now) (g.O.Sink.taken c.loop-item.sink) c.loop-item.pending c.loop-item.invariant.sent)

pub returns-in_err-put_line-clause-err : goal.returns-in_err-put_line-clause-err
returns-in_err-put_line-clause-err g c =
    let a = g.O.Sink.taken c.args.sink.now in
    let b = g.O.Sink.taken c.loop-item.sink in
    let d = g.O.Sink.taken c.put_line.new.sink in
    let line = ap (λ xs. xs ++ c.in_ok-rest.rest.now) c.as_bytes.ensures.value ∙ c.in_ok-rest.ensures ∙ ap (λ xs. xs ++ g.T.TextLine.line c.item-item.result) c.clear.ensures.bytes in
    let more = subst (λ xs. TakesPrefix b d (c.loop-item.pending ++ ended xs)) line c.in_err-put_line.ensures.err in
    on_err_any c.from_residual-in_err-put_line.result
    (prefix_more (λ x. ended (g.T.TextLine.line x)) c.args.items.now c.loop-item.item-index c.item-item.result a b d
    c.loop-item.pending c.item-item.is c.loop-item-test.true c.loop-item.invariant.sent more)

pub loop-item-preserved : goal.loop-item-preserved
loop-item-preserved g c =
    let a = g.O.Sink.taken c.args.sink.now in
    let b = g.O.Sink.taken c.loop-item.sink in
    let d = g.O.Sink.taken c.put_line.new.sink in
    let line = ap (λ xs. xs ++ c.in_ok-rest.rest.now) c.as_bytes.ensures.value ∙ c.in_ok-rest.ensures ∙ ap (λ xs. xs ++ g.T.TextLine.line c.item-item.result) c.clear.ensures.bytes in
    let more = subst (λ xs. TakesUpTo b d (c.loop-item.pending ++ ended xs) c.put_line.new.pending) line c.in_ok-put_line.ensures.ok in
    record {
      sent = sent_more (λ x. ended (g.T.TextLine.line x)) c.args.items.now c.loop-item.item-index c.item-item.result a b d
          c.loop-item.pending c.put_line.new.pending c.item-item.is c.loop-item-test.true c.loop-item.invariant.sent more;
      count = le_trans c.loop-item.invariant.count c.in_ok-put_line.ensures.count;
    }

pub returns-in_err-finish-clause-err : goal.returns-in_err-finish-clause-err
returns-in_err-finish-clause-err g c =
    on_err_any c.from_residual-in_err-finish.result
    (prefix_last (λ x. ended (g.T.TextLine.line x)) c.args.items.now c.loop-item.item-index
    (g.O.Sink.taken c.args.sink.now) (g.O.Sink.taken c.loop-item.sink) (g.O.Sink.taken c.finish.new.sink)
    c.loop-item.pending c.loop-item-test.false c.loop-item.invariant.sent c.in_err-finish.ensures.err)
