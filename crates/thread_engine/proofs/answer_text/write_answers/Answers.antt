use Rattle.std.proofs.Common.{subst, map}
use Rattle.std.proofs.Math.Nat.{le_trans}
use Rattle.fs_text.specs.Output.{replies_text}
use Rattle.fs_text.specs.Streams.{TakesPrefix}
use Rattle.fs_text.proofs.Streaming.{on_err_any, prefix_none, takes_none}
use Rattle.fs_text.proofs.Texts.{sent_more, prefix_more, prefix_last}
use Rattle.engine_core.specs.Reports.{reply_in}
use Rattle.thread_engine.proofs.Lines.{lines_of, text_is, all_out}
use Rattle.thread_engine.proofs.answer_text.write_answers.Goals as goal

pub returns-in_err-pending-clause-err : goal.returns-in_err-pending-clause-err
returns-in_err-pending-clause-err g c =
    let a = g.O.Sink.taken c.args.sink.now in
    on_err_any c.from_residual.result (prefix_none a a (replies_text (map reply_in c.args.answers.now)) (takes_none a))

pub returns-in_err-put_answer-clause-err : goal.returns-in_err-put_answer-clause-err
returns-in_err-put_answer-clause-err g c =
    let a = g.O.Sink.taken c.args.sink.now in
    let b = g.O.Sink.taken c.loop-answer.sink in
    let d = g.O.Sink.taken c.put_answer.new.sink in
    on_err_any c.from_residual-in_err-put_answer.result (subst (TakesPrefix a d) (text_is c.args.answers.now)
    (prefix_more lines_of c.args.answers.now c.loop-answer.answer-index c.answer-item.result a b d
    c.loop-answer.pending c.answer-item.is c.loop-answer-test.true c.loop-answer.invariant.sent c.in_err-put_answer.ensures.err))

pub loop-answer-preserved : goal.loop-answer-preserved
loop-answer-preserved g c =
    let a = g.O.Sink.taken c.args.sink.now in
    let b = g.O.Sink.taken c.loop-answer.sink in
    let d = g.O.Sink.taken c.put_answer.new.sink in
    record {
      sent = sent_more lines_of c.args.answers.now c.loop-answer.answer-index c.answer-item.result a b d
          c.loop-answer.pending c.put_answer.new.pending c.answer-item.is c.loop-answer-test.true c.loop-answer.invariant.sent c.in_ok-put_answer.ensures.ok;
      count = le_trans c.loop-answer.invariant.count c.in_ok-put_answer.ensures.count;
    }

pub returns-in_err-finish-clause-err : goal.returns-in_err-finish-clause-err
returns-in_err-finish-clause-err g c =
    let a = g.O.Sink.taken c.args.sink.now in
    let d = g.O.Sink.taken c.finish.new.sink in
    on_err_any c.from_residual-in_err-finish.result (subst (TakesPrefix a d) (text_is c.args.answers.now)
    (prefix_last lines_of c.args.answers.now c.loop-answer.answer-index
    a (g.O.Sink.taken c.loop-answer.sink) d
    c.loop-answer.pending c.loop-answer-test.false c.loop-answer.invariant.sent c.in_err-finish.ensures.err))

pub returns-clause-ok : goal.returns-clause-ok
returns-clause-ok g c =
    all_out c.args.answers.now c.loop-answer.answer-index c.loop-answer-test.false (g.O.Sink.taken c.args.sink.now) (g.O.Sink.taken c.loop-answer.sink) (g.O.Sink.taken c.finish.new.sink)
    c.loop-answer.pending c.loop-answer.invariant.sent c.in_ok-finish.ensures.ok
