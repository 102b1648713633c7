-- Where the answers are cut off, what went out is the beginning of them.
use Rattle.std.proofs.Common.{List, [], take, subst}
use Rattle.std.proofs.lemmas.List.{get_or_default, take_all}
use Rattle.fs_text.specs.Streams.{Takes}
use Rattle.fs_text.proofs.Clients.{on_err_any, prefix_more, prefix_of, up_to_all, up_to_end, up_to_stay}
use Rattle.query_text.specs.declared.query.Query.{Query}
use Rattle.flatstore_commands.specs.Scans.{answer_text, answers_text}
use Rattle.flatstore_commands.proofs.scan_ranges.answer_all.Goals as goal

pub returns-in_err-answer-clause-err : goal.returns-in_err-answer-clause-err
returns-in_err-answer-clause-err g c = λ pairs lists.
    let a = g.O.Sink.taken c.args.sink.now in
    let b = g.O.Sink.taken c.loop-query.sink in
    let d = g.O.Sink.taken c.answer.new.sink in
    let queries = c.args.queries.now in
    let i = c.loop-query.query-index in
    on_err_any c.from_residual.result
    (prefix_more (answer_text pairs) queries i _ a b d [] (get_or_default queries i _ _ c.loop-query-test.true) c.loop-query-test.true
    (up_to_all a b (answers_text pairs (take i queries)) (c.loop-query.invariant.sent pairs lists)) (c.in_err-answer.ensures.err pairs lists))

pub returns-in_err-flush-clause-err : goal.returns-in_err-flush-clause-err
returns-in_err-flush-clause-err g c = λ pairs lists.
    let a = g.O.Sink.taken c.args.sink.now in
    let b = g.O.Sink.taken c.loop-query.sink in
    let d = g.O.Sink.taken c.flush.new.self in
    let queries = c.args.queries.now in
    let all = answers_text pairs queries in
    let sent = subst (λ (qs : List Query). Takes a b (answers_text pairs qs)) (take_all c.loop-query.query-index queries c.loop-query-test.false) (c.loop-query.invariant.sent pairs lists) in
    on_err_any c.from_residual-in_err-flush.result
    (prefix_of a d all (up_to_end a d all (up_to_stay a b d all [] (up_to_all a b all sent) c.in_err-flush.ensures.taken)))
