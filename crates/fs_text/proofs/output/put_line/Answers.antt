use Rattle.std.proofs.Common.{[], ◌∷◌}
use Rattle.std.proofs.lemmas.Result.{on_ok_weaker, on_err_weaker}
use Rattle.fs_text.proofs.Streaming.{on_err_any, line_sent, line_broken_first, line_broken_second, line_broken_third}
use Rattle.fs_text.proofs.output.put_line.Goals as goal

pub returns-in_err-put-clause-err : goal.returns-in_err-put-clause-err
returns-in_err-put-clause-err g c =
    on_err_any c.from_residual.result
    (line_broken_first (g.O.Sink.taken c.args.sink.now) (g.O.Sink.taken c.put.new.sink) c.args.pending.now c.args.front.now c.args.rest.now (10 ∷ [])
    c.in_err-put.ensures.err)

pub returns-in_err-put-2-clause-err : goal.returns-in_err-put-2-clause-err
returns-in_err-put-2-clause-err g c =
    on_err_any c.from_residual-in_err-put-2.result
    (line_broken_second (g.O.Sink.taken c.args.sink.now) (g.O.Sink.taken c.put.new.sink) (g.O.Sink.taken c.put-2.new.sink)
    c.args.pending.now c.args.front.now c.args.rest.now (10 ∷ []) c.put.new.self c.in_ok-put.ensures.ok c.in_err-put-2.ensures.err)

pub returns-clause-ok : goal.returns-clause-ok
returns-clause-ok g c =
    on_ok_weaker c.put-3.result
    (line_sent (g.O.Sink.taken c.args.sink.now) (g.O.Sink.taken c.put.new.sink) (g.O.Sink.taken c.put-2.new.sink) (g.O.Sink.taken c.put-3.new.sink)
    c.args.pending.now c.args.front.now c.args.rest.now (10 ∷ []) c.put.new.self c.put-2.new.self c.put-3.new.self
    c.in_ok-put.ensures.ok c.in_ok-put-2.ensures.ok)
    c.put-3.ensures.ok

pub returns-clause-err : goal.returns-clause-err
returns-clause-err g c =
    on_err_weaker c.put-3.result
    (line_broken_third (g.O.Sink.taken c.args.sink.now) (g.O.Sink.taken c.put.new.sink) (g.O.Sink.taken c.put-2.new.sink) (g.O.Sink.taken c.put-3.new.sink)
    c.args.pending.now c.args.front.now c.args.rest.now (10 ∷ []) c.put.new.self c.put-2.new.self
    c.in_ok-put.ensures.ok c.in_ok-put-2.ensures.ok)
    c.put-3.ensures.err
