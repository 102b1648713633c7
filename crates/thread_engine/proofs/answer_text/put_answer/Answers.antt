use Rattle.std.proofs.Common.{◌++◌, [], ◌∷◌, ◌∙◌, ap, subst}
use Rattle.std.proofs.lemmas.Result.{on_ok_weaker, on_err_weaker}
use Rattle.fs_text.specs.Output.{ended}
use Rattle.fs_text.specs.Streams.{TakesUpTo, TakesPrefix}
use Rattle.fs_text.proofs.Streaming.{on_err_any, line_sent, line_broken_first, line_broken_second, line_broken_third}
use Rattle.thread_engine.proofs.answer_text.put_answer.Goals as goal

pub returns-in_err-put-clause-err : goal.returns-in_err-put-clause-err
returns-in_err-put-clause-err g c =
    let a = g.O.Sink.taken c.args.sink.now in
    let b = g.O.Sink.taken c.put.new.sink in
    let front = c.as_bytes.result.now in
    let rest = c.parts_of.result.1.now in
    let line = ap (λ xs. xs ++ rest) c.as_bytes.ensures.value ∙ c.parts_of.ensures in
    on_err_any c.from_residual.result (subst (λ xs. TakesPrefix a b (c.args.pending.now ++ ended xs)) line
    (line_broken_first a b c.args.pending.now front rest (10 ∷ []) c.in_err-put.ensures.err))

pub returns-in_err-put-2-clause-err : goal.returns-in_err-put-2-clause-err
returns-in_err-put-2-clause-err g c =
    let a = g.O.Sink.taken c.args.sink.now in
    let b = g.O.Sink.taken c.put.new.sink in
    let d = g.O.Sink.taken c.put-2.new.sink in
    let front = c.as_bytes.result.now in
    let rest = c.parts_of.result.1.now in
    let line = ap (λ xs. xs ++ rest) c.as_bytes.ensures.value ∙ c.parts_of.ensures in
    on_err_any c.from_residual-in_err-put-2.result (subst (λ xs. TakesPrefix a d (c.args.pending.now ++ ended xs)) line
    (line_broken_second a b d c.args.pending.now front rest (10 ∷ []) c.put.new.self c.in_ok-put.ensures.ok c.in_err-put-2.ensures.err))

pub returns-clause-ok : goal.returns-clause-ok
returns-clause-ok g c =
    let a = g.O.Sink.taken c.args.sink.now in
    let b = g.O.Sink.taken c.put.new.sink in
    let d = g.O.Sink.taken c.put-2.new.sink in
    let e = g.O.Sink.taken c.put-3.new.sink in
    let front = c.as_bytes.result.now in
    let rest = c.parts_of.result.1.now in
    let line = ap (λ xs. xs ++ rest) c.as_bytes.ensures.value ∙ c.parts_of.ensures in
    on_ok_weaker c.put-3.result (λ sent. subst (λ xs. TakesUpTo a e (c.args.pending.now ++ ended xs) c.put-3.new.self) line
    (line_sent a b d e c.args.pending.now front rest (10 ∷ []) c.put.new.self c.put-2.new.self c.put-3.new.self c.in_ok-put.ensures.ok c.in_ok-put-2.ensures.ok sent))
    c.put-3.ensures.ok

pub returns-clause-err : goal.returns-clause-err
returns-clause-err g c =
    let a = g.O.Sink.taken c.args.sink.now in
    let b = g.O.Sink.taken c.put.new.sink in
    let d = g.O.Sink.taken c.put-2.new.sink in
    let e = g.O.Sink.taken c.put-3.new.sink in
    let front = c.as_bytes.result.now in
    let rest = c.parts_of.result.1.now in
    let line = ap (λ xs. xs ++ rest) c.as_bytes.ensures.value ∙ c.parts_of.ensures in
    on_err_weaker c.put-3.result (λ broken. subst (λ xs. TakesPrefix a e (c.args.pending.now ++ ended xs)) line
    (line_broken_third a b d e c.args.pending.now front rest (10 ∷ []) c.put.new.self c.put-2.new.self c.in_ok-put.ensures.ok c.in_ok-put-2.ensures.ok broken))
    c.put-3.ensures.err
