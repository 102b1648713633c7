use Rattle.std.proofs.Common.{List, ℕ, [], ◌++◌, append-nil, sym, subst}
use Rattle.fs_text.specs.Streams.{TakesUpTo, TakesPrefix}
use Rattle.fs_text.proofs.Clients.{on_err_any, prefix_none, prefix_then, takes_none}
use Rattle.query_text.proofs.answers.write_text.Goals as goal

pub returns-in_err-pending-clause-err : goal.returns-in_err-pending-clause-err
returns-in_err-pending-clause-err g c =
    let a = g.O.Sink.taken c.args.sink.now in
    on_err_any c.from_residual.result (prefix_none a a c.args.text.now (takes_none a))

pub returns-in_err-put-clause-err : goal.returns-in_err-put-clause-err
returns-in_err-put-clause-err g c =
    let a = g.O.Sink.taken c.args.sink.now in
    let b = g.O.Sink.taken c.put.new.sink in
    on_err_any c.from_residual-in_err-put.result
    (subst (λ (w : List ℕ). TakesPrefix a b (w ++ c.args.text.now)) c.in_ok-pending.ensures c.in_err-put.ensures.err)

pub returns-in_err-finish-clause-err : goal.returns-in_err-finish-clause-err
returns-in_err-finish-clause-err g c =
    let a = g.O.Sink.taken c.args.sink.now in
    let b = g.O.Sink.taken c.put.new.sink in
    let d = g.O.Sink.taken c.finish.new.sink in
    let text = c.args.text.now in
    let waits = c.put.new.self in
    let sent = subst (λ (w : List ℕ). TakesUpTo a b (w ++ text) waits) c.in_ok-pending.ensures c.in_ok-put.ensures.ok in
    on_err_any c.from_residual-in_err-finish.result
    (subst (λ (xs : List ℕ). TakesPrefix a d xs) (append-nil text)
    (prefix_then a b d text [] waits sent (subst (λ (xs : List ℕ). TakesPrefix b d xs) (sym (append-nil waits)) c.in_err-finish.ensures.err)))
