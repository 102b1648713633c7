use Rattle.fs_text.proofs.Clients.{on_err_any, prefix_none, takes_none}
use Rattle.query_text.specs.Answers.{count_text}
use Rattle.query_text.proofs.answers.write_count.Goals as goal

pub returns-in_err-text-clause-err : goal.returns-in_err-text-clause-err
returns-in_err-text-clause-err g c =
    let a = g.O.Sink.taken c.args.sink.now in
    on_err_any c.from_residual.result (prefix_none a a (count_text c.args.count) (takes_none a))
