use Rattle.std.proofs.Common.{List, ℕ, [], ◌∙◌, subst}
use Rattle.std.proofs.lemmas.Result.{on_err_weaker}
use Rattle.fs_text.specs.Output.{ended, pairs_text}
use Rattle.fs_text.specs.Streams.{TakesPrefix}
use Rattle.fs_text.proofs.Clients.{on_err_any, prefix_none, prefix_longer, prefix_then, takes_none, up_to_all}
use Rattle.query_text.specs.Answers.{last_line, page_text}
use Rattle.query_text.proofs.answers.write_page.Goals as goal

pub returns-in_err-last-clause-err : goal.returns-in_err-last-clause-err
returns-in_err-last-clause-err g c =
    let a = g.O.Sink.taken c.args.sink.now in
    on_err_any c.from_residual.result (prefix_none a a (page_text c.args.pairs.now c.args.more) (takes_none a))

pub returns-in_err-write_pairs-clause-err : goal.returns-in_err-write_pairs-clause-err
returns-in_err-write_pairs-clause-err g c =
    on_err_any c.from_residual-in_err-write_pairs.result
    (prefix_longer (g.O.Sink.taken c.args.sink.now) (g.O.Sink.taken c.write_pairs.new.sink) (pairs_text c.args.pairs.now) (ended (last_line c.args.more)) c.in_err-write_pairs.ensures.err)

pub returns-clause-err : goal.returns-clause-err
returns-clause-err g c =
    let a = g.O.Sink.taken c.args.sink.now in
    let b = g.O.Sink.taken c.write_pairs.new.sink in
    let d = g.O.Sink.taken c.write_text.new.sink in
    let pairs = pairs_text c.args.pairs.now in
    let last = ended (last_line c.args.more) in
    let is = c.as_bytes.ensures.value ∙ c.in_ok-last.ensures in
    on_err_weaker c.write_text.result
    (λ (broken : TakesPrefix b d c.as_bytes.result.now). prefix_then a b d pairs last [] (up_to_all a b pairs c.in_ok-write_pairs.ensures.ok) (subst (λ (xs : List ℕ). TakesPrefix b d xs) is broken))
    c.write_text.ensures.err
