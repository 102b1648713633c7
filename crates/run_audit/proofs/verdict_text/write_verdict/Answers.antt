use Rattle.std.proofs.Common.{◌∙◌, subst}
use Rattle.fs_text.specs.Streams.{TakesPrefix}
use Rattle.fs_text.proofs.Streaming.{on_err_any, prefix_none, takes_none}
use Rattle.run_audit.specs.VerdictText.{verdict_text}
use Rattle.run_audit.proofs.verdict_text.write_verdict.Goals as goal

pub returns-in_err-text-clause-err : goal.returns-in_err-text-clause-err
returns-in_err-text-clause-err g c =
    let a = g.O.Sink.taken c.args.sink.now in
    on_err_any c.from_residual.result (prefix_none a a (verdict_text c.args.verdict) (takes_none a))

pub returns-in_err-send_out-clause-err : goal.returns-in_err-send_out-clause-err
returns-in_err-send_out-clause-err g c =
    on_err_any c.from_residual-in_err-send_out.result
    (subst (λ l. TakesPrefix (g.O.Sink.taken c.args.sink.now) (g.O.Sink.taken c.send_out.new.sink) l) (c.as_bytes.ensures.value ∙ c.in_ok-text.ensures) c.in_err-send_out.ensures.err)
