use Rattle.std.proofs.Common.{◌++◌, [], sym, subst}
use Rattle.std.proofs.lemmas.Result.{on_ok_weaker, on_err_weaker}
use Rattle.fs_text.specs.Streams.{TakesUpTo}
use Rattle.fs_text.proofs.Streaming.{takes_more, up_to_all, prefix_then, prefix_longer, on_err_any}
use Rattle.fs_text.proofs.pending_text.PendingText.put.Goals as goal

pub returns-in_err-send-clause-err : goal.returns-in_err-send-clause-err
returns-in_err-send-clause-err g c =
    on_err_any c.from_residual.result
    (prefix_longer (g.O.Sink.taken c.args.sink.now) (g.O.Sink.taken c.send.new.sink) c.args.self.now c.args.bytes.now c.in_err-send.ensures.err)

pub returns-then-not-has_room-clause-ok : goal.returns-then-not-has_room-clause-ok
returns-then-not-has_room-clause-ok g c =
    let a = g.O.Sink.taken c.args.sink.now in
    let b = g.O.Sink.taken c.send.new.sink in
    let d = g.O.Sink.taken c.send_all.new.sink in
    let all = c.args.self.now ++ c.args.bytes.now in
    on_ok_weaker c.send_all.result
    (λ h. subst (λ left. TakesUpTo a d all left) (sym c.in_ok-send.ensures.sent)
    (up_to_all a d all (takes_more a b d c.args.self.now c.args.bytes.now c.in_ok-send.ensures.ok h)))
    c.send_all.ensures.ok

pub returns-then-not-has_room-clause-err : goal.returns-then-not-has_room-clause-err
returns-then-not-has_room-clause-err g c =
    let a = g.O.Sink.taken c.args.sink.now in
    let b = g.O.Sink.taken c.send.new.sink in
    let d = g.O.Sink.taken c.send_all.new.sink in
    on_err_weaker c.send_all.result
    (λ h. prefix_then a b d c.args.self.now c.args.bytes.now [] (up_to_all a b c.args.self.now c.in_ok-send.ensures.ok) h)
    c.send_all.ensures.err
