use Rattle.std.proofs.Common.{sym, ap, ◌∙◌, arith}
use Rattle.fs_text.specs.Input.{lines_of}
use Rattle.run_audit.specs.Replies.{replies_from}
use Rattle.run_audit.proofs.RepliesRead.{with_replies, reads_on}
use Rattle.run_audit.proofs.reply_lines.replies_of_lines.Goals as goal

pub loop-rest-preserved : goal.loop-rest-preserved
loop-rest-preserved c =
    let front = c.loop-rest.replies.items in
    let first = c.first_line-first.result in
    let place = c.loop-rest.place in
    let read = rw c.size.ensures at c.in_ok-reply_there.ensures.exact in
    let step = reads_on front place.number place.bytes place.replies (first.text.now, first.ended) (lines_of first.rest.now) c.in_ok-reply_there.field-0 read in
    record {
      numbers = omega arith;
      bytes = omega arith;
      replies = omega arith;
      said = rw (c.in_ok-push.ensures.items, c.size.ensures) (sym step
          ∙ ap (λ ls. with_replies front (replies_from place.number place.bytes place.replies ls)) (sym c.first_line-first.ensures.parted.lines)
          ∙ c.loop-rest.invariant.said);
    }
