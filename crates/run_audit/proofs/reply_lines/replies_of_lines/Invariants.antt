use Rattle.std.proofs.Common.{◌≡◌, ◌+◌, ◌≤◌, length}
use Rattle.fs_text.specs.Input.{lines_of}
use Rattle.run_audit.specs.Replies.{replies_from}
use Rattle.run_audit.proofs.RepliesRead.{with_replies}
use Rattle.run_audit.proofs.reply_lines.replies_of_lines.Given as goal

abbrev pub invariant-loop-rest : goal.invariant-loop-rest
invariant-loop-rest l = record {
  numbers : l.place.number + length l.rest ≤ l.number + length l.text;
  bytes : l.place.bytes + length l.rest ≡ l.bytes + length l.text;
  replies : l.place.replies + length l.rest ≤ length l.text;
  said : with_replies l.replies.items (replies_from l.place.number l.place.bytes l.place.replies (lines_of l.rest)) ≡ replies_from l.number l.bytes 0 (lines_of l.text);
}

abbrev pub decreases-loop-rest : goal.decreases-loop-rest
decreases-loop-rest l = length l.rest
