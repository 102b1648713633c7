use Rattle.std.proofs.Common.{◌≡◌, ◌+◌, List, [], ◌++◌, take}
use Rattle.fs_model.specs.declared.model.Reply.{Reply}
use Rattle.load_tally.specs.Tallied.{IsWithin, tally_of}
use Rattle.load_tally.proofs.tallying_tests.add_replies.Given as goal

abbrev pub invariant-loop-reply : goal.invariant-loop-reply
invariant-loop-reply l = record {
  counts : (rs : List Reply) → l.fn.tally ≡ tally_of rs [] → l.tally ≡ tally_of (rs ++ take l.reply-index l.replies) [];
  within : IsWithin l.tally;
  requests : l.tally.requests ≡ l.fn.tally.requests + l.reply-index;
}
