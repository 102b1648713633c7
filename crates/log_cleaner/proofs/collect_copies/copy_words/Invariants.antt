use Rattle.std.proofs.Common.{◌≡◌, ◌+◌, ◌++◌, length}
use Rattle.pm_region.specs.State.{IsTelling}
use Rattle.pm_region.specs.Words.{lasts}
use Rattle.log_entry.specs.Words.{words_from}
use Rattle.log_cleaner.proofs.collect_copies.copy_words.Given as goal

abbrev pub invariant-loop-i : goal.invariant-loop-i
invariant-loop-i g l = record {
  words : IsTelling (g.R.Region.state l.region) → l.buffer.words ≡ l.fn.buffer.words ++ words_from (lasts (g.R.Region.state l.region)) l.first l.i;
  long : length l.buffer.words ≡ length l.fn.buffer.words + l.i;
  room : l.buffer.room ≡ l.fn.buffer.room;
}
