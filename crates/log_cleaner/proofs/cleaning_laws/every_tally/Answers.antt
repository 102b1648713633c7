use Rattle.log_cleaner.proofs.Tallies.{tally_begins, tally_within, tally_lowered, tally_just, tally_none, tally_killed}
use Rattle.log_cleaner.proofs.cleaning_laws.every_tally.Goals as goal

pub returns : goal.returns
returns c = record {
  begins = λ s log st chunk kept is. tally_begins s log st chunk kept is;
  within = λ s log old new chunk n ws kept copied less bounds. tally_within s log old new chunk n ws kept copied less bounds;
  lowered = λ s log old new chunk n ws kept copied less bounds. tally_lowered s log old new chunk n ws kept copied less bounds;
  just = λ s log old new chunk n ws kept copied less once is. tally_just s log old new chunk n ws kept copied less once is;
  none = λ kept st xs bounds zero_is. tally_none kept st xs bounds zero_is;
  killed = λ old new k v kept xs changes bounds. tally_killed old new k v changes kept xs bounds;
}
