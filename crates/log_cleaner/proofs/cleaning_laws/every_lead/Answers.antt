use Rattle.log_cleaner.proofs.Added.{add_up, add_chunk, add_left, add_gathered, new_lacks}
use Rattle.log_cleaner.proofs.cleaning_laws.every_lead.Goals as goal

pub returns : goal.returns
returns c = record {
  standing = λ s t log after old new es appends adds telling up. add_up s t log after old new es appends adds telling up;
  chunk = λ s t log after old new es chunk appends adds telling closed has. add_chunk s t log after old new es appends adds telling chunk closed has;
  left = λ old new es xs adds lacks. add_left old new es adds xs lacks;
  gathered = λ old new es xs a adds lacks gathered. add_gathered old new es adds xs lacks a gathered;
  lacks = λ s log st es chunk standing fresh has. new_lacks s log st es standing fresh chunk has;
}
