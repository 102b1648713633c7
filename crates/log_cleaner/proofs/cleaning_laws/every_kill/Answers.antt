use Rattle.log_cleaner.proofs.Between.{kill_up, kill_gathered, kill_tally}
use Rattle.log_cleaner.proofs.cleaning_laws.every_kill.Goals as goal

pub returns : goal.returns
returns c = record {
  standing = λ s log old new k v changes same up. kill_up old new k v changes s log same up;
  gathered = λ old new k v xs a changes none gathered. kill_gathered old new k v changes xs a none gathered;
  tally = λ old new k v changes tally floors. kill_tally old new k v changes tally floors;
}
