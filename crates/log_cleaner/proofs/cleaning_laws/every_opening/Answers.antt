use Rattle.core_log.proofs.Clients.{own_open}
use Rattle.log_cleaner.proofs.Opened.{open_up, open_else, open_empty}
use Rattle.log_cleaner.proofs.cleaning_laws.every_opening.Goals as goal

pub returns : goal.returns
returns c = record {
  standing = λ s t log st chunk opens telling up. open_up s t log st chunk opens telling up;
  chunk = λ s t log st chunk other opens telling has. open_else s t log st chunk opens telling other has;
  empty = λ s t log st chunk opens telling. open_empty s t log st chunk opens telling;
  own = λ s t log st chunk opens. own_open log chunk opens.own opens.within;
}
