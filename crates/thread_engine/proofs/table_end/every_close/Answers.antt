use Rattle.thread_engine.proofs.KeyViews.{closed_key, closed_licence}
use Rattle.thread_engine.proofs.table_end.every_close.Goals as goal

pub returns : goal.returns
returns c = record {
  keys = λ b ts ws E m t at start k place stopped xs own S. closed_key b ts ws E m t at start k place stopped xs own S;
  licensed = λ b ts ws E m t at cells L. closed_licence b ts ws E m t at cells L;
}
