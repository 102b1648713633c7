use Rattle.std.proofs.Common.{sym}
use Rattle.pm_region.proofs.Clients.{on_ok}
use Rattle.region_memory.proofs.Stepping.{acted_at}
use Rattle.region_memory.proofs.word_cells.act_at.Goals as goal

pub returns : goal.returns
returns c = on_ok _ (λ is. acted_at c.args.step c.args.first c.args.k c.args.cells.now.items c.index_mut.result.now c.act.new.self c.requires.within (sym c.index_mut.ensures.value) is) c.act.ensures
