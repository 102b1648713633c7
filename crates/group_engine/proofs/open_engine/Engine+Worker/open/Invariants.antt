use Rattle.std.proofs.Common.{◌/◌}
use Rattle.engine_core.proofs.Clients.{words_in}
use Rattle.group_engine.proofs.open_engine.Engine+Worker.open.Given as goal

abbrev pub ghosts-open_on : goal.ghosts-open_on
ghosts-open_on g a =
    let s = g.R.Region.state a._region.now in
    record { words = words_in (g.R.ReadRegion.word a._region.now) (s.frame.bytes / 8); bytes = s.frame.bytes }
