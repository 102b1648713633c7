use Rattle.std.proofs.Common.{sym, subst}
use Rattle.log_standing.specs.NameItems.{live}
use Rattle.log_standing.specs.Killing.{KillsAmong, SameCounts}
use Rattle.log_standing.proofs.KillLaws.{kills_all, same_counts}
use Rattle.log_standing.proofs.name_table.NameTable.kill_where.Goals as goal

pub returns-clause-killed : goal.returns-clause-killed
returns-clause-killed g c = λ f says.
    subst (λ es. KillsAmong es (live c.kill_items.new.items.items) f) c.self.view_is
    (subst (λ xs. KillsAmong (live c.self.inside.items.items) (live xs) f) (sym (c.kill_items.ensures.killed f says)) (kills_all f c.self.inside.items.items))

pub returns-clause-counts : goal.returns-clause-counts
returns-clause-counts g c = subst (λ es. SameCounts es (live c.kill_items.new.items.items)) c.self.view_is (same_counts c.self.inside.items.items c.kill_items.new.items.items c.kill_items.ensures.same)
