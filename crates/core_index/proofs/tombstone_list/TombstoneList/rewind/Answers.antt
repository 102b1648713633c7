use Rattle.std.proofs.Common.{ap, ◌∙◌}
use Rattle.core_index.specs.Tombs.{Tombs, found_at}
use Rattle.core_index.proofs.TombLaws.{rewound_own}
use Rattle.core_index.proofs.tombstone_list.TombstoneList.rewind.Goals as goal

pub returns-clause-own : goal.returns-clause-own
returns-clause-own c = λ k t is. rewound_own c.self.inside.items.items k t (ap (λ (a : Tombs). found_at a.items k) c.self.view_is ∙ is)
