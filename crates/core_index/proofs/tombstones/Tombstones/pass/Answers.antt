use Rattle.std.proofs.Common.{subst}
use Rattle.std.specs.Prelude.{IfNone}
use Rattle.log_entry.specs.declared.entry.EntryName.{EntryName}
use Rattle.core_index.specs.Tombs.{Tombs, Ahead}
use Rattle.core_index.proofs.tombstones.Tombstones.pass.Goals as goal

pub returns-clause-none : goal.returns-clause-none
returns-clause-none c = subst (λ (a : Tombs). IfNone c.pass.result ((n : EntryName) → Ahead a c.args.home n → ⊥)) c.self.view_is c.pass.ensures.none
