use Rattle.std.proofs.Common.{◌<◌, ℕ, sym, subst}
use Rattle.recover.proofs.LogNameLaws.{chunk_small}
use Rattle.recover.proofs.core_names.note_for.Goals as goal

pub note-requires : goal.note-requires
note-requires c = subst (λ (j : ℕ). j < 64) (sym c.chunk_of.ensures) (chunk_small c.args.layout.now c.requires.layout c.args.found.now.at)
