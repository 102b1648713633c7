use Rattle.std.proofs.Common.{◌≡◌, List, sym, subst, rules}
use Rattle.core_index.specs.declared.types.Tombstone.{Tombstone}
use Rattle.core_index.specs.Tombs.{AreListed}
use Rattle.std.proofs.Common.{◌++◌, ◌∷◌, []}
use Rattle.core_index.proofs.TombLaws.{pushed_listed}
use Rattle.core_index.proofs.tombstone_list.TombstoneList.push.Goals as goal

pub invariant_of-self-2 : goal.invariant_of-self-2
invariant_of-self-2 c =
    let ts = c.self.inside.items.items in
    let more : c.push.new.self.items ≡ ts ++ c.args.tombstone ∷ [] = search rules in
    subst (λ (xs : List Tombstone). AreListed xs c.self.inside.passed) (sym more) (pushed_listed ts c.self.inside.passed c.args.tombstone c.self.invariant c.requires.home)
