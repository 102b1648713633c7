use Rattle.std.proofs.Common.{◌≡◌, ℕ, List, Option, Some, [], drop, sym, ◌∙◌, ap, subst, rules}
use Rattle.core_log.specs.declared.types.LogChunk.{LogChunk}
use Rattle.std.proofs.lemmas.List.{drop_all}
use Rattle.core_log.specs.Fresh.{IsEmptiest, least, emptiest}
use Rattle.core_log.proofs.FreshLaws.{emptiest_is}
use Rattle.core_log.proofs.tails.emptiest.Goals as goal

pub returns : goal.returns
returns c =
    let cs = c.args.chunks.now in
    let none : drop c.loop-c.c-index cs ≡ [] = drop_all c.loop-c.c-index cs (search rules) in
    let is : Some c.loop-c.best.chunk ≡ emptiest cs = ap (λ (xs : List LogChunk). Some (least c.loop-c.best xs).chunk) (sym none) ∙ c.loop-c.invariant in
    subst (λ (o : Option ℕ). IsEmptiest cs o) (sym is) (emptiest_is cs c.requires)
