use Rattle.std.proofs.Common.{◌≤◌, List, Option, sym, subst}
use Rattle.std.specs.List.{AllByRecursion}
use Rattle.core_index.specs.declared.types.StandingEntry.{StandingEntry}
use Rattle.core_index.specs.Slots.{LastChange, IsSlot}
use Rattle.core_index.proofs.key_slot.KeySlot.of_one.Goals as goal

pub invariant_of-result : goal.invariant_of-result
invariant_of-result c =
    let n = c.args.version in
    let made = c.of_one.ensures in
    subst (λ (h : Option LastChange). IsSlot h c.of_one.result) (sym c.head_of.ensures) (record {
      below = subst (λ (xs : List StandingEntry). AllByRecursion (λ (s : StandingEntry). s.version ≤ n) xs) (sym made.items) c.requires;
      top = made.top n c.requires;
    })
