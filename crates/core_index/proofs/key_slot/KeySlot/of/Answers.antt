use Rattle.std.proofs.Common.{◌≤◌, List, Option, sym, subst}
use Rattle.std.specs.List.{AllByRecursion}
use Rattle.core_index.specs.declared.types.StandingEntry.{StandingEntry}
use Rattle.core_index.specs.Slots.{LastChange, IsSlot}
use Rattle.core_index.proofs.MarkLaws.{below_entries}
use Rattle.core_index.proofs.key_slot.KeySlot.of.Goals as goal

pub invariant_of-result : goal.invariant_of-result
invariant_of-result c =
    let n = c.args.version in
    let made = c.in_ok-of.ensures in
    subst (λ (h : Option LastChange). IsSlot h c.in_ok-of.field-0) (sym c.head_of.ensures) (record {
      below = subst (λ (xs : List StandingEntry). AllByRecursion (λ (s : StandingEntry). s.version ≤ n) xs) (sym made.items) (below_entries n c.args.standing.now c.requires);
      top = made.top;
    })
