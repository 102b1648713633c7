use Rattle.std.proofs.Common.{sym, subst}
use Rattle.std.specs.Ordering.{nat_cmp}
use Rattle.std.specs.BTreeMap.{get}
use Rattle.store_image.specs.Facts.{In}
use Rattle.group_machine.proofs.Replaced.{own_left}
use Rattle.group_machine.proofs.finishing.drop_replaced.Goals as goal

pub returns : goal.returns
returns c =
    let out = c.in_ok-pointers.pointers.items in
    own_left c.args.key c.args.body.now (get nat_cmp c.args.blocks.now) (get nat_cmp c.drop_blocks.new.blocks) out c.in_ok-pointers.ensures.only c.in_ok-pointers.ensures.all
    (λ q i. c.drop_blocks.ensures.gone q (subst (In q) (sym c.deref.ensures.value) i))
    (λ q away. c.drop_blocks.ensures.kept q (λ i. away (subst (In q) c.deref.ensures.value i)))
