use Rattle.std.proofs.Common.{◌++◌, [], ◌∷◌, ap, ◌∙◌, arith}
use Rattle.std.specs.Mem.Slots.{slots_items}
use Rattle.atomic_board.proofs.EachElement.{take_more}
use Rattle.atomic_board.proofs.table.words_of.Goals as goal

pub loop-i-preserved : goal.loop-i-preserved
loop-i-preserved c = let kept = c.loop-i.invariant in let pushed = c.push_reserved.ensures in
    (pushed.items ∙ (ap (λ l. l ++ c.word.result ∷ []) kept.0 ∙ take_more (slots_items c.args.closed.words) c.loop-i.i c.word.result c.word.ensures), (let a = kept.1 in let b = pushed.capacity in omega (arith, a, b)))
