use Rattle.std.proofs.Common.{List, sym, subst, ℕ}
use Rattle.range_scan.proofs.KeyLaws.{Merging, merging_more}
use Rattle.range_scan.proofs.key_union.merged.Goals as goal

pub loop-key-preserved : goal.loop-key-preserved
loop-key-preserved c =
    let l = c.args.left.now in
    let r = c.args.right.now in
    let f = c.behind-front.result.now in
    let b = c.behind-back.result.now in
    subst (λ (out : List ℕ). Merging l r out f b) (sym c.in_ok-push.ensures.items)
    (merging_more l r c.loop-key.keys.items c.loop-key.front.now c.loop-key.back.now c.in-Some.key f b c.loop-key.invariant c.in-Some.ensures c.behind-front.ensures c.behind-back.ensures)
