use Rattle.std.proofs.Common.{sym, subst}
use Rattle.core_index.specs.Tombs.{Tombs, key_of, AreLess, Rising}
use Rattle.core_index.proofs.StepLaws.{on_ok, on_err, either_way}
use Rattle.core_index.proofs.TombLaws.{rising_more}
use Rattle.core_index.proofs.tombstones.Tombstones.push.Goals as goal

pub invariant_of-self : goal.invariant_of-self
invariant_of-self c =
    let a = c.self.inside.list in
    let t = c.args.tombstone in
    let above : AreLess a.items (key_of t) = subst (λ (b : Tombs). AreLess b.items (key_of t)) (sym c.self.view_is) c.requires.above in
    either_way c.push.result
    (on_ok c.push.result (λ is. subst (λ (b : Tombs). Rising b.items) (sym is) (rising_more a.items t c.self.invariant above)) c.push.ensures.ok)
    (on_err c.push.result (λ is. subst (λ (b : Tombs). Rising b.items) (sym is) c.self.invariant) c.push.ensures.err)
