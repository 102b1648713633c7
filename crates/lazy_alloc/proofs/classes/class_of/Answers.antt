use Rattle.std.proofs.Common.{◌≡◌, ◌⊎◌, ◌+◌, ◌*◌, ◌^◌, ◌≤◌, ◌<◌, ℕ, sym, ◌∙◌, subst, arith}
use Rattle.lazy_alloc.proofs.ClassLaws.{fits_class, next_class}
use Rattle.lazy_alloc.proofs.classes.class_of.Goals as goal

pub loop-class-preserved : goal.loop-class-preserved
loop-class-preserved c = next_class c.args.length c.loop-class.class c.requires.long (sym c.has_class.ensures ∙ c.if-has_class.false) c.loop-class.invariant

pub returns : goal.returns
returns c =
    let last : c.loop-class.class ≡ 12 = omega arith in
    let twelve : ℕ = 12 in
    let inv : (twelve ≡ 1) ⊎ (128 * 2 ^ twelve < c.args.length + 8) = subst (λ (k : ℕ). (k ≡ 1) ⊎ (128 * 2 ^ k < c.args.length + 8)) last c.loop-class.invariant in
    let short : c.args.length + 8 ≤ 256 * 2 ^ 12 = omega (arith, c.requires.short) in
    fits_class c.args.length 12 c.requires.long short inv
