use Rattle.std.proofs.Common.{◌≡◌, ℕ, length, arith, refl, None, ap, sym, ◌∙◌, subst, List}
use Rattle.std.specs.Ordering.{nat_cmp}
use Rattle.std.specs.BTreeMap.{get}
use Rattle.group_laws.specs.Places.{units, LiesIn, Apart}
use Rattle.group_machine.specs.declared.state.MemberView.{MemberView}
use Rattle.group_machine.specs.Shows.{group_of, place_of, of}
use Rattle.group_machine.proofs.Made.{view_at}
use Rattle.group_machine.proofs.post_step.is_free_for.Goals as goal

pub returns : goal.returns
returns c =
    let g = c.args.state.now in
    let m = c.args.member in
    let p = c.args.pointer in
    let v = c.index.result.now in
    let value = c.args.value.now in
    let size : c.units_of-count.result ≡ units (length value) = c.units_of-count.ensures ∙ ap (λ (xs : List ℕ). units (length xs)) c.bytes-length.ensures in
    let long = ap length c.bytes-length.ensures in
    let at = view_at g m v c.requires c.index.ensures in
    let blocks : (q : ℕ) → (group_of g).blocks m q ≡ get nat_cmp v.blocks q = λ q. ap (of (λ (v : MemberView). get nat_cmp v.blocks q) None) at in
    let lies : LiesIn (place_of g) m p (units (length value)) = subst (λ (n : ℕ). LiesIn (place_of g) m p n) size (c.if-not-lies_in.ensures.0 refl) in (
      λ t. (
        (omega (arith, long), omega (arith, long)),
        (
          lies,
          λ q b e. subst (λ (n : ℕ). Apart p n q (units (length b.bytes))) size (c.is_clear.ensures.0 t q b (sym (blocks q) ∙ e)),
        ),
      ),
      λ free. c.is_clear.ensures.1 (λ q b e. subst (λ (n : ℕ). Apart p n q (units (length b.bytes))) (sym size) (free.1.1 q b (blocks q ∙ e))),
    )
