use Rattle.std.proofs.Common.{◌≡◌, ℕ, true, false, refl, sym, ap, ◌∙◌, List, [], subst}
use Rattle.store_image.specs.Facts.{In}
use Rattle.log_entry.specs.declared.entry.EntryName.{EntryName}
use Rattle.group_laws.specs.Updates.{has}
use Rattle.group_laws.specs.declared.types.Seen.TheVariants.{Mail as SeenMail}
use Rattle.group_machine.specs.declared.state.MemberView.{MemberView}
use Rattle.group_machine.specs.Shows.{group_of, place_of, of}
use Rattle.group_machine.proofs.Made.{view_at}
use Rattle.group_machine.proofs.Own.{tell_in, in_tell}
use Rattle.group_machine.proofs.cleaning.may_send.Goals as goal

pub returns-then-not-may_tell_all : goal.returns-then-not-may_tell_all
returns-then-not-may_tell_all c =
    let g = c.args.state.now in
    let m = c.args.member in
    let v = c.index-view.result.now in
    let low = c.if-not-has_member.ensures.0 refl in
    let at = view_at g m v low c.index-view.ensures in (
      λ t. absurd (cc t),
      λ can. absurd (
          let may = c.may_tell_all.ensures.1 (λ k n t. in_tell (place_of g) g.holder g.slots g.mail g.views.items m v at c.args.to k n (can.dead k n (subst (λ (xs : List EntryName). has xs k n ≡ true) c.names.ensures t))) in
          let f = c.if-not-may_tell_all.true in cc (may, f)),
    )

pub returns : goal.returns
returns c =
    let g = c.args.state.now in
    let m = c.args.member in
    let v = c.index-view.result.now in
    let low = c.if-not-has_member.ensures.0 refl in
    let at = view_at g m v low c.index-view.ensures in
    let looked = ap (of (λ (v : MemberView). v.looked.items) []) at in
    let seen : In (SeenMail m c.args.to false) ((group_of g).looked m) = subst (In (SeenMail m c.args.to false)) (c.deref.ensures.value ∙ sym looked) (c.if-not-saw.ensures.0 refl) in
    let leaving : (k n : ℕ) → (group_of g).leaving m k n ≡ has v.leaving.items k n = λ k n. ap (of (λ (v : MemberView). has v.leaving.items k n) false) at in (
      λ t. record {
        member = low;
        receiver = c.if-not-has_member-2.ensures.0 refl;
        other = c.if-to-member.false;
        seen = seen;
        dead = λ k n d. tell_in (place_of g) g.holder g.slots g.mail g.views.items m v at c.args.to k n (c.may_tell_all.ensures.0 c.if-not-may_tell_all.false k n (subst (λ (xs : List EntryName). has xs k n ≡ true) (sym c.names.ensures) d));
        gone = λ k n d. let r = c.may_report_all.ensures.0 t k n (subst (λ (xs : List EntryName). has xs k n ≡ true) (sym c.names-2.ensures) d) in (leaving k n ∙ r.0, r.1);
      },
      λ can. c.may_report_all.ensures.1 (λ k n d. let r = can.gone k n (subst (λ (xs : List EntryName). has xs k n ≡ true) c.names-2.ensures d) in (sym (leaving k n) ∙ r.0, r.1)),
    )
