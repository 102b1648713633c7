use Rattle.std.proofs.Common.{ℕ, refl, inl, inr, sym, subst, ◌∙◌}
use Rattle.group_laws.specs.Runs.{Kind as Law, IsStep}
use Rattle.group_laws.specs.Runs.Kind.{Look, LookMail}
use Rattle.group_machine.specs.declared.kinds.Kind.TheVariants as kinds
use Rattle.group_machine.specs.declared.kinds.MemberStep.{MemberStep}
use Rattle.group_machine.specs.Shows.{group_of}
use Rattle.group_machine.specs.Makes.{Makes}
use Rattle.group_machine.specs.Steps.{MakesStep}
use Rattle.group_machine.proofs.Numbers.{slot_once, not_both, mail_once}
use Rattle.group_machine.proofs.Laws.{along, as_data}
use Rattle.group_machine.proofs.machine.look.Goals as goal

pub returns-in-Some-Slot : goal.returns-in-Some-Slot
returns-in-Some-Slot c =
    let g = c.args.state.now in
    let m = c.args.member in
    let a = c.in-Some-Slot.owner in
    let t = c.in-Some-Slot.slot in
    let s : MemberStep = record { member = m; kind = kinds.Look c.args.word } in
    let law : Law = Look a t in
    let h = c.look_at_slot.new.state in
    let is = rw (c.in-Some-Slot.field-0-is, c.group.ensures) at c.in-Some-Slot.ensures in
    along c.look_at_slot.result (λ made. Makes made g m law h) (λ made. MakesStep made g s h)
    (as_data g h s law (λ u q. inl (a, t, is.2, q)) (λ u q. elim q [
      | inl x ↦ let one = slot_once g.layout.group x.0 x.1 a t x.3.1.1 is.1 (sym x.2 ∙ is.2) in subst (λ (b : ℕ). IsStep (group_of g) m (Look b t) u) one.0 (subst (λ (b : ℕ). IsStep (group_of g) m (Look x.0 b) u) one.1 x.3)
      | inr x ↦ not_both g.layout.group a t x.0 x.1 is.0 is.1 (sym is.2 ∙ x.2)
    ])) c.look_at_slot.ensures

pub returns-in-Some-Mail : goal.returns-in-Some-Mail
returns-in-Some-Mail c =
    let g = c.args.state.now in
    let m = c.args.member in
    let a = c.in-Some-Mail.from in
    let b = c.in-Some-Mail.to in
    let s : MemberStep = record { member = m; kind = kinds.Look c.args.word } in
    let law : Law = LookMail a b in
    let h = c.look_at_mail.new.state in
    let is = rw (c.in-Some-Mail.field-0-is, c.group.ensures) at c.in-Some-Mail.ensures in
    along c.look_at_mail.result (λ made. Makes made g m law h) (λ made. MakesStep made g s h)
    (as_data g h s law (λ u q. inr (a, b, is.2, q)) (λ u q. elim q [
      | inl x ↦ not_both g.layout.group x.0 x.1 a b x.3.1.0 x.3.1.1 (sym x.2 ∙ is.2)
      | inr x ↦ let one = mail_once g.layout.group x.0 x.1 a b x.3.2 is.1 (sym x.2 ∙ is.2) in subst (λ (d : ℕ). IsStep (group_of g) m (LookMail d b) u) one.0 (subst (λ (d : ℕ). IsStep (group_of g) m (LookMail x.0 d) u) one.1 x.3)
    ])) c.look_at_mail.ensures

pub returns-in-None : goal.returns-in-None
returns-in-None c = (
  refl,
  λ u made. elim made [
    | inl x ↦ (rw c.group.ensures at c.in-None.ensures).0 x.0 x.1 x.3.1.0 x.3.1.1 x.2
    | inr x ↦ (rw c.group.ensures at c.in-None.ensures).1 x.0 x.1 x.3.1 x.3.2 x.2
  ],
)
