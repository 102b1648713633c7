use Rattle.std.proofs.Common.{◌≡◌, ℕ, true, List, Some, None, ◌++◌, sym, ◌∙◌, ap, subst}
use Rattle.std.specs.Ordering.{nat_cmp}
use Rattle.std.specs.BTreeMap.{get}
use Rattle.log_entry.specs.declared.entry.EntryName.{EntryName}
use Rattle.store_image.specs.Facts.{In}
use Rattle.group_laws.specs.Updates.{has}
use Rattle.group_machine.specs.declared.state.MemberView.{MemberView}
use Rattle.group_machine.specs.Shows.{place_of}
use Rattle.group_machine.specs.Deaths.{IsSpentIn, MustTell}
use Rattle.group_machine.proofs.Made.{view_at}
use Rattle.group_machine.proofs.Tidies.{tidied}
use Rattle.group_machine.proofs.tidy_rules.tidy.Goals as goal

pub returns : goal.returns
returns c =
    let g = c.args.state.now in
    let m = c.args.member in
    let v = c.index_mut-view.result.now in
    let read = c.index-view.result.now in
    let at = view_at g m v c.requires c.index_mut-view.ensures.value in
    let seen = view_at g m read c.requires c.index-view.ensures in
    let same : read ≡ v = cc (at, seen) in
    let spent = c.in_ok-spent.spent.items in
    let names = c.in_ok-names.names.items in
    let only : (k : ℕ) → In k spent → IsSpentIn v k = λ k i. subst (λ (v : MemberView). IsSpentIn v k) same (c.in_ok-spent.ensures.only k i) in
    let all : (k x : ℕ) → get nat_cmp v.last k ≡ Some x → IsSpentIn v k → In k spent = subst (λ (v : MemberView). (k x : ℕ) → get nat_cmp v.last k ≡ Some x → IsSpentIn v k → In k spent) same c.in_ok-spent.ensures.all in
    let must : (k n : ℕ) → (has names k n ≡ true → MustTell (place_of g) m v k n) × (MustTell (place_of g) m v k n → has names k n ≡ true) = subst (λ (v : MemberView). (k n : ℕ) → (has names k n ≡ true → MustTell (place_of g) m v k n) × (MustTell (place_of g) m v k n → has names k n ≡ true)) same c.in_ok-names.ensures in
    let gone : (k : ℕ) → In k spent → get nat_cmp c.forget.new.last k ≡ None = λ k i. c.forget.ensures.gone k (subst (In k) (sym c.deref.ensures.value) i) in
    let kept : (k : ℕ) → (In k spent → ⊥) → get nat_cmp c.forget.new.last k ≡ get nat_cmp v.last k = λ k away. c.forget.ensures.kept k (λ i. away (subst (In k) c.deref.ensures.value i)) in
    let told = c.in_ok-extend_from_slice.ensures.items ∙ ap (λ (xs : List EntryName). v.told.items ++ xs) c.deref-2.ensures.value in
    let dead = c.in_ok-extend_from_slice-2.ensures.items ∙ ap (λ (xs : List EntryName). v.dead.items ++ xs) c.deref-3.ensures.value in
    tidied (place_of g) g.holder g.slots g.mail g.views.items m v at c.forget.new.last c.extend_from_slice.new.self c.extend_from_slice-2.new.self spent names only all must gone kept told dead
