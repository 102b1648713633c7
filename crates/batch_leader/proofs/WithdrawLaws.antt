-- A leader looks at its own slots, one after another.
use Rattle.std.proofs.Common.{◌≡◌, ⊎_elim, ℕ, suc, ◌+◌, ◌<◌, [], ◌∷◌, ◌++◌, Option, sym, ◌∙◌, ap, subst, arith}
use Rattle.std.specs.Prelude.{IfSome}
use Rattle.std.proofs.lemmas.Bool.{cases_lt}
use Rattle.std.proofs.lemmas.Bool.Decides.{nat_tests}
use Rattle.group_laws.specs.State.{Group, word_shown}
use Rattle.group_laws.specs.MemberViews.{View}
use Rattle.group_laws.specs.Runs.{Kind}
use Rattle.group_laws.specs.Runs.Kind.{Look}
use Rattle.group_board.specs.Told.{Makes, state_of}
use Rattle.group_board.specs.declared.board.SlotState.{SlotState}
use Rattle.batch_leader.specs.Rounds.{member_at, slot_at}
use Rattle.batch_leader.specs.Leading.{MakesAll, looks_upto, Found, IsNotPosted, NonePosted}
use Rattle.batch_leader.proofs.Steps.{makes_then, one_step, found_back, found_at}

-- the own slots are the first 8 positions
pub own_member : (m i : ℕ) → i < 8 → member_at m i ≡ m
unfolding member_at
own_member m i low = grind (arith, nat_tests)

pub own_slot : (i : ℕ) → i < 8 → slot_at i ≡ i
own_slot i low = omega (arith, low)

module _ (before mid after : Option Group) (m i : ℕ) (v u : View) (x : SlotState) (low : i < 8) (made : MakesAll before (looks_upto m 0 i) mid m v) where
  pub looks_more : Makes mid m (Look m i) after u → MakesAll before (looks_upto m 0 (i + 1)) after m u
  looks_more step =
      let next : i + 1 ≡ suc i = omega arith in
      let here : 0 + i ≡ i = omega arith in
      let who : m ≡ member_at m (0 + i) = sym (own_member m i low) ∙ ap (member_at m) (sym here) in
      let which : i ≡ slot_at (0 + i) = sym (own_slot i low) ∙ ap slot_at (sym here) in
      subst (λ (n : ℕ). MakesAll before (looks_upto m 0 n) after m u) (sym next)
      (subst (λ (k : Kind). MakesAll before (looks_upto m 0 i ++ (m, k) ∷ []) after m u) (λ t. Look (who t) (which t))
      (makes_then before mid after (looks_upto m 0 i) ((m, Look m i) ∷ []) m v u made (one_step mid after m (Look m i) u step)))

  pub lower_more : NonePosted before m i → IsNotPosted x → IfSome mid (λ w. state_of (word_shown (w.slot m i)) ≡ x) → NonePosted before m (i + 1)
  lower_more lower not stood k lt = ⊎_elim (λ below. lower k below)
      (λ above.
      let same : k ≡ i = omega (arith, above, lt) in (
        x,
        not,
        subst (λ (n : ℕ). Found before m n x) (sym same)
            (found_back before mid m 0 i i v x made (found_at mid m i m i x (sym (own_member m i low)) (sym (own_slot i low)) stood)),
      ))
      (cases_lt k i)
