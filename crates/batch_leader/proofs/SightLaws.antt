-- What a leader's view has of its round, as it grows.
use Rattle.std.proofs.Common.{◌≡◌, ⊎_elim, ℕ, ◌+◌, List, [], ◌∷◌, ◌++◌, inl, sym, ◌∙◌, ap, subst, arith, append-nil, append_assoc}
use Rattle.std.proofs.lemmas.Bool.{cases_lt}
use Rattle.group_laws.proofs.Clients.{In-append_left, In-append_right}
use Rattle.group_laws.specs.MemberViews.{View}
use Rattle.group_laws.specs.declared.types.Seen.{Seen}
use Rattle.group_laws.specs.declared.types.Seen.TheVariants.{Slot}
use Rattle.group_laws.specs.declared.types.SlotWord.{SlotWord}
use Rattle.group_board.specs.Told.{state_of}
use Rattle.group_board.specs.Views.{after_find}
use Rattle.group_board.specs.declared.board.SlotState.{SlotState}
use Rattle.batch_leader.specs.Rounds.{member_at, slot_at}
use Rattle.batch_leader.specs.Leading.{IsFoundIn, Saw}

-- nothing was seen yet
pub saw_none : (v : View) (m a : ℕ) (P : ℕ → SlotState → Type 0) → Saw v v m a a P
saw_none v m a P = record {
  looks = [];
  more = sym (append-nil v.looked);
  found = λ i ge lt. absurd (omega (arith, ge, lt));
}

-- one look more
pub saw_one : (v u : View) (m a who which : ℕ) (word : SlotWord) (x : SlotState) (P : ℕ → SlotState → Type 0) → who ≡ member_at m a → which ≡ slot_at a → state_of word ≡ x → u ≡ after_find (Slot who which word) v → P a x → Saw v u m a (a + 1) P
saw_one v u m a who which word x P at_member at_slot shows view is = record {
  looks = Slot who which word ∷ [];
  more = ap (λ (w : View). w.looked) view;
  found = λ i ge lt.
      let here : i ≡ a = omega (arith, ge, lt) in (
        x,
        subst (λ (n : ℕ). P n x) (sym here) is,
        (word, shows, inl (λ t. Slot ((ap (member_at m) here ∙ sym at_member) t) ((ap slot_at here ∙ sym at_slot) t) word)),
      );
}

found_left : (xs ys : List Seen) (m i : ℕ) (x : SlotState) → IsFoundIn xs m i x → IsFoundIn (xs ++ ys) m i x
found_left xs ys m i x f = (f.0, f.1, In-append_left (Slot (member_at m i) (slot_at i) f.0) xs ys f.2)

found_right : (xs ys : List Seen) (m i : ℕ) (x : SlotState) → IsFoundIn ys m i x → IsFoundIn (xs ++ ys) m i x
found_right xs ys m i x f = (f.0, f.1, In-append_right (Slot (member_at m i) (slot_at i) f.0) xs ys f.2)

-- what was seen before, and what now
pub saw_then : (v u t : View) (m a b c : ℕ) (P : ℕ → SlotState → Type 0) → Saw v u m a b P → Saw u t m b c P → Saw v t m a c P
saw_then v u t m a b c P before now = record {
  looks = before.looks ++ now.looks;
  more = now.more ∙ ap (λ (xs : List Seen). xs ++ now.looks) before.more ∙ append_assoc v.looked before.looks now.looks;
  found = λ i ge lt. ⊎_elim (λ low.
      let f = before.found i ge low in
      (f.0, f.1, found_left before.looks now.looks m i f.0 f.2))
      (λ high.
      let f = now.found i high lt in
      (f.0, f.1, found_right before.looks now.looks m i f.0 f.2))
      (cases_lt i b);
}

-- and for something weaker that they show
pub saw_weaker : (v u : View) (m a b : ℕ) (P Q : ℕ → SlotState → Type 0) → ((i : ℕ) (x : SlotState) → P i x → Q i x) → Saw v u m a b P → Saw v u m a b Q
saw_weaker v u m a b P Q weaker saw = record {
  looks = saw.looks;
  more = saw.more;
  found = λ i ge lt. (let f = saw.found i ge lt in (f.0, weaker i f.0 f.1, f.2));
}
