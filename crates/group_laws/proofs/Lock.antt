-- Lock, Look and Unlock keep the invariant.
use Rattle.std.proofs.Common.{◌≡◌, ℕ, true, false, [], ◌∷◌, ◌++◌, Some, None, ◌⊎◌, inl, inr, arith, refl, sym, ap, subst}
use Rattle.group_laws.specs.declared.types.Seen.{Seen}
use Rattle.store_image.specs.Facts.{In}
use Rattle.group_laws.specs.State.{Group, word_shown}
use Rattle.group_laws.specs.Invariant.{Lawful}
use Rattle.group_laws.specs.Steps.{CanUnlock, IsMember, finds, locks, unlocks}
use Rattle.group_laws.specs.declared.types.Seen.TheVariants.{Slot as SeenSlot, Mail as SeenMail, Holder as SeenHolder}
use Rattle.group_laws.proofs.Puts.{In-push, if_cases, if_into}

module _ (w : Group) (m : ℕ) (L : Lawful w) (member : IsMember w m) (free : w.holder ≡ None) where
  looked_was : (n : ℕ) (x : Seen) → In x ((locks w m).looked n) → ((n ≡ m) → ⊥) × In x (w.looked n)
  looked_was n x q = elim (if_cases (In x) m [] (w.looked n) n q) [ inl p ↦ absurd p.1 | inr p ↦ p ]

  pub locks_keeps : Lawful (locks w m)
  locks_keeps = record {
    place = L.place;
    keys = assumption;
    slots = assumption;
    logs = assumption;
    standing = assumption;
    cells = assumption;
    deaths = assumption;
    blocks = assumption;
    counts = assumption;
    looks = record {
      holder_member = λ h q. (let same : m ≡ h = cc q in rw (← same) member);
      holds_is = λ n. (
        λ q. elim (if_cases (λ b. b ≡ true) m true (w.holds n) n q) [ inl i ↦ ap Some (sym i.0) | inr i ↦ absurd (let h = (L.looks.holds_is n).0 i.1 in grind (arith, h, free)) ],
        λ q. if_into (λ b. b ≡ true) m true (w.holds n) n (λ _. refl) (λ ne. absurd (ne (cc (sym q)))),
      );
      posted_seen = λ n b t o h q. absurd ((looked_was n _ q).0 (cc (sym h)));
      done_seen = λ n t h q. L.looks.done_seen n t h (looked_was n _ q).1;
      failed_seen = λ n t q. L.looks.failed_seen n t (looked_was n _ q).1;
      empty_seen = λ n b q. L.looks.empty_seen n b (looked_was n _ q).1;
      full_seen = λ n b q. L.looks.full_seen n b (looked_was n _ q).1;
    };
  }

module _ (w : Group) (m : ℕ) (L : Lawful w) (can : CanUnlock w m) where
  unlooked_was : (n : ℕ) (x : Seen) → In x ((unlocks w m).looked n) → ((n ≡ m) → ⊥) × In x (w.looked n)
  unlooked_was n x q = elim (if_cases (In x) m [] (w.looked n) n q) [ inl p ↦ absurd p.1 | inr p ↦ p ]

  pub unlocks_keeps : Lawful (unlocks w m)
  unlocks_keeps = record {
    place = L.place;
    keys = assumption;
    slots = assumption;
    logs = assumption;
    standing = assumption;
    cells = assumption;
    deaths = assumption;
    blocks = assumption;
    counts = assumption;
    looks = record {
      holder_member = λ h q. absurd (cc q);
      holds_is = λ n. (
        λ q. elim (if_cases (λ b. b ≡ true) m false (w.holds n) n q) [ inl i ↦ absurd (cc (i.1)) | inr i ↦ absurd (let h = (L.looks.holds_is n).0 i.1 in let mine = (L.looks.holds_is m).0 can.holds in i.0 (cc (h, mine))) ],
        λ q. absurd (cc q),
      );
      posted_seen = λ n b t o h q. absurd (cc h);
      done_seen = λ n t h q. L.looks.done_seen n t h (unlooked_was n _ q).1;
      failed_seen = λ n t q. L.looks.failed_seen n t (unlooked_was n _ q).1;
      empty_seen = λ n b q. L.looks.empty_seen n b (unlooked_was n _ q).1;
      full_seen = λ n b q. L.looks.full_seen n b (unlooked_was n _ q).1;
    };
  }

module _ (w : Group) (m : ℕ) (y : Seen) (L : Lawful w) where
  found_was : (n : ℕ) (x : Seen) → In x ((finds w m y).looked n) → (x ≡ y) ⊎ In x (w.looked n)
  found_was n x q = elim (if_cases (In x) m (w.looked n ++ y ∷ []) (w.looked n) n q) [ inl p ↦ In-push x y (w.looked n) p.1 | inr p ↦ inr p.1 ]

  -- what was found is true of the state
  abbrev IsTrue_of : Seen → Type 0
  IsTrue_of (SeenSlot a s b) = b ≡ word_shown (w.slot a s)
  IsTrue_of (SeenMail a b full) = (full ≡ true → w.mail a b ≡ None → ⊥) × (full ≡ false → w.mail a b ≡ None)
  IsTrue_of (SeenHolder h) = w.holder ≡ Some h

  pub finds_keeps : IsTrue_of y → Lawful (finds w m y)
  finds_keeps t = record {
    place = L.place;
    keys = assumption;
    slots = assumption;
    logs = assumption;
    standing = assumption;
    cells = assumption;
    deaths = assumption;
    blocks = assumption;
    counts = assumption;
    looks = record {
      holder_member = L.looks.holder_member;
      holds_is = L.looks.holds_is;
      posted_seen = λ n b u o h q. elim (found_was n _ q) [ inl i ↦ sym (subst IsTrue_of (sym i) t) | inr i ↦ L.looks.posted_seen n b u o h i ];
      done_seen = λ n u h q. elim (found_was n _ q) [ inl i ↦ sym (subst IsTrue_of (sym i) t) | inr i ↦ L.looks.done_seen n u h i ];
      failed_seen = λ n u q. elim (found_was n _ q) [ inl i ↦ sym (subst IsTrue_of (sym i) t) | inr i ↦ L.looks.failed_seen n u i ];
      empty_seen = λ n b q. elim (found_was n _ q) [ inl i ↦ (subst IsTrue_of (sym i) t).1 refl | inr i ↦ L.looks.empty_seen n b i ];
      full_seen = λ n b q. elim (found_was n _ q) [ inl i ↦ (subst IsTrue_of (sym i) t).0 refl | inr i ↦ L.looks.full_seen n b i ];
    };
  }
