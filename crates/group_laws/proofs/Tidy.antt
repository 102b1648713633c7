-- The two rules on a member's own keys keep the invariant.
use Rattle.std.proofs.Common.{◌≡◌, ℕ, Bool, true, List, Some, inl, inr, sym, ap, ◌∙◌, subst}
use Rattle.std.proofs.lemmas.Bool.{false_from_ne_true}
use Rattle.log_entry.specs.declared.entry.Entry.{Entry}
use Rattle.group_laws.specs.State.{Group}
use Rattle.group_laws.specs.Invariant.{IsDead, IsKept, IsLast, Lawful}
use Rattle.group_laws.specs.Tidying.{IsSpent, IsTidy, TellsItself, tidies}
use Rattle.group_laws.specs.declared.types.Pending.{Pending}

module _ (w : Group) (m : ℕ) (l : ℕ → ℕ) (t : ℕ → ℕ → Bool) (d : ℕ → ℕ → ℕ → Bool) (L : Lawful w) (can : IsTidy w m l t d) where
  abbrev new : Group
  new = tidies w l t d

  -- where something is known of the key, it isn't forgotten
  same : (k : ℕ) → (IsSpent w m k → ⊥) → l k ≡ w.last k
  same k ne = elim (can.keeps k) [ inl i ↦ absurd (ne i.0) | inr i ↦ i ]

  same_present : (k v h : ℕ) → w.present k v ≡ Some h → l k ≡ w.last k
  same_present k v h p = same k (λ s. absurd (let none = s.2 v in cc (p, none)))

  same_pending : (k : ℕ) (p : Pending) → w.pending k ≡ Some p → l k ≡ w.last k
  same_pending k p q = same k (λ s. absurd (let none = s.3 in cc (q, none)))

  same_cell : (k : ℕ) (v : List ℕ) → w.cell k ≡ Some v → l k ≡ w.last k
  same_cell k v c = same k (λ s. absurd (let none = s.1 in cc (c, none)))

  told_stays : (k v : ℕ) → w.told k v ≡ true → t k v ≡ true
  told_stays k v q = (can.tells k v).1 (inl q)

  at_last : (k : ℕ) (x : Entry) → l k ≡ w.last k → IsLast w k x → IsLast new k x
  at_last k x e q = (q.0, rw e q.1, q.2, q.3, rw e q.4, rw e q.5)

  was_last : (k : ℕ) (x : Entry) → l k ≡ w.last k → IsLast new k x → IsLast w k x
  was_last k x e q = (q.0, rw e at q.1, q.2, q.3, rw e at q.4, rw e at q.5)

  is_dead : (k v : ℕ) → l k ≡ w.last k → IsDead w k v → IsDead new k v
  is_dead k v e (inl i) = inl (rw e i)
  is_dead k v e (inr i) = inr (i.0 ∙ sym e, i.1, i.2)

  -- what tells itself stands in the own log
  own_kept : (k v : ℕ) → TellsItself w m k v → IsKept w m k v
  own_kept k v own = elim (L.standing.stands k v m own.1) [
    | inl i ↦ i
    | inr i ↦ elim i [
      | inl j ↦ absurd (L.standing.leaving_other m k v j own.0)
      | inr j ↦ absurd (let none = L.standing.no_self m in let full : w.mail m m ≡ Some j.0 = rw own.0 at j.1 in cc (none, full))
    ]
  ]

  pub keeps : Lawful new
  keeps = record {
    place = L.place;
    slots = assumption;
    looks = assumption;
    logs = assumption;
    counts = assumption;
    keys = record {
      under_key = L.keys.under_key;
      next_version = λ k p q. rw (same_pending k p q) (L.keys.next_version k p q);
      spelled = L.keys.spelled;
      not_above = λ k v h p. rw (same_present k v h p) (L.keys.not_above k v h p);
      no_cell = λ k z. elim (can.keeps k) [ inl i ↦ i.0.1 | inr i ↦ L.keys.no_cell k (sym i ∙ z) ];
      no_names = λ k v z. elim (can.keeps k) [ inl i ↦ i.0.2 v | inr i ↦ L.keys.no_names k v (sym i ∙ z) ];
      told_present = λ k v q. elim ((can.tells k v).0 q) [ inl i ↦ L.keys.told_present k v i | inr i ↦ (m, i.1) ];
    };
    standing = record {
      stands = L.standing.stands;
      away = λ h k v q. let old = L.standing.away h k v q in (old.0, told_stays k v old.1, old.2);
      gone_home = L.standing.gone_home;
      leaving_other = L.standing.leaving_other;
      not_both = L.standing.not_both;
      full = L.standing.full;
      no_self = L.standing.no_self;
    };
    cells = record {
      value = λ k v c. let old = L.cells.value k v c in (old.0, at_last k old.0 (same_cell k v c) old.1, old.2);
      tombs = λ k h x c g i j. elim (can.keeps k) [
        | inl s ↦ elim (L.logs.known h x g) [
          | inl p ↦ absurd (let none = s.0.2 x.version in let at : w.present k x.version ≡ Some h = ap (λ (k : ℕ). w.present k x.version) (sym i) ∙ p in cc (at, none))
          | inr p ↦ absurd (let none = s.0.3 in let at : w.pending k ≡ Some (record { entry = x; slot = p.0 }) = ap w.pending (sym i) ∙ p.1 in cc (at, none))
        ]
        | inr s ↦ L.cells.tombs k h x c g i (j ∙ s)
      ];
      grave = λ k c z. elim (can.keeps k) [
        | inl s ↦ absurd (z s.1)
        | inr s ↦ elim (L.cells.grave k c (λ y. z (s ∙ y))) [ inl x ↦ inl (x.0, at_last k x.0 s x.1) | inr alone ↦ inr (λ v h p. alone v h p ∙ sym s) ]
      ];
    };
    deaths = record {
      doomed_dead = λ h k v q. (can.learns h k v).1 (inl (L.deaths.doomed_dead h k v q));
      dead_kept = λ h k v q. elim ((can.learns h k v).0 q) [ inl i ↦ L.deaths.dead_kept h k v i | inr i ↦ subst (λ (h : ℕ). IsKept w h k v) (sym i.0) (own_kept k v i.1) ];
      dead_is = λ h k v q. elim ((can.learns h k v).0 q) [
        | inl i ↦ let old = L.deaths.dead_is h k v i in (told_stays k v old.0, old.1, is_dead k v (same_present k v h old.1) old.2)
        | inr i ↦ ((can.tells k v).1 (inr i.1), i.1.1 ∙ ap Some (sym i.0), is_dead k v (same_present k v m i.1.1) i.1.2)
      ];
      mail_is = λ a h n x q i. let old = L.deaths.mail_is a h n x q i in (told_stays _ _ old.0, old.1, is_dead _ _ (same_present _ _ h old.1) old.2);
      mail_from = λ a h n x q i. let old = L.deaths.mail_from a h n x q i in (
        old.0,
        false_from_ne_true _ (λ y. elim ((can.learns h x.key x.version).0 y) [
          | inl j ↦ absurd (let f = old.1 in cc (j, f))
          | inr j ↦ absurd (let none = L.standing.no_self m in let full : w.mail m m ≡ Some n = rw (sym old.0 ∙ j.1.0, j.0) at q in cc (none, full))
        ]),
        old.2,
      );
    };
    blocks = record {
      lies = L.blocks.lies;
      distinct = L.blocks.distinct;
      awaited = L.blocks.awaited;
      used = λ n p b q. elim (L.blocks.used n p b q) [ inl i ↦ inl (i.0, (i.1.0, at_last b.key i.1.0 (same_cell b.key b.bytes i.0) i.1.1, i.1.2)) | inr i ↦ inr i ];
      differ = λ k p v i. L.blocks.differ k p v (i.0, (i.1.0, was_last k i.1.0 (same_cell k v i.0) i.1.1, i.1.2));
    };
  }
