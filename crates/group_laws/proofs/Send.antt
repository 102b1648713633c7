-- A Send keeps the invariant.
use Rattle.std.proofs.Common.{◌≡◌, ℕ, true, false, [], Some, None, ◌⊎◌, inl, inr, refl, sym, ap, ◌∙◌, subst}
use Rattle.std.proofs.lemmas.Bool.{false_from_ne_true, cases_Bool}
use Rattle.log_entry.specs.declared.entry.EntryName.{EntryName}
use Rattle.group_laws.specs.declared.types.Seen.{Seen}
use Rattle.store_image.specs.Facts.{In}
use Rattle.group_laws.specs.Places.{owner}
use Rattle.group_laws.specs.Updates.{has}
use Rattle.group_laws.specs.State.{Notices, Group}
use Rattle.group_laws.specs.Invariant.{IsGone, IsKept, Lawful}
use Rattle.group_laws.specs.Steps.{CanSend, sends}
use Rattle.group_laws.proofs.Names.{guard_cases, guard_into, has_In, In_has}
use Rattle.group_laws.proofs.Puts.{if_cases, if2_cases, if2_into, cond_cases, cond_into}

module _ (w : Group) (m to : ℕ) (n : Notices) (L : Lawful w) (can : CanSend w m to n) where
  abbrev new : Group
  new = sends w m to n

  looked_was : (n : ℕ) (x : Seen) → In x (new.looked n) → ((n ≡ m) → ⊥) × In x (w.looked n)
  looked_was n x q = elim (if_cases (In x) m [] (w.looked n) n q) [ inl p ↦ absurd p.1 | inr p ↦ p ]

  empty : w.mail m to ≡ None
  empty = L.looks.empty_seen m to can.seen

  told_was : (k v : ℕ) → new.told k v ≡ true → (w.told k v ≡ true) ⊎ (has n.dead k v ≡ true)
  told_was k v q = elim (cond_cases (λ u. u ≡ true) (has n.dead k v) true (w.told k v) q) [ inl i ↦ inr i.0 | inr i ↦ inl i.1 ]

  told_stays : (k v : ℕ) → w.told k v ≡ true → new.told k v ≡ true
  told_stays k v q = cond_into (λ u. u ≡ true) (has n.dead k v) true (w.told k v) (λ _. refl) (λ _. q)

  told_new : (k v : ℕ) → has n.dead k v ≡ true → new.told k v ≡ true
  told_new k v t = cond_into (λ u. u ≡ true) (has n.dead k v) true (w.told k v) (λ _. refl) (λ f. absurd (cc (t, f)))

  leaving_was : (h k v : ℕ) → new.leaving h k v ≡ true → (w.leaving h k v ≡ true) × (h ≡ m → has n.gone k v ≡ true → ⊥)
  leaving_was h k v q = elim (guard_cases (λ u. u ≡ true) m (has n.gone k v) false (w.leaving h k v) h q) [ inl i ↦ absurd (cc (i.2)) | inr i ↦ (i.1, i.0) ]

  mail_was : (a b : ℕ) (y : Notices) → new.mail a b ≡ Some y → ((a ≡ m) × (b ≡ to) × (Some n ≡ Some y)) ⊎ (((a ≡ m) → (b ≡ to) → ⊥) × (w.mail a b ≡ Some y))
  mail_was a b y = if2_cases (λ u. u ≡ Some y) m to (Some n) (w.mail a b) a b

  mail_stays : (a b : ℕ) (y : Notices) → w.mail a b ≡ Some y → new.mail a b ≡ Some y
  mail_stays a b y q = if2_into (λ u. u ≡ Some y) m to (Some n) (w.mail a b) a b (λ i j. absurd (let none = empty in let full : w.mail m to ≡ Some y = rw (i, j) at q in cc (none, full))) (λ _. q)

  mail_new : (a b : ℕ) → a ≡ m → b ≡ to → new.mail a b ≡ Some n
  mail_new a b i j = if2_into (λ u. u ≡ Some n) m to (Some n) (w.mail a b) a b (λ _ _. refl) (λ ne. absurd (ne i j))

  gone_was : (h k v : ℕ) → IsGone new h k v → ((h ≡ m) × (has n.gone k v ≡ true)) ⊎ IsGone w h k v
  gone_was h k v g = elim (mail_was h (owner w.place k) g.0 g.1) [
    | inl i ↦ let is : g.0 ≡ n = cc (i.2) in inl (i.0, In_has n.gone _ (subst (λ (y : Notices). In (record { key = k; version = v }) y.gone) is g.2))
    | inr i ↦ inr (g.0, i.1, g.2)
  ]

  new_dead : (y : Notices) (x : EntryName) → y ≡ n → In x y.dead → has n.dead x.key x.version ≡ true
  new_dead y x is i = In_has n.dead x (subst (λ (y : Notices). In x y.dead) is i)

  pub keeps : Lawful new
  keeps = record {
    place = L.place;
    slots = assumption;
    logs = assumption;
    cells = assumption;
    blocks = assumption;
    counts = assumption;
    keys = record {
      under_key = L.keys.under_key;
      next_version = L.keys.next_version;
      spelled = L.keys.spelled;
      not_above = L.keys.not_above;
      no_cell = L.keys.no_cell;
      no_names = L.keys.no_names;
      told_present = λ k v q. elim (told_was k v q) [ inl i ↦ L.keys.told_present k v i | inr i ↦ (to, (can.dead k v i).2) ];
    };
    looks = record {
      holder_member = L.looks.holder_member;
      holds_is = L.looks.holds_is;
      posted_seen = λ n b t o h q. L.looks.posted_seen n b t o h (looked_was n _ q).1;
      done_seen = λ n t h q. L.looks.done_seen n t h (looked_was n _ q).1;
      failed_seen = λ n t q. L.looks.failed_seen n t (looked_was n _ q).1;
      empty_seen = λ o b q. let was = looked_was o _ q in if2_into (λ u. u ≡ None) m to (Some n) (w.mail o b) o b (λ i _. absurd (was.0 i)) (λ _. L.looks.empty_seen o b was.1);
      full_seen = λ o a q. if2_into (λ u. u ≡ None → ⊥) m to (Some n) (w.mail a o) a o (λ _ _ z. absurd (cc z)) (λ _. L.looks.full_seen o a (looked_was o _ q).1);
    };
    standing = record {
      stands = λ k v h q. elim (L.standing.stands k v h q) [
        | inl i ↦ inl i
        | inr i ↦ elim i [
          | inl j ↦ elim (cases_Bool (has n.gone k v)) [
            | inl t ↦ let is = can.gone k v t in let old = L.standing.away m k v (inl is.0) in let at : h ≡ m = let p = old.0 in cc (p, q) in inr (inr (n, mail_new h (owner w.place k) at is.1, has_In n.gone k v t))
            | inr f ↦ inr (inl (guard_into (λ u. u ≡ true) m (has n.gone k v) false (w.leaving h k v) h (λ _ t. absurd (cc (t, f))) (λ _. j)))
          ]
          | inr j ↦ inr (inr (j.0, mail_stays h (owner w.place k) j.0 j.1, j.2))
        ]
      ];
      away = λ h k v q. let old = L.standing.away h k v (elim q [ inl i ↦ inl (leaving_was h k v i).0 | inr i ↦ elim (gone_was h k v i) [ inl j ↦ inl (rw j.0 ((can.gone k v j.1).0)) | inr j ↦ inr j ] ]) in (old.0, told_stays k v old.1, old.2);
      gone_home = λ a b y x q i. elim (mail_was a b y q) [
        | inl j ↦ let is : y ≡ n = cc (j.2) in (can.gone x.key x.version (In_has n.gone x (subst (λ (y : Notices). In x y.gone) is i))).1 ∙ sym j.1
        | inr j ↦ L.standing.gone_home a b y x j.1 i
      ];
      leaving_other = λ h k v q. L.standing.leaving_other h k v (leaving_was h k v q).0;
      not_both = λ h k v q g. let was = leaving_was h k v q in elim (gone_was h k v g) [ inl j ↦ was.1 j.0 j.1 | inr j ↦ L.standing.not_both h k v was.0 j ];
      full = λ a b y q. elim (mail_was a b y q) [
        | inl j ↦ if2_into (λ u. u ≡ y) m to n (w.mailed a b) a b (λ _ _. cc (j.2)) (λ ne. absurd (ne j.0 j.1))
        | inr j ↦ if2_into (λ u. u ≡ y) m to n (w.mailed a b) a b (λ i k. absurd (j.0 i k)) (λ _. L.standing.full a b y j.1)
      ];
      no_self = λ a. if2_into (λ u. u ≡ None) m to (Some n) (w.mail a a) a a (λ i j. absurd (can.other (sym j ∙ i))) (λ _. L.standing.no_self a);
    };
    deaths = record {
      doomed_dead = L.deaths.doomed_dead;
      dead_kept = L.deaths.dead_kept;
      dead_is = λ h k v q. let old = L.deaths.dead_is h k v q in (told_stays k v old.0, old.1, old.2);
      mail_is = λ a h y x q i. elim (mail_was a h y q) [
        | inl j ↦ let t = new_dead y x (cc (j.2)) i in let is = can.dead x.key x.version t in (told_new _ _ t, is.2 ∙ ap Some (sym j.1), is.1)
        | inr j ↦ let old = L.deaths.mail_is a h y x j.1 i in (told_stays _ _ old.0, old.1, old.2)
      ];
      mail_from = λ a h y x q i. elim (mail_was a h y q) [
        | inl j ↦ let is = can.dead x.key x.version (new_dead y x (cc (j.2)) i) in (
          is.0 ∙ sym j.0,
          false_from_ne_true _ (λ z. absurd (let told = (L.deaths.dead_is h x.key x.version z).0 in let f = is.3 in cc (told, f))),
          elim (L.standing.stands x.key x.version to is.2) [ inl k ↦ subst (λ (h : ℕ). IsKept w h x.key x.version) (sym j.1) k | inr k ↦ absurd (let told = (L.standing.away to x.key x.version k).1 in let f = is.3 in cc (told, f)) ],
        )
        | inr j ↦ L.deaths.mail_from a h y x j.1 i
      ];
    };
  }
