-- A Receive keeps the invariant.
use Rattle.std.proofs.Common.{◌≡◌, ℕ, true, false, [], Some, None, ◌⊎◌, inl, inr, refl, sym, ap, ◌∙◌, subst}
use Rattle.std.proofs.lemmas.Bool.{false_from_ne_true}
use Rattle.log_entry.specs.declared.entry.Entry.{Entry}
use Rattle.group_laws.specs.declared.types.Seen.{Seen}
use Rattle.store_image.specs.Facts.{In}
use Rattle.group_laws.specs.Places.{owner}
use Rattle.group_laws.specs.Updates.{has}
use Rattle.group_laws.specs.State.{Notices, Group}
use Rattle.group_laws.specs.Invariant.{IsDead, IsGone, IsKept, IsLast, IsLogged, Lawful}
use Rattle.group_laws.specs.Steps.{CanReceive, receives}
use Rattle.group_laws.proofs.Names.{guard_cases, guard_into, has_In, In_has}
use Rattle.group_laws.proofs.Puts.{if_cases, if2_cases, if2_into}

module _ (w : Group) (m from : ℕ) (n : Notices) (L : Lawful w) (can : CanReceive w m from n) where
  abbrev new : Group
  new = receives w m from n

  looked_was : (n : ℕ) (x : Seen) → In x (new.looked n) → ((n ≡ m) → ⊥) × In x (w.looked n)
  looked_was n x q = elim (if_cases (In x) m [] (w.looked n) n q) [ inl p ↦ absurd p.1 | inr p ↦ p ]

  -- what is known of a gone name
  is_gone : (k v : ℕ) → has n.gone k v ≡ true → (owner w.place k ≡ m) × IsGone w from k v
  is_gone k v t = let i = has_In n.gone k v t in let o = L.standing.gone_home from m n _ can.full i in (o, (n, rw o (can.full), i))

  left : (k v : ℕ) → has n.gone k v ≡ true → (w.present k v ≡ Some from) × (w.told k v ≡ true) × ((e : Entry) → IsLogged w from e → e.key ≡ k → e.version ≡ v → ⊥)
  left k v t = L.standing.away from k v (inr (is_gone k v t).1)

  -- a name that stands in a log isn't gone
  stays : (k v h : ℕ) → w.present k v ≡ Some h → IsKept w h k v → owner w.place k ≡ m → has n.gone k v ≡ true → ⊥
  stays k v h p x i t = let old = left k v t in let at : h ≡ from = let q = old.0 in cc (p, q) in old.2 x.0 (inl (rw at at x.1)) x.2 x.3

  present_was : (k v h : ℕ) → new.present k v ≡ Some h → (w.present k v ≡ Some h) × (owner w.place k ≡ m → has n.gone k v ≡ true → ⊥)
  present_was k v h q = elim (guard_cases (λ u. u ≡ Some h) m (has n.gone k v) None (w.present k v) (owner w.place k) q) [ inl i ↦ absurd (cc (i.2)) | inr i ↦ (i.1, i.0) ]

  present_stays : (k v h : ℕ) → (owner w.place k ≡ m → has n.gone k v ≡ true → ⊥) → w.present k v ≡ Some h → new.present k v ≡ Some h
  present_stays k v h ne q = guard_into (λ u. u ≡ Some h) m (has n.gone k v) None (w.present k v) (owner w.place k) (λ i t. absurd (ne i t)) (λ _. q)

  told_stays : (k v : ℕ) → (owner w.place k ≡ m → has n.gone k v ≡ true → ⊥) → w.told k v ≡ true → new.told k v ≡ true
  told_stays k v ne q = guard_into (λ u. u ≡ true) m (has n.gone k v) false (w.told k v) (owner w.place k) (λ i t. absurd (ne i t)) (λ _. q)

  told_was : (k v : ℕ) → new.told k v ≡ true → (w.told k v ≡ true) × (owner w.place k ≡ m → has n.gone k v ≡ true → ⊥)
  told_was k v q = elim (guard_cases (λ u. u ≡ true) m (has n.gone k v) false (w.told k v) (owner w.place k) q) [ inl i ↦ absurd (cc (i.2)) | inr i ↦ (i.1, i.0) ]

  mail_was : (a b : ℕ) (y : Notices) → new.mail a b ≡ Some y → ((a ≡ from → b ≡ m → ⊥) × (w.mail a b ≡ Some y))
  mail_was a b y q = elim (if2_cases (λ u. u ≡ Some y) from m None (w.mail a b) a b q) [ inl i ↦ absurd (cc (i.2)) | inr i ↦ i ]

  gone_was : (h k v : ℕ) → IsGone new h k v → IsGone w h k v
  gone_was h k v g = (g.0, (mail_was h (owner w.place k) g.0 g.1).1, g.2)

  dead_was : (h k v : ℕ) → new.dead h k v ≡ true → ((h ≡ m) × (has n.dead k v ≡ true)) ⊎ (w.dead h k v ≡ true)
  dead_was h k v q = elim (guard_cases (λ u. u ≡ true) m (has n.dead k v) true (w.dead h k v) h q) [ inl i ↦ inl (i.0, i.1) | inr i ↦ inr i.1 ]

  dead_stays : (h k v : ℕ) → w.dead h k v ≡ true → new.dead h k v ≡ true
  dead_stays h k v q = guard_into (λ u. u ≡ true) m (has n.dead k v) true (w.dead h k v) h (λ _ _. refl) (λ _. q)

  is_dead : (k v : ℕ) → IsDead w k v → IsDead new k v
  is_dead k v (inl i) = inl i
  is_dead k v (inr i) = inr (i.0, i.1, λ u h p. i.2 u h (present_was k u h p).0)

  is_last : (k : ℕ) (x : Entry) → IsLast w k x → IsLast new k x
  is_last k x q = (q.0, present_stays k _ q.0 (stays k _ q.0 q.1 (x, q.2, q.3, q.4)) q.1, q.2, q.3, q.4, q.5)

  was_last : (k : ℕ) (x : Entry) → IsLast new k x → IsLast w k x
  was_last k x q = (q.0, (present_was k _ q.0 q.1).0, q.2, q.3, q.4, q.5)

  pub keeps : Lawful new
  keeps = record {
    place = L.place;
    slots = assumption;
    counts = assumption;
    keys = record {
      under_key = L.keys.under_key;
      next_version = L.keys.next_version;
      spelled = L.keys.spelled;
      no_cell = L.keys.no_cell;
      not_above = λ k v h q. L.keys.not_above k v h (present_was k v h q).0;
      no_names = λ k v z. guard_into (λ u. u ≡ None) m (has n.gone k v) None (w.present k v) (owner w.place k) (λ _ _. refl) (λ _. L.keys.no_names k v z);
      told_present = λ k v q. let was = told_was k v q in let old = L.keys.told_present k v was.0 in (old.0, present_stays k v old.0 was.1 old.1);
    };
    looks = record {
      holder_member = L.looks.holder_member;
      holds_is = L.looks.holds_is;
      posted_seen = λ n b t o h q. L.looks.posted_seen n b t o h (looked_was n _ q).1;
      done_seen = λ n t h q. L.looks.done_seen n t h (looked_was n _ q).1;
      failed_seen = λ n t q. L.looks.failed_seen n t (looked_was n _ q).1;
      empty_seen = λ o b q. if2_into (λ u. u ≡ None) from m None (w.mail o b) o b (λ _ _. refl) (λ _. L.looks.empty_seen o b (looked_was o _ q).1);
      full_seen = λ o a q. let was = looked_was o _ q in if2_into (λ u. u ≡ None → ⊥) from m None (w.mail a o) a o (λ _ j. absurd (was.0 j)) (λ _. L.looks.full_seen o a was.1);
    };
    logs = record {
      group = L.logs.group;
      one_log = L.logs.one_log;
      apart = L.logs.apart;
      not_posted = L.logs.not_posted;
      done_kept = L.logs.done_kept;
      known = λ h x l. elim (L.logs.known h x l) [
        | inl p ↦ inl (present_stays _ _ h (λ i t. let old = left x.key x.version t in let at : h ≡ from = let q = old.0 in cc (p, q) in old.2 x (rw at at l) refl refl) p)
        | inr p ↦ inr p
      ];
    };
    standing = record {
      stands = λ k v h q. let was = present_was k v h q in elim (L.standing.stands k v h was.0) [
        | inl i ↦ inl i
        | inr i ↦ inr (elim i [
          | inl j ↦ inl j
          | inr j ↦ inr (
            j.0,
            if2_into (λ u. u ≡ Some j.0) from m None (w.mail h (owner w.place k)) h (owner w.place k)
                (λ a b. absurd (was.1 b (let full = can.full in let at : w.mail from m ≡ Some j.0 = rw (a, b) at j.1 in let is : j.0 ≡ n = cc (full, at) in In_has n.gone _ (subst (λ (y : Notices). In (record { key = k; version = v }) y.gone) is j.2))))
                (λ _. j.1),
            j.2,
          )
        ])
      ];
      away = λ h k v q. let was : (w.leaving h k v ≡ true) ⊎ IsGone w h k v = elim q [ inl i ↦ inl i | inr i ↦ inr (gone_was h k v i) ] in
          let old = L.standing.away h k v was in
          let ne : owner w.place k ≡ m → has n.gone k v ≡ true → ⊥ = λ o t. let at : h ≡ from = let a = (left k v t).0 in let b = old.0 in cc (a, b) in elim q [
            | inl i ↦ L.standing.not_both from k v (rw at at i) (is_gone k v t).1
            | inr i ↦ (mail_was h (owner w.place k) i.0 i.1).0 at o
          ] in
          (present_stays k v h ne old.0, told_stays k v ne old.1, old.2);
      gone_home = λ a b y x q. L.standing.gone_home a b y x (mail_was a b y q).1;
      leaving_other = L.standing.leaving_other;
      not_both = λ h k v q g. L.standing.not_both h k v q (gone_was h k v g);
      full = λ a b y q. L.standing.full a b y (mail_was a b y q).1;
      no_self = λ a. if2_into (λ u. u ≡ None) from m None (w.mail a a) a a (λ _ _. refl) (λ _. L.standing.no_self a);
    };
    cells = record {
      value = λ k v c. let old = L.cells.value k v c in (old.0, is_last k old.0 old.1, old.2);
      tombs = L.cells.tombs;
      grave = λ k c z. elim (L.cells.grave k c z) [ inl x ↦ inl (x.0, is_last k x.0 x.1) | inr alone ↦ inr (λ v h p. alone v h (present_was k v h p).0) ];
    };
    deaths = record {
      doomed_dead = λ h k v q. dead_stays h k v (L.deaths.doomed_dead h k v q);
      dead_kept = λ h k v q. elim (dead_was h k v q) [
        | inl i ↦ subst (λ (h : ℕ). IsKept w h k v) (sym i.0) (L.deaths.mail_from from m n _ can.full (has_In n.dead k v i.1)).2
        | inr i ↦ L.deaths.dead_kept h k v i
      ];
      dead_is = λ h k v q. elim (dead_was h k v q) [
        | inl i ↦ let x = has_In n.dead k v i.1 in let old = L.deaths.mail_is from m n _ can.full x in let ne = stays k v m old.1 (L.deaths.mail_from from m n _ can.full x).2 in
            (told_stays k v ne old.0, present_stays k v m ne old.1 ∙ ap Some (sym i.0), is_dead k v old.2)
        | inr i ↦ let old = L.deaths.dead_is h k v i in let ne = stays k v h old.1 (L.deaths.dead_kept h k v i) in (told_stays k v ne old.0, present_stays k v h ne old.1, is_dead k v old.2)
      ];
      mail_is = λ a h y x q i. let was = mail_was a h y q in let old = L.deaths.mail_is a h y x was.1 i in let ne = stays _ _ h old.1 (L.deaths.mail_from a h y x was.1 i).2 in
          (told_stays _ _ ne old.0, present_stays _ _ h ne old.1, is_dead _ _ old.2);
      mail_from = λ a h y x q i. let was = mail_was a h y q in let old = L.deaths.mail_from a h y x was.1 i in (
        old.0,
        false_from_ne_true _ (λ d. elim (dead_was h x.key x.version d) [
          | inl j ↦ was.0 (sym old.0 ∙ (L.deaths.mail_from from m n _ can.full (has_In n.dead _ _ j.1)).0) j.0
          | inr j ↦ absurd (let f = old.1 in cc (j, f))
        ]),
        old.2,
      );
    };
    blocks = record {
      lies = L.blocks.lies;
      distinct = L.blocks.distinct;
      awaited = L.blocks.awaited;
      used = λ o p b q. elim (L.blocks.used o p b q) [ inl i ↦ inl (i.0, (i.1.0, is_last b.key i.1.0 i.1.1, i.1.2)) | inr i ↦ inr i ];
      differ = λ k p v i. L.blocks.differ k p v (i.0, (i.1.0, was_last k i.1.0 i.1.1, i.1.2));
    };
  }
