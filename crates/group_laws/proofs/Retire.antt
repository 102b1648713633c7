-- A Retire keeps the invariant.
use Rattle.std.proofs.Common.{◌≡◌, ℕ, true, false, not, ◌&&◌, eqb, List, [], Some, None, ◌⊎◌, inl, inr, refl, sym, ap, ◌∙◌, subst}
use Rattle.std.proofs.lemmas.Bool.{false_from_ne_true, cases_Bool, and_parts, and_from, eqb-true, eq-eqb}
use Rattle.log_entry.specs.declared.entry.Entry.{Entry}
use Rattle.log_entry.specs.declared.entry.EntryName.{EntryName}
use Rattle.group_laws.specs.declared.types.Seen.{Seen}
use Rattle.store_image.specs.Facts.{In}
use Rattle.group_laws.specs.Places.{owner}
use Rattle.group_laws.specs.Updates.{has, without}
use Rattle.group_laws.specs.State.{Notices, Group}
use Rattle.group_laws.specs.Invariant.{IsDead, IsKept, IsLast, IsLogged, Lawful}
use Rattle.group_laws.specs.Steps.{CanRetire, retires}
use Rattle.group_laws.proofs.Names.{guard_cases, guard_into, without_was, without_stays}
use Rattle.group_laws.proofs.Puts.{if_cases, if_into}

module _ (w : Group) (m : ℕ) (ns : List EntryName) (L : Lawful w) (can : CanRetire w m ns) where
  abbrev new : Group
  new = retires w m ns

  looked_was : (n : ℕ) (x : Seen) → In x (new.looked n) → ((n ≡ m) → ⊥) × In x (w.looked n)
  looked_was n x q = elim (if_cases (In x) m [] (w.looked n) n q) [ inl p ↦ absurd p.1 | inr p ↦ p ]

  -- what is known of a name that goes
  dead : (k v : ℕ) → has ns k v ≡ true → w.dead m k v ≡ true
  dead k v t = L.deaths.doomed_dead m k v (can.doomed k v t)

  here : (k v : ℕ) → has ns k v ≡ true → w.present k v ≡ Some m
  here k v t = (L.deaths.dead_is m k v (dead k v t)).1

  home : (k v h : ℕ) → has ns k v ≡ true → w.present k v ≡ Some h → h ≡ m
  home k v h t p = let q = here k v t in cc (p, q)

  unnamed : (h k v : ℕ) → (h ≡ m → has ns k v ≡ true → ⊥) → h ≡ m → has ns k v ≡ false
  unnamed h k v ne i = false_from_ne_true _ (λ t. ne i t)

  kept_was : (h : ℕ) (x : Entry) → In x (new.kept h) → In x (w.kept h) × (h ≡ m → has ns x.key x.version ≡ true → ⊥)
  kept_was h x q = elim (if_cases (In x) m (without ns (w.kept h)) (w.kept h) h q) [
    | inl i ↦ let old = without_was ns (w.kept h) x i.1 in (old.0, λ _ t. absurd (let f = old.1 in cc (t, f)))
    | inr i ↦ (i.1, λ j _. i.0 j)
  ]

  kept_stays : (h : ℕ) (x : Entry) → (h ≡ m → has ns x.key x.version ≡ true → ⊥) → In x (w.kept h) → In x (new.kept h)
  kept_stays h x ne q = if_into (In x) m (without ns (w.kept h)) (w.kept h) h (λ i. without_stays ns (w.kept h) x (unnamed h _ _ ne i) q) (λ _. q)

  logged_was : (h : ℕ) (x : Entry) → IsLogged new h x → IsLogged w h x
  logged_was h x (inl q) = inl (kept_was h x q).0
  logged_was h x (inr q) = inr q

  -- a name that goes stands in the log no more
  gone : (h : ℕ) (x : Entry) → IsLogged new h x → h ≡ m → has ns x.key x.version ≡ true → ⊥
  gone h x (inl q) i t = (kept_was h x q).1 i t
  gone h x (inr q) i t =
      let k = L.deaths.dead_kept m x.key x.version (dead _ _ t) in
      let f : In x (w.flying m) = rw i at q in
      let same = (L.logs.one_log m m k.0 x (inl k.1) (inr f) k.2 k.3).1 in
      L.logs.apart m x (subst (λ (y : Entry). In y (w.kept m)) same k.1) f

  present_was : (k v h : ℕ) → new.present k v ≡ Some h → (w.present k v ≡ Some h) × (owner w.place k ≡ m → has ns k v ≡ true → ⊥)
  present_was k v h q = elim (guard_cases (λ u. u ≡ Some h) m (has ns k v) None (w.present k v) (owner w.place k) q) [ inl i ↦ absurd (cc (i.2)) | inr i ↦ (i.1, i.0) ]

  present_stays : (k v h : ℕ) → (owner w.place k ≡ m → has ns k v ≡ true → ⊥) → w.present k v ≡ Some h → new.present k v ≡ Some h
  present_stays k v h ne q = guard_into (λ u. u ≡ Some h) m (has ns k v) None (w.present k v) (owner w.place k) (λ i t. absurd (ne i t)) (λ _. q)

  told_stays : (k v : ℕ) → (owner w.place k ≡ m → has ns k v ≡ true → ⊥) → w.told k v ≡ true → new.told k v ≡ true
  told_stays k v ne q = guard_into (λ u. u ≡ true) m (has ns k v) false (w.told k v) (owner w.place k) (λ i t. absurd (ne i t)) (λ _. q)

  told_was : (k v : ℕ) → new.told k v ≡ true → (w.told k v ≡ true) × (owner w.place k ≡ m → has ns k v ≡ true → ⊥)
  told_was k v q = elim (guard_cases (λ u. u ≡ true) m (has ns k v) false (w.told k v) (owner w.place k) q) [ inl i ↦ absurd (cc (i.2)) | inr i ↦ (i.1, i.0) ]

  leaving_was : (h k v : ℕ) → new.leaving h k v ≡ true → ((h ≡ m) × (owner w.place k ≡ m → ⊥) × (has ns k v ≡ true)) ⊎ (w.leaving h k v ≡ true)
  leaving_was h k v q = elim (guard_cases (λ u. u ≡ true) m (not (eqb (owner w.place k) m) && has ns k v) true (w.leaving h k v) h q) [
    | inl i ↦ let both = and_parts (not (eqb (owner w.place k) m)) (has ns k v) i.1 in inl (i.0, not_own k both.0, both.1)
    | inr i ↦ inr i.1
  ]
    where
      not_own : (k : ℕ) → not (eqb (owner w.place k) m) ≡ true → owner w.place k ≡ m → ⊥
      not_own k t i = let e = eq-eqb (owner w.place k) m i in absurd (let z = ap not e in cc (t, z))

  leaving_new : (h k v : ℕ) → h ≡ m → (owner w.place k ≡ m → ⊥) → has ns k v ≡ true → new.leaving h k v ≡ true
  leaving_new h k v i ne t = guard_into (λ u. u ≡ true) m (not (eqb (owner w.place k) m) && has ns k v) true (w.leaving h k v) h (λ _ _. refl)
      (λ no_way. absurd (no_way i (and_from (not (eqb (owner w.place k) m)) (has ns k v) (ap not (false_from_ne_true (eqb (owner w.place k) m) (λ e. ne (eqb-true (owner w.place k) m e)))) t)))

  leaving_stays : (h k v : ℕ) → w.leaving h k v ≡ true → new.leaving h k v ≡ true
  leaving_stays h k v q = guard_into (λ u. u ≡ true) m (not (eqb (owner w.place k) m) && has ns k v) true (w.leaving h k v) h (λ _ _. refl) (λ _. q)

  kept_name : (h k v : ℕ) → (h ≡ m → has ns k v ≡ true → ⊥) → IsKept w h k v → IsKept new h k v
  kept_name h k v ne q = (q.0, kept_stays h q.0 (λ i t. ne i (rw (q.2, q.3) at t)) q.1, q.2, q.3)

  is_last : (k : ℕ) (x : Entry) → IsLast w k x → IsLast new k x
  is_last k x q =
      let spared : q.0 ≡ m → has ns k (w.last k) ≡ true → ⊥ = λ i t. absurd (let d = can.doomed k (w.last k) t in let f = q.5 in let e : w.doomed m k (w.last k) ≡ false = rw i at f in cc (d, e)) in (
        q.0,
        present_stays k _ q.0 (λ i t. spared (home k _ q.0 t q.1) t) q.1,
        kept_stays q.0 x (λ i t. spared i (rw (q.3, q.4) at t)) q.2,
        q.3,
        q.4,
        guard_into (λ u. u ≡ false) m (has ns k (w.last k)) false (w.doomed q.0 k (w.last k)) q.0 (λ _ _. refl) (λ _. q.5),
      )

  was_last : (k : ℕ) (x : Entry) → IsLast new k x → IsLast w k x
  was_last k x q = let was = kept_was q.0 x q.2 in (
    q.0,
    (present_was k _ q.0 q.1).0,
    was.0,
    q.3,
    q.4,
    elim (guard_cases (λ u. u ≡ false) m (has ns k (w.last k)) false (w.doomed q.0 k (w.last k)) q.0 q.5) [
      | inl i ↦ absurd (was.1 i.0 (rw (q.3, q.4) (i.1)))
      | inr i ↦ i.1
    ],
  )

  dead_was : (h k v : ℕ) → new.dead h k v ≡ true → (w.dead h k v ≡ true) × (h ≡ m → has ns k v ≡ true → ⊥)
  dead_was h k v q = elim (guard_cases (λ u. u ≡ true) m (has ns k v) false (w.dead h k v) h q) [ inl i ↦ absurd (cc (i.2)) | inr i ↦ (i.1, i.0) ]

  -- a name that another member has, or that is in the mail, isn't one that goes
  is_dead : (k v : ℕ) → IsDead w k v → IsDead new k v
  is_dead k v (inl i) = inl i
  is_dead k v (inr i) = inr (i.0, i.1, λ u h p. i.2 u h (present_was k u h p).0)

  no_mail : (a h : ℕ) (n : Notices) → w.mail a h ≡ Some n → a ≡ m → h ≡ m → ⊥
  no_mail a h n q i j = let none = L.standing.no_self m in let full : w.mail m m ≡ Some n = rw (i, j) at q in absurd (cc (none, full))

  mail_spared : (a h : ℕ) (n : Notices) (x : EntryName) → w.mail a h ≡ Some n → In x n.dead → owner w.place x.key ≡ m → has ns x.key x.version ≡ true → ⊥
  mail_spared a h n x q i o t = let is = L.deaths.mail_is a h n x q i in let from = L.deaths.mail_from a h n x q i in no_mail a h n q (sym from.0 ∙ o) (home _ _ h t is.1)

  pub keeps : Lawful new
  keeps = record {
    place = L.place;
    slots = assumption;
    counts = assumption;
    keys = record {
      under_key = L.keys.under_key;
      next_version = L.keys.next_version;
      spelled = L.keys.spelled;
      no_cell = L.keys.no_cell;
      not_above = λ k v h q. L.keys.not_above k v h (present_was k v h q).0;
      no_names = λ k v z. guard_into (λ u. u ≡ None) m (has ns k v) None (w.present k v) (owner w.place k) (λ _ _. refl) (λ _. L.keys.no_names k v z);
      told_present = λ k v q. let was = told_was k v q in let old = L.keys.told_present k v was.0 in (old.0, present_stays k v old.0 was.1 old.1);
    };
    looks = record {
      holder_member = L.looks.holder_member;
      holds_is = L.looks.holds_is;
      posted_seen = λ n b t o h q. L.looks.posted_seen n b t o h (looked_was n _ q).1;
      done_seen = λ n t h q. L.looks.done_seen n t h (looked_was n _ q).1;
      failed_seen = λ n t q. L.looks.failed_seen n t (looked_was n _ q).1;
      empty_seen = λ n b q. L.looks.empty_seen n b (looked_was n _ q).1;
      full_seen = λ n b q. L.looks.full_seen n b (looked_was n _ q).1;
    };
    logs = record {
      group = λ h x l. L.logs.group h x (logged_was h x l);
      known = λ h x l. elim (L.logs.known h x (logged_was h x l)) [ inl p ↦ inl (present_stays _ _ h (λ i t. gone h x l (home _ _ h t p) t) p) | inr p ↦ inr p ];
      one_log = λ h i x y p q. L.logs.one_log h i x y (logged_was h x p) (logged_was i y q);
      apart = λ h x p. L.logs.apart h x (kept_was h x p).0;
      not_posted = λ h n t x q l. L.logs.not_posted h n t x q (logged_was h x l);
      done_kept = λ h n t x q. let old = L.logs.done_kept h n t x q in (
        kept_stays h x (λ i d. let yes_doomed = can.doomed x.key x.version d in let spared : w.doomed m x.key x.version ≡ false = rw i at old.1 in absurd (cc (yes_doomed, spared))) old.0,
        guard_into (λ u. u ≡ false) m (has ns x.key x.version) false (w.doomed h x.key x.version) h (λ _ _. refl) (λ _. old.1),
      );
    };
    standing = record {
      stands = λ k v h q. let was = present_was k v h q in elim (L.standing.stands k v h was.0) [
        | inl i ↦ elim (cases_Bool (has ns k v)) [
          | inl t ↦ let at = home k v h t was.0 in inr (inl (leaving_new h k v at (λ o. was.1 o t) t))
          | inr f ↦ inl (kept_name h k v (λ _ t. absurd (cc (t, f))) i)
        ]
        | inr i ↦ inr (elim i [ inl j ↦ inl (leaving_stays h k v j) | inr j ↦ inr j ])
      ];
      away = λ h k v q. elim q [
        | inl i ↦ elim (leaving_was h k v i) [
          | inl j ↦ (present_stays k v h (λ o _. j.1 o) (rw j.0 (here k v j.2)), told_stays k v (λ o _. j.1 o) (L.deaths.dead_is m k v (dead k v j.2)).0, λ x l a b. gone h x l j.0 (rw (a, b) (j.2)))
          | inr j ↦ let old = L.standing.away h k v (inl j) in let ne : owner w.place k ≡ m → has ns k v ≡ true → ⊥ = λ o t. L.standing.leaving_other h k v j (o ∙ sym (home k v h t old.0)) in
              (present_stays k v h ne old.0, told_stays k v ne old.1, λ x l. old.2 x (logged_was h x l))
        ]
        | inr i ↦ let old = L.standing.away h k v (inr i) in let ne : owner w.place k ≡ m → has ns k v ≡ true → ⊥ = λ o t. no_mail h (owner w.place k) i.0 i.1 (home k v h t old.0) o in
            (present_stays k v h ne old.0, told_stays k v ne old.1, λ x l. old.2 x (logged_was h x l))
      ];
      gone_home = L.standing.gone_home;
      leaving_other = λ h k v q. elim (leaving_was h k v q) [ inl j ↦ λ i. j.1 (i ∙ j.0) | inr j ↦ L.standing.leaving_other h k v j ];
      not_both = λ h k v q g. elim (leaving_was h k v q) [
        | inl j ↦ let kept = L.deaths.dead_kept m k v (dead k v j.2) in (L.standing.away h k v (inr g)).2 kept.0 (inl (rw j.0 (kept.1))) kept.2 kept.3
        | inr j ↦ L.standing.not_both h k v j g
      ];
      full = L.standing.full;
      no_self = L.standing.no_self;
    };
    cells = record {
      value = λ k v c. let old = L.cells.value k v c in (old.0, is_last k old.0 old.1, old.2);
      tombs = λ k h x c l. L.cells.tombs k h x c (logged_was h x l);
      grave = λ k c z. elim (L.cells.grave k c z) [ inl x ↦ inl (x.0, is_last k x.0 x.1) | inr alone ↦ inr (λ v h p. alone v h (present_was k v h p).0) ];
    };
    deaths = record {
      doomed_dead = λ h k v d. elim (guard_cases (λ u. u ≡ true) m (has ns k v) false (w.doomed h k v) h d) [
        | inl i ↦ absurd (cc (i.2))
        | inr i ↦ guard_into (λ u. u ≡ true) m (has ns k v) false (w.dead h k v) h (λ j t. absurd (i.0 j t)) (λ _. L.deaths.doomed_dead h k v i.1)
      ];
      dead_kept = λ h k v d. let was = dead_was h k v d in kept_name h k v was.1 (L.deaths.dead_kept h k v was.0);
      dead_is = λ h k v d. let was = dead_was h k v d in let old = L.deaths.dead_is h k v was.0 in let ne : owner w.place k ≡ m → has ns k v ≡ true → ⊥ = λ _ t. was.1 (home k v h t old.1) t in
          (told_stays k v ne old.0, present_stays k v h ne old.1, is_dead k v old.2);
      mail_is = λ a h n x q i. let old = L.deaths.mail_is a h n x q i in let ne = mail_spared a h n x q i in (told_stays _ _ ne old.0, present_stays _ _ h ne old.1, is_dead _ _ old.2);
      mail_from = λ a h n x q i. let old = L.deaths.mail_from a h n x q i in (
        old.0,
        guard_into (λ u. u ≡ false) m (has ns x.key x.version) false (w.dead h x.key x.version) h (λ _ _. refl) (λ _. old.1),
        kept_name h _ _ (λ j t. let d : w.dead h x.key x.version ≡ true = rw j (dead _ _ t) in let f = old.1 in absurd (cc (d, f))) old.2,
      );
    };
    blocks = record {
      lies = L.blocks.lies;
      distinct = L.blocks.distinct;
      awaited = L.blocks.awaited;
      used = λ n p b q. elim (L.blocks.used n p b q) [ inl i ↦ inl (i.0, (i.1.0, is_last b.key i.1.0 i.1.1, i.1.2)) | inr i ↦ inr i ];
      differ = λ k p v i. L.blocks.differ k p v (i.0, (i.1.0, was_last k i.1.0 i.1.1, i.1.2));
    };
  }
