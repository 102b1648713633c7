-- A Commit keeps the invariant.
use Rattle.std.proofs.Common.{◌≡◌, ℕ, true, false, [], ◌++◌, ◌⊎◌, inl, inr, arith}
use Rattle.log_entry.specs.declared.entry.Entry.{Entry}
use Rattle.group_laws.specs.declared.types.Seen.{Seen}
use Rattle.store_image.specs.Facts.{In}
use Rattle.group_laws.specs.State.{Group}
use Rattle.group_laws.specs.Invariant.{IsHeld, IsKept, IsLast, IsLogged, IsLost, Lawful}
use Rattle.group_laws.specs.Steps.{commits}
use Rattle.group_laws.proofs.Facts.{certain}
use Rattle.group_laws.proofs.Puts.{if_cases, if_into, In-append, In-append_left}

module _ (w : Group) (m : ℕ) (L : Lawful w) (whole : w.broken m ≡ false) where
  abbrev new : Group
  new = commits w m

  kept_was : (h : ℕ) (x : Entry) → In x (new.kept h) → In x (w.kept h) ⊎ ((h ≡ m) × In x (w.flying h))
  kept_was h x q = elim (if_cases (In x) m (w.kept h ++ w.flying h) (w.kept h) h q) [
    | inl i ↦ elim (In-append x (w.kept h) (w.flying h) i.1) [ inl j ↦ inl j | inr j ↦ inr (i.0, j) ]
    | inr i ↦ inl i.1
  ]

  kept_stays : (h : ℕ) (x : Entry) → In x (w.kept h) → In x (new.kept h)
  kept_stays h x q = if_into (In x) m (w.kept h ++ w.flying h) (w.kept h) h (λ _. In-append_left x (w.kept h) (w.flying h) q) (λ _. q)

  flew : (h : ℕ) (x : Entry) → In x (new.flying h) → (h ≡ m → ⊥) × In x (w.flying h)
  flew h x q = elim (if_cases (In x) m [] (w.flying h) h q) [ inl i ↦ absurd i.1 | inr i ↦ i ]

  flies : (h : ℕ) (x : Entry) → (h ≡ m → ⊥) → In x (w.flying h) → In x (new.flying h)
  flies h x ne q = if_into (In x) m [] (w.flying h) h (λ i. absurd (ne i)) (λ _. q)

  whole_not : (h : ℕ) → w.broken h ≡ true → h ≡ m → ⊥
  whole_not h b i = grind (arith, whole)

  logged : (h : ℕ) (x : Entry) → IsLogged new h x → IsLogged w h x
  logged h x (inl q) = elim (kept_was h x q) [ inl i ↦ inl i | inr i ↦ inr i.1 ]
  logged h x (inr q) = inr (flew h x q).1

  lost : (x : Entry) → IsLost w x → IsLost new x
  lost x l = (l.0, l.1, flies l.0 x (whole_not l.0 l.1) l.2)

  is_kept : (h k v : ℕ) → IsKept w h k v → IsKept new h k v
  is_kept h k v q = (q.0, kept_stays h q.0 q.1, q.2, q.3)

  is_last : (k : ℕ) (x : Entry) → IsLast w k x → IsLast new k x
  is_last k x q = (q.0, q.1, kept_stays q.0 x q.2, q.3, q.4, q.5)

  was_last : (k : ℕ) (x : Entry) → IsLast new k x → IsLast w k x
  was_last k x q = (q.0, q.1, certain w L q.0 x (rw (q.3, q.4) q.1) (logged q.0 x (inl q.2)), q.3, q.4, q.5)

  looked_was : (n : ℕ) (x : Seen) → In x (new.looked n) → In x (w.looked n)
  looked_was n x q = elim (if_cases (In x) m [] (w.looked n) n q) [ inl p ↦ absurd p.1 | inr p ↦ p.1 ]

  held : (h : ℕ) (x : Entry) → IsHeld w h x → IsHeld new h x
  held h x p = (p.0, p.1, elim p.2 [ inl t ↦ inl t | inr r ↦ inr (elim r [ inl d ↦ inl d | inr b ↦ inr (b.0, flies h x (whole_not h b.0) b.1) ]) ])

  pub keeps : Lawful new
  keeps = record {
    place = L.place;
    keys = assumption;
    counts = assumption;
    slots = record {
      posted_named = L.slots.posted_named;
      done_named = L.slots.done_named;
      failed_named = L.slots.failed_named;
      taken_named = L.slots.taken_named;
      taken_by = L.slots.taken_by;
      taken_once = L.slots.taken_once;
      taken_member = L.slots.taken_member;
      in_slot = L.slots.in_slot;
      once = L.slots.once;
      failed = λ n t x q. lost x (L.slots.failed n t x q);
      in_doubt = λ k x q. lost x (L.slots.in_doubt k x q);
    };
    looks = record {
      holder_member = L.looks.holder_member;
      holds_is = L.looks.holds_is;
      posted_seen = λ n b t o h q. L.looks.posted_seen n b t o h (looked_was n _ q);
      done_seen = λ n t h q. L.looks.done_seen n t h (looked_was n _ q);
      failed_seen = λ n t q. L.looks.failed_seen n t (looked_was n _ q);
      empty_seen = λ n b q. L.looks.empty_seen n b (looked_was n _ q);
      full_seen = λ n b q. L.looks.full_seen n b (looked_was n _ q);
    };
    logs = record {
      group = λ h x l. L.logs.group h x (logged h x l);
      known = λ h x l. elim (L.logs.known h x (logged h x l)) [ inl q ↦ inl q | inr q ↦ inr (held h x q) ];
      one_log = λ h i x y p q. L.logs.one_log h i x y (logged h x p) (logged i y q);
      apart = λ h x p q. let f = flew h x q in elim (kept_was h x p) [ inl k ↦ L.logs.apart h x k f.1 | inr k ↦ f.0 k.0 ];
      not_posted = λ h n t x q l. L.logs.not_posted h n t x q (logged h x l);
      done_kept = λ h n t x q. let old = L.logs.done_kept h n t x q in (kept_stays h x old.0, old.1);
    };
    standing = record {
      stands = λ k v h p. elim (L.standing.stands k v h p) [ inl q ↦ inl (is_kept h k v q) | inr q ↦ inr q ];
      away = λ h k v g. let old = L.standing.away h k v g in (old.0, old.1, λ x l. old.2 x (logged h x l));
      gone_home = L.standing.gone_home;
      leaving_other = L.standing.leaving_other;
      not_both = L.standing.not_both;
      full = L.standing.full;
      no_self = L.standing.no_self;
    };
    cells = record {
      value = λ k v c. let old = L.cells.value k v c in (old.0, is_last k old.0 old.1, old.2);
      tombs = λ k h x c l. L.cells.tombs k h x c (logged h x l);
      grave = λ k c n. elim (L.cells.grave k c n) [ inl q ↦ inl (q.0, is_last k q.0 q.1) | inr q ↦ inr q ];
    };
    deaths = record {
      doomed_dead = L.deaths.doomed_dead;
      dead_kept = λ h k v d. is_kept h k v (L.deaths.dead_kept h k v d);
      dead_is = L.deaths.dead_is;
      mail_is = L.deaths.mail_is;
      mail_from = λ a h n x p q. let old = L.deaths.mail_from a h n x p q in (old.0, old.1, is_kept h _ _ old.2);
    };
    blocks = record {
      lies = L.blocks.lies;
      distinct = L.blocks.distinct;
      used = λ n p b q. elim (L.blocks.used n p b q) [ inl i ↦ inl (i.0, (i.1.0, is_last b.key i.1.0 i.1.1, i.1.2)) | inr i ↦ inr i ];
      awaited = L.blocks.awaited;
      differ = λ k p v i. L.blocks.differ k p v (i.0, (i.1.0, was_last k i.1.0 i.1.1, i.1.2));
    };
  }
