-- A Take keeps the invariant.
use Rattle.std.proofs.Common.{◌≡◌, ℕ, ◌+◌, false, [], ◌∷◌, ◌++◌, Some, ◌⊎◌, inl, inr, arith, refl}
use Rattle.log_entry.specs.declared.entry.Entry.{Entry}
use Rattle.group_laws.specs.declared.types.Slot.{Slot}
use Rattle.group_laws.specs.declared.types.Seen.{Seen}
use Rattle.store_image.specs.Facts.{In}
use Rattle.group_laws.specs.Places.{members, owner}
use Rattle.group_laws.specs.Updates.{same_entry, times}
use Rattle.group_laws.specs.State.{Group, word_shown}
use Rattle.group_laws.specs.Invariant.{Cells, Counts, IsHeld, IsLogged, IsLost, Lawful, Logs, Looks, Slots, Standing, times_taken}
use Rattle.group_laws.specs.Steps.{CanTake, takes}
use Rattle.group_laws.specs.declared.types.Slot.TheVariants.{Empty, Posted, Taken, Done, Failed}
use Rattle.group_laws.specs.declared.types.SlotWord.TheVariants.{Done as ShowsDone, Failed as ShowsFailed}
use Rattle.std.proofs.lemmas.Bool.{cases_Bool}
use Rattle.group_laws.proofs.Times.{same_entry-true, times-push_same, times-push_other, sum_same, sum_more}
use Rattle.group_laws.proofs.Puts.{In-push, In-append_left, if_cases, if_into, if2_cases, if2_into, if3_cases, if3_into}

module _ (w : Group) (m a s : ℕ) (e : Entry) (L : Lawful w) (can : CanTake w m a s e) where
  abbrev new : Group
  new = takes w m a s e

  -- what was, and what stays, of the fields that change
  flew : (h : ℕ) (x : Entry) → In x (new.flying h) → ((h ≡ m) × (x ≡ e)) ⊎ In x (w.flying h)
  flew h x f = elim (if_cases (In x) m (w.flying h ++ e ∷ []) (w.flying h) h f) [ inl p ↦ elim (In-push x e (w.flying h) p.1) [ inl q ↦ inl (p.0, q) | inr q ↦ inr q ] | inr q ↦ inr q.1 ]

  flies : (h : ℕ) (x : Entry) → In x (w.flying h) → In x (new.flying h)
  flies h x f = if_into (In x) m (w.flying h ++ e ∷ []) (w.flying h) h (λ _. In-append_left x (w.flying h) _ f) (λ _. f)

  logged : (h : ℕ) (x : Entry) → IsLogged new h x → ((h ≡ m) × (x ≡ e)) ⊎ IsLogged w h x
  logged h x (inl k) = inr (inl k)
  logged h x (inr f) = elim (flew h x f) [ inl p ↦ inl p | inr q ↦ inr (inr q) ]

  slot_was : (P : Slot → Type 0) (n t : ℕ) → P (new.slot n t) → ((n ≡ a) × (t ≡ s) × P Taken) ⊎ (((n ≡ a) → (t ≡ s) → ⊥) × P (w.slot n t))
  slot_was P n t = if2_cases P a s Taken (w.slot n t) n t

  taken_was : (h n t : ℕ) (x : Entry) → new.taken h n t ≡ Some x → ((h ≡ m) × (n ≡ a) × (t ≡ s) × (Some e ≡ Some x)) ⊎ (((h ≡ m) → (n ≡ a) → (t ≡ s) → ⊥) × (w.taken h n t ≡ Some x))
  taken_was h n t x = if3_cases (λ u. u ≡ Some x) m a s (Some e) (w.taken h n t) h n t

  taken_into : (h n t : ℕ) (x : Entry) → ((h ≡ m) → (n ≡ a) → (t ≡ s) → Some e ≡ Some x) → (((h ≡ m) → (n ≡ a) → (t ≡ s) → ⊥) → w.taken h n t ≡ Some x) → new.taken h n t ≡ Some x
  taken_into h n t x = if3_into (λ u. u ≡ Some x) m a s (Some e) (w.taken h n t) h n t

  lost : (x : Entry) → IsLost w x → IsLost new x
  lost x l = (l.0, l.1, flies l.0 x l.2)

  -- the entry is new to all logs, by its name
  fresh : (h : ℕ) (x : Entry) → IsLogged w h x → x.key ≡ e.key → x.version ≡ e.version → ⊥
  fresh h x l k v =
      let mine = L.slots.posted_named a s e can.entry in
      elim (L.logs.known h x l) [
        | inl p ↦ grind (arith, L.keys.not_above x.key x.version h, L.keys.next_version e.key (record { entry = e; slot = Some s }))
        | inr p ↦ let one = p.1 in let not_out = L.logs.not_posted h a s e can.entry in grind (arith, one)
      ]

  keeps_slots : Slots new
  keeps_slots = record {
    posted_named = λ n t x q. let was = slot_was (λ u. u ≡ Posted x) n t q in grind (arith, L.slots.posted_named n t x);
    done_named = λ n t h x q. let was = slot_was (λ u. u ≡ Done x h) n t q in grind (arith, L.slots.done_named n t h x);
    failed_named = λ n t x q. let was = slot_was (λ u. u ≡ Failed x) n t q in grind (arith, L.slots.failed_named n t x);
    taken_named = λ h n t x q. let was = taken_was h n t x q in let here = L.slots.posted_named a s e can.entry in
        (grind (arith, L.slots.taken_named h n t x), grind (arith, L.slots.taken_named h n t x), if2_into (λ u. u ≡ Taken) a s Taken (w.slot n t) n t (λ _ _. refl) (λ no. grind (arith, L.slots.taken_named h n t x)));
    taken_by = λ n t q. elim (slot_was (λ u. u ≡ Taken) n t q) [
      | inl p ↦ (m, e, taken_into m n t e (λ _ _ _. refl) (λ no. absurd (no refl p.0 p.1)))
      | inr p ↦ let old = L.slots.taken_by n t p.1 in (old.0, old.1, taken_into old.0 n t old.1 (λ _ i j. absurd (p.0 i j)) (λ _. old.2))
    ];
    taken_once = λ h i n t x y p q. let wp = taken_was h n t x p in let wq = taken_was i n t y q in grind (arith, L.slots.taken_once h i n t x y, L.slots.taken_named h n t x, L.slots.taken_named i n t y, can.entry);
    taken_member = λ h n t x q. elim (taken_was h n t x q) [ inl p ↦ rw p.0 can.member | inr p ↦ L.slots.taken_member h n t x p.1 ];
    in_slot = λ k t x q z. let was = slot_was (λ u. u ≡ Empty) (owner w.place k) t z in grind (arith, L.slots.in_slot k t x);
    once = L.slots.once;
    failed = λ n t x q. elim (slot_was (λ u. u ≡ Failed x) n t q) [ inl p ↦ absurd (cc (p.2)) | inr p ↦ lost x (L.slots.failed n t x p.1) ];
    in_doubt = λ k x q. lost x (L.slots.in_doubt k x q);
  }

  -- the taker's loads are spent
  looked_was : (n : ℕ) (x : Seen) → In x (new.looked n) → ((n ≡ m) → ⊥) × In x (w.looked n)
  looked_was n x q = elim (if_cases (In x) m [] (w.looked n) n q) [ inl p ↦ absurd p.1 | inr p ↦ p ]

  keeps_looks : Looks new
  keeps_looks = record {
    holder_member = L.looks.holder_member;
    holds_is = L.looks.holds_is;
    posted_seen = λ n b t o h q. let was = looked_was n _ q in let me = (L.looks.holds_is m).0 can.holds in grind (arith, was);
    done_seen = λ n t h q. let was = looked_was n _ q in if2_into (λ u. word_shown u ≡ ShowsDone h) a s Taken (w.slot n t) n t (λ i j. let x = L.looks.done_seen n t h was.1 in grind (arith, x, can.entry)) (λ _. L.looks.done_seen n t h was.1);
    failed_seen = λ n t q. let was = looked_was n _ q in if2_into (λ u. word_shown u ≡ ShowsFailed) a s Taken (w.slot n t) n t (λ i j. let x = L.looks.failed_seen n t was.1 in grind (arith, x, can.entry)) (λ _. L.looks.failed_seen n t was.1);
    empty_seen = λ n b q. L.looks.empty_seen n b (looked_was n _ q).1;
    full_seen = λ n b q. L.looks.full_seen n b (looked_was n _ q).1;
  }

  held : (h : ℕ) (x : Entry) → IsHeld w h x → IsHeld new h x
  held h x p = (
    p.0,
    p.1,
    elim p.2 [
      | inl t ↦ inl (t.0, t.1, taken_into h t.0 t.1 x (λ i j k. let was = L.slots.taken_named h t.0 t.1 x t.2 in grind (arith, was, can.entry)) (λ _. t.2))
      | inr r ↦ inr (elim r [
        | inl d ↦ inl (d.0, d.1, if2_into (λ u. u ≡ Done x h) a s Taken (w.slot d.0 d.1) d.0 d.1 (λ i j. grind (arith, can.entry, d.2)) (λ _. d.2))
        | inr b ↦ inr (b.0, flies h x b.1)
      ])
    ],
  )

  -- the entry is in the taker's hands
  held_new : (h : ℕ) (x : Entry) → h ≡ m → x ≡ e → IsHeld new h x
  held_new h x i j = rw (i, j) (Some s, (L.slots.posted_named a s e can.entry).0, inl (a, s, taken_into m a s e (λ _ _ _. refl) (λ no. absurd (no refl refl refl))))

  keeps_logs : Logs new
  keeps_logs = record {
    group = λ h x l. elim (logged h x l) [ inl p ↦ (rw p.0 can.member, rw (p.1, (L.slots.posted_named a s e can.entry).1) can.slot.0) | inr p ↦ L.logs.group h x p ];
    known = λ h x l. elim (logged h x l) [
      | inl p ↦ inr (held_new h x p.0 p.1)
      | inr p ↦ elim (L.logs.known h x p) [ inl q ↦ inl q | inr q ↦ inr (held h x q) ]
    ];
    one_log = λ h i x y p q k v. let wp = logged h x p in let wq = logged i y q in grind (arith, L.logs.one_log h i x y, fresh h x, fresh i y);
    apart = λ h x p q. let wq = flew h x q in grind (arith, L.logs.apart h x, fresh h x);
    not_posted = λ h n t x q l. let was = logged h x l in let slot = slot_was (λ u. u ≡ Posted x) n t q in grind (arith, L.logs.not_posted h n t x, L.slots.posted_named n t x, L.slots.posted_named a s e can.entry);
    done_kept = λ h n t x q. elim (slot_was (λ u. u ≡ Done x h) n t q) [ inl p ↦ absurd (cc (p.2)) | inr p ↦ L.logs.done_kept h n t x p.1 ];
  }

  keeps_standing : Standing new
  keeps_standing = record {
    stands = L.standing.stands;
    away = λ h k v g. let old = L.standing.away h k v g in let mine = L.slots.posted_named a s e can.entry in
        (old.0, old.1, λ x l i j. let was = logged h x l in grind (arith, old.2 x, L.keys.not_above k v h, L.keys.next_version e.key (record { entry = e; slot = Some s })));
    gone_home = L.standing.gone_home;
    leaving_other = L.standing.leaving_other;
    not_both = L.standing.not_both;
    full = L.standing.full;
    no_self = L.standing.no_self;
  }

  keeps_cells : Cells new
  keeps_cells = record {
    value = L.cells.value;
    tombs = λ k h x c l i j. let was = logged h x l in let mine = L.slots.posted_named a s e can.entry in grind (arith, L.cells.tombs k h x, L.keys.next_version e.key (record { entry = e; slot = Some s }));
    grave = L.cells.grave;
  }

  took_new : (x : Entry) → same_entry x e ≡ false → times_taken new x ≡ times_taken w x
  took_new x d = sum_same (members w.place) (λ h. times x (new.took h)) (λ h. times x (w.took h)) (λ h. if_into (λ es. times x es ≡ times x (w.took h)) m (w.took h ++ e ∷ []) (w.took h) h (λ _. times-push_other x e (w.took h) d) (λ _. refl))

  took_this : times_taken new e ≡ times_taken w e + 1
  took_this = sum_more (members w.place) m (λ h. times e (new.took h)) (λ h. times e (w.took h)) can.member
      (if_into (λ es. times e es ≡ times e (w.took m) + 1) m (w.took m ++ e ∷ []) (w.took m) m (λ _. times-push_same e (w.took m)) (λ no_m. absurd (no_m refl)))
      (λ h ne. if_into (λ es. times e es ≡ times e (w.took h)) m (w.took h ++ e ∷ []) (w.took h) h (λ i. absurd (ne i)) (λ _. refl))

  keeps_counts : Counts new
  keeps_counts = record {
    taken = λ x. elim (cases_Bool (same_entry x e)) [
      | inl i ↦ let is : x ≡ e = same_entry-true x e i in rw (is, took_this, (L.slots.posted_named a s e can.entry).1) (rw ((L.slots.posted_named a s e can.entry).1) at (L.counts.waiting a s e can.entry))
      | inr i ↦ rw (took_new x i) (L.counts.taken x)
    ];
    waiting = λ n t x q. elim (slot_was (λ u. u ≡ Posted x) n t q) [
      | inl i ↦ absurd (cc (i.2))
      | inr i ↦ elim (cases_Bool (same_entry x e)) [
        | inl j ↦ let is : x ≡ e = same_entry-true x e j in absurd (grind (arith, is, i.0, L.slots.posted_named n t x i.1, L.slots.posted_named a s e can.entry))
        | inr j ↦ rw (took_new x j) (L.counts.waiting n t x i.1)
      ]
    ];
  }

  pub keeps : Lawful new
  keeps = record {
    place = L.place;
    keys = assumption;
    slots = keeps_slots;
    looks = keeps_looks;
    logs = keeps_logs;
    standing = keeps_standing;
    cells = keeps_cells;
    deaths = assumption;
    blocks = assumption;
    counts = keeps_counts;
  }
