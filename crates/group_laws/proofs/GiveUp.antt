-- A Finish of a Failed slot keeps the invariant.
use Rattle.std.proofs.Common.{◌≡◌, ℕ, true, [], Some, None, ◌⊎◌, inl, inr, arith, refl, sym, ap, ◌∙◌, subst}
use Rattle.std.proofs.lemmas.Bool.{cases_eq}
use Rattle.log_entry.specs.declared.entry.Entry.{Entry}
use Rattle.log_entry.specs.Spelling.{HasSpelling}
use Rattle.group_laws.specs.declared.types.Slot.{Slot}
use Rattle.group_laws.specs.declared.types.Pending.{Pending}
use Rattle.group_laws.specs.declared.types.Seen.{Seen}
use Rattle.store_image.specs.Facts.{In}
use Rattle.group_laws.specs.Places.{owner}
use Rattle.group_laws.specs.State.{Group, word_shown}
use Rattle.group_laws.specs.Invariant.{IsAwaited, IsHeld, IsLost, Lawful, PendsAt}
use Rattle.group_laws.specs.Steps.{CanGiveUp, gives_up}
use Rattle.group_laws.specs.declared.types.Slot.TheVariants.{Empty, Posted, Taken, Done, Failed}
use Rattle.group_laws.specs.declared.types.SlotWord.TheVariants.{Posted as ShowsPosted, Done as ShowsDone, Failed as ShowsFailed}
use Rattle.group_laws.proofs.Puts.{if_cases, if_into, if2_cases, if2_into}

module _ (w : Group) (m s : ℕ) (e : Entry) (L : Lawful w) (can : CanGiveUp w m s e) where
  abbrev new : Group
  new = gives_up w m s e

  mine : PendsAt w e (Some s) × (owner w.place e.key ≡ m)
  mine = L.slots.failed_named m s e can.failed

  slot_was : (P : Slot → Type 0) (n t : ℕ) → P (new.slot n t) → ((n ≡ m) × (t ≡ s) × P Empty) ⊎ (((n ≡ m) → (t ≡ s) → ⊥) × P (w.slot n t))
  slot_was P n t = if2_cases P m s Empty (w.slot n t) n t

  slot_stays : (P : Slot → Type 0) (n t : ℕ) → (P (Failed e) → ⊥) → P (w.slot n t) → P (new.slot n t)
  slot_stays P n t ne p = if2_into P m s Empty (w.slot n t) n t (λ i j. absurd (ne (subst P can.failed (rw (i, j) at p)))) (λ _. p)

  looked_was : (n : ℕ) (x : Seen) → In x (new.looked n) → ((n ≡ m) → ⊥) × In x (w.looked n)
  looked_was n x q = elim (if_cases (In x) m [] (w.looked n) n q) [ inl p ↦ absurd p.1 | inr p ↦ p ]

  pending_was : (k : ℕ) (p : Pending) → new.pending k ≡ Some p → ((k ≡ e.key) × (Some (record { entry = e; slot = None }) ≡ Some p)) ⊎ (((k ≡ e.key) → ⊥) × (w.pending k ≡ Some p))
  pending_was k p = if_cases (λ u. u ≡ Some p) e.key (Some (record { entry = e; slot = None })) (w.pending k) k

  pending_stays : (k : ℕ) (p : Pending) → ((k ≡ e.key) → ⊥) → w.pending k ≡ Some p → new.pending k ≡ Some p
  pending_stays k p ne q = if_into (λ u. u ≡ Some p) e.key (Some (record { entry = e; slot = None })) (w.pending k) k (λ i. absurd (ne i)) (λ _. q)

  pending_new : new.pending e.key ≡ Some (record { entry = e; slot = None })
  pending_new = if_into (λ u. u ≡ Some (record { entry = e; slot = None })) e.key (Some (record { entry = e; slot = None })) (w.pending e.key) e.key (λ _. refl) (λ ne. absurd (ne refl))

  -- with the slot, what named a slot before
  pending_slot : (k t : ℕ) (x : Entry) → new.pending k ≡ Some (record { entry = x; slot = Some t }) → ((k ≡ e.key) → ⊥) × (w.pending k ≡ Some (record { entry = x; slot = Some t }))
  pending_slot k t x q = elim (pending_was k _ q) [ inl i ↦ absurd (grind (arith, i.1)) | inr i ↦ i ]

  breaks : (h : ℕ) → w.broken h ≡ true → new.broken h ≡ true
  breaks h b = if_into (λ u. u ≡ true) m true (w.broken h) h (λ _. refl) (λ _. b)

  lost : (x : Entry) → IsLost w x → IsLost new x
  lost x l = (l.0, breaks l.0 l.1, l.2)

  this : (k : ℕ) (x : Entry) → w.pending k ≡ Some (record { entry = x; slot = Some s }) → owner w.place k ≡ m → k ≡ e.key
  this k x p o = L.slots.once k e.key s x e p mine.0 (o ∙ sym mine.1)

  stays_named : (n t : ℕ) (x : Entry) → (((n ≡ m) → (t ≡ s) → ⊥)) → PendsAt w x (Some t) × (owner w.place x.key ≡ n) → PendsAt new x (Some t) × (owner w.place x.key ≡ n)
  stays_named n t x ne p = (pending_stays x.key _ (λ i. ne (sym p.1 ∙ ap (owner w.place) i ∙ mine.1) (grind (arith, mine.0, p.0))) p.0, p.1)

  awaited_was : (k p : ℕ) → IsAwaited new k p → IsAwaited w k p
  awaited_was k p q = elim (pending_was k q.0 q.1) [
    | inl i ↦ (record { entry = e; slot = Some s }, ap w.pending i.0 ∙ mine.0, let body = q.2 in let is = i.1 in grind (arith, body, is))
    | inr i ↦ (q.0, i.1, q.2)
  ]

  awaited_stays : (k p : ℕ) → IsAwaited w k p → IsAwaited new k p
  awaited_stays k p q = elim (cases_eq k e.key) [
    | inl i ↦ (record { entry = e; slot = None }, ap new.pending i ∙ pending_new, let body = q.2 in let at = q.1 in let here = mine.0 in grind (arith, body, at, here, i))
    | inr ne ↦ (q.0, pending_stays k q.0 ne q.1, q.2)
  ]

  held : (h : ℕ) (x : Entry) → IsHeld w h x → IsHeld new h x
  held h x p = elim (cases_eq x.key e.key) [
    | inl i ↦ let same : x ≡ e = grind (arith, mine.0, p.1, i) in (
      None,
      subst (λ (y : Entry). PendsAt new y None) (sym same) pending_new,
      elim p.2 [
        | inl t ↦ inl t
        | inr r ↦ inr (elim r [
          | inl d ↦ let named = L.slots.done_named d.0 d.1 h x d.2 in absurd (let at : d.1 ≡ s = grind (arith, mine.0, named.0, same) in let who : d.0 ≡ m = sym named.1 ∙ ap (owner w.place) i ∙ mine.1 in let z = can.failed in let y = d.2 in cc (rw (who, at) at y, z))
          | inr b ↦ inr (breaks h b.0, b.1)
        ])
      ],
    )
    | inr ne ↦ (
      p.0,
      pending_stays x.key _ ne p.1,
      elim p.2 [
        | inl t ↦ inl t
        | inr r ↦ inr (elim r [ inl d ↦ inl (d.0, d.1, slot_stays (λ u. u ≡ Done x h) d.0 d.1 (λ q. absurd (cc q)) d.2) | inr b ↦ inr (breaks h b.0, b.1) ])
      ],
    )
  ]

  pub keeps : Lawful new
  keeps = record {
    place = L.place;
    standing = assumption;
    deaths = assumption;
    cells = assumption;
    keys = record {
      under_key = λ k p q. elim (pending_was k p q) [ inl i ↦ let is = i.1 in let j = i.0 in grind (arith, is, j) | inr i ↦ L.keys.under_key k p i.1 ];
      next_version = λ k p q. elim (pending_was k p q) [ inl i ↦ let is = i.1 in let j = i.0 in let n = L.keys.next_version e.key _ mine.0 in grind (arith, is, j, n) | inr i ↦ L.keys.next_version k p i.1 ];
      spelled = λ k p q. elim (pending_was k p q) [ inl i ↦ (let was : HasSpelling e = L.keys.spelled e.key (record { entry = e; slot = Some s }) mine.0 in subst HasSpelling (let is : record { entry = e; slot = None } ≡ p = cc (i.1) in ap (λ (x : Pending). x.entry) is) was) | inr i ↦ L.keys.spelled k p i.1 ];
      not_above = L.keys.not_above;
      no_cell = L.keys.no_cell;
      no_names = L.keys.no_names;
      told_present = L.keys.told_present;
    };
    slots = record {
      posted_named = λ n t x q. elim (slot_was (λ u. u ≡ Posted x) n t q) [ inl i ↦ absurd (cc (i.2)) | inr i ↦ stays_named n t x i.0 (L.slots.posted_named n t x i.1) ];
      done_named = λ n t h x q. elim (slot_was (λ u. u ≡ Done x h) n t q) [ inl i ↦ absurd (cc (i.2)) | inr i ↦ stays_named n t x i.0 (L.slots.done_named n t h x i.1) ];
      failed_named = λ n t x q. elim (slot_was (λ u. u ≡ Failed x) n t q) [ inl i ↦ absurd (cc (i.2)) | inr i ↦ stays_named n t x i.0 (L.slots.failed_named n t x i.1) ];
      taken_named = λ h n t x q. let old = L.slots.taken_named h n t x q in let named = stays_named n t x (λ i j. absurd (let z = can.failed in let y = old.2 in cc (rw (i, j) at y, z))) (old.0, old.1) in (named.0, named.1, slot_stays (λ u. u ≡ Taken) n t (λ d. absurd (cc d)) old.2);
      taken_by = λ n t q. elim (slot_was (λ u. u ≡ Taken) n t q) [ inl i ↦ absurd (cc (i.2)) | inr i ↦ L.slots.taken_by n t i.1 ];
      taken_once = L.slots.taken_once;
      taken_member = L.slots.taken_member;
      in_slot = λ k t x q z. let was = pending_slot k t x q in elim (slot_was (λ u. u ≡ Empty) (owner w.place k) t z) [ inl i ↦ was.0 (this k x (rw i.1 at was.1) i.0) | inr i ↦ L.slots.in_slot k t x was.1 i.1 ];
      once = λ k l t x y p q. L.slots.once k l t x y (pending_slot k t x p).1 (pending_slot l t y q).1;
      failed = λ n t x q. elim (slot_was (λ u. u ≡ Failed x) n t q) [ inl i ↦ absurd (cc (i.2)) | inr i ↦ lost x (L.slots.failed n t x i.1) ];
      in_doubt = λ k x q. elim (pending_was k _ q) [ inl i ↦ let same : x ≡ e = grind (arith, i.1) in rw same (lost e (L.slots.failed m s e can.failed)) | inr i ↦ lost x (L.slots.in_doubt k x i.1) ];
    };
    looks = record {
      holder_member = L.looks.holder_member;
      holds_is = L.looks.holds_is;
      posted_seen = λ n b t o h q. slot_stays (λ u. word_shown u ≡ ShowsPosted o) b t (λ i. absurd (cc i)) (L.looks.posted_seen n b t o h (looked_was n _ q).1);
      done_seen = λ n t h q. slot_stays (λ u. word_shown u ≡ ShowsDone h) n t (λ i. absurd (cc i)) (L.looks.done_seen n t h (looked_was n _ q).1);
      failed_seen = λ n t q. let was = looked_was n _ q in if2_into (λ u. word_shown u ≡ ShowsFailed) m s Empty (w.slot n t) n t (λ i _. absurd (was.0 i)) (λ _. L.looks.failed_seen n t was.1);
      empty_seen = λ n b q. L.looks.empty_seen n b (looked_was n _ q).1;
      full_seen = λ n b q. L.looks.full_seen n b (looked_was n _ q).1;
    };
    logs = record {
      group = L.logs.group;
      one_log = L.logs.one_log;
      apart = L.logs.apart;
      known = λ h x l. elim (L.logs.known h x l) [ inl q ↦ inl q | inr q ↦ inr (held h x q) ];
      not_posted = λ h n t x q l. elim (slot_was (λ u. u ≡ Posted x) n t q) [ inl i ↦ absurd (cc (i.2)) | inr i ↦ L.logs.not_posted h n t x i.1 l ];
      done_kept = λ h n t x q. elim (slot_was (λ u. u ≡ Done x h) n t q) [ inl i ↦ absurd (cc (i.2)) | inr i ↦ L.logs.done_kept h n t x i.1 ];
    };
    blocks = record {
      lies = L.blocks.lies;
      distinct = L.blocks.distinct;
      used = λ n p b q. elim (L.blocks.used n p b q) [ inl i ↦ inl i | inr i ↦ inr (awaited_stays b.key p i) ];
      awaited = λ k p q. L.blocks.awaited k p (awaited_was k p q);
      differ = λ k p v live q. L.blocks.differ k p v live (awaited_was k p q);
    };
    counts = record {
      taken = L.counts.taken;
      waiting = λ n t x q. elim (slot_was (λ u. u ≡ Posted x) n t q) [ inl i ↦ absurd (cc (i.2)) | inr i ↦ L.counts.waiting n t x i.1 ];
    };
  }
