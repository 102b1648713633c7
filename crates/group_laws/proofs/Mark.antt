-- A Mark keeps the invariant.
use Rattle.std.proofs.Common.{◌≡◌, ℕ, [], Option, Some, None, ◌⊎◌, inl, inr, arith, refl, subst}
use Rattle.log_entry.specs.declared.entry.Entry.{Entry}
use Rattle.group_laws.specs.declared.types.Slot.{Slot}
use Rattle.group_laws.specs.declared.types.Seen.{Seen}
use Rattle.store_image.specs.Facts.{In}
use Rattle.group_laws.specs.Places.{owner}
use Rattle.group_laws.specs.State.{Group, word_shown}
use Rattle.group_laws.specs.Invariant.{IsHeld, Lawful}
use Rattle.group_laws.specs.Steps.{CanMark, marks}
use Rattle.group_laws.specs.declared.types.Slot.TheVariants.{Empty, Posted, Taken, Done, Failed}
use Rattle.group_laws.specs.declared.types.SlotWord.TheVariants.{Posted as ShowsPosted, Done as ShowsDone, Failed as ShowsFailed}
use Rattle.group_laws.proofs.Facts.{not_doomed}
use Rattle.group_laws.proofs.Puts.{if_cases, if2_cases, if2_into, if3_cases, if3_into}

module _ (w : Group) (m a s : ℕ) (e : Entry) (L : Lawful w) (can : CanMark w m a s e) where
  abbrev new : Group
  new = marks w m a s e

  slot_was : (P : Slot → Type 0) (n t : ℕ) → P (new.slot n t) → ((n ≡ a) × (t ≡ s) × P (Done e m)) ⊎ (((n ≡ a) → (t ≡ s) → ⊥) × P (w.slot n t))
  slot_was P n t = if2_cases P a s (Done e m) (w.slot n t) n t

  -- the slot was Taken, so what says otherwise of a slot stays true
  slot_stays : (P : Slot → Type 0) (n t : ℕ) → (P Taken → ⊥) → P (w.slot n t) → P (new.slot n t)
  slot_stays P n t ne p = if2_into P a s (Done e m) (w.slot n t) n t (λ i j. absurd (ne (subst P (L.slots.taken_named m a s e can.taken).2 (rw (i, j) at p)))) (λ _. p)

  taken_was : (h n t : ℕ) (x : Entry) → new.taken h n t ≡ Some x → (((h ≡ m) → (n ≡ a) → (t ≡ s) → ⊥) × (w.taken h n t ≡ Some x))
  taken_was h n t x q = elim (if3_cases (λ u. u ≡ Some x) m a s None (w.taken h n t) h n t q) [ inl i ↦ absurd (cc (i.3)) | inr i ↦ i ]

  taken_stays : (h n t : ℕ) (x : Entry) → ((h ≡ m) → (n ≡ a) → (t ≡ s) → ⊥) → w.taken h n t ≡ Some x → new.taken h n t ≡ Some x
  taken_stays h n t x ne q = if3_into (λ u. u ≡ Some x) m a s None (w.taken h n t) h n t (λ i j k. absurd (ne i j k)) (λ _. q)

  -- no other member has the slot's change
  elsewhere : (h n t : ℕ) (x : Entry) → new.taken h n t ≡ Some x → (n ≡ a) → (t ≡ s) → ⊥
  elsewhere h n t x q i j = let was = taken_was h n t x q in was.0 (L.slots.taken_once h m a s x e (rw (i, j) at was.1) can.taken) i j

  looked_was : (n : ℕ) (x : Seen) → In x (new.looked n) → In x (w.looked n)
  looked_was n x q = elim (if_cases (In x) m [] (w.looked n) n q) [ inl p ↦ absurd p.1 | inr p ↦ p.1 ]

  done_is : (x : Entry) (h : ℕ) → Done e m ≡ Done x h → (x ≡ e) × (h ≡ m)
  done_is x h q = (cc q, cc q)

  held : (h : ℕ) (x : Entry) → IsHeld w h x → IsHeld new h x
  held h x p = (
    p.0,
    p.1,
    elim p.2 [
      | inl t ↦ elim (if3_into (λ (o : Option Entry). (o ≡ Some x) ⊎ ((h ≡ m) × (x ≡ e))) m a s None (w.taken h t.0 t.1) h t.0 t.1 (λ i j k. inr (i, grind (arith, can.taken, t.2))) (λ _. inl t.2)) [
        | inl u ↦ inl (t.0, t.1, u)
        | inr u ↦ inr (inl (a, s, if2_into (λ v. v ≡ Done x h) a s (Done e m) (w.slot a s) a s (λ _ _. cc (u.0, u.1)) (λ ne. absurd (ne refl refl))))
      ]
      | inr r ↦ inr (elim r [ inl d ↦ inl (d.0, d.1, slot_stays (λ u. u ≡ Done x h) d.0 d.1 (λ q. absurd (cc q)) d.2) | inr b ↦ inr b ])
    ],
  )

  pub keeps : Lawful new
  keeps = record {
    place = L.place;
    keys = assumption;
    standing = assumption;
    cells = assumption;
    deaths = assumption;
    blocks = assumption;
    counts = record {
      taken = L.counts.taken;
      waiting = λ n t x q. elim (slot_was (λ u. u ≡ Posted x) n t q) [ inl i ↦ absurd (cc (i.2)) | inr i ↦ L.counts.waiting n t x i.1 ];
    };
    slots = record {
      posted_named = λ n t x q. elim (slot_was (λ u. u ≡ Posted x) n t q) [ inl i ↦ absurd (cc (i.2)) | inr i ↦ L.slots.posted_named n t x i.1 ];
      done_named = λ n t h x q. elim (slot_was (λ u. u ≡ Done x h) n t q) [
        | inl i ↦ let is = done_is x h i.2 in let mine = L.slots.taken_named m a s e can.taken in rw (is.0, i.0, i.1) (mine.0, mine.1)
        | inr i ↦ L.slots.done_named n t h x i.1
      ];
      failed_named = λ n t x q. elim (slot_was (λ u. u ≡ Failed x) n t q) [ inl i ↦ absurd (cc (i.2)) | inr i ↦ L.slots.failed_named n t x i.1 ];
      taken_named = λ h n t x q. let old = L.slots.taken_named h n t x (taken_was h n t x q).1 in
          (old.0, old.1, if2_into (λ u. u ≡ Taken) a s (Done e m) (w.slot n t) n t (λ i j. absurd (elsewhere h n t x q i j)) (λ _. old.2));
      taken_by = λ n t q. elim (slot_was (λ u. u ≡ Taken) n t q) [ inl i ↦ absurd (cc (i.2)) | inr i ↦ let old = L.slots.taken_by n t i.1 in (old.0, old.1, taken_stays old.0 n t old.1 (λ _ j k. i.0 j k) old.2) ];
      taken_once = λ h i n t x y p q. L.slots.taken_once h i n t x y (taken_was h n t x p).1 (taken_was i n t y q).1;
      taken_member = λ h n t x q. L.slots.taken_member h n t x (taken_was h n t x q).1;
      in_slot = λ k t x q z. elim (slot_was (λ u. u ≡ Empty) (owner w.place k) t z) [ inl i ↦ absurd (cc (i.2)) | inr i ↦ L.slots.in_slot k t x q i.1 ];
      once = L.slots.once;
      failed = λ n t x q. elim (slot_was (λ u. u ≡ Failed x) n t q) [ inl i ↦ absurd (cc (i.2)) | inr i ↦ L.slots.failed n t x i.1 ];
      in_doubt = L.slots.in_doubt;
    };
    looks = record {
      holder_member = L.looks.holder_member;
      holds_is = L.looks.holds_is;
      posted_seen = λ n b t o h q. slot_stays (λ u. word_shown u ≡ ShowsPosted o) b t (λ i. absurd (cc i)) (L.looks.posted_seen n b t o h (looked_was n _ q));
      done_seen = λ n t h q. slot_stays (λ u. word_shown u ≡ ShowsDone h) n t (λ i. absurd (cc i)) (L.looks.done_seen n t h (looked_was n _ q));
      failed_seen = λ n t q. slot_stays (λ u. word_shown u ≡ ShowsFailed) n t (λ i. absurd (cc i)) (L.looks.failed_seen n t (looked_was n _ q));
      empty_seen = λ n b q. L.looks.empty_seen n b (looked_was n _ q);
      full_seen = λ n b q. L.looks.full_seen n b (looked_was n _ q);
    };
    logs = record {
      group = L.logs.group;
      known = λ h x l. elim (L.logs.known h x l) [ inl q ↦ inl q | inr q ↦ inr (held h x q) ];
      one_log = L.logs.one_log;
      apart = L.logs.apart;
      not_posted = λ h n t x q l. elim (slot_was (λ u. u ≡ Posted x) n t q) [ inl i ↦ absurd (cc (i.2)) | inr i ↦ L.logs.not_posted h n t x i.1 l ];
      done_kept = λ h n t x q. elim (slot_was (λ u. u ≡ Done x h) n t q) [
        | inl i ↦ let is = done_is x h i.2 in rw (is.0, is.1) (can.kept, not_doomed w L m e (Some s) (L.slots.taken_named m a s e can.taken).0)
        | inr i ↦ L.logs.done_kept h n t x i.1
      ];
    };
  }
