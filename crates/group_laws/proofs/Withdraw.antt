-- A Withdraw keeps the invariant.
use Rattle.std.proofs.Common.{◌≡◌, ℕ, cond, List, [], Some, None, ◌⊎◌, inl, inr, arith, refl, sym, ap, ◌∙◌, subst}
use Rattle.log_entry.specs.declared.entry.Body.{Body}
use Rattle.log_entry.specs.declared.entry.Entry.{Entry}
use Rattle.group_laws.specs.declared.types.Slot.{Slot}
use Rattle.group_laws.specs.declared.types.Pending.{Pending}
use Rattle.group_laws.specs.declared.types.Block.{Block}
use Rattle.group_laws.specs.declared.types.Seen.{Seen}
use Rattle.store_image.specs.Facts.{In}
use Rattle.group_laws.specs.Places.{owner}
use Rattle.group_laws.specs.State.{Group, word_shown}
use Rattle.group_laws.specs.Invariant.{Gives, IsHeld, IsLast, IsLive, IsLogged, Lawful, Looks, PendsAt, Slots}
use Rattle.group_laws.specs.Steps.{CanWithdraw, points_at, withdraws}
use Rattle.group_laws.specs.declared.types.Slot.TheVariants.{Empty, Posted, Taken, Done, Failed}
use Rattle.log_entry.specs.declared.entry.Body.TheVariants.{Pointer, Embedded, Tombstone}
use Rattle.group_laws.specs.declared.types.SlotWord.TheVariants.{Done as ShowsDone, Failed as ShowsFailed}
use Rattle.group_laws.proofs.Points.{points, pointed}
use Rattle.group_laws.proofs.Puts.{if_cases, if_into, if2_cases, if2_into, cond_cases, cond_into}

module _ (w : Group) (m s : ℕ) (e : Entry) (L : Lawful w) (can : CanWithdraw w m s e) where
  abbrev new : Group
  new = withdraws w m s e

  mine : PendsAt w e (Some s) × (owner w.place e.key ≡ m)
  mine = L.slots.posted_named m s e can.posted

  slot_was : (P : Slot → Type 0) (n t : ℕ) → P (new.slot n t) → ((n ≡ m) × (t ≡ s) × P Empty) ⊎ (((n ≡ m) → (t ≡ s) → ⊥) × P (w.slot n t))
  slot_was P n t = if2_cases P m s Empty (w.slot n t) n t

  slot_stays : (P : Slot → Type 0) (n t : ℕ) → (P (Posted e) → ⊥) → P (w.slot n t) → P (new.slot n t)
  slot_stays P n t ne p = if2_into P m s Empty (w.slot n t) n t (λ i j. absurd (ne (subst P can.posted (rw (i, j) at p)))) (λ _. p)

  looked_was : (n : ℕ) (x : Seen) → In x (new.looked n) → ((n ≡ m) → ⊥) × In x (w.looked n)
  looked_was n x q = elim (if_cases (In x) m [] (w.looked n) n q) [ inl p ↦ absurd p.1 | inr p ↦ p ]

  pending_was : (k : ℕ) (p : Pending) → new.pending k ≡ Some p → ((k ≡ e.key) → ⊥) × (w.pending k ≡ Some p)
  pending_was k p q = elim (if_cases (λ u. u ≡ Some p) e.key None (w.pending k) k q) [ inl i ↦ absurd (cc (i.1)) | inr i ↦ i ]

  pending_stays : (k : ℕ) (p : Pending) → ((k ≡ e.key) → ⊥) → w.pending k ≡ Some p → new.pending k ≡ Some p
  pending_stays k p ne q = if_into (λ u. u ≡ Some p) e.key None (w.pending k) k (λ i. absurd (ne i)) (λ _. q)

  this : (k : ℕ) (x : Entry) → w.pending k ≡ Some (record { entry = x; slot = Some s }) → owner w.place k ≡ m → k ≡ e.key
  this k x p o = L.slots.once k e.key s x e p mine.0 (o ∙ sym mine.1)

  -- a pending entry that names another slot has another key
  stays_named : (n t : ℕ) (x : Entry) → (((n ≡ m) → (t ≡ s) → ⊥)) → PendsAt w x (Some t) × (owner w.place x.key ≡ n) → PendsAt new x (Some t) × (owner w.place x.key ≡ n)
  stays_named n t x ne p = (pending_stays x.key _ (λ i. ne (sym p.1 ∙ ap (owner w.place) i ∙ mine.1) (grind (arith, mine.0, p.0))) p.0, p.1)

  keeps_slots : Slots new
  keeps_slots = record {
    posted_named = λ n t x q. elim (slot_was (λ u. u ≡ Posted x) n t q) [ inl i ↦ absurd (cc (i.2)) | inr i ↦ stays_named n t x i.0 (L.slots.posted_named n t x i.1) ];
    done_named = λ n t h x q. elim (slot_was (λ u. u ≡ Done x h) n t q) [ inl i ↦ absurd (cc (i.2)) | inr i ↦ stays_named n t x i.0 (L.slots.done_named n t h x i.1) ];
    failed_named = λ n t x q. elim (slot_was (λ u. u ≡ Failed x) n t q) [ inl i ↦ absurd (cc (i.2)) | inr i ↦ stays_named n t x i.0 (L.slots.failed_named n t x i.1) ];
    taken_named = λ h n t x q. let old = L.slots.taken_named h n t x q in let named = stays_named n t x (λ i j. absurd (let z = can.posted in let y = old.2 in cc (rw (i, j) at y, z))) (old.0, old.1) in (named.0, named.1, slot_stays (λ u. u ≡ Taken) n t (λ d. absurd (cc d)) old.2);
    taken_by = λ n t q. elim (slot_was (λ u. u ≡ Taken) n t q) [ inl i ↦ absurd (cc (i.2)) | inr i ↦ L.slots.taken_by n t i.1 ];
    taken_once = L.slots.taken_once;
    taken_member = L.slots.taken_member;
    in_slot = λ k t x q z. let was = pending_was k _ q in elim (slot_was (λ u. u ≡ Empty) (owner w.place k) t z) [ inl i ↦ was.0 (this k x (rw i.1 at was.1) i.0) | inr i ↦ L.slots.in_slot k t x was.1 i.1 ];
    once = λ k l t x y p q. L.slots.once k l t x y (pending_was k _ p).1 (pending_was l _ q).1;
    failed = λ n t x q. elim (slot_was (λ u. u ≡ Failed x) n t q) [ inl i ↦ absurd (cc (i.2)) | inr i ↦ L.slots.failed n t x i.1 ];
    in_doubt = λ k x q. L.slots.in_doubt k x (pending_was k _ q).1;
  }

  keeps_looks : Looks new
  keeps_looks = record {
    holder_member = L.looks.holder_member;
    holds_is = L.looks.holds_is;
    posted_seen = λ n b t o h q. absurd (let was = looked_was n _ q in let me = (L.looks.holds_is m).0 can.holds in was.0 (cc (h, me)));
    done_seen = λ n t h q. slot_stays (λ u. word_shown u ≡ ShowsDone h) n t (λ i. absurd (cc i)) (L.looks.done_seen n t h (looked_was n _ q).1);
    failed_seen = λ n t q. slot_stays (λ u. word_shown u ≡ ShowsFailed) n t (λ i. absurd (cc i)) (L.looks.failed_seen n t (looked_was n _ q).1);
    empty_seen = λ n b q. L.looks.empty_seen n b (looked_was n _ q).1;
    full_seen = λ n b q. L.looks.full_seen n b (looked_was n _ q).1;
  }

  held : (h : ℕ) (x : Entry) → IsLogged w h x → IsHeld w h x → IsHeld new h x
  held h x l p = (
    p.0,
    pending_stays x.key _ (λ i. let same : x ≡ e = grind (arith, mine.0, p.1) in L.logs.not_posted h m s e can.posted (rw same at l)) p.1,
    elim p.2 [
      | inl t ↦ inl t
      | inr r ↦ inr (elim r [ inl d ↦ inl (d.0, d.1, slot_stays (λ u. u ≡ Done x h) d.0 d.1 (λ q. absurd (cc q)) d.2) | inr b ↦ inr b ])
    ],
  )

  block_was : (n p : ℕ) (b : Block) → new.blocks n p ≡ Some b → (w.blocks n p ≡ Some b) × (n ≡ m → e.body ≡ Pointer p → ⊥)
  block_was n p b q = elim (if_cases (λ u. u p ≡ Some b) m (λ p. cond (points_at e.body p) None (w.blocks n p)) (w.blocks n) n q) [
    | inl i ↦ elim (cond_cases (λ u. u ≡ Some b) (points_at e.body p) None (w.blocks n p) i.1) [ inl j ↦ absurd (cc (j.1)) | inr j ↦ (j.1, λ _ z. let t = pointed e.body p z in let f = j.0 in absurd (cc (t, f))) ]
    | inr i ↦ (i.1, λ j _. i.0 j)
  ]

  block_stays : (n p : ℕ) (b : Block) → (n ≡ m → e.body ≡ Pointer p → ⊥) → w.blocks n p ≡ Some b → new.blocks n p ≡ Some b
  block_stays n p b ne q = if_into (λ u. u p ≡ Some b) m (λ p. cond (points_at e.body p) None (w.blocks n p)) (w.blocks n) n
      (λ i. cond_into (λ u. u ≡ Some b) (points_at e.body p) None (w.blocks n p) (λ t. absurd (ne i (points e.body p t))) (λ _. q)) (λ _. q)

  -- its own block, where it has one
  block : (p : ℕ) → e.body ≡ Pointer p → (v : List ℕ) × (w.blocks m p ≡ Some (record { key = e.key; bytes = v }))
  block p i = let old = L.blocks.awaited e.key p (record { entry = e; slot = Some s }, mine.0, i) in (old.0, rw mine.1 at old.1)

  -- a block of another key, or of the live value, is another block
  other : (k p : ℕ) (v : List ℕ) → w.blocks (owner w.place k) p ≡ Some (record { key = k; bytes = v }) → ((k ≡ e.key) → IsLive w e.key p v) → owner w.place k ≡ m → e.body ≡ Pointer p → ⊥
  other k p v q live i j = let own = block p j in
      let here : w.blocks m p ≡ Some (record { key = k; bytes = v }) = rw i at q in
      let same : k ≡ e.key = let o = own.1 in grind (arith, here, o) in
      L.blocks.differ e.key p v (live same) (record { entry = e; slot = Some s }, mine.0, j)

  gives : (x : Entry) (v : List ℕ) (body : Body) → x.body ≡ body → w.cell x.key ≡ Some v → IsLast w x.key x → Gives w x v body → Gives new x v body
  gives x v (Embedded u) is c l g = g
  gives x v (Pointer p) is c l g = block_stays _ p _ (other x.key p v g (λ same. subst (λ (k : ℕ). IsLive w k p v) same (c, (x, l, is)))) g
  gives x v Tombstone is c l g = g

  pub keeps : Lawful new
  keeps = record {
    place = L.place;
    slots = keeps_slots;
    looks = keeps_looks;
    standing = assumption;
    deaths = assumption;
    keys = record {
      under_key = λ k p q. L.keys.under_key k p (pending_was k p q).1;
      next_version = λ k p q. L.keys.next_version k p (pending_was k p q).1;
      spelled = λ k p q. L.keys.spelled k p (pending_was k p q).1;
      not_above = L.keys.not_above;
      no_cell = L.keys.no_cell;
      no_names = L.keys.no_names;
      told_present = L.keys.told_present;
    };
    logs = record {
      group = L.logs.group;
      one_log = L.logs.one_log;
      apart = L.logs.apart;
      known = λ h x l. elim (L.logs.known h x l) [ inl q ↦ inl q | inr q ↦ inr (held h x l q) ];
      not_posted = λ h n t x q l. elim (slot_was (λ u. u ≡ Posted x) n t q) [ inl i ↦ absurd (cc (i.2)) | inr i ↦ L.logs.not_posted h n t x i.1 l ];
      done_kept = λ h n t x q. elim (slot_was (λ u. u ≡ Done x h) n t q) [ inl i ↦ absurd (cc (i.2)) | inr i ↦ L.logs.done_kept h n t x i.1 ];
    };
    cells = record {
      value = λ k v c. let old = L.cells.value k v c in (old.0, old.1, gives old.0 v old.0.body refl (ap w.cell old.1.3 ∙ c) (subst (λ (j : ℕ). IsLast w j old.0) (sym old.1.3) old.1) old.2);
      tombs = L.cells.tombs;
      grave = L.cells.grave;
    };
    blocks = record {
      lies = λ n p b q. L.blocks.lies n p b (block_was n p b q).0;
      distinct = λ n o p q b c i j. L.blocks.distinct n o p q b c (block_was n p b i).0 (block_was o q c j).0;
      used = λ n p b q. let was = block_was n p b q in elim (L.blocks.used n p b was.0) [
        | inl i ↦ inl i
        | inr i ↦ inr (i.0, pending_stays b.key i.0 (λ same. was.1 (sym (L.blocks.lies n p b was.0).1 ∙ ap (owner w.place) same ∙ mine.1) (let at = i.1 in let body = i.2 in let here = mine.0 in grind (arith, at, body, here, same))) i.1, i.2)
      ];
      awaited = λ k p q. let was = pending_was k q.0 q.1 in let old = L.blocks.awaited k p (q.0, was.1, q.2) in (old.0, block_stays _ p _ (other k p old.0 old.1 (λ same. absurd (was.0 same))) old.1);
      differ = λ k p v live q. let was = pending_was k q.0 q.1 in L.blocks.differ k p v live (q.0, was.1, q.2);
    };
    counts = record {
      taken = L.counts.taken;
      waiting = λ n t x q. elim (slot_was (λ u. u ≡ Posted x) n t q) [ inl i ↦ absurd (cc (i.2)) | inr i ↦ L.counts.waiting n t x i.1 ];
    };
  }
