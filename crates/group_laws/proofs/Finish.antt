-- A Finish of a Done slot keeps the invariant.
use Rattle.std.proofs.Common.{◌≡◌, ℕ, ◌+◌, ◌≤◌, Bool, true, false, cond, ◌&&◌, not, List, [], Option, Some, None, ◌⊎◌, inl, inr, arith, refl, sym, ap, ◌∙◌, subst}
use Rattle.std.proofs.lemmas.Bool.{cases_eq, eqb-true, eq-eqb}
use Rattle.log_entry.specs.declared.entry.Body.{Body}
use Rattle.log_entry.specs.declared.entry.Entry.{Entry}
use Rattle.group_laws.specs.declared.types.Slot.{Slot}
use Rattle.group_laws.specs.declared.types.Pending.{Pending}
use Rattle.group_laws.specs.declared.types.Block.{Block}
use Rattle.group_laws.specs.declared.types.Seen.{Seen}
use Rattle.store_image.specs.Facts.{In}
use Rattle.group_laws.specs.Places.{owner}
use Rattle.group_laws.specs.State.{Group, word_shown}
use Rattle.group_laws.specs.Invariant.{Blocks, Cells, Counts, Deaths, Gives, IsDead, IsHeld, IsLast, Keys, Lawful, Logs, Looks, PendsAt, Slots, Standing}
use Rattle.group_laws.specs.Steps.{CanFinish, bytes_of, finishes, is_of, left_by, only_own, points_at}
use Rattle.group_laws.specs.declared.types.Slot.TheVariants.{Empty, Posted, Taken, Done, Failed}
use Rattle.log_entry.specs.declared.entry.Body.TheVariants.{Pointer, Embedded, Tombstone}
use Rattle.group_laws.specs.declared.types.SlotWord.TheVariants.{Posted as ShowsPosted, Done as ShowsDone, Failed as ShowsFailed}
use Rattle.group_laws.proofs.Points.{points, pointed}
use Rattle.group_laws.proofs.Puts.{if_cases, if_into, if2_cases, if2_into}

own_was_at : (k : ℕ) (t b : Bool) (o : Option Block) (c : Block) → is_of k o ≡ b → cond (b && not t) None o ≡ Some c → (o ≡ Some c) × (c.key ≡ k → t ≡ true)
own_was_at k t false o c is q = (q, λ i. absurd (grind (arith, eq-eqb)))
own_was_at k true true o c is q = (q, λ i. refl)
own_was_at k false true o c is q = absurd (cc q)

own_was : (k : ℕ) (body : Body) (old : ℕ → Option Block) (p : ℕ) (c : Block) → only_own k body old p ≡ Some c → (old p ≡ Some c) × (c.key ≡ k → points_at body p ≡ true)
own_was k body old p c q = own_was_at k (points_at body p) (is_of k (old p)) (old p) c refl q

own_stays_at : (k : ℕ) (t b : Bool) (o : Option Block) (c : Block) → is_of k o ≡ b → o ≡ Some c → (c.key ≡ k → t ≡ true) → cond (b && not t) None o ≡ Some c
own_stays_at k t false o c is q f = q
own_stays_at k true true o c is q f = q
own_stays_at k false true o c is q f = absurd (grind (arith, eqb-true))

own_stays : (k : ℕ) (body : Body) (old : ℕ → Option Block) (p : ℕ) (c : Block) → old p ≡ Some c → (c.key ≡ k → points_at body p ≡ true) → only_own k body old p ≡ Some c
own_stays k body old p c q f = own_stays_at k (points_at body p) (is_of k (old p)) (old p) c refl q f

done_entry : (x y : Entry) (h i : ℕ) → Done x h ≡ Done y i → x ≡ y
done_entry x y h i q = cc q

left_pointer : (w : Group) (m p : ℕ) (b : Block) (body : Body) → body ≡ Pointer p → w.blocks m p ≡ Some b → left_by w m body ≡ Some b.bytes
left_pointer w m p b (Pointer q) is at = let same : q ≡ p = cc is in rw same (ap bytes_of at)
left_pointer w m p b (Embedded v) is at = absurd (cc is)
left_pointer w m p b Tombstone is at = absurd (cc is)

module _ (w : Group) (m s : ℕ) (e : Entry) (home : ℕ) (L : Lawful w) (can : CanFinish w m s e home) where
  abbrev new : Group
  new = finishes w m s e home

  mine : PendsAt w e (Some s) × (owner w.place e.key ≡ m)
  mine = L.slots.done_named m s home e can.done

  next : e.version ≡ w.last e.key + 1
  next = L.keys.next_version e.key _ mine.0

  kept : In e (w.kept home) × (w.doomed home e.key e.version ≡ false)
  kept = L.logs.done_kept home m s e can.done

  slot_was : (P : Slot → Type 0) (n t : ℕ) → P (new.slot n t) → ((n ≡ m) × (t ≡ s) × P Empty) ⊎ (((n ≡ m) → (t ≡ s) → ⊥) × P (w.slot n t))
  slot_was P n t = if2_cases P m s Empty (w.slot n t) n t

  -- the slot was Done, so what says otherwise of a slot stays true
  slot_stays : (P : Slot → Type 0) (n t : ℕ) → (P (Done e home) → ⊥) → P (w.slot n t) → P (new.slot n t)
  slot_stays P n t ne p = if2_into P m s Empty (w.slot n t) n t (λ i j. absurd (ne (subst P can.done (rw (i, j) at p)))) (λ _. p)

  looked_was : (n : ℕ) (x : Seen) → In x (new.looked n) → ((n ≡ m) → ⊥) × In x (w.looked n)
  looked_was n x q = elim (if_cases (In x) m [] (w.looked n) n q) [ inl p ↦ absurd p.1 | inr p ↦ p ]

  pending_was : (k : ℕ) (p : Pending) → new.pending k ≡ Some p → ((k ≡ e.key) → ⊥) × (w.pending k ≡ Some p)
  pending_was k p q = elim (if_cases (λ u. u ≡ Some p) e.key None (w.pending k) k q) [ inl i ↦ absurd (cc (i.1)) | inr i ↦ i ]

  pending_stays : (k : ℕ) (p : Pending) → ((k ≡ e.key) → ⊥) → w.pending k ≡ Some p → new.pending k ≡ Some p
  pending_stays k p ne q = if_into (λ u. u ≡ Some p) e.key None (w.pending k) k (λ i. absurd (ne i)) (λ _. q)

  -- another pending entry has another key
  other_key : (x : Entry) (at : Option ℕ) → PendsAt w x at → (x ≡ e → ⊥) → x.key ≡ e.key → ⊥
  other_key x at p ne i = ne (grind (arith, mine.0, p))

  last_same : (k : ℕ) → ((k ≡ e.key) → ⊥) → new.last k ≡ w.last k
  last_same k ne = if_into (λ u. u ≡ w.last k) e.key e.version (w.last k) k (λ i. absurd (ne i)) (λ _. refl)

  last_new : (k : ℕ) → (k ≡ e.key) → new.last k ≡ e.version
  last_new k i = if_into (λ u. u ≡ e.version) e.key e.version (w.last k) k (λ _. refl) (λ ne. absurd (ne i))

  last_rises : (k : ℕ) → w.last k ≤ new.last k
  last_rises k = if_into (λ u. w.last k ≤ u) e.key e.version (w.last k) k (λ i. let n = next in rw i (omega arith)) (λ _. omega arith)

  cell_same : (k : ℕ) → ((k ≡ e.key) → ⊥) → new.cell k ≡ w.cell k
  cell_same k ne = if_into (λ u. u ≡ w.cell k) e.key (left_by w m e.body) (w.cell k) k (λ i. absurd (ne i)) (λ _. refl)

  cell_new : (k : ℕ) → (k ≡ e.key) → new.cell k ≡ left_by w m e.body
  cell_new k i = if_into (λ u. u ≡ left_by w m e.body) e.key (left_by w m e.body) (w.cell k) k (λ _. refl) (λ ne. absurd (ne i))

  present_was : (k v h : ℕ) → new.present k v ≡ Some h → ((k ≡ e.key) × (v ≡ e.version) × (Some home ≡ Some h)) ⊎ (((k ≡ e.key) → (v ≡ e.version) → ⊥) × (w.present k v ≡ Some h))
  present_was k v h = if2_cases (λ u. u ≡ Some h) e.key e.version (Some home) (w.present k v) k v

  present_stays : (k v h : ℕ) → w.present k v ≡ Some h → new.present k v ≡ Some h
  present_stays k v h p = if2_into (λ u. u ≡ Some h) e.key e.version (Some home) (w.present k v) k v (λ i j. absurd (let low = L.keys.not_above k v h p in let n = next in grind (arith, low, n))) (λ _. p)

  present_new : (k v : ℕ) → k ≡ e.key → v ≡ e.version → new.present k v ≡ Some home
  present_new k v i j = if2_into (λ u. u ≡ Some home) e.key e.version (Some home) (w.present k v) k v (λ _ _. refl) (λ ne. absurd (ne i j))

  keeps_keys : Keys new
  keeps_keys = record {
    under_key = λ k p q. L.keys.under_key k p (pending_was k p q).1;
    next_version = λ k p q. let was = pending_was k p q in rw (last_same k was.0) (L.keys.next_version k p was.1);
    spelled = λ k p q. L.keys.spelled k p (pending_was k p q).1;
    not_above = λ k v h p. elim (present_was k v h p) [
      | inl i ↦ let l = last_new k i.0 in omega (arith, l, i.1)
      | inr i ↦ let low = L.keys.not_above k v h i.1 in let up = last_rises k in omega (arith, low, up)
    ];
    no_cell = λ k z. elim (cases_eq k e.key) [
      | inl i ↦ absurd (let l = last_new k i in let n = next in omega (arith, l, n, z))
      | inr ne ↦ cell_same k ne ∙ L.keys.no_cell k (sym (last_same k ne) ∙ z)
    ];
    no_names = λ k v z. elim (cases_eq k e.key) [
      | inl i ↦ absurd (let l = last_new k i in let n = next in omega (arith, l, n, z))
      | inr ne ↦ if2_into (λ u. u ≡ None) e.key e.version (Some home) (w.present k v) k v (λ i _. absurd (ne i)) (λ _. L.keys.no_names k v (sym (last_same k ne) ∙ z))
    ];
    told_present = λ k v t. let old = L.keys.told_present k v t in (old.0, present_stays k v old.0 old.1);
  }

  -- what names this slot is this entry
  this : (k : ℕ) (x : Entry) → w.pending k ≡ Some (record { entry = x; slot = Some s }) → owner w.place k ≡ m → k ≡ e.key
  this k x p o = L.slots.once k e.key s x e p mine.0 (o ∙ sym mine.1)

  stays_named : (n t : ℕ) (x : Entry) → (w.slot n t ≡ Done e home → ⊥) → PendsAt w x (Some t) × (owner w.place x.key ≡ n) → PendsAt new x (Some t) × (owner w.place x.key ≡ n)
  stays_named n t x ne p = (pending_stays x.key _ (λ i. ne (let same : (x ≡ e) × (t ≡ s) = (grind (arith, mine.0, p.0), grind (arith, mine.0, p.0)) in rw (sym p.1 ∙ ap (owner w.place) i ∙ mine.1, same.1) can.done)) p.0, p.1)

  keeps_slots : Slots new
  keeps_slots = record {
    posted_named = λ n t x q. elim (slot_was (λ u. u ≡ Posted x) n t q) [ inl i ↦ absurd (cc (i.2)) | inr i ↦ stays_named n t x (λ d. absurd (cc (d, i.1))) (L.slots.posted_named n t x i.1) ];
    done_named = λ n t h x q. elim (slot_was (λ u. u ≡ Done x h) n t q) [
      | inl i ↦ absurd (cc (i.2))
      | inr i ↦ let old = L.slots.done_named n t h x i.1 in (pending_stays x.key _ (λ j. i.0 (sym old.1 ∙ ap (owner w.place) j ∙ mine.1) (grind (arith, mine.0, old.0))) old.0, old.1)
    ];
    failed_named = λ n t x q. elim (slot_was (λ u. u ≡ Failed x) n t q) [ inl i ↦ absurd (cc (i.2)) | inr i ↦ stays_named n t x (λ d. absurd (cc (d, i.1))) (L.slots.failed_named n t x i.1) ];
    taken_named = λ h n t x q. let old = L.slots.taken_named h n t x q in let named = stays_named n t x (λ d. absurd (cc (d, old.2))) (old.0, old.1) in (named.0, named.1, slot_stays (λ u. u ≡ Taken) n t (λ d. absurd (cc d)) old.2);
    taken_by = λ n t q. elim (slot_was (λ u. u ≡ Taken) n t q) [ inl i ↦ absurd (cc (i.2)) | inr i ↦ L.slots.taken_by n t i.1 ];
    taken_once = L.slots.taken_once;
    taken_member = L.slots.taken_member;
    in_slot = λ k t x q z. let was = pending_was k _ q in elim (slot_was (λ u. u ≡ Empty) (owner w.place k) t z) [
      | inl i ↦ was.0 (this k x (rw i.1 at was.1) i.0)
      | inr i ↦ L.slots.in_slot k t x was.1 i.1
    ];
    once = λ k l t x y p q. L.slots.once k l t x y (pending_was k _ p).1 (pending_was l _ q).1;
    failed = λ n t x q. elim (slot_was (λ u. u ≡ Failed x) n t q) [ inl i ↦ absurd (cc (i.2)) | inr i ↦ L.slots.failed n t x i.1 ];
    in_doubt = λ k x q. L.slots.in_doubt k x (pending_was k _ q).1;
  }

  keeps_looks : Looks new
  keeps_looks = record {
    holder_member = L.looks.holder_member;
    holds_is = L.looks.holds_is;
    posted_seen = λ n b t o h q. slot_stays (λ u. word_shown u ≡ ShowsPosted o) b t (λ i. absurd (cc i)) (L.looks.posted_seen n b t o h (looked_was n _ q).1);
    done_seen = λ n t h q. let was = looked_was n _ q in if2_into (λ u. word_shown u ≡ ShowsDone h) m s Empty (w.slot n t) n t (λ i _. absurd (was.0 i)) (λ _. L.looks.done_seen n t h was.1);
    failed_seen = λ n t q. let was = looked_was n _ q in if2_into (λ u. word_shown u ≡ ShowsFailed) m s Empty (w.slot n t) n t (λ i _. absurd (was.0 i)) (λ _. L.looks.failed_seen n t was.1);
    empty_seen = λ n b q. L.looks.empty_seen n b (looked_was n _ q).1;
    full_seen = λ n b q. L.looks.full_seen n b (looked_was n _ q).1;
  }

  -- its own block, where it has one
  block : (p : ℕ) → e.body ≡ Pointer p → (v : List ℕ) × (w.blocks m p ≡ Some (record { key = e.key; bytes = v }))
  block p i = let old = L.blocks.awaited e.key p (record { entry = e; slot = Some s }, mine.0, i) in (old.0, rw mine.1 at old.1)

  is_last : (k : ℕ) (x : Entry) → ((k ≡ e.key) → ⊥) → IsLast w k x → IsLast new k x
  is_last k x ne q = (q.0, rw (last_same k ne) (present_stays k _ q.0 q.1), q.2, q.3, rw (last_same k ne) q.4, rw (last_same k ne) q.5)

  last_is : (k : ℕ) → k ≡ e.key → IsLast new k e
  last_is k i = (home, rw (last_new k i) (present_new k e.version i refl), kept.0, sym i, sym (last_new k i), rw (last_new k i, i) kept.1)

  was_last : (k : ℕ) (x : Entry) → ((k ≡ e.key) → ⊥) → IsLast new k x → IsLast w k x
  was_last k x ne q = elim (present_was k _ q.0 q.1) [
    | inl i ↦ absurd (ne i.0)
    | inr i ↦ (q.0, rw (last_same k ne) at i.1, q.2, q.3, rw (last_same k ne) at q.4, rw (last_same k ne) at q.5)
  ]

  block_was : (n p : ℕ) (b : Block) → new.blocks n p ≡ Some b → (w.blocks n p ≡ Some b) × (n ≡ m → b.key ≡ e.key → e.body ≡ Pointer p)
  block_was n p b q = elim (if_cases (λ u. u p ≡ Some b) m (only_own e.key e.body (w.blocks n)) (w.blocks n) n q) [
    | inl i ↦ let old = own_was e.key e.body (w.blocks n) p b i.1 in (old.0, λ _ j. points e.body p (old.1 j))
    | inr i ↦ (i.1, λ j _. absurd (i.0 j))
  ]

  block_stays : (n p : ℕ) (b : Block) → (n ≡ m → b.key ≡ e.key → e.body ≡ Pointer p) → w.blocks n p ≡ Some b → new.blocks n p ≡ Some b
  block_stays n p b f q = if_into (λ u. u p ≡ Some b) m (only_own e.key e.body (w.blocks n)) (w.blocks n) n (λ i. own_stays e.key e.body (w.blocks n) p b q (λ j. pointed e.body p (f i j))) (λ _. q)

  held : (h : ℕ) (x : Entry) → ((x.key ≡ e.key) → ⊥) → IsHeld w h x → IsHeld new h x
  held h x ne p = (
    p.0,
    pending_stays x.key _ ne p.1,
    elim p.2 [
      | inl t ↦ inl t
      | inr r ↦ inr (elim r [ inl d ↦ inl (d.0, d.1, slot_stays (λ u. u ≡ Done x h) d.0 d.1 (λ q. ne (ap (λ (x : Entry). x.key) (sym (done_entry e x home h q)))) d.2) | inr b ↦ inr b ])
    ],
  )

  keeps_logs : Logs new
  keeps_logs = record {
    group = L.logs.group;
    known = λ h x l. elim (L.logs.known h x l) [
      | inl q ↦ inl (present_stays _ _ h q)
      | inr q ↦ elim (cases_eq x.key e.key) [
        | inl i ↦ let same : x ≡ e = grind (arith, mine.0, q.1) in let one = L.logs.one_log h home x e l (inl kept.0) i (ap (λ (x : Entry). x.version) same) in inl (rw (one.0) (present_new _ _ i (ap (λ (x : Entry). x.version) same)))
        | inr ne ↦ inr (held h x ne q)
      ]
    ];
    one_log = L.logs.one_log;
    apart = L.logs.apart;
    not_posted = λ h n t x q l. elim (slot_was (λ u. u ≡ Posted x) n t q) [ inl i ↦ absurd (cc (i.2)) | inr i ↦ L.logs.not_posted h n t x i.1 l ];
    done_kept = λ h n t x q. elim (slot_was (λ u. u ≡ Done x h) n t q) [ inl i ↦ absurd (cc (i.2)) | inr i ↦ L.logs.done_kept h n t x i.1 ];
  }

  keeps_standing : Standing new
  keeps_standing = record {
    stands = λ k v h p. elim (present_was k v h p) [
      | inl i ↦ let at : home ≡ h = cc (i.2) in inl (e, subst (λ (h : ℕ). In e (w.kept h)) at kept.0, sym i.0, sym i.1)
      | inr i ↦ L.standing.stands k v h i.1
    ];
    away = λ h k v g. let old = L.standing.away h k v g in (present_stays k v h old.0, old.1, old.2);
    gone_home = L.standing.gone_home;
    leaving_other = L.standing.leaving_other;
    not_both = L.standing.not_both;
    full = L.standing.full;
    no_self = L.standing.no_self;
  }

  gives_old : (x : Entry) (v : List ℕ) (body : Body) → ((x.key ≡ e.key) → ⊥) → Gives w x v body → Gives new x v body
  gives_old x v (Embedded u) ne g = g
  gives_old x v (Pointer p) ne g = block_stays _ p _ (λ _ j. absurd (ne j)) g
  gives_old x v Tombstone ne g = g

  gives_new : (v : List ℕ) (body : Body) → e.body ≡ body → left_by w m body ≡ Some v → Gives new e v body
  gives_new v (Embedded u) is c = cc c
  gives_new v (Pointer p) is c = let own = block p is in block_stays _ p _ (λ _ _. is) (rw mine.1 (own.1 ∙ ap (λ (u : List ℕ). Some (record { key = e.key; bytes = u })) (let left = left_pointer w m p _ (Pointer p) refl own.1 in cc (left, c))))
  gives_new v Tombstone is c = absurd (cc c)

  buried : (body : Body) → e.body ≡ body → left_by w m body ≡ None → body ≡ Tombstone
  buried (Embedded u) is c = absurd (cc c)
  buried (Pointer p) is c = let own = block p is in let left = left_pointer w m p _ (Pointer p) refl own.1 in absurd (cc (left, c))
  buried Tombstone is c = refl

  keeps_cells : Cells new
  keeps_cells = record {
    value = λ k v c. elim (cases_eq k e.key) [
      | inl i ↦ (e, last_is k i, gives_new v e.body refl (sym (cell_new k i) ∙ c))
      | inr ne ↦ let old = L.cells.value k v (sym (cell_same k ne) ∙ c) in (old.0, is_last k old.0 ne old.1, gives_old old.0 v old.0.body (λ j. ne (sym old.1.3 ∙ j)) old.2)
    ];
    tombs = λ k h x c l i j. elim (cases_eq k e.key) [
      | inl z ↦ let same = (L.logs.one_log h home x e l (inl kept.0) (i ∙ z) (j ∙ last_new k z)).1 in ap (λ (x : Entry). x.body) same ∙ buried e.body refl (sym (cell_new k z) ∙ c)
      | inr ne ↦ L.cells.tombs k h x (sym (cell_same k ne) ∙ c) l i (j ∙ last_same k ne)
    ];
    grave = λ k c n. elim (cases_eq k e.key) [
      | inl i ↦ inl (e, last_is k i)
      | inr ne ↦ elim (L.cells.grave k (sym (cell_same k ne) ∙ c) (λ z. n (last_same k ne ∙ z))) [
        | inl q ↦ inl (q.0, is_last k q.0 ne q.1)
        | inr alone ↦ inr (λ v h p. elim (present_was k v h p) [ inl i ↦ absurd (ne i.0) | inr i ↦ alone v h i.1 ∙ sym (last_same k ne) ])
      ]
    ];
  }

  dead_stays : (k v : ℕ) → IsDead w k v → IsDead new k v
  dead_stays k v d = elim (cases_eq k e.key) [
    | inl i ↦ inl (let l = last_new k i in let n = next in let low : v ≤ w.last k = elim d [ inl z ↦ omega arith | inr z ↦ omega (arith, z.0) ] in let same = ap w.last i in omega (arith, l, n, low, same))
    | inr ne ↦ elim d [
      | inl z ↦ inl (rw (last_same k ne) z)
      | inr z ↦ inr (z.0 ∙ sym (last_same k ne), cell_same k ne ∙ z.1, λ u h p. elim (present_was k u h p) [ inl i ↦ absurd (ne i.0) | inr i ↦ z.2 u h i.1 ])
    ]
  ]

  keeps_deaths : Deaths new
  keeps_deaths = record {
    doomed_dead = L.deaths.doomed_dead;
    dead_kept = L.deaths.dead_kept;
    mail_from = L.deaths.mail_from;
    dead_is = λ h k v d. let old = L.deaths.dead_is h k v d in (old.0, present_stays k v h old.1, dead_stays k v old.2);
    mail_is = λ a h n x p q. let old = L.deaths.mail_is a h n x p q in (old.0, present_stays _ _ h old.1, dead_stays _ _ old.2);
  }

  keeps_blocks : Blocks new
  keeps_blocks = record {
    lies = λ n p b q. L.blocks.lies n p b (block_was n p b q).0;
    distinct = λ n o p q b c i j. L.blocks.distinct n o p q b c (block_was n p b i).0 (block_was o q c j).0;
    used = λ n p b q. let was = block_was n p b q in let owns = (L.blocks.lies n p b was.0).1 in elim (cases_eq b.key e.key) [
      | inl i ↦ let here : n ≡ m = sym owns ∙ ap (owner w.place) i ∙ mine.1 in let body = was.1 here i in
          inl (cell_new b.key i ∙ left_pointer w m p b e.body body (rw here at was.0), (e, last_is b.key i, body))
      | inr ne ↦ elim (L.blocks.used n p b was.0) [
        | inl i ↦ inl (cell_same b.key ne ∙ i.0, (i.1.0, is_last b.key i.1.0 ne i.1.1, i.1.2))
        | inr i ↦ inr (i.0, pending_stays b.key i.0 ne i.1, i.2)
      ]
    ];
    awaited = λ k p q. let was = pending_was k q.0 q.1 in let old = L.blocks.awaited k p (q.0, was.1, q.2) in (old.0, block_stays _ p _ (λ _ j. absurd (was.0 j)) old.1);
    differ = λ k p v live q. let was = pending_was k q.0 q.1 in L.blocks.differ k p v (sym (cell_same k was.0) ∙ live.0, (live.1.0, was_last k live.1.0 was.0 live.1.1, live.1.2)) (q.0, was.1, q.2);
  }

  keeps_counts : Counts new
  keeps_counts = record {
    taken = L.counts.taken;
    waiting = λ n t x q. elim (slot_was (λ u. u ≡ Posted x) n t q) [ inl i ↦ absurd (cc (i.2)) | inr i ↦ L.counts.waiting n t x i.1 ];
  }

  pub keeps : Lawful new
  keeps = record { place = L.place; keys = keeps_keys; slots = keeps_slots; looks = keeps_looks; logs = keeps_logs; standing = keeps_standing; cells = keeps_cells; deaths = keeps_deaths; blocks = keeps_blocks; counts = keeps_counts }
