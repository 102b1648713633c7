-- A Post keeps the invariant.
use Rattle.std.proofs.Common.{◌≡◌, ℕ, ◌+◌, ◌<◌, ◌≤◌, List, [], ◌∷◌, ◌++◌, length, Option, Some, ◌⊎◌, inl, inr, arith, refl, sym, ap, ◌∙◌, subst}
use Rattle.log_entry.specs.declared.entry.Body.{Body}
use Rattle.log_entry.specs.declared.entry.Entry.{Entry}
use Rattle.log_entry.specs.Spelling.{HasSpelling}
use Rattle.group_laws.proofs.Places.{parts_rise, units_some}
use Rattle.group_laws.specs.declared.types.Slot.{Slot}
use Rattle.group_laws.specs.declared.types.Pending.{Pending}
use Rattle.group_laws.specs.declared.types.Block.{Block}
use Rattle.group_laws.specs.declared.types.Seen.{Seen}
use Rattle.store_image.specs.Facts.{In}
use Rattle.group_laws.specs.Places.{Apart, LiesIn, members, owner, units}
use Rattle.group_laws.specs.Updates.{times}
use Rattle.group_laws.specs.State.{Group, word_shown}
use Rattle.group_laws.specs.Invariant.{Blocks, Cells, Counts, Gives, IsHeld, IsLogged, Keys, Lawful, Logs, Looks, PendsAt, Slots}
use Rattle.group_laws.specs.Steps.{CanPost, posts, with_block}
use Rattle.group_laws.specs.declared.types.Slot.TheVariants.{Empty, Posted, Taken, Done, Failed}
use Rattle.log_entry.specs.declared.entry.Body.TheVariants.{Pointer, Embedded, Tombstone}
use Rattle.group_laws.specs.declared.types.SlotWord.TheVariants.{Posted as ShowsPosted, Done as ShowsDone, Failed as ShowsFailed}
use Rattle.std.proofs.lemmas.Bool.{cases_eq}
use Rattle.group_laws.proofs.Facts.{live_block}
use Rattle.group_laws.proofs.Times.{times-push_same, times-push_more}
use Rattle.group_laws.proofs.Puts.{if_cases, if_into, if2_cases, if2_into}

with_was : (k : ℕ) (v : List ℕ) (body : Body) (old : ℕ → Option Block) (p : ℕ) (b : Block) → with_block k v body old p ≡ Some b → ((body ≡ Pointer p) × (b ≡ record { key = k; bytes = v })) ⊎ (old p ≡ Some b)
with_was k v (Pointer q) old p b is = elim (if_cases (λ u. u ≡ Some b) q (Some (record { key = k; bytes = v })) (old p) p is) [ inl h ↦ inl (ap Pointer (sym h.0), cc (h.1)) | inr h ↦ inr h.1 ]
with_was k v (Embedded u) old p b is = inr is
with_was k v Tombstone old p b is = inr is

with_stays : (k : ℕ) (v : List ℕ) (body : Body) (old : ℕ → Option Block) (p : ℕ) (b : Block) → (body ≡ Pointer p → ⊥) → old p ≡ Some b → with_block k v body old p ≡ Some b
with_stays k v (Pointer q) old p b ne is = if_into (λ u. u ≡ Some b) q (Some (record { key = k; bytes = v })) (old p) p (λ e. absurd (ne (ap Pointer (sym e)))) (λ _. is)
with_stays k v (Embedded u) old p b ne is = is
with_stays k v Tombstone old p b ne is = is

with_new : (k : ℕ) (v : List ℕ) (body : Body) (old : ℕ → Option Block) (p : ℕ) → body ≡ Pointer p → with_block k v body old p ≡ Some (record { key = k; bytes = v })
with_new k v (Pointer q) old p is = if_into (λ u. u ≡ Some (record { key = k; bytes = v })) q (Some (record { key = k; bytes = v })) (old p) p (λ _. refl) (λ no. absurd (no (cc is)))
with_new k v (Embedded u) old p is = absurd (cc is)
with_new k v Tombstone old p is = absurd (cc is)

module _ (w : Group) (m s : ℕ) (e : Entry) (value : List ℕ) (L : Lawful w) (can : CanPost w m s e value) where
  abbrev new : Group
  new = posts w m s e value

  slot_was : (P : Slot → Type 0) (n t : ℕ) → P (new.slot n t) → ((n ≡ m) × (t ≡ s) × P (Posted e)) ⊎ (((n ≡ m) → (t ≡ s) → ⊥) × P (w.slot n t))
  slot_was P n t = if2_cases P m s (Posted e) (w.slot n t) n t

  slot_into : (P : Slot → Type 0) (n t : ℕ) → ((n ≡ m) → (t ≡ s) → P (Posted e)) → (((n ≡ m) → (t ≡ s) → ⊥) → P (w.slot n t)) → P (new.slot n t)
  slot_into P n t = if2_into P m s (Posted e) (w.slot n t) n t

  pending_was : (k : ℕ) (p : Pending) → new.pending k ≡ Some p → ((k ≡ e.key) × (Some (record { entry = e; slot = Some s }) ≡ Some p)) ⊎ ((k ≡ e.key → ⊥) × (w.pending k ≡ Some p))
  pending_was k p = if_cases (λ u. u ≡ Some p) e.key (Some (record { entry = e; slot = Some s })) (w.pending k) k

  pending_stays : (k : ℕ) (p : Pending) → w.pending k ≡ Some p → new.pending k ≡ Some p
  pending_stays k p q = if_into (λ u. u ≡ Some p) e.key (Some (record { entry = e; slot = Some s })) (w.pending k) k (λ i. absurd (grind (arith, can.idle))) (λ _. q)

  pending_new : (k : ℕ) → k ≡ e.key → new.pending k ≡ Some (record { entry = e; slot = Some s })
  pending_new k i = if_into (λ u. u ≡ Some (record { entry = e; slot = Some s })) e.key (Some (record { entry = e; slot = Some s })) (w.pending k) k (λ _. refl) (λ no. absurd (no i))

  pending_into : (x : Entry) (t : ℕ) → (x ≡ e) × (t ≡ s) → PendsAt new x (Some t)
  pending_into x t i = rw (i.0, i.1) (pending_new e.key refl)

  looked_was : (n : ℕ) (x : Seen) → In x (new.looked n) → ((n ≡ m) → ⊥) × In x (w.looked n)
  looked_was n x q = elim (if_cases (In x) m [] (w.looked n) n q) [ inl p ↦ absurd p.1 | inr p ↦ p ]

  -- no log has an entry of the new name
  fresh : (h : ℕ) (x : Entry) → IsLogged w h x → x.key ≡ e.key → x.version ≡ e.version → ⊥
  fresh h x l k v = elim (L.logs.known h x l) [
    | inl p ↦ grind (arith, L.keys.not_above x.key x.version h, can.next)
    | inr p ↦ let one = p.1 in grind (arith, one, can.idle)
  ]

  keeps_keys : Keys new
  keeps_keys = record {
    under_key = λ k p q. let was = pending_was k p q in grind (arith, L.keys.under_key k p);
    next_version = λ k p q. let was = pending_was k p q in grind (arith, L.keys.next_version k p, can.next);
    spelled = λ k p q. elim (pending_was k p q) [ inl i ↦ subst HasSpelling (let is : record { entry = e; slot = Some s } ≡ p = cc (i.1) in ap (λ (x : Pending). x.entry) is) can.spelled | inr i ↦ L.keys.spelled k p i.1 ];
    not_above = L.keys.not_above;
    no_cell = L.keys.no_cell;
    no_names = L.keys.no_names;
    told_present = L.keys.told_present;
  }

  keeps_slots : Slots new
  keeps_slots = record {
    posted_named = λ n t x q. elim (slot_was (λ u. u ≡ Posted x) n t q) [
      | inl p ↦ (pending_into x t (grind (arith, p.2, p.1)), grind (arith, p.2, can.own, p.0))
      | inr p ↦ let old = L.slots.posted_named n t x p.1 in (pending_stays _ _ old.0, old.1)
    ];
    done_named = λ n t h x q. elim (slot_was (λ u. u ≡ Done x h) n t q) [ inl p ↦ absurd (cc (p.2)) | inr p ↦ let old = L.slots.done_named n t h x p.1 in (pending_stays _ _ old.0, old.1) ];
    failed_named = λ n t x q. elim (slot_was (λ u. u ≡ Failed x) n t q) [ inl p ↦ absurd (cc (p.2)) | inr p ↦ let old = L.slots.failed_named n t x p.1 in (pending_stays _ _ old.0, old.1) ];
    taken_named = λ h n t x q. let old = L.slots.taken_named h n t x q in (pending_stays _ _ old.0, old.1, slot_into (λ u. u ≡ Taken) n t (λ i j. absurd (grind (arith, can.empty, old.2))) (λ _. old.2));
    taken_by = λ n t q. elim (slot_was (λ u. u ≡ Taken) n t q) [ inl p ↦ absurd (cc (p.2)) | inr p ↦ L.slots.taken_by n t p.1 ];
    taken_once = L.slots.taken_once;
    taken_member = L.slots.taken_member;
    in_slot = λ k t x q z. let was = pending_was k _ q in let slot = slot_was (λ u. u ≡ Empty) (owner w.place k) t z in grind (arith, L.slots.in_slot k t x, can.own);
    once = λ k l t x y p q o. let wp = pending_was k _ p in let wq = pending_was l _ q in grind (arith, L.slots.once k l t x y, L.slots.in_slot k t x, L.slots.in_slot l t y, can.empty, can.own);
    failed = λ n t x q. elim (slot_was (λ u. u ≡ Failed x) n t q) [ inl p ↦ absurd (cc (p.2)) | inr p ↦ L.slots.failed n t x p.1 ];
    in_doubt = λ k x q. elim (pending_was k _ q) [ inl p ↦ absurd (grind (arith, p.1)) | inr p ↦ L.slots.in_doubt k x p.1 ];
  }

  keeps_looks : Looks new
  keeps_looks = record {
    holder_member = L.looks.holder_member;
    holds_is = L.looks.holds_is;
    posted_seen = λ n b t o h q. slot_into (λ u. word_shown u ≡ ShowsPosted o) b t (λ i j. absurd (let was = L.looks.posted_seen n b t o h (looked_was n _ q).1 in let empty = can.empty in cc (was, empty, i, j))) (λ _. L.looks.posted_seen n b t o h (looked_was n _ q).1);
    done_seen = λ n t h q. let was = looked_was n _ q in slot_into (λ u. word_shown u ≡ ShowsDone h) n t (λ i j. absurd (was.0 i)) (λ _. L.looks.done_seen n t h was.1);
    failed_seen = λ n t q. let was = looked_was n _ q in slot_into (λ u. word_shown u ≡ ShowsFailed) n t (λ i j. absurd (was.0 i)) (λ _. L.looks.failed_seen n t was.1);
    empty_seen = λ n b q. L.looks.empty_seen n b (looked_was n _ q).1;
    full_seen = λ n b q. L.looks.full_seen n b (looked_was n _ q).1;
  }

  held : (h : ℕ) (x : Entry) → IsHeld w h x → IsHeld new h x
  held h x p = (
    p.0,
    pending_stays _ _ p.1,
    elim p.2 [
      | inl t ↦ inl t
      | inr r ↦ inr (elim r [
        | inl d ↦ inl (d.0, d.1, slot_into (λ u. u ≡ Done x h) d.0 d.1 (λ i j. absurd (grind (arith, can.empty, d.2))) (λ _. d.2))
        | inr b ↦ inr b
      ])
    ],
  )

  keeps_logs : Logs new
  keeps_logs = record {
    group = L.logs.group;
    known = λ h x l. elim (L.logs.known h x l) [ inl q ↦ inl q | inr q ↦ inr (held h x q) ];
    one_log = L.logs.one_log;
    apart = L.logs.apart;
    not_posted = λ h n t x q l. let slot = slot_was (λ u. u ≡ Posted x) n t q in grind (arith, L.logs.not_posted h n t x, fresh h x);
    done_kept = λ h n t x q. elim (slot_was (λ u. u ≡ Done x h) n t q) [ inl p ↦ absurd (cc (p.2)) | inr p ↦ L.logs.done_kept h n t x p.1 ];
  }

  block_was : (n p : ℕ) (b : Block) → new.blocks n p ≡ Some b → ((n ≡ m) × (e.body ≡ Pointer p) × (b ≡ record { key = e.key; bytes = value })) ⊎ (w.blocks n p ≡ Some b)
  block_was n p b q = elim (if_cases (λ u. u p ≡ Some b) m (with_block e.key value e.body (w.blocks n)) (w.blocks n) n q) [
    | inl i ↦ elim (with_was e.key value e.body (w.blocks n) p b i.1) [ inl j ↦ inl (i.0, j.0, j.1) | inr j ↦ inr j ]
    | inr i ↦ inr i.1
  ]

  -- the new block covers no block that was
  clear : (p : ℕ) (b : Block) → e.body ≡ Pointer p → w.blocks m p ≡ Some b → ⊥
  clear p b i q = let far = (can.block p i).1.1 p b q in grind (arith, far, units_some (length value), units_some (length b.bytes))

  block_stays : (n p : ℕ) (b : Block) → w.blocks n p ≡ Some b → new.blocks n p ≡ Some b
  block_stays n p b q = if_into (λ u. u p ≡ Some b) m (with_block e.key value e.body (w.blocks n)) (w.blocks n) n (λ i. with_stays e.key value e.body (w.blocks n) p b (λ j. clear p b j (rw i at q)) q) (λ _. q)

  block_new : (n p : ℕ) → n ≡ m → e.body ≡ Pointer p → new.blocks n p ≡ Some (record { key = e.key; bytes = value })
  block_new n p i j = if_into (λ u. u p ≡ Some (record { key = e.key; bytes = value })) m (with_block e.key value e.body (w.blocks n)) (w.blocks n) n (λ _. with_new e.key value e.body (w.blocks n) p j) (λ no. absurd (no i))

  gives : (x : Entry) (v : List ℕ) (body : Body) → Gives w x v body → Gives new x v body
  gives x v (Embedded u) g = g
  gives x v (Pointer p) g = block_stays _ _ _ g
  gives x v Tombstone g = g

  keeps_cells : Cells new
  keeps_cells = record {
    value = λ k v c. let old = L.cells.value k v c in (old.0, old.1, gives old.0 v old.0.body old.2);
    tombs = L.cells.tombs;
    grave = L.cells.grave;
  }

  -- blocks in different parts share no unit
  other_part : (n p a q b : ℕ) → (n ≡ m → ⊥) → LiesIn w.place m p a → LiesIn w.place n q b → Apart p a q b
  other_part n p a q b ne i j = grind (arith, parts_rise w.place m n, parts_rise w.place n m)

  turn : (p a q b : ℕ) → Apart p a q b → Apart q b p a
  turn p a q b (inl i) = inr i
  turn p a q b (inr i) = inl i

  new_lies : (n p : ℕ) (b : Block) → (n ≡ m) × (e.body ≡ Pointer p) × (b ≡ record { key = e.key; bytes = value }) → LiesIn w.place n p (units (length b.bytes)) × (owner w.place b.key ≡ n) × (n < members w.place)
  new_lies n p b i = rw (i.0, i.2) ((can.block p i.1).1.0, can.own, can.slot.0)

  new_apart : (o p q : ℕ) (b c : Block) → e.body ≡ Pointer p → b ≡ record { key = e.key; bytes = value } → w.blocks o q ≡ Some c → Apart p (units (length b.bytes)) q (units (length c.bytes))
  new_apart o p q b c i j k = rw j (elim (cases_eq o m) [
    | inl same ↦ (can.block p i).1.1 q c (rw same at k)
    | inr ne ↦ other_part o p _ q _ ne (can.block p i).1.0 (L.blocks.lies o q c k).0
  ])

  keeps_blocks : Blocks new
  keeps_blocks = record {
    lies = λ n p b q. elim (block_was n p b q) [ inl i ↦ new_lies n p b i | inr i ↦ L.blocks.lies n p b i ];
    distinct = λ n o p q b c i j ne. elim (block_was n p b i) [
      | inl x ↦ elim (block_was o q c j) [
        | inl y ↦ absurd (grind (arith, x.0, x.1, y.0, y.1))
        | inr y ↦ new_apart o p q b c x.1 x.2 y
      ]
      | inr x ↦ elim (block_was o q c j) [
        | inl y ↦ turn q _ p _ (new_apart n q p c b y.1 y.2 x)
        | inr y ↦ L.blocks.distinct n o p q b c x y ne
      ]
    ];
    used = λ n p b q. elim (block_was n p b q) [
      | inl i ↦ inr (record { entry = e; slot = Some s }, pending_new b.key (ap (λ (b : Block). b.key) i.2), i.1)
      | inr i ↦ elim (L.blocks.used n p b i) [ inl j ↦ inl j | inr j ↦ inr (j.0, pending_stays _ _ j.1, j.2) ]
    ];
    awaited = λ k p q. elim (pending_was k q.0 q.1) [
      | inl i ↦ (value, let body : e.body ≡ Pointer p = grind (arith, q.2, i.1) in rw (i.0) (block_new (owner w.place e.key) p can.own body))
      | inr i ↦ let old = L.blocks.awaited k p (q.0, i.1, q.2) in (old.0, block_stays _ _ _ old.1)
    ];
    differ = λ k p v live q. elim (pending_was k q.0 q.1) [
      | inl i ↦ let body : e.body ≡ Pointer p = grind (arith, q.2, i.1) in let block = live_block w L k p v live in clear p _ body (rw (ap (owner w.place) i.0 ∙ can.own) at block)
      | inr i ↦ L.blocks.differ k p v live (q.0, i.1, q.2)
    ];
  }

  posted_more : (x : Entry) → times x (w.posted (owner w.place x.key)) ≤ times x (new.posted (owner w.place x.key))
  posted_more x = if_into (λ es. times x (w.posted (owner w.place x.key)) ≤ times x es) m (w.posted (owner w.place x.key) ++ e ∷ []) (w.posted (owner w.place x.key)) (owner w.place x.key) (λ _. times-push_more x e _) (λ _. omega arith)

  posted_this : times e (w.posted (owner w.place e.key)) + 1 ≤ times e (new.posted (owner w.place e.key))
  posted_this = if_into (λ es. times e (w.posted (owner w.place e.key)) + 1 ≤ times e es) m (w.posted (owner w.place e.key) ++ e ∷ []) (w.posted (owner w.place e.key)) (owner w.place e.key) (λ _. let t = times-push_same e (w.posted (owner w.place e.key)) in omega (arith, t)) (λ ne. absurd (ne can.own))

  keeps_counts : Counts new
  keeps_counts = record {
    taken = λ x. let old = L.counts.taken x in let more = posted_more x in omega (arith, old, more);
    waiting = λ n t x q. elim (slot_was (λ u. u ≡ Posted x) n t q) [
      | inl i ↦ let is : x ≡ e = cc (i.2) in let old = L.counts.taken e in let more = posted_this in rw is (omega (arith, old, more))
      | inr i ↦ let old = L.counts.waiting n t x i.1 in let more = posted_more x in omega (arith, old, more)
    ];
  }

  pub keeps : Lawful new
  keeps = record {
    place = L.place;
    keys = keeps_keys;
    slots = keeps_slots;
    looks = keeps_looks;
    logs = keeps_logs;
    standing = assumption;
    cells = keeps_cells;
    deaths = assumption;
    blocks = keeps_blocks;
    counts = keeps_counts;
  }
