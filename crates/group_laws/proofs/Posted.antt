-- What a finish leaves in a cell is what the key's last post offered.
use Rattle.std.proofs.Common.{◌≡◌, ◌≢◌, ℕ, Bool, false, cond, ◌&&◌, ◌||◌, not, eqb, List, [], ◌∷◌, length, Option, Some, None, inl, inr, arith, refl, sym, ap, ◌∙◌, subst}
use Rattle.std.proofs.lemmas.Bool.{cases_eq, eqb-true, eq-eqb, false_from_ne_true}
use Rattle.log_entry.specs.declared.entry.Body.{Body}
use Rattle.log_entry.specs.declared.entry.Body.TheVariants.{Pointer, Embedded, Tombstone}
use Rattle.log_entry.specs.declared.entry.Entry.{Entry}
use Rattle.group_laws.specs.declared.types.Pending.{Pending}
use Rattle.group_laws.specs.declared.types.Block.{Block}
use Rattle.group_laws.specs.Places.{owner}
use Rattle.group_laws.specs.State.{Group}
use Rattle.group_laws.specs.Steps.{CanPost, CanFinish, CanGiveUp, CanWithdraw, posts, finishes, gives_up, withdraws, left_by, bytes_of, with_block, only_own, is_of, points_at}
use Rattle.group_laws.specs.Updates.{put, change}
use Rattle.group_laws.specs.Invariant.{Lawful}
use Rattle.group_laws.specs.Runs.{Kind, IsStep, Runs}
use Rattle.group_laws.specs.Runs.Kind.{Split, Join, Post, Lock, Look, LookMail, Take, Unlock, Commit, Mark, Finish, Fail, Withdraw, Doom, Retire, Send, Receive}
use Rattle.group_laws.specs.Finishes.{finished}
use Rattle.group_laws.specs.Posts.{offer_by, offered, offer_at, offer_of, has_key, settled}
use Rattle.group_laws.proofs.Places.{units_some}
use Rattle.group_laws.proofs.Finishes.{step_cell}
use Rattle.group_laws.proofs.Runs.{step_keeps}

neq-eqb : (a b : ℕ) → (a ≡ b → ⊥) → eqb a b ≡ false
neq-eqb a b ne = false_from_ne_true (eqb a b) (λ t. ne (eqb-true a b t))

-- the key's pending entry, where there is one, offers this
abbrev pub Offers : ℕ → Option (List ℕ) → Group → Type 0
Offers k offer w = (p : Pending) → w.pending k ≡ Some p → left_by w (owner w.place k) p.entry.body ≡ offer

-- the pending entry's block is the key's own
own_block : (w : Group) (L : Lawful w) (k q : ℕ) (p : Pending) → w.pending k ≡ Some p → p.entry.body ≡ Pointer q → (v : List ℕ) × (w.blocks (owner w.place k) q ≡ Some (record { key = k; bytes = v }))
own_block w L k q p is b = L.blocks.awaited k q (p, is, b)

left_same : (w u : Group) (m : ℕ) (b : Body) → ((q : ℕ) → b ≡ Pointer q → u.blocks m q ≡ w.blocks m q) → left_by u m b ≡ left_by w m b
left_same w u m (Pointer q) same = ap bytes_of (same q refl)
left_same w u m (Embedded v) same = refl
left_same w u m Tombstone same = refl

-- a change of the blocks of one member that leaves this block
unchanged : (w : Group) (m n q : ℕ) (f : (ℕ → Option Block) → ℕ → Option Block) → (n ≡ m → f (w.blocks n) q ≡ w.blocks n q) → change w.blocks m f n q ≡ w.blocks n q
unchanged w m n q f same = elim (cases_eq n m) [
  | inl e ↦ ap (λ (b : Bool). cond b (f (w.blocks n)) (w.blocks n) q) (eq-eqb n m e) ∙ same e
  | inr e ↦ ap (λ (b : Bool). cond b (f (w.blocks n)) (w.blocks n) q) (neq-eqb n m e)
]

put_same : {X : Type 0} (f : ℕ → X) (m n : ℕ) (x : X) → n ≡ m → put f m x n ≡ x
put_same f m n x e = ap (λ (b : Bool). cond b x (f n)) (eq-eqb n m e)

put_other : {X : Type 0} (f : ℕ → X) (m n : ℕ) (x : X) → n ≢ m → put f m x n ≡ f n
put_other f m n x e = ap (λ (b : Bool). cond b x (f n)) (neq-eqb n m e)

module _ (k : ℕ) (offer : Option (List ℕ)) (w : Group) (L : Lawful w) (o : Offers k offer w) where
  -- the block of the key's entry, by what another step does to its member's blocks
  keeps : (u : Group) (p : Pending) → w.pending k ≡ Some p → ((q : ℕ) (v : List ℕ) → p.entry.body ≡ Pointer q → w.blocks (owner w.place k) q ≡ Some (record { key = k; bytes = v }) → u.blocks (owner w.place k) q ≡ w.blocks (owner w.place k) q) → left_by u (owner w.place k) p.entry.body ≡ offer
  keeps u p is same = left_same w u (owner w.place k) p.entry.body (λ q b. (let own = own_block w L k q p is b in same q own.0 b own.1)) ∙ o p is

  posted : (m s : ℕ) (e : Entry) (value : List ℕ) → CanPost w m s e value → Offers k (cond (eqb k e.key) (offer_by value e.body) offer) (posts w m s e value)
  posted m s e value can p is = elim (cases_eq k e.key) [
    | inl same ↦ ap (λ (q : Pending). left_by (posts w m s e value) (owner w.place k) q.entry.body) (this same) ∙ there (owner w.place k) (ap (owner w.place) same ∙ can.own) e.body ∙ sym (ap (λ (b : Bool). cond b (offer_by value e.body) offer) (eq-eqb k e.key same))
    | inr other ↦
        keeps (posts w m s e value) p (sym (put_other w.pending e.key k (Some (record { entry = e; slot = Some s })) other) ∙ is) (λ q v b own. unchanged w m (owner w.place k) q (with_block e.key value e.body) (λ mine. apart q v e.body refl mine own))
        ∙ sym (ap (λ (b : Bool). cond b (offer_by value e.body) offer) (neq-eqb k e.key other))
  ] where
    this : k ≡ e.key → p ≡ record { entry = e; slot = Some s }
    this same = let here = put_same w.pending e.key k (Some (record { entry = e; slot = Some s })) same in let both = sym is ∙ here in cc both

    there : (n : ℕ) → n ≡ m → (b : Body) → left_by (record w { blocks = change w.blocks m (with_block e.key value b) }) n b ≡ offer_by value b
    there n mine (Pointer q) =
        ap (λ (b : Bool). bytes_of (cond b (put (w.blocks n) q (Some (record { key = e.key; bytes = value }))) (w.blocks n) q)) (eq-eqb n m mine)
        ∙ ap bytes_of (put_same (w.blocks n) q q (Some (record { key = e.key; bytes = value })) refl)
    there n mine (Embedded v) = refl
    there n mine Tombstone = refl

    apart : (q : ℕ) (v : List ℕ) (b : Body) → e.body ≡ b → owner w.place k ≡ m → w.blocks (owner w.place k) q ≡ Some (record { key = k; bytes = v }) → with_block e.key value b (w.blocks (owner w.place k)) q ≡ w.blocks (owner w.place k) q
    apart q v (Embedded u) is mine own = refl
    apart q v Tombstone is mine own = refl
    apart q v (Pointer r) is mine own = put_other (w.blocks (owner w.place k)) r q (Some (record { key = e.key; bytes = value })) (λ same.
        let far = (can.block r is).1.1 q (record { key = k; bytes = v }) (ap (λ (n : ℕ). w.blocks n q) (sym mine) ∙ own) in
        let some = units_some (length value) in
        let more = units_some (length v) in
        elim far [ inl a ↦ omega (arith, a, some, same) | inr a ↦ omega (arith, a, more, same) ])

  finished_other : (m s : ℕ) (e : Entry) (h : ℕ) → Offers k offer (finishes w m s e h)
  finished_other m s e h p is = elim (cases_eq k e.key) [
    | inl same ↦ absurd (let here = put_same w.pending e.key k None same in cc (here, is))
    | inr other ↦ keeps (finishes w m s e h) p (sym (put_other w.pending e.key k None other) ∙ is) (λ q v b own. unchanged w m (owner w.place k) q (only_own e.key e.body) (λ mine. spared q v other own))
  ] where
    spared : (q : ℕ) (v : List ℕ) → k ≢ e.key → w.blocks (owner w.place k) q ≡ Some (record { key = k; bytes = v }) → only_own e.key e.body (w.blocks (owner w.place k)) q ≡ w.blocks (owner w.place k) q
    spared q v other own = ap (λ (b : Bool). cond (b && not (points_at e.body q)) None (w.blocks (owner w.place k) q)) (ap (is_of e.key) own ∙ neq-eqb k e.key other)

  given_up : (m s : ℕ) (e : Entry) → CanGiveUp w m s e → Offers k offer (gives_up w m s e)
  given_up m s e can p is = elim (cases_eq k e.key) [
    | inl same ↦
        let pends = (L.slots.failed_named m s e can.failed).0 in
        let here = put_same w.pending e.key k (Some (record { entry = e; slot = None })) same in
        let both = sym is ∙ here in
        let this : p ≡ record { entry = e; slot = None } = cc both in
        ap (λ (q : Pending). left_by w (owner w.place k) q.entry.body) this ∙ o (record { entry = e; slot = Some s }) (ap w.pending same ∙ pends)
    | inr other ↦ o p (sym (put_other w.pending e.key k (Some (record { entry = e; slot = None })) other) ∙ is)
  ]

  withdrawn : (m s : ℕ) (e : Entry) → CanWithdraw w m s e → Offers k offer (withdraws w m s e)
  withdrawn m s e can p is = elim (cases_eq k e.key) [
    | inl same ↦ absurd (let here = put_same w.pending e.key k None same in cc (here, is))
    | inr other ↦ keeps (withdraws w m s e) p (sym (put_other w.pending e.key k None other) ∙ is) (λ q v b own. unchanged w m (owner w.place k) q (λ old r. cond (points_at e.body r) None (old r)) (λ mine. spared q v e.body refl other own mine))
  ] where
    spared : (q : ℕ) (v : List ℕ) (b : Body) → e.body ≡ b → k ≢ e.key → w.blocks (owner w.place k) q ≡ Some (record { key = k; bytes = v }) → owner w.place k ≡ m → cond (points_at b q) None (w.blocks (owner w.place k) q) ≡ w.blocks (owner w.place k) q
    spared q v (Embedded u) is other own mine = refl
    spared q v Tombstone is other own mine = refl
    spared q v (Pointer r) is other own mine = ap (λ (b : Bool). cond b None (w.blocks (owner w.place k) q)) (neq-eqb q r (λ same.
        let named = L.slots.posted_named m s e can.posted in
        let held = own_block w L e.key q (record { entry = e; slot = Some s }) named.0 (is ∙ ap Pointer (sym same)) in
        let two = sym held.1 ∙ ap (λ (n : ℕ). w.blocks n q) (named.1 ∙ sym mine) ∙ own in
        let block : record { key = e.key; bytes = held.0 } ≡ record { key = k; bytes = v } = cc two in
        other (sym (ap (λ (c : Block). c.key) block))))

  after : {u v : Group} {c : Option (List ℕ)} → u ≡ v → Offers k c v → Offers k c u
  after {c = c} e is = subst (Offers k c) (sym e) is

  -- what the last post offers, step by step
  pub offers_on : (m : ℕ) (kind : Kind) (u : Group) → IsStep w m kind u → Offers k (offered k kind offer) u
  offers_on m Split u s = after s.1 o
  offers_on m Join u s = after s.1 o
  offers_on m (Post n e v) u s = after s.1 (posted m n e v s.0)
  offers_on m Lock u s = elim s.1 [ inl free ↦ after free.1 o | inr held ↦ after held.2 o ]
  offers_on m (Look a n) u s = after s.2 o
  offers_on m (LookMail a b) u s = after s.3 o
  offers_on m (Take a n) u s = after s.2 o
  offers_on m Unlock u s = after s.1 o
  offers_on m Commit u s = after s.1 o
  offers_on m (Mark a n) u s = after s.2 o
  offers_on m (Finish n) u (inl s) = after s.3.4 (finished_other m n s.0 s.1)
  offers_on m (Finish n) u (inr s) = after s.2.4 (given_up m n s.0 s.1)
  offers_on m (Fail a n) u s = after s.2 o
  offers_on m (Withdraw n) u s = after s.2 (withdrawn m n s.0 s.1)
  offers_on m (Doom ns) u s = after s.1 o
  offers_on m (Retire ns) u s = after s.1.4 o
  offers_on m (Send to n) u s = after s.1 o
  offers_on m (Receive from) u s = after s.2.4 o

  settles : (m n : ℕ) (e : Entry) (h : ℕ) → CanFinish w m n e h → cond (eqb k e.key) (left_by w m e.body) (w.cell k) ≡ cond (eqb k e.key || false) offer (w.cell k)
  settles m n e h can = elim (cases_eq k e.key) [
    | inl same ↦
        let named = L.slots.done_named m n h e can.done in
        let is : left_by w m e.body ≡ offer = ap (λ (i : ℕ). left_by w i e.body) (sym named.1 ∙ ap (owner w.place) (sym same)) ∙ o (record { entry = e; slot = Some n }) (ap w.pending same ∙ named.0) in
        ap (λ (b : Bool). cond b (left_by w m e.body) (w.cell k)) (eq-eqb k e.key same) ∙ is ∙ sym (ap (λ (b : Bool). cond (b || false) offer (w.cell k)) (eq-eqb k e.key same))
    | inr other ↦ ap (λ (b : Bool). cond b (left_by w m e.body) (w.cell k)) (neq-eqb k e.key other) ∙ sym (ap (λ (b : Bool). cond (b || false) offer (w.cell k)) (neq-eqb k e.key other))
  ]

  pub settles_on : (m : ℕ) (kind : Kind) (u : Group) (s : IsStep w m kind u) → u.cell k ≡ cond (has_key k (finished w m kind u s)) offer (w.cell k)
  settles_on m Split u s = step_cell w m Split u s k
  settles_on m Join u s = step_cell w m Join u s k
  settles_on m (Post n e v) u s = step_cell w m (Post n e v) u s k
  settles_on m Lock u s = step_cell w m Lock u s k
  settles_on m (Look a n) u s = step_cell w m (Look a n) u s k
  settles_on m (LookMail a b) u s = step_cell w m (LookMail a b) u s k
  settles_on m (Take a n) u s = step_cell w m (Take a n) u s k
  settles_on m Unlock u s = step_cell w m Unlock u s k
  settles_on m Commit u s = step_cell w m Commit u s k
  settles_on m (Mark a n) u s = step_cell w m (Mark a n) u s k
  settles_on m (Finish n) u (inl s) = step_cell w m (Finish n) u (inl s) k ∙ settles m n s.0 s.1 s.2
  settles_on m (Finish n) u (inr s) = step_cell w m (Finish n) u (inr s) k
  settles_on m (Fail a n) u s = step_cell w m (Fail a n) u s k
  settles_on m (Withdraw n) u s = step_cell w m (Withdraw n) u s k
  settles_on m (Doom ns) u s = step_cell w m (Doom ns) u s k
  settles_on m (Retire ns) u s = step_cell w m (Retire ns) u s k
  settles_on m (Send to n) u s = step_cell w m (Send to n) u s k
  settles_on m (Receive from) u s = step_cell w m (Receive from) u s k

run_settles : (k : ℕ) (w : Group) (xs : List (ℕ × Kind)) (u : Group) (r : Runs w xs u) → Lawful w → (offer cell : Option (List ℕ)) → Offers k offer w → w.cell k ≡ cell → u.cell k ≡ settled k w xs u r offer cell
run_settles k w [] u r L offer cell o is = ap (λ (v : Group). v.cell k) r ∙ is
run_settles k w (x ∷ xs) u r L offer cell o is =
    run_settles k r.0 xs u r.2 (step_keeps w x.0 x.1 r.0 L r.1) (offered k x.1 offer) (cond (has_key k (finished w x.0 x.1 r.0 r.1)) offer cell) (offers_on k offer w L o x.0 x.1 r.0 r.1)
    (settles_on k offer w L o x.0 x.1 r.0 r.1 ∙ ap (cond (has_key k (finished w x.0 x.1 r.0 r.1)) offer) is)

pub run_posted : (w : Group) (xs : List (ℕ × Kind)) (u : Group) (r : Runs w xs u) → Lawful w → (k : ℕ) → u.cell k ≡ settled k w xs u r (offer_of w k) (w.cell k)
run_posted w xs u r L k = run_settles k w xs u r L (offer_of w k) (w.cell k) (λ p is. sym (ap (offer_at w (owner w.place k)) is)) refl
