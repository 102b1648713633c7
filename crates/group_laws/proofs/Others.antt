-- A step of one member leaves what another has.
use Rattle.std.proofs.Common.{◌≡◌, ◌≢◌, ℕ, Bool, true, false, cond, ◌&&◌, not, eqb, List, [], ◌∷◌, ◌++◌, map, Some, None, inl, inr, refl, sym, ap, ◌∙◌, eqb-true, ne_eqb}
use Rattle.std.proofs.lemmas.Bool.{false_from_ne_true}
use Rattle.log_entry.specs.declared.entry.Entry.{Entry}
use Rattle.log_entry.specs.declared.entry.EntryName.{EntryName}
use Rattle.group_laws.specs.declared.types.Seen.{Seen}
use Rattle.group_laws.specs.Places.{owner}
use Rattle.group_laws.specs.Updates.{has, without}
use Rattle.group_laws.specs.State.{Notices, Group}
use Rattle.group_laws.specs.Steps.{with_block, points_at, only_own, left_by, posts, locks, finds, takes, unlocks, commits, marks, fails, finishes, gives_up, withdraws, dooms, retires, sends, receives}
use Rattle.group_laws.specs.Tidying.{Tidied}
use Rattle.group_laws.specs.Runs.{Kind, IsStep, Runs}
use Rattle.group_laws.specs.Runs.Kind.{Split, Join, Post, Lock, Look, LookMail, Take, Unlock, Commit, Mark, Finish, Fail, Withdraw, Doom, Retire, Send, Receive}
use Rattle.group_laws.specs.MemberViews.{view_of}

skip : {X : Type 0} (b c : Bool) (x y d : X) → (b ≡ true → c ≡ false) → cond b (cond c x y) d ≡ cond b y d
skip true c x y d h = ap (λ t. cond t x y) (h refl)
skip false c x y d h = refl

both : (b c : Bool) → (b ≡ true → c ≡ true) → (c ≡ true → b ≡ true) → b ≡ c
both true c f g = sym (f refl)
both false true f g = g refl
both false false f g = refl

module _ (w : Group) (m n : ℕ) (ne : n ≡ m → ⊥) where
  away : eqb n m ≡ false
  away = ne_eqb n m ne

  -- a key of m isn't one of n
  apart : (key k : ℕ) → owner w.place key ≡ m → eqb (owner w.place k) n ≡ true → eqb k key ≡ false
  apart key k o t = false_from_ne_true (eqb k key) (λ s. ne (sym (eqb-true (owner w.place k) n t) ∙ ap (owner w.place) (eqb-true k key s) ∙ o))

  apart2 : (key v k i : ℕ) → owner w.place key ≡ m → eqb (owner w.place k) n ≡ true → (eqb k key && eqb i v) ≡ false
  apart2 key v k i o t = ap (λ b. b && eqb i v) (apart key k o t)

  other : (k : ℕ) (b : Bool) → eqb (owner w.place k) n ≡ true → (eqb (owner w.place k) m && b) ≡ false
  other k b t = ap (λ c. c && b) (ne_eqb (owner w.place k) m (λ q. ne (sym (eqb-true (owner w.place k) n t) ∙ q)))

  f_posts : (s : ℕ) (e : Entry) (value : List ℕ) → owner w.place e.key ≡ m → view_of (posts w m s e value) n ≡ view_of w n
  f_posts s e value o i = record (view_of w n) {
    pending = λ k. skip (eqb (owner w.place k) n) (eqb k e.key) (Some (record { entry = e; slot = Some s })) (w.pending k) None (apart e.key k o) i;
    blocks = cond (away i) (with_block e.key value e.body (w.blocks n)) (w.blocks n);
    posted = cond (away i) (w.posted n ++ e ∷ []) (w.posted n);
    looked = cond (away i) [] (w.looked n);
  }

  f_locks : view_of (locks w m) n ≡ view_of w n
  f_locks i = record (view_of w n) { holds = cond (away i) true (w.holds n); looked = cond (away i) [] (w.looked n) }

  f_finds : (x : Seen) → view_of (finds w m x) n ≡ view_of w n
  f_finds x i = record (view_of w n) { looked = cond (away i) (w.looked n ++ x ∷ []) (w.looked n) }

  f_takes : (a s : ℕ) (e : Entry) → view_of (takes w m a s e) n ≡ view_of w n
  f_takes a s e i = record (view_of w n) {
    taken = λ b t. cond (away i && (eqb b a && eqb t s)) (Some e) (w.taken n b t);
    flying = cond (away i) (w.flying n ++ e ∷ []) (w.flying n);
    took = cond (away i) (w.took n ++ e ∷ []) (w.took n);
    looked = cond (away i) [] (w.looked n);
  }

  f_unlocks : view_of (unlocks w m) n ≡ view_of w n
  f_unlocks i = record (view_of w n) { holds = cond (away i) false (w.holds n); looked = cond (away i) [] (w.looked n) }

  f_commits : view_of (commits w m) n ≡ view_of w n
  f_commits i = record (view_of w n) { kept = cond (away i) (w.kept n ++ w.flying n) (w.kept n); flying = cond (away i) [] (w.flying n); looked = cond (away i) [] (w.looked n) }

  f_marks : (a s : ℕ) (e : Entry) → view_of (marks w m a s e) n ≡ view_of w n
  f_marks a s e i = record (view_of w n) { taken = λ b t. cond (away i && (eqb b a && eqb t s)) None (w.taken n b t); looked = cond (away i) [] (w.looked n) }

  f_fails : (a s : ℕ) (e : Entry) → view_of (fails w m a s e) n ≡ view_of w n
  f_fails a s e i = record (view_of w n) { taken = λ b t. cond (away i && (eqb b a && eqb t s)) None (w.taken n b t); broken = cond (away i) true (w.broken n); looked = cond (away i) [] (w.looked n) }

  f_finishes : (s : ℕ) (e : Entry) (h : ℕ) → owner w.place e.key ≡ m → view_of (finishes w m s e h) n ≡ view_of w n
  f_finishes s e h o i = record (view_of w n) {
    last = λ k. skip (eqb (owner w.place k) n) (eqb k e.key) e.version (w.last k) 0 (apart e.key k o) i;
    cell = λ k. skip (eqb (owner w.place k) n) (eqb k e.key) (left_by w m e.body) (w.cell k) None (apart e.key k o) i;
    present = λ k v. skip (eqb (owner w.place k) n) (eqb k e.key && eqb v e.version) (Some h) (w.present k v) None (apart2 e.key e.version k v o) i;
    pending = λ k. skip (eqb (owner w.place k) n) (eqb k e.key) None (w.pending k) None (apart e.key k o) i;
    blocks = cond (away i) (only_own e.key e.body (w.blocks n)) (w.blocks n);
    looked = cond (away i) [] (w.looked n);
  }

  f_gives_up : (s : ℕ) (e : Entry) → owner w.place e.key ≡ m → view_of (gives_up w m s e) n ≡ view_of w n
  f_gives_up s e o i = record (view_of w n) {
    broken = cond (away i) true (w.broken n);
    pending = λ k. skip (eqb (owner w.place k) n) (eqb k e.key) (Some (record { entry = e; slot = None })) (w.pending k) None (apart e.key k o) i;
    looked = cond (away i) [] (w.looked n);
  }

  f_withdraws : (s : ℕ) (e : Entry) → owner w.place e.key ≡ m → view_of (withdraws w m s e) n ≡ view_of w n
  f_withdraws s e o i = record (view_of w n) {
    pending = λ k. skip (eqb (owner w.place k) n) (eqb k e.key) None (w.pending k) None (apart e.key k o) i;
    blocks = cond (away i) (λ p. cond (points_at e.body p) None (w.blocks n p)) (w.blocks n);
    looked = cond (away i) [] (w.looked n);
  }

  f_dooms : (ns : List EntryName) → view_of (dooms w m ns) n ≡ view_of w n
  f_dooms ns i = record (view_of w n) { doomed = λ k v. cond (away i && has ns k v) true (w.doomed n k v); looked = cond (away i) [] (w.looked n) }

  f_retires : (ns : List EntryName) → view_of (retires w m ns) n ≡ view_of w n
  f_retires ns i = record (view_of w n) {
    kept = cond (away i) (without ns (w.kept n)) (w.kept n);
    dead = λ k v. cond (away i && has ns k v) false (w.dead n k v);
    doomed = λ k v. cond (away i && has ns k v) false (w.doomed n k v);
    present = λ k v. skip (eqb (owner w.place k) n) (eqb (owner w.place k) m && has ns k v) None (w.present k v) None (other k (has ns k v)) i;
    told = λ k v. skip (eqb (owner w.place k) n) (eqb (owner w.place k) m && has ns k v) false (w.told k v) false (other k (has ns k v)) i;
    leaving = λ k v. cond (away i && (not (eqb (owner w.place k) m) && has ns k v)) true (w.leaving n k v);
    looked = cond (away i) [] (w.looked n);
  }

  f_sends : (to : ℕ) (x : Notices) → ((k v : ℕ) → has x.dead k v ≡ true → owner w.place k ≡ m) → view_of (sends w m to x) n ≡ view_of w n
  f_sends to x own i = record (view_of w n) {
    told = λ k v. skip (eqb (owner w.place k) n) (has x.dead k v) true (w.told k v) false (λ t. false_from_ne_true (has x.dead k v) (λ d. ne (sym (eqb-true (owner w.place k) n t) ∙ own k v d))) i;
    leaving = λ k v. cond (away i && has x.gone k v) false (w.leaving n k v);
    mailed = λ b. cond (away i && eqb b to) x (w.mailed n b);
    looked = cond (away i) [] (w.looked n);
  }

  f_receives : (from : ℕ) (x : Notices) → view_of (receives w m from x) n ≡ view_of w n
  f_receives from x i = record (view_of w n) {
    dead = λ k v. cond (away i && has x.dead k v) true (w.dead n k v);
    present = λ k v. skip (eqb (owner w.place k) n) (eqb (owner w.place k) m && has x.gone k v) None (w.present k v) None (other k (has x.gone k v)) i;
    told = λ k v. skip (eqb (owner w.place k) n) (eqb (owner w.place k) m && has x.gone k v) false (w.told k v) false (other k (has x.gone k v)) i;
    looked = cond (away i) [] (w.looked n);
  }

  mine : (k : ℕ) → eqb (owner w.place k) n ≡ true → owner w.place k ≡ m → ⊥
  mine k t o = ne (sym (eqb-true (owner w.place k) n t) ∙ o)

  when : {X : Type 0} (b : Bool) (x y d : X) → (b ≡ true → x ≡ y) → cond b x d ≡ cond b y d
  when true x y d h = h refl
  when false x y d h = refl

  f_tidied : (u : Group) → Tidied w m u → view_of u n ≡ view_of w n
  f_tidied u t = ap (λ g. view_of g n) t.4 ∙ λ i. record (view_of w n) {
    last = λ k. when (eqb (owner w.place k) n) (t.0 k) (w.last k) 0 (λ o. elim (t.3.keeps k) [ inl s ↦ absurd (mine k o s.0.0) | inr s ↦ s ]) i;
    told = λ k v. when (eqb (owner w.place k) n) (t.1 k v) (w.told k v) false (λ o. both (t.1 k v) (w.told k v) (λ q. elim ((t.3.tells k v).0 q) [ inl s ↦ s | inr s ↦ absurd (mine k o s.0) ]) (λ q. (t.3.tells k v).1 (inl q))) i;
    dead = λ k v. both (t.2 n k v) (w.dead n k v) (λ q. elim ((t.3.learns n k v).0 q) [ inl s ↦ s | inr s ↦ absurd (ne s.0) ]) (λ q. (t.3.learns n k v).1 (inl q)) i;
  }

-- whatever step m makes, another member has what it had
pub frame : (w : Group) (m : ℕ) (kind : Kind) (u : Group) (n : ℕ) → (n ≡ m → ⊥) → IsStep w m kind u → view_of u n ≡ view_of w n
frame w m Split u n ne s = ap (λ g. view_of g n) s.1
frame w m Join u n ne s = ap (λ g. view_of g n) s.1
frame w m (Post x e v) u n ne s = ap (λ g. view_of g n) s.1 ∙ f_posts w m n ne x e v s.0.own
frame w m Lock u n ne s = elim s.1 [ inl f ↦ ap (λ g. view_of g n) f.1 ∙ f_locks w m n ne | inr h ↦ ap (λ g. view_of g n) h.2 ∙ f_finds w m n ne _ ]
frame w m (Look a x) u n ne s = ap (λ g. view_of g n) s.2 ∙ f_finds w m n ne _
frame w m (LookMail a b) u n ne s = ap (λ g. view_of g n) s.3 ∙ f_finds w m n ne _
frame w m (Take a x) u n ne s = ap (λ g. view_of g n) s.2 ∙ f_takes w m n ne a x s.0
frame w m Unlock u n ne s = ap (λ g. view_of g n) s.1 ∙ f_unlocks w m n ne
frame w m Commit u n ne s = ap (λ g. view_of g n) s.1 ∙ f_commits w m n ne
frame w m (Mark a x) u n ne s = ap (λ g. view_of g n) s.2 ∙ f_marks w m n ne a x s.0
frame w m (Finish x) u n ne (inl s) = f_tidied (finishes w m x s.0 s.1) m n ne u s.3 ∙ f_finishes w m n ne x s.0 s.1 s.2.own
frame w m (Finish x) u n ne (inr s) = f_tidied (gives_up w m x s.0) m n ne u s.2 ∙ f_gives_up w m n ne x s.0 s.1.own
frame w m (Fail a x) u n ne s = ap (λ g. view_of g n) s.2 ∙ f_fails w m n ne a x s.0
frame w m (Withdraw x) u n ne s = ap (λ g. view_of g n) s.2 ∙ f_withdraws w m n ne x s.0 s.1.own
frame w m (Doom ns) u n ne s = ap (λ g. view_of g n) s.1 ∙ f_dooms w m n ne ns
frame w m (Retire ns) u n ne s = f_tidied (retires w m ns) m n ne u s.1 ∙ f_retires w m n ne ns
frame w m (Send to x) u n ne s = ap (λ g. view_of g n) s.1 ∙ f_sends w m n ne to x (λ k v d. (s.0.dead k v d).0)
frame w m (Receive from) u n ne s = f_tidied (receives w m from s.0) m n ne u s.2 ∙ f_receives w m n ne from s.0

-- nor do many steps of m
pub run_frame : (w : Group) (m : ℕ) (kinds : List Kind) (u : Group) (n : ℕ) → n ≢ m → Runs w (map (λ kind. (m, kind)) kinds) u → view_of u n ≡ view_of w n
run_frame w m [] u n ne r = ap (λ g. view_of g n) r
run_frame w m (kind ∷ kinds) u n ne r = run_frame r.0 m kinds u n ne r.2 ∙ frame w m kind r.0 n ne r.1

-- no step moves the group
pub step_place : (w : Group) (m : ℕ) (kind : Kind) (u : Group) → IsStep w m kind u → u.place ≡ w.place
step_place w m Split u s = ap (λ (g : Group). g.place) s.1
step_place w m Join u s = ap (λ (g : Group). g.place) s.1
step_place w m (Post x e v) u s = ap (λ (g : Group). g.place) s.1
step_place w m Lock u s = elim s.1 [ inl f ↦ ap (λ (g : Group). g.place) f.1 | inr h ↦ ap (λ (g : Group). g.place) h.2 ]
step_place w m (Look a x) u s = ap (λ (g : Group). g.place) s.2
step_place w m (LookMail a b) u s = ap (λ (g : Group). g.place) s.3
step_place w m (Take a x) u s = ap (λ (g : Group). g.place) s.2
step_place w m Unlock u s = ap (λ (g : Group). g.place) s.1
step_place w m Commit u s = ap (λ (g : Group). g.place) s.1
step_place w m (Mark a x) u s = ap (λ (g : Group). g.place) s.2
step_place w m (Finish x) u (inl s) = ap (λ (g : Group). g.place) s.3.4
step_place w m (Finish x) u (inr s) = ap (λ (g : Group). g.place) s.2.4
step_place w m (Fail a x) u s = ap (λ (g : Group). g.place) s.2
step_place w m (Withdraw x) u s = ap (λ (g : Group). g.place) s.2
step_place w m (Doom ns) u s = ap (λ (g : Group). g.place) s.1
step_place w m (Retire ns) u s = ap (λ (g : Group). g.place) s.1.4
step_place w m (Send to x) u s = ap (λ (g : Group). g.place) s.1
step_place w m (Receive from) u s = ap (λ (g : Group). g.place) s.2.4

pub run_place : (w : Group) (steps : List (ℕ × Kind)) (u : Group) → Runs w steps u → u.place ≡ w.place
run_place w [] u r = ap (λ (g : Group). g.place) r
run_place w (x ∷ xs) u r = run_place r.0 xs u r.2 ∙ step_place w x.0 x.1 r.0 r.1
