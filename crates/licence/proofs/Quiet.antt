-- Steps that say nothing new of the log and the blocks keep a licence.
use Rattle.std.proofs.Common.{◌≡◌, ◌≢◌, inl, inr, ⊎_elim, ℕ, Bool, true, false, cond, ◌&&◌, not, eqb, List, [], ◌++◌, Option, Some, None, refl, sym, ◌∙◌, ap, subst, append-nil}
use Rattle.std.proofs.lemmas.Bool.{eq-eqb}
use Rattle.pm_region.specs.Cell.{Cell}
use Rattle.log_entry.specs.declared.entry.Entry.{Entry}
use Rattle.log_entry.specs.declared.entry.EntryName.{EntryName}
use Rattle.log_entry.specs.declared.entry.Body.{Body}
use Rattle.log_entry.specs.declared.entry.Body.TheVariants.{Pointer, Embedded, Tombstone}
use Rattle.store_image.specs.Facts.{In}
use Rattle.group_laws.specs.declared.types.Block.{Block}
use Rattle.group_laws.specs.Places.{Place}
use Rattle.group_laws.specs.Updates.{has}
use Rattle.group_laws.specs.State.{Group, Notices, word_shown, is_full}
use Rattle.group_laws.specs.declared.types.Seen.TheVariants.{Slot as SeenSlot, Mail as SeenMail, Holder as SeenHolder}
use Rattle.group_laws.specs.MemberViews.{View, view_of}
use Rattle.group_laws.specs.Images.{IsLicensedBy}
use Rattle.group_laws.specs.Steps.{with_block, points_at, is_of, only_own, posts, locks, finds, unlocks, commits, marks, fails, finishes, gives_up, withdraws, dooms, sends, receives}
use Rattle.group_laws.specs.Tidying.{Tidied}
use Rattle.group_laws.specs.Runs.{Kind, IsStep}
use Rattle.group_laws.specs.Runs.Kind.{Split, Join, Post, Lock, Look, LookMail, Take, Unlock, Commit, Mark, Finish, Fail, Withdraw, Doom, Retire, Send, Receive}
use Rattle.licence.specs.Licence.{Licensed, grounded}
use Rattle.licence.specs.ViewChanges.{AllowsAll, TakesEntry, IsQuiet}
use Rattle.licence.proofs.Gained.{not_true}

-- a looser view licenses all that was licensed
pub allowed : (p : Place) (m : ℕ) (v u : View) (image : ℕ → ℕ) → AllowsAll v u → IsLicensedBy p m v image → IsLicensedBy p m u image
allowed p m v u image a is = record {
  well = is.well;
  has = λ e k live. is.has e (subst (In e) a.kept k) (not_true (v.doomed e.key e.version) (u.doomed e.key e.version) (a.doomed e.key e.version) live);
  only = λ e i. ⊎_elim (λ k. inl (subst (In e) (sym a.kept) k)) (λ f. inr (subst (In e) (sym a.flying) f)) (is.only e i);
  whole = ⊎_elim (λ all. inl (λ e f. all e (subst (In e) a.flying f))) (λ none. inr (λ e f i. subst (In e) (sym a.kept) (none e (subst (In e) a.flying f) i))) is.whole;
  blocks = λ q b h. is.blocks q b (a.blocks q b h);
}

pub flown : (p : Place) (m : ℕ) (v : View) (image : ℕ → ℕ) → IsLicensedBy p m (grounded v) image → IsLicensedBy p m v image
flown p m v image is = record {
  well = is.well;
  has = is.has;
  only = λ e i. ⊎_elim (λ k. inl k) (λ none. absurd none) (is.only e i);
  whole = inr (λ e f i. ⊎_elim (λ k. k) (λ none. absurd none) (is.only e i));
  blocks = is.blocks;
}

pub landed : (p : Place) (m : ℕ) (v : View) (image : ℕ → ℕ) → v.flying ≡ [] → IsLicensedBy p m v image → IsLicensedBy p m (grounded v) image
landed p m v image none is = record {
  well = is.well;
  has = is.has;
  only = λ e i. ⊎_elim (λ k. inl k) (λ f. inr (subst (In e) none f)) (is.only e i);
  whole = inl (λ e f. absurd f);
  blocks = is.blocks;
}

pub took : (p : Place) (m : ℕ) (v u : View) (e : Entry) (image : ℕ → ℕ) → TakesEntry e v u → IsLicensedBy p m (grounded v) image → IsLicensedBy p m (grounded u) image
took p m v u e image t is = allowed p m (grounded v) (grounded u) image (record { kept = t.kept; flying = refl; doomed = t.doomed; blocks = t.blocks }) is

-- the same over all cells
pub each_allowed : (p : Place) (m : ℕ) (v u : View) (cells : ℕ → Cell) → AllowsAll v u → Licensed p m v cells → Licensed p m u cells
each_allowed p m v u cells a licensed image may = allowed p m v u image a (licensed image may)

-- the choice that is made where two numbers are one
pub here : {X : Type 0} (m : ℕ) (x y : X) → cond (eqb m m) x y ≡ x
here m x y = ap (λ b. cond b x y) (eq-eqb m m refl)

if_none : {X : Type 0} (b : Bool) (o : Option X) (x : X) → cond b None o ≡ Some x → o ≡ Some x
if_none true o x is = absurd (cc is)
if_none false o x is = is

-- a choice is true where the other side is
or_there : (b c : Bool) → c ≡ true → cond b true c ≡ true
or_there true c is = refl
or_there false c is = is

without_pointer : (k : ℕ) (value : List ℕ) (body : Body) (old : ℕ → Option Block) → ((q : ℕ) → body ≢ Pointer q) → with_block k value body old ≡ old
without_pointer k value (Pointer p) old none = absurd (none p refl)
without_pointer k value (Embedded v) old none = refl
without_pointer k value Tombstone old none = refl

module _ (w : Group) (m : ℕ) where
  alike : (u : View) → u.kept ≡ w.kept m → u.flying ≡ w.flying m → u.doomed ≡ w.doomed m → u.blocks ≡ w.blocks m → AllowsAll (view_of w m) u
  alike u kept flying doomed blocks = record {
    kept = kept;
    flying = flying;
    doomed = λ k n is. ap (λ (f : ℕ → ℕ → Bool). f k n) doomed ∙ is;
    blocks = λ q b is. ap (λ (f : ℕ → Option Block). f q) (sym blocks) ∙ is;
  }

  same : (u : Group) → u.kept m ≡ w.kept m → u.flying m ≡ w.flying m → u.doomed m ≡ w.doomed m → u.blocks m ≡ w.blocks m → AllowsAll (view_of w m) (view_of u m)
  same u kept flying doomed blocks = alike (view_of u m) kept flying doomed blocks

  posted : (s : ℕ) (e : Entry) (value : List ℕ) → ((q : ℕ) → e.body ≢ Pointer q) → AllowsAll (view_of w m) (view_of (posts w m s e value) m)
  posted s e value none = record {
    kept = refl;
    flying = refl;
    doomed = λ k n is. is;
    blocks = λ q b is. ap (λ (f : ℕ → Option Block). f q) (sym (here m (with_block e.key value e.body (w.blocks m)) (w.blocks m) ∙ without_pointer e.key value e.body (w.blocks m) none)) ∙ is;
  }

  committed : w.flying m ≡ [] → AllowsAll (view_of w m) (view_of (commits w m) m)
  committed none = record {
    kept = here m (w.kept m ++ w.flying m) (w.kept m) ∙ ap (λ (es : List Entry). w.kept m ++ es) none ∙ append-nil (w.kept m);
    flying = here m [] (w.flying m) ∙ sym none;
    doomed = λ k n is. is;
    blocks = λ q b is. is;
  }

  finished : (s : ℕ) (e : Entry) (home : ℕ) (u : Group) → Tidied (finishes w m s e home) m u → AllowsAll (view_of w m) (view_of u m)
  finished s e home u t = subst (λ (x : Group). AllowsAll (view_of w m) (view_of x m)) (sym t.4) (record {
    kept = refl;
    flying = refl;
    doomed = λ k n is. is;
    blocks = λ q b is. if_none (is_of e.key (w.blocks m q) && not (points_at e.body q)) (w.blocks m q) b (ap (λ (f : ℕ → Option Block). f q) (sym (here m (only_own e.key e.body (w.blocks m)) (w.blocks m))) ∙ is);
  })

  gave_up : (s : ℕ) (e : Entry) (u : Group) → Tidied (gives_up w m s e) m u → AllowsAll (view_of w m) (view_of u m)
  gave_up s e u t = subst (λ (x : Group). AllowsAll (view_of w m) (view_of x m)) (sym t.4) (record { kept = refl; flying = refl; doomed = λ k n is. is; blocks = λ q b is. is })

  withdrew : (s : ℕ) (e : Entry) → AllowsAll (view_of w m) (view_of (withdraws w m s e) m)
  withdrew s e = record {
    kept = refl;
    flying = refl;
    doomed = λ k n is. is;
    blocks = λ q b is. if_none (points_at e.body q) (w.blocks m q) b (ap (λ (f : ℕ → Option Block). f q) (sym (here m (λ (r : ℕ). cond (points_at e.body r) None (w.blocks m r)) (w.blocks m))) ∙ is);
  }

  doomed : (ns : List EntryName) → AllowsAll (view_of w m) (view_of (dooms w m ns) m)
  doomed ns = record { kept = refl; flying = refl; doomed = λ k n is. or_there (eqb m m && has ns k n) (w.doomed m k n) is; blocks = λ q b is. is }

  received : (from : ℕ) (n : Notices) (u : Group) → Tidied (receives w m from n) m u → AllowsAll (view_of w m) (view_of u m)
  received from n u t = subst (λ (x : Group). AllowsAll (view_of w m) (view_of x m)) (sym t.4) (record { kept = refl; flying = refl; doomed = λ k n is. is; blocks = λ q b is. is })

  to : (x u : Group) → u ≡ x → AllowsAll (view_of w m) (view_of x m) → AllowsAll (view_of w m) (view_of u m)
  to x u is a = subst (λ (y : Group). AllowsAll (view_of w m) (view_of y m)) (sym is) a

  -- of each kind that is quiet
  pub quiet : (kind : Kind) (u : Group) → IsStep w m kind u → IsQuiet (view_of w m) kind → AllowsAll (view_of w m) (view_of u m)
  quiet Split u step q = to w u step.1 (same w refl refl refl refl)
  quiet Join u step q = to w u step.1 (same w refl refl refl refl)
  quiet (Post s e value) u step q = to (posts w m s e value) u step.1 (posted s e value q)
  quiet Lock u step q = ⊎_elim (λ got. to (locks w m) u got.1 (same (locks w m) refl refl refl refl)) (λ found. to (finds w m (SeenHolder found.0)) u found.2 (same (finds w m (SeenHolder found.0)) refl refl refl refl)) step.1
  quiet (Look a s) u step q = let x = SeenSlot a s (word_shown (w.slot a s)) in to (finds w m x) u step.2 (same (finds w m x) refl refl refl refl)
  quiet (LookMail a b) u step q = let x = SeenMail a b (is_full (w.mail a b)) in to (finds w m x) u step.3 (same (finds w m x) refl refl refl refl)
  quiet (Take a s) u step q = absurd q
  quiet Unlock u step q = to (unlocks w m) u step.1 (same (unlocks w m) refl refl refl refl)
  quiet Commit u step q = to (commits w m) u step.1 (committed q)
  quiet (Mark a s) u step q = to (marks w m a s step.0) u step.2 (same (marks w m a s step.0) refl refl refl refl)
  quiet (Finish s) u step q = ⊎_elim (λ done. finished s done.0 done.1 u done.3) (λ failed. gave_up s failed.0 u failed.2) step
  quiet (Fail a s) u step q = to (fails w m a s step.0) u step.2 (same (fails w m a s step.0) refl refl refl refl)
  quiet (Withdraw s) u step q = to (withdraws w m s step.0) u step.2 (withdrew s step.0)
  quiet (Doom ns) u step q = to (dooms w m ns) u step.1 (doomed ns)
  quiet (Retire ns) u step q = absurd q
  quiet (Send b n) u step q = to (sends w m b n) u step.1 (same (sends w m b n) refl refl refl refl)
  quiet (Receive from) u step q = received from step.0 u step.2
