-- What each step makes of the view of the member that makes it.
use Rattle.std.proofs.Common.{◌≡◌, ℕ, ◌<◌, Bool, true, false, cond, ◌&&◌, not, eqb, List, [], ◌∷◌, ◌++◌, Some, None, ◌⊎◌, inl, inr, refl, sym, ap, ◌∙◌, subst, eq-eqb, eqb-true}
use Rattle.log_entry.specs.declared.entry.Body.{Body}
use Rattle.log_entry.specs.declared.entry.Body.TheVariants.{Pointer, Embedded, Tombstone}
use Rattle.log_entry.specs.declared.entry.Entry.{Entry}
use Rattle.log_entry.specs.declared.entry.EntryName.{EntryName}
use Rattle.group_laws.specs.declared.types.Seen.{Seen}
use Rattle.group_laws.specs.Places.{Place, owner}
use Rattle.group_laws.specs.Updates.{has, without}
use Rattle.group_laws.specs.State.{Notices, Group}
use Rattle.group_laws.specs.Steps.{with_block, points_at, only_own, left_by, posts, locks, finds, takes, unlocks, commits, marks, fails, finishes, gives_up, withdraws, dooms, retires, sends, receives}
use Rattle.group_laws.specs.Invariant.{IsDead}
use Rattle.group_laws.specs.Tidying.{IsSpent, TellsItself, IsTidy, Tidied}
use Rattle.group_laws.specs.MemberViews.{of_own, view_of}
use Rattle.group_board.specs.Views.{left_in, after_post, after_lock, after_find, after_take, after_unlock, after_commit, after_mark, after_fail, after_finish, after_give_up, after_withdraw, after_doom, after_retire, after_send, after_receive, IsDeadIn, IsSpentIn, TellsItselfIn, IsTidyIn, TidiedIn}
use Rattle.group_board.proofs.Picks.{here, under, pulled, and_true}

pub own_is : {X : Type 0} (p : Place) (m k : ℕ) (x d : X) → owner p k ≡ m → of_own p m k x d ≡ x
own_is p m k x d o = ap (λ b. cond b x d) (eq-eqb (owner p k) m o)

-- a write at an own key
own_put : {X : Type 0} (p : Place) (m key : ℕ) → owner p key ≡ m → (x y d : X) (k : ℕ) → of_own p m k (cond (eqb k key) x y) d ≡ cond (eqb k key) x (of_own p m k y d)
own_put p m key o x y d k = under (eqb (owner p k) m) (eqb k key) x y d (λ t. eq-eqb (owner p k) m (ap (owner p) (eqb-true k key t) ∙ o))

own_put2 : {X : Type 0} (p : Place) (m key n : ℕ) → owner p key ≡ m → (x y d : X) (k v : ℕ) → of_own p m k (cond (eqb k key && eqb v n) x y) d ≡ cond (eqb k key && eqb v n) x (of_own p m k y d)
own_put2 p m key n o x y d k v = under (eqb (owner p k) m) (eqb k key && eqb v n) x y d (λ t. eq-eqb (owner p k) m (ap (owner p) (eqb-true k key (and_true (eqb k key) (eqb v n) t).0) ∙ o))

left_same : (w : Group) (m : ℕ) (b : Body) → left_by w m b ≡ left_in (w.blocks m) b
left_same w m (Pointer p) = refl
left_same w m (Embedded v) = refl
left_same w m Tombstone = refl

module _ (w : Group) (m : ℕ) where
  pub view_posts : (s : ℕ) (e : Entry) (value : List ℕ) → owner w.place e.key ≡ m → view_of (posts w m s e value) m ≡ after_post s e value (view_of w m)
  view_posts s e value o i = record (view_of w m) {
    pending = λ k. own_put w.place m e.key o (Some (record { entry = e; slot = Some s })) (w.pending k) None k i;
    blocks = cond (here m i) (with_block e.key value e.body (w.blocks m)) (w.blocks m);
    posted = cond (here m i) (w.posted m ++ e ∷ []) (w.posted m);
    looked = cond (here m i) [] (w.looked m);
  }

  pub view_locks : view_of (locks w m) m ≡ after_lock (view_of w m)
  view_locks i = record (view_of w m) { holds = cond (here m i) true (w.holds m); looked = cond (here m i) [] (w.looked m) }

  pub view_finds : (x : Seen) → view_of (finds w m x) m ≡ after_find x (view_of w m)
  view_finds x i = record (view_of w m) { looked = cond (here m i) (w.looked m ++ x ∷ []) (w.looked m) }

  pub view_takes : (a s : ℕ) (e : Entry) → view_of (takes w m a s e) m ≡ after_take a s e (view_of w m)
  view_takes a s e i = record (view_of w m) {
    taken = λ n t. cond (here m i && (eqb n a && eqb t s)) (Some e) (w.taken m n t);
    flying = cond (here m i) (w.flying m ++ e ∷ []) (w.flying m);
    took = cond (here m i) (w.took m ++ e ∷ []) (w.took m);
    looked = cond (here m i) [] (w.looked m);
  }

  pub view_unlocks : view_of (unlocks w m) m ≡ after_unlock (view_of w m)
  view_unlocks i = record (view_of w m) { holds = cond (here m i) false (w.holds m); looked = cond (here m i) [] (w.looked m) }

  pub view_commits : view_of (commits w m) m ≡ after_commit (view_of w m)
  view_commits i = record (view_of w m) {
    kept = cond (here m i) (w.kept m ++ w.flying m) (w.kept m);
    flying = cond (here m i) [] (w.flying m);
    looked = cond (here m i) [] (w.looked m);
  }

  pub view_marks : (a s : ℕ) (e : Entry) → view_of (marks w m a s e) m ≡ after_mark a s (view_of w m)
  view_marks a s e i = record (view_of w m) { taken = λ n t. cond (here m i && (eqb n a && eqb t s)) None (w.taken m n t); looked = cond (here m i) [] (w.looked m) }

  pub view_fails : (a s : ℕ) (e : Entry) → view_of (fails w m a s e) m ≡ after_fail a s (view_of w m)
  view_fails a s e i = record (view_of w m) {
    taken = λ n t. cond (here m i && (eqb n a && eqb t s)) None (w.taken m n t);
    broken = cond (here m i) true (w.broken m);
    looked = cond (here m i) [] (w.looked m);
  }

  pub view_finishes : (s : ℕ) (e : Entry) (h : ℕ) → owner w.place e.key ≡ m → view_of (finishes w m s e h) m ≡ after_finish e h (view_of w m)
  view_finishes s e h o i = record (view_of w m) {
    last = λ k. own_put w.place m e.key o e.version (w.last k) 0 k i;
    cell = λ k. (own_put w.place m e.key o (left_by w m e.body) (w.cell k) None k ∙ ap (λ x. cond (eqb k e.key) x (of_own w.place m k (w.cell k) None)) (left_same w m e.body)) i;
    present = λ k v. own_put2 w.place m e.key e.version o (Some h) (w.present k v) None k v i;
    pending = λ k. own_put w.place m e.key o None (w.pending k) None k i;
    blocks = cond (here m i) (only_own e.key e.body (w.blocks m)) (w.blocks m);
    looked = cond (here m i) [] (w.looked m);
  }

  pub view_gives_up : (s : ℕ) (e : Entry) → owner w.place e.key ≡ m → view_of (gives_up w m s e) m ≡ after_give_up e (view_of w m)
  view_gives_up s e o i = record (view_of w m) {
    broken = cond (here m i) true (w.broken m);
    pending = λ k. own_put w.place m e.key o (Some (record { entry = e; slot = None })) (w.pending k) None k i;
    looked = cond (here m i) [] (w.looked m);
  }

  pub view_withdraws : (s : ℕ) (e : Entry) → owner w.place e.key ≡ m → view_of (withdraws w m s e) m ≡ after_withdraw e (view_of w m)
  view_withdraws s e o i = record (view_of w m) {
    pending = λ k. own_put w.place m e.key o None (w.pending k) None k i;
    blocks = cond (here m i) (λ p. cond (points_at e.body p) None (w.blocks m p)) (w.blocks m);
    looked = cond (here m i) [] (w.looked m);
  }

  pub view_dooms : (ns : List EntryName) → view_of (dooms w m ns) m ≡ after_doom ns (view_of w m)
  view_dooms ns i = record (view_of w m) { doomed = λ k n. cond (here m i && has ns k n) true (w.doomed m k n); looked = cond (here m i) [] (w.looked m) }

  pub view_retires : (ns : List EntryName) → view_of (retires w m ns) m ≡ after_retire w.place m ns (view_of w m)
  view_retires ns i = record (view_of w m) {
    kept = cond (here m i) (without ns (w.kept m)) (w.kept m);
    dead = λ k n. cond (here m i && has ns k n) false (w.dead m k n);
    doomed = λ k n. cond (here m i && has ns k n) false (w.doomed m k n);
    present = λ k n. pulled (eqb (owner w.place k) m) (has ns k n) (w.present k n) None i;
    told = λ k n. pulled (eqb (owner w.place k) m) (has ns k n) (w.told k n) false i;
    leaving = λ k n. cond (here m i && (not (eqb (owner w.place k) m) && has ns k n)) true (w.leaving m k n);
    looked = cond (here m i) [] (w.looked m);
  }

  pub view_sends : (to : ℕ) (n : Notices) → ((k v : ℕ) → has n.dead k v ≡ true → owner w.place k ≡ m) → view_of (sends w m to n) m ≡ after_send to n (view_of w m)
  view_sends to n own i = record (view_of w m) {
    told = λ k v. under (eqb (owner w.place k) m) (has n.dead k v) true (w.told k v) false (λ t. eq-eqb (owner w.place k) m (own k v t)) i;
    leaving = λ k v. cond (here m i && has n.gone k v) false (w.leaving m k v);
    mailed = λ b. cond (here m i && eqb b to) n (w.mailed m b);
    looked = cond (here m i) [] (w.looked m);
  }

  pub view_receives : (from : ℕ) (n : Notices) → view_of (receives w m from n) m ≡ after_receive w.place m n (view_of w m)
  view_receives from n i = record (view_of w m) {
    dead = λ k v. cond (here m i && has n.dead k v) true (w.dead m k v);
    present = λ k v. pulled (eqb (owner w.place k) m) (has n.gone k v) (w.present k v) None i;
    told = λ k v. pulled (eqb (owner w.place k) m) (has n.gone k v) (w.told k v) false i;
    looked = cond (here m i) [] (w.looked m);
  }

  -- what holds of an own key by the view holds by the state, and the other way round
  abbrev DeadBy : ℕ → ℕ → Bool → Type 0
  DeadBy k n b = (n < cond b (w.last k) 0) ⊎ ((n ≡ cond b (w.last k) 0) × (cond b (w.cell k) None ≡ None) × ((u h : ℕ) → cond b (w.present k u) None ≡ Some h → u ≡ n))

  pub dead_of : (k n : ℕ) → owner w.place k ≡ m → IsDeadIn (view_of w m) k n → IsDead w k n
  dead_of k n o d = subst (DeadBy k n) (eq-eqb (owner w.place k) m o) d

  dead_in : (k n : ℕ) → owner w.place k ≡ m → IsDead w k n → IsDeadIn (view_of w m) k n
  dead_in k n o d = subst (DeadBy k n) (sym (eq-eqb (owner w.place k) m o)) d

  abbrev SpentBy : ℕ → Bool → Type 0
  SpentBy k b = (owner w.place k ≡ m) × (cond b (w.cell k) None ≡ None) × ((n : ℕ) → cond b (w.present k n) None ≡ None) × (cond b (w.pending k) None ≡ None)

  spent_of : (k : ℕ) → IsSpentIn w.place m (view_of w m) k → IsSpent w m k
  spent_of k s = subst (SpentBy k) (eq-eqb (owner w.place k) m s.0) s

  spent_in : (k : ℕ) → IsSpent w m k → IsSpentIn w.place m (view_of w m) k
  spent_in k s = subst (SpentBy k) (sym (eq-eqb (owner w.place k) m s.0)) s

  tells_of : (k n : ℕ) → TellsItselfIn w.place m (view_of w m) k n → TellsItself w m k n
  tells_of k n t = (t.0, sym (own_is w.place m k (w.present k n) None t.0) ∙ t.1, dead_of k n t.0 t.2)

  tells_in : (k n : ℕ) → TellsItself w m k n → TellsItselfIn w.place m (view_of w m) k n
  tells_in k n t = (t.0, own_is w.place m k (w.present k n) None t.0 ∙ t.1, dead_in k n t.0 t.2)

  -- what is true of own keys alone
  only_own_true : (b x : Bool) → cond b x false ≡ true → (b ≡ true) × (x ≡ true)
  only_own_true true x e = (refl, e)
  only_own_true false x e = absurd (cc)

  module _ (last : ℕ → ℕ) (told : ℕ → ℕ → Bool) (dead : ℕ → ℕ → ℕ → Bool) (tidy : IsTidy w m last told dead) where
    tells_by : (k n : ℕ) → (told k n ≡ true) → owner w.place k ≡ m → (of_own w.place m k (w.told k n) false ≡ true) ⊎ TellsItselfIn w.place m (view_of w m) k n
    tells_by k n t o = elim ((tidy.tells k n).0 t) [ inl old ↦ inl (own_is w.place m k (w.told k n) false o ∙ old) | inr new ↦ inr (tells_in k n new) ]

    is_tidy : IsTidyIn w.place m (view_of w m) (λ k. of_own w.place m k (last k) 0) (λ k n. of_own w.place m k (told k n) false) (dead m)
    is_tidy = record {
      forgets = λ k s. own_is w.place m k (last k) 0 s.0 ∙ tidy.forgets k (spent_of k s);
      keeps = λ k. elim (tidy.keeps k) [
        | inl gone ↦ inl (spent_in k gone.0, own_is w.place m k (last k) 0 gone.0.0 ∙ gone.1)
        | inr same ↦ inr (ap (λ x. of_own w.place m k x 0) same)
      ];
      tells = λ k n. (
        λ t. (let both = only_own_true (eqb (owner w.place k) m) (told k n) t in tells_by k n both.1 (eqb-true (owner w.place k) m both.0)),
        λ q. elim q [
          | inl old ↦ (let both = only_own_true (eqb (owner w.place k) m) (w.told k n) old in own_is w.place m k (told k n) false (eqb-true (owner w.place k) m both.0) ∙ (tidy.tells k n).1 (inl both.1))
          | inr new ↦ own_is w.place m k (told k n) false new.0 ∙ (tidy.tells k n).1 (inr (tells_of k n new))
        ],
      );
      learns = λ k n. (
        λ t. elim ((tidy.learns m k n).0 t) [ inl old ↦ inl old | inr new ↦ inr (tells_in k n new.1) ],
        λ q. elim q [ inl old ↦ (tidy.learns m k n).1 (inl old) | inr new ↦ (tidy.learns m k n).1 (inr (refl, tells_of k n new)) ],
      );
    }

  pub view_tidied : (u : Group) → Tidied w m u → TidiedIn w.place m (view_of w m) (view_of u m)
  view_tidied u t = (
    λ k. of_own w.place m k (t.0 k) 0,
    λ k n. of_own w.place m k (t.1 k n) false,
    t.2 m,
    is_tidy t.0 t.1 t.2 t.3,
    ap (λ x. view_of x m) t.4,
  )
