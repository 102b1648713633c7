-- What the steps of a leader leave of the group that is shown.
use Rattle.std.proofs.Common.{◌≡◌, ℕ, Bool, true, false, cond, ◌&&◌, eqb, List, [], ◌∷◌, ◌++◌, Option, Some, None, unwrap_or, refl, sym, ap, ◌∙◌}
use Rattle.std.specs.Prelude.{slice_get, slice_set}
use Rattle.std.specs.Global.{Vec}
use Rattle.std.specs.Ordering.{nat_cmp}
use Rattle.std.specs.BTreeMap.{BTreeMap, get, Updates}
use Rattle.log_entry.specs.declared.entry.Entry.{Entry}
use Rattle.group_laws.specs.declared.types.Slot.{Slot}
use Rattle.group_laws.specs.declared.types.Slot.TheVariants.{Empty, Taken, Done, Failed}
use Rattle.group_laws.specs.declared.types.Seen.{Seen}
use Rattle.group_laws.specs.Places.{Place, owner}
use Rattle.group_laws.specs.Updates.{put3, has}
use Rattle.group_laws.specs.Steps.{locks, finds, takes, unlocks, commits, marks, fails}
use Rattle.group_board.specs.declared.names.Notices.{Notices}
use Rattle.group_machine.specs.declared.state.MemberView.{MemberView}
use Rattle.group_machine.specs.Shows.{pair_cmp, of, no_notices, last_in, mailed_in, group_at}
use Rattle.group_machine.proofs.Views as views
use Rattle.group_machine.proofs.Pairs.{pair_put}

cond_and : {X : Type 0} (b c : Bool) (x y : X) → cond b (cond c x y) y ≡ cond (b && c) x y
cond_and true c x y = refl
cond_and false c x y = refl

module _ (p : Place) (mail : BTreeMap (ℕ × ℕ) Notices) (vs : List MemberView) (m : ℕ) (v : MemberView) (at : slice_get vs m ≡ Some v) where
  -- a leader's step leaves what its view has as an owner
  owns_same : (o : Option ℕ) (slots : BTreeMap (ℕ × ℕ) Slot) (kept flying : Vec Entry) (taken : BTreeMap (ℕ × ℕ) Entry) (broken holds : Bool) (looked : Vec Seen) (took : Vec Entry)
      → let w : MemberView = record v { kept = kept; flying = flying; taken = taken; broken = broken; holds = holds; looked = looked; took = took } in
      let ws = slice_set vs m w in
      group_at p o slots mail ws ≡ record (group_at p o slots mail vs) {
        kept = λ h. of (λ v. v.kept.items) [] (slice_get ws h);
        flying = λ h. of (λ v. v.flying.items) [] (slice_get ws h);
        taken = λ h a s. of (λ v. get pair_cmp v.taken (a, s)) None (slice_get ws h);
        broken = λ h. of (λ v. v.broken) false (slice_get ws h);
        holds = λ h. of (λ v. v.holds) false (slice_get ws h);
        looked = λ h. of (λ v. v.looked.items) [] (slice_get ws h);
        took = λ h. of (λ v. v.took.items) [] (slice_get ws h);
      }
  owns_same o slots kept flying taken broken holds looked took =
      let w : MemberView = record v { kept = kept; flying = flying; taken = taken; broken = broken; holds = holds; looked = looked; took = took } in
      λ i. record (group_at p o slots mail (slice_set vs m w)) {
        last = λ k. views.kept_field vs m v w at (λ v. last_in v k) 0 refl (owner p k) i;
        cell = λ k. views.kept_field vs m v w at (λ v. get nat_cmp v.cell k) None refl (owner p k) i;
        pending = λ k. views.kept_field vs m v w at (λ v. get nat_cmp v.pending k) None refl (owner p k) i;
        present = λ k n. views.kept_field vs m v w at (λ v. get pair_cmp v.present (k, n)) None refl (owner p k) i;
        told = λ k n. views.kept_field vs m v w at (λ v. has v.told.items k n) false refl (owner p k) i;
        dead = λ h k n. views.kept_field vs m v w at (λ v. has v.dead.items k n) false refl h i;
        doomed = λ h k n. views.kept_field vs m v w at (λ v. has v.doomed.items k n) false refl h i;
        leaving = λ h k n. views.kept_field vs m v w at (λ v. has v.leaving.items k n) false refl h i;
        mailed = λ a b. views.kept_field vs m v w at (λ v. mailed_in v b) no_notices refl a i;
        blocks = λ h q. views.kept_field vs m v w at (λ v. get nat_cmp v.blocks q) None refl h i;
        posted = λ h. views.kept_field vs m v w at (λ v. v.posted.items) [] refl h i;
      }

  pub unlock_is : (o : Option ℕ) (slots : BTreeMap (ℕ × ℕ) Slot) (looked : Vec Seen) → looked.items ≡ []
      → group_at p None slots mail (slice_set vs m (record v { holds = false; looked = looked })) ≡ unlocks (group_at p o slots mail vs) m
  unlock_is o slots looked cleared =
      let w : MemberView = record v { holds = false; looked = looked } in
      owns_same None slots v.kept v.flying v.taken v.broken false looked v.took ∙ λ i. record (unlocks (group_at p o slots mail vs) m) {
        kept = λ h. views.kept_field vs m v w at (λ v. v.kept.items) [] refl h i;
        flying = λ h. views.kept_field vs m v w at (λ v. v.flying.items) [] refl h i;
        taken = λ h a s. views.kept_field vs m v w at (λ v. get pair_cmp v.taken (a, s)) None refl h i;
        broken = λ h. views.kept_field vs m v w at (λ v. v.broken) false refl h i;
        holds = λ h. views.put_field vs m v w at (λ v. v.holds) false false refl h i;
        looked = λ h. views.put_field vs m v w at (λ v. v.looked.items) [] [] cleared h i;
        took = λ h. views.kept_field vs m v w at (λ v. v.took.items) [] refl h i;
      }

  pub lock_is : (o : Option ℕ) (slots : BTreeMap (ℕ × ℕ) Slot) (looked : Vec Seen) → looked.items ≡ []
      → group_at p (Some m) slots mail (slice_set vs m (record v { holds = true; looked = looked })) ≡ locks (group_at p o slots mail vs) m
  lock_is o slots looked cleared =
      let w : MemberView = record v { holds = true; looked = looked } in
      owns_same (Some m) slots v.kept v.flying v.taken v.broken true looked v.took ∙ λ i. record (locks (group_at p o slots mail vs) m) {
        kept = λ h. views.kept_field vs m v w at (λ v. v.kept.items) [] refl h i;
        flying = λ h. views.kept_field vs m v w at (λ v. v.flying.items) [] refl h i;
        taken = λ h a s. views.kept_field vs m v w at (λ v. get pair_cmp v.taken (a, s)) None refl h i;
        broken = λ h. views.kept_field vs m v w at (λ v. v.broken) false refl h i;
        holds = λ h. views.put_field vs m v w at (λ v. v.holds) false true refl h i;
        looked = λ h. views.put_field vs m v w at (λ v. v.looked.items) [] [] cleared h i;
        took = λ h. views.kept_field vs m v w at (λ v. v.took.items) [] refl h i;
      }

  pub find_is : (o : Option ℕ) (slots : BTreeMap (ℕ × ℕ) Slot) (looked : Vec Seen) (x : Seen) → looked.items ≡ v.looked.items ++ x ∷ []
      → group_at p o slots mail (slice_set vs m (record v { looked = looked })) ≡ finds (group_at p o slots mail vs) m x
  find_is o slots looked x more =
      let w : MemberView = record v { looked = looked } in
      owns_same o slots v.kept v.flying v.taken v.broken v.holds looked v.took ∙ λ i. record (finds (group_at p o slots mail vs) m x) {
        kept = λ h. views.kept_field vs m v w at (λ v. v.kept.items) [] refl h i;
        flying = λ h. views.kept_field vs m v w at (λ v. v.flying.items) [] refl h i;
        taken = λ h a s. views.kept_field vs m v w at (λ v. get pair_cmp v.taken (a, s)) None refl h i;
        broken = λ h. views.kept_field vs m v w at (λ v. v.broken) false refl h i;
        holds = λ h. views.kept_field vs m v w at (λ v. v.holds) false refl h i;
        looked = λ h. views.changed_field vs m v w at (λ v. v.looked.items) [] (λ xs. xs ++ x ∷ []) more h i;
        took = λ h. views.kept_field vs m v w at (λ v. v.took.items) [] refl h i;
      }

  pub commit_is : (o : Option ℕ) (slots : BTreeMap (ℕ × ℕ) Slot) (kept flying : Vec Entry) (looked : Vec Seen) → kept.items ≡ v.kept.items ++ v.flying.items → flying.items ≡ [] → looked.items ≡ []
      → group_at p o slots mail (slice_set vs m (record v { kept = kept; flying = flying; looked = looked })) ≡ commits (group_at p o slots mail vs) m
  commit_is o slots kept flying looked all none cleared =
      let w : MemberView = record v { kept = kept; flying = flying; looked = looked } in
      owns_same o slots kept flying v.taken v.broken v.holds looked v.took ∙ λ i. record (commits (group_at p o slots mail vs) m) {
        kept = λ h. views.if_field vs m v w at (λ v. v.kept.items) [] (λ h. of (λ (v : MemberView). v.kept.items) [] (slice_get vs h) ++ of (λ (v : MemberView). v.flying.items) [] (slice_get vs h))
            (all ∙ sym (ap (λ o. of (λ (v : MemberView). v.kept.items) [] o ++ of (λ (v : MemberView). v.flying.items) [] o) at)) h i;
        flying = λ h. views.put_field vs m v w at (λ v. v.flying.items) [] [] none h i;
        taken = λ h a s. views.kept_field vs m v w at (λ v. get pair_cmp v.taken (a, s)) None refl h i;
        broken = λ h. views.kept_field vs m v w at (λ v. v.broken) false refl h i;
        holds = λ h. views.kept_field vs m v w at (λ v. v.holds) false refl h i;
        looked = λ h. views.put_field vs m v w at (λ v. v.looked.items) [] [] cleared h i;
        took = λ h. views.kept_field vs m v w at (λ v. v.took.items) [] refl h i;
      }

  -- a map by pairs of m's view, after a write
  pairs_put : (f : MemberView → BTreeMap (ℕ × ℕ) Entry) (w : MemberView) (a s : ℕ) (x : Option Entry) → Updates pair_cmp (f v) (f w) (a, s) x → (h b t : ℕ)
      → of (λ v. get pair_cmp (f v) (b, t)) None (slice_get (slice_set vs m w) h) ≡ put3 (λ h b t. of (λ v. get pair_cmp (f v) (b, t)) None (slice_get vs h)) m a s x h b t
  pairs_put f w a s x u h b t =
      views.if_field vs m v w at (λ v. get pair_cmp (f v) (b, t)) None (λ h. cond (eqb b a && eqb t s) x (of (λ (v : MemberView). get pair_cmp (f v) (b, t)) None (slice_get vs h)))
      (pair_put (λ o. o) (f v) (f w) a s x u b t ∙ ap (cond (eqb b a && eqb t s) x) (sym (ap (of (λ (v : MemberView). get pair_cmp (f v) (b, t)) None) at))) h
      ∙ cond_and (eqb h m) (eqb b a && eqb t s) x (of (λ (v : MemberView). get pair_cmp (f v) (b, t)) None (slice_get vs h))

  pub take_is : (o : Option ℕ) (slots slots' : BTreeMap (ℕ × ℕ) Slot) (a s : ℕ) (e : Entry) (flying took : Vec Entry) (taken : BTreeMap (ℕ × ℕ) Entry) (looked : Vec Seen)
      → Updates pair_cmp slots slots' (a, s) (Some Taken) → Updates pair_cmp v.taken taken (a, s) (Some e) → flying.items ≡ v.flying.items ++ e ∷ [] → took.items ≡ v.took.items ++ e ∷ [] → looked.items ≡ []
      → group_at p o slots' mail (slice_set vs m (record v { flying = flying; taken = taken; looked = looked; took = took })) ≡ takes (group_at p o slots mail vs) m a s e
  take_is o slots slots' a s e flying took taken looked slot_set taken_set flew more cleared =
      let w : MemberView = record v { flying = flying; taken = taken; looked = looked; took = took } in
      owns_same o slots' v.kept flying taken v.broken v.holds looked took ∙ λ i. record (takes (group_at p o slots mail vs) m a s e) {
        slot = λ b t. pair_put (λ o. unwrap_or o Empty) slots slots' a s (Some Taken) slot_set b t i;
        kept = λ h. views.kept_field vs m v w at (λ v. v.kept.items) [] refl h i;
        flying = λ h. views.changed_field vs m v w at (λ v. v.flying.items) [] (λ es. es ++ e ∷ []) flew h i;
        taken = λ h b t. pairs_put (λ v. v.taken) w a s (Some e) taken_set h b t i;
        broken = λ h. views.kept_field vs m v w at (λ v. v.broken) false refl h i;
        holds = λ h. views.kept_field vs m v w at (λ v. v.holds) false refl h i;
        looked = λ h. views.put_field vs m v w at (λ v. v.looked.items) [] [] cleared h i;
        took = λ h. views.changed_field vs m v w at (λ v. v.took.items) [] (λ es. es ++ e ∷ []) more h i;
      }

  pub mark_is : (o : Option ℕ) (slots slots' : BTreeMap (ℕ × ℕ) Slot) (a s : ℕ) (e : Entry) (taken : BTreeMap (ℕ × ℕ) Entry) (looked : Vec Seen)
      → Updates pair_cmp slots slots' (a, s) (Some (Done e m)) → Updates pair_cmp v.taken taken (a, s) None → looked.items ≡ []
      → group_at p o slots' mail (slice_set vs m (record v { taken = taken; looked = looked })) ≡ marks (group_at p o slots mail vs) m a s e
  mark_is o slots slots' a s e taken looked slot_set taken_set cleared =
      let w : MemberView = record v { taken = taken; looked = looked } in
      owns_same o slots' v.kept v.flying taken v.broken v.holds looked v.took ∙ λ i. record (marks (group_at p o slots mail vs) m a s e) {
        slot = λ b t. pair_put (λ o. unwrap_or o Empty) slots slots' a s (Some (Done e m)) slot_set b t i;
        kept = λ h. views.kept_field vs m v w at (λ v. v.kept.items) [] refl h i;
        flying = λ h. views.kept_field vs m v w at (λ v. v.flying.items) [] refl h i;
        taken = λ h b t. pairs_put (λ v. v.taken) w a s None taken_set h b t i;
        broken = λ h. views.kept_field vs m v w at (λ v. v.broken) false refl h i;
        holds = λ h. views.kept_field vs m v w at (λ v. v.holds) false refl h i;
        looked = λ h. views.put_field vs m v w at (λ v. v.looked.items) [] [] cleared h i;
        took = λ h. views.kept_field vs m v w at (λ v. v.took.items) [] refl h i;
      }

  pub fail_is : (o : Option ℕ) (slots slots' : BTreeMap (ℕ × ℕ) Slot) (a s : ℕ) (e : Entry) (taken : BTreeMap (ℕ × ℕ) Entry) (looked : Vec Seen)
      → Updates pair_cmp slots slots' (a, s) (Some (Failed e)) → Updates pair_cmp v.taken taken (a, s) None → looked.items ≡ []
      → group_at p o slots' mail (slice_set vs m (record v { taken = taken; broken = true; looked = looked })) ≡ fails (group_at p o slots mail vs) m a s e
  fail_is o slots slots' a s e taken looked slot_set taken_set cleared =
      let w : MemberView = record v { taken = taken; broken = true; looked = looked } in
      owns_same o slots' v.kept v.flying taken true v.holds looked v.took ∙ λ i. record (fails (group_at p o slots mail vs) m a s e) {
        slot = λ b t. pair_put (λ o. unwrap_or o Empty) slots slots' a s (Some (Failed e)) slot_set b t i;
        kept = λ h. views.kept_field vs m v w at (λ v. v.kept.items) [] refl h i;
        flying = λ h. views.kept_field vs m v w at (λ v. v.flying.items) [] refl h i;
        taken = λ h b t. pairs_put (λ v. v.taken) w a s None taken_set h b t i;
        broken = λ h. views.put_field vs m v w at (λ v. v.broken) false true refl h i;
        holds = λ h. views.kept_field vs m v w at (λ v. v.holds) false refl h i;
        looked = λ h. views.put_field vs m v w at (λ v. v.looked.items) [] [] cleared h i;
        took = λ h. views.kept_field vs m v w at (λ v. v.took.items) [] refl h i;
      }
