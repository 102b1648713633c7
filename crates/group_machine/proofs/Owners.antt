-- What the steps of a key's owner leave of the group that is shown.
use Rattle.std.proofs.Common.{◌≡◌, ℕ, Bool, true, false, cond, eqb, List, [], ◌∷◌, ◌++◌, Option, Some, None, unwrap_or, refl, sym, ap, ◌∙◌}
use Rattle.std.specs.Prelude.{slice_get, slice_set}
use Rattle.std.specs.Global.{Vec}
use Rattle.std.specs.Ordering.{nat_cmp}
use Rattle.std.specs.BTreeMap.{BTreeMap, get, Updates}
use Rattle.log_entry.specs.declared.entry.Body.{Body}
use Rattle.log_entry.specs.declared.entry.Body.TheVariants.{Pointer, Embedded, Tombstone}
use Rattle.log_entry.specs.declared.entry.Entry.{Entry}
use Rattle.log_entry.specs.declared.entry.EntryName.{EntryName}
use Rattle.group_laws.specs.declared.types.Slot.{Slot}
use Rattle.group_laws.specs.declared.types.Slot.TheVariants.{Empty, Posted}
use Rattle.group_laws.specs.declared.types.Pending.{Pending}
use Rattle.group_laws.specs.declared.types.Block.{Block}
use Rattle.group_laws.specs.declared.types.Seen.{Seen}
use Rattle.group_laws.specs.Places.{Place, owner}
use Rattle.group_laws.specs.Updates.{put, change, has}
use Rattle.group_laws.specs.Steps.{posts, with_block, withdraws, points_at, finishes, gives_up, left_by, bytes_of, only_own}
use Rattle.group_board.specs.declared.names.Notices.{Notices}
use Rattle.group_machine.specs.declared.state.MemberView.{MemberView}
use Rattle.group_machine.specs.Shows.{pair_cmp, of, no_notices, last_in, mailed_in, group_at}
use Rattle.group_machine.specs.Finds.{left_in}
use Rattle.group_machine.proofs.Views as views
use Rattle.group_machine.proofs.Pairs.{number_put, pair_put}

applied : {X : Type 0} (b : Bool) (f g : ℕ → X) (q : ℕ) → cond b (f q) (g q) ≡ cond b f g q
applied true f g q = refl
applied false f g q = refl

module _ (p : Place) (o : Option ℕ) (mail : BTreeMap (ℕ × ℕ) Notices) (vs : List MemberView) (m : ℕ) (v : MemberView) (at : slice_get vs m ≡ Some v) where
  -- an owner's step leaves what its view has as a leader
  pub leads_same : (slots : BTreeMap (ℕ × ℕ) Slot) (broken : Bool) (looked : Vec Seen) (last : BTreeMap ℕ ℕ) (cell : BTreeMap ℕ (List ℕ)) (pending : BTreeMap ℕ Pending) (present : BTreeMap (ℕ × ℕ) ℕ) (told dead : Vec EntryName) (blocks : BTreeMap ℕ Block) (posted : Vec Entry)
      → let w : MemberView = record v { broken = broken; looked = looked; last = last; cell = cell; pending = pending; present = present; told = told; dead = dead; blocks = blocks; posted = posted } in
      let ws = slice_set vs m w in
      group_at p o slots mail ws ≡ record (group_at p o slots mail vs) {
        broken = λ h. of (λ v. v.broken) false (slice_get ws h);
        looked = λ h. of (λ v. v.looked.items) [] (slice_get ws h);
        last = λ k. of (λ v. last_in v k) 0 (slice_get ws (owner p k));
        cell = λ k. of (λ v. get nat_cmp v.cell k) None (slice_get ws (owner p k));
        pending = λ k. of (λ v. get nat_cmp v.pending k) None (slice_get ws (owner p k));
        present = λ k n. of (λ v. get pair_cmp v.present (k, n)) None (slice_get ws (owner p k));
        told = λ k n. of (λ v. has v.told.items k n) false (slice_get ws (owner p k));
        dead = λ h k n. of (λ v. has v.dead.items k n) false (slice_get ws h);
        blocks = λ h q. of (λ v. get nat_cmp v.blocks q) None (slice_get ws h);
        posted = λ h. of (λ v. v.posted.items) [] (slice_get ws h);
      }
  leads_same slots broken looked last cell pending present told dead blocks posted =
      let w : MemberView = record v { broken = broken; looked = looked; last = last; cell = cell; pending = pending; present = present; told = told; dead = dead; blocks = blocks; posted = posted } in
      λ i. record (group_at p o slots mail (slice_set vs m w)) {
        kept = λ h. views.kept_field vs m v w at (λ v. v.kept.items) [] refl h i;
        flying = λ h. views.kept_field vs m v w at (λ v. v.flying.items) [] refl h i;
        taken = λ h a s. views.kept_field vs m v w at (λ v. get pair_cmp v.taken (a, s)) None refl h i;
        holds = λ h. views.kept_field vs m v w at (λ v. v.holds) false refl h i;
        doomed = λ h k n. views.kept_field vs m v w at (λ v. has v.doomed.items k n) false refl h i;
        leaving = λ h k n. views.kept_field vs m v w at (λ v. has v.leaving.items k n) false refl h i;
        mailed = λ a b. views.kept_field vs m v w at (λ v. mailed_in v b) no_notices refl a i;
        took = λ h. views.kept_field vs m v w at (λ v. v.took.items) [] refl h i;
      }

  -- the blocks of m's view, after g
  blocks_changed : (w : MemberView) (g : (ℕ → Option Block) → ℕ → Option Block) → ((q : ℕ) → get nat_cmp w.blocks q ≡ g (get nat_cmp v.blocks) q) → (h q : ℕ)
      → of (λ v. get nat_cmp v.blocks q) None (slice_get (slice_set vs m w) h) ≡ change (λ h q. of (λ v. get nat_cmp v.blocks q) None (slice_get vs h)) m g h q
  blocks_changed w g new h q =
      let old : ℕ → ℕ → Option Block = λ h q. of (λ (v : MemberView). get nat_cmp v.blocks q) None (slice_get vs h) in
      views.if_field vs m v w at (λ v. get nat_cmp v.blocks q) None (λ h. g (old h) q)
      (new q ∙ (λ i. g (λ q. sym (ap (of (λ (v : MemberView). get nat_cmp v.blocks q) None) at) i) q)) h
      ∙ applied (eqb h m) (g (old h)) (old h) q

  pub post_is : (slots slots' : BTreeMap (ℕ × ℕ) Slot) (s : ℕ) (e : Entry) (value : List ℕ) (pending : BTreeMap ℕ Pending) (blocks : BTreeMap ℕ Block) (posted : Vec Entry) (looked : Vec Seen)
      → owner p e.key ≡ m → Updates pair_cmp slots slots' (m, s) (Some (Posted e)) → Updates nat_cmp v.pending pending e.key (Some (record { entry = e; slot = Some s }))
      → ((q : ℕ) → get nat_cmp blocks q ≡ with_block e.key value e.body (get nat_cmp v.blocks) q) → posted.items ≡ v.posted.items ++ e ∷ [] → looked.items ≡ []
      → group_at p o slots' mail (slice_set vs m (record v { looked = looked; pending = pending; blocks = blocks; posted = posted })) ≡ posts (group_at p o slots mail vs) m s e value
  post_is slots slots' s e value pending blocks posted looked own slot_set pending_set block_added more cleared =
      let w : MemberView = record v { looked = looked; pending = pending; blocks = blocks; posted = posted } in
      leads_same slots' v.broken looked v.last v.cell pending v.present v.told v.dead blocks posted ∙ λ i. record (posts (group_at p o slots mail vs) m s e value) {
        slot = λ b t. pair_put (λ o. unwrap_or o Empty) slots slots' m s (Some (Posted e)) slot_set b t i;
        broken = λ h. views.kept_field vs m v w at (λ v. v.broken) false refl h i;
        looked = λ h. views.put_field vs m v w at (λ v. v.looked.items) [] [] cleared h i;
        last = λ k. views.kept_field vs m v w at (λ v. last_in v k) 0 refl (owner p k) i;
        cell = λ k. views.kept_field vs m v w at (λ v. get nat_cmp v.cell k) None refl (owner p k) i;
        pending = λ k. views.put_key vs m v w at (owner p) (λ v k. get nat_cmp v.pending k) None (Some (record { entry = e; slot = Some s })) e.key own (number_put (λ o. o) v.pending pending e.key (Some (record { entry = e; slot = Some s })) pending_set) k i;
        present = λ k n. views.kept_field vs m v w at (λ v. get pair_cmp v.present (k, n)) None refl (owner p k) i;
        told = λ k n. views.kept_field vs m v w at (λ v. has v.told.items k n) false refl (owner p k) i;
        dead = λ h k n. views.kept_field vs m v w at (λ v. has v.dead.items k n) false refl h i;
        blocks = λ h q. blocks_changed w (with_block e.key value e.body) block_added h q i;
        posted = λ h. views.changed_field vs m v w at (λ v. v.posted.items) [] (λ es. es ++ e ∷ []) more h i;
      }

  pub withdraw_is : (slots slots' : BTreeMap (ℕ × ℕ) Slot) (s : ℕ) (e : Entry) (pending : BTreeMap ℕ Pending) (blocks : BTreeMap ℕ Block) (looked : Vec Seen)
      → owner p e.key ≡ m → Updates pair_cmp slots slots' (m, s) (Some Empty) → Updates nat_cmp v.pending pending e.key None
      → ((q : ℕ) → get nat_cmp blocks q ≡ cond (points_at e.body q) None (get nat_cmp v.blocks q)) → looked.items ≡ []
      → group_at p o slots' mail (slice_set vs m (record v { looked = looked; pending = pending; blocks = blocks })) ≡ withdraws (group_at p o slots mail vs) m s e
  withdraw_is slots slots' s e pending blocks looked own slot_set pending_set block_dropped cleared =
      let w : MemberView = record v { looked = looked; pending = pending; blocks = blocks } in
      leads_same slots' v.broken looked v.last v.cell pending v.present v.told v.dead blocks v.posted ∙ λ i. record (withdraws (group_at p o slots mail vs) m s e) {
        slot = λ b t. pair_put (λ o. unwrap_or o Empty) slots slots' m s (Some Empty) slot_set b t i;
        broken = λ h. views.kept_field vs m v w at (λ v. v.broken) false refl h i;
        looked = λ h. views.put_field vs m v w at (λ v. v.looked.items) [] [] cleared h i;
        last = λ k. views.kept_field vs m v w at (λ v. last_in v k) 0 refl (owner p k) i;
        cell = λ k. views.kept_field vs m v w at (λ v. get nat_cmp v.cell k) None refl (owner p k) i;
        pending = λ k. views.put_key vs m v w at (owner p) (λ v k. get nat_cmp v.pending k) None None e.key own (number_put (λ o. o) v.pending pending e.key None pending_set) k i;
        present = λ k n. views.kept_field vs m v w at (λ v. get pair_cmp v.present (k, n)) None refl (owner p k) i;
        told = λ k n. views.kept_field vs m v w at (λ v. has v.told.items k n) false refl (owner p k) i;
        dead = λ h k n. views.kept_field vs m v w at (λ v. has v.dead.items k n) false refl h i;
        blocks = λ h q. blocks_changed w (λ old p. cond (points_at e.body p) None (old p)) block_dropped h q i;
        posted = λ h. views.kept_field vs m v w at (λ v. v.posted.items) [] refl h i;
      }

  left_same : (slots : BTreeMap (ℕ × ℕ) Slot) (body : Body) → left_in (get nat_cmp v.blocks) body ≡ left_by (group_at p o slots mail vs) m body
  left_same slots (Pointer q) = ap bytes_of (sym (ap (of (λ (v : MemberView). get nat_cmp v.blocks q) None) at))
  left_same slots (Embedded u) = refl
  left_same slots Tombstone = refl

  pub finish_is : (slots slots' : BTreeMap (ℕ × ℕ) Slot) (s : ℕ) (e : Entry) (home : ℕ) (last : BTreeMap ℕ ℕ) (cell : BTreeMap ℕ (List ℕ)) (pending : BTreeMap ℕ Pending) (present : BTreeMap (ℕ × ℕ) ℕ) (blocks : BTreeMap ℕ Block) (looked : Vec Seen)
      → owner p e.key ≡ m → Updates pair_cmp slots slots' (m, s) (Some Empty) → Updates nat_cmp v.last last e.key (Some e.version)
      → ((k : ℕ) → get nat_cmp cell k ≡ put (get nat_cmp v.cell) e.key (left_in (get nat_cmp v.blocks) e.body) k)
      → Updates nat_cmp v.pending pending e.key None → Updates pair_cmp v.present present (e.key, e.version) (Some home)
      → ((q : ℕ) → get nat_cmp blocks q ≡ only_own e.key e.body (get nat_cmp v.blocks) q) → looked.items ≡ []
      → group_at p o slots' mail (slice_set vs m (record v { looked = looked; last = last; cell = cell; pending = pending; present = present; blocks = blocks })) ≡ finishes (group_at p o slots mail vs) m s e home
  finish_is slots slots' s e home last cell pending present blocks looked own slot_set last_set cell_set pending_set present_set replaced cleared =
      let w : MemberView = record v { looked = looked; last = last; cell = cell; pending = pending; present = present; blocks = blocks } in
      let left = left_same slots e.body in
      leads_same slots' v.broken looked last cell pending present v.told v.dead blocks v.posted ∙ λ i. record (finishes (group_at p o slots mail vs) m s e home) {
        slot = λ b t. pair_put (λ o. unwrap_or o Empty) slots slots' m s (Some Empty) slot_set b t i;
        broken = λ h. views.kept_field vs m v w at (λ v. v.broken) false refl h i;
        looked = λ h. views.put_field vs m v w at (λ v. v.looked.items) [] [] cleared h i;
        last = λ k. views.put_key vs m v w at (owner p) last_in 0 e.version e.key own (number_put (λ o. unwrap_or o 0) v.last last e.key (Some e.version) last_set) k i;
        cell = λ k. views.put_key vs m v w at (owner p) (λ v k. get nat_cmp v.cell k) None (left_by (group_at p o slots mail vs) m e.body) e.key own (λ k. cell_set k ∙ ap (λ (x : Option (List ℕ)). put (get nat_cmp v.cell) e.key x k) left) k i;
        pending = λ k. views.put_key vs m v w at (owner p) (λ v k. get nat_cmp v.pending k) None None e.key own (number_put (λ o. o) v.pending pending e.key None pending_set) k i;
        present = λ k n. views.put_pair vs m v w at (owner p) (λ v k n. get pair_cmp v.present (k, n)) None (Some home) e.key e.version own (pair_put (λ o. o) v.present present e.key e.version (Some home) present_set) k n i;
        told = λ k n. views.kept_field vs m v w at (λ v. has v.told.items k n) false refl (owner p k) i;
        dead = λ h k n. views.kept_field vs m v w at (λ v. has v.dead.items k n) false refl h i;
        blocks = λ h q. blocks_changed w (only_own e.key e.body) replaced h q i;
        posted = λ h. views.kept_field vs m v w at (λ v. v.posted.items) [] refl h i;
      }

  pub doubt_is : (slots slots' : BTreeMap (ℕ × ℕ) Slot) (s : ℕ) (e : Entry) (pending : BTreeMap ℕ Pending) (looked : Vec Seen)
      → owner p e.key ≡ m → Updates pair_cmp slots slots' (m, s) (Some Empty) → Updates nat_cmp v.pending pending e.key (Some (record { entry = e; slot = None })) → looked.items ≡ []
      → group_at p o slots' mail (slice_set vs m (record v { broken = true; looked = looked; pending = pending })) ≡ gives_up (group_at p o slots mail vs) m s e
  doubt_is slots slots' s e pending looked own slot_set pending_set cleared =
      let w : MemberView = record v { broken = true; looked = looked; pending = pending } in
      leads_same slots' true looked v.last v.cell pending v.present v.told v.dead v.blocks v.posted ∙ λ i. record (gives_up (group_at p o slots mail vs) m s e) {
        slot = λ b t. pair_put (λ o. unwrap_or o Empty) slots slots' m s (Some Empty) slot_set b t i;
        broken = λ h. views.put_field vs m v w at (λ v. v.broken) false true refl h i;
        looked = λ h. views.put_field vs m v w at (λ v. v.looked.items) [] [] cleared h i;
        last = λ k. views.kept_field vs m v w at (λ v. last_in v k) 0 refl (owner p k) i;
        cell = λ k. views.kept_field vs m v w at (λ v. get nat_cmp v.cell k) None refl (owner p k) i;
        pending = λ k. views.put_key vs m v w at (owner p) (λ v k. get nat_cmp v.pending k) None (Some (record { entry = e; slot = None })) e.key own (number_put (λ o. o) v.pending pending e.key (Some (record { entry = e; slot = None })) pending_set) k i;
        present = λ k n. views.kept_field vs m v w at (λ v. get pair_cmp v.present (k, n)) None refl (owner p k) i;
        told = λ k n. views.kept_field vs m v w at (λ v. has v.told.items k n) false refl (owner p k) i;
        dead = λ h k n. views.kept_field vs m v w at (λ v. has v.dead.items k n) false refl h i;
        blocks = λ h q. views.kept_field vs m v w at (λ v. get nat_cmp v.blocks q) None refl h i;
        posted = λ h. views.kept_field vs m v w at (λ v. v.posted.items) [] refl h i;
      }
