-- What the steps of cleaning leave of the group that is shown.
use Rattle.std.proofs.Common.{◌≡◌, ℕ, Bool, true, false, cond, ◌&&◌, ◌||◌, not, eqb, List, [], ◌++◌, Option, Some, None, unwrap_or, refl, sym, ap, ◌∙◌}
use Rattle.std.specs.Prelude.{slice_get, slice_set, option_map}
use Rattle.std.specs.Global.{Vec}
use Rattle.std.specs.Ordering.{nat_cmp}
use Rattle.std.specs.BTreeMap.{BTreeMap, get, Updates}
use Rattle.std.proofs.lemmas.Bool.{eq-eqb}
use Rattle.log_entry.specs.declared.entry.Entry.{Entry}
use Rattle.log_entry.specs.declared.entry.EntryName.{EntryName}
use Rattle.group_laws.specs.declared.types.Slot.{Slot}
use Rattle.group_laws.specs.declared.types.Seen.{Seen}
use Rattle.group_laws.specs.Places.{Place, owner}
use Rattle.group_laws.specs.Updates.{put2, has, without}
use Rattle.group_laws.specs.State.{Group}
use Rattle.group_laws.specs.State as laws
use Rattle.group_laws.specs.Steps.{dooms, retires, sends, receives}
use Rattle.group_board.specs.declared.names.Notices.{Notices}
use Rattle.group_machine.specs.declared.state.MemberView.{MemberView}
use Rattle.group_board.specs.Mailing.{notices_of}
use Rattle.group_machine.specs.Shows.{pair_cmp, of, no_notices, last_in, mailed_in, group_at}
use Rattle.group_machine.proofs.Views as views
use Rattle.group_machine.proofs.Pairs.{number_put, pair_put}
use Rattle.group_machine.proofs.NameLists.{has_append}

cond_and : {X : Type 0} (b c : Bool) (x y : X) → cond b (cond c x y) y ≡ cond (b && c) x y
cond_and true c x y = refl
cond_and false c x y = refl

added : (a b w : Bool) → cond a (w || b) w ≡ cond (a && b) true w
added true true true = refl
added true true false = refl
added true false true = refl
added true false false = refl
added false b w = refl

removed : (a b w : Bool) → cond a (w && not b) w ≡ cond (a && b) false w
removed true true true = refl
removed true true false = refl
removed true false true = refl
removed true false false = refl
removed false b w = refl

added_but : (a b c w : Bool) → cond a (w || (b && not c)) w ≡ cond (a && (not c && b)) true w
added_but true true true true = refl
added_but true true true false = refl
added_but true true false true = refl
added_but true true false false = refl
added_but true false true true = refl
added_but true false true false = refl
added_but true false false true = refl
added_but true false false false = refl
added_but false b c w = refl

added_own : (a b w : Bool) → (b ≡ true → a ≡ true) → cond a (w || b) w ≡ cond b true w
added_own true true true own = refl
added_own true true false own = refl
added_own true false true own = refl
added_own true false false own = refl
added_own false true w own = let a = own refl in cc a
added_own false false w own = refl

module _ (p : Place) (o : Option ℕ) (slots : BTreeMap (ℕ × ℕ) Slot) (vs : List MemberView) (m : ℕ) (v : MemberView) (at : slice_get vs m ≡ Some v) where
  -- a cleaner's step leaves what its view has of changes under way
  works_same : (mail : BTreeMap (ℕ × ℕ) Notices) (kept : Vec Entry) (looked : Vec Seen) (present : BTreeMap (ℕ × ℕ) ℕ) (told dead doomed leaving : Vec EntryName) (mailed : BTreeMap ℕ Notices)
      → let w : MemberView = record v { kept = kept; looked = looked; present = present; told = told; dead = dead; doomed = doomed; leaving = leaving; mailed = mailed } in
      let ws = slice_set vs m w in
      group_at p o slots mail ws ≡ record (group_at p o slots mail vs) {
        kept = λ h. of (λ v. v.kept.items) [] (slice_get ws h);
        looked = λ h. of (λ v. v.looked.items) [] (slice_get ws h);
        present = λ k n. of (λ v. get pair_cmp v.present (k, n)) None (slice_get ws (owner p k));
        told = λ k n. of (λ v. has v.told.items k n) false (slice_get ws (owner p k));
        dead = λ h k n. of (λ v. has v.dead.items k n) false (slice_get ws h);
        doomed = λ h k n. of (λ v. has v.doomed.items k n) false (slice_get ws h);
        leaving = λ h k n. of (λ v. has v.leaving.items k n) false (slice_get ws h);
        mailed = λ a b. of (λ v. mailed_in v b) no_notices (slice_get ws a);
      }
  works_same mail kept looked present told dead doomed leaving mailed =
      let w : MemberView = record v { kept = kept; looked = looked; present = present; told = told; dead = dead; doomed = doomed; leaving = leaving; mailed = mailed } in
      λ i. record (group_at p o slots mail (slice_set vs m w)) {
        flying = λ h. views.kept_field vs m v w at (λ v. v.flying.items) [] refl h i;
        taken = λ h a s. views.kept_field vs m v w at (λ v. get pair_cmp v.taken (a, s)) None refl h i;
        broken = λ h. views.kept_field vs m v w at (λ v. v.broken) false refl h i;
        holds = λ h. views.kept_field vs m v w at (λ v. v.holds) false refl h i;
        last = λ k. views.kept_field vs m v w at (λ v. last_in v k) 0 refl (owner p k) i;
        cell = λ k. views.kept_field vs m v w at (λ v. get nat_cmp v.cell k) None refl (owner p k) i;
        pending = λ k. views.kept_field vs m v w at (λ v. get nat_cmp v.pending k) None refl (owner p k) i;
        blocks = λ h q. views.kept_field vs m v w at (λ v. get nat_cmp v.blocks q) None refl h i;
        posted = λ h. views.kept_field vs m v w at (λ v. v.posted.items) [] refl h i;
        took = λ h. views.kept_field vs m v w at (λ v. v.took.items) [] refl h i;
      }

  -- a list of names of m's view, with more names or without some
  now : (f : MemberView → Vec EntryName) (k n : ℕ) → has (f v).items k n ≡ of (λ v. has (f v).items k n) false (slice_get vs m)
  now f k n = sym (ap (of (λ (v : MemberView). has (f v).items k n) false) at)

  more : (f : MemberView → Vec EntryName) (w : MemberView) (k n : ℕ) (b : Bool) → has (f w).items k n ≡ (has (f v).items k n || b) → (h : ℕ)
      → of (λ v. has (f v).items k n) false (slice_get (slice_set vs m w) h) ≡ cond (eqb h m) (of (λ v. has (f v).items k n) false (slice_get vs h) || b) (of (λ v. has (f v).items k n) false (slice_get vs h))
  more f w k n b e h = views.if_field vs m v w at (λ v. has (f v).items k n) false (λ h. of (λ (v : MemberView). has (f v).items k n) false (slice_get vs h) || b) (e ∙ ap (λ (x : Bool). x || b) (now f k n)) h

  less : (f : MemberView → Vec EntryName) (w : MemberView) (k n : ℕ) (b : Bool) → has (f w).items k n ≡ (has (f v).items k n && not b) → (h : ℕ)
      → of (λ v. has (f v).items k n) false (slice_get (slice_set vs m w) h) ≡ cond (eqb h m && b) false (of (λ v. has (f v).items k n) false (slice_get vs h))
  less f w k n b e h =
      views.if_field vs m v w at (λ v. has (f v).items k n) false (λ h. of (λ (v : MemberView). has (f v).items k n) false (slice_get vs h) && not b) (e ∙ ap (λ (x : Bool). x && not b) (now f k n)) h
      ∙ removed (eqb h m) b (of (λ (v : MemberView). has (f v).items k n) false (slice_get vs h))

  -- the standing names of m's view, without some
  present_less : (w : MemberView) (k n : ℕ) (b : Bool) → get pair_cmp w.present (k, n) ≡ cond b None (get pair_cmp v.present (k, n)) → (h : ℕ)
      → of (λ v. get pair_cmp v.present (k, n)) None (slice_get (slice_set vs m w) h) ≡ cond (eqb h m && b) None (of (λ v. get pair_cmp v.present (k, n)) None (slice_get vs h))
  present_less w k n b e h =
      views.if_field vs m v w at (λ v. get pair_cmp v.present (k, n)) None (λ h. cond b None (of (λ (v : MemberView). get pair_cmp v.present (k, n)) None (slice_get vs h))) (e ∙ ap (cond b None) (sym (ap (of (λ (v : MemberView). get pair_cmp v.present (k, n)) None) at))) h
      ∙ cond_and (eqb h m) b None (of (λ (v : MemberView). get pair_cmp v.present (k, n)) None (slice_get vs h))

  pub doom_is : (mail : BTreeMap (ℕ × ℕ) Notices) (ns : List EntryName) (doomed : Vec EntryName) (looked : Vec Seen) → doomed.items ≡ v.doomed.items ++ ns → looked.items ≡ []
      → group_at p o slots mail (slice_set vs m (record v { looked = looked; doomed = doomed })) ≡ dooms (group_at p o slots mail vs) m ns
  doom_is mail ns doomed looked all cleared =
      let w : MemberView = record v { looked = looked; doomed = doomed } in
      works_same mail v.kept looked v.present v.told v.dead doomed v.leaving v.mailed ∙ λ i. record (dooms (group_at p o slots mail vs) m ns) {
        kept = λ h. views.kept_field vs m v w at (λ v. v.kept.items) [] refl h i;
        looked = λ h. views.put_field vs m v w at (λ v. v.looked.items) [] [] cleared h i;
        present = λ k n. views.kept_field vs m v w at (λ v. get pair_cmp v.present (k, n)) None refl (owner p k) i;
        told = λ k n. views.kept_field vs m v w at (λ v. has v.told.items k n) false refl (owner p k) i;
        dead = λ h k n. views.kept_field vs m v w at (λ v. has v.dead.items k n) false refl h i;
        doomed = λ h k n. (more (λ v. v.doomed) w k n (has ns k n) (ap (λ (xs : List EntryName). has xs k n) all ∙ has_append v.doomed.items ns k n) h ∙ added (eqb h m) (has ns k n) (of (λ (v : MemberView). has v.doomed.items k n) false (slice_get vs h))) i;
        leaving = λ h k n. views.kept_field vs m v w at (λ v. has v.leaving.items k n) false refl h i;
        mailed = λ a b. views.kept_field vs m v w at (λ v. mailed_in v b) no_notices refl a i;
      }

  pub retire_is : (mail : BTreeMap (ℕ × ℕ) Notices) (ns away : List EntryName) (kept : Vec Entry) (looked : Vec Seen) (present : BTreeMap (ℕ × ℕ) ℕ) (told dead doomed leaving : Vec EntryName)
      → kept.items ≡ without ns v.kept.items
      → ((k n : ℕ) → get pair_cmp present (k, n) ≡ cond (has ns k n) None (get pair_cmp v.present (k, n)))
      → ((k n : ℕ) → has told.items k n ≡ (has v.told.items k n && not (has ns k n))) → ((k n : ℕ) → has dead.items k n ≡ (has v.dead.items k n && not (has ns k n))) → ((k n : ℕ) → has doomed.items k n ≡ (has v.doomed.items k n && not (has ns k n)))
      → leaving.items ≡ v.leaving.items ++ away → ((k n : ℕ) → has away k n ≡ (has ns k n && not (eqb (owner p k) m))) → looked.items ≡ []
      → group_at p o slots mail (slice_set vs m (record v { kept = kept; looked = looked; present = present; told = told; dead = dead; doomed = doomed; leaving = leaving })) ≡ retires (group_at p o slots mail vs) m ns
  retire_is mail ns away kept looked present told dead doomed leaving left present_set told_set dead_set doomed_set leaving_set foreign cleared =
      let w : MemberView = record v { kept = kept; looked = looked; present = present; told = told; dead = dead; doomed = doomed; leaving = leaving } in
      works_same mail kept looked present told dead doomed leaving v.mailed ∙ λ i. record (retires (group_at p o slots mail vs) m ns) {
        kept = λ h. views.changed_field vs m v w at (λ v. v.kept.items) [] (without ns) left h i;
        looked = λ h. views.put_field vs m v w at (λ v. v.looked.items) [] [] cleared h i;
        present = λ k n. present_less w k n (has ns k n) (present_set k n) (owner p k) i;
        told = λ k n. less (λ v. v.told) w k n (has ns k n) (told_set k n) (owner p k) i;
        dead = λ h k n. less (λ v. v.dead) w k n (has ns k n) (dead_set k n) h i;
        doomed = λ h k n. less (λ v. v.doomed) w k n (has ns k n) (doomed_set k n) h i;
        leaving = λ h k n. (more (λ v. v.leaving) w k n (has ns k n && not (eqb (owner p k) m)) (ap (λ (xs : List EntryName). has xs k n) leaving_set ∙ has_append v.leaving.items away k n ∙ ap (λ (b : Bool). has v.leaving.items k n || b) (foreign k n)) h
            ∙ added_but (eqb h m) (has ns k n) (eqb (owner p k) m) (of (λ (v : MemberView). has v.leaving.items k n) false (slice_get vs h))) i;
        mailed = λ a b. views.kept_field vs m v w at (λ v. mailed_in v b) no_notices refl a i;
      }

  pub send_is : (mail mail' : BTreeMap (ℕ × ℕ) Notices) (to : ℕ) (x sent : Notices) (n : laws.Notices) (looked : Vec Seen) (told leaving : Vec EntryName) (mailed : BTreeMap ℕ Notices)
      → notices_of sent ≡ n → notices_of x ≡ n → Updates pair_cmp mail mail' (m, to) (Some sent) → Updates nat_cmp v.mailed mailed to (Some x)
      → told.items ≡ v.told.items ++ n.dead → ((k j : ℕ) → has n.dead k j ≡ true → owner p k ≡ m)
      → ((k j : ℕ) → has leaving.items k j ≡ (has v.leaving.items k j && not (has n.gone k j))) → looked.items ≡ []
      → group_at p o slots mail' (slice_set vs m (record v { looked = looked; told = told; leaving = leaving; mailed = mailed })) ≡ sends (group_at p o slots mail vs) m to n
  send_is mail mail' to x sent n looked told leaving mailed sent_is x_is mail_set mailed_set told_more own leaving_set cleared =
      let w : MemberView = record v { looked = looked; told = told; leaving = leaving; mailed = mailed } in
      let read : Option Notices → laws.Notices = λ o. unwrap_or (option_map notices_of o) no_notices in
      works_same mail' v.kept looked v.present told v.dead v.doomed leaving mailed ∙ λ i. record (sends (group_at p o slots mail vs) m to n) {
        mail = λ a b. (pair_put (λ o. option_map notices_of o) mail mail' m to (Some sent) mail_set a b ∙ ap (λ (y : laws.Notices). put2 (λ a b. option_map notices_of (get pair_cmp mail (a, b))) m to (Some y) a b) sent_is) i;
        kept = λ h. views.kept_field vs m v w at (λ v. v.kept.items) [] refl h i;
        looked = λ h. views.put_field vs m v w at (λ v. v.looked.items) [] [] cleared h i;
        present = λ k j. views.kept_field vs m v w at (λ v. get pair_cmp v.present (k, j)) None refl (owner p k) i;
        told = λ k j. (more (λ v. v.told) w k j (has n.dead k j) (ap (λ (xs : List EntryName). has xs k j) told_more ∙ has_append v.told.items n.dead k j) (owner p k)
            ∙ added_own (eqb (owner p k) m) (has n.dead k j) (of (λ (v : MemberView). has v.told.items k j) false (slice_get vs (owner p k))) (λ t. eq-eqb (owner p k) m (own k j t))) i;
        dead = λ h k j. views.kept_field vs m v w at (λ v. has v.dead.items k j) false refl h i;
        doomed = λ h k j. views.kept_field vs m v w at (λ v. has v.doomed.items k j) false refl h i;
        leaving = λ h k j. less (λ v. v.leaving) w k j (has n.gone k j) (leaving_set k j) h i;
        mailed = λ a b. (views.if_field vs m v w at (λ v. mailed_in v b) no_notices (λ a. cond (eqb b to) n (of (λ (v : MemberView). mailed_in v b) no_notices (slice_get vs a)))
            (number_put read v.mailed mailed to (Some x) mailed_set b ∙ (λ j. cond (eqb b to) (x_is j) (sym (ap (of (λ (v : MemberView). mailed_in v b) no_notices) at) j))) a
            ∙ cond_and (eqb a m) (eqb b to) n (of (λ (v : MemberView). mailed_in v b) no_notices (slice_get vs a))) i;
      }

  pub receive_is : (mail mail' : BTreeMap (ℕ × ℕ) Notices) (from : ℕ) (n : laws.Notices) (looked : Vec Seen) (present : BTreeMap (ℕ × ℕ) ℕ) (told dead : Vec EntryName)
      → Updates pair_cmp mail mail' (from, m) None → dead.items ≡ v.dead.items ++ n.dead
      → ((k j : ℕ) → get pair_cmp present (k, j) ≡ cond (has n.gone k j) None (get pair_cmp v.present (k, j))) → ((k j : ℕ) → has told.items k j ≡ (has v.told.items k j && not (has n.gone k j))) → looked.items ≡ []
      → group_at p o slots mail' (slice_set vs m (record v { looked = looked; present = present; told = told; dead = dead })) ≡ receives (group_at p o slots mail vs) m from n
  receive_is mail mail' from n looked present told dead mail_set dead_more present_set told_set cleared =
      let w : MemberView = record v { looked = looked; present = present; told = told; dead = dead } in
      works_same mail' v.kept looked present told dead v.doomed v.leaving v.mailed ∙ λ i. record (receives (group_at p o slots mail vs) m from n) {
        mail = λ a b. pair_put (λ o. option_map notices_of o) mail mail' from m None mail_set a b i;
        kept = λ h. views.kept_field vs m v w at (λ v. v.kept.items) [] refl h i;
        looked = λ h. views.put_field vs m v w at (λ v. v.looked.items) [] [] cleared h i;
        present = λ k j. present_less w k j (has n.gone k j) (present_set k j) (owner p k) i;
        told = λ k j. less (λ v. v.told) w k j (has n.gone k j) (told_set k j) (owner p k) i;
        dead = λ h k j. (more (λ v. v.dead) w k j (has n.dead k j) (ap (λ (xs : List EntryName). has xs k j) dead_more ∙ has_append v.dead.items n.dead k j) h ∙ added (eqb h m) (has n.dead k j) (of (λ (v : MemberView). has v.dead.items k j) false (slice_get vs h))) i;
        doomed = λ h k j. views.kept_field vs m v w at (λ v. has v.doomed.items k j) false refl h i;
        leaving = λ h k j. views.kept_field vs m v w at (λ v. has v.leaving.items k j) false refl h i;
        mailed = λ a b. views.kept_field vs m v w at (λ v. mailed_in v b) no_notices refl a i;
      }
