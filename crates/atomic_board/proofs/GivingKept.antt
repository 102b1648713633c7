-- The steps that give changes back and take them back keep the rule.
use Rattle.std.proofs.Common.{◌≡◌, ◌≢◌, ℕ, zero, suc, ◌+◌, ◌*◌, ◌%◌, ◌^◌, ◌<◌, ◌≤◌, Bool, true, false, eqb, cond, List, [], ◌∷◌, length, get_or, set, sym, refl, ap, ◌∙◌, subst, inl, inr, ◌⊎◌, ⊎_elim, arith, length-set, Option, Some, None, MatchOption}
use mathlib.Core.Option.{some, none}
use lib.ListN.{get_elem?}
use Rattle.atomic_table.proofs.Lists.{set_else}
use Rattle.log_entry.specs.declared.entry.Entry.{Entry}
use Rattle.log_entry.specs.declared.entry.EntryName.{EntryName}
use Rattle.store_image.specs.Facts.{In}
use Rattle.group_laws.specs.declared.types.Slot.{Slot}
use Rattle.group_laws.specs.declared.types.Slot.TheVariants.{Empty, Posted, Taken, Done, Failed}
use Rattle.group_laws.specs.declared.types.SlotWord.TheVariants as words
use Rattle.group_laws.specs.declared.types.Seen.TheVariants as loads
use Rattle.group_laws.specs.Places.{owner}
use Rattle.group_laws.specs.Updates.{put2, change, has}
use Rattle.group_laws.specs.State.{Group, Notices, word_shown}
use Rattle.group_laws.specs.Steps.{CanFinish, CanGiveUp, CanWithdraw, marks, fails, finishes, gives_up, withdraws, retires}
use Rattle.group_laws.specs.Tidying.{Tidied}
use Rattle.group_laws.specs.Runs as runs
use Rattle.atomic_board.proofs.Reaches.{more, step_reaches}
use Rattle.group_laws.specs.MemberViews.{View}
use Rattle.group_board.specs.Views.{after_finish, after_give_up, after_retire}
use Rattle.group_board.specs.Conditions.{MayMark, MayFail, MayWithdraw, MayRetire}
use Rattle.group_board.specs.Journals.{name_of}
use Rattle.group_board.proofs.Clients.{posted_by, covers_more, covers_less}
use Rattle.atomic_board.specs.declared.seat_data.Origin.{Origin}
use Rattle.atomic_board.specs.declared.seat_data.Holding.{Holding}
use Rattle.atomic_board.specs.declared.seat_data.Deed.{Deed}
use Rattle.atomic_board.specs.declared.seat_data.Deed.TheVariants.{Mark, Fail, Finish, GiveUp, Withdraw, Retire}
use Rattle.atomic_board.specs.declared.seat_data.SeatData.TheVariants.{Own}
use Rattle.atomic_board.specs.TableWords.{own_word, pool_word, pool_place}
use Rattle.atomic_board.specs.Deeds.{group_of, alike, tidied_in, CoversIn, place_of, size, names_of, names_by, after_deed, view_by, stepped_by}
use Rattle.atomic_board.specs.ShownState.{TableState, lies, deeds_at, views_of, IsReached, ShowsLawful}
use Rattle.atomic_board.proofs.ViewSteps.{moved, mark_shows, fail_shows, withdraw_shows, give_up_shows}
use Rattle.atomic_board.proofs.SettleSteps.{finish_shows, retire_shows}
use Rattle.atomic_board.proofs.TidyViews.{tidied_shows, change_twice, covers_by}
use Rattle.atomic_board.proofs.SeatPlaces.{pose_here}
use Rattle.atomic_board.proofs.RuleKept.{known, calm, turn, own_steps, home_set, pool_apart, mail_apart}

module _ (b : Origin) (s : TableState) (o : ShowsLawful b s) (m : ℕ) (q : Holding) (ds : List Deed) (me : get_elem? s.views (suc m) ≡ some (Own m q b ds)) (near : m < size b) where
  abbrev w : Group
  w = group_of (place_of b) o.holder o.slot o.mail (views_of b s.views)

  abbrev V : ℕ → View
  V = views_of b s.views

  same : views_of b s.views m ≡ view_by b m ds
  same = known b s o m q ds me near

  pub mark_keeps : (a t : ℕ) (e : Entry) → MayMark (place_of b) m (view_by b m ds) a t e
      → ShowsLawful b (record { words = set s.words (pool_word (size b) a t) (8 + m); homes = set s.homes (pool_place a t) (some (lies e (Some m))); views = set s.views (suc m) (Own m q b (Mark a t ∷ ds)) })
  mark_keeps a t e may = turn b s o m q ds me near (Mark a t) a t (8 + m) (some (some (lies e (Some m)))) (set s.homes (pool_place a t) (some (lies e (Some m)))) (Done e m) may.target may.slot
      (length-set s.homes (pool_place a t) (some (lies e (Some m)))) (home_set b s o m q ds me near a t (some (lies e (Some m))) may.target may.slot) (λ k ne. set_else s.homes (pool_place a t) k (some (lies e (Some m))) ne)
      (refl, (refl, let few = o.fits.few in omega (arith, few, near))) (λ n. refl)
      (subst (IsReached b _) (sym (mark_shows (place_of b) o.holder o.slot o.mail (views_of b s.views) m a t e))
      (step_reaches b (deeds_at s.views) o.holder o.slot o.mail m (Mark a t) (marks w m a t e) o.reached
      (e, record { member = near; slot = (may.target, may.slot); taken = ap (λ (u : View). u.taken a t) same ∙ may.taken; kept = subst (λ (u : View). In e u.kept) (sym same) may.kept }, refl)))

  pub fail_keeps : (a t : ℕ) (e : Entry) → MayFail (place_of b) m (view_by b m ds) a t e
      → ShowsLawful b (record { words = set s.words (pool_word (size b) a t) 4; homes = set s.homes (pool_place a t) (some (lies e None)); views = set s.views (suc m) (Own m q b (Fail a t ∷ ds)) })
  fail_keeps a t e may = turn b s o m q ds me near (Fail a t) a t 4 (some (some (lies e None))) (set s.homes (pool_place a t) (some (lies e None))) (Failed e) may.target may.slot
      (length-set s.homes (pool_place a t) (some (lies e None))) (home_set b s o m q ds me near a t (some (lies e None)) may.target may.slot) (λ k ne. set_else s.homes (pool_place a t) k (some (lies e None)) ne)
      (refl, refl) (λ n. refl)
      (subst (IsReached b _) (sym (fail_shows (place_of b) o.holder o.slot o.mail (views_of b s.views) m a t e))
      (step_reaches b (deeds_at s.views) o.holder o.slot o.mail m (Fail a t) (fails w m a t e) o.reached
      (e, record { member = near; slot = (may.target, may.slot); taken = ap (λ (u : View). u.taken a t) same ∙ may.taken; flying = subst (λ (u : View). In e u.flying) (sym same) may.flying }, refl)))

  -- an own slot becomes Empty, and its member has it out
  empties : (d : Deed) (t : ℕ) → t < 8 → q.settled ≡ true → ((n : ℕ) → stepped_by d n ≡ n) → IsReached b (more (deeds_at s.views) m d) (moved (place_of b) o.holder (put2 o.slot m t Empty) o.mail (views_of b s.views) m (after_deed (names_by (names_of b) (d ∷ ds)) (place_of b) m d))
      → ShowsLawful b (record { words = set s.words (pool_word (size b) m t) 0; homes = set s.homes (pool_place m t) none; views = set s.views (suc m) (Own m q b (d ∷ ds)) })
  empties d t less settled uncounted law = turn b s o m q ds me near d m t 0 (some none) (set s.homes (pool_place m t) none) Empty near less
      (length-set s.homes (pool_place m t) none) (home_set b s o m q ds me near m t none near less) (λ k ne. set_else s.homes (pool_place m t) k none ne)
      (refl, λ no. absurd (let is = ap (λ (x : Holding). x.settled) (pose_here s.views m q b ds me) ∙ settled in cc (is, no))) uncounted law

  pub withdraw_can : (t : ℕ) → MayWithdraw (place_of b) m (view_by b m ds) t → (e : Entry) × CanWithdraw w m t e
  withdraw_can t may =
      let mine = ap (λ (u : View). u.holds) same ∙ may.holds in
      let seen = subst (λ (u : View). In (loads.Slot m t (words.Posted may.seen.0)) u.looked) (sym same) may.seen.1 in
      let is = posted_by (o.slot m t) may.seen.0 (o.reached.lawful.looks.posted_seen m m t may.seen.0 ((o.reached.lawful.looks.holds_is m).0 mine) seen) in (
        is.0,
        record {
          slot = (near, may.slot);
          own = (o.reached.lawful.slots.posted_named m t is.0 is.1).1;
          holds = mine;
          seen = subst (λ (c : ℕ). In (loads.Slot m t (words.Posted c)) (views_of b s.views m).looked) (sym is.2) seen;
          posted = is.1;
        },
      )

  pub withdraw_keeps : (t : ℕ) (e : Entry) → q.settled ≡ true → CanWithdraw w m t e
      → ShowsLawful b (record { words = set s.words (pool_word (size b) m t) 0; homes = set s.homes (pool_place m t) none; views = set s.views (suc m) (Own m q b (Withdraw t e ∷ ds)) })
  withdraw_keeps t e settled can = empties (Withdraw t e) t can.slot.1 settled (λ n. refl)
      (subst (IsReached b _) (sym (withdraw_shows (place_of b) o.holder o.slot o.mail (views_of b s.views) m t e can.own))
      (step_reaches b (deeds_at s.views) o.holder o.slot o.mail m (Withdraw t e) (withdraws w m t e) o.reached (e, can, refl)))

  -- a step, and then the rules on the keys of m
  pub tidied_law : (holder : Option ℕ) (slot : ℕ → ℕ → Slot) (mail : ℕ → ℕ → Option Notices) (f : View → View) (u : Group) (ns : List EntryName) → CoversIn ns (f (views_of b s.views m))
      → moved (place_of b) holder slot mail (views_of b s.views) m f ≡ u → (v : Group) × (v ≡ moved (place_of b) holder slot mail (views_of b s.views) m (λ x. tidied_in ns (place_of b) m (f x))) × Tidied u m v
  tidied_law holder slot mail f u ns covers is =
      let p = place_of b in
      let at : change (views_of b s.views) m f m ≡ f (views_of b s.views m) = ap (λ c. cond c (f (views_of b s.views m)) (views_of b s.views m)) (Rattle.std.proofs.Common.eq-eqb m m refl) in
      let t = tidied_shows ns p holder slot mail (change (views_of b s.views) m f) m (subst (CoversIn ns) (sym at) covers) in (
        group_of p holder slot mail (change (change (views_of b s.views) m f) m (tidied_in ns p m)),
        (λ i. group_of p holder slot mail (λ k. sym (change_twice (tidied_in ns p m) f (views_of b s.views) m k) i)),
        subst (λ (x : Group). Tidied x m (group_of p holder slot mail (change (change (views_of b s.views) m f) m (tidied_in ns p m)))) is t,
      )

  -- the names cover what stands, by the member's own view
  pub covers : CoversIn (names_by (names_of b) ds) (views_of b s.views m)
  covers = subst (CoversIn (names_by (names_of b) ds)) (sym same) (covers_by b o.fits.begun m ds)

  pub finish_can : (t h : ℕ) → In (loads.Slot m t (words.Done h)) (view_by b m ds).looked → t < 8 → (e : Entry) × CanFinish w m t e h
  finish_can t h saw less =
      let seen = subst (λ (u : View). In (loads.Slot m t (words.Done h)) u.looked) (sym same) saw in
      let is = done_by (o.slot m t) h (o.reached.lawful.looks.done_seen m t h seen) in
      (is.0, record { slot = (near, less); own = (o.reached.lawful.slots.done_named m t h is.0 is.1).1; seen = seen; done = is.1 }) where
        done_by : (x : Slot) (k : ℕ) → word_shown x ≡ words.Done k → (e : Entry) × (x ≡ Done e k)
        done_by Empty k e = absurd (cc e)
        done_by (Posted f) k e = absurd (cc e)
        done_by Taken k e = absurd (cc e)
        done_by (Done f g) k e = let z : g ≡ k = cc e in (f, ap (Done f) z)
        done_by (Failed f) k e = absurd (cc e)

  pub give_up_can : (t : ℕ) → In (loads.Slot m t words.Failed) (view_by b m ds).looked → t < 8 → (e : Entry) × CanGiveUp w m t e
  give_up_can t saw less =
      let seen = subst (λ (u : View). In (loads.Slot m t words.Failed) u.looked) (sym same) saw in
      let is = failed_by (o.slot m t) (o.reached.lawful.looks.failed_seen m t seen) in
      (is.0, record { slot = (near, less); own = (o.reached.lawful.slots.failed_named m t is.0 is.1).1; seen = seen; failed = is.1 }) where
        failed_by : (x : Slot) → word_shown x ≡ words.Failed → (e : Entry) × (x ≡ Failed e)
        failed_by Empty e = absurd (cc e)
        failed_by (Posted f) e = absurd (cc e)
        failed_by Taken e = absurd (cc e)
        failed_by (Done f g) e = absurd (cc e)
        failed_by (Failed f) e = (f, refl)

  pub finish_keeps : (t h : ℕ) (e : Entry) → q.settled ≡ true → CanFinish w m t e h
      → ShowsLawful b (record { words = set s.words (pool_word (size b) m t) 0; homes = set s.homes (pool_place m t) none; views = set s.views (suc m) (Own m q b (Finish t e h ∷ ds)) })
  finish_keeps t h e settled can =
      let x = tidied_law o.holder (put2 o.slot m t Empty) o.mail (after_finish e h) (finishes w m t e h) (name_of e ∷ names_by (names_of b) ds)
      (covers_more (alike (place_of b) (views_of b s.views m)) (names_by (names_of b) ds) covers e h) (finish_shows (place_of b) o.holder o.slot o.mail (views_of b s.views) m t e h can.own) in
      empties (Finish t e h) t can.slot.1 settled (λ n. refl) (subst (IsReached b _) x.1 (step_reaches b (deeds_at s.views) o.holder o.slot o.mail m (Finish t e h) x.0 o.reached (inl (e, h, can, x.2))))

  pub give_up_keeps : (t : ℕ) (e : Entry) → q.settled ≡ true → CanGiveUp w m t e
      → ShowsLawful b (record { words = set s.words (pool_word (size b) m t) 0; homes = set s.homes (pool_place m t) none; views = set s.views (suc m) (Own m q b (GiveUp t e ∷ ds)) })
  give_up_keeps t e settled can =
      let x = tidied_law o.holder (put2 o.slot m t Empty) o.mail (after_give_up e) (gives_up w m t e) (names_by (names_of b) ds) covers (give_up_shows (place_of b) o.holder o.slot o.mail (views_of b s.views) m t e can.own) in
      empties (GiveUp t e) t can.slot.1 settled (λ n. refl) (subst (IsReached b _) x.1 (step_reaches b (deeds_at s.views) o.holder o.slot o.mail m (GiveUp t e) x.0 o.reached (inr (e, can, x.2))))

  pub retire_keeps : (x : ℕ) (ns : List EntryName) (stamp : ℕ) → x ≡ (get_or s.words (own_word m) 0 + 1) % 2 ^ 64 → MayRetire (place_of b) m (view_by b m ds) ns → ShowsLawful b (record { words = set s.words (own_word m) x; homes = s.homes; views = set s.views (suc m) (Own m q b (Retire ns stamp ∷ ds)) })
  retire_keeps x ns stamp up may =
      let y = tidied_law o.holder o.slot o.mail (after_retire (place_of b) m ns) (retires w m ns) (names_by (names_of b) ds)
      (covers_less (alike (place_of b) (views_of b s.views m)) (names_by (names_of b) ds) covers (λ k n. Rattle.std.proofs.Common.◌&&◌ (eqb (owner (place_of b) k) m) (has ns k n))) (retire_shows (place_of b) o.holder o.slot o.mail (views_of b s.views) m ns) in
      calm b s o m q ds me near (Retire ns stamp) (own_word m) x o.holder (λ a u. pool_apart b s o m q ds me near (own_word m) x a u (omega arith)) (λ a u. mail_apart b s o m q ds me near (own_word m) x a u (omega arith)) (Rattle.std.proofs.Common.get_or-set_other s.words (own_word m) 0 x 0 (λ e. omega arith) ∙ o.fits.lock) o.fits.member (own_steps b s o m q ds me near (Retire ns stamp) x (λ n. refl) up)
      (subst (IsReached b _) y.1 (step_reaches b (deeds_at s.views) o.holder o.slot o.mail m (Retire ns stamp) y.0 o.reached (record { member = near; doomed = λ k i h. ap (λ (u : View). u.doomed k i) same ∙ may.doomed k i h }, y.2)))
