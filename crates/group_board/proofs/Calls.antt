-- What each call of a board is: a step of the member that makes it, after which the plain data agree with the journal again.
use Rattle.std.proofs.Common.{◌≡◌, ℕ, ◌+◌, ◌*◌, ◌<◌, ◌≤◌, true, eqb, ◌&&◌, List, length, set, Option, Some, None, MatchOption, inl, inr, refl, sym, ap, ◌∙◌, subst}
use mathlib.Core.Logic.{∥∥₁_map}
use Rattle.log_entry.specs.declared.entry.Entry.{Entry}
use Rattle.log_entry.specs.declared.entry.EntryName.{EntryName}
use Rattle.log_entry.specs.Spelling.{words_of}
use Rattle.store_image.specs.Facts.{In}
use Rattle.group_laws.specs.declared.types.Slot.{Slot}
use Rattle.group_laws.specs.declared.types.Slot.TheVariants as slots
use Rattle.group_laws.specs.declared.types.Seen.{Seen}
use Rattle.group_laws.specs.declared.types.Seen.TheVariants as loads
use Rattle.group_laws.specs.declared.types.SlotWord.TheVariants as words
use Rattle.group_laws.specs.Places.{owner}
use Rattle.group_laws.specs.Updates.{has}
use Rattle.group_laws.specs.State.{Group, word_shown}
use Rattle.group_laws.specs.Steps.{posts, locks, finds, takes, unlocks, commits, marks, fails, finishes, gives_up, withdraws, dooms, retires, sends, receives, CanPost}
use Rattle.group_laws.specs.Tidying.{Tidied}
use Rattle.group_laws.specs.Runs.{Kind, IsStep}
use Rattle.group_laws.specs.Runs as runs
use Rattle.group_board.specs.declared.change.Change.{Change}
use Rattle.group_board.specs.declared.names.Notices.{Notices}
use Rattle.group_board.specs.Mailing.{notices_of}
use Rattle.group_board.specs.declared.board_journal.Act.{Act}
use Rattle.group_board.specs.declared.board_journal.Act.TheVariants.{Post, Lock, Found, Take, Unlock, Commit, Mark, Fail, Finish, GiveUp, Withdraw, Doom, Retire, Send, Receive}
use Rattle.group_board.specs.declared.board_journal.BoardJournal.{BoardJournal}
use Rattle.group_board.specs.Tidies.{Covers, tidied}
use Rattle.group_board.specs.Journals.{note_of, noted, finish_act, names, state}
use Rattle.group_board.specs.Kept.{IsKept}
use Rattle.group_laws.specs.MemberViews.{View, view_of}
use Rattle.group_board.specs.Views.{after_post, after_lock, after_find, after_take, after_unlock, after_commit, after_mark, after_fail, after_finish, after_give_up, after_withdraw, after_doom, after_retire, TidiedIn}
use Rattle.group_board.specs.Conditions.{MayPost, MayLock, MayLook, MayTake, MayUnlock, MayCommit, MayMark, MayFail, MayFinish, MayWithdraw, MayDoom, MayRetire}
use Rattle.group_board.specs.Told.{Leads, stood_as}
use Rattle.group_laws.proofs.Clients.{step_keeps}
use Rattle.group_board.proofs.Tidies.{tidied_is}
use Rattle.group_board.proofs.Journals.{state_is, names_are}
use Rattle.group_board.proofs.Views as views
use Rattle.group_board.proofs.Views.{own_is}
use Rattle.group_board.proofs.Keeping.{kept_on, slot_put, mail_put, covers_same, covers_more, covers_less}

module _ (j i : BoardJournal) (m : ℕ) where
  abbrev w : Group
  w = state j

  -- the journal has this one step more
  abbrev Did : Act → Type 0
  Did a = i ≡ noted (note_of m a) j

  pub can_post : (s : ℕ) (c : Change) (value : List ℕ) → w.slot m s ≡ slots.Empty → MayPost w.place m (view_of w m) s c value → CanPost w m s c.entry value
  can_post s c value empty may = record {
    slot = (may.member, may.slot);
    empty = empty;
    spelled = may.spelled;
    own = may.own;
    idle = sym (own_is w.place m c.entry.key (w.pending c.entry.key) None may.own) ∙ may.idle;
    whole = may.whole;
    next = may.next ∙ ap (λ x. x + 1) (own_is w.place m c.entry.key (w.last c.entry.key) 0 may.own);
    live = λ t z. may.live t (own_is w.place m c.entry.key (w.cell c.entry.key) None may.own ∙ z);
    block = may.block;
  }

  -- a step keeps the invariant
  leads : (kind : Kind) → (state i).place ≡ w.place → IsStep w m kind (state i) → Leads j m kind i
  leads kind place step = (place, step, λ L. step_keeps w m kind (state i) L step)

  pub post_step : (s : ℕ) (c : Change) (value : List ℕ) (at : ℕ) → Did (Post s c.entry value at) → w.slot m s ≡ slots.Empty → MayPost w.place m (view_of w m) s c value → Leads j m (runs.Kind.Post s c.entry value) i
  post_step s c value at e empty may = let is = state_is i j m (Post s c.entry value at) e in leads (runs.Kind.Post s c.entry value) (ap (λ x. x.place) is) (can_post s c value empty may, is)

  pub post_view : (s : ℕ) (c : Change) (value : List ℕ) (at : ℕ) → Did (Post s c.entry value at) → owner w.place c.entry.key ≡ m → view_of (state i) m ≡ after_post s c.entry value (view_of w m)
  post_view s c value at e own = ap (λ x. view_of x m) (state_is i j m (Post s c.entry value at) e) ∙ views.view_posts w m s c.entry value own

  pub lock_step : Did Lock → w.holder ≡ None → MayLock w.place m (view_of w m) → Leads j m runs.Kind.Lock i
  lock_step e free may = let is = state_is i j m Lock e in leads runs.Kind.Lock (ap (λ x. x.place) is) (record { member = may.member; not_held = may.not_held; gave_back = may.gave_back }, inl (free, is))

  pub lock_view : Did Lock → view_of (state i) m ≡ after_lock (view_of w m)
  lock_view e = ap (λ x. view_of x m) (state_is i j m Lock e) ∙ views.view_locks w m

  pub busy_step : (h : ℕ) → Did (Found (loads.Holder h)) → w.holder ≡ Some h → MayLock w.place m (view_of w m) → Leads j m runs.Kind.Lock i
  busy_step h e held may = let is = state_is i j m (Found (loads.Holder h)) e in leads runs.Kind.Lock (ap (λ x. x.place) is) (record { member = may.member; not_held = may.not_held; gave_back = may.gave_back }, inr (h, held, is))

  pub find_view : (x : Seen) → Did (Found x) → view_of (state i) m ≡ after_find x (view_of w m)
  find_view x e = ap (λ x. view_of x m) (state_is i j m (Found x) e) ∙ views.view_finds w m x

  pub look_step : (a s : ℕ) → Did (Found (loads.Slot a s (word_shown (w.slot a s)))) → MayLook w.place m a s → Leads j m (runs.Kind.Look a s) i
  look_step a s e may = let is = state_is i j m (Found (loads.Slot a s (word_shown (w.slot a s)))) e in leads (runs.Kind.Look a s) (ap (λ x. x.place) is) (may.member, (may.target, may.slot), is)

  pub take_step : (a s : ℕ) (x : Entry) → Did (Take a s x) → w.slot a s ≡ slots.Posted x → In (loads.Slot a s (words.Posted (length (words_of x)))) (w.looked m) → MayTake w.place m (view_of w m) a s → Leads j m (runs.Kind.Take a s) i
  take_step a s x e there seen may = let is = state_is i j m (Take a s x) e in
      leads (runs.Kind.Take a s) (ap (λ x. x.place) is) (x, record { member = may.member; slot = (may.target, may.slot); holds = may.holds; seen = seen; whole = may.whole; entry = there }, is)

  pub take_view : (a s : ℕ) (x : Entry) → Did (Take a s x) → view_of (state i) m ≡ after_take a s x (view_of w m)
  take_view a s x e = ap (λ x. view_of x m) (state_is i j m (Take a s x) e) ∙ views.view_takes w m a s x

  pub unlock_step : Did Unlock → MayUnlock w.place m (view_of w m) → Leads j m runs.Kind.Unlock i
  unlock_step e may = let is = state_is i j m Unlock e in leads runs.Kind.Unlock (ap (λ x. x.place) is) (record { member = may.member; holds = may.holds }, is)

  pub unlock_view : Did Unlock → view_of (state i) m ≡ after_unlock (view_of w m)
  unlock_view e = ap (λ x. view_of x m) (state_is i j m Unlock e) ∙ views.view_unlocks w m

  pub commit_step : (at : ℕ) → Did (Commit at) → MayCommit w.place m (view_of w m) → Leads j m runs.Kind.Commit i
  commit_step at e may = let is = state_is i j m (Commit at) e in leads runs.Kind.Commit (ap (λ x. x.place) is) (record { member = may.member; whole = may.whole }, is)

  pub commit_view : (at : ℕ) → Did (Commit at) → view_of (state i) m ≡ after_commit (view_of w m)
  commit_view at e = ap (λ x. view_of x m) (state_is i j m (Commit at) e) ∙ views.view_commits w m

  pub mark_step : (a s : ℕ) (x : Entry) → Did (Mark a s x) → MayMark w.place m (view_of w m) a s x → Leads j m (runs.Kind.Mark a s) i
  mark_step a s x e may = let is = state_is i j m (Mark a s x) e in
      leads (runs.Kind.Mark a s) (ap (λ x. x.place) is) (x, record { member = may.member; slot = (may.target, may.slot); taken = may.taken; kept = may.kept }, is)

  pub mark_view : (a s : ℕ) (x : Entry) → Did (Mark a s x) → view_of (state i) m ≡ after_mark a s (view_of w m)
  mark_view a s x e = ap (λ x. view_of x m) (state_is i j m (Mark a s x) e) ∙ views.view_marks w m a s x

  pub fail_step : (a s : ℕ) (x : Entry) → Did (Fail a s x) → MayFail w.place m (view_of w m) a s x → Leads j m (runs.Kind.Fail a s) i
  fail_step a s x e may = let is = state_is i j m (Fail a s x) e in
      leads (runs.Kind.Fail a s) (ap (λ x. x.place) is) (x, record { member = may.member; slot = (may.target, may.slot); taken = may.taken; flying = may.flying }, is)

  pub fail_view : (a s : ℕ) (x : Entry) → Did (Fail a s x) → view_of (state i) m ≡ after_fail a s (view_of w m)
  fail_view a s x e = ap (λ x. view_of x m) (state_is i j m (Fail a s x) e) ∙ views.view_fails w m a s x

  pub withdraw_step : (s : ℕ) (x : Entry) → Did (Withdraw s x) → w.slot m s ≡ slots.Posted x → owner w.place x.key ≡ m → In (loads.Slot m s (words.Posted (length (words_of x)))) (w.looked m) → MayWithdraw w.place m (view_of w m) s → Leads j m (runs.Kind.Withdraw s) i
  withdraw_step s x e there own seen may = let is = state_is i j m (Withdraw s x) e in
      leads (runs.Kind.Withdraw s) (ap (λ x. x.place) is) (x, record { slot = (may.member, may.slot); own = own; holds = may.holds; seen = seen; posted = there }, is)

  pub withdraw_view : (s : ℕ) (x : Entry) → Did (Withdraw s x) → owner w.place x.key ≡ m → view_of (state i) m ≡ after_withdraw x (view_of w m)
  withdraw_view s x e own = ap (λ x. view_of x m) (state_is i j m (Withdraw s x) e) ∙ views.view_withdraws w m s x own

  pub doom_step : (ns : List EntryName) (at : ℕ) → Did (Doom ns at) → MayDoom w.place m (view_of w m) ns → Leads j m (runs.Kind.Doom ns) i
  doom_step ns at e may = let is = state_is i j m (Doom ns at) e in leads (runs.Kind.Doom ns) (ap (λ x. x.place) is) (record { member = may.member; dead = may.dead }, is)

  pub doom_view : (ns : List EntryName) (at : ℕ) → Did (Doom ns at) → view_of (state i) m ≡ after_doom ns (view_of w m)
  doom_view ns at e = ap (λ x. view_of x m) (state_is i j m (Doom ns at) e) ∙ views.view_dooms w m ns

  -- the two rules follow the step whose plain part leaves v
  rules_follow : (v : Group) → state i ≡ tidied v (names i) m → Covers (names i) v → Tidied v m (state i)
  rules_follow v is covers = subst (Tidied v m) (sym is) (tidied_is v (names i) covers m)

  -- the view after the rules, from the view before them
  view_from : (v : Group) (x : View) → view_of v m ≡ x → v.place ≡ w.place → Tidied v m (state i) → TidiedIn w.place m x (view_of (state i) m)
  view_from v x same place t = subst (λ p. TidiedIn p m x (view_of (state i) m)) place (subst (λ y. TidiedIn v.place m y (view_of (state i) m)) same (views.view_tidied v m (state i) t))

  module _ (known : Covers (names j) w) where
    pub finish_covers : (s : ℕ) (x : Entry) (h : ℕ) → Did (Finish s x h) → Covers (names i) (finishes w m s x h)
    finish_covers s x h e k v at p = subst (λ ns. has ns k v ≡ true) (sym (names_are i j m (Finish s x h) e)) (covers_more w (names j) known x h k v at p)

    pub finish_tidied : (s : ℕ) (x : Entry) (h : ℕ) → Did (Finish s x h) → Tidied (finishes w m s x h) m (state i)
    finish_tidied s x h e = rules_follow (finishes w m s x h) (state_is i j m (Finish s x h) e) (finish_covers s x h e)

    pub finish_step : (s : ℕ) (x : Entry) (h : ℕ) → Did (Finish s x h) → w.slot m s ≡ slots.Done x h → owner w.place x.key ≡ m → In (loads.Slot m s (words.Done h)) (w.looked m) → MayFinish w.place m (view_of w m) s → Leads j m (runs.Kind.Finish s) i
    finish_step s x h e there own seen may =
        leads (runs.Kind.Finish s) (ap (λ x. x.place) (state_is i j m (Finish s x h) e)) (inl (x, h, record { slot = (may.member, may.slot); own = own; seen = seen; done = there }, finish_tidied s x h e))

    pub finish_view : (s : ℕ) (x : Entry) (h : ℕ) → Did (Finish s x h) → owner w.place x.key ≡ m → TidiedIn w.place m (after_finish x h (view_of w m)) (view_of (state i) m)
    finish_view s x h e own = view_from (finishes w m s x h) (after_finish x h (view_of w m)) (views.view_finishes w m s x h own) refl (finish_tidied s x h e)

    pub give_up_covers : (s : ℕ) (x : Entry) → Did (GiveUp s x) → Covers (names i) (gives_up w m s x)
    give_up_covers s x e = covers_same (names j) (names i) w (names_are i j m (GiveUp s x) e) known

    pub give_up_tidied : (s : ℕ) (x : Entry) → Did (GiveUp s x) → Tidied (gives_up w m s x) m (state i)
    give_up_tidied s x e = rules_follow (gives_up w m s x) (state_is i j m (GiveUp s x) e) (give_up_covers s x e)

    pub give_up_step : (s : ℕ) (x : Entry) → Did (GiveUp s x) → w.slot m s ≡ slots.Failed x → owner w.place x.key ≡ m → In (loads.Slot m s words.Failed) (w.looked m) → MayFinish w.place m (view_of w m) s → Leads j m (runs.Kind.Finish s) i
    give_up_step s x e there own seen may =
        leads (runs.Kind.Finish s) (ap (λ x. x.place) (state_is i j m (GiveUp s x) e)) (inr (x, record { slot = (may.member, may.slot); own = own; seen = seen; failed = there }, give_up_tidied s x e))

    pub give_up_view : (s : ℕ) (x : Entry) → Did (GiveUp s x) → owner w.place x.key ≡ m → TidiedIn w.place m (after_give_up x (view_of w m)) (view_of (state i) m)
    give_up_view s x e own = view_from (gives_up w m s x) (after_give_up x (view_of w m)) (views.view_gives_up w m s x own) refl (give_up_tidied s x e)

    pub retire_covers : (ns : List EntryName) (at : ℕ) → Did (Retire ns at) → Covers (names i) (retires w m ns)
    retire_covers ns at e = covers_same (names j) (names i) (retires w m ns) (names_are i j m (Retire ns at) e) (λ k v at p. less k v at p) where
      less : Covers (names j) (retires w m ns)
      less k v at p = covers_less w (names j) known (λ k v. eqb (owner w.place k) m && has ns k v) k v at p

    pub retire_tidied : (ns : List EntryName) (at : ℕ) → Did (Retire ns at) → Tidied (retires w m ns) m (state i)
    retire_tidied ns at e = rules_follow (retires w m ns) (state_is i j m (Retire ns at) e) (retire_covers ns at e)

    pub retire_step : (ns : List EntryName) (at : ℕ) → Did (Retire ns at) → MayRetire w.place m (view_of w m) ns → Leads j m (runs.Kind.Retire ns) i
    retire_step ns at e may = leads (runs.Kind.Retire ns) (ap (λ x. x.place) (state_is i j m (Retire ns at) e)) (record { member = may.member; doomed = may.doomed }, retire_tidied ns at e)

    pub retire_view : (ns : List EntryName) (at : ℕ) → Did (Retire ns at) → TidiedIn w.place m (after_retire w.place m ns (view_of w m)) (view_of (state i) m)
    retire_view ns at e = view_from (retires w m ns) (after_retire w.place m ns (view_of w m)) (views.view_retires w m ns) refl (retire_tidied ns at e)

    pub receive_covers : (from : ℕ) (n : Notices) → Did (Receive from n.dead.names n.gone.names) → Covers (names i) (receives w m from (notices_of n))
    receive_covers from n e = covers_same (names j) (names i) (receives w m from (notices_of n)) (names_are i j m (Receive from n.dead.names n.gone.names) e) (λ k v at p. less k v at p) where
      less : Covers (names j) (receives w m from (notices_of n))
      less k v at p = covers_less w (names j) known (λ k v. eqb (owner w.place k) m && has n.gone.names k v) k v at p

    pub receive_tidied : (from : ℕ) (n : Notices) → Did (Receive from n.dead.names n.gone.names) → Tidied (receives w m from (notices_of n)) m (state i)
    receive_tidied from n e = rules_follow (receives w m from (notices_of n)) (state_is i j m (Receive from n.dead.names n.gone.names) e) (receive_covers from n e)

  -- the plain data after each
  module _ (n : ℕ) (h : Option ℕ) (places : List Slot) (mail : List (Option Notices)) (kept : ∥ IsKept n h places mail j ∥₁) where
    pub post_kept : (s : ℕ) (c : Change) (value : List ℕ) (at : ℕ) (e : Did (Post s c.entry value at)) → length places ≡ 8 * n → m < n → s < 8 → Leads j m (runs.Kind.Post s c.entry value) i → ∥ IsKept n h (set places (8 * m + s) (slots.Posted c.entry)) mail i ∥₁
    post_kept s c value at e many low less step = ∥∥₁_map kept (λ k. kept_on n h h places (set places (8 * m + s) (slots.Posted c.entry)) mail mail j i m (runs.Kind.Post s c.entry value) (posts w m s c.entry value)
        (state_is i j m (Post s c.entry value at) e) refl step.1 k.holder_is (slot_put n places w.slot m s (slots.Posted c.entry) many low less k.slots_are) k.mail_is (covers_same (names j) (names i) w (names_are i j m (Post s c.entry value at) e) k.covers) k)

    pub lock_kept : (e : Did Lock) → Leads j m runs.Kind.Lock i → ∥ IsKept n (Some m) places mail i ∥₁
    lock_kept e step = ∥∥₁_map kept (λ k. kept_on n h (Some m) places places mail mail j i m runs.Kind.Lock (locks w m) (state_is i j m Lock e) refl step.1 refl k.slots_are k.mail_is (covers_same (names j) (names i) w (names_are i j m Lock e) k.covers) k)

    pub find_kept : (x : Seen) (kind : Kind) (e : Did (Found x)) → IsStep w m kind (state i) → ∥ IsKept n h places mail i ∥₁
    find_kept x kind e step = ∥∥₁_map kept (λ k. kept_on n h h places places mail mail j i m kind (finds w m x) (state_is i j m (Found x) e) refl step k.holder_is k.slots_are k.mail_is (covers_same (names j) (names i) w (names_are i j m (Found x) e) k.covers) k)

    pub take_kept : (a s : ℕ) (x : Entry) (e : Did (Take a s x)) → length places ≡ 8 * n → a < n → s < 8 → Leads j m (runs.Kind.Take a s) i → ∥ IsKept n h (set places (8 * a + s) slots.Taken) mail i ∥₁
    take_kept a s x e many low less step = ∥∥₁_map kept (λ k. kept_on n h h places (set places (8 * a + s) slots.Taken) mail mail j i m (runs.Kind.Take a s) (takes w m a s x)
        (state_is i j m (Take a s x) e) refl step.1 k.holder_is (slot_put n places w.slot a s slots.Taken many low less k.slots_are) k.mail_is (covers_same (names j) (names i) w (names_are i j m (Take a s x) e) k.covers) k)

    pub unlock_kept : (e : Did Unlock) → Leads j m runs.Kind.Unlock i → ∥ IsKept n None places mail i ∥₁
    unlock_kept e step = ∥∥₁_map kept (λ k. kept_on n h None places places mail mail j i m runs.Kind.Unlock (unlocks w m) (state_is i j m Unlock e) refl step.1 refl k.slots_are k.mail_is (covers_same (names j) (names i) w (names_are i j m Unlock e) k.covers) k)

    pub commit_kept : (at : ℕ) → (e : Did (Commit at)) → Leads j m runs.Kind.Commit i → ∥ IsKept n h places mail i ∥₁
    commit_kept at e step = ∥∥₁_map kept (λ k. kept_on n h h places places mail mail j i m runs.Kind.Commit (commits w m) (state_is i j m (Commit at) e) refl step.1 k.holder_is k.slots_are k.mail_is (covers_same (names j) (names i) w (names_are i j m (Commit at) e) k.covers) k)

    pub mark_kept : (a s : ℕ) (x : Entry) (e : Did (Mark a s x)) → length places ≡ 8 * n → a < n → s < 8 → Leads j m (runs.Kind.Mark a s) i → ∥ IsKept n h (set places (8 * a + s) (slots.Done x m)) mail i ∥₁
    mark_kept a s x e many low less step = ∥∥₁_map kept (λ k. kept_on n h h places (set places (8 * a + s) (slots.Done x m)) mail mail j i m (runs.Kind.Mark a s) (marks w m a s x)
        (state_is i j m (Mark a s x) e) refl step.1 k.holder_is (slot_put n places w.slot a s (slots.Done x m) many low less k.slots_are) k.mail_is (covers_same (names j) (names i) w (names_are i j m (Mark a s x) e) k.covers) k)

    pub fail_kept : (a s : ℕ) (x : Entry) (e : Did (Fail a s x)) → length places ≡ 8 * n → a < n → s < 8 → Leads j m (runs.Kind.Fail a s) i → ∥ IsKept n h (set places (8 * a + s) (slots.Failed x)) mail i ∥₁
    fail_kept a s x e many low less step = ∥∥₁_map kept (λ k. kept_on n h h places (set places (8 * a + s) (slots.Failed x)) mail mail j i m (runs.Kind.Fail a s) (fails w m a s x)
        (state_is i j m (Fail a s x) e) refl step.1 k.holder_is (slot_put n places w.slot a s (slots.Failed x) many low less k.slots_are) k.mail_is (covers_same (names j) (names i) w (names_are i j m (Fail a s x) e) k.covers) k)

    pub finish_kept : (s : ℕ) (x : Entry) (at : ℕ) (e : Did (Finish s x at)) → length places ≡ 8 * n → m < n → s < 8 → Leads j m (runs.Kind.Finish s) i → ∥ IsKept n h (set places (8 * m + s) slots.Empty) mail i ∥₁
    finish_kept s x at e many low less step = ∥∥₁_map kept (λ k. kept_on n h h places (set places (8 * m + s) slots.Empty) mail mail j i m (runs.Kind.Finish s) (tidied (finishes w m s x at) (names i) m)
        (state_is i j m (Finish s x at) e) refl step.1 k.holder_is (slot_put n places w.slot m s slots.Empty many low less k.slots_are) k.mail_is (finish_covers k.covers s x at e) k)

    pub give_up_kept : (s : ℕ) (x : Entry) (e : Did (GiveUp s x)) → length places ≡ 8 * n → m < n → s < 8 → Leads j m (runs.Kind.Finish s) i → ∥ IsKept n h (set places (8 * m + s) slots.Empty) mail i ∥₁
    give_up_kept s x e many low less step = ∥∥₁_map kept (λ k. kept_on n h h places (set places (8 * m + s) slots.Empty) mail mail j i m (runs.Kind.Finish s) (tidied (gives_up w m s x) (names i) m)
        (state_is i j m (GiveUp s x) e) refl step.1 k.holder_is (slot_put n places w.slot m s slots.Empty many low less k.slots_are) k.mail_is (give_up_covers k.covers s x e) k)

    pub withdraw_kept : (s : ℕ) (x : Entry) (e : Did (Withdraw s x)) → length places ≡ 8 * n → m < n → s < 8 → Leads j m (runs.Kind.Withdraw s) i → ∥ IsKept n h (set places (8 * m + s) slots.Empty) mail i ∥₁
    withdraw_kept s x e many low less step = ∥∥₁_map kept (λ k. kept_on n h h places (set places (8 * m + s) slots.Empty) mail mail j i m (runs.Kind.Withdraw s) (withdraws w m s x)
        (state_is i j m (Withdraw s x) e) refl step.1 k.holder_is (slot_put n places w.slot m s slots.Empty many low less k.slots_are) k.mail_is (covers_same (names j) (names i) w (names_are i j m (Withdraw s x) e) k.covers) k)

    pub doom_kept : (ns : List EntryName) (at : ℕ) (e : Did (Doom ns at)) → Leads j m (runs.Kind.Doom ns) i → ∥ IsKept n h places mail i ∥₁
    doom_kept ns at e step = ∥∥₁_map kept (λ k. kept_on n h h places places mail mail j i m (runs.Kind.Doom ns) (dooms w m ns) (state_is i j m (Doom ns at) e) refl step.1 k.holder_is k.slots_are k.mail_is (covers_same (names j) (names i) w (names_are i j m (Doom ns at) e) k.covers) k)

    pub retire_kept : (ns : List EntryName) (at : ℕ) (e : Did (Retire ns at)) → Leads j m (runs.Kind.Retire ns) i → ∥ IsKept n h places mail i ∥₁
    retire_kept ns at e step = ∥∥₁_map kept (λ k. kept_on n h h places places mail mail j i m (runs.Kind.Retire ns) (tidied (retires w m ns) (names i) m) (state_is i j m (Retire ns at) e) refl step.1 k.holder_is k.slots_are k.mail_is (retire_covers k.covers ns at e) k)

    pub send_kept : (to : ℕ) (x : Notices) (e : Did (Send to x.dead.names x.gone.names)) → length mail ≡ 8 * n → n ≤ 8 → m < n → to < n → IsStep w m (runs.Kind.Send to (notices_of x)) (state i) → ∥ IsKept n h places (set mail (8 * m + to) (Some x)) i ∥₁
    send_kept to x e many few low less step = ∥∥₁_map kept (λ k. kept_on n h h places places mail (set mail (8 * m + to) (Some x)) j i m (runs.Kind.Send to (notices_of x)) (sends w m to (notices_of x))
        (state_is i j m (Send to x.dead.names x.gone.names) e) refl step k.holder_is k.slots_are (mail_put n mail w.mail m to (Some x) many few low less k.mail_is) (covers_same (names j) (names i) w (names_are i j m (Send to x.dead.names x.gone.names) e) k.covers) k)

    pub receive_kept : (from : ℕ) (x : Notices) (e : Did (Receive from x.dead.names x.gone.names)) → length mail ≡ 8 * n → n ≤ 8 → m < n → from < n → IsStep w m (runs.Kind.Receive from) (state i) → ∥ IsKept n h places (set mail (8 * from + m) None) i ∥₁
    receive_kept from x e many few low less step = ∥∥₁_map kept (λ k. kept_on n h h places places mail (set mail (8 * from + m) None) j i m (runs.Kind.Receive from) (tidied (receives w m from (notices_of x)) (names i) m)
        (state_is i j m (Receive from x.dead.names x.gone.names) e) refl step k.holder_is k.slots_are (mail_put n mail w.mail from m None many few less low k.mail_is) (receive_covers k.covers from x e) k)

-- What the owner does with a change that came back, by its home.
module _ (j i : BoardJournal) (m s : ℕ) (x : Entry) (own : owner (state j).place x.key ≡ m) (known : Covers (names j) (state j)) where
  pub over_step : (home : Option ℕ) → i ≡ noted (note_of m (finish_act s x home)) j → (state j).slot m s ≡ stood_as x home
      → MatchOption home (In (loads.Slot m s words.Failed) ((state j).looked m)) (λ at. In (loads.Slot m s (words.Done at)) ((state j).looked m))
      → MayFinish (state j).place m (view_of (state j) m) s → Leads j m (runs.Kind.Finish s) i
  over_step None e there seen may = give_up_step j i m known s x e there own seen may
  over_step (Some h) e there seen may = finish_step j i m known s x h e there own seen may

  pub over_view : (home : Option ℕ) → i ≡ noted (note_of m (finish_act s x home)) j
      → MatchOption home (TidiedIn (state j).place m (after_give_up x (view_of (state j) m)) (view_of (state i) m)) (λ at. TidiedIn (state j).place m (after_finish x at (view_of (state j) m)) (view_of (state i) m))
  over_view None e = give_up_view j i m known s x e own
  over_view (Some h) e = finish_view j i m known s x h e own

  pub over_kept : (n : ℕ) (h : Option ℕ) (places : List Slot) (mail : List (Option Notices)) → ∥ IsKept n h places mail j ∥₁ → (home : Option ℕ) → i ≡ noted (note_of m (finish_act s x home)) j
      → length places ≡ 8 * n → m < n → s < 8 → Leads j m (runs.Kind.Finish s) i → ∥ IsKept n h (set places (8 * m + s) slots.Empty) mail i ∥₁
  over_kept n h places mail kept None e many low less step = give_up_kept j i m n h places mail kept s x e many low less step
  over_kept n h places mail kept (Some at) e many low less step = finish_kept j i m n h places mail kept s x at e many low less step
