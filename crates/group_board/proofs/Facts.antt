-- What is known of the state, of whose lawfulness it is known only that there is a proof.
use Rattle.std.proofs.Common.{◌≡◌, ◌≢◌, ℕ, ◌+◌, ◌*◌, ◌<◌, ◌≤◌, true, false, List, length, get_or, Option, Some, None, option_map, is_some, IsSome, MatchOption, ◌⊎◌, inl, inr, refl, sym, ap, ◌∙◌, subst, arith}
use mathlib.Core.Logic.{∥∥₁_elim}
use Rattle.std.specs.Coded.{Coded-set, code_by, coded_option, coded_ℕ, coded_bool, coded_list, coded×}
use Rattle.log_entry.specs.declared.entry.Entry.{Entry}
use Rattle.log_entry.specs.declared.entry.EntryName.{EntryName}
use Rattle.log_entry.specs.Spelling.{words_of}
use Rattle.store_image.specs.Facts.{In}
use Rattle.group_laws.specs.declared.types.Slot.{Slot}
use Rattle.group_laws.specs.declared.types.Slot.TheVariants.{Empty, Posted, Taken, Done, Failed}
use Rattle.group_laws.specs.declared.types.SlotWord.{SlotWord}
use Rattle.group_laws.specs.declared.types.SlotWord.TheVariants as words
use Rattle.group_laws.specs.declared.types.Pending.{Pending}
use Rattle.group_laws.specs.declared.types.Seen.TheVariants.{Slot as SeenSlot, Mail as SeenMail}
use Rattle.log_entry.specs.contracts.entry.EntryName as name_contracts
use Rattle.group_laws.specs.contracts.types.Slot as slot_contracts
use Rattle.group_laws.specs.contracts.types.SlotWord as word_contracts
use Rattle.group_laws.specs.contracts.types.Pending as pending_contracts
use Rattle.group_laws.specs.Places.{owner}
use Rattle.group_laws.specs.State.{Group, word_shown, is_full}
use Rattle.group_laws.specs.State as laws
use Rattle.group_laws.specs.Invariant.{Lawful, PendsAt}
use Rattle.group_laws.proofs.Clients.{posted_unnamed}
use Rattle.group_board.specs.declared.names.Notices.{Notices}
use Rattle.group_board.specs.Mailing.{notices_of}
use Rattle.group_board.specs.declared.board_journal.BoardJournal.{BoardJournal}
use Rattle.group_board.specs.Tidies.{Covers}
use Rattle.group_board.specs.Journals.{names, state}
use Rattle.group_board.specs.Kept.{IsKept}
use Rattle.group_laws.specs.MemberViews.{view_of}
use Rattle.group_board.specs.Conditions.{IsFree}
use Rattle.group_board.specs.Slots.{IsOver}
use Rattle.group_board.specs.Assurances.{IsUnlogged}
use Rattle.group_board.specs.Told.{stood_as}
use Rattle.std.proofs.lemmas.List.{get_or_read}
use Rattle.group_board.proofs.Views.{own_is}

Slot-set : (x y : Slot) → IsProp (x ≡ y)
Slot-set = Coded-set slot_contracts.the_row.coded

Word-set : (x y : SlotWord) → IsProp (x ≡ y)
Word-set = Coded-set word_contracts.the_row.coded

Pending-set : (x y : Option Pending) → IsProp (x ≡ y)
Pending-set = Coded-set (coded_option pending_contracts.the_row.coded)

Mail-set : (x y : Option laws.Notices) → IsProp (x ≡ y)
Mail-set = Coded-set (coded_option (code_by (List EntryName × List EntryName) (coded× (coded_list name_contracts.the_row.coded) (coded_list name_contracts.the_row.coded)) (λ (n : laws.Notices). (n.dead, n.gone)) (λ (p : List EntryName × List EntryName). record { dead = p.0; gone = p.1 }) (λ n. refl)))

-- an own slot that no change of the member names is empty
free_empty : (w : Group) (m s : ℕ) → Lawful w → IsFree (view_of w m) s → w.slot m s ≡ Empty
free_empty w m s law free = by_slot (w.slot m s) refl where
  named : (e : Entry) → PendsAt w e (Some s) → owner w.place e.key ≡ m → w.slot m s ≡ Empty
  named e p o = absurd (free e.key e (own_is w.place m e.key (w.pending e.key) None o ∙ p))

  by_slot : (x : Slot) → w.slot m s ≡ x → w.slot m s ≡ Empty
  by_slot Empty is = is
  by_slot (Posted e) is = let n = law.slots.posted_named m s e is in named e n.0 n.1
  by_slot Taken is = let t = law.slots.taken_by m s is in let n = law.slots.taken_named t.0 m s t.1 t.2 in named t.1 n.0 n.1
  by_slot (Done e h) is = let n = law.slots.done_named m s h e is in named e n.0 n.1
  by_slot (Failed e) is = let n = law.slots.failed_named m s e is in named e n.0 n.1

stood_named : (w : Group) (m s : ℕ) (e : Entry) (home : Option ℕ) → Lawful w → w.slot m s ≡ stood_as e home → PendsAt w e (Some s) × (owner w.place e.key ≡ m)
stood_named w m s e None law is = law.slots.failed_named m s e is
stood_named w m s e (Some h) law is = law.slots.done_named m s h e is

-- a word that says so has such a slot
pub posted_by : (x : Slot) (n : ℕ) → word_shown x ≡ words.Posted n → (e : Entry) × (x ≡ Posted e) × (length (words_of e) ≡ n)
posted_by Empty n e = absurd (cc)
posted_by (Posted f) n e = (f, refl, cc)
posted_by Taken n e = absurd (cc)
posted_by (Done f h) n e = absurd (cc)
posted_by (Failed f) n e = absurd (cc)

failed_over : (x : Slot) → word_shown x ≡ words.Failed → IsOver x
failed_over Empty e = absurd (cc)
failed_over (Posted f) e = absurd (cc)
failed_over Taken e = absurd (cc)
failed_over (Done f h) e = tt
failed_over (Failed f) e = tt

done_over : (x : Slot) (at : ℕ) → word_shown x ≡ words.Done at → IsOver x
done_over Empty at e = absurd (cc)
done_over (Posted f) at e = absurd (cc)
done_over Taken at e = absurd (cc)
done_over (Done f h) at e = tt
done_over (Failed f) at e = tt

-- whether a mailbox is full, by its list
pub full_by : (o : Option Notices) → is_some o ≡ is_full (option_map notices_of o)
full_by None = refl
full_by (Some x) = refl

module _ (n : ℕ) (h : Option ℕ) (slots : List Slot) (mail : List (Option Notices)) (j : BoardJournal) (k : ∥ IsKept n h slots mail j ∥₁) where
  pub holder_is : (state j).holder ≡ h
  holder_is = ∥∥₁_elim k (Coded-set (coded_option coded_ℕ) _ _) (λ o. o.holder_is)

  pub slot_is : (a s : ℕ) → a < n → s < 8 → (state j).slot a s ≡ get_or slots (8 * a + s) Empty
  slot_is a s p q = ∥∥₁_elim k (Slot-set _ _) (λ o. o.slots_are a s p q)

  pub mail_is : (a b : ℕ) → a < n → b < n → (state j).mail a b ≡ option_map notices_of (get_or mail (8 * a + b) None)
  mail_is a b p q = ∥∥₁_elim k (Mail-set _ _) (λ o. o.mail_is a b p q)

  pub covers : Covers (names j) (state j)
  covers i v at is = ∥∥₁_elim k (Coded-set coded_bool _ _) (λ o. o.covers i v at is)

  pub own_empty : (m s : ℕ) → IsFree (view_of (state j) m) s → (state j).slot m s ≡ Empty
  own_empty m s free = ∥∥₁_elim k (Slot-set _ _) (λ o. free_empty (state j) m s o.lawful free)

  -- what a load found still stands
  pub posted_still : (m a s q : ℕ) → (state j).holds m ≡ true → In (SeenSlot a s (words.Posted q)) ((state j).looked m) → word_shown ((state j).slot a s) ≡ words.Posted q
  posted_still m a s q mine seen = ∥∥₁_elim k (Word-set _ _) (λ o. o.lawful.looks.posted_seen m a s q ((o.lawful.looks.holds_is m).0 mine) seen)

  pub done_still : (m s at : ℕ) → In (SeenSlot m s (words.Done at)) ((state j).looked m) → word_shown ((state j).slot m s) ≡ words.Done at
  done_still m s at seen = ∥∥₁_elim k (Word-set _ _) (λ o. o.lawful.looks.done_seen m s at seen)

  pub failed_still : (m s : ℕ) → In (SeenSlot m s words.Failed) ((state j).looked m) → word_shown ((state j).slot m s) ≡ words.Failed
  failed_still m s seen = ∥∥₁_elim k (Word-set _ _) (λ o. o.lawful.looks.failed_seen m s seen)

  pub full_still : (m a : ℕ) → In (SeenMail a m true) ((state j).looked m) → (state j).mail a m ≢ None
  full_still m a seen none = ∥∥₁_elim k (λ x y. absurd x) (λ o. o.lawful.looks.full_seen m a seen none)

  -- another one than a member that doesn't hold the lock
  pub other_holds : (m at : ℕ) → (state j).holds m ≡ false → h ≡ Some at → at ≢ m
  other_holds m at free is same = ∥∥₁_elim k (λ x y. absurd x) (λ o. let mine = (o.lawful.looks.holds_is m).1 (o.holder_is ∙ (is ∙ ap Some same)) in absurd (cc))

  -- whose change stands in a slot, and that its owner has it as pending
  pub posted_owner : (m s : ℕ) (e : Entry) → (state j).slot m s ≡ Posted e → owner (state j).place e.key ≡ m
  posted_owner m s e is = ∥∥₁_elim k (Coded-set coded_ℕ _ _) (λ o. (o.lawful.slots.posted_named m s e is).1)

  pub posted_pends : (m s : ℕ) (e : Entry) → (state j).slot m s ≡ Posted e → (view_of (state j) m).pending e.key ≡ Some (record { entry = e; slot = Some s })
  posted_pends m s e is = own_is (state j).place m e.key ((state j).pending e.key) None (posted_owner m s e is) ∙ ∥∥₁_elim k (Pending-set _ _) (λ o. (o.lawful.slots.posted_named m s e is).0)

  -- what a leader takes is in no log
  pub posted_unlogged : (m a s : ℕ) (e : Entry) → (state j).slot a s ≡ Posted e → IsUnlogged m a s (view_of (state j) m) e
  posted_unlogged m a s e is = record {
    new = λ f i key version. ∥∥₁_elim k (λ x y. absurd x) (λ o. posted_unnamed (state j) o.lawful a s e is m f (inl i) key version);
    alone = λ f i key version. ∥∥₁_elim k (λ x y. absurd x) (λ o. posted_unnamed (state j) o.lawful a s e is m f (inr i) key version);
    own = λ mine. posted_pends m s e (subst (λ (x : ℕ). (state j).slot x s ≡ Posted e) mine is);
  }

  pub stood_owner : (m s : ℕ) (e : Entry) (home : Option ℕ) → (state j).slot m s ≡ stood_as e home → owner (state j).place e.key ≡ m
  stood_owner m s e home is = ∥∥₁_elim k (Coded-set coded_ℕ _ _) (λ o. (stood_named (state j) m s e home o.lawful is).1)

  pub stood_pends : (m s : ℕ) (e : Entry) (home : Option ℕ) → (state j).slot m s ≡ stood_as e home → (view_of (state j) m).pending e.key ≡ Some (record { entry = e; slot = Some s })
  stood_pends m s e home is = own_is (state j).place m e.key ((state j).pending e.key) None (stood_owner m s e home is) ∙ ∥∥₁_elim k (Pending-set _ _) (λ o. (stood_named (state j) m s e home o.lawful is).0)

  -- what the lists have at a place
  pub read_slot : (a s p : ℕ) (x : Slot) → length slots ≡ 8 * n → a < n → s < 8 → p ≡ 8 * a + s → x ≡ get_or slots p x → (state j).slot a s ≡ x
  read_slot a s p x many low less at is = slot_is a s low less ∙ (ap (λ q. get_or slots q Empty) (sym at) ∙ sym (get_or_read slots p x (let l : p < length slots = omega arith in l) is Empty))

  pub read_mail : (a b p : ℕ) (x : Option Notices) → length mail ≡ 8 * n → n ≤ 8 → a < n → b < n → p ≡ 8 * a + b → x ≡ get_or mail p x → (state j).mail a b ≡ option_map notices_of x
  read_mail a b p x many few low less at is = mail_is a b low less ∙ ap (option_map notices_of) (ap (λ q. get_or mail q None) (sym at) ∙ sym (get_or_read mail p x (let l : p < length mail = omega arith in l) is None))

  -- how many words the entry of a slot has that a look found Posted
  pub words_are : (a s q : ℕ) (e : Entry) → (state j).slot a s ≡ Posted e → word_shown ((state j).slot a s) ≡ words.Posted q → length (words_of e) ≡ q
  words_are a s q e there seen = let p : words.Posted (length (words_of e)) ≡ words.Posted q = sym (ap word_shown there) ∙ seen in cc

  -- what a look found of a slot from which a change came
  pub seen_as : (m s : ℕ) (e : Entry) (home : Option ℕ) → (state j).slot m s ≡ stood_as e home
      → In (SeenSlot m s words.Failed) ((state j).looked m) ⊎ ((at : ℕ) × In (SeenSlot m s (words.Done at)) ((state j).looked m))
      → MatchOption home (In (SeenSlot m s words.Failed) ((state j).looked m)) (λ at. In (SeenSlot m s (words.Done at)) ((state j).looked m))
  seen_as m s e None there (inl f) = f
  seen_as m s e None there (inr d) = let p : words.Failed ≡ words.Done d.0 = sym (ap word_shown there) ∙ done_still m s d.0 d.1 in absurd (cc)
  seen_as m s e (Some at) there (inl f) = let p : words.Done at ≡ words.Failed = sym (ap word_shown there) ∙ failed_still m s f in absurd (cc)
  seen_as m s e (Some at) there (inr d) = let p : words.Done at ≡ words.Done d.0 = sym (ap word_shown there) ∙ done_still m s d.0 d.1 in
      let q : d.0 ≡ at = cc in subst (λ (x : ℕ). In (SeenSlot m s (words.Done x)) ((state j).looked m)) q d.1

  pub is_over : (m s : ℕ) → In (SeenSlot m s words.Failed) ((state j).looked m) ⊎ ((at : ℕ) × In (SeenSlot m s (words.Done at)) ((state j).looked m)) → IsOver ((state j).slot m s)
  is_over m s (inl f) = failed_over ((state j).slot m s) (failed_still m s f)
  is_over m s (inr d) = done_over ((state j).slot m s) d.0 (done_still m s d.0 d.1)

  -- a mailbox that a look found full has something
  pub still_there : (m a : ℕ) (o : Option Notices) → In (SeenMail a m true) ((state j).looked m) → (state j).mail a m ≡ option_map notices_of o → IsSome o
  still_there m a None seen there = absurd (full_still m a seen there)
  still_there m a (Some x) seen there = refl
