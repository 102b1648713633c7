-- The plain data of a board go on agreeing with its journal.
use Rattle.std.proofs.Common.{◌≡◌, ℕ, ◌+◌, ◌*◌, ◌<◌, ◌≤◌, Bool, true, false, cond, ◌&&◌, ◌||◌, eqb, List, ◌∷◌, length, get_or, set, Option, Some, None, option_map, refl, sym, ap, ◌∙◌, subst, eq-eqb, eqb-true, arith}
use Rattle.log_entry.specs.declared.entry.Entry.{Entry}
use Rattle.log_entry.specs.declared.entry.EntryName.{EntryName}
use Rattle.group_laws.specs.declared.types.Slot.{Slot}
use Rattle.group_laws.specs.declared.types.Slot.TheVariants.{Empty}
use Rattle.group_laws.specs.Places.{members}
use Rattle.group_laws.specs.Updates.{put2, has}
use Rattle.group_laws.specs.State.{Group}
use Rattle.group_laws.specs.State as laws
use Rattle.group_laws.specs.Runs.{Kind, IsStep}
use Rattle.group_laws.proofs.Clients.{step_keeps}
use Rattle.group_board.specs.declared.names.Notices.{Notices}
use Rattle.group_board.specs.Mailing.{notices_of}
use Rattle.group_board.specs.declared.board_journal.BoardJournal.{BoardJournal}
use Rattle.group_board.specs.Tidies.{Covers}
use Rattle.group_board.specs.Journals.{names, state, name_of}
use Rattle.group_board.specs.Kept.{IsKept}
use Rattle.group_board.proofs.Picks.{set_row, kept_by, and_true}

abbrev pub SlotsAre : ℕ → List Slot → (ℕ → ℕ → Slot) → Type 0
SlotsAre n slots f = (a s : ℕ) → a < n → s < 8 → f a s ≡ get_or slots (8 * a + s) Empty

abbrev pub MailIs : ℕ → List (Option Notices) → (ℕ → ℕ → Option laws.Notices) → Type 0
MailIs n mail f = (a b : ℕ) → a < n → b < n → f a b ≡ option_map notices_of (get_or mail (8 * a + b) None)

-- a step leads to a state that this list, holder and mailboxes show
pub kept_on : (n : ℕ) (h g : Option ℕ) (slots new_slots : List Slot) (mail new_mail : List (Option Notices)) (j i : BoardJournal) (m : ℕ) (kind : Kind) (v : Group)
    → state i ≡ v → v.place ≡ (state j).place → IsStep (state j) m kind (state i)
    → v.holder ≡ g → SlotsAre n new_slots v.slot → MailIs n new_mail v.mail → Covers (names i) v
    → IsKept n h slots mail j → IsKept n g new_slots new_mail i
kept_on n h g slots new_slots mail new_mail j i m kind v is place step holder slots_are mail_is covers k = record {
  size = ap (λ x. members x.place) is ∙ (ap members place ∙ k.size);
  holder_is = ap (λ x. x.holder) is ∙ holder;
  slots_are = λ a s p q. ap (λ x. x.slot a s) is ∙ slots_are a s p q;
  mail_is = λ a b p q. ap (λ x. x.mail a b) is ∙ mail_is a b p q;
  covers = subst (Covers (names i)) (sym is) covers;
  lawful = step_keeps (state j) m kind (state i) k.lawful step;
}

-- one slot is written
pub slot_put : (n : ℕ) (slots : List Slot) (f : ℕ → ℕ → Slot) (a s : ℕ) (x : Slot) → length slots ≡ 8 * n → a < n → s < 8 → SlotsAre n slots f → SlotsAre n (set slots (8 * a + s) x) (put2 f a s x)
slot_put n slots f a s x many p q are b t r l =
    ap (λ y. cond (eqb b a && eqb t s) x y) (are b t r l) ∙ sym (set_row slots a s x Empty (omega arith) q b t l)

-- one mailbox is written
pub mail_put : (n : ℕ) (mail : List (Option Notices)) (f : ℕ → ℕ → Option laws.Notices) (a b : ℕ) (x : Option Notices) → length mail ≡ 8 * n → n ≤ 8 → a < n → b < n → MailIs n mail f → MailIs n (set mail (8 * a + b) x) (put2 f a b (option_map notices_of x))
mail_put n mail f a b x many few p q are c d r l =
    ap (λ y. cond (eqb c a && eqb d b) (option_map notices_of x) y) (are c d r l)
    ∙ (chosen (eqb c a && eqb d b) x (get_or mail (8 * c + d) None)
    ∙ ap (option_map notices_of) (sym (set_row mail a b x None (omega arith) (omega arith) c d (omega arith)))) where
      chosen : (t : Bool) (y z : Option Notices) → cond t (option_map notices_of y) (option_map notices_of z) ≡ option_map notices_of (cond t y z)
      chosen true y z = refl
      chosen false y z = refl

-- The names of a journal cover what stands after a step: nothing new stands, or the name that the step finished.
pub covers_same : (ns ms : List EntryName) (w : Group) → ms ≡ ns → Covers ns w → Covers ms w
covers_same ns ms w e c = subst (λ x. Covers x w) (sym e) c

module _ (w : Group) (ns : List EntryName) (covers : Covers ns w) where
  pub covers_more : (e : Entry) (home k v h : ℕ) → put2 w.present e.key e.version (Some home) k v ≡ Some h → has (name_of e ∷ ns) k v ≡ true
  covers_more e home k v h p = by_test (eqb k e.key && eqb v e.version) refl p where
    either : (b c : Bool) → c ≡ true → b || c ≡ true
    either true c t = refl
    either false c t = t

    by_test : (b : Bool) → eqb k e.key && eqb v e.version ≡ b → cond b (Some home) (w.present k v) ≡ Some h → has (name_of e ∷ ns) k v ≡ true
    by_test true t q = let both = and_true (eqb k e.key) (eqb v e.version) t in
        ap (λ b. b && eqb e.version v || has ns k v) (eq-eqb e.key k (sym (eqb-true k e.key both.0)))
        ∙ ap (λ b. b || has ns k v) (eq-eqb e.version v (sym (eqb-true v e.version both.1)))
    by_test false t q = either (eqb e.key k && eqb e.version v) (has ns k v) (covers k v h q)

  pub covers_less : (c : ℕ → ℕ → Bool) (k v h : ℕ) → cond (c k v) None (w.present k v) ≡ Some h → has ns k v ≡ true
  covers_less c k v h p = covers k v h (kept_by (c k v) (w.present k v) h p)

module _ (n : ℕ) (h : Option ℕ) (slots : List Slot) (mail : List (Option Notices)) (i : BoardJournal) (p q : ℕ) (at : p ≡ q) where
  -- the same by other words for the place and for what is written there
  pub slots_at : (x y : Slot) → x ≡ y → ∥ IsKept n h (set slots q y) mail i ∥₁ → ∥ IsKept n h (set slots p x) mail i ∥₁
  slots_at x y e k = subst (λ (v : ℕ). ∥ IsKept n h (set slots v x) mail i ∥₁) (sym at) (subst (λ (v : Slot). ∥ IsKept n h (set slots q v) mail i ∥₁) (sym e) k)

  pub mail_at : (x y : Option Notices) → x ≡ y → ∥ IsKept n h slots (set mail q y) i ∥₁ → ∥ IsKept n h slots (set mail p x) i ∥₁
  mail_at x y e k = subst (λ (v : ℕ). ∥ IsKept n h slots (set mail v x) i ∥₁) (sym at) (subst (λ (v : Option Notices). ∥ IsKept n h slots (set mail q v) i ∥₁) (sym e) k)
