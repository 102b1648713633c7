-- What the invariant says of an entry that is taken or comes back, and of what is heard, where it is known only that there is a proof of it.
use Rattle.std.proofs.Common.{◌≡◌, ℕ, ◌<◌, Bool, true, false, ◌&&◌, eqb, List, [], ◌∷◌, Option, Some, None, IfSome, inl, inr, sym, ap, ◌∙◌, subst, eqb-true, eq-eqb}
use Rattle.std.specs.List.{AllByRecursion, list_any}
use Rattle.std.proofs.lemmas.Bool.{and_parts, and_from, or_cases, or_left, or_right}
use Rattle.std.proofs.Math.Bridge.{le_prop}
use Rattle.std.specs.Coded.{Coded-set, coded_option, coded_ℕ, coded_bool}
use mathlib.Core.Logic.{∥∥₁_elim}
use Rattle.log_entry.specs.declared.entry.Body.{Body}
use Rattle.log_entry.specs.declared.entry.Body.TheVariants.{Pointer, Embedded, Tombstone}
use Rattle.log_entry.specs.declared.entry.Entry.{Entry}
use Rattle.log_entry.specs.Spelling.{HasSpelling, Fits}
use Rattle.store_image.specs.Facts.{In}
use Rattle.group_laws.specs.declared.types.Slot.{Slot}
use Rattle.group_laws.specs.declared.types.Slot.TheVariants.{Posted, Done}
use Rattle.group_laws.specs.Places.{members, owner}
use Rattle.group_laws.specs.Updates.{has}
use Rattle.group_laws.specs.MemberViews.{view_of}
use Rattle.group_laws.proofs.Clients.{in_any, any_in, has_In}
use Rattle.group_board.specs.declared.names.Notices.{Notices}
use Rattle.group_board.specs.Mailing.{notices_of}
use Rattle.group_board.specs.declared.board_journal.BoardJournal.{BoardJournal}
use Rattle.group_board.specs.Journals.{state}
use Rattle.group_board.specs.Kept.{IsKept}
use Rattle.group_board.specs.Assurances.{IsHome, IsHeard}
use Rattle.group_board.specs.Told.{stood_as}
use Rattle.group_board.proofs.Views.{own_is}

-- that an entry has a spelling is a proposition
bytes_prop : (xs : List ℕ) → IsProp (AllByRecursion (λ b. b < 256) xs)
bytes_prop [] x y i = tt
bytes_prop (b ∷ bs) x y i = (le_prop x.0 y.0 i, bytes_prop bs x.1 y.1 i)

fits_prop : (v : ℕ) (b : Body) → IsProp (Fits v b)
fits_prop v (Pointer p) x y i = (le_prop x.0 y.0 i, le_prop x.1 y.1 i, le_prop x.2 y.2 i)
fits_prop v (Embedded bytes) x y i = (le_prop x.0 y.0 i, le_prop x.1 y.1 i, le_prop x.2 y.2 i, bytes_prop bytes x.3 y.3 i)
fits_prop v Tombstone x y i = (le_prop x.0 y.0 i, le_prop x.1 y.1 i)

spelling_prop : (e : Entry) → IsProp (HasSpelling e)
spelling_prop e x y i = record { key = le_prop x.key y.key i; fits = fits_prop e.version e.body x.fits y.fits i }

-- an entry of this name is among these
abbrev is_named : ℕ → ℕ → Entry → Bool
is_named k v e = eqb e.key k && eqb e.version v

named_any : (k v : ℕ) (xs : List Entry) (e : Entry) → In e xs → e.key ≡ k → e.version ≡ v → list_any (is_named k v) xs ≡ true
named_any k v [] e i p q = absurd i
named_any k v (x ∷ xs) e (inl j) p q = or_left (is_named k v x) (list_any (is_named k v) xs) (and_from (eqb x.key k) (eqb x.version v) (eq-eqb x.key k (ap (λ (y : Entry). y.key) (sym j) ∙ p)) (eq-eqb x.version v (ap (λ (y : Entry). y.version) (sym j) ∙ q)))
named_any k v (x ∷ xs) e (inr i) p q = or_right (is_named k v x) (list_any (is_named k v) xs) (named_any k v xs e i p q)

any_named : (k v : ℕ) (xs : List Entry) → list_any (is_named k v) xs ≡ true → (e : Entry) × In e xs × (e.key ≡ k) × (e.version ≡ v)
any_named k v [] t = absurd (cc t)
any_named k v (x ∷ xs) t = elim (or_cases (is_named k v x) (list_any (is_named k v) xs) t) [
  | inl i ↦ let both = and_parts (eqb x.key k) (eqb x.version v) i in (x, inl (λ j. x), eqb-true x.key k both.0, eqb-true x.version v both.1)
  | inr i ↦ let found = any_named k v xs i in (found.0, inr found.1, found.2, found.3)
]

module _ (n : ℕ) (h : Option ℕ) (slots : List Slot) (mail : List (Option Notices)) (j : BoardJournal) (k : ∥ IsKept n h slots mail j ∥₁) where
  -- who has the lock
  pub holder_low : (at : ℕ) → h ≡ Some at → at < members (state j).place
  holder_low at is = ∥∥₁_elim k le_prop (λ o. o.lawful.looks.holder_member at (o.holder_is ∙ is))

  pub posted_spelled : (a s : ℕ) (e : Entry) → (state j).slot a s ≡ Posted e → HasSpelling e
  posted_spelled a s e is = ∥∥₁_elim k (spelling_prop e) (λ o. o.lawful.keys.spelled e.key (record { entry = e; slot = Some s }) (o.lawful.slots.posted_named a s e is).0)

  done_home : (m s at : ℕ) (e : Entry) → (state j).slot m s ≡ Done e at → IsHome (state j).place m (view_of (state j) m) e at
  done_home m s at e is = record {
    member = ∥∥₁_elim k le_prop (λ o. (o.lawful.logs.group at e (inl (o.lawful.logs.done_kept at m s e is).0)).0);
    kept = λ same. any_in e ((state j).kept m) (∥∥₁_elim k (Coded-set coded_bool _ _) (λ o. in_any e ((state j).kept m) (subst (λ (x : ℕ). In e ((state j).kept x)) same (o.lawful.logs.done_kept at m s e is).0)));
    spared = λ same. ap (λ (x : ℕ). (state j).doomed x e.key e.version) (sym same) ∙ ∥∥₁_elim k (Coded-set coded_bool _ _) (λ o. (o.lawful.logs.done_kept at m s e is).1);
  }

  pub stood_home : (m s : ℕ) (e : Entry) (home : Option ℕ) → (state j).slot m s ≡ stood_as e home → IfSome home (IsHome (state j).place m (view_of (state j) m) e)
  stood_home m s e None is = tt
  stood_home m s e (Some at) is = done_home m s at e is

  module _ (m from : ℕ) (x : Notices) (is : (state j).mail from m ≡ Some (notices_of x)) where
    gone_own : (q i : ℕ) → has x.gone.names q i ≡ true → owner (state j).place q ≡ m
    gone_own q i t = ∥∥₁_elim k (Coded-set coded_ℕ _ _) (λ o. o.lawful.standing.gone_home from m (notices_of x) (record { key = q; version = i }) is (has_In x.gone.names q i t))

    gone_mail : (q i : ℕ) → has x.gone.names q i ≡ true → (state j).mail from (owner (state j).place q) ≡ Some (notices_of x)
    gone_mail q i t = ap ((state j).mail from) (gone_own q i t) ∙ is

    pub heard : IsHeard (state j).place m from (view_of (state j) m) (notices_of x)
    heard = record {
      other = λ self. ∥∥₁_elim k (λ a b. absurd a) (λ o. let none = o.lawful.standing.no_self m in let full : (state j).mail m m ≡ Some (notices_of x) = subst (λ (h : ℕ). (state j).mail h m ≡ Some (notices_of x)) self is in cc (none, full));
      theirs = λ q i t. ∥∥₁_elim k (Coded-set coded_ℕ _ _) (λ o. (o.lawful.deaths.mail_from from m (notices_of x) (record { key = q; version = i }) is (has_In x.dead.names q i t)).0);
      dead = λ q i t. any_named q i ((state j).kept m) (∥∥₁_elim k (Coded-set coded_bool _ _) (λ o. (let at = (o.lawful.deaths.mail_from from m (notices_of x) (record { key = q; version = i }) is (has_In x.dead.names q i t)).2 in named_any q i ((state j).kept m) at.0 at.1 at.2 at.3)));
      own = gone_own;
      told = λ q i t. own_is (state j).place m q ((state j).told q i) false (gone_own q i t)
          ∙ ∥∥₁_elim k (Coded-set coded_bool _ _) (λ o. (o.lawful.standing.away from q i (inr (notices_of x, gone_mail q i t, has_In x.gone.names q i t))).1);
      stood = λ q i t. own_is (state j).place m q ((state j).present q i) None (gone_own q i t)
          ∙ ∥∥₁_elim k (Coded-set (coded_option coded_ℕ) _ _) (λ o. (o.lawful.standing.away from q i (inr (notices_of x, gone_mail q i t, has_In x.gone.names q i t))).0);
    }
