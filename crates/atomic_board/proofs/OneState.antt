-- A table shows one state: what it shows is a function of its words, of what lies at home and of the views.
use Rattle.std.proofs.Common.{◌≡◌, ℕ, suc, ◌<◌, ◌≤◌, Bool, true, false, sym, refl, ap, ◌∙◌, inl, inr, arith, Option, Some, None, get_or, lt_of_not-le}
use lib.ListN.{get_elem?}
use mathlib.Core.Option.{some, none}
use mathlib.Core.Logic.{dite}
use native.Mathlib.Decide.{dec_le}
use Rattle.log_entry.specs.declared.entry.Entry.{Entry}
use Rattle.group_laws.specs.declared.types.Slot.{Slot}
use Rattle.group_laws.specs.declared.types.Slot.TheVariants.{Empty, Posted, Taken, Done, Failed}
use Rattle.group_laws.specs.State.{Notices}
use Rattle.atomic_board.specs.declared.seat_data.Origin.{Origin}
use Rattle.atomic_board.specs.TableWords.{lock_word, pool_word, pool_place, mail_word, mail_place}
use Rattle.atomic_board.specs.Deeds.{group_of, place_of, size}
use Rattle.atomic_board.specs.ShownState.{TableState, Home, views_of, pose_at, IsSlot, IsBox, grips, ShowsLawful}
use Rattle.atomic_board.specs.declared.seat_data.MailHold.{MailHold}
use Rattle.group_board.specs.Mailing.{notices_of}

abbrev entry_in : Entry → Home → Entry
entry_in d (some (some (Some (Rattle.atomic_board.specs.declared.parcel.Parcel.TheVariants.Change c)))) = c.entry
entry_in d (some (some (Some (Rattle.atomic_board.specs.declared.parcel.Parcel.TheVariants.Notices n)))) = d
entry_in d (some (some None)) = d
entry_in d (some none) = d
entry_in d none = d

one_holder : (g h : Option ℕ) → lock_word g ≡ lock_word h → g ≡ h
one_holder None None e = refl
one_holder None (Some h) e = absurd (omega arith)
one_holder (Some g) None e = absurd (omega arith)
one_holder (Some g) (Some h) e = ap Some (omega arith)

-- a slot's word, with what lies in it, says which slot it is
one_slot : (x : ℕ) (h : Home) (c : Bool) (y z : Slot) → IsSlot x h c y → IsSlot x h c z → y ≡ z
one_slot x h c Empty Empty p q = refl
one_slot x h c Empty (Posted f) p q = absurd (let a = p.0 in let e = q.0 in omega (arith, a, e))
one_slot x h c Empty Taken p q = absurd (let a = p.0 in let e = q.0 in omega (arith, a, e))
one_slot x h c Empty (Done f k) p q = absurd (let a = p.0 in let e = q.0 in omega (arith, a, e))
one_slot x h c Empty (Failed f) p q = absurd (let a = p.0 in let e = q.0 in omega (arith, a, e))
one_slot x h c (Posted f) Empty p q = absurd (let a = p.0 in let e = q.0 in omega (arith, a, e))
one_slot x h c (Posted f) (Posted g) p q = ap (λ z. Posted (entry_in f z)) (sym p.1 ∙ q.1)
one_slot x h c (Posted f) Taken p q = absurd (let a = p.0 in let e = q.0 in omega (arith, a, e))
one_slot x h c (Posted f) (Done g k) p q = absurd (let a = p.0 in let e = q.0 in let l = q.1.1 in omega (arith, a, e, l))
one_slot x h c (Posted f) (Failed g) p q = absurd (let a = p.0 in let e = q.0 in omega (arith, a, e))
one_slot x h c Taken Empty p q = absurd (let a = p.0 in let e = q.0 in omega (arith, a, e))
one_slot x h c Taken (Posted f) p q = absurd (let a = p.0 in let e = q.0 in omega (arith, a, e))
one_slot x h c Taken Taken p q = refl
one_slot x h c Taken (Done f k) p q = absurd (let a = p.0 in let e = q.0 in omega (arith, a, e))
one_slot x h c Taken (Failed f) p q = absurd (let a = p.0 in let e = q.0 in omega (arith, a, e))
one_slot x h c (Done f k) Empty p q = absurd (let a = p.0 in let e = q.0 in omega (arith, a, e))
one_slot x h c (Done f k) (Posted g) p q = absurd (let a = p.0 in let e = q.0 in let l = p.1.1 in omega (arith, a, e, l))
one_slot x h c (Done f k) Taken p q = absurd (let a = p.0 in let e = q.0 in omega (arith, a, e))
one_slot x h c (Done f k) (Done g j) p q = let same : k ≡ j = (let a = p.0 in let e = q.0 in omega (arith, a, e)) in λ i. Done (entry_in f ((sym p.1.0 ∙ q.1.0) i)) (same i)
one_slot x h c (Done f k) (Failed g) p q = absurd (let a = p.0 in let e = q.0 in omega (arith, a, e))
one_slot x h c (Failed f) Empty p q = absurd (let a = p.0 in let e = q.0 in omega (arith, a, e))
one_slot x h c (Failed f) (Posted g) p q = absurd (let a = p.0 in let e = q.0 in omega (arith, a, e))
one_slot x h c (Failed f) Taken p q = absurd (let a = p.0 in let e = q.0 in omega (arith, a, e))
one_slot x h c (Failed f) (Done g k) p q = absurd (let a = p.0 in let e = q.0 in omega (arith, a, e))
one_slot x h c (Failed f) (Failed g) p q = ap (λ z. Failed (entry_in f z)) (sym p.1 ∙ q.1)

notices_in : Notices → Home → Notices
notices_in d (some (some (Some (Rattle.atomic_board.specs.declared.parcel.Parcel.TheVariants.Change c)))) = d
notices_in d (some (some (Some (Rattle.atomic_board.specs.declared.parcel.Parcel.TheVariants.Notices n)))) = notices_of n
notices_in d (some (some None)) = d
notices_in d (some none) = d
notices_in d none = d

one_box : (x : ℕ) (h : Home) (k : ℕ) (s r : Option MailHold) (y z : Option Notices) → IsBox x h k s r y → IsBox x h k s r z → y ≡ z
unfolding notices_in
one_box x h k s r None None p q = refl
one_box x h k s r None (Some n) p q = absurd (let a = p.0 in let e = q.0 in omega (arith, a, e))
one_box x h k s r (Some n) None p q = absurd (let a = p.0 in let e = q.0 in omega (arith, a, e))
one_box x h k s r (Some n) (Some l) p q = by (grips r k) refl where
  by : (c : Bool) → grips r k ≡ c → Some n ≡ Some l
  by true e = ap Some (p.2 e ∙ sym (q.2 e))
  by false e = let u = p.1 e in let v = q.1 e in ap Some (sym u.2 ∙ (ap (notices_in n) (sym u.1 ∙ v.1) ∙ v.2))

pub one_state : (b : Origin) (s : TableState) (o r : ShowsLawful b s) → group_of (place_of b) o.holder o.slot o.mail (views_of b s.views) ≡ group_of (place_of b) r.holder r.slot r.mail (views_of b s.views)
one_state b s o r i = group_of (place_of b) (one_holder o.holder r.holder (sym o.fits.lock ∙ r.fits.lock) i) (λ a t. slot a t i) (λ a c. mail a c i) (views_of b s.views) where
  mail : (a c : ℕ) → o.mail a c ≡ r.mail a c
  mail a c = dite (dec_le (suc a) (size b))
      (λ low. dite (dec_le (suc c) (size b))
      (λ less. one_box (get_or s.words (mail_word (size b) a c) 0) (get_elem? s.homes (mail_place (size b) a c)) (pool_place a c) (pose_at s.views a).hand (pose_at s.views c).hand (o.mail a c) (r.mail a c) (o.fits.box a c low less) (r.fits.box a c low less))
      (λ no. let high : size b ≤ c = (let l : size b < suc c = lt_of_not-le no in omega arith) in o.fits.no_box a c (inr high) ∙ sym (r.fits.no_box a c (inr high))))
      (λ no. let high : size b ≤ a = (let l : size b < suc a = lt_of_not-le no in omega arith) in o.fits.no_box a c (inl high) ∙ sym (r.fits.no_box a c (inl high)))

  slot : (a t : ℕ) → o.slot a t ≡ r.slot a t
  slot a t = dite (dec_le (suc a) (size b))
      (λ low. dite (dec_le (suc t) 8)
      (λ less. one_slot (get_or s.words (pool_word (size b) a t) 0) (get_elem? s.homes (pool_place a t)) (pose_at s.views a).settled (o.slot a t) (r.slot a t) (o.fits.pool a t low less) (r.fits.pool a t low less))
      (λ no. let high : 8 ≤ t = (let l : 8 < suc t = lt_of_not-le no in omega arith) in o.fits.outside a t (inr high) ∙ sym (r.fits.outside a t (inr high))))
      (λ no. let high : size b ≤ a = (let l : size b < suc a = lt_of_not-le no in omega arith) in o.fits.outside a t (inl high) ∙ sym (r.fits.outside a t (inl high)))
