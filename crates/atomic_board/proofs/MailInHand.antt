-- A seat between the load that takes a mailbox's slot in hand and the store that gives it back.
use Rattle.std.proofs.Common.{◌≡◌, ◌≢◌, ℕ, true, false, List, [], ◌∷◌, sym, refl, subst, inl, inr, ◌⊎◌, Some}
use Rattle.log_entry.specs.declared.entry.EntryName.{EntryName}
use Rattle.store_image.specs.Facts.{In}
use Rattle.group_laws.specs.declared.types.Seen.TheVariants as loads
use Rattle.group_laws.specs.State.{Notices}
use Rattle.group_laws.proofs.Clients.{In-append_right}
use Rattle.group_board.specs.declared.names.Notices.{Notices as Parceled}
use Rattle.group_board.specs.Views.{after_find}
use Rattle.group_board.specs.Conditions.{MaySend}
use Rattle.atomic_board.specs.declared.parcel.Parcel.TheVariants as parcels
use Rattle.atomic_board.specs.declared.seat_data.Deed.TheVariants.{Found}
use Rattle.atomic_board.specs.declared.seat_data.SeatData.{SeatData}
use Rattle.atomic_board.specs.declared.seat_data.SeatData.TheVariants.{Store, Own, Spent}
use Rattle.atomic_board.specs.TableWords.{pool_place}
use Rattle.atomic_board.specs.Deeds.{place_of, view_by}
use Rattle.atomic_board.specs.ShownState.{grip_at, gripped}
use Rattle.atomic_board.specs.StepTells.{SeatState, Fetched, origin_in, number_in, is_own, hand_in, view_in, did, gripping}

-- the same for a seat that fetched
pub fetched : (m n : SeatState) (from r : ℕ) (B : Type 0) → ((r ≢ 0) × Fetched m n from) ⊎ ((r ≡ 0) × B) → r ≢ 0 → Fetched m n from
fetched m n from r B (inl x) ne = x.1
fetched m n from r B (inr x) ne = absurd (ne x.0)

pub unfetched : (m n : SeatState) (from r : ℕ) (B : Type 0) → ((r ≢ 0) × Fetched m n from) ⊎ ((r ≡ 0) × B) → r ≡ 0 → B
unfetched m n from r B (inl x) e = absurd (x.0 e)
unfetched m n from r B (inr x) e = x.1

pub zero_case : {A B : Type 0} (r : ℕ) → ((r ≡ 0) × A) ⊎ ((r ≢ 0) × B) → r ≡ 0 → A
zero_case r (inl x) e = x.1
zero_case r (inr x) e = absurd (x.0 e)

pub other_case : {A B : Type 0} (r : ℕ) → ((r ≡ 0) × A) ⊎ ((r ≢ 0) × B) → r ≢ 0 → B
other_case r (inl x) ne = absurd (ne x.0)
other_case r (inr x) ne = x.1

pub swapped : {A B : Type 0} → A ⊎ B → B ⊎ A
swapped (inl x) = inr x
swapped (inr x) = inl x

pub same_notices : (x y : Parceled) → Some (parcels.Notices x) ≡ Some (parcels.Notices y) → x ≡ y
same_notices x y is = cc is

pub record ReadySend (d : SeatData) (to : ℕ) (n : Notices) (e : SeatData) : Type 0 where
  pub own : is_own e ≡ true
  pub base : origin_in e ≡ origin_in d
  pub number : number_in e ≡ number_in d
  pub may : MaySend (place_of (origin_in e)) (number_in e) (view_in e) to n
  pub saw : In (loads.Mail (number_in e) to false) (view_in e).looked
  pub hand : hand_in e ≡ grip_at (pool_place (number_in e) to) [] []

pub send_ready : (d : SeatData) (to : ℕ) (n : Notices) → is_own d ≡ true → MaySend (place_of (origin_in d)) (number_in d) (view_in d) to n → (e : SeatData) → e ≡ gripping (grip_at (pool_place (number_in d) to) [] []) (did (Found (loads.Mail (number_in d) to false)) d) → ReadySend d to n e
send_ready d to n own may e is = subst (ReadySend d to n) (sym is) (go d own may) where
  go : (d : SeatData) → is_own d ≡ true → MaySend (place_of (origin_in d)) (number_in d) (view_in d) to n → ReadySend d to n (gripping (grip_at (pool_place (number_in d) to) [] []) (did (Found (loads.Mail (number_in d) to false)) d))
  go (Store k b l) o m = absurd (cc o)
  go (Own m q b ds) o may = record {
    own = refl;
    base = refl;
    number = refl;
    may = record { member = may.member; receiver = may.receiver; other = may.other; dead = may.dead; gone = may.gone };
    saw = In-append_right (loads.Mail m to false) (view_by b m ds).looked (loads.Mail m to false ∷ []) (inl refl);
    hand = refl;
  }
  go Spent o m = absurd (cc o)

pub record ReadyReceive (d : SeatData) (from : ℕ) (dead gone : List EntryName) (e : SeatData) : Type 0 where
  pub own : is_own e ≡ true
  pub base : origin_in e ≡ origin_in d
  pub number : number_in e ≡ number_in d
  pub saw : In (loads.Mail from (number_in e) true) (view_in e).looked
  pub hand : hand_in e ≡ grip_at (pool_place from (number_in e)) (gripped (hand_in e)).dead (gripped (hand_in e)).gone
  pub notices : gripped (hand_in e) ≡ record { dead = dead; gone = gone }
  pub view : view_in e ≡ after_find (loads.Mail from (number_in d) true) (view_in d)

pub receive_ready : (d : SeatData) (from : ℕ) (dead gone : List EntryName) → is_own d ≡ true → (e : SeatData) → e ≡ gripping (grip_at (pool_place from (number_in d)) dead gone) (did (Found (loads.Mail from (number_in d) true)) d) → ReadyReceive d from dead gone e
receive_ready d from dead gone own e is = subst (ReadyReceive d from dead gone) (sym is) (go d own) where
  go : (d : SeatData) → is_own d ≡ true → ReadyReceive d from dead gone (gripping (grip_at (pool_place from (number_in d)) dead gone) (did (Found (loads.Mail from (number_in d) true)) d))
  go (Store k b l) o = absurd (cc o)
  go (Own m q b ds) o = record {
    own = refl;
    base = refl;
    number = refl;
    saw = In-append_right (loads.Mail from m true) (view_by b m ds).looked (loads.Mail from m true ∷ []) (inl refl);
    hand = refl;
    notices = refl;
    view = refl;
  }
  go Spent o = absurd (cc o)
