-- What each step tells: of the step, the seat before, the number found and the seat after.
use Rattle.std.specs.Prelude.{◌≡◌, ◌≢◌, ℕ, zero, suc, ◌+◌, ◌<◌, ◌≤◌, Bool, true, false, List, [], ◌∷◌, length, ◌⊎◌, Option, Some, None, is_none, MatchOption, IfSome}
use Rattle.log_entry.specs.declared.entry.EntryName.{EntryName}
use Rattle.atomic_table.specs.Table.{Me, Step, rest}
use Rattle.log_entry.specs.declared.entry.Entry.{Entry}
use Rattle.log_entry.specs.Spelling.{words_of, HasSpelling}
use Rattle.store_image.specs.Facts.{In}
use Rattle.group_laws.specs.declared.group_sizes.TheConstants.{SLOTS}
use Rattle.group_laws.specs.declared.types.SlotWord.{SlotWord}
use Rattle.group_laws.specs.declared.types.SlotWord.TheVariants as words
use Rattle.group_laws.specs.declared.types.Seen.TheVariants as loads
use Rattle.group_laws.specs.MemberViews.{View, view_of}
use Rattle.group_board.specs.Trails.{TrailStep}
use Rattle.group_board.specs.Views.{after_finish, after_give_up, after_retire, after_receive, TidiedIn}
use Rattle.group_laws.specs.Places.{Place, owner}
use Rattle.group_board.specs.declared.change.Change.{Change}
use Rattle.atomic_board.specs.declared.parcel.Parcel.{Parcel}
use Rattle.atomic_board.specs.declared.parcel.Parcel.TheVariants as parcels
use Rattle.atomic_board.specs.declared.seat_data.Origin.{Origin}
use Rattle.atomic_board.specs.declared.seat_data.Deed.{Deed}
use Rattle.atomic_board.specs.declared.seat_data.Deed.TheVariants.{Post, Lock, Found, Take, Unlock, Commit, Finish, GiveUp, Withdraw, Doom, Retire, Send, Receive}
use Rattle.atomic_board.specs.declared.seat_data.SeatData.{SeatData}
use Rattle.atomic_board.specs.declared.seat_data.SeatData.TheVariants.{Store, Own, Spent}
use Rattle.atomic_board.specs.declared.table_words.TheConstants.{EMPTY_MAILBOX, FREE_LOCK}
use Rattle.atomic_board.specs.TableWords.{pool_word, pool_place, mail_word, mail_place, word_number, IsClearWord}
use Rattle.atomic_board.specs.Deeds.{began, place_of, size, view_by, trail_by}
use Rattle.atomic_board.specs.ShownState.{lies, deeds_in, gripped, grip_at}
use Rattle.atomic_board.specs.declared.seat_data.MailHold.{MailHold}
use Rattle.group_board.specs.declared.names.Notices.{Notices}
use Rattle.group_board.specs.Mailing.{notices_of}
use Rattle.group_board.specs.Assurances.{IsHome, IsHeard, IsUnlogged}
use Rattle.atomic_board.specs.SlotsOut.{IsNamedBy}

abbrev pub SeatState : Type 0
SeatState = Me (Option Parcel) SeatData

abbrev pub Tells : Type 1
Tells = Step (Option Parcel) → SeatState → ℕ → SeatState → Type 0

abbrev pub no_origin : Origin
no_origin = record { group = 0; words = [] }

abbrev pub origin_in : SeatData → Origin
origin_in (Store k b back) = b
origin_in (Own m q b ds) = b
origin_in Spent = no_origin

abbrev pub number_in : SeatData → ℕ
number_in (Store k b back) = 0
number_in (Own m q b ds) = m
number_in Spent = 0

abbrev pub is_own : SeatData → Bool
is_own (Store k b back) = false
is_own (Own m q b ds) = true
is_own Spent = false

abbrev pub is_store : SeatData → Bool
is_store (Store k b back) = true
is_store (Own m q b ds) = false
is_store Spent = false

abbrev pub is_settled : SeatData → Bool
is_settled (Store k b back) = false
is_settled (Own m q b ds) = q.settled
is_settled Spent = false

-- it has no mailbox's slot in hand
abbrev pub is_handless : SeatData → Bool
is_handless (Store k b back) = true
is_handless (Own m q b ds) = is_none q.hand
is_handless Spent = true

-- the view that a seat's deeds lead to
abbrev pub view_in : SeatData → View
view_in (Store k b back) = view_of (began b) 0
view_in (Own m q b ds) = view_by b m ds
view_in Spent = view_of (began no_origin) 0

-- the steps that the seat's member made, the newest first, each with its view after it
abbrev pub trail_in : SeatData → List TrailStep
trail_in (Store k b back) = []
trail_in (Own m q b ds) = trail_by b m ds
trail_in Spent = []

-- what the member did, the newest first
abbrev pub done_in : SeatData → List Deed
done_in (Store k b back) = []
done_in (Own m q b ds) = ds
done_in Spent = []

-- the member's newest deed
abbrev pub did : Deed → SeatData → SeatData
did d (Store k b back) = Store k b back
did d (Own m q b ds) = Own m q b (d ∷ ds)
did d Spent = Spent

abbrev pub settled_in : SeatData → SeatData
settled_in (Store k b back) = Store k b back
settled_in (Own m q b ds) = Own m (record { settled = true; hand = q.hand }) b ds
settled_in Spent = Spent

-- the slots from the place on, k of them, each with nothing
abbrev pub row_out : ℕ → ℕ → List (ℕ × Option Parcel) → List (ℕ × Option Parcel)
row_out at zero l = l
row_out at (suc k) l = (at + k, None) ∷ row_out at k l

abbrev pub tells_commit : ℕ → Tells
tells_commit at st m r n = n ≡ (did (Commit at) m.0, m.1)

abbrev pub tells_unlock : Tells
tells_unlock st m r n = n ≡ (did Unlock m.0, m.1)

abbrev pub tells_lock : Tells
tells_lock st m r n = (r ≤ size (origin_in m.0)) × (r ≢ number_in m.0 + 1)
    × (r ≡ FREE_LOCK → n ≡ (did Lock m.0, m.1)) × ((h : ℕ) → r ≡ h + 1
    → n ≡ (did (Found (loads.Holder h)) m.0, m.1))

abbrev pub tells_look : Tells
tells_look st m r n = (a t : ℕ) → t < SLOTS → st.word ≡ pool_word (size (origin_in m.0)) a t
    → (w : SlotWord) × (r ≡ word_number w) × IsClearWord w
    × (n ≡ (did (Found (loads.Slot a t w)) m.0, m.1))

abbrev pub tells_settle : Tells
tells_settle st m r n = n ≡ (settled_in m.0, row_out (pool_place (number_in m.0) 0) SLOTS m.1)

abbrev pub IsNamed : Place → ℕ → View → ℕ → Type 0
IsNamed p m v t = IsNamedBy p m v.pending t

-- neither an own Empty slot nor in the member's hands
abbrev pub IsNotOut : Place → ℕ → View → ℕ → ℕ → Type 0
IsNotOut p m v a t = (a ≡ m → IsNamed p m v t) × (v.taken a t ≡ None)

abbrev pub tells_take : Tells
tells_take st m r n = (a t : ℕ) → t < SLOTS → st.word ≡ pool_word (size (origin_in m.0)) a t
    → (e : Entry) × (n ≡ (did (Take a t e) m.0, (pool_place a t, lies e None) ∷ m.1))
    × IsNotOut (place_of (origin_in m.0)) (number_in m.0) (view_in m.0) a t
    × ((c : ℕ) → In (loads.Slot a t (words.Posted c)) (view_in m.0).looked
    → length (words_of e) ≡ c)
    × HasSpelling e
    × IsUnlogged (number_in m.0) a t (view_in m.0) e

abbrev pub tells_post : List ℕ → ℕ → Tells
tells_post value at st m r n = (t : ℕ) (c : Change) → st.word
    ≡ pool_word (size (origin_in m.0)) (number_in m.0) t
    → m.1 ≡ (pool_place (number_in m.0) t, Some (parcels.Change c)) ∷ rest m.1
    → (n ≡ (did (Post t c.entry value at) m.0, rest m.1))
    × ((view_in m.0).taken (number_in m.0) t ≡ None)

-- all slots are given back; the group opened on this
abbrev pub tells_return : Origin → Tells
tells_return b st m r n = (n ≡ (m.0, [])) × (origin_in m.0 ≡ b)

-- the store, with one seat more split off, and that seat
abbrev pub left : SeatData → SeatData
left (Store k b back) = Store (suc k) b back
left (Own m q b ds) = Own m q b ds
left Spent = Spent

abbrev pub right : SeatData → SeatData
right (Store k b back) = Own k (record { settled = false; hand = None }) b (deeds_in back k)
right (Own m q b ds) = Own m q b ds
right Spent = Spent

-- the store, with what a member did whose seat came back
abbrev pub joined : SeatData → SeatData → SeatData
joined (Store k b back) (Store j c l) = Store k b back
joined (Store k b back) (Own m q c ds) = Store k b ((m, ds) ∷ back)
joined (Store k b back) Spent = Store k b back
joined (Own m q b ds) e = Own m q b ds
joined Spent e = Spent

-- a change is given back, done or failed
abbrev pub tells_give : (ℕ → ℕ → Deed) → Tells
tells_give d st m r n = (a t : ℕ) (c : Change) → t < SLOTS
    → st.word ≡ pool_word (size (origin_in m.0)) a t
    → m.1 ≡ (pool_place a t, Some (parcels.Change c)) ∷ rest m.1
    → (n ≡ (did (d a t) m.0, rest m.1)) × (a ≡ number_in m.0
    → IsNamed (place_of (origin_in m.0)) (number_in m.0) (view_in m.0) t)

-- the one change that stands in an own slot, which its member doesn't have out
pub record Stands (p : Place) (m : ℕ) (v : View) (t : ℕ) (e : Entry) : Type 0 where
  pub pends : v.pending e.key ≡ Some (record { entry = e; slot = Some t })
  pub alone : (k : ℕ) (x : Entry) → owner p k ≡ m → v.pending k
      ≡ Some (record { entry = x; slot = Some t }) → k ≡ e.key
  pub not_out : IsNotOut p m v m t

-- what an owner does with its change that a leader gave back with this home
abbrev pub over : ℕ → Entry → Option ℕ → Deed
over t e None = GiveUp t e
over t e (Some h) = Finish t e h

abbrev pub tells_finish : Tells
tells_finish st m r n = (t : ℕ) → t < SLOTS → st.word ≡ pool_word (size (origin_in m.0))
    (number_in m.0) t
    → (e : Entry) × (home : Option ℕ) × (n ≡ (
      did (over t e home) m.0,
      (pool_place (number_in m.0) t, lies e home) ∷ m.1,
    ))
    × Stands (place_of (origin_in m.0)) (number_in m.0) (view_in m.0) t e
    × MatchOption home (In (loads.Slot (number_in m.0) t words.Failed) (view_in m.0).looked)
    (λ h. In (loads.Slot (number_in m.0) t (words.Done h)) (view_in m.0).looked)
    × MatchOption home (TidiedIn (place_of (origin_in m.0)) (number_in m.0)
    (after_give_up e (view_in m.0)) (view_in n.0))
    (λ h. TidiedIn (place_of (origin_in m.0)) (number_in m.0) (after_finish e h (view_in m.0))
    (view_in n.0))
    × IfSome home (IsHome (place_of (origin_in m.0)) (number_in m.0) (view_in m.0) e)

abbrev pub tells_withdraw : Tells
tells_withdraw st m r n = (t : ℕ) → t < SLOTS → st.word
    ≡ pool_word (size (origin_in m.0)) (number_in m.0) t
    → (e : Entry) × (n ≡ (did (Withdraw t e) m.0, (pool_place (number_in m.0) t, lies e None) ∷ m.1))
    × Stands (place_of (origin_in m.0)) (number_in m.0) (view_in m.0) t e

abbrev pub tells_doom : List EntryName → ℕ → Tells
tells_doom ns at st m r n = n ≡ (did (Doom ns at) m.0, m.1)

abbrev pub tells_retire : List EntryName → ℕ → Tells
tells_retire ns at st m r n = (n ≡ (did (Retire ns at) m.0, m.1))
    × TidiedIn (place_of (origin_in m.0)) (number_in m.0)
    (after_retire (place_of (origin_in m.0)) (number_in m.0) ns (view_in m.0)) (view_in n.0)

abbrev pub hand_in : SeatData → Option MailHold
hand_in (Store k b back) = None
hand_in (Own m q b ds) = q.hand
hand_in Spent = None

-- the seat with this in its hand
abbrev pub gripping : Option MailHold → SeatData → SeatData
gripping g (Store k b back) = Store k b back
gripping g (Own m q b ds) = Own m (record { settled = q.settled; hand = g }) b ds
gripping g Spent = Spent

-- a load of an outgoing mailbox: where it is empty, its slot is taken in hand
abbrev pub tells_try_send : Tells
tells_try_send st m r n = (to : ℕ) → st.word ≡ mail_word (size (origin_in m.0)) (number_in m.0) to
    → ((r ≡ EMPTY_MAILBOX) × (n ≡ (
      gripping (grip_at (pool_place (number_in m.0) to) [] [])
          (did (Found (loads.Mail (number_in m.0) to false)) m.0),
      (mail_place (size (origin_in m.0)) (number_in m.0) to, None) ∷ m.1,
    )))
    ⊎ ((r ≢ EMPTY_MAILBOX) × (n ≡ (did (Found (loads.Mail (number_in m.0) to true)) m.0, m.1)))

abbrev pub tells_send : Tells
tells_send st m r n = (to : ℕ) (q : Notices) → st.word
    ≡ mail_word (size (origin_in m.0)) (number_in m.0) to
    → m.1 ≡ (mail_place (size (origin_in m.0)) (number_in m.0) to, Some (parcels.Notices q)) ∷ rest
    m.1
    → n ≡ (gripping None (did (Send to q.dead.names q.gone.names) m.0), rest m.1)

-- the seat has the slot of an incoming mailbox in hand, and what lies there
abbrev pub Fetched : SeatState → SeatState → ℕ → Type 0
Fetched m n from = (q : Notices) × (n ≡ (
  gripping (grip_at
      (pool_place from (number_in m.0)) q.dead.names q.gone.names)
      (did (Found (loads.Mail from (number_in m.0) true)) m.0),
  (mail_place (size (origin_in m.0)) from (number_in m.0), Some (parcels.Notices q)) ∷ m.1,
))
    × IsHeard (place_of (origin_in m.0)) (number_in m.0) from (view_in m.0) (notices_of q)

-- a load of an incoming mailbox: where it is full, its slot is taken in hand
abbrev pub tells_try_receive : Tells
tells_try_receive st m r n = (from : ℕ) → from < size (origin_in m.0)
    → st.word ≡ mail_word (size (origin_in m.0)) from (number_in m.0)
    → ((r ≢ EMPTY_MAILBOX) × Fetched m n from)
    ⊎ ((r ≡ EMPTY_MAILBOX) × (n ≡ (did (Found (loads.Mail from (number_in m.0) false)) m.0, m.1)))

abbrev pub tells_receive : Tells
tells_receive st m r n = (from : ℕ)
    → st.word ≡ mail_word (size (origin_in m.0)) from (number_in m.0)
    → (n ≡ (
      gripping None (did (Receive from (gripped (hand_in m.0)).dead
          (gripped (hand_in m.0)).gone) m.0),
      rest m.1,
    ))
    × TidiedIn (place_of (origin_in m.0)) (number_in m.0)
    (after_receive (place_of (origin_in m.0)) (number_in m.0) (gripped (hand_in m.0)) (view_in m.0))
    (view_in n.0)
