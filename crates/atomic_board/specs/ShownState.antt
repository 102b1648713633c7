-- The state that a table's words, slots and views show, and the rule.
-- The first seat has the store. The seat that was split k-th from it is member k's: it stands behind the store, at the place k + 1.
use Rattle.std.specs.Prelude.{◌≡◌, ℕ, suc, ◌+◌, ◌*◌, ◌<◌, ◌≤◌, Bool, true, false, cond, eqb, ◌||◌, List, [], ◌∷◌, ◌++◌, length, slice_index, Option, Some, None, ◌⊎◌}
use mathlib.Core.Option.{some, none}
use mathlib.Core.Option as maybe
use lib.ListN.{get_elem?}
use Rattle.atomic_table.specs.Table.{State}
use Rattle.log_entry.specs.declared.entry.Entry.{Entry}
use Rattle.log_entry.specs.declared.entry.EntryName.{EntryName}
use Rattle.chunk_map.specs.declared.layout_sizes.TheConstants.{MOST_GROUP}
use Rattle.group_laws.specs.declared.group_sizes.TheConstants.{SLOTS}
use Rattle.group_laws.specs.declared.types.Slot.{Slot}
use Rattle.group_laws.specs.declared.types.Slot.TheVariants.{Empty, Posted, Taken, Done, Failed}
use Rattle.group_laws.specs.State.{Notices, word_shown, Group}
use Rattle.group_laws.specs.Invariant.{Lawful}
use Rattle.group_laws.specs.Runs.{Runs}
use Rattle.group_laws.specs.MemberViews.{View}
use Rattle.atomic_board.specs.declared.parcel.Parcel.{Parcel}
use Rattle.atomic_board.specs.declared.parcel.Parcel.TheVariants as parcels
use Rattle.atomic_board.specs.declared.seat_data.Origin.{Origin}
use Rattle.group_board.specs.declared.names.Notices.{Notices as Parceled}
use Rattle.group_board.specs.Mailing.{notices_of}
use Rattle.atomic_board.specs.declared.seat_data.MailHold.{MailHold}
use Rattle.atomic_board.specs.declared.seat_data.Holding.{Holding}
use Rattle.atomic_board.specs.declared.seat_data.Deed.{Deed}
use Rattle.atomic_board.specs.declared.seat_data.SeatData.{SeatData}
use Rattle.atomic_board.specs.declared.seat_data.SeatData.TheVariants.{Store, Own, Spent}
use Rattle.atomic_board.specs.declared.table_words.TheConstants.{EMPTY_MAILBOX, FULL_MAILBOX, LOCK}
use Rattle.atomic_board.specs.TableWords.{own_word, pool_word, pool_place, mail_word, mail_place, word_count, lock_word, word_number}
use Rattle.atomic_board.specs.Deeds.{group_of, began, names_of, place_of, size, view_by, steps_in, deeds_of, own_number}
use Rattle.group_board.specs.Tidies.{Covers}

abbrev pub TableState : Type 0
TableState = State (Option Parcel) SeatData

abbrev pub Home : Type 0
Home = maybe.Option (maybe.Option (Option Parcel))

-- a change as it lies in a slot
abbrev pub lies : Entry → Option ℕ → Option Parcel
lies e home = Some (parcels.Change (record { entry = e; home = home }))

abbrev pub deeds_in : List (ℕ × List Deed) → ℕ → List Deed
deeds_in [] m = []
deeds_in (x ∷ xs) m = cond (eqb m x.0) x.1 (deeds_in xs m)

abbrev pub stored : SeatData → ℕ → List Deed
stored (Store k b back) m = deeds_in back m
stored (Own j q b ds) m = []
stored Spent m = []

abbrev pub own_or : List Deed → maybe.Option SeatData → List Deed
own_or l none = l
own_or l (some (Store k b back)) = l
own_or l (some (Own j q b ds)) = ds
own_or l (some Spent) = l

-- the member's seat came back
abbrev pub is_back : List (ℕ × List Deed) → ℕ → Bool
is_back [] m = false
is_back (x ∷ xs) m = eqb m x.0 || is_back xs m

-- what each member did: by its seat, or by the store where it has none
abbrev pub deeds_at : List SeatData → ℕ → List Deed
deeds_at [] m = []
deeds_at (d ∷ ds) m = own_or (stored d m) (get_elem? ds m)

abbrev pub views_of : Origin → List SeatData → ℕ → View
views_of b ds m = view_by b m (deeds_at ds m)

abbrev pub pose_or : maybe.Option SeatData → Holding
pose_or none = record { settled = false; hand = None }
pose_or (some (Store k b back)) = record { settled = false; hand = None }
pose_or (some (Own j q b ds)) = q
pose_or (some Spent) = record { settled = true; hand = None }

abbrev pub pose_at : List SeatData → ℕ → Holding
pose_at [] m = record { settled = false; hand = None }
pose_at (d ∷ ds) m = pose_or (get_elem? ds m)

-- A slot that is Posted, Done or Failed is at home with its change. An Empty one is its owner's to take: it is at home, with nothing, until its owner has settled. A Taken one is its taker's.
abbrev pub IsHome : Home → Bool → Slot → Type 0
IsHome h settled Empty = settled ≡ false → h ≡ some (some None)
IsHome h settled (Posted e) = h ≡ some (some (lies e None))
IsHome h settled Taken = Unit {0}
IsHome h settled (Done e home) = (h ≡ some (some (lies e (Some home)))) × (home < MOST_GROUP)
IsHome h settled (Failed e) = h ≡ some (some (lies e None))

-- the hand has the slot of that mailbox
abbrev pub grips : Option MailHold → ℕ → Bool
grips None k = false
grips (Some g) k = eqb g.place k

abbrev pub grip_at : ℕ → List EntryName → List EntryName → Option MailHold
grip_at k dead gone = Some (record { place = k; dead = dead; gone = gone })

abbrev pub gripped : Option MailHold → Notices
gripped None = record { dead = []; gone = [] }
gripped (Some g) = record { dead = g.dead; gone = g.gone }

-- a mailbox's word and what lies in its slot, with the hands of its sender and its receiver
abbrev pub IsBox : ℕ → Home → ℕ → Option MailHold → Option MailHold → Option Notices → Type 0
IsBox x h k s r None = (x ≡ EMPTY_MAILBOX) × (grips r k ≡ false)
    × (grips s k ≡ false → h ≡ some (some None))
IsBox x h k s r (Some n) = (x ≡ FULL_MAILBOX) × (grips r k ≡ false → (q : Parceled)
    × (h ≡ some (some (Some (parcels.Notices q)))) × (notices_of q ≡ n))
    × (grips r k ≡ true → n ≡ gripped r)

-- a slot's word and what lies in it
abbrev pub IsSlot : ℕ → Home → Bool → Slot → Type 0
IsSlot x h settled y = (x ≡ word_number (word_shown y)) × IsHome h settled y

pub record Fits (b : Origin) (holder : Option ℕ) (slot : ℕ → ℕ → Slot)
    (mail : ℕ → ℕ → Option Notices) (s : TableState) : Type 0 where
  pub few : size b ≤ MOST_GROUP
  pub begun : Covers (names_of b) (began b)
  pub wide : length s.words ≡ word_count (size b)
  pub many : length s.homes ≡ (SLOTS + MOST_GROUP) * size b
  pub lock : slice_index s.words LOCK ≡ lock_word holder
  pub member : lock_word holder ≤ size b
  pub given : ℕ
  pub low : given ≤ size b
  pub back : List (ℕ × List Deed)
  pub store : get_elem? s.views 0 ≡ some (Store given b back)
  pub long : length s.views ≡ suc given
  pub gone : (m : ℕ) → is_back back m ≡ true → get_elem? s.views (suc m) ≡ some Spent
  pub own : (j : ℕ) (d : SeatData) → get_elem? s.views (suc j) ≡ some d
      → ((q : Holding) × (ds : List Deed) × (d ≡ Own j q b ds)) ⊎ (d ≡ Spent)
  pub pool : (a t : ℕ) → a < size b → t < SLOTS
      → IsSlot (slice_index s.words (pool_word (size b) a t)) (get_elem? s.homes (pool_place a t))
      (pose_at s.views a).settled (slot a t)
  pub outside : (a t : ℕ) → (size b ≤ a) ⊎ (SLOTS ≤ t) → slot a t ≡ Empty
  pub box : (a c : ℕ) → a < size b → c < size b → IsBox
      (slice_index s.words (mail_word (size b) a c)) (get_elem? s.homes (mail_place (size b) a c))
      (pool_place a c) (pose_at s.views a).hand (pose_at s.views c).hand (mail a c)
  pub no_box : (a c : ℕ) → (size b ≤ a) ⊎ (size b ≤ c) → mail a c ≡ None
  pub count : (m : ℕ) → m < size b
      → slice_index s.words (own_word m) ≡ own_number (deeds_at s.views m)

-- A state that the steps of these deeds lead to, in which each member has the view of its deeds.
pub record IsCut (b : Origin) (order : List (ℕ × Deed)) : Type 0 where
  pub holder : Option ℕ
  pub slot : ℕ → ℕ → Slot
  pub mail : ℕ → ℕ → Option Notices
  pub runs : Runs (began b) (steps_in order)
      (group_of (place_of b) holder slot mail (λ m. view_by b m (deeds_of order m)))

-- Steps of the machine lead to this state from the one on which the group opened, so it is lawful. The steps are the deeds of the members, in one order of all, the newest first: of each member all that it did, and nothing else.
pub record IsReached (b : Origin) (deeds : ℕ → List Deed) (w : Group) : Type 0 where
  pub lawful : Lawful w
  pub order : List (ℕ × Deed)
  pub runs : Runs (began b) (steps_in order) w
  pub made : (m : ℕ) → deeds_of order m ≡ deeds m
  -- before each of them a state was shown
  pub cuts : (late : List (ℕ × Deed)) (x : ℕ × Deed) (early : List (ℕ × Deed))
      → order ≡ late ++ x ∷ early → IsCut b early

-- A lawful state is shown, that steps of the machine lead to: its holder and its slots by the words and what lies at home, its views by the seats.
pub record ShowsLawful (b : Origin) (s : TableState) : Type 0 where
  pub holder : Option ℕ
  pub slot : ℕ → ℕ → Slot
  pub mail : ℕ → ℕ → Option Notices
  pub fits : Fits b holder slot mail s
  pub reached : IsReached b (deeds_at s.views)
      (group_of (place_of b) holder slot mail (views_of b s.views))

-- the state that is shown
abbrev pub state_shown : (b : Origin) (s : TableState) → ShowsLawful b s → Group
state_shown b s o = group_of (place_of b) o.holder o.slot o.mail (views_of b s.views)
