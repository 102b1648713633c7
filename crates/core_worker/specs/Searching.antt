-- How a worker looks for a change of its own that is given back.
use Rattle.std.specs.Prelude.{◌≡◌, ℕ, ◌<◌, ◌++◌, Bool, true, false, List, Option, Some, None, IfSome}
use Rattle.group_laws.specs.declared.group_sizes.TheConstants.{SLOTS}
use Rattle.store_image.specs.Facts.{In}
use Rattle.group_laws.specs.declared.types.Seen.{Seen}
use Rattle.group_laws.specs.declared.types.Seen.TheVariants.{Slot}
use Rattle.group_laws.specs.declared.types.SlotWord.{SlotWord}
use Rattle.group_laws.specs.State.{Group, word_shown}
use Rattle.group_laws.specs.Runs.Kind.{Look}
use Rattle.group_laws.specs.MemberViews.{View}
use Rattle.group_board.specs.declared.board.SlotState.{SlotState}
use Rattle.group_board.specs.declared.board.SlotState.TheVariants as slots
use Rattle.group_board.specs.Told.{Makes, state_of}
use Rattle.group_board.specs.Views.{after_find}
use Rattle.batch_leader.specs.Leading.{MakesAll}
use Rattle.batch_leader.specs.TakenChanges.{MatchBool}
use Rattle.core_worker.specs.declared.types.Place.{Place}
use Rattle.core_worker.specs.declared.search_places.Search.{Search}
use Rattle.core_worker.specs.declared.search_places.Search.TheVariants.{Back, Out}
use Rattle.core_worker.specs.OwnPlaces.{place_at, is_posted}
use Rattle.core_worker.specs.Turns.{Moment, PassesItems, IsBack, FoundBack, FindsPosted}
use Rattle.core_worker.specs.Loads.{Load, looks_at}

-- the slot of a place is loaded where the place is posted
abbrev pub Sees : ℕ → ℕ → Option Group → Option Group → View → View → Place → Option SlotState
    → Type 0
Sees m slot before after v u x None = (is_posted x ≡ false) × (u ≡ v) × (after ≡ before)
Sees m slot before after v u x (Some state) = (is_posted x ≡ true)
    × ((word : SlotWord) × (state_of word ≡ state) × (u ≡ after_find (Slot m slot word) v))
    × Makes before m (Look m slot) after u × IfSome before
    (λ w. state_of (word_shown (w.slot m slot)) ≡ state)

abbrev pub is_given_back : SlotState → Bool
is_given_back slots.Empty = false
is_given_back (slots.Posted n) = false
is_given_back slots.Taken = false
is_given_back slots.Done = true
is_given_back slots.Failed = true

abbrev pub is_posted_or_taken : SlotState → Bool
is_posted_or_taken slots.Empty = false
is_posted_or_taken (slots.Posted n) = true
is_posted_or_taken slots.Taken = false
is_posted_or_taken slots.Done = false
is_posted_or_taken slots.Failed = false

abbrev pub shows_back : Option SlotState → Bool
shows_back None = false
shows_back (Some x) = is_given_back x

abbrev pub shows_out : Option SlotState → Bool
shows_out None = false
shows_out (Some x) = is_posted_or_taken x

-- The slots of the posted places below one were loaded, and none was found given back.
pub record Searched (before after : Option Group) (m : ℕ) (ps : List Place) (v : View) (upto : ℕ)
    (posted : Bool) (u : View) : Type 0 where
  pub found : ℕ → SlotWord
  pub looks : List Seen
  pub view : u ≡ record v { looked = v.looked ++ looks }
  pub seen : (s : ℕ) → s < upto → is_posted (place_at ps s) ≡ true → In (Slot m s (found s)) looks
  pub none : (s : ℕ) → s < upto → is_posted (place_at ps s) ≡ true → IsBack (found s) → ⊥
  pub flag : MatchBool posted (FindsPosted ps found upto) (FindsPosted ps found upto → ⊥)
  pub loads : List Load
  pub made : MakesAll before (looks_at m loads) after m u

-- The lowest posted place that is given back, or none is; then also whether a change was found that nobody had taken.
abbrev pub Finds : Search → ℕ → Moment → View → Type 0
Finds (Back slot) m a u = (slot < SLOTS) × (is_posted (place_at a.worker.places.items slot) ≡ true)
    × (before : PassesItems m a slot u) × FoundBack m slot before.looked.looks
Finds (Out posted) m a u = (before : PassesItems m a SLOTS u)
    × MatchBool posted (FindsPosted a.worker.places.items before.looked.found SLOTS)
    (FindsPosted a.worker.places.items before.looked.found SLOTS → ⊥)
