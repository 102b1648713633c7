-- What each core gets of the entries of all logs.
use Rattle.std.specs.Prelude.{◌≡◌, ℕ, ◌<◌, ◌==◌, ◌≢◌, List, [], ◌++◌, true, false, slice_index_or, option_map, Result, Ok, Err, None, Some, Vec}
use Rattle.std.specs.Global.{Global}
use Rattle.std.specs.Option.{option_to_list}
use Rattle.std.specs.List.{list_any, AllByRecursion}
use Rattle.log_entry.specs.declared.entry.Body.{Body}
use Rattle.log_entry.specs.declared.entry.Body.TheVariants.{Pointer}
use Rattle.chunk_map.specs.declared.layouts.Geometry.{Geometry}
use Rattle.chunk_map.specs.Layouts.{owner}
use Rattle.store_image.specs.declared.types.PlacedEntry.{PlacedEntry}
use Rattle.store_image.specs.Parts.{all_entries}
use Rattle.store_image.specs.Winners.{winner_in}
use Rattle.store_image.specs.Soundness.{damage}
use Rattle.core_index.specs.declared.types.Standee.{Standee}
use Rattle.core_index.specs.Records.{standing_at, standing_of, standing_with, opened_with, pointer_of}
use Rattle.core_index.specs.Index.{known_at, room_at, EntersAs}
use Rattle.recover.specs.declared.found_entries.Found.{Found}
use Rattle.recover.specs.declared.shares.Share.{Share}
use Rattle.recover.specs.declared.types.RecoverError.{RecoverError}
use Rattle.recover.specs.Causes.{HasCause}
use Rattle.recover.specs.Winning.{winners_of}
use Rattle.recover.specs.Judging.{winners_fault}
use Rattle.recover.specs.Gathering.{AllSpell}
use Rattle.recover.specs.Starts.{KnownAs, IsSpelledIndex, named_in}

-- a key of the core whose winner among the entries points there
pub record PointsFor (l : Geometry) (es : List PlacedEntry) (c p : ℕ) : Type 0 where
  pub key : ℕ
  pub winner_is : PlacedEntry
  pub wins : winner_in key es ≡ Some winner_is
  pub owned : owner l key ≡ c
  pub points : winner_is.entry.body ≡ Pointer p

-- the core's keys with their winners and all their entries, and the pointers of the winners
pub record IsShare (l : Geometry) (es : List PlacedEntry) (c : ℕ) (share : Share) : Type 0 where
  pub others : (k : ℕ) → (owner l k ≡ c → ⊥) → known_at share.index k ≡ None
  pub known : (k : ℕ) → owner l k ≡ c → KnownAs (winner_in k es) (known_at share.index k)
  pub standing : (k v : ℕ) → owner l k ≡ c → standing_at
      (standing_of (known_at share.index k)) v
      ≡ option_map (λ x. standing_with v x.core false) (named_in k v es)
  pub room : (k : ℕ) → room_at share.index k ≡ 0
  pub points : (p : ℕ) → list_any (λ q. q == p) share.pointers.items ≡ true → PointsFor l es c p
  pub pointed : (p : ℕ) → PointsFor l es c p → list_any (λ q. q == p) share.pointers.items ≡ true

-- one for each core, in their order
abbrev pub AreShares : Geometry → List PlacedEntry → List Share → Type 0
AreShares l es shares = (c : ℕ) (d : Share) → c < l.cores
    → IsShare l es c (slice_index_or shares c d)

-- whatever the region tells: words can spell what is known of each key
abbrev pub AreSpelledShares : Geometry → List Share → Type 0
AreSpelledShares l shares = (c : ℕ) (d : Share) → c < l.cores
    → IsSpelledIndex (slice_index_or shares c d).index

-- what entries give whose winners break none of rules 9 to 11, or the first that one breaks
abbrev pub GivesShares : Geometry → (ℕ → ℕ) → List PlacedEntry
    → Result (Vec Share Global) RecoverError → Type 0
GivesShares l image es (Ok shares) = (winners_fault l image [] (winners_of es) ≡ None)
    × AreShares l es shares.items
GivesShares l image es (Err e) = HasCause (winners_fault l image [] (winners_of es)) e

-- the shares of an image that keeps rules 4 to 11, or the first that it breaks
abbrev pub Shares : Geometry → (ℕ → ℕ) → Result (Vec Share Global) RecoverError → Type 0
Shares l image (Ok shares) = (damage l image ≡ None) × AllSpell l image
    × AreShares l (all_entries l image) shares.items
Shares l image (Err e) = HasCause (damage l image) e

-- nothing is known of any key
pub record IsEmpty (share : Share) : Type 0 where
  pub known : (k : ℕ) → known_at share.index k ≡ None
  pub room : (k : ℕ) → room_at share.index k ≡ 0
  pub pointers : share.pointers.items ≡ []

abbrev pub AreEmpty : List Share → Type 0
AreEmpty shares = AllByRecursion IsEmpty shares

-- a winner's key has this body and these entries, and its pointer was appended
pub record Enters (old new : Share) (winner : Found) (body : Body) (standing : List Standee)
    : Type 0 where
  pub index : EntersAs old.index new.index winner.key (opened_with winner.version body standing)
  pub pointers : new.pointers.items ≡ old.pointers.items ++ option_to_list (pointer_of body)

-- The core that owns the winner's key got it, and no other core got anything.
pub record Gives (l : Geometry) (old new : List Share) (winner : Found) (body : Body)
    (standing : List Standee) : Type 0 where
  pub owner_gets : (d : Share) → Enters (slice_index_or old (owner l winner.key) d)
      (slice_index_or new (owner l winner.key) d) winner body standing
  pub others : (c : ℕ) (d : Share) → c ≢ owner l winner.key
      → slice_index_or new c d ≡ slice_index_or old c d
