-- What a core makes of what other members tell it, and how it finds that none told it anything.
use Rattle.std.specs.Prelude.{◌≡◌, ◌≢◌, ◌⊎◌, ℕ, ◌<◌, ◌≤◌, Bool, true, false, List, ◌++◌, length, Option}
use Rattle.store_image.specs.Facts.{In}
use Rattle.core_index.specs.Index.{all_untold}
use Rattle.group_laws.specs.declared.types.Seen.{Seen}
use Rattle.group_laws.specs.declared.types.Seen.TheVariants.{Mail}
use Rattle.group_laws.specs.Places.{Place, members, core_of}
use Rattle.group_laws.specs.State.{Group, Notices}
use Rattle.group_laws.specs.Runs.{Kind}
use Rattle.group_laws.specs.MemberViews.{View}
use Rattle.group_board.specs.Assurances.{IsHeard}
use Rattle.group_board.specs.Told.{Makes, MakesBoth}
use Rattle.group_board.specs.Trails.{TrailStep}
use Rattle.group_board.specs.Views.{after_find, after_receive, TidiedIn}
use Rattle.batch_leader.specs.Leading.{MakesAll}
use Rattle.batch_leader.specs.TurnSteps.{OnlyLoads, LoadsThenOne}
use Rattle.core_worker.specs.declared.worker.Worker.{Worker}
use Rattle.core_worker.specs.LogNames.{HearsNotices}
use Rattle.core_worker.specs.Loads.{Load, looks_at}

-- Member m received what member `from` told it. Its index, its places and the names that stand in its log follow, and nothing else of it does: dead names are told dead, gone ones leave the records of their keys, and a key of which nothing stands is forgotten.
pub record Hears (p : Place) (m from : ℕ) (v u : View) (w x : Worker) : Type 0 where
  pub notices : Notices
  pub heard : IsHeard p m from v notices
  pub hears : HearsNotices (core_of p m) notices w.places.items x.places.items w.index x.index
      w.standing x.standing
  pub view : TidiedIn p m (after_receive p m notices v) u
  pub count : length x.standing.entries ≡ length w.standing.entries
  pub untold : all_untold x.index ≤ all_untold w.index
  pub same : x ≡ record w { index = x.index; standing = x.standing; places = x.places }

-- It received, or loaded the mailbox and found it empty. A core has no mailbox to itself.
abbrev pub ReceivesMail : Bool → Place → ℕ → ℕ → Option Group → Option Group → View → View → Worker
    → Worker → Type 0
ReceivesMail true p m from before after v u w x = Hears p m from v u w x
    × MakesBoth before m (Kind.LookMail from m) (Kind.Receive from) after u
ReceivesMail false p m from before after v u w x = (x ≡ w)
    × (((u ≡ after_find (Mail from m false) v) × Makes before m (Kind.LookMail from m) after u)
    ⊎ ((from ≡ m) × (u ≡ v) × (after ≡ before)))

-- Of the mailboxes to member m from those below a number each was loaded, and found empty.
pub record FoundEmpty (m upto : ℕ) (before after : Option Group) (v u : View) : Type 0 where
  pub looks : List Seen
  pub view : u ≡ record v { looked = v.looked ++ looks }
  pub empty : (a : ℕ) → a < upto → a ≢ m → In (Mail a m false) looks
  pub loads : List Load
  pub made : MakesAll before (looks_at m loads) after m u

-- What the lowest member with a full mailbox told was received, after the empty ones below were loaded; or all are empty.
pub record ReceivesLowest (p : Place) (m : ℕ) (before after : Option Group) (v u : View)
    (w x : Worker) : Type 0 where
  pub mid : View
  pub between : Option Group
  pub from : ℕ
  pub empty : FoundEmpty m from before between v mid
  pub hears : Hears p m from mid u w x
  pub made : MakesBoth between m (Kind.LookMail from m) (Kind.Receive from) after u

abbrev pub ReceivesFirst : Bool → Place → ℕ → Option Group → Option Group → View → View → Worker
    → Worker → Type 0
ReceivesFirst true p m before after v u w x = ReceivesLowest p m before after v u w x
ReceivesFirst false p m before after v u w x = (x ≡ w)
    × FoundEmpty m (members p) before after v u

-- the steps that it made: loads, and then it received or not
abbrev pub MailSteps : Bool → View → View → List TrailStep → List TrailStep → Type 0
MailSteps true v u old new = LoadsThenOne v u old new
MailSteps false v u old new = OnlyLoads v u old new

-- by these loads no member told it anything
abbrev pub NoneTold : Place → ℕ → List Seen → Type 0
NoneTold p m looks = (a : ℕ) → a < members p → a ≢ m → In (Mail a m false) looks

-- Why mail is passed: the core has stopped or winds down, or by this turn's loads no member told it anything.
abbrev pub PassesMail : Place → ℕ → Worker → List Seen → Type 0
PassesMail p m w looks = (w.stopped ≡ true) ⊎ ((w.winds_down ≡ true) ⊎ NoneTold p m looks)
