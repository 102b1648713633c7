-- A load changes nothing of what a core knows; doomed names may go.
use Rattle.std.proofs.Common.{◌≡◌, ℕ, Bool, true, cond, List, [], ap}
use Rattle.std.proofs.lemmas.Bool.{and_parts}
use Rattle.log_entry.specs.declared.entry.EntryName.{EntryName}
use Rattle.core_index.specs.Index.{known_at}
use Rattle.core_index.specs.Records.{KeyRecord}
use Rattle.core_index.specs.Slots as slots
use Rattle.std.proofs.Common.{Option, Some, None}
use Rattle.log_entry.specs.declared.entry.Body.{Body}
use Rattle.log_entry.specs.declared.entry.Body.TheVariants as bodies
use Rattle.log_standing.specs.NameCounts.{StandingState, is_told}
use Rattle.log_cleaner.specs.Clearing.{AreLone}
use Rattle.log_cleaner.specs.Vanishing.{MayGo}
use Rattle.group_laws.specs.declared.types.Seen.{Seen}
use Rattle.group_laws.specs.Updates.{has}
use Rattle.group_laws.specs.Places.{Place}
use Rattle.group_laws.specs.MemberViews.{View}
use Rattle.group_board.specs.Views.{after_find, after_doom}
use Rattle.core_worker.specs.declared.types.Place as places
use Rattle.core_worker.specs.KeyTies.{Left, LeftIn}
use Rattle.core_worker.specs.GoneNames.{KnowsAll}
use Rattle.core_worker.specs.LogNames.{KnowsBy}
use Rattle.core_worker.proofs.LogNames.{has_times}

left_find : (x : Seen) (v : View) (k : ℕ) (o : Option KeyRecord) (c : Option (List ℕ)) → LeftIn v k o c → LeftIn (after_find x v) k o c
left_find x v k None c l = l
left_find x v k (Some r) c l = by r.body l where
  by : (b : Body) → Left v k b c → Left (after_find x v) k b c
  by (bodies.Pointer q) l = l
  by (bodies.Embedded y) l = l
  by bodies.Tombstone l = l

pub knows_find : (p : Place) (m : ℕ) (x : Seen) (v : View) (ps : List places.Place) (es : List (ℕ × slots.Place)) → KnowsAll p m v ps es → KnowsAll p m (after_find x v) ps es
knows_find p m x v ps es Q = record {
  keys = λ k own. let K = Q.keys k own in record { last = K.last; cell = left_find x v k (known_at es k) (v.cell k) K.cell; present = K.present; told = K.told };
  quiet = Q.quiet;
  posted = Q.posted;
  remembers = Q.remembers;
  mine = Q.mine;
  heard = Q.heard;
}

pub names_find : (m : ℕ) (x : Seen) (v : View) (st : StandingState) → KnowsBy m v st → KnowsBy m (after_find x v) st
names_find m x v st L = record { stands = L.stands; all = L.all; deaths = L.deaths; buried = L.buried; own = L.own; heard = L.heard }

-- names that were told dead may be doomed
pub lone_dead : (v : View) (st : StandingState) (ns : List EntryName) → AreLone st ns → ((k n : ℕ) → is_told st k n ≡ true → v.dead k n ≡ true) → (k n : ℕ) → has ns k n ≡ true → v.dead k n ≡ true
lone_dead v st ns lone told k n e = told k n (and_parts (is_told st k n) _ (lone k n (has_times ns k n e))).0

pub may_go : (v : View) (ns : List EntryName) → v.flying ≡ [] → MayGo (after_doom ns v) ns
may_go v ns idle = record { idle = idle; doomed = λ k n e. ap (λ (b : Bool). cond b true (v.doomed k n)) e }
