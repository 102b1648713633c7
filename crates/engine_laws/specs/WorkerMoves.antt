-- What one call of a worker says to whoever runs several: of its own keys, of its part, and of the group's state.
use Rattle.std.specs.Prelude.{◌≡◌, ◌⊎◌, ℕ, ◌≤◌, ◌==◌, length, List, [], ◌∷◌, ◌++◌, map, Bool, true, false, Option, Some, None, IfSome, IsSomeAnd}
use Rattle.std.specs.List.{AllByRecursion, filter}
use Rattle.fs_model.specs.declared.model.Request.{Request}
use Rattle.fs_model.specs.declared.model.Reply.{Reply}
use Rattle.fs_model.specs.declared.model.Reply.TheVariants.{Full, Stopped}
use Rattle.fs_model.specs.Cells.{key_of, cell_after, is_change}
use Rattle.fs_model.specs.Lawful.{IsLawfulFor, cell_of, is_finish}
use Rattle.pm_region.specs.State.{State, During, IsTelling, cell_now, Faulted}
use Rattle.pm_region.specs.Words.{KeepsOutside, lines_for}
use Rattle.log_entry.specs.declared.entry.Entry.{Entry}
use Rattle.store_image.specs.Facts.{In}
use Rattle.core_room.specs.declared.types.Shortage.{Shortage}
use Rattle.group_laws.specs.declared.types.Pending.{Pending}
use Rattle.group_laws.specs.declared.types.Slot.TheVariants.{Failed}
use Rattle.group_laws.specs.Places as places
use Rattle.group_laws.specs.State.{Group}
use Rattle.group_laws.specs.Runs.{Kind, Runs}
use Rattle.group_laws.specs.MemberViews.{View}
use Rattle.group_board.specs.Views.{left_in}
use Rattle.licence.specs.Licence.{Licensed, part_at, part_end}
use Rattle.engine_laws.specs.FreeStock.{Stock}
use Rattle.log_entry.specs.Spelling.{words_of}
use Rattle.headline.specs.Ample.{lines_of}
use Rattle.chunk_map.specs.declared.layouts.Geometry.{Geometry}
use Rattle.chunk_map.specs.Layouts.{payload_lines}
use Rattle.engine_laws.specs.RefusalCauses.{Refuses}
use Rattle.engine_laws.specs.StockChanges.{Spends}

-- a change in a place
pub record Placed : Type 0 where
  pub number : ℕ
  pub request : Request
  pub posted : Bool

-- what a worker holds, by key, whether it has stopped, and what it has free
pub record Hands : Type 0 where
  pub place : ℕ → Option Placed
  pub waits : ℕ → List (ℕ × Request)
  pub stopped : Bool
  pub stock : Stock

abbrev pub request_placed : Option Placed → List (ℕ × Request)
request_placed None = []
request_placed (Some x) = (x.number, x.request) ∷ []

abbrev pub line_in : Hands → ℕ → List (ℕ × Request)
line_in w k = request_placed (w.place k) ++ w.waits k

-- an answer that a call fixed, with its request, and with the cause of a refusal
pub record Fixed : Type 0 where
  pub number : ℕ
  pub request : Request
  pub reply : Reply
  pub refusal : Option Shortage

abbrev pub asked : Fixed → ℕ × Request
asked x = (x.number, x.request)

abbrev pub replied : Fixed → Request × Reply
replied x = (x.request, x.reply)

abbrev pub fixed_of : ℕ → List Fixed → List Fixed
fixed_of k xs = filter (λ x. key_of x.request == k) xs

abbrev pub requests_for : ℕ → List (ℕ × Request) → List (ℕ × Request)
requests_for k xs = filter (λ x. key_of x.1 == k) xs

-- What a worker keeps of an own key between calls.
pub record HoldsKey (v : View) (w : Hands) (k : ℕ) : Type 0 where
  pub posted : (x : Placed) → w.place k ≡ Some x → x.posted ≡ true
      → (is_change x.request (v.cell k) ≡ true) × ((p : Pending) × (s : ℕ) × (v.pending k ≡ Some p)
      × (p.slot ≡ Some s) × (left_in v.blocks p.entry.body ≡ cell_after x.request (v.cell k)))
  pub pending : (p : Pending) → v.pending k ≡ Some p
      → ((x : Placed) × (w.place k ≡ Some x) × (x.posted ≡ true))
      ⊎ ((p.slot ≡ None) × (w.place k ≡ None) × (w.stopped ≡ true))

-- What a call does for an own key.
pub record AnswersKey (v u : View) (w x : Hands) (k : ℕ) (accepted : List (ℕ × Request))
    (fixed : List Fixed) : Type 0 where
  -- first come, first answered
  pub order : line_in w k ++ accepted ≡ map asked fixed ++ line_in x k
  -- the replies are those of the cell
  pub lawful : IsLawfulFor (v.cell k) false (map replied fixed)
  pub cell : cell_of (v.cell k) (map replied fixed) ≡ u.cell k
  -- a core that has stopped, and has nothing of the key in a place, answers it Stopped
  pub after_stop : w.stopped ≡ true → w.place k ≡ None
      → AllByRecursion (λ y. y.reply ≡ Stopped) fixed × (x.place k ≡ None)
  pub stops : (y : Fixed) → In y fixed → y.reply ≡ Stopped → (x.stopped ≡ true) × (x.place k ≡ None)
  -- a posted change stays as it is, or is the first that is answered
  pub posted : (y : Placed) → w.place k ≡ Some y → y.posted ≡ true
      → ((fixed ≡ []) × (x.place k ≡ Some y))
      ⊎ ((r : Reply) × (rest : List Fixed) × (fixed
      ≡ record { number = y.number; request = y.request; reply = r; refusal = None } ∷ rest)
      × ((is_finish r ≡ true) ⊎ (r ≡ Stopped)))
  -- a change in doubt was so before, or was posted and is answered Stopped
  pub doubt : (d : Entry) → u.pending k ≡ Some (record { entry = d; slot = None })
      → (v.pending k ≡ Some (record { entry = d; slot = None }))
      ⊎ ((y : Placed) × (rest : List Fixed) × (s : ℕ) × (w.place k ≡ Some y) × (y.posted ≡ true)
      × (v.pending k ≡ Some (record { entry = d; slot = Some s }))
      × (fixed ≡ record {
        number = y.number;
        request = y.request;
        reply = Stopped;
        refusal = None;
      } ∷ rest) × (left_in u.blocks d.body ≡ left_in v.blocks d.body))

-- The change y, which waited or was accepted, stands in a place now.
pub record BeginsIn (p : places.Place) (m : ℕ) (w x : Hands) (accepted : List (ℕ × Request))
    (y : ℕ × Request) : Type 0 where
  pub own : places.owner p (key_of y.1) ≡ m
  pub waits : In y (w.waits (key_of y.1) ++ requests_for (key_of y.1) accepted)
  pub place : x.place (key_of y.1) ≡ Some (record { number = y.0; request = y.1; posted = false })

-- A change of a place was posted, by an entry of no more lines than it needs alone.
pub record PostsIn (p : places.Place) (m : ℕ) (v u : View) (w x : Hands) : Type 0 where
  pub change : Placed
  pub own : places.owner p (key_of change.request) ≡ m
  pub was : w.place (key_of change.request) ≡ Some change
  pub staged : change.posted ≡ false
  pub now : x.place (key_of change.request) ≡ Some (record {
    number = change.number;
    request = change.request;
    posted = true;
  })
  pub entry : Entry
  pub more : u.posted ≡ v.posted ++ entry ∷ []
  pub few : lines_for (length (words_of entry)) ≤ lines_of p.layout change.request

-- The call cleaned: at most one chunk was free, and no request was accepted or answered. What is free goes its own way then.
pub record CleansIn (l : Geometry) (s t : Stock) (accepted : List (ℕ × Request))
    (fixed : List Fixed) : Type 0 where
  pub scarce : s.chunks ≤ 1
  pub accepts_none : accepted ≡ []
  pub fixes_none : fixed ≡ []
  pub small : t.lines ≤ payload_lines l

-- What one call spends of the core's room, of the view from v to u, and of what the worker holds.
pub record SpendsIn (p : places.Place) (m : ℕ) (v u : View) (w x : Hands)
    (accepted : List (ℕ × Request)) (fixed : List Fixed) : Type 0 where
  -- only a core that runs answers Full, to a request that waited or was accepted
  pub runs : (y : Fixed) → In y fixed → y.reply ≡ Full → (w.stopped ≡ false)
      × In (asked y) (w.waits (key_of y.request) ++ requests_for (key_of y.request) accepted)
  -- a change stays in its place until it is answered, and posted once it is
  pub stays : (k : ℕ) (y : Placed) → places.owner p k ≡ m → w.place k ≡ Some y
      → fixed_of k fixed ≡ [] → (z : Placed) × (x.place k ≡ Some z) × (z.number ≡ y.number)
      × (y.posted ≡ true → z.posted ≡ true)
  pub begun : Option (ℕ × Request)
  pub begins : (y : ℕ × Request) → begun ≡ Some y → BeginsIn p m w x accepted y
  pub posts : (u.posted ≡ v.posted) ⊎ PostsIn p m v u w x
  pub spends : x.stopped ≡ false → Spends p.layout v.took v.flying u.took u.flying w.stock x.stock
      begun ⊎ CleansIn p.layout w.stock x.stock accepted fixed

-- one of the member's own changes came back as failed
abbrev pub HasDoubt : places.Place → ℕ → View → Type 0
HasDoubt p m v = (k : ℕ) × (d : Entry) × (places.owner p k ≡ m)
    × (v.pending k ≡ Some (record { entry = d; slot = None }))

-- One call of the worker of member m: of the region from s to t, of the group's state where it is told, of the view from v to u, and of what it holds.
pub record WorkerMoves (p : places.Place) (m : ℕ) (s t : State) (before after : Option Group)
    (v u : View) (w x : Hands) (accepted : List (ℕ × Request)) (fixed : List Fixed) : Type 0 where
  pub outside : During s t (KeepsOutside (cell_now s) (part_at p m) (part_end p m))
  pub moments : During s t (Licensed p m v)
  pub exit : IsTelling t → Licensed p m u (cell_now t)
  pub steps : List Kind
  pub whole : IfSome before (λ a. IsSomeAnd after (λ b. Runs a (map (λ y. (m, y)) steps) b))
  pub own : (y : Fixed) → In y fixed → places.owner p (key_of y.request) ≡ m
  pub keys : (k : ℕ) → places.owner p k ≡ m → AnswersKey v u w x k (requests_for k accepted)
      (fixed_of k fixed)
  pub holds : (k : ℕ) → places.owner p k ≡ m → HoldsKey u x k
  pub refuses : (k : ℕ) → places.owner p k ≡ m → Refuses p.layout w.stock (v.last k) (u.last k)
      (map replied (fixed_of k fixed))
  pub spends : SpendsIn p m v u w x accepted fixed
  -- it stops where a call of the region failed in this call, or an own change came back as failed
  pub stops : x.stopped ≡ true → (w.stopped ≡ true)
      ⊎ (Faulted s t ⊎ (HasDoubt p m u × IfSome before
      (λ a. (n : ℕ) × (d : Entry) × (a.slot m n ≡ Failed d))))
  pub breaks : u.broken ≡ true → x.stopped ≡ true
  pub stays_stopped : w.stopped ≡ true → x.stopped ≡ true
