-- What one move of one core says: `accept` of the first request of its backlog, or a turn.
use Rattle.std.specs.Prelude.{◌≡◌, ◌≢◌, ◌⊎◌, ℕ, ◌+◌, ◌<◌, List, [], ◌∷◌, ◌++◌, map, true, false, Some, None}
use Rattle.std.specs.List.{AllByRecursion}
use Rattle.fs_model.specs.declared.model.Request.{Request}
use Rattle.fs_model.specs.declared.model.Reply.{Reply}
use Rattle.fs_model.specs.declared.model.Reply.TheVariants.{Stopped}
use Rattle.fs_model.specs.Cells.{key_of, cell_after, is_change}
use Rattle.fs_model.specs.Lawful.{IsLawfulFor, cell_of, is_finish}
use Rattle.pm_region.specs.State.{During, IsTelling, cell_now, Faulted}
use Rattle.pm_region.specs.Words.{KeepsOutside}
use Rattle.chunk_map.specs.Layouts.{part_first, owner}
use Rattle.store_image.specs.Facts.{In}
use Rattle.log_entry.specs.declared.entry.Entry.{Entry}
use Rattle.group_laws.specs.declared.types.Pending.{Pending}
use Rattle.group_laws.specs.declared.types.Slot.TheVariants.{Failed}
use Rattle.group_laws.specs.Places as places
use Rattle.group_laws.specs.Steps.{left_by}
use Rattle.group_laws.specs.Runs.{Kind, Runs}
use Rattle.engine_laws.specs.Parts.{group_of, member_of, LicensedPart}
use Rattle.engine_laws.specs.RefusalCauses.{Refuses}
use Rattle.engine_laws.specs.Spending.{SpendsRoom}
use Rattle.engine_laws.specs.WorkerMoves.{Placed, Fixed, asked, replied, fixed_of, requests_for}
use Rattle.engine_laws.specs.Engine.{Engine, group_for, cell_at, line}

-- Between two moves, of a key: its posted change is pending in the owner's view, changes the cell, and its entry leaves what the request asks for. Nothing else of the key is pending, but for a change in doubt, and then nothing is in a place and the core has stopped.
pub record KeyHolds (e : Engine) (k : ℕ) : Type 0 where
  pub posted : (x : Placed) → e.place k ≡ Some x → x.posted ≡ true
      → (is_change x.request (cell_at e k) ≡ true)
      × ((p : Pending) × (s : ℕ) × ((group_for e k).pending k ≡ Some p) × (p.slot ≡ Some s)
      × (left_by (group_for e k) (places.owner (group_for e k).place k) p.entry.body
      ≡ cell_after x.request (cell_at e k)))
  pub pending : (p : Pending) → (group_for e k).pending k ≡ Some p
      → ((x : Placed) × (e.place k ≡ Some x) × (x.posted ≡ true))
      ⊎ ((p.slot ≡ None) × (e.place k ≡ None) × (e.stopped (owner e.layout k) ≡ true))

-- What a move says of a key of its core: `accepted` are the requests of the key that it accepted, `fixed` the answers for the key, in the order in which they were fixed.
pub record KeyMoves (e f : Engine) (k : ℕ) (accepted : List (ℕ × Request))
    (fixed : List Fixed) : Type 0 where
  -- first come, first answered
  pub order : line e k ++ accepted ≡ map asked fixed ++ line f k
  -- the replies are those of the cell; once the core has stopped and the key is idle, all are Stopped
  pub lawful : IsLawfulFor (cell_at e k) false (map replied fixed)
  pub cell : cell_of (cell_at e k) (map replied fixed) ≡ cell_at f k
  pub after_stop : e.stopped (owner e.layout k) ≡ true → e.place k ≡ None
      → AllByRecursion (λ x. x.reply ≡ Stopped) fixed × (f.place k ≡ None)
  pub stops : (x : Fixed) → In x fixed → x.reply ≡ Stopped → (f.stopped (owner e.layout k) ≡ true)
      × (f.place k ≡ None)
  -- a posted change stays as it is, or is answered: it is finished, or the core has stopped
  pub posted : (x : Placed) → e.place k ≡ Some x → x.posted ≡ true
      → ((fixed ≡ []) × (f.place k ≡ Some x))
      ⊎ ((r : Reply) × (rest : List Fixed) × (fixed
      ≡ record { number = x.number; request = x.request; reply = r; refusal = None } ∷ rest)
      × ((is_finish r ≡ true) ⊎ (r ≡ Stopped)))
  -- a change in doubt was so before, or was posted and has been answered Stopped
  pub doubt : (d : Entry) → (group_for f k).pending k ≡ Some (record { entry = d; slot = None })
      → ((group_for e k).pending k ≡ Some (record { entry = d; slot = None }))
      ⊎ ((x : Placed) × (rest : List Fixed) × (s : ℕ) × (e.place k ≡ Some x) × (x.posted ≡ true)
      × ((group_for e k).pending k ≡ Some (record { entry = d; slot = Some s }))
      × (fixed ≡ record {
        number = x.number;
        request = x.request;
        reply = Stopped;
        refusal = None;
      } ∷ rest)
      × (left_by (group_for f k) (places.owner (group_for f k).place k) d.body
      ≡ left_by (group_for e k) (places.owner (group_for e k).place k) d.body))

-- What the answers become: those that were fixed, with the stamp after the move, and else as before.
pub record Answers (e f : Engine) (fixed : List Fixed) : Type 0 where
  pub new : (x : Fixed) → In x fixed → f.answer x.number
      ≡ Some (record { reply = x.reply; stamp = f.region.stamp })
  pub old : (n : ℕ) → ((x : Fixed) → In x fixed → x.number ≢ n) → f.answer n ≡ e.answer n

-- A move of core c from e to f.
pub record Moves (e f : Engine) (c : ℕ) (accepted : List (ℕ × Request))
    (fixed : List Fixed) : Type 0 where
  pub core : c < e.layout.cores
  pub layout : f.layout ≡ e.layout
  -- the core's steps in its group
  pub steps : List Kind
  pub runs : Runs (e.group (group_of e.layout c)) (map (λ x. (member_of e.layout c, x)) steps)
      (f.group (group_of e.layout c))
  pub other_groups : (g : ℕ) → g ≢ group_of e.layout c → f.group g ≡ e.group g
  -- At each moment no word outside the core's part is stored or flushed, and the part is licensed by the view from before the move; at the end by the view from after it.
  pub outside : During e.region f.region (KeepsOutside (cell_now e.region) (part_first e.layout c)
      (part_first e.layout (c + 1)))
  pub moments : During e.region f.region (LicensedPart e.layout c (e.group (group_of e.layout c)))
  pub exit : IsTelling f.region → LicensedPart e.layout c (f.group (group_of e.layout c))
      (cell_now f.region)
  -- the requests
  pub given : f.given ≡ e.given
  pub backlog : e.backlog c ≡ accepted ++ f.backlog c
  pub other_backlogs : (d : ℕ) → d ≢ c → f.backlog d ≡ e.backlog d
  pub own_keys : (x : ℕ × Request) → In x accepted → owner e.layout (key_of x.1) ≡ c
  -- the keys
  pub keys : (k : ℕ) → owner e.layout k ≡ c → KeyMoves e f k (requests_for k accepted)
      (fixed_of k fixed)
  pub holds : (k : ℕ) → owner e.layout k ≡ c → KeyHolds f k
  pub other_keys : (k : ℕ) → owner e.layout k ≢ c → (f.place k ≡ e.place k)
      × (f.waits k ≡ e.waits k)
  -- why its requests are refused
  pub refuses : (k : ℕ) → owner e.layout k ≡ c → Refuses e.layout (e.stock c)
      ((group_for e k).last k) ((group_for f k).last k) (map replied (fixed_of k fixed))
  pub spends : SpendsRoom e.layout e f c accepted fixed
  pub own_answers : (x : Fixed) → In x fixed → owner e.layout (key_of x.request) ≡ c
  pub answers : Answers e f fixed
  -- Who stops has a cause: a call of the region that failed in this move, or an own slot that was Failed.
  pub stops : f.stopped c ≡ true → (e.stopped c ≡ true)
      ⊎ (Faulted e.region f.region ⊎ ((s : ℕ) × (d : Entry)
      × ((e.group (group_of e.layout c)).slot (member_of e.layout c) s ≡ Failed d)))
  pub breaks : (f.group (group_of e.layout c)).broken (member_of e.layout c) ≡ true
      → f.stopped c ≡ true
  pub stays_stopped : e.stopped c ≡ true → f.stopped c ≡ true
  pub other_stops : (d : ℕ) → d ≢ c → f.stopped d ≡ e.stopped d
  pub other_takes : (d : ℕ) → d ≢ c → f.takes d ≡ e.takes d
  pub other_stocks : (d : ℕ) → d ≢ c → f.stock d ≡ e.stock d
