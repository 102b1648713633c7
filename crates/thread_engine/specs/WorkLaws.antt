-- What a chain of a core's moves says of its requests, its answers and its keys.
use Rattle.std.specs.Prelude.{◌≡◌, ℕ, List, [], ◌++◌, map, true, false, Option, Some, None}
use Rattle.fs_model.specs.declared.model.Request.{Request}
use Rattle.fs_model.specs.declared.model.Reply.{Reply}
use Rattle.fs_model.specs.Cells.{key_of}
use Rattle.pm_region.specs.State.{IsTelling, cell_now}
use Rattle.log_entry.specs.declared.entry.Body.{Body}
use Rattle.log_entry.specs.declared.entry.Body.TheVariants as bodies
use Rattle.log_entry.specs.declared.entry.Entry.{Entry}
use Rattle.store_image.specs.Facts.{In}
use Rattle.group_laws.specs.declared.types.Pending.{Pending}
use Rattle.group_laws.specs.Places.{owner}
use Rattle.group_laws.specs.MemberViews.{View}
use Rattle.group_board.specs.Seats.{SeatAt}
use Rattle.engine_laws.specs.WorkerMoves.{Hands, Fixed, asked, replied, fixed_of, requests_for, line_in}
use Rattle.licence.specs.Licence.{Licensed}
use Rattle.engine_laws.specs.Keys.{changes_on, posted_in}
use Rattle.engine_laws.specs.KeyLaw.{KeyIs, key_view}
use Rattle.core_worker.specs.declared.types.Answer.{Answer}
use Rattle.core_worker.specs.Answering.{AddsAnswers}
use Rattle.core_worker.specs.Beginning.{answers_of}
use Rattle.core_worker.specs.WorkerMoves.{hands_of}
use Rattle.thread_engine.specs.WorkStates.{WorkState}

-- the change was given back as failed
abbrev pub in_doubt : Entry → Pending
in_doubt d = record { entry = d; slot = None }

-- the block that a body points to holds a value of the key
abbrev pub HasBlock : View → ℕ → Body → Type 0
HasBlock v k (bodies.Pointer q) = (bytes : List ℕ)
    × (v.blocks q ≡ Some (record { key = k; bytes = bytes }))
HasBlock v k (bodies.Embedded u) = Unit {0}
HasBlock v k bodies.Tombstone = Unit {0}

-- each own change in doubt has its block
abbrev pub KeepsDoubts : SeatAt → View → Type 0
KeepsDoubts seat v = (k : ℕ) (d : Entry) → owner seat.place k ≡ seat.number
    → v.pending k ≡ Some (in_doubt d) → HasBlock v k d.body

-- what its worker holds
abbrev pub hands_at : WorkState → Hands
hands_at a = hands_of a.view a.worker

-- From one state to another these requests joined those that waited, the worker accepted these, in the order in which they waited, and fixed these answers, which it hands over or has to give. Each own key's requests are answered in the order of their arrival, and each own key is where its answers led it: their replies are those of its cell, and what a crash may show of it besides is its next change.
pub record WorksOff (seat : SeatAt) (a b : WorkState) : Type 0 where
  pub joined : List (ℕ × Request)
  pub accepted : List (ℕ × Request)
  pub fixed : List Fixed
  pub given : List Answer
  pub split : a.queue ++ joined ≡ accepted ++ b.queue
  pub answers : AddsAnswers (IsTelling b.region) (answers_of a.worker)
      (given ++ answers_of b.worker) fixed
  pub own : (y : Fixed) → In y fixed → owner seat.place (key_of y.request) ≡ seat.number
  pub order : (k : ℕ) → owner seat.place k ≡ seat.number
      → line_in (hands_at a) k ++ requests_for k accepted ≡ map asked (fixed_of k fixed)
      ++ line_in (hands_at b) k
  pub keys : (start : Option (List ℕ)) (k : ℕ) (xs : List (Request × Reply))
      → owner seat.place k ≡ seat.number
      → KeyIs start (key_view a.view k) ((hands_at a).place k) a.worker.stopped xs
      → KeyIs start (key_view b.view k) ((hands_at b).place k) b.worker.stopped
      (xs ++ map replied (fixed_of k fixed))
  -- what was known of an own key's changes is a front of them
  pub grows : (start : Option (List ℕ)) (k : ℕ) (xs : List (Request × Reply))
      → owner seat.place k ≡ seat.number
      → KeyIs start (key_view a.view k) ((hands_at a).place k) a.worker.stopped xs
      → (more : List Request)
      × (changes_on start ((xs ++ map replied (fixed_of k fixed))
      ++ posted_in ((hands_at b).place k))
      ≡ changes_on start (xs ++ posted_in ((hands_at a).place k)) ++ more)
  pub told : IsTelling b.region → IsTelling a.region

-- A core that has ended leads nothing and has taken nothing, and nothing is in flight but after a fault. Each image of its part is licensed by its view. Until it winds down nothing of an own key is under way.
pub record HasRested (seat : SeatAt) (x : WorkState) : Type 0 where
  pub holds : x.view.holds ≡ false
  pub taken : (a s : ℕ) → x.view.taken a s ≡ None
  pub flying : x.view.broken ≡ false → x.view.flying ≡ []
  pub licensed : IsTelling x.region → Licensed seat.place seat.number x.view (cell_now x.region)
  pub broken : x.view.broken ≡ true → x.worker.stopped ≡ true
  pub slots : (k s : ℕ) (e : Entry) → x.view.pending k ≡ Some (record { entry = e; slot = Some s })
      → ⊥
  pub places : x.worker.winds_down ≡ false → (k : ℕ) → (hands_at x).place k ≡ None
  pub waits : x.worker.winds_down ≡ false → (k : ℕ) → (hands_at x).waits k ≡ []
  pub queue : x.worker.winds_down ≡ false → x.queue ≡ []
