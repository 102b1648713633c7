-- One key by itself: what its owner's view has of it, what the worker holds, and what a call does. No engine, group or region occurs, so it serves cores on threads too.
use Rattle.std.specs.Prelude.{◌≡◌, ◌⊎◌, ℕ, List, [], ◌∷◌, ◌++◌, map, Bool, true, false, Option, Some, None}
use Rattle.std.specs.List.{AllByRecursion}
use Rattle.fs_model.specs.declared.model.Request.{Request}
use Rattle.fs_model.specs.declared.model.Reply.{Reply}
use Rattle.fs_model.specs.declared.model.Reply.TheVariants.{Stopped}
use Rattle.fs_model.specs.Cells.{cell_after, is_change}
use Rattle.fs_model.specs.Lawful.{IsLawfulFor, cell_of, stopped_of, is_finish}
use Rattle.log_entry.specs.declared.entry.Body.{Body}
use Rattle.log_entry.specs.declared.entry.Entry.{Entry}
use Rattle.store_image.specs.Facts.{In}
use Rattle.group_laws.specs.declared.types.Pending.{Pending}
use Rattle.group_laws.specs.Places as places
use Rattle.group_laws.specs.State.{Group}
use Rattle.group_laws.specs.Steps.{left_by}
use Rattle.group_laws.specs.MemberViews.{View}
use Rattle.group_board.specs.Views.{left_in}
use Rattle.engine_laws.specs.WorkerMoves.{Placed, Fixed, replied}
use Rattle.engine_laws.specs.Keys.{changes_on, finished, posted_in, History}

-- What a view has of a key: its cell, its pending change, and what an entry's body leaves by the owner's blocks.
pub record KeyView : Type 0 where
  pub cell : Option (List ℕ)
  pub pending : Option Pending
  pub left : Body → Option (List ℕ)

abbrev pub key_view : View → ℕ → KeyView
key_view v k = record { cell = v.cell k; pending = v.pending k; left = left_in v.blocks }

abbrev pub key_in : Group → ℕ → KeyView
key_in w k = record {
  cell = w.cell k;
  pending = w.pending k;
  left = left_by w (places.owner w.place k);
}

-- between calls
pub record Holds (v : KeyView) (place : Option Placed) (stopped : Bool) : Type 0 where
  pub posted : (x : Placed) → place ≡ Some x → x.posted ≡ true
      → (is_change x.request v.cell ≡ true) × ((p : Pending) × (s : ℕ) × (v.pending ≡ Some p)
      × (p.slot ≡ Some s) × (v.left p.entry.body ≡ cell_after x.request v.cell))
  pub pending : (p : Pending) → v.pending ≡ Some p
      → ((x : Placed) × (place ≡ Some x) × (x.posted ≡ true))
      ⊎ ((p.slot ≡ None) × (place ≡ None) × (stopped ≡ true))

-- what a call does
pub record Does (v u : KeyView) (place place' : Option Placed) (stopped stopped' : Bool)
    (fixed : List Fixed) : Type 0 where
  pub lawful : IsLawfulFor v.cell false (map replied fixed)
  pub cell : cell_of v.cell (map replied fixed) ≡ u.cell
  pub after_stop : stopped ≡ true → place ≡ None → AllByRecursion (λ y. y.reply ≡ Stopped) fixed
      × (place' ≡ None)
  pub stops : (y : Fixed) → In y fixed → y.reply ≡ Stopped → (stopped' ≡ true) × (place' ≡ None)
  pub stays : stopped ≡ true → stopped' ≡ true
  pub posted : (y : Placed) → place ≡ Some y → y.posted ≡ true
      → ((fixed ≡ []) × (place' ≡ Some y))
      ⊎ ((r : Reply) × (rest : List Fixed) × (fixed
      ≡ record { number = y.number; request = y.request; reply = r; refusal = None } ∷ rest)
      × ((is_finish r ≡ true) ⊎ (r ≡ Stopped)))
  -- A change in doubt was pending before, and leaves what it left. Where it was in a slot then, it has been answered Stopped.
  pub doubt : (d : Entry) → u.pending ≡ Some (record { entry = d; slot = None })
      → (u.left d.body ≡ v.left d.body)
      × ((v.pending ≡ Some (record { entry = d; slot = None }))
      ⊎ ((y : Placed) × (rest : List Fixed) × (s : ℕ) × (place ≡ Some y) × (y.posted ≡ true)
      × (v.pending ≡ Some (record { entry = d; slot = Some s }))
      × (fixed ≡ record {
        number = y.number;
        request = y.request;
        reply = Stopped;
        refusal = None;
      } ∷ rest)))

-- Where the key is, with these answered requests.
pub record KeyIs (start : Option (List ℕ)) (v : KeyView) (place : Option Placed) (stopped : Bool)
    (xs : List (Request × Reply)) : Type 0 where
  pub history : History start xs
  pub cell : cell_of start xs ≡ v.cell
  pub halted : stopped_of false xs ≡ true → (stopped ≡ true) × (place ≡ None)
  pub holds : Holds v place stopped
  pub pending : (p : Pending) → v.pending ≡ Some p → (q : Request) × (rest : List Request)
      × (changes_on start (xs ++ posted_in place) ≡ finished xs ++ q ∷ rest)
      × (v.left p.entry.body ≡ cell_after q v.cell)
