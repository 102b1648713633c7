-- What is known of one key: its answered requests, and what a crash may show of it.
use Rattle.std.specs.Prelude.{◌≡◌, ℕ, ◌≤◌, ◌&&◌, not, nat_le, List, [], ◌∷◌, ◌++◌, map, filter, find, Bool, true, false, Option, Some, None, if◌then◌else◌, count_by}
use Rattle.std.specs.List.{AllByRecursion}
use Rattle.std.specs.Option.{option_to_list}
use Rattle.fs_model.specs.declared.model.Request.{Request}
use Rattle.fs_model.specs.declared.model.Reply.{Reply}
use Rattle.fs_model.specs.declared.model.Reply.TheVariants.{Stopped}
use Rattle.fs_model.specs.Cells.{cell_after, is_change}
use Rattle.fs_model.specs.Lawful.{IsLawfulFor, cell_of, stopped_of, is_finish, is_told}
use Rattle.fs_model.specs.Changes.{requests_of, behind_last, cell_after_all}
use Rattle.chunk_map.specs.Layouts.{owner}
use Rattle.group_laws.specs.declared.types.Pending.{Pending}
use Rattle.group_laws.specs.Places as places
use Rattle.group_laws.specs.Steps.{left_by}
use Rattle.engine_laws.specs.WorkerMoves.{Placed, requests_for}
use Rattle.engine_laws.specs.Engine.{Engine, Answer, group_for, cell_at, line}
use Rattle.engine_laws.specs.Moves.{KeyHolds}

-- the changes that were finished among these requests of a key with their replies
abbrev pub finished : List (Request × Reply) → List Request
finished xs = map (λ x. x.0) (filter (λ x. is_finish x.1) xs)

-- Behind the last finished one, the first that would change the cell and wasn't refused by name.
abbrev pub open_in : Option (List ℕ) → List (Request × Reply) → Option (Request × Reply)
open_in c xs = find (λ x. is_change x.0 c && not (is_told x.1))
    (behind_last (λ x. is_finish x.1) xs)

abbrev pub open_change : Option (List ℕ) → List (Request × Reply) → List Request
open_change c xs = map (λ x. x.0) (option_to_list (open_in c xs))

-- The changes of a key, in order. A request without an answer stands here as one that was answered `Stopped`: it may be the unfinished change.
abbrev pub changes_on : Option (List ℕ) → List (Request × Reply) → List Request
changes_on start xs = finished xs ++ open_change (cell_after_all (finished xs) start) xs

-- an answered request
pub record Served : Type 0 where
  pub number : ℕ
  pub request : Request
  pub answer : Answer

abbrev pub served_as : Served → Request × Reply
served_as x = (x.request, x.answer.reply)

abbrev pub pairs : List Served → List (Request × Reply)
pairs xs = map served_as xs

-- the posted change of a key, which a crash may show
abbrev pub posted_in : Option Placed → List (Request × Reply)
posted_in None = []
posted_in (Some x) = if x.posted then (x.request, Stopped) ∷ [] else []

abbrev pub is_finish_by : ℕ → Served → Bool
is_finish_by t x = is_finish x.answer.reply && nat_le x.answer.stamp t

-- how many of these were finished by the stamp t
abbrev pub finished_until : ℕ → List Served → ℕ
finished_until t xs = count_by (is_finish_by t) xs

-- Replies that one cell gives, in order, and what they leave.
pub record History (start : Option (List ℕ)) (xs : List (Request × Reply)) : Type 0 where
  pub lawful : IsLawfulFor start false xs
  pub left : cell_after_all (finished xs) start ≡ cell_of start xs
  pub settled : stopped_of false xs ≡ false → open_in (cell_of start xs) xs ≡ None

-- Where a key stands between two moves.
pub record KeyStands (start : Option (List ℕ)) (e : Engine) (k : ℕ) : Type 0 where
  -- its answered requests are the first ones; then come those in the worker's hands, and those in the backlog
  pub served : List Served
  pub split : requests_of k e.given ≡ map (λ x. (x.number, x.request)) served
      ++ (line e k ++ requests_for k (e.backlog (owner e.layout k)))
  pub answers : AllByRecursion (λ x. e.answer x.number ≡ Some x.answer) served
  pub waiting : AllByRecursion (λ x. e.answer x.0 ≡ None)
      (line e k ++ requests_for k (e.backlog (owner e.layout k)))
  pub stamps : AllByRecursion (λ x. x.answer.stamp ≤ e.region.stamp) served
  pub history : History start (pairs served)
  pub cell : cell_of start (pairs served) ≡ cell_at e k
  pub halted : stopped_of false (pairs served) ≡ true → (e.stopped (owner e.layout k) ≡ true)
      × (e.place k ≡ None)
  pub holds : KeyHolds e k
  -- a pending change is the one behind the finished ones
  pub pending : (p : Pending) → (group_for e k).pending k ≡ Some p → (q : Request)
      × (rest : List Request) × (changes_on start (pairs served ++ posted_in (e.place k))
      ≡ finished (pairs served) ++ q ∷ rest)
      × (left_by (group_for e k) (places.owner (group_for e k).place k) p.entry.body
      ≡ cell_after q (cell_at e k))

-- its changes, as far as they are known
abbrev pub changes_at : (start : Option (List ℕ)) (e : Engine) (k : ℕ) → KeyStands start e k
    → List Request
changes_at start e k s = changes_on start (pairs s.served ++ posted_in (e.place k))

-- How a key stands after a move: some more requests are answered, with the stamp after the move, and the changes have grown.
pub record KeyGoes (start : Option (List ℕ)) (e f : Engine) (k : ℕ)
    (old : KeyStands start e k) : Type 0 where
  pub new : KeyStands start f k
  pub more : List Served
  pub served : new.served ≡ old.served ++ more
  pub stamps : AllByRecursion (λ x. x.answer.stamp ≡ f.region.stamp) more
  pub grows : (ys : List Request) × (changes_at start f k new ≡ changes_at start e k old ++ ys)
