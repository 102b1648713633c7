-- The state that one call of a worker leads to.
use Rattle.std.specs.Prelude.{◌≡◌, ℕ, ◌<◌, ◌==◌, List, [], ◌∷◌, ◌++◌, Bool, Option, Some, if◌then◌else◌}
use Rattle.fs_model.specs.declared.model.Request.{Request}
use Rattle.fs_model.specs.Cells.{key_of}
use Rattle.pm_region.specs.State.{State}
use Rattle.chunk_map.specs.Layouts.{owner}
use Rattle.store_image.specs.Facts.{In}
use Rattle.group_laws.specs.Updates.{put}
use Rattle.group_laws.specs.State.{Group}
use Rattle.group_laws.specs.MemberViews.{View, view_of}
use Rattle.group_laws.specs.Regions.{place_at}
use Rattle.engine_laws.specs.Parts.{group_of, member_of}
use Rattle.engine_laws.specs.WorkerMoves.{Hands, Fixed, WorkerMoves}
use Rattle.engine_laws.specs.Engine.{Engine, Answer}
use Rattle.engine_laws.specs.Workers.{Sits}

-- the answer of a number, after these were fixed at a stamp
abbrev pub answered : List Fixed → ℕ → ℕ → Option Answer → Option Answer
answered [] t n old = old
answered (x ∷ xs) t n old = if x.number == n then Some (record {
  reply = x.reply;
  stamp = t;
}) else answered xs t n old

-- Core c's call led the region to t, its group to b, and its worker to x, which accepts the next request or not; `rest` is what its backlog still has.
abbrev pub moved_to : Engine → ℕ → State → Group → Hands → Bool → List (ℕ × Request) → List Fixed
    → Engine
moved_to e c t b x takes rest fixed = record {
  layout = e.layout;
  region = t;
  group = put e.group (group_of e.layout c) b;
  given = e.given;
  backlog = put e.backlog c rest;
  takes = put e.takes c takes;
  stopped = put e.stopped c x.stopped;
  stock = put e.stock c x.stock;
  place = λ k. if owner e.layout k == c then x.place k else e.place k;
  waits = λ k. if owner e.layout k == c then x.waits k else e.waits k;
  answer = λ n. answered fixed t.stamp n (e.answer n);
}

-- One call of core c's worker in an engine's state: by its contract the region goes to t, its group's state to b, its view from v to u, and what it holds from w to x.
pub record Calls (e : Engine) (c : ℕ) (t : State) (b : Group) (v u : View) (w x : Hands)
    (accepted rest : List (ℕ × Request)) (fixed : List Fixed) : Type 0 where
  pub core : c < e.layout.cores
  pub sits : Sits e c v w
  pub view : u ≡ view_of b (member_of e.layout c)
  pub backlog : e.backlog c ≡ accepted ++ rest
  pub own : (y : ℕ × Request) → In y accepted → owner e.layout (key_of y.1) ≡ c
  pub moves : WorkerMoves (place_at e.layout (group_of e.layout c))
      (member_of e.layout c) e.region t (Some (e.group (group_of e.layout c)))
      (Some b) v u w x accepted fixed
