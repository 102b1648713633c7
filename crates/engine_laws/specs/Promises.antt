-- What a replay promises at any state that it reaches.
use Rattle.std.specs.Prelude.{◌≡◌, ℕ, ◌/◌, ◌<◌, ◌≤◌, List, [], ◌++◌, length, take, Bool, true, false, if◌then◌else◌}
use Rattle.pm_region.specs.declared.region_sizes.TheConstants.{WORD_BYTES}
use Rattle.fs_model.specs.declared.model.Request.{Request}
use Rattle.fs_model.specs.Changes.{finished_by, cell_after_all}
use Rattle.pm_region.specs.State.{IsTold, IsTelling, MayLeave, cell_now, Faulted}
use Rattle.pm_region.specs.Words.{Surely}
use Rattle.store_image.specs.Soundness.{IsSound}
use Rattle.headline.specs.Headline.{Answers, Recovers, HasOwnBlocks, changes_in, cells_of}
use Rattle.engine_laws.specs.Engine.{Engine}
use Rattle.engine_laws.specs.WorkerMoves.{Fixed}
use Rattle.engine_laws.specs.Moves.{Moves}
use Rattle.engine_laws.specs.Reports.{told_of, replies_from, AllAnswered}
use Rattle.engine_laws.specs.Stands.{Origin, start_of}
use Rattle.engine_laws.specs.Causes.{Causes}
use Rattle.engine_laws.specs.Idle.{Idles, IsDrained}

-- a region that is sound, with each word certain
pub record IsOrigin (o : Origin) : Type 0 where
  pub sound : IsSound o.region.frame.bytes o.found
  pub first : o.region.frame.first ≡ 0
  pub words : o.region.frame.words ≡ o.region.frame.bytes / WORD_BYTES
  pub certain : IsTelling o.region → (w : ℕ) → w < o.region.frame.bytes / WORD_BYTES
      → Surely (cell_now o.region w) (o.found w)

abbrev pub HasStopped : Engine → Type 0
HasStopped e = (c : ℕ) × (c < e.layout.cores) × (e.stopped c ≡ true)

-- `more` are the requests of the trace that were not given yet.
pub record Promised (o : Origin) (e : Engine) : Type 0 where
  pub crash : (more : List Request) (t : ℕ) → IsTold e.region t → o.region.stamp ≤ t
      → (image : ℕ → ℕ) → MayLeave o.region.frame (e.region.cells t) image
      → Recovers o.region.frame.bytes (start_of o) (e.given ++ more) (told_of e)
      (λ k. finished_by k (e.given ++ more) (told_of e).finishes t) image
  pub blocks : (t : ℕ) → IsTold e.region t → o.region.stamp ≤ t → (image : ℕ → ℕ)
      → MayLeave o.region.frame (e.region.cells t) image → HasOwnBlocks image
  -- Replies that the report fits; a request without an answer counts as one that is stopped. Where all is answered, one is `Stopped` only if a core has stopped, and a core stops only if a call of the region failed.
  pub replies : (more : List Request) → Answers (IsTelling e.region) (start_of o) (e.given ++ more)
      (told_of e) (AllAnswered e → more ≡ [] → HasStopped e)
      (replies_from e.answer 0 (length (e.given ++ more)))
  -- why requests were refused
  pub causes : Causes o e
  pub cause : HasStopped e → Faulted o.region e.region
  pub last : AllAnswered e → ((c : ℕ) → c < e.layout.cores → e.stopped c ≡ false)
      → IsTelling e.region → (image : ℕ → ℕ) → MayLeave o.region.frame (cell_now e.region) image
      → (k : ℕ) → cells_of image k ≡ cell_after_all (changes_in (start_of o) e.given (told_of e) k)
      (start_of o k)

-- any move that delivers its facts, whatever it answers
abbrev pub AnyMove : Engine → ℕ → Bool → Engine → Type 0
AnyMove e c b f = (accepted : List (ℕ × Request)) × (fixed : List Fixed)
    × Moves e f c accepted fixed

-- what core c accepts in its next move: the first request of its backlog, where it takes one, and else none
abbrev pub next_in : Engine → ℕ → List (ℕ × Request)
next_in e c = if e.takes c then take 1 (e.backlog c) else []

-- One that accepts the next request, or else makes a turn, and answers false only where its core is idle.
abbrev pub AnyTurn : Engine → ℕ → Bool → Engine → Type 0
AnyTurn e c b f = (m : AnyMove e c b f) × (m.0 ≡ next_in e c) × (b ≡ false → Idles e f c)

-- Everything that was given is answered, nothing is under way, and the promises hold.
pub record IsDone (o : Origin) (e : Engine) : Type 0 where
  pub promised : Promised o e
  pub answered : AllAnswered e
  pub drained : IsDrained e
