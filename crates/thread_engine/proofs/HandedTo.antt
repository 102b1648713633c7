-- A request that a core hands to its worker: it is accepted, or goes back to the front.
use Rattle.std.proofs.Common.{◌≡◌, ℕ, true, List, [], ◌∷◌, Result, Ok, Err, IfOk, OnOk, OnErr, inl, inr, refl, sym, subst}
use Rattle.fs_model.specs.declared.memory.Memory.{Memory}
use Rattle.fs_model.specs.declared.model.Request.{Request}
use Rattle.fs_model.specs.Cells.{key_of}
use Rattle.group_laws.specs.Places.{owner}
use Rattle.group_board.specs.Seats.{SeatAt}
use Rattle.core_worker.specs.declared.types.Turn.{Turn}
use Rattle.core_worker.specs.declared.types.Turn.TheVariants.{Moved}
use Rattle.core_worker.specs.declared.worker.Worker.{Worker}
use Rattle.core_worker.specs.Beginning.{answers_of}
use Rattle.core_worker.specs.Left.{fair}
use Rattle.core_worker.specs.WorkerMoves.{hands_of}
use Rattle.engine_core.specs.Calls as calls
use Rattle.engine_core.specs.Working.{IsMember, BeginsRequest}
use Rattle.thread_engine.specs.WorkStates.{WorkState, IsAtWork, TakesNext, takes, with_next}

module _ (seat : SeatAt) (a : WorkState) (x : Worker) (now : List (ℕ × Request)) (y : ℕ × Request) (own : owner seat.place (key_of y.1) ≡ seat.number) (free : takes a.worker ≡ true) (at : IsAtWork seat a) where
  abbrev b : WorkState
  b = record a { worker = x; queue = now }

  abbrev Took : List (ℕ × Request) → Type 0
  Took accepted = calls.AcceptsForAny hands_of answers_of IsMember fair a.region a.worker x accepted

  pub handed_work : (r : Result Turn Memory) → IfOk r (λ turn. (turn ≡ Moved) × Took (y ∷ [])) → OnOk r (calls.BeginsByEachView IsMember BeginsRequest a.region a.worker x y.0 y.1) → OnErr r (Took []) → OnOk r (now ≡ a.queue) → OnErr r (now ≡ y ∷ a.queue) → IsAtWork seat b
  handed_work (Ok turn) moved begins failed taken back = record {
    member = moved.1.tied seat.place seat.number a.view at.member (own, tt);
    own = subst (calls.AreOwn seat.place seat.number) (sym taken) at.own;
  }
  handed_work (Err e) moved begins failed taken back = record {
    member = failed.tied seat.place seat.number a.view at.member tt;
    own = subst (calls.AreOwn seat.place seat.number) (sym back) (own, at.own);
  }

  pub handed_accepts : (r : Result Turn Memory) → IfOk r (λ turn. (turn ≡ Moved) × Took (y ∷ [])) → OnOk r (calls.BeginsByEachView IsMember BeginsRequest a.region a.worker x y.0 y.1) → OnErr r (Took []) → OnOk r (now ≡ a.queue) → OnErr r (now ≡ y ∷ a.queue) → TakesNext seat (with_next y a) b
  handed_accepts (Ok turn) moved begins failed taken back = record {
    next = y;
    rest = a.queue;
    accepted = y ∷ [];
    ready = free;
    waits = refl;
    either = inl (refl, taken);
    region = refl;
    view = refl;
    trail = refl;
    call = moved.1.moves seat.place seat.number a.view at.member (own, tt);
    begins = λ is. begins seat.place seat.number a.view at.member own;
  }
  handed_accepts (Err e) moved begins failed taken back = record {
    next = y;
    rest = a.queue;
    accepted = [];
    ready = free;
    waits = refl;
    either = inr (refl, back);
    region = refl;
    view = refl;
    trail = refl;
    call = failed.moves seat.place seat.number a.view at.member tt;
    begins = λ is. absurd (cc is);
  }
