-- When all workers are told to wind down.
use Rattle.std.proofs.Common.{◌<◌, Bool, true, List, [], length, slice_index_or, refl, sym, ◌∙◌, ap, subst, arith}
use Rattle.pm_region.specs.State.{State}
use Rattle.group_board.specs.Seats.{SeatAt}
use Rattle.core_worker.specs.Beginning.{answers_of}
use Rattle.thread_engine.specs.declared.core_job.CoreJob.{CoreJob}
use Rattle.thread_engine.specs.WorkStates.{Sight, WorkState, HasEnded, stands_at}
use Rattle.thread_engine.specs.WorkStates.Move.{winds_down}
use Rattle.thread_engine.specs.Windows.{WentOn, HaveEnded, HaveGiven, EachChanges, WindDown, Winds}
use Rattle.thread_engine.proofs.WorkMoves.{on_one}

module _ {B P : Type 0} (seat : B → SeatAt) (sight : B → Sight) (state : P → State) where
  abbrev Job : Type 0
  Job = CoreJob B P

  abbrev stands : Job → WorkState
  stands x = stands_at sight state x

  abbrev wound : Job → Job
  wound x = record x { worker = record x.worker { winds_down = true } }

  -- one of them does nothing else
  pub wound_one : (refused : Bool) (x y : Job) → Winds seat sight state x y → WentOn seat sight state refused [] [] x y
  wound_one refused x y V = record {
    seat_is = ap (λ (j : Job). seat j.seat) V.winds;
    work = V.work;
    works = on_one (seat x.seat) refused (stands x) (stands y) (record { move = winds_down (ap stands V.winds); joins = refl; gives = refl }) V.work;
  }

  module _ (a b : List Job) (W : EachChanges (Winds seat sight state) a b) where
    pub wound_ended : HaveEnded sight state a → HaveEnded sight state b
    wound_ended E c d low = (let same = W.count in let low' : c < length a = omega (arith, low, same) in
        subst (λ (y : Job). HasEnded (stands y)) (sym (W.each c d low').winds) (ended (slice_index_or a c d) (E c d low')))
      where
        ended : (x : Job) → HasEnded (stands x) → HasEnded (stands (wound x))
        ended x E = record { leads = E.leads; posted = E.posted; pending = λ on. absurd (cc on); queue = λ on. absurd (cc on) }

    pub wound_given : HaveGiven a → HaveGiven b
    wound_given N c d low = (let same = W.count in let low' : c < length a = omega (arith, low, same) in
        ap (λ (y : Job). answers_of y.worker) (W.each c d low').winds ∙ N c d low')

    pub wound_all : WindDown b
    wound_all c d low = (let same = W.count in ap (λ (y : Job). y.worker.winds_down) (W.each c d (omega (arith, low, same))).winds)
