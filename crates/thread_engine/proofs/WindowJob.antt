-- A core's job in a window, from its beginning to its end.
use Rattle.std.proofs.Common.{◌≡◌, ℕ, ◌<◌, Bool, List, [], ◌∷◌, ◌++◌, map, Some, IsPermutation, sum_by, refl, sym, ◌∙◌, ap, subst, append-nil, arith}
use Rattle.std.proofs.lemmas.List.Sums.{sum_by-cons}
use Rattle.std.proofs.lemmas.List.Sorted.{sum_by-IsPermutation}
use Rattle.crossbeam_queue.specs.Passes.{Pass}
use Rattle.fs_model.specs.declared.model.Request.{Request}
use Rattle.pm_region.specs.State.{State}
use Rattle.group_board.specs.Seats.{SeatAt}
use Rattle.engine_laws.specs.WorkerMoves.{Fixed, asked}
use Rattle.core_worker.specs.declared.types.Answer.{Answer}
use Rattle.core_worker.specs.declared.worker.Worker.{Worker}
use Rattle.core_worker.specs.Answering.{AreGiven}
use Rattle.core_worker.specs.Beginning.{answers_of}
use Rattle.core_worker.specs.Supplies.{HasKeptRoom}
use Rattle.answer_queue.specs.declared.account.Account.{Account}
use Rattle.answer_queue.specs.declared.answer_queue.AnswerQueue.{AnswerQueue}
use Rattle.answer_queue.specs.Accounts.{once, times, numbers, AreAmong, with_numbers}
use Rattle.answer_queue.specs.Queues.{account_of}
use Rattle.answer_queue.proofs.Clients.{times_append}
use Rattle.answer_cores.specs.Passes.{HasPut, numbers_in}
use Rattle.answer_cores.specs.Handing.{HandsOver}
use Rattle.thread_engine.specs.declared.core_job.CoreJob.{CoreJob}
use Rattle.thread_engine.specs.WorkStates.{Sight, WorkState, IsAtWork, Works, WorksOn, GoesOn, HasEnded, stands_at, with_answers, joined_in, given_in}
use Rattle.thread_engine.specs.WorkLaws.{KeepsDoubts, WorksOff}
use Rattle.thread_engine.specs.CoreRuns.{fixed_in}
use Rattle.thread_engine.specs.WindowLaws.{AnswersOnce}
use Rattle.thread_engine.specs.WindowJobs.{IsReady, Worked, WorksWindow, MayHandOver, HandedOver, without_queue, put_in}
use Rattle.thread_engine.proofs.Doubts.{one_of}
use Rattle.thread_engine.proofs.LastState.{ChainLaw}
use Rattle.thread_engine.proofs.WindowAnswers.{answers_once}
use Rattle.thread_engine.proofs.WorkMoves.{on_more, on_joined, on_handed}

abbrev Numbered : Type 0
Numbered = ℕ × Request

-- in another order each number stands there as often
times_sum : (n : ℕ) (xs : List Numbered) → times n (numbers_in xs) ≡ sum_by (λ (x : Numbered). once n x.0) xs
times_sum n [] = refl
times_sum n (x ∷ xs) = (let h = times_sum n xs in let b = sum_by-cons (λ (z : Numbered). once n z.0) x xs in omega (arith, h, b))

times_any : (n : ℕ) (xs ys : List Numbered) → IsPermutation xs ys → times n (numbers_in ys) ≡ times n (numbers_in xs)
times_any n xs ys p = times_sum n ys ∙ sum_by-IsPermutation (λ (x : Numbered). once n x.0) xs ys p ∙ sym (times_sum n xs)

numbers_both : (xs ys : List Numbered) → numbers_in (xs ++ ys) ≡ numbers_in xs ++ numbers_in ys
numbers_both [] ys = refl
numbers_both (x ∷ xs) ys = ap (λ l. x.0 ∷ l) (numbers_both xs ys)

numbers_given : (K : Type 0) (fs : List Fixed) (outs : List Answer) → AreGiven K fs outs → numbers outs ≡ numbers_in (map asked fs)
numbers_given K [] [] g = refl
numbers_given K [] (a ∷ outs) g = absurd g
numbers_given K (y ∷ ys) [] g = absurd g
numbers_given K (y ∷ ys) (a ∷ outs) g = (λ i. g.0.number i ∷ numbers_given K ys outs g.1 i)

-- the numbers of a window's answers are those of requests that joined, each once
answers_among : (seat : SeatAt) (refused : Bool) (a b : WorkState) (w : Works seat refused a b) (W : WorksOff seat a b) → W.fixed ≡ fixed_in seat refused a b w → W.given ≡ [] → answers_of a.worker ≡ []
    → AnswersOnce seat refused a b w → AreAmong (numbers (answers_of b.worker)) (numbers_in (joined_in seat refused a b w))
answers_among seat refused a b w W fixed given none A n =
    let outs = answers_of b.worker in
    let more : W.answers.more ≡ outs = sym (W.answers.added ∙ ap (λ l. l ++ W.answers.more) none) ∙ ap (λ l. l ++ outs) given in
    let are : numbers outs ≡ numbers_in (map asked (fixed_in seat refused a b w)) = ap numbers (sym more) ∙ numbers_given _ W.fixed W.answers.more W.answers.given ∙ ap (λ fs. numbers_in (map asked fs)) fixed in
    let all = times_any n (joined_in seat refused a b w) (map asked (fixed_in seat refused a b w) ++ A.left) A.once in
    let both = ap (times n) (numbers_both (map asked (fixed_in seat refused a b w)) A.left) ∙ times_append n (numbers_in (map asked (fixed_in seat refused a b w))) (numbers_in A.left) in
    let here = ap (times n) are in
    omega (arith, all, both, here)

module _ {B P : Type 0} (seat : B → SeatAt) (sight : B → Sight) (state : P → State) (refused : Bool) (q : AnswerQueue) where
  abbrev Job : Type 0
  Job = CoreJob B P

  abbrev stands : Job → WorkState
  stands x = stands_at sight state x

  module _ (chain : ChainLaw) (x y z : Job) (R : IsReady seat sight state q x) (G : GoesOn seat sight state refused x y) (E : HasEnded (stands y)) where
    abbrev s : SeatAt
    s = seat x.seat

    abbrev first : WorkState
    first = without_queue (stands x)

    abbrev outs : List Answer
    outs = answers_of y.worker

    -- the window's chain
    so_far : WorksOn s refused (x.queue.items ++ []) [] first (stands y)
    so_far = on_more s refused x.queue.items [] [] [] first (stands x) (stands y) (on_joined s refused x.queue.items first R.awaits.work) G.works

    law : (W : WorksOff s first (stands y)) × (W.fixed ≡ fixed_in s refused first (stands y) so_far.works) × KeepsDoubts s (stands y).view × (W.joined ≡ joined_in s refused first (stands y) so_far.works) × (W.given ≡ given_in s refused first (stands y) so_far.works)
    law = chain s refused first (stands y) R.awaits.rest.work R.awaits.rest.doubts so_far.works

    among : AreAmong (numbers outs) (numbers_in x.queue.items)
    among = subst (λ l. AreAmong (numbers outs) (numbers_in l)) (so_far.joins ∙ append-nil x.queue.items)
        (answers_among s refused first (stands y) so_far.works law.0 law.1 (law.4 ∙ so_far.gives) R.awaits.rest.none
        (answers_once s refused chain first (stands y) R.awaits.rest.work R.awaits.rest.doubts R.awaits.rest.ended R.awaits.rest.runs E so_far.works))

    still : y.pass ≡ Some R.pass
    still = G.pass_is ∙ R.has

    pub may_hand_over : MayHandOver q y
    may_hand_over = record {
      pass = R.pass;
      has = still;
      of = R.dealt.of;
      part = subst (λ (v : Account). 0 < v.parts) (sym R.dealt.may) (omega arith);
      may = subst (λ (v : Account). AreAmong (numbers outs) v.may) (sym R.dealt.may) among;
    }

    -- the answers were put, and nothing else changed
    module _ (rest : z ≡ record y { worker = z.worker; pass = z.pass }) (H : HandsOver y.worker z.worker) (O : HandedOver q y z) where
      abbrev pass : Pass Answer Account
      pass = O.pass

      put : HasPut q (with_numbers (numbers_in x.queue.items)) outs pass
      put = subst (λ (v : Account). HasPut q v outs pass) (ap account_of (one_of O.before R.pass (sym O.had ∙ still)) ∙ R.dealt.may) O.put

      there : stands z ≡ with_answers z.worker.answers (stands y)
      there = ap stands rest ∙ ap (λ (w : Worker). record (stands y) { worker = w }) H.keeps.rest

      was_put : put_in z.pass ≡ outs
      was_put = ap put_in O.has ∙ ap (λ (v : Account). v.put) put.put

      handed : WorkState
      handed = with_answers z.worker.answers (stands y)

      at_work : IsAtWork s (stands z)
      at_work = subst (IsAtWork s) (sym (ap stands rest)) (let K = H.keeps in let M = G.work.member in record {
        member = record {
          holds = K.holds s.place s.number (stands y).view M.holds;
          stands = K.stands (state y.piece) s.place s.number (stands y).view M.stands;
          order = K.order s.place s.number (stands y).view M.order;
          rule = λ runs. subst HasKeptRoom (sym K.rest) (M.rule (sym (ap (λ (w : Worker). w.stopped) K.rest) ∙ runs));
        };
        own = G.work.own;
      })

      worked : Worked seat sight state refused outs x z
      worked = record {
        seat_is = ap (λ (j : Job). seat j.seat) rest ∙ G.seat_is;
        work = at_work;
        works = on_more s refused [] [] [] outs (stands x) (stands y) (stands z) G.works
            (subst (WorksOn s refused [] outs (stands y)) (sym there) (on_handed s refused z.worker.answers H.none (stands y) (subst (IsAtWork s) there at_work)));
        ended = subst HasEnded (sym there) (record { leads = E.leads; posted = E.posted; pending = E.pending; queue = E.queue });
        doubts = subst (KeepsDoubts s) (ap (λ (u : WorkState). u.view) (sym there)) law.2;
        none = H.none;
        among = among;
      }

      pub works_window : WorksWindow seat sight state refused q x z
      works_window = record {
        worked = subst (λ os. Worked seat sight state refused os x z) (sym was_put) worked;
        pass = pass;
        has = O.has;
        put = subst (λ os. HasPut q (with_numbers (numbers_in x.queue.items)) os pass) (sym was_put) put;
      }
