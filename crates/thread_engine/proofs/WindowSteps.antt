-- A window, job by job: requests join, passes are given, the cores work, and the passes are taken back.
use Rattle.std.proofs.Common.{◌≡◌, ℕ, zero, suc, ◌+◌, ◌<◌, ◌≤◌, Bool, List, [], ◌∷◌, ◌++◌, length, map, Option, Some, slice_index_or, option_to_list, IsPermutation, refl, sym, ◌∙◌, ap, subst, arith}
use Rattle.crossbeam_queue.specs.Passes.{Pass}
use Rattle.fs_model.specs.declared.model.Request.{Request}
use Rattle.pm_region.specs.State.{State}
use Rattle.group_board.specs.Seats.{SeatAt}
use Rattle.core_worker.specs.declared.types.Answer.{Answer}
use Rattle.answer_queue.specs.declared.account.Account.{Account}
use Rattle.answer_queue.specs.declared.answer_queue.AnswerQueue.{AnswerQueue}
use Rattle.answer_queue.specs.declared.window_sizes.TheConstants.{PARTS, WINDOW}
use Rattle.answer_queue.specs.Accounts.{times, numbers, numbers_from, AreAmong, AreDistinct, granted}
use Rattle.answer_queue.proofs.Clients.{times_append, numbers_append, times_permutation}
use Rattle.answer_cores.proofs.Clients.{whole}
use Rattle.answer_cores.specs.Passes.{AllPut, IsWhole, IsDealt as HasNumbers, numbers_in, all_answers, all_numbers, after_deals, joined_all}
use Rattle.thread_engine.specs.declared.core_job.CoreJob.{CoreJob}
use Rattle.thread_engine.specs.WorkStates.{Sight, WorkState, stands_at}
use Rattle.engine_core.specs.declared.types.Stamped.{Stamped}
use Rattle.engine_core.specs.Answers.{stored}
use Rattle.store_image.specs.Facts.{In}
use Rattle.thread_engine.specs.Windows.{dealt_from, OwnsKeys, IsDealt, AreDealt, AreAtRest, AllWentOn, HaveEnded, HaveGiven, HaveMemory, EachChanges}
use Rattle.thread_engine.specs.Collected.{IsWindow}
use Rattle.thread_engine.specs.Takings.{TakenIn, numbered_from}
use Rattle.thread_engine.specs.WindowJobs.{IsAtRest, Awaits, IsReady, Worked, AllWorked, WorksWindow, TakesPass, LosesPass, without_queue, put_in, puts_of, waiting_for, passes_of}
use Rattle.thread_engine.proofs.WindowNumbers.{dealt_among, number_there}
use Rattle.thread_engine.proofs.WindowWork.{dealt_works, dealt_went}
use Rattle.thread_engine.proofs.TakenKept.{in_times}

module _ {B P : Type 0} (seat : B → SeatAt) (sight : B → Sight) (state : P → State) (refused : Bool) (q : AnswerQueue) where
  abbrev Job : Type 0
  Job = CoreJob B P

  abbrev stands : Job → WorkState
  stands x = stands_at sight state x

  -- of one core: its pass
  pub ready : (b r : Job) → Awaits seat sight state b → TakesPass q b r → IsReady seat sight state q r
  ready b r A T = record {
    awaits = subst (λ (j : Job). Awaits seat sight state j) (sym T.is) (record { work = A.work; rest = A.rest });
    pass = T.pass;
    has = ap (λ (j : Job). j.pass) T.is;
    dealt = subst (λ (j : Job). HasNumbers q (numbers_in j.queue.items) T.pass) (sym T.is) T.dealt;
  }

  -- and back
  pub back : (outs : List Answer) (b r e f : Job) → TakesPass q b r → Worked seat sight state refused outs r e → LosesPass e f → Worked seat sight state refused outs b f
  back outs b r e f T W L = subst (λ (j : Job). Worked seat sight state refused outs b j) (sym L) (record {
    seat_is = bare.seat_is;
    work = bare.work;
    works = bare.works;
    ended = bare.ended;
    doubts = bare.doubts;
    none = bare.none;
    among = bare.among;
  }) where
    bare : Worked seat sight state refused outs (record b { pass = Some T.pass }) e
    bare = subst (λ (j : Job). Worked seat sight state refused outs j e) T.is W

  -- what it was dealt
  module _ (cores c n : ℕ) (xs : List Request) (a b : Job) (owns : OwnsKeys cores c (seat a.seat)) (rest : IsAtRest (seat a.seat) (stands a)) (D : IsDealt (dealt_from cores c n xs) a b) where
    abbrev more : List (ℕ × Request)
    more = dealt_from cores c n xs

    none_waits : a.queue.items ≡ []
    none_waits = rest.ended.queue rest.runs

    same_rest : without_queue (stands b) ≡ stands a
    same_rest i = record { region = state (D.piece i); view = (sight (D.seat i)).view; trail = (sight (D.seat i)).trail; worker = D.worker i; queue = sym none_waits i }

    pub awaits : Awaits seat sight state b
    awaits = record {
      work = dealt_works seat sight state refused cores c n xs a b owns rest.work D;
      rest = subst (λ s. IsAtRest s (without_queue (stands b))) (ap seat (sym D.seat)) (subst (IsAtRest (seat a.seat)) (sym same_rest) rest);
    }

    pub dealt_is : b.queue.items ≡ more
    dealt_is = D.queue ∙ ap (λ l. l ++ more) none_waits

  -- of all
  pub all_put : (rs es : List Job) → EachChanges (WorksWindow seat sight state refused q) rs es → AllPut q (waiting_for rs) (puts_of es) (passes_of es)
  all_put [] [] C = tt
  all_put [] (y ∷ ys) C = absurd (let n = C.count in omega (arith, n))
  all_put (x ∷ xs) [] C = absurd (let n = C.count in omega (arith, n))
  all_put (x ∷ xs) (y ∷ ys) C =
      let V = C.each 0 x (omega arith) in
      subst (λ (o : Option (Pass Answer Account)). AllPut q (waiting_for (x ∷ xs)) (puts_of (y ∷ ys)) (option_to_list o ++ passes_of ys)) (sym V.has)
      (V.put, all_put xs ys (record { count = (let n = C.count in omega (arith, n)); each = λ i d low. C.each (suc i) d (omega (arith, low)) }))

  pub same_waiting : (bs rs : List Job) → EachChanges (TakesPass q) bs rs → waiting_for rs ≡ waiting_for bs
  same_waiting [] [] C = refl
  same_waiting [] (y ∷ ys) C = absurd (let n = C.count in omega (arith, n))
  same_waiting (x ∷ xs) [] C = absurd (let n = C.count in omega (arith, n))
  same_waiting (x ∷ xs) (y ∷ ys) C =
      let T = C.each 0 x (omega arith) in
      (λ i. numbers_in (ap (λ (j : Job). j.queue.items) T.is i) ∷ same_waiting xs ys (record { count = (let n = C.count in omega (arith, n)); each = λ i d low. C.each (suc i) d (omega (arith, low)) }) i)

  pub all_among : (rs es : List Job) → EachChanges (WorksWindow seat sight state refused q) rs es → AreAmong (numbers (all_answers (puts_of es))) (all_numbers (waiting_for rs))
  all_among [] [] C m = omega arith
  all_among [] (y ∷ ys) C m = absurd (let n = C.count in omega (arith, n))
  all_among (x ∷ xs) [] C m = absurd (let n = C.count in omega (arith, n))
  all_among (x ∷ xs) (y ∷ ys) C m =
      let V = (C.each 0 x (omega arith)).worked.among m in
      let rest = all_among xs ys (record { count = (let n = C.count in omega (arith, n)); each = λ i d low. C.each (suc i) d (omega (arith, low)) }) m in
      let p = ap (times m) (numbers_append (put_in y.pass) (all_answers (puts_of ys))) ∙ times_append m (numbers (put_in y.pass)) (numbers (all_answers (puts_of ys))) in
      let r = times_append m (numbers_in x.queue.items) (all_numbers (waiting_for xs)) in
      omega (arith, V, rest, p, r)

  pub put_there : (es : List Job) (i : ℕ) (d : Job) → i < length es → slice_index_or (puts_of es) i [] ≡ put_in (slice_index_or es i d).pass
  put_there [] i d low = absurd (omega (arith, low))
  put_there (x ∷ xs) zero d low = refl
  put_there (x ∷ xs) (suc i) d low = put_there xs i d (omega (arith, low))

  puts_long : (es : List Job) → length (puts_of es) ≡ length es
  puts_long [] = refl
  puts_long (x ∷ xs) = ap suc (puts_long xs)

  waiting_long : (bs : List Job) → length (waiting_for bs) ≡ length bs
  waiting_long [] = refl
  waiting_long (x ∷ xs) = ap suc (waiting_long xs)

  -- The pass after the cores' passes were dealt, used and taken in again.
  pub whole_pass : (bs rs es : List Job) (may : List ℕ) (v : Account) → length bs < PARTS → v ≡ after_deals (granted may) (waiting_for bs) → EachChanges (TakesPass q) bs rs → EachChanges (WorksWindow seat sight state refused q) rs es
      → IsWhole (all_answers (puts_of es)) (joined_all v (passes_of es))
  whole_pass bs rs es may v few rest D C = whole q (waiting_for bs) (puts_of es) (passes_of es) may v (let long = waiting_long bs in omega (arith, few, long)) rest
      (subst (λ nss. AllPut q nss (puts_of es) (passes_of es)) (same_waiting bs rs D) (all_put rs es C))

  -- what all handed over was taken
  pub all_worked : (bs rs es fs : List Job) (taken : List Answer) → EachChanges (TakesPass q) bs rs → EachChanges (WorksWindow seat sight state refused q) rs es → EachChanges LosesPass es fs
      → IsPermutation (all_answers (puts_of es)) taken → AreDistinct (numbers taken) → AllWorked seat sight state refused bs fs taken
  all_worked bs rs es fs taken D C L all distinct = record {
    count = L.count ∙ C.count ∙ D.count;
    outs = puts_of es;
    cores = puts_long es ∙ C.count ∙ D.count;
    each = λ c d low. (let first = D.count in let next = C.count in
        let low' : c < length rs = omega (arith, low, first) in
        let there : c < length es = omega (arith, low, first, next) in
        subst (λ os. Worked seat sight state refused os (slice_index_or bs c d) (slice_index_or fs c d)) (sym (put_there es c d there))
        (back (put_in (slice_index_or es c d).pass) (slice_index_or bs c d) (slice_index_or rs c d) (slice_index_or es c d) (slice_index_or fs c d) (D.each c d low) (C.each c d low').worked (L.each c d there)));
    all = all;
    distinct = distinct;
    among = λ n. (let same = times_permutation n (all_answers (puts_of es)) taken all in let among = all_among rs es C n in let waits = ap (λ nss. times n (all_numbers nss)) (same_waiting bs rs D) in omega (arith, same, among, waits));
  }

  -- Some requests were dealt where all cores were at rest.
  module _ (n : ℕ) (xs : List Request) (a b : List Job) (A : AreAtRest seat sight state a) (D : AreDealt n xs a b) where
    pub all_awaits : (c : ℕ) (d : Job) → c < length b → Awaits seat sight state (slice_index_or b c d)
    all_awaits c d low = (let same = D.count in let low' : c < length a = omega (arith, low, same) in
        awaits (length a) c n xs (slice_index_or a c d) (slice_index_or b c d) (A.owns c d low') (A.rest c d low') (D.each c d low'))

    pub all_waiting : AreAmong (all_numbers (waiting_for b)) (numbers_from n (length xs))
    all_waiting = dealt_among n xs b (λ c d low. (let same = D.count in let low' : c < length a = omega (arith, low, same) in
        dealt_is (length a) c n xs (slice_index_or a c d) (slice_index_or b c d) (A.owns c d low') (A.rest c d low') (D.each c d low') ∙ ap (λ m. dealt_from m c n xs) (sym same)))

    -- and worked off
    module _ (e : List Job) (taken : List Answer) (W : AllWorked seat sight state refused b e taken) where
      pub all_went : AllWentOn seat sight state refused n xs W.outs a e
      all_went = record {
        count = W.count ∙ D.count;
        few = (let many = W.cores in let same = D.count in omega (arith, many, same));
        each = λ c d low. (let same = D.count in
            dealt_went seat sight state refused (length a) c n xs (slice_index_or a c d) (slice_index_or b c d) (A.owns c d low) (A.rest c d low).work (D.each c d low) (slice_index_or W.outs c []) (slice_index_or e c d) (W.each c d (omega (arith, low, same))));
      }

      pub all_ended : HaveEnded sight state e
      all_ended c d low = (let same = W.count in (W.each c d (omega (arith, low, same))).ended)

      pub all_given : HaveGiven e
      all_given c d low = (let same = W.count in (W.each c d (omega (arith, low, same))).none)

      pub all_rest : HaveMemory e → AreAtRest seat sight state e
      all_rest M = record {
        owns = λ c d low. (let all = W.count in let same = D.count in let low' : c < length a = omega (arith, low, all, same) in
            subst (λ m. OwnsKeys m c (seat (slice_index_or e c d).seat)) (sym (all ∙ same)) (subst (OwnsKeys (length a) c) (sym ((W.each c d (omega (arith, low, all))).seat_is ∙ ap seat (D.each c d low').seat)) (A.owns c d low')));
        rest = λ c d low. (let all = W.count in let one = W.each c d (omega (arith, low, all)) in
            subst (λ s. IsAtRest s (stands (slice_index_or e c d))) (sym one.seat_is) (record { work = one.work; ended = one.ended; runs = M c d low; doubts = one.doubts; none = one.none }));
      }

      module _ (m : ℕ) (few : n + length xs ≤ m) where
        pub all_within : (x : Answer) → In x taken → (n ≤ x.number) × (x.number < m)
        all_within x i =
            let there = in_times x taken i in
            let waits = W.among x.number in
            let dealt = all_waiting x.number in
            let at = number_there x.number n (length xs) (omega (arith, there, waits, dealt)) in
            let low = at.0 in
            let high = at.1 in
            (low, omega (arith, high, few))

        pub all_taken : (places window : List (Option Stamped)) → IsWindow places → m ≤ n + WINDOW → window ≡ stored (map (numbered_from n) taken) 0 places → TakenIn n m W.outs window
        all_taken places window P low is = record {
          taken = taken;
          all = W.all;
          distinct = W.distinct;
          within = all_within;
          places = places;
          blank = P.blank;
          long = (let long = P.count in omega (arith, long, low));
          kept = is;
        }
