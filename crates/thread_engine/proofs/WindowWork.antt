-- Windows of a run, one after another.
use Rattle.std.proofs.Common.{◌≡◌, ℕ, ◌%◌, ◌<◌, ◌==◌, zero, suc, ◌||◌, Bool, true, false, not, cond, Result, Ok, Err, OnOk, List, [], ◌∷◌, ◌++◌, length, filter, slice_index_or, refl, sym, ◌∙◌, ap, subst, append-nil, arith}
use Rattle.std.specs.List.{AllByRecursion, enumerate_from, list_any}
use Rattle.std.specs.Result.{is_ok}
use Rattle.std.proofs.lemmas.Bool.{eqb-true}
use Rattle.fs_model.specs.declared.model.Request.{Request}
use Rattle.fs_model.specs.Cells.{key_of}
use Rattle.pm_region.specs.State.{State}
use Rattle.group_laws.specs.Places.{owner}
use Rattle.group_board.specs.Seats.{SeatAt}
use Rattle.engine_laws.proofs.Clients.{all_append}
use Rattle.core_worker.specs.declared.types.Answer.{Answer}
use Rattle.thread_engine.specs.declared.core_job.CoreJob.{CoreJob}
use Rattle.thread_engine.specs.WorkStates.{Sight, WorkState, IsAtWork, WorksOn, stands_at, with_more}
use Rattle.thread_engine.specs.Windows.{dealt_from, OwnsKeys, IsDealt, AreAtRest, WentOn, AllWentOn}
use Rattle.thread_engine.specs.WindowJobs.{Worked}
use Rattle.thread_engine.specs.Between.{RestsWith}
use Rattle.thread_engine.proofs.WorkMoves.{on_more, on_none, on_joined, rests_on}

-- what a filter keeps
kept : {X : Type 0} (P : X → Type 0) (f : X → Bool) → ((x : X) → f x ≡ true → P x) → (xs : List X) → AllByRecursion P (filter f xs)
kept P f h [] = tt
kept P f h (x ∷ xs) = by (f x) refl (kept P f h xs) where
  by : (b : Bool) → f x ≡ b → AllByRecursion P (filter f xs) → AllByRecursion P (cond b (x ∷ filter f xs) (filter f xs))
  by true e rest = (h x e, rest)
  by false e rest = rest

-- where none is so
pub none_any : {X : Type 0} (f : X → Bool) (xs : List X) → list_any f xs ≡ false → (i : ℕ) (d : X) → i < length xs → f (slice_index_or xs i d) ≡ false
none_any f [] e i d low = absurd (omega (arith, low))
none_any f (x ∷ xs) e i d low = by (f x) refl e i low (λ more j less. none_any f xs more j d less) where
  by : (b : Bool) → f x ≡ b → (b || list_any f xs) ≡ false → (i : ℕ) → i < length (x ∷ xs) → (list_any f xs ≡ false → (j : ℕ) → j < length xs → f (slice_index_or xs j d) ≡ false) → f (slice_index_or (x ∷ xs) i d) ≡ false
  by true is e i low rest = absurd (cc e)
  by false is e zero low rest = is
  by false is e (suc i) low rest = rest e i (omega (arith, low))

-- what holds at Ok, and of a denial
pub ok_then : {T E : Type 0} (r : Result T E) (Q : Type 0) → true ≡ is_ok r → OnOk r Q → Q
ok_then (Ok x) Q e h = h
ok_then (Err x) Q e h = absurd (cc e)

pub not_so : (b : Bool) → not b ≡ true → b ≡ false
not_so true e = absurd (cc e)
not_so false e = refl

module _ {B P : Type 0} (seat : B → SeatAt) (sight : B → Sight) (state : P → State) (refused : Bool) where
  abbrev Job : Type 0
  Job = CoreJob B P

  abbrev stands : Job → WorkState
  stands x = stands_at sight state x

  -- One core was dealt some requests of its keys.
  module _ (cores c n : ℕ) (xs : List Request) (x y : Job) (owns : OwnsKeys cores c (seat x.seat)) (at : IsAtWork (seat x.seat) (stands x)) (D : IsDealt (dealt_from cores c n xs) x y) where
    abbrev more : List (ℕ × Request)
    more = dealt_from cores c n xs

    there : with_more more (stands x) ≡ stands y
    there i = record { region = state (sym D.piece i); view = (sight (sym D.seat i)).view; trail = (sight (sym D.seat i)).trail; worker = sym D.worker i; queue = sym D.queue i }

    joined : IsAtWork (seat x.seat) (with_more more (stands x))
    joined = record {
      member = at.member;
      own = all_append (λ (z : ℕ × Request). owner (seat x.seat).place (key_of z.1) ≡ (seat x.seat).number) x.queue.items more at.own
          (kept (λ (z : ℕ × Request). owner (seat x.seat).place (key_of z.1) ≡ (seat x.seat).number) (λ z. (key_of z.1 % cores) == c) (λ z e. owns (key_of z.1) (eqb-true (key_of z.1 % cores) c e)) (enumerate_from n xs));
    }

    pub dealt_works : IsAtWork (seat y.seat) (stands y)
    dealt_works = subst (λ s. IsAtWork s (stands y)) (ap seat (sym D.seat)) (subst (IsAtWork (seat x.seat)) there joined)

    pub dealt_joined : WorksOn (seat x.seat) refused more [] (stands x) (stands y)
    dealt_joined = subst (WorksOn (seat x.seat) refused more [] (stands x)) there (on_joined (seat x.seat) refused more (stands x) joined)

    -- and worked them off
    pub dealt_went : (outs : List Answer) (z : Job) → Worked seat sight state refused outs y z → WentOn seat sight state refused more outs x z
    dealt_went outs z W = record {
      seat_is = W.seat_is ∙ ap seat D.seat;
      work = subst (λ s. IsAtWork s (stands z)) (ap seat D.seat) W.work;
      works = subst (λ q. WorksOn (seat x.seat) refused q outs (stands x) (stands z)) (append-nil more)
          (on_more (seat x.seat) refused more [] [] outs (stands x) (stands y) (stands z)
          dealt_joined
          (subst (λ s. WorksOn s refused [] outs (stands y) (stands z)) (ap seat D.seat) W.works));
    }

  pub went_on : (xs ys : List (ℕ × Request)) (os ps : List Answer) (x y z : Job) → WentOn seat sight state refused xs os x y → WentOn seat sight state refused ys ps y z → WentOn seat sight state refused (xs ++ ys) (os ++ ps) x z
  went_on xs ys os ps x y z G H = record {
    seat_is = H.seat_is ∙ G.seat_is;
    work = subst (λ s. IsAtWork s (stands z)) G.seat_is H.work;
    works = on_more (seat x.seat) refused xs ys os ps (stands x) (stands y) (stands z) G.works (subst (λ s. WorksOn s refused ys ps (stands y) (stands z)) G.seat_is H.works);
  }

  -- and rested where it did
  pub went_rests : (joined xs ys : List (ℕ × Request)) (os ps : List Answer) (x y z : Job) (G : WentOn seat sight state refused xs os x y) (H : WentOn seat sight state refused ys ps y z) → RestsWith (seat x.seat) refused joined (stands x) (stands y) G.works.works
      → RestsWith (seat x.seat) refused joined (stands x) (stands z) (went_on xs ys os ps x y z G H).works.works
  unfolding went_on
  went_rests joined xs ys os ps x y z G H R = rests_on (seat x.seat) refused joined xs ys os ps (stands x) (stands y) (stands z) G.works (subst (λ s. WorksOn s refused ys ps (stands y) (stands z)) G.seat_is H.works) R

  pub none_went : (n : ℕ) (jobs : List Job) → AreAtRest seat sight state jobs → AllWentOn seat sight state refused n [] [] jobs jobs
  none_went n jobs A = record { count = refl; few = omega arith; each = λ c d low. record { seat_is = refl; work = (A.rest c d low).work; works = on_none (seat (slice_index_or jobs c d).seat) refused (stands (slice_index_or jobs c d)) } }

  -- so far they are at work
  pub at_work_on : (n : ℕ) (xs : List Request) (os : List (List Answer)) (a b : List Job) → AllWentOn seat sight state refused n xs os a b → (c : ℕ) (d : Job) → c < length b → IsAtWork (seat (slice_index_or b c d).seat) (stands (slice_index_or b c d))
  at_work_on n xs os a b G c d low = (let same = G.count in let low' : c < length a = omega (arith, low, same) in
      subst (λ s. IsAtWork s (stands (slice_index_or b c d))) (sym (G.each c d low').seat_is) (G.each c d low').work)
