-- Requests that nothing answered, as though each were stopped.
use Rattle.std.proofs.Common.{◌≡◌, refl, ℕ, List, [], ◌∷◌, ◌++◌, sym, subst, Option, Some, None, arith, append_assoc, append-nil}
use Rattle.fs_model.specs.declared.model.Request.{Request}
use Rattle.fs_model.specs.declared.model.Reply.{Reply}
use Rattle.fs_model.specs.declared.model.Reply.TheVariants.{Stopped}
use Rattle.headline.specs.Headline.{Told}
use Rattle.headline.specs.Run.{Answered, Recorded}
use Rattle.headline.proofs.Clients.{recorded_stopped, are_more, stopped_to}
use Rattle.headline.specs.Kinds.{AreReplies}

-- as many replies `Stopped` as there are requests
abbrev pub all_stopped : List Request → List Reply
all_stopped [] = []
all_stopped (q ∷ qs) = Stopped ∷ all_stopped qs

-- Requests behind may all be answered Stopped.
pub all_stop : (Known : Type 0) (start : ℕ → Option (List ℕ)) (done : List Request) (replies : List Reply) (r : Told) (rest : List Request) → Recorded Known start done replies r → Recorded Known start (done ++ rest) (replies ++ all_stopped rest) r
all_stop Known start done replies r [] R = subst (λ xs. Recorded Known start xs (replies ++ []) r) (sym (append-nil done)) (subst (λ rs. Recorded Known start done rs r) (sym (append-nil replies)) R)
all_stop Known start done replies r (q ∷ rest) R =
    subst (λ xs. Recorded Known start xs (replies ++ (Stopped ∷ all_stopped rest)) r) (append_assoc done (q ∷ []) rest)
    (subst (λ rs. Recorded Known start ((done ++ q ∷ []) ++ rest) rs r) (append_assoc replies (Stopped ∷ []) (all_stopped rest))
    (all_stop Known start (done ++ q ∷ []) (replies ++ Stopped ∷ []) r rest (recorded_stopped Known start done replies r q R)))

-- They are counted too.
pub each_stop : (done : List Request) (replies : List Reply) (rest : List Request) → AreReplies done replies → AreReplies (done ++ rest) (replies ++ all_stopped rest)
each_stop done replies [] h = subst (λ xs. AreReplies xs (replies ++ [])) (sym (append-nil done)) (subst (AreReplies done) (sym (append-nil replies)) h)
each_stop done replies (q ∷ rest) h =
    subst (λ xs. AreReplies xs (replies ++ (Stopped ∷ all_stopped rest))) (append_assoc done (q ∷ []) rest)
    (subst (AreReplies ((done ++ q ∷ []) ++ rest)) (append_assoc replies (Stopped ∷ []) (all_stopped rest))
    (each_stop (done ++ q ∷ []) (replies ++ Stopped ∷ []) rest (are_more done replies q Stopped h (stopped_to q))))

-- Before the first request, with a report that names none.
pub nothing_answered : (Known : Type 0) (start : ℕ → Option (List ℕ)) (now : ℕ) → Answered Known start [] [] (record { finishes = []; refusals = [] }) now start
nothing_answered Known start now = record {
  count = refl;
  lawful = λ known. record { count = refl; each = λ k. tt };
  fits = record { named = λ i. refl; told = λ i. refl; why = λ j i r e. absurd (none_is e) };
  cells = λ k. refl;
  going = λ k. refl;
  left = λ k. refl;
  settled = λ k. refl;
  finishes = λ i e. absurd (cc e);
  refusals = λ i e. absurd (cc e);
  counted = λ k t. omega arith;
  whole = λ k t low. refl;
} where
  none_is : {X : Type 0} {x : X} → None ≡ Some x → ⊥
  none_is e = cc e
