-- Answers that go out, and those that were fixed.
use Rattle.std.proofs.Common.{◌≡◌, ◌⊎◌, inl, ⊎_elim, ℕ, List, [], ◌∷◌, ◌++◌, true, false, Option, Some, None, refl, sym, ◌∙◌, ap, append-nil, append_assoc}
use Rattle.fs_model.specs.declared.model.Request.{Request}
use Rattle.fs_model.specs.declared.model.Request.TheVariants.{Put, Get, Delete}
use Rattle.fs_model.specs.declared.model.Reply.{Reply}
use Rattle.fs_model.specs.declared.model.Reply.TheVariants as replies
use Rattle.fs_model.specs.Cells.{answer_to, is_change}
use Rattle.fs_model.specs.Lawful.{is_finish, is_told}
use Rattle.core_room.specs.declared.types.Shortage.{Shortage}
use Rattle.core_worker.specs.declared.types.Answer.{Answer}
use Rattle.core_worker.specs.Answering.{IsCause, IsSaid, IsGiven, AddsAnswers, ShowsCause}
use Rattle.core_worker.specs.Beginning.{answer_with}
use Rattle.core_worker.specs.WorkerMoves.{Fixed}

module _ (Known : Type 0) where
  pub said_same : (q : Request) (r : Reply) → IsSaid Known q r r
  said_same q r = record { reply = inl refl; known = λ k. refl }

  pub said_is : (q : Request) (r a : Reply) → a ≡ r → IsSaid Known q r a
  said_is q r a e = record { reply = inl e; known = λ k. e }

  pub given_by : (n : ℕ) (q : Request) (fixed given : Reply) (cause : Option Shortage) → IsSaid Known q fixed given → IsCause fixed cause → ShowsCause q cause → IsGiven Known (record { number = n; request = q; reply = fixed; refusal = cause }) (answer_with n given cause)
  given_by n q fixed given cause said is shows = record { number = refl; reply = said.reply; known = said.known; cause = is; shows = shows }

  pub adds_none : (xs ys : List Answer) → ys ≡ xs → AddsAnswers Known xs ys []
  adds_none xs ys e = record { more = []; added = e ∙ sym (append-nil xs); given = tt }

  -- one, and then the others
  pub adds_then : (xs ys zs : List Answer) (x : Fixed) (a : Answer) (fs : List Fixed) → ys ≡ xs ++ a ∷ [] → IsGiven Known x a → AddsAnswers Known ys zs fs → AddsAnswers Known xs zs (x ∷ fs)
  adds_then xs ys zs x a fs e is A = record {
    more = a ∷ A.more;
    added = A.added ∙ ap (λ (l : List Answer). l ++ A.more) e ∙ append_assoc xs (a ∷ []) A.more;
    given = (is, A.given);
  }

  pub adds_one : (xs ys : List Answer) (x : Fixed) (a : Answer) → ys ≡ xs ++ a ∷ [] → IsGiven Known x a → AddsAnswers Known xs ys (x ∷ [])
  adds_one xs ys x a e is = adds_then xs ys ys x a [] e is (adds_none ys ys refl)

-- what answers no change by itself is told
pub answer_untold : (r : Request) (cell : Option (List ℕ)) → is_change r cell ≡ false → is_told (answer_to r cell) ≡ false
answer_untold (Put k u) cell e = absurd (cc e)
answer_untold (Get k) None e = refl
answer_untold (Get k) (Some u) e = refl
answer_untold (Delete k) None e = refl
answer_untold (Delete k) (Some u) e = absurd (cc e)

finish_untold : (r : Reply) → is_finish r ≡ true → is_told r ≡ false
finish_untold replies.Stored e = refl
finish_untold (replies.Value v) e = absurd (cc e)
finish_untold replies.Absent e = absurd (cc e)
finish_untold replies.Deleted e = refl
finish_untold replies.Full e = absurd (cc e)
finish_untold replies.VersionsSpent e = absurd (cc e)
finish_untold replies.TooLong e = absurd (cc e)
finish_untold replies.Stopped e = absurd (cc e)

pub ends_untold : (r : Reply) → (is_finish r ≡ true) ⊎ (r ≡ replies.Stopped) → is_told r ≡ false
ends_untold r ends = ⊎_elim (λ f. finish_untold r f) (λ s. ap is_told s) ends
