-- Where the reading of a chunk begins, and what stays settled.
use Rattle.std.proofs.Common.{◌≡◌, ◌⊎◌, ⊎_elim, ℕ, ◌≤◌, ◌==◌, ◌&&◌, not, List, true, Option, Some, is_some, sym, ◌∙◌, ap, subst}
use Rattle.std.specs.Prelude.{IfSome}
use Rattle.pm_region.specs.State.{State, IsTelling}
use Rattle.log_entry.specs.declared.entry.Entry.{Entry}
use Rattle.core_log.specs.Log.{LogState, StandsIn, tail_of, tail_in}
use Rattle.core_log.specs.Walking.{IsBetween, IsReadable, entries_in, words_in, behind}
use Rattle.core_log.proofs.Clients.{may_start, ordered, all_behind}
use Rattle.log_standing.specs.declared.types.Settled.{Settled}
use Rattle.log_standing.specs.declared.types.Copies.{Copies}
use Rattle.log_standing.specs.NameCounts.{StandingState, SameCopies, count_in, told_in}
use Rattle.log_cleaner.proofs.Batches.{filter_same}
use Rattle.log_cleaner.specs.Copying.{awaits, left_to_copy, begins, IsSettled, IsSettledIn, IsUpToDate}

-- reading may begin there, and nothing before it is left to be copied
pub record Starts (s : State) (log : LogState) (st : StandingState) (j place : ℕ) : Type 0 where
  pub readable : IsReadable s log j place
  pub left : IsTelling s → left_to_copy st (entries_in s log j) ≡ left_to_copy st (behind place (entries_in s log j))

from_zero : (s : State) (log : LogState) (st : StandingState) (j : ℕ) → StandsIn s log → is_some (tail_of log.chunks j) ≡ true → Starts s log st j 0
from_zero s log st j stands has =
    let readable = may_start s log j stands has in
    record { readable = readable; left = λ telling. sym (ap (left_to_copy st) (all_behind (entries_in s log j) 0 (ordered (words_in s log j) (readable.spelled telling)))) }

pub starts : (s : State) (log : LogState) (st : StandingState) (j place : ℕ) → StandsIn s log → is_some (tail_of log.chunks j) ≡ true → (IsTelling s → IsUpToDate s log st) → place ≤ tail_in log j → (place ≡ 0) ⊎ (st.settled ≡ Some (begins j place)) → Starts s log st j place
starts s log st j place stands has up within from = ⊎_elim
    (λ (zero_is : place ≡ 0). subst (Starts s log st j) (sym zero_is) (from_zero s log st j stands has))
    (λ (at : st.settled ≡ Some (begins j place)). record {
      readable = record { within = within; spelled = (may_start s log j stands has).spelled; between = λ telling. ((up telling).settled (begins j place) at).between };
      left = λ telling. ((up telling).settled (begins j place) at).none;
    })
    from

-- in a log whose chunk has the same entries
pub settled_moved : (s t : State) (log log' : LogState) (st : StandingState) (j : ℕ) → entries_in t log' j ≡ entries_in s log j → IfSome st.settled (λ h. h.chunk ≡ j) → IsSettledIn s log st → IsSettledIn t log' st
settled_moved s t log log' st j same chunk settled h at =
    let here : h.chunk ≡ j = subst (λ (o : Option Settled). IfSome o (λ (x : Settled). x.chunk ≡ j)) at chunk in
    let was = settled h at in
    let there : entries_in t log' h.chunk ≡ entries_in s log h.chunk = subst (λ (i : ℕ). entries_in t log' i ≡ entries_in s log i) (sym here) same in
    record {
      between = subst (λ (es : List (ℕ × Entry)). IsBetween h.place es) (sym there) was.between;
      none = subst (λ (es : List (ℕ × Entry)). left_to_copy st es ≡ left_to_copy st (behind h.place es)) (sym there) was.none;
    }

pub settled_one : (s : State) (log : LogState) (st : StandingState) (h : Settled) → st.settled ≡ Some h → IsSettled s log st h → IsSettledIn s log st
settled_one s log st h is settled g at = let same : h ≡ g = cc (sym is ∙ at) in subst (IsSettled s log st) same settled

-- by standing entries that have the same copies
pub settled_same : (s : State) (log : LogState) (old new : StandingState) (h : Settled) → SameCopies old new → IsSettled s log old h → IsSettled s log new h
settled_same s log old new h same settled = record { between = settled.between; none = left (entries_in s log h.chunk) ∙ settled.none ∙ sym (left (behind h.place (entries_in s log h.chunk))) }
  where
    left : (xs : List (ℕ × Entry)) → left_to_copy new xs ≡ left_to_copy old xs
    left xs = filter_same (awaits new) (awaits old) xs (λ y. ap (λ (o : Option Copies). count_in o == 1 && not (told_in o)) (same y.1.key y.1.version))

-- by standing entries of which the same is left
pub settled_alike : (s : State) (log : LogState) (old new : StandingState) (h : Settled) → ((xs : List (ℕ × Entry)) → left_to_copy new xs ≡ left_to_copy old xs) → IsSettled s log old h → IsSettled s log new h
settled_alike s log old new h left settled = record { between = settled.between; none = left (entries_in s log h.chunk) ∙ settled.none ∙ sym (left (behind h.place (entries_in s log h.chunk))) }
