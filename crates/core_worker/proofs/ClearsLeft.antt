-- Each turn of a cleaning lowers what is left to do.
use Rattle.std.proofs.Common.{◌≡◌, ℕ, ◌+◌, ◌*◌, ◌≤◌, ◌<◌, true, false, List, length, arith}
use Rattle.log_standing.specs.NameCounts.{StandingState}
use Rattle.log_cleaner.specs.declared.types.Victim.{Victim}
use Rattle.core_index.specs.Index.{all_untold}
use Rattle.core_index.specs.Slots as slots
use Rattle.group_board.specs.declared.names.Notices.{Notices as ToSend}
use Rattle.group_laws.specs.State.{Notices}
use Rattle.core_worker.specs.declared.types.Cleaning.{Cleaning}
use Rattle.core_worker.specs.declared.types.Cleaning.TheVariants.{Nothing, Copying, Doomed}
use Rattle.core_worker.specs.CleaningLeft.{cleaning_most, most_words, notices_left, box_left, clears_left}

pub begins : (st : StandingState) (es : List (ℕ × slots.Place)) (out : List ToSend) (v : Victim) → v.entries ≤ most_words
    → clears_left false (Copying v true) st es out < clears_left true Nothing st es out
unfolding clears_left
begins st es out v few = omega (arith, few)

pub copies : (a b first : _) (st now : StandingState) (es : List (ℕ × slots.Place)) (out : List ToSend) (v left : Victim) (n : ℕ) → 0 < n → left.entries + n ≡ v.entries
    → length now.entries ≡ length st.entries
    → clears_left a (Copying left b) now es out < clears_left a (Copying v first) st es out
unfolding clears_left
copies a b first st now es out v left n some few same = omega (arith, some, few, same)

pub dooms : (a first : _) (st : StandingState) (es : List (ℕ × slots.Place)) (out : List ToSend) (v : Victim) (j : ℕ)
    → clears_left a (Doomed j) st es out < clears_left a (Copying v first) st es out
unfolding clears_left
dooms a first st es out v j = omega arith

-- it goes by how many names stand, and not by which
pub counted : (a : _) (c : Cleaning) (st now : StandingState) (es : List (ℕ × slots.Place)) (out : List ToSend) → length now.entries ≡ length st.entries
    → clears_left a c now es out ≡ clears_left a c st es out
unfolding clears_left
counted a c st now es out same = omega (arith, same)

-- and by how many wait, and not by which
pub same_left : (a : _) (c : Cleaning) (st now : StandingState) (es : List (ℕ × slots.Place)) (out after : List ToSend) → length now.entries ≡ length st.entries → box_left after ≡ box_left out
    → clears_left a c now es after ≡ clears_left a c st es out
unfolding clears_left
same_left a c st now es out after same waits = omega (arith, same, waits)

pub leaves : (a first : _) (st : StandingState) (es : List (ℕ × slots.Place)) (out : List ToSend) (v : Victim)
    → clears_left a Nothing st es out < clears_left a (Copying v first) st es out
unfolding clears_left
leaves a first st es out v = omega arith

pub clears : (a : _) (st now : StandingState) (es ix : List (ℕ × slots.Place)) (out after : List ToSend) (j gone : ℕ) → length now.entries + gone ≤ length st.entries
    → all_untold ix ≤ all_untold es → box_left after ≤ box_left out + gone
    → clears_left a Nothing now ix after < clears_left a (Doomed j) st es out
unfolding clears_left
clears a st now es ix out after j gone less untold box = omega (arith, less, untold, box)

pub takes : (a : _) (c : Cleaning) (st : StandingState) (es ix : List (ℕ × slots.Place)) (out after : List ToSend) → all_untold ix + 1 ≡ all_untold es → box_left after ≡ box_left out + 1
    → clears_left a c st ix after < clears_left a c st es out
unfolding clears_left
takes a c st es ix out after fewer one = omega (arith, fewer, one)

pub sends : (a : _) (c : Cleaning) (st : StandingState) (es : List (ℕ × slots.Place)) (out after : List ToSend) (n : Notices) (mail mail' : ℕ) → 0 < notices_left n
    → box_left after + notices_left n ≡ box_left out → mail' ≡ mail + (1 + notices_left n)
    → clears_left a c st es after + mail' < clears_left a c st es out + mail
unfolding clears_left
sends a c st es out after n mail mail' some less more = omega (arith, some, less, more)

pub receives : (a : _) (c : Cleaning) (st now : StandingState) (es ix : List (ℕ × slots.Place)) (out : List ToSend) (n : Notices) (mail mail' : ℕ)
    → length now.entries ≡ length st.entries → all_untold ix ≤ all_untold es → mail' + (1 + notices_left n) ≡ mail
    → clears_left a c now ix out + mail' < clears_left a c st es out + mail
unfolding clears_left
receives a c st now es ix out n mail mail' same untold less = omega (arith, same, untold, less)

pub commits : (a : _) (c : Cleaning) (st now : StandingState) (es : List (ℕ × slots.Place)) (out : List ToSend) (n : ℕ) → length now.entries ≤ length st.entries + n
    → clears_left a c now es out ≤ clears_left a c st es out + 3 * n
unfolding clears_left
commits a c st now es out n more = omega (arith, more)

pub finishes : (a : _) (c : Cleaning) (st : StandingState) (es ix : List (ℕ × slots.Place)) (out : List ToSend) → all_untold ix ≤ all_untold es + 1
    → clears_left a c st ix out ≤ clears_left a c st es out + 4
unfolding clears_left
finishes a c st es ix out more = omega (arith, more)

pub accepts : (a : _) (c : Cleaning) (st : StandingState) (es : List (ℕ × slots.Place)) (out : List ToSend)
    → clears_left true c st es out ≤ clears_left a c st es out + cleaning_most
unfolding clears_left
accepts true c st es out = omega arith
accepts false c st es out = omega arith

-- what no names and no own entries more leave, is no more
pub stays : (a : _) (c : Cleaning) (st now : StandingState) (es ix : List (ℕ × slots.Place)) (out : List ToSend) → length now.entries ≤ length st.entries → all_untold ix ≤ all_untold es
    → clears_left a c now ix out ≤ clears_left a c st es out
unfolding clears_left
stays a c st now es ix out fewer untold = omega (arith, fewer, untold)
