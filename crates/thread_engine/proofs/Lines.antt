-- The text of answers is that of their replies.
use Rattle.std.proofs.Common.{◌≡◌, ℕ, ◌≤◌, length, take, subst, sym, ◌∙◌, List, [], ◌∷◌, ◌++◌, map, Option, refl, ap}
use Rattle.std.proofs.lemmas.List.{take_all}
use Rattle.fs_text.specs.Output.{ended, lines_text, reply_line, replies_text}
use Rattle.fs_text.specs.Streams.{Takes, TakesUpTo}
use Rattle.fs_text.proofs.Streaming.{takes_more}
use Rattle.engine_core.specs.declared.types.Stamped.{Stamped}
use Rattle.engine_core.specs.Reports.{reply_in}

abbrev pub lines_of : Option Stamped → List ℕ
lines_of x = ended (reply_line (reply_in x))

pub text_is : (xs : List (Option Stamped)) → lines_text (λ x. reply_line (reply_in x)) xs ≡ replies_text (map reply_in xs)
text_is [] = refl
text_is (x ∷ xs) = ap (λ l. lines_of x ++ l) (text_is xs)

-- what waited went out too
up_to_out : (a b c : Option (List ℕ)) (all waits : List ℕ) → TakesUpTo a b all waits → Takes b c waits → Takes a c all
up_to_out a b c all waits (front, e, h) k = subst (Takes a c) (sym e) (takes_more a b c front waits h k)

pub all_out : (xs : List (Option Stamped)) (i : ℕ) → length xs ≤ i → (a b c : Option (List ℕ)) (waits : List ℕ) → TakesUpTo a b (lines_text (λ x. reply_line (reply_in x)) (take i xs)) waits → Takes b c waits → Takes a c (replies_text (map reply_in xs))
all_out xs i past a b c waits sent out =
    subst (Takes a c) (ap (lines_text (λ x. reply_line (reply_in x))) (take_all i xs past) ∙ text_is xs) (up_to_out a b c (lines_text (λ x. reply_line (reply_in x)) (take i xs)) waits sent out)
