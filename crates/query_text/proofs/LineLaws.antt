-- How the queries of an input go on, and stop.
use Rattle.std.proofs.Common.{◌≡◌, ℕ, ◌+◌, Bool, List, [], ◌∷◌, ◌++◌, Result, Ok, Err, refl, sym, ◌∙◌, ap, append_assoc}
use Rattle.fs_text.specs.declared.input.InputError.{InputError}
use Rattle.fs_text.specs.declared.input.InputError.TheVariants as inputs
use Rattle.fs_text.specs.Reading.{Answers, numbered}
use Rattle.query_text.specs.declared.query.Query.{Query}
use Rattle.query_text.specs.Queries.{query_at, queries_from, with_front}

-- queries that were read, and what is said of the rest
abbrev pub with_queries : List Query → Result (List Query) (ℕ × ℕ) → Result (List Query) (ℕ × ℕ)
with_queries xs (Ok ys) = Ok (xs ++ ys)
with_queries xs (Err e) = Err e

pub with_none : (r : Result (List Query) (ℕ × ℕ)) → with_queries [] r ≡ r
with_none (Ok xs) = refl
with_none (Err e) = refl

with_more : (front : List Query) (x : Query) (r : Result (List Query) (ℕ × ℕ)) → with_queries front (with_front x r) ≡ with_queries (front ++ x ∷ []) r
with_more front x (Ok xs) = ap Ok (sym (append_assoc front (x ∷ []) xs))
with_more front x (Err e) = refl

un_numbered : (number : ℕ) (r : Result (Query × ℕ) ℕ) (y : Query × ℕ) → numbered number r ≡ Ok y → r ≡ Ok y
un_numbered number (Ok x) y h = cc h
un_numbered number (Err rule) y h = cc h

broken_at : (number : ℕ) (r : Result (Query × ℕ) ℕ) (e : ℕ × ℕ) → numbered number r ≡ Err e → (rule : ℕ) × (r ≡ Err rule) × ((number, rule) ≡ e)
broken_at number (Ok x) e h = cc h
broken_at number (Err rule) e h = (rule, refl, cc h)

pub goes_on_behind : (front : List Query) (number before : ℕ) (x : List ℕ × Bool) (xs : List (List ℕ × Bool)) (y : Query × ℕ)
    → numbered number (query_at number before x) ≡ Ok y
    → with_queries front (queries_from number before (x ∷ xs)) ≡ with_queries (front ++ y.0 ∷ []) (queries_from (number + 1) y.1 xs)
goes_on_behind front number before x xs y h =
    let e = un_numbered number (query_at number before x) y h in
    rw (with_queries, e) (with_more front y.0 (queries_from (number + 1) y.1 xs))

pub stops_behind : (front : List Query) (number before : ℕ) (x : List ℕ × Bool) (xs : List (List ℕ × Bool)) (stop : ℕ × ℕ)
    → numbered number (query_at number before x) ≡ Err stop → with_queries front (queries_from number before (x ∷ xs)) ≡ Err stop
stops_behind front number before x xs stop h =
    let (rule, e, is) = broken_at number (query_at number before x) stop h in
    rw (with_queries, e) (ap (λ (p : ℕ × ℕ). Err p) is)

-- What is said of a line that stops the reading is said of all.
pub stopped : (front : List Query) (number before : ℕ) (x : List ℕ × Bool) (xs : List (List ℕ × Bool)) (e : InputError) (all : Result (List Query) (ℕ × ℕ))
    → Answers {A = Query × ℕ} (Err e) (numbered number (query_at number before x)) → with_queries front (queries_from number before (x ∷ xs)) ≡ all → Answers {A = List Query} (Err e) all
stopped front number before x xs (inputs.BadInput line rule) all said is = sym is ∙ stops_behind front number before x xs (line, rule) said
stopped front number before x xs inputs.SourceFault all said is = tt
stopped front number before x xs inputs.Memory all said is = tt
