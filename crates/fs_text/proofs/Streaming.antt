-- One call of a source or a sink behind another.
use Rattle.std.proofs.Common.{◌≡◌, ℕ, ◌+◌, ◌-◌, List, [], ◌++◌, take, drop, take-add, take-append-drop, length, Result, Ok, Err, Option, Some, None, refl, sym, ap, ◌∙◌, subst, append_assoc, append-nil}
use Rattle.std.specs.Prelude.{OnErr}
use Rattle.std.proofs.lemmas.List.{take_rest}
use Rattle.fs_text.specs.Streams.{Gives, Takes, TakesUpTo, TakesPrefix}

pub gives_none : (a : Option (List ℕ)) → Gives a a []
gives_none None = tt
gives_none (Some xs) = refl

pub gives_more : (a b c : Option (List ℕ)) (xs ys : List ℕ) → Gives a b xs → Gives b c ys → Gives a c (xs ++ ys)
gives_more None b c xs ys h k = tt
gives_more (Some us) (Some vs) (Some ws) xs ys h k = h ∙ ap (λ zs. xs ++ zs) k ∙ sym (append_assoc xs ys ws)
gives_more (Some us) None c xs ys h k = absurd h
gives_more (Some us) (Some vs) None xs ys h k = absurd k

-- the same where the bytes stand in one buffer
pub gives_behind : (a b c : Option (List ℕ)) (xs ys : List ℕ) (i n : ℕ) → take i ys ≡ take i xs → Gives a b (take i xs) → Gives b c (take n (drop i ys))
    → Gives a c (take (i + n) ys)
gives_behind a b c xs ys i n kept h k = rw (take-add i n ys, kept) (gives_more a b c (take i xs) (take n (drop i ys)) h k)

pub takes_none : (a : Option (List ℕ)) → Takes a a []
takes_none None = tt
takes_none (Some xs) = sym (append-nil xs)

pub takes_more : (a b c : Option (List ℕ)) (xs ys : List ℕ) → Takes a b xs → Takes b c ys → Takes a c (xs ++ ys)
takes_more a b None xs ys h k = tt
takes_more a None (Some ws) xs ys h k = absurd k
takes_more None (Some vs) (Some ws) xs ys h k = absurd h
takes_more (Some us) (Some vs) (Some ws) xs ys h k = k ∙ ap (λ zs. zs ++ ys) h ∙ append_assoc us xs ys

-- at the start of a piece
pub up_to_none : (a : Option (List ℕ)) (all : List ℕ) → TakesUpTo a a all all
up_to_none a all = ([], refl, takes_none a)

-- one more write of the rest
pub up_to_more : (a b c : Option (List ℕ)) (all rest : List ℕ) (n : ℕ) → TakesUpTo a b all rest → Takes b c (take n rest) → TakesUpTo a c all (drop n rest)
up_to_more a b c all rest n (front, e, h) k = (
  front ++ take n rest,
  e ∙ ap (λ zs. front ++ zs) (sym (take-append-drop n rest)) ∙ sym (append_assoc front (take n rest) (drop n rest)),
  takes_more a b c front (take n rest) h k,
)

-- nothing is left
pub up_to_end : (a b : Option (List ℕ)) (all : List ℕ) → TakesUpTo a b all [] → Takes a b all
up_to_end a b all (front, e, h) = subst (λ zs. Takes a b zs) (sym (e ∙ append-nil front)) h

pub up_to_all : (a b : Option (List ℕ)) (all : List ℕ) → Takes a b all → TakesUpTo a b all []
up_to_all a b all h = (all, sym (append-nil all), h)

-- a call that takes nothing more
pub up_to_stay : (a b c : Option (List ℕ)) (all rest : List ℕ) → TakesUpTo a b all rest → Takes b c [] → TakesUpTo a c all rest
up_to_stay a b c all rest (front, e, h) k = (front, e, subst (λ zs. Takes a c zs) (append-nil front) (takes_more a b c front [] h k))

-- behind what waits comes more
pub up_to_then : (a b c : Option (List ℕ)) (all more waits left : List ℕ) → TakesUpTo a b all waits → TakesUpTo b c (waits ++ more) left → TakesUpTo a c (all ++ more) left
up_to_then a b c all more waits left (front, e, h) (second, f, k) = (
  front ++ second,
  ap (λ zs. zs ++ more) e ∙ append_assoc front waits more ∙ ap (λ zs. front ++ zs) f ∙ sym (append_assoc front second left),
  takes_more a b c front second h k,
)

pub prefix_then : (a b c : Option (List ℕ)) (all more waits : List ℕ) → TakesUpTo a b all waits → TakesPrefix b c (waits ++ more) → TakesPrefix a c (all ++ more)
prefix_then a b c all more waits h (left, k) = (left, up_to_then a b c all more waits left h k)

pub prefix_longer : (a b : Option (List ℕ)) (xs ys : List ℕ) → TakesPrefix a b xs → TakesPrefix a b (xs ++ ys)
prefix_longer a b xs ys (rest, (front, e, h)) = (rest ++ ys, (front, ap (λ zs. zs ++ ys) e ∙ append_assoc front rest ys, h))

pub prefix_of : (a b : Option (List ℕ)) (all : List ℕ) → Takes a b all → TakesPrefix a b all
prefix_of a b all h = ([], up_to_all a b all h)

pub prefix_none : (a b : Option (List ℕ)) (all : List ℕ) → Takes a b [] → TakesPrefix a b all
prefix_none a b all h = (all, ([], refl, h))

-- the same where the rest is a part of a slice
pub up_to_part : (a b c : Option (List ℕ)) (all rest : List ℕ) (n : ℕ) → TakesUpTo a b all rest → Takes b c (take n rest)
    → TakesUpTo a c all (take (length rest - n) (drop n rest))
up_to_part a b c all rest n h k = rw (take_rest rest n) (up_to_more a b c all rest n h k)

pub on_err_any : {T E P : Type 0} (r : Result T E) → P → OnErr r P
on_err_any (Ok x) p = tt
on_err_any (Err e) p = p

-- three parts of a line, one behind the other
line_parts : (waits front rest end : List ℕ) → ((waits ++ front) ++ rest) ++ end ≡ waits ++ ((front ++ rest) ++ end)
line_parts waits front rest end = simp append_assoc

pub line_sent : (a b c d : Option (List ℕ)) (waits front rest end p q r : List ℕ) → TakesUpTo a b (waits ++ front) p → TakesUpTo b c (p ++ rest) q
    → TakesUpTo c d (q ++ end) r → TakesUpTo a d (waits ++ ((front ++ rest) ++ end)) r
line_sent a b c d waits front rest end p q r one two three =
    rw (← line_parts waits front rest end)
    (up_to_then a c d ((waits ++ front) ++ rest) end q r (up_to_then a b c (waits ++ front) rest p q one two) three)

pub line_broken_first : (a b : Option (List ℕ)) (waits front rest end : List ℕ) → TakesPrefix a b (waits ++ front) → TakesPrefix a b (waits ++ ((front ++ rest) ++ end))
line_broken_first a b waits front rest end one =
    rw (← line_parts waits front rest end) (prefix_longer a b ((waits ++ front) ++ rest) end (prefix_longer a b (waits ++ front) rest one))

pub line_broken_second : (a b c : Option (List ℕ)) (waits front rest end p : List ℕ) → TakesUpTo a b (waits ++ front) p → TakesPrefix b c (p ++ rest)
    → TakesPrefix a c (waits ++ ((front ++ rest) ++ end))
line_broken_second a b c waits front rest end p one two =
    rw (← line_parts waits front rest end) (prefix_longer a c ((waits ++ front) ++ rest) end (prefix_then a b c (waits ++ front) rest p one two))

pub line_broken_third : (a b c d : Option (List ℕ)) (waits front rest end p q : List ℕ) → TakesUpTo a b (waits ++ front) p → TakesUpTo b c (p ++ rest) q
    → TakesPrefix c d (q ++ end) → TakesPrefix a d (waits ++ ((front ++ rest) ++ end))
line_broken_third a b c d waits front rest end p q one two three =
    rw (← line_parts waits front rest end)
    (prefix_then a c d ((waits ++ front) ++ rest) end q (up_to_then a b c (waits ++ front) rest p q one two) three)
