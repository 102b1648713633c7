-- A text that is made item by item.
use Rattle.std.proofs.Common.{◌≡◌, ℕ, ◌+◌, ◌<◌, ◌≤◌, List, [], ◌∷◌, ◌++◌, take, drop, take-append-drop, get_or, length, sym, ap, ◌∙◌, append-nil, add-one, Option}
use Rattle.std.specs.List.{flat_map}
use Rattle.std.proofs.Math.Seq.{take-suc}
use Rattle.std.proofs.lemmas.Grind.{flat_map-append}
use Rattle.std.proofs.lemmas.List.{take_all}
use Rattle.fs_text.specs.Streams.{TakesUpTo, TakesPrefix}
use Rattle.fs_text.proofs.Streaming.{up_to_then, prefix_then, prefix_longer}

abbrev Bytes : Type 0
Bytes = List ℕ

-- one more item
text_more : {X : Type 0} (f : X → Bytes) (xs : List X) (i : ℕ) (x : X) → x ≡ get_or xs i x → i < length xs
    → flat_map f (take (i + 1) xs) ≡ flat_map f (take i xs) ++ f x
text_more f xs i x e h =
    let parts : take (i + 1) xs ≡ take i xs ++ x ∷ [] = ap (λ n. take n xs) (add-one i) ∙ take-suc xs i x h ∙ ap (λ y. take i xs ++ y ∷ []) (sym e) in
    ap (λ ys. flat_map f ys) parts ∙ flat_map-append f (take i xs) (x ∷ []) ∙ ap (λ zs. flat_map f (take i xs) ++ zs) (append-nil (f x))

pub sent_more : {X : Type 0} (f : X → Bytes) (xs : List X) (i : ℕ) (x : X) (a b c : Option Bytes) (waits left : Bytes) → x ≡ get_or xs i x → i < length xs
    → TakesUpTo a b (flat_map f (take i xs)) waits → TakesUpTo b c (waits ++ f x) left → TakesUpTo a c (flat_map f (take (i + 1) xs)) left
sent_more f xs i x a b c waits left e h sent more = rw (text_more f xs i x e h) (up_to_then a b c (flat_map f (take i xs)) (f x) waits left sent more)

text_parts : {X : Type 0} (f : X → Bytes) (xs : List X) (i : ℕ) → flat_map f (take i xs) ++ flat_map f (drop i xs) ≡ flat_map f xs
text_parts f xs i = sym (flat_map-append f (take i xs) (drop i xs)) ∙ ap (λ ys. flat_map f ys) (take-append-drop i xs)

pub prefix_more : {X : Type 0} (f : X → Bytes) (xs : List X) (i : ℕ) (x : X) (a b c : Option Bytes) (waits : Bytes) → x ≡ get_or xs i x → i < length xs
    → TakesUpTo a b (flat_map f (take i xs)) waits → TakesPrefix b c (waits ++ f x) → TakesPrefix a c (flat_map f xs)
prefix_more f xs i x a b c waits e h sent more =
    rw (← text_parts f xs (i + 1)) (prefix_longer a c (flat_map f (take (i + 1) xs)) (flat_map f (drop (i + 1) xs))
    (rw (text_more f xs i x e h) (prefix_then a b c (flat_map f (take i xs)) (f x) waits sent more)))

pub prefix_last : {X : Type 0} (f : X → Bytes) (xs : List X) (i : ℕ) (a b c : Option Bytes) (waits : Bytes) → length xs ≤ i
    → TakesUpTo a b (flat_map f (take i xs)) waits → TakesPrefix b c waits → TakesPrefix a c (flat_map f xs)
prefix_last f xs i a b c waits h sent more =
    let all : take i xs ≡ xs = take_all i xs h in
    rw (← all) (rw (← append-nil (flat_map f (take i xs))) (prefix_then a b c (flat_map f (take i xs)) [] waits sent (rw (append-nil waits) more)))

-- before the next item nothing more went out
pub prefix_so_far : {X : Type 0} (f : X → Bytes) (xs : List X) (i : ℕ) (a b : Option Bytes) (waits : Bytes)
    → TakesUpTo a b (flat_map f (take i xs)) waits → TakesPrefix a b (flat_map f xs)
prefix_so_far f xs i a b waits sent =
    rw (← text_parts f xs i) (prefix_longer a b (flat_map f (take i xs)) (flat_map f (drop i xs)) (waits, sent))
