-- The report on the answers that an engine keeps is that of the state which it shows.
use Rattle.std.proofs.Common.{rules, ◌≡◌, ℕ, ◌+◌, ◌<◌, ◌≤◌, List, [], ◌∷◌, ◌++◌, length, map, Option, refl, sym, ◌∙◌, ap, arith, append_assoc, append-nil, length-append}
use Rattle.std.specs.Prelude.{Vec, vec_len}
use Rattle.std.specs.Global.{Global}
use Rattle.std.proofs.lemmas.List.{map-append}
use Rattle.engine_core.specs.declared.types.Stamped.{Stamped}
use Rattle.engine_core.specs.declared.run_report.Report.{Report}
use Rattle.engine_core.specs.Reports.{reply_in, finish_in, refusal_in, finishes_in, refusals_in, Adds, listed, IsReport, IsBlank, HasRoomFor, HasRoom, FillsAll, IsWithin}

-- one answer more, of any list that is made number by number
module _ {X : Type 0} (one : ℕ → Option Stamped → List X) (all : ℕ → List (Option Stamped) → List X) (none : (n : ℕ) → all n [] ≡ []) (some : (n : ℕ) (x : Option Stamped) (xs : List (Option Stamped)) → all n (x ∷ xs) ≡ one n x ++ all (n + 1) xs) where
  more : (n : ℕ) (xs : List (Option Stamped)) (x : Option Stamped) → all n (xs ++ x ∷ []) ≡ all n xs ++ one (n + length xs) x
  more n [] x =
      let z : n ≡ n + 0 = omega arith in
      some n x [] ∙ ap (λ ys. one n x ++ ys) (none (n + 1)) ∙ append-nil (one n x) ∙ ap (λ m. one m x) z ∙ sym (ap (λ ys. ys ++ one (n + 0) x) (none n))
  more n (y ∷ ys) x =
      let z : n + 1 + length ys ≡ n + length (y ∷ ys) = omega arith in
      some n y (ys ++ x ∷ []) ∙ ap (λ zs. one n y ++ zs) (more (n + 1) ys x ∙ ap (λ m. all (n + 1) ys ++ one m x) z) ∙ sym (append_assoc (one n y) (all (n + 1) ys) (one (n + length (y ∷ ys)) x)) ∙ ap (λ zs. zs ++ one (n + length (y ∷ ys)) x) (sym (some n y ys))

length_map : {X Y : Type 0} (f : X → Y) (xs : List X) → length (map f xs) ≡ length xs
length_map f [] = refl
length_map f (x ∷ xs) = let r = length_map f xs in omega (arith, r)

pub report_more : (xs : List (Option Stamped)) (x : Option Stamped) (old new : Report) → IsReport xs (listed old) → Adds old new x → IsReport (xs ++ x ∷ []) (listed new)
report_more xs x old new R A =
    let count : length old.replies.items ≡ 0 + length xs = ap length R.replies ∙ length_map reply_in xs ∙ omega arith in
    record {
      replies = A.replies ∙ ap (λ l. l ++ reply_in x ∷ []) R.replies ∙ sym (map-append reply_in xs (x ∷ []));
      finishes = A.finishes ∙ (λ i. R.finishes i ++ finish_in (count i) x) ∙ sym (more finish_in finishes_in (λ n. refl) (λ n y ys. refl) 0 xs x);
      refusals = A.refusals ∙ (λ i. R.refusals i ++ refusal_in (count i) x) ∙ sym (more refusal_in refusals_in (λ n. refl) (λ n y ys. refl) 0 xs x);
    }

-- a report on nothing
pub blank_report : (r : Report) → IsBlank r → IsReport [] (listed r)
blank_report r B = record { replies = B.replies; finishes = B.finishes; refusals = B.refusals }

none_in : {X : Type 0} (v : Vec X Global) (n : ℕ) → v.items ≡ [] → vec_len v ≤ n
none_in v n e = let len : vec_len v ≡ length v.items = search rules in let z : length v.items ≡ 0 = ap length e in omega (arith, len, z)

pub blank_within : (r : Report) → IsBlank r → IsWithin 0 r
blank_within r B = record { replies = none_in r.replies 0 B.replies; finishes = none_in r.finishes 0 B.finishes; refusals = none_in r.refusals 0 B.refusals }

pub has_room : (used all : ℕ) (r : Report) → used < all → IsWithin used r → HasRoomFor all r → HasRoom r
has_room used all r lt W H = record {
  replies = (let a = W.replies in let b = H.replies in omega (arith, lt, a, b));
  finishes = (let a = W.finishes in let b = H.finishes in omega (arith, lt, a, b));
  refusals = (let a = W.refusals in let b = H.refusals in omega (arith, lt, a, b));
}

-- the room and the count after one more
pub room_more : {X : Type 0} (xs : List X) (x : X) (all : ℕ) (old new : Report) → IsWithin (length xs) old → HasRoomFor all old → FillsAll old new → HasRoomFor all new × IsWithin (length (xs ++ x ∷ [])) new
room_more xs x all old new W H F =
    let more : length (xs ++ x ∷ []) ≡ length xs + 1 = length-append xs (x ∷ []) in (
      record {
        replies = (let a = F.replies.1 in let b = H.replies in omega (arith, a, b));
        finishes = (let a = F.finishes.1 in let b = H.finishes in omega (arith, a, b));
        refusals = (let a = F.refusals.1 in let b = H.refusals in omega (arith, a, b));
      },
      record {
        replies = (let a = F.replies.0 in let b = W.replies in omega (arith, a, b, more));
        finishes = (let a = F.finishes.0 in let b = W.finishes in omega (arith, a, b, more));
        refusals = (let a = F.refusals.0 in let b = W.refusals in omega (arith, a, b, more));
      },
    )
