-- The tokens of a table's members are the first that are left, and its hand the last one.
use Rattle.std.proofs.Common.{◌≡◌, ℕ, suc, ◌≤◌, List, [], ◌∷◌, ◌++◌, length, length-append, Vec, vec_capacity, refl, sym, ◌∙◌, ap, subst, arith}
use Rattle.std.specs.Global.{Global}
use Rattle.std.specs.List.{AllByRecursion}
use Rattle.atomic_board.specs.declared.group_table.GroupTable.{GroupTable}
use Rattle.atomic_board.specs.declared.token.SeatToken.{SeatToken}
use Rattle.atomic_board.specs.GroupTables.{id_of, group_place}
use Rattle.atomic_board.specs.Tokens.{AreTokens}
use Rattle.thread_engine.specs.TableTokens.{AreTokensOf, AreTokenRooms}

-- two lists cut at the same place
same_parts : {X : Type 0} (a b c d : List X) → a ++ b ≡ c ++ d → length a ≡ length c → (a ≡ c) × (b ≡ d)
same_parts [] b [] d e n = (refl, e)
same_parts [] b (x ∷ c) d e n = absurd (omega (arith, n))
same_parts (x ∷ a) b [] d e n = absurd (omega (arith, n))
same_parts (x ∷ a) b (y ∷ c) d e n =
    let first : x ≡ y = cc e in
    let left : a ++ b ≡ c ++ d = cc e in
    let r = same_parts a b c d left (omega (arith, n)) in
    ((λ i. first i ∷ r.0 i), r.1)

pub first_tokens : (members : ℕ) (t : GroupTable) (ts : List GroupTable) (tokens own rest : List SeatToken) → AreTokensOf members (t ∷ ts) tokens → tokens ≡ own ++ rest → length own ≡ members
    → (t.members ≡ members) × AreTokens (id_of t) (group_place t) own × AreTokensOf members ts rest
first_tokens members t ts tokens own rest A split count =
    let same = same_parts A.0 A.1 own rest (sym A.2 ∙ split) (A.4 ∙ sym count) in
    (A.3, subst (λ xs. AreTokens (id_of t) (group_place t) xs) same.0 A.5, subst (λ xs. AreTokensOf members ts xs) same.1 A.6)

all_but_last : {X : Type 0} (P : X → Type 0) (xs : List X) (x : X) → AllByRecursion P (xs ++ x ∷ []) → AllByRecursion P xs
all_but_last P [] x h = tt
all_but_last P (y ∷ ys) x h = (h.0, all_but_last P ys x h.1)

pub rooms_left : (members n : ℕ) (old new : List (Vec SeatToken Global)) (hand : Vec SeatToken Global) → old ≡ new ++ hand ∷ [] → AreTokenRooms members (suc n) old → AreTokenRooms members n new
rooms_left members n old new hand split A = record {
  count_is = (let a = A.count_is in let b = ap length split in let c = length-append new (hand ∷ []) in omega (arith, a, b, c));
  each = all_but_last (λ h. (h.items ≡ []) × (members ≤ vec_capacity h)) new hand (subst (λ hs. AllByRecursion (λ h. (h.items ≡ []) × (members ≤ vec_capacity h)) hs) split A.each);
}
