-- What all passes have together, after a change of one of them or of two.
use Rattle.std.proofs.Common.{◌≡◌, ◌≢◌, ℕ, zero, suc, ◌+◌, ◌≤◌, List, [], ◌∷◌, ◌++◌, length, set, sym, refl, ap, ◌∙◌, subst, ⊎_elim, append_assoc, append-nil, length-append, IsPermutation, arith}
use Rattle.std.proofs.lemmas.List.Sorted.{IsPermutation-refl, IsPermutation-sym, IsPermutation-trans, IsPermutation-append_left, IsPermutation-append_right, IsPermutation-append_comm}
use mathlib.Core.Option.{some, some-injective, some-ne-none}
use lib.ListN.{get_elem?}
use Rattle.crossbeam_queue.proofs.Lists.{at_set, at_snoc, set_else}
use Rattle.core_worker.specs.declared.types.Answer.{Answer}
use Rattle.answer_queue.specs.declared.account.Account.{Account}
use Rattle.answer_queue.specs.Accounts.{total, gathered, IsIdle}

-- equal lists are permutations of each other
pub by_equality : (xs ys : List Answer) → xs ≡ ys → IsPermutation xs ys
by_equality xs ys e = subst (IsPermutation xs) e (IsPermutation-refl xs)

pub total_set : (f : Account → ℕ) (views : List Account) (i : ℕ) (v w : Account) → get_elem? views i ≡ some v → total f (set views i w) + f v ≡ total f views + f w
total_set f [] i v w e = absurd (some-ne-none v (sym e))
total_set f (x ∷ xs) zero v w e = let h : f x ≡ f v = ap f (some-injective x v e) in omega arith
total_set f (x ∷ xs) (suc i) v w e = let h = total_set f xs i v w e in omega arith

pub total_snoc : (f : Account → ℕ) (views : List Account) (w : Account) → total f (views ++ w ∷ []) ≡ total f views + f w
total_snoc f [] w = omega arith
total_snoc f (x ∷ xs) w = let h = total_snoc f xs w in omega arith

-- what one has is no more than the total
pub total_at : (f : Account → ℕ) (views : List Account) (i : ℕ) (v : Account) → get_elem? views i ≡ some v → f v ≤ total f views
total_at f [] i v e = absurd (some-ne-none v (sym e))
total_at f (x ∷ xs) zero v e = let h : f x ≡ f v = ap f (some-injective x v e) in omega arith
total_at f (x ∷ xs) (suc i) v e = let h = total_at f xs i v e in omega arith

-- the total of a sum
pub total_both : (f g : Account → ℕ) (views : List Account) → total (λ v. f v + g v) views ≡ total f views + total g views
total_both f g [] = refl
total_both f g (x ∷ xs) = let h = total_both f g xs in omega arith

pub gathered_length : (f : Account → List Answer) (views : List Account) → length (gathered f views) ≡ total (λ v. length (f v)) views
gathered_length f [] = refl
gathered_length f (x ∷ xs) = let h = gathered_length f xs in omega (arith, length-append (f x) (gathered f xs))

pub gathered_snoc : (f : Account → List Answer) (views : List Account) (w : Account) → f w ≡ [] → gathered f (views ++ w ∷ []) ≡ gathered f views
gathered_snoc f [] w e = ap (λ l. l ++ []) e
gathered_snoc f (x ∷ xs) w e = ap (λ l. f x ++ l) (gathered_snoc f xs w e)

pub gathered_same : (f : Account → List Answer) (views : List Account) (i : ℕ) (v w : Account) → get_elem? views i ≡ some v → f w ≡ f v → gathered f (set views i w) ≡ gathered f views
gathered_same f [] i v w e same = refl
gathered_same f (x ∷ xs) zero v w e same = ap (λ l. l ++ gathered f xs) (same ∙ ap f (sym (some-injective x v e)))
gathered_same f (x ∷ xs) (suc i) v w e same = ap (λ l. f x ++ l) (gathered_same f xs i v w e same)

-- (a ++ b) ++ c with the last two exchanged
swap_last : (a b c : List Answer) → IsPermutation ((a ++ b) ++ c) ((a ++ c) ++ b)
swap_last a b c = IsPermutation-trans _ _ _ (by_equality _ _ (append_assoc a b c)) (IsPermutation-trans _ _ _ (IsPermutation-append_right a (b ++ c) (c ++ b) (IsPermutation-append_comm b c)) (by_equality _ _ (sym (append_assoc a c b))))

-- a ++ (b ++ c) with the first two exchanged
swap_first : (a b c : List Answer) → IsPermutation (a ++ (b ++ c)) (b ++ (a ++ c))
swap_first a b c = IsPermutation-trans _ _ _ (by_equality _ _ (sym (append_assoc a b c))) (IsPermutation-trans _ _ _ (IsPermutation-append_left c (a ++ b) (b ++ a) (IsPermutation-append_comm a b)) (by_equality _ _ (append_assoc b a c)))

-- one has more at its end
pub gathered_more : (f : Account → List Answer) (views : List Account) (i : ℕ) (v w : Account) (ys : List Answer) → get_elem? views i ≡ some v → f w ≡ f v ++ ys → IsPermutation (gathered f (set views i w)) (gathered f views ++ ys)
gathered_more f [] i v w ys e more = absurd (some-ne-none v (sym e))
gathered_more f (x ∷ xs) zero v w ys e more =
    let is : f w ≡ f x ++ ys = more ∙ ap (λ u. f u ++ ys) (sym (some-injective x v e)) in
    IsPermutation-trans _ _ _ (by_equality _ _ (ap (λ l. l ++ gathered f xs) is)) (swap_last (f x) ys (gathered f xs))
gathered_more f (x ∷ xs) (suc i) v w ys e more =
    IsPermutation-trans _ _ _ (IsPermutation-append_right (f x) _ _ (gathered_more f xs i v w ys e more)) (by_equality _ _ (sym (append_assoc (f x) (gathered f xs) ys)))

-- one has nothing any more
pub gathered_less : (f : Account → List Answer) (views : List Account) (i : ℕ) (v w : Account) → get_elem? views i ≡ some v → f w ≡ [] → IsPermutation (gathered f views) (f v ++ gathered f (set views i w))
gathered_less f [] i v w e none = absurd (some-ne-none v (sym e))
gathered_less f (x ∷ xs) zero v w e none =
    by_equality _ _ (ap (λ u. f u ++ gathered f xs) (some-injective x v e) ∙ ap (λ l. f v ++ (l ++ gathered f xs)) (sym none))
gathered_less f (x ∷ xs) (suc i) v w e none =
    IsPermutation-trans _ _ _ (IsPermutation-append_right (f x) _ _ (gathered_less f xs i v w e none)) (swap_first (f x) (f v) (gathered f (set xs i w)))

set_commutes : (l : List Account) (i j : ℕ) (a b : Account) → j ≢ i → set (set l i a) j b ≡ set (set l j b) i a
set_commutes [] i j a b n = refl
set_commutes (x ∷ xs) zero zero a b n = absurd (n refl)
set_commutes (x ∷ xs) zero (suc j) a b n = refl
set_commutes (x ∷ xs) (suc i) zero a b n = refl
set_commutes (x ∷ xs) (suc i) (suc j) a b n = ap (λ l. x ∷ l) (set_commutes xs i j a b (λ e. n (ap suc e)))

-- one has what two had, and the other nothing
pub gathered_joined : (f : Account → List Answer) (views : List Account) (i j : ℕ) (v u both none : Account) → get_elem? views i ≡ some v → get_elem? views j ≡ some u → j ≢ i → f both ≡ f v ++ f u → f none ≡ [] → IsPermutation (gathered f views) (gathered f (set (set views i both) j none))
gathered_joined f views i j v u both none at_i at_j apart is empty =
    let rest : List Account = set views j none in
    let there : get_elem? rest i ≡ some v = set_else views j i none (λ e. apart (sym e)) ∙ at_i in
    let more : IsPermutation (gathered f (set rest i both)) (gathered f rest ++ f u) = gathered_more f rest i v both (f u) there is in
    let less : IsPermutation (gathered f views) (f u ++ gathered f rest) = gathered_less f views j u none at_j empty in
    let turned : IsPermutation (f u ++ gathered f rest) (gathered f rest ++ f u) = IsPermutation-append_comm (f u) (gathered f rest) in
    IsPermutation-trans _ _ _ less (IsPermutation-trans _ _ _ turned (IsPermutation-trans _ _ _ (IsPermutation-sym _ _ more) (by_equality _ _ (ap (λ l. gathered f l) (sym (set_commutes views i j both none apart))))))

abbrev pub AllIdle : List Account → Type 0
AllIdle views = (port : ℕ) (v : Account) → get_elem? views port ≡ some v → v.parts ≡ 0 → IsIdle v

parts_of : Account → ℕ
parts_of v = v.parts

-- where no part is, nothing is
pub none_gathered : (f : Account → List Answer) → ((v : Account) → IsIdle v → f v ≡ []) → (views : List Account) → AllIdle views → total (λ v. v.parts) views ≡ 0 → gathered f views ≡ []
none_gathered f empty [] idle zero_parts = refl
none_gathered f empty (x ∷ xs) idle zero_parts =
    let h : x.parts ≡ 0 = omega arith in
    let rest = none_gathered f empty xs (λ port v at none. idle (suc port) v at none) (omega arith) in
    ap (λ l. l ++ gathered f xs) (empty x (idle 0 x refl h)) ∙ rest

-- where one has all parts, it has everything
pub alone_gathered : (f : Account → List Answer) → ((v : Account) → IsIdle v → f v ≡ []) → (views : List Account) (i : ℕ) (v : Account) → get_elem? views i ≡ some v → AllIdle views → total (λ v. v.parts) views ≡ v.parts → gathered f views ≡ f v
alone_gathered f empty [] i v e idle all = absurd (some-ne-none v (sym e))
alone_gathered f empty (x ∷ xs) zero v e idle all =
    let same : x ≡ v = some-injective x v e in
    let parts : x.parts ≡ v.parts = ap (λ (u : Account). u.parts) same in
    let rest = none_gathered f empty xs (λ port u at none. idle (suc port) u at none) (omega arith) in
    ap (λ l. f x ++ l) rest ∙ append-nil (f x) ∙ ap f same
alone_gathered f empty (x ∷ xs) (suc i) v e idle all =
    let within = total_at (λ u. u.parts) xs i v e in
    let none : x.parts ≡ 0 = omega arith in
    ap (λ l. l ++ gathered f xs) (empty x (idle 0 x refl none)) ∙ alone_gathered f empty xs i v e (λ port u at n. idle (suc port) u at n) (omega arith)

pub none_total : (f : Account → ℕ) → ((v : Account) → IsIdle v → f v ≡ 0) → (views : List Account) → AllIdle views → total (λ v. v.parts) views ≡ 0 → total f views ≡ 0
none_total f empty [] idle zero_parts = refl
none_total f empty (x ∷ xs) idle zero_parts =
    let h : x.parts ≡ 0 = omega arith in
    let rest = none_total f empty xs (λ port v at none. idle (suc port) v at none) (omega arith) in
    let mine = empty x (idle 0 x refl h) in omega arith

pub alone_total : (f : Account → ℕ) → ((v : Account) → IsIdle v → f v ≡ 0) → (views : List Account) (i : ℕ) (v : Account) → get_elem? views i ≡ some v → AllIdle views → total (λ v. v.parts) views ≡ v.parts → total f views ≡ f v
alone_total f empty [] i v e idle all = absurd (some-ne-none v (sym e))
alone_total f empty (x ∷ xs) zero v e idle all =
    let same : x ≡ v = some-injective x v e in
    let parts : x.parts ≡ v.parts = ap (λ (u : Account). u.parts) same in
    let rest = none_total f empty xs (λ port u at none. idle (suc port) u at none) (omega arith) in
    let mine : f x ≡ f v = ap f same in omega arith
alone_total f empty (x ∷ xs) (suc i) v e idle all =
    let within = total_at (λ u. u.parts) xs i v e in
    let none : x.parts ≡ 0 = omega arith in
    let mine = empty x (idle 0 x refl none) in
    let rest = alone_total f empty xs i v e (λ port u at n. idle (suc port) u at n) (omega arith) in omega arith

-- the rule on passes without a part, after a change of one, and with a new one
pub idle_set : (views : List Account) (i : ℕ) (w : Account) → (w.parts ≡ 0 → IsIdle w) → AllIdle views → AllIdle (set views i w)
idle_set views i w mine idle port u at none = ⊎_elim (λ (x : (port ≡ i) × (w ≡ u)). subst (λ (y : Account). y.parts ≡ 0 → IsIdle y) x.1 mine none)
    (λ (x : (port ≢ i) × (get_elem? views port ≡ some u)). idle port u x.1 none) (at_set views i port w u at)

pub idle_snoc : (views : List Account) (w : Account) → (w.parts ≡ 0 → IsIdle w) → AllIdle views → AllIdle (views ++ w ∷ [])
idle_snoc views w mine idle port u at none = ⊎_elim (λ (x : get_elem? views port ≡ some u). idle port u x none)
    (λ (x : w ≡ u). subst (λ (y : Account). y.parts ≡ 0 → IsIdle y) x mine none) (at_snoc views w u port at)
