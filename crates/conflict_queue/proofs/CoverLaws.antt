-- Every place is in one chain, once.
use Rattle.std.proofs.Common.{◌≡◌, ◌≢◌, ℕ, suc, ◌+◌, ◌≤◌, ◌<◌, nat_eq, Bool, true, false, ◌||◌, List, [], ◌∷◌, ◌++◌, length, Option, Some, None, refl, sym, ◌∙◌, ap, subst, arith}
use Rattle.std.specs.List.{AllByRecursion, IsDistinct, list_any}
use Rattle.std.proofs.lemmas.List.{length-append}
use Rattle.std.proofs.lemmas.Bool.{eqb-true, ne_eqb}
use Rattle.std.proofs.lemmas.Map.Keys.{IsDistinct-cons}
use Rattle.std.proofs.lemmas.Map.Steps.{length-le_from_distinct_below}
use Rattle.conflict_queue.specs.declared.nodes.Node.{Node}
use Rattle.conflict_queue.specs.declared.key_chains.Chain.{Chain}
use Rattle.conflict_queue.specs.Chains.{IsChain, numbers_from, numbers_of, held_at, next_of, key_held, held_by, all_held, IsNotIn, IsKeyChain, IsTable, Lacks, HasEachKeyOnce}
use Rattle.conflict_queue.proofs.ChainLaws.{followed_is, not_in_tail, held_length}
use Rattle.conflict_queue.proofs.TableLaws.{held_by_is}

-- Lists of numbers.

all_more : (P : ℕ → Type 0) (xs ys : List ℕ) → AllByRecursion P xs → AllByRecursion P ys → AllByRecursion P (xs ++ ys)
all_more P [] ys front back = back
all_more P (x ∷ xs) ys front back = (front.0, all_more P xs ys front.1 back)

all_as : (P Q : ℕ → Type 0) → ((x : ℕ) → P x → Q x) → (xs : List ℕ) → AllByRecursion P xs → AllByRecursion Q xs
all_as P Q f [] all = tt
all_as P Q f (x ∷ xs) all = (f x all.0, all_as P Q f xs all.1)

once_more : (xs ys : List ℕ) → AllByRecursion (λ x. AllByRecursion (λ y. nat_eq x y ≡ false) ys) xs → IsDistinct nat_eq xs → IsDistinct nat_eq ys → IsDistinct nat_eq (xs ++ ys)
unfolding IsDistinct
once_more [] ys apart front back = back
once_more (x ∷ xs) ys apart front back = (all_more (λ y. nat_eq x y ≡ false) xs ys front.0 apart.0, once_more xs ys apart.1 front.1 back)

member_has : (P : ℕ → Type 0) (xs : List ℕ) (q : ℕ) → AllByRecursion P xs → list_any (nat_eq q) xs ≡ true → P q
member_has P [] q all is = absurd (cc is)
member_has P (x ∷ xs) q all is = by (member_has P xs q all.1) (nat_eq q x) refl is
  where
    by : (list_any (nat_eq q) xs ≡ true → P q) → (b : Bool) → nat_eq q x ≡ b → (b || list_any (nat_eq q) xs) ≡ true → P q
    by rest true same at = subst P (sym (eqb-true q x same)) all.0
    by rest false other at = rest at

none_same : (xs : List ℕ) (i : ℕ) → list_any (nat_eq i) xs ≡ false → AllByRecursion (λ y. nat_eq i y ≡ false) xs
none_same [] i is = tt
none_same (x ∷ xs) i is = by (none_same xs i) (nat_eq i x) refl is
  where
    by : (list_any (nat_eq i) xs ≡ false → AllByRecursion (λ y. nat_eq i y ≡ false) xs) → (b : Bool) → nat_eq i x ≡ b → (b || list_any (nat_eq i) xs) ≡ false → AllByRecursion (λ y. nat_eq i y ≡ false) (x ∷ xs)
    by rest true same at = absurd (cc at)
    by rest false other at = (other, rest at)

-- as many numbers below n as there are, each once, are all of them
pub all_numbers : (xs : List ℕ) (n i : ℕ) → IsDistinct nat_eq xs → AllByRecursion (λ x. x < n) xs → length xs ≡ n → i < n → list_any (nat_eq i) xs ≡ true
all_numbers xs n i once below all lt = by (list_any (nat_eq i) xs) refl
  where
    by : (b : Bool) → list_any (nat_eq i) xs ≡ b → list_any (nat_eq i) xs ≡ true
    by true is = is
    by false is =
        let one : AllByRecursion (λ x. x < n) (i ∷ xs) = (lt, below) in
        let le : length (i ∷ xs) ≤ n = length-le_from_distinct_below (i ∷ xs) n (IsDistinct-cons nat_eq i xs (none_same xs i is) once) (λ q has. member_has (λ x. x < n) (i ∷ xs) q one has) in
        absurd (omega (arith, le, all))

-- The numbers of chains.

abbrev KeyOf : List Node → ℕ → Option ℕ
KeyOf ns x = key_held (held_at ns x)

chain_keys : (ns : List Node) (k at : Option ℕ) (xs : List ℕ) → IsChain ns k at xs → AllByRecursion (λ x. KeyOf ns x ≡ k) xs
chain_keys ns k at [] is = tt
chain_keys ns k at (x ∷ xs) is = (is.2, chain_keys ns k (next_of ns x) xs is.3)

chain_below : (ns : List Node) (k at : Option ℕ) (xs : List ℕ) → IsChain ns k at xs → AllByRecursion (λ x. x < length ns) xs
chain_below ns k at [] is = tt
chain_below ns k at (x ∷ xs) is = (is.1, chain_below ns k (next_of ns x) xs is.3)

chain_once : (ns : List Node) (k at : Option ℕ) (xs : List ℕ) → IsChain ns k at xs → IsDistinct nat_eq xs
unfolding IsDistinct
chain_once ns k at [] is = tt
chain_once ns k at (x ∷ xs) is =
    let out : IsNotIn x xs = not_in_tail ns k (next_of ns x) xs (x ∷ xs) x (subst (λ (o : Option ℕ). IsChain ns k o (x ∷ xs)) is.0 is) (omega arith) is.3 in
    (all_as (λ y. y ≢ x) (λ y. nat_eq x y ≡ false) (λ y ne. ne_eqb x y (λ e. ne (sym e))) xs out, chain_once ns k (next_of ns x) xs is.3)

apart : (ns : List Node) (k : Option ℕ) (xs ys : List ℕ) → AllByRecursion (λ x. KeyOf ns x ≡ k) xs → AllByRecursion (λ y. KeyOf ns y ≢ k) ys → AllByRecursion (λ x. AllByRecursion (λ y. nat_eq x y ≡ false) ys) xs
apart ns k xs ys own others = all_as (λ x. KeyOf ns x ≡ k) (λ x. AllByRecursion (λ y. nat_eq x y ≡ false) ys)
    (λ x key. all_as (λ y. KeyOf ns y ≢ k) (λ y. nat_eq x y ≡ false) (λ y ne. ne_eqb x y (λ e. ne (ap (KeyOf ns) (sym e) ∙ key))) ys others) xs own

numbers_is : (ns : List Node) (c : Chain) (is : IsKeyChain ns c) → numbers_from ns (Some c.first) ≡ c.first ∷ is.rest
numbers_is ns c is = followed_is ns (Some c.key) (Some c.first) (c.first ∷ is.rest) (length ns) is.chain (let s = is.short in omega (arith, s))

-- what the places of each chain have, all have
table_all : (ns : List Node) (P : ℕ → Type 0) (cs : List Chain) → AllByRecursion (IsKeyChain ns) cs → ((c : Chain) (xs : List ℕ) → IsChain ns (Some c.key) (Some c.first) xs → AllByRecursion P xs) → AllByRecursion P (numbers_of ns cs)
table_all ns P [] all f = tt
table_all ns P (c ∷ cs) all f = all_more P (numbers_from ns (Some c.first)) (numbers_of ns cs) (subst (AllByRecursion P) (sym (numbers_is ns c all.0)) (f c (c.first ∷ all.0.rest) all.0.chain)) (table_all ns P cs all.1 f)

lacking : (ns : List Node) (k : ℕ) (cs : List Chain) → AllByRecursion (IsKeyChain ns) cs → Lacks cs k → AllByRecursion (λ y. KeyOf ns y ≢ Some k) (numbers_of ns cs)
lacking ns k [] all lacks = tt
lacking ns k (c ∷ cs) all lacks =
    let own : AllByRecursion (λ y. KeyOf ns y ≢ Some k) (c.first ∷ all.0.rest) =
    all_as (λ y. KeyOf ns y ≡ Some c.key) (λ y. KeyOf ns y ≢ Some k) (λ y key e. lacks.0 (cc (key, e))) (c.first ∷ all.0.rest) (chain_keys ns (Some c.key) (Some c.first) (c.first ∷ all.0.rest) all.0.chain) in
    all_more (λ y. KeyOf ns y ≢ Some k) (numbers_from ns (Some c.first)) (numbers_of ns cs) (subst (AllByRecursion (λ y. KeyOf ns y ≢ Some k)) (sym (numbers_is ns c all.0)) own) (lacking ns k cs all.1 lacks.1)

table_once : (ns : List Node) (cs : List Chain) → AllByRecursion (IsKeyChain ns) cs → HasEachKeyOnce cs → IsDistinct nat_eq (numbers_of ns cs)
unfolding IsDistinct
table_once ns [] all once = tt
table_once ns (c ∷ cs) all once =
    let xs : List ℕ = c.first ∷ all.0.rest in
    let keys = chain_keys ns (Some c.key) (Some c.first) xs all.0.chain in
    let joined = once_more xs (numbers_of ns cs) (apart ns (Some c.key) xs (numbers_of ns cs) keys (lacking ns c.key cs all.1 once.0)) (chain_once ns (Some c.key) (Some c.first) xs all.0.chain) (table_once ns cs all.1 once.1) in
    subst (λ (ys : List ℕ). IsDistinct nat_eq (ys ++ numbers_of ns cs)) (sym (numbers_is ns c all.0)) joined

table_length : (ns : List Node) (cs : List Chain) → AllByRecursion (IsKeyChain ns) cs → length (numbers_of ns cs) ≡ length (all_held ns cs)
table_length ns [] all = refl
table_length ns (c ∷ cs) all =
    let is = all.0 in
    let a = length-append (numbers_from ns (Some c.first)) (numbers_of ns cs) in
    let b = length-append (held_by ns c) (all_held ns cs) in
    let n : length (numbers_from ns (Some c.first)) ≡ suc (length is.rest) = ap length (numbers_is ns c is) in
    let h : length (held_by ns c) ≡ suc (length is.rest) = ap length (held_by_is ns c is) ∙ held_length ns c.key (Some c.first) (c.first ∷ is.rest) is.chain in
    let rest = table_length ns cs all.1 in
    omega (arith, a, b, n, h, rest)

-- no place is in two chains, nor twice in one
pub chains_once : (ns : List Node) (cs : List Chain) (first : Option ℕ) (unused : List ℕ) → IsTable ns cs → IsChain ns None first unused → IsDistinct nat_eq (unused ++ numbers_of ns cs)
chains_once ns cs first unused table chain =
    let some : AllByRecursion (λ y. KeyOf ns y ≢ None) (numbers_of ns cs) = table_all ns (λ y. KeyOf ns y ≢ None) cs table.chains (λ c xs is. all_as (λ y. KeyOf ns y ≡ Some c.key) (λ y. KeyOf ns y ≢ None) (λ y key e. cc (key, e)) xs (chain_keys ns (Some c.key) (Some c.first) xs is)) in
    once_more unused (numbers_of ns cs) (apart ns None unused (numbers_of ns cs) (chain_keys ns None first unused chain) some) (chain_once ns None first unused chain) (table_once ns cs table.chains table.keys)

-- every place is in one
pub chains_all : (ns : List Node) (cs : List Chain) (first : Option ℕ) (unused : List ℕ) → IsTable ns cs → IsChain ns None first unused → length (all_held ns cs) + length unused ≡ length ns → (i : ℕ) → i < length ns → list_any (nat_eq i) (unused ++ numbers_of ns cs) ≡ true
chains_all ns cs first unused table chain together i lt =
    let below = all_more (λ x. x < length ns) unused (numbers_of ns cs) (chain_below ns None first unused chain) (table_all ns (λ x. x < length ns) cs table.chains (λ c xs is. chain_below ns (Some c.key) (Some c.first) xs is)) in
    let a = length-append unused (numbers_of ns cs) in
    let b = table_length ns cs table.chains in
    all_numbers (unused ++ numbers_of ns cs) (length ns) i (chains_once ns cs first unused table chain) below (omega (arith, a, b, together)) lt
