-- Functions with other values at some places, and lists as sets and as bags.
use Rattle.std.specs.Prelude.{ℕ, zero, suc, ◌+◌, Bool, true, false, cond, ◌&&◌, ◌||◌, eqb, List, [], ◌∷◌}
use Rattle.log_entry.specs.declared.entry.Body.{Body}
use Rattle.log_entry.specs.declared.entry.Body.TheVariants.{Pointer, Embedded, Tombstone}
use Rattle.log_entry.specs.declared.entry.Entry.{Entry}
use Rattle.log_entry.specs.declared.entry.EntryName.{EntryName}

-- f with x at one place, of one, two or three numbers
abbrev pub put : {X : Type 0} → (ℕ → X) → ℕ → X → ℕ → X
put f m x n = cond (eqb n m) x (f n)

abbrev pub put2 : {X : Type 0} → (ℕ → ℕ → X) → ℕ → ℕ → X → ℕ → ℕ → X
put2 f m s x n t = cond (eqb n m && eqb t s) x (f n t)

abbrev pub put3 : {X : Type 0} → (ℕ → ℕ → ℕ → X) → ℕ → ℕ → ℕ → X → ℕ → ℕ → ℕ → X
put3 f m a s x h n t = cond (eqb h m && (eqb n a && eqb t s)) x (f h n t)

-- f with g of what it has at m
abbrev pub change : {X : Type 0} → (ℕ → X) → ℕ → (X → X) → ℕ → X
change f m g n = cond (eqb n m) (g (f n)) (f n)

abbrev pub same_list : List ℕ → List ℕ → Bool
same_list [] [] = true
same_list [] (y ∷ ys) = false
same_list (x ∷ xs) [] = false
same_list (x ∷ xs) (y ∷ ys) = eqb x y && same_list xs ys

abbrev pub same_body : Body → Body → Bool
same_body (Pointer p) (Pointer q) = eqb p q
same_body (Embedded v) (Embedded u) = same_list v u
same_body Tombstone Tombstone = true
same_body (Pointer p) (Embedded u) = false
same_body (Pointer p) Tombstone = false
same_body (Embedded v) (Pointer q) = false
same_body (Embedded v) Tombstone = false
same_body Tombstone (Pointer q) = false
same_body Tombstone (Embedded u) = false

abbrev pub same_entry : Entry → Entry → Bool
same_entry x y = eqb x.key y.key && (eqb x.version y.version && same_body x.body y.body)

-- how often the entry stands in the list
abbrev pub times : Entry → List Entry → ℕ
times e [] = 0
times e (x ∷ xs) = cond (same_entry e x) (times e xs + 1) (times e xs)

-- the sum of f over the numbers below n
abbrev pub sum_below : ℕ → (ℕ → ℕ) → ℕ
sum_below zero f = 0
sum_below (suc n) f = sum_below n f + f n

-- the name of this key and version stands in the list
abbrev pub has : List EntryName → ℕ → ℕ → Bool
has [] k v = false
has (n ∷ ns) k v = (eqb n.key k && eqb n.version v) || has ns k v

-- the entries but those of these names
abbrev pub without : List EntryName → List Entry → List Entry
without ns [] = []
without ns (x ∷ xs) = cond (has ns x.key x.version) (without ns xs) (x ∷ without ns xs)
