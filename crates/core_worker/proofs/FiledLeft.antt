-- How much more is to be told once names are gone: no more than there are names, and a name less stands for each.
use Rattle.std.proofs.Common.{◌≡◌, ⊎_elim, ℕ, zero, suc, ◌+◌, ◌≤◌, ◌<◌, ◌==◌, ◌&&◌, ◌||◌, ◌⊎◌, Bool, true, false, cond, List, [], ◌∷◌, length, option_map, refl, ◌∙◌, ap, subst, arith, length-append}
use Rattle.std.specs.Prelude.{slice_get}
use Rattle.std.specs.List.{count_by}
use Rattle.std.proofs.lemmas.Bool.{eq-eqb, eqb-true, ne_eqb}
use Rattle.std.proofs.lemmas.List.Sums.{sum_by-cons}
use Rattle.log_entry.specs.declared.entry.EntryName.{EntryName}
use Rattle.log_standing.specs.NameCounts.{name_eq, times_in}
use Rattle.log_standing.proofs.Clients.{same_name}
use Rattle.chunk_map.specs.declared.layouts.Geometry.{Geometry}
use Rattle.chunk_map.specs.Layouts.{owner}
use Rattle.group_board.specs.declared.names.Notices.{Notices}
use Rattle.group_laws.specs.Updates.{has}
use Rattle.core_worker.specs.CleaningLeft.{box_left}
use Rattle.core_worker.specs.GoneMail.{names_of, with_gone}

-- how many of the names are of so many cores' keys, from a first one
abbrev filed : Geometry → ℕ → List EntryName → ℕ → ℕ
filed l home ns zero = 0
filed l home ns (suc count) = length (names_of l home ns) + filed l (home + 1) ns count

-- a core below has none of them
below : (l : Geometry) (home : ℕ) (x : EntryName) (xs : List EntryName) (count : ℕ) → owner l x.key < home → filed l home (x ∷ xs) count ≡ filed l home xs count
below l home x xs zero lt = refl
below l home x xs (suc count) lt =
    let here : length (names_of l home (x ∷ xs)) ≡ length (names_of l home xs) = ap (λ (b : Bool). length (cond b (x ∷ names_of l home xs) (names_of l home xs))) (ne_eqb (owner l x.key) home (λ is. omega (arith, lt, is))) in
    let rest = below l (home + 1) x xs count (omega (arith, lt)) in
    omega (arith, here, rest)

one_more : (l : Geometry) (home : ℕ) (x : EntryName) (xs : List EntryName) (count : ℕ) → filed l home (x ∷ xs) count ≤ 1 + filed l home xs count
one_more l home x xs zero = omega arith
one_more l home x xs (suc count) = by (owner l x.key == home) refl (one_more l (home + 1) x xs count) where
  by : (b : Bool) → (owner l x.key == home) ≡ b → filed l (home + 1) (x ∷ xs) count ≤ 1 + filed l (home + 1) xs count → filed l home (x ∷ xs) (suc count) ≤ 1 + filed l home xs (suc count)
  by true is rest =
      let here : length (names_of l home (x ∷ xs)) ≡ 1 + length (names_of l home xs) = ap (λ (b : Bool). length (cond b (x ∷ names_of l home xs) (names_of l home xs))) is ∙ omega arith in
      let same = eqb-true (owner l x.key) home is in
      let later = below l (home + 1) x xs count (omega (arith, same)) in
      omega (arith, here, later)
  by false is rest =
      let here : length (names_of l home (x ∷ xs)) ≡ length (names_of l home xs) = ap (λ (b : Bool). length (cond b (x ∷ names_of l home xs) (names_of l home xs))) is in
      omega (arith, here, rest)

none_filed : (l : Geometry) (home count : ℕ) → filed l home [] count ≡ 0
none_filed l home zero = refl
none_filed l home (suc count) = (let rest = none_filed l (home + 1) count in omega (arith, rest))

few_filed : (l : Geometry) (home : ℕ) (ns : List EntryName) (count : ℕ) → filed l home ns count ≤ length ns
few_filed l home [] count = (let none = none_filed l home count in omega (arith, none))
few_filed l home (x ∷ xs) count = (let more = one_more l home x xs count in let rest = few_filed l home xs count in omega (arith, more, rest))

-- each box has at most the names of its core's keys more
box_filed : (l : Geometry) (home : ℕ) (ns : List EntryName) (old new : List Notices) → length new ≡ length old → ((h : ℕ) → (slice_get new h ≡ slice_get old h) ⊎ (slice_get new h ≡ option_map (with_gone l (home + h) ns) (slice_get old h)))
    → box_left new ≤ box_left old + filed l home ns (length old)
box_filed l home ns [] [] e at = omega arith
box_filed l home ns [] (y ∷ ys) e at = absurd (omega (arith, e))
box_filed l home ns (x ∷ xs) [] e at = absurd (omega (arith, e))
box_filed l home ns (x ∷ xs) (y ∷ ys) e at =
    let rest = box_filed l (home + 1) ns xs ys (omega (arith, e)) (λ h. subst (λ (i : ℕ). (slice_get ys h ≡ slice_get xs h) ⊎ (slice_get ys h ≡ option_map (with_gone l i ns) (slice_get xs h))) (omega arith) (at (suc h))) in
    let here : length y.dead.names + length y.gone.names ≤ length x.dead.names + length x.gone.names + length (names_of l home ns) = ⊎_elim
    (λ same. (let is : y ≡ x = cc same in let dead = ap (λ (n : Notices). length n.dead.names) is in let gone = ap (λ (n : Notices). length n.gone.names) is in omega (arith, dead, gone)))
    (λ more. (let is : y ≡ with_gone l (home + 0) ns x = cc more in let dead = ap (λ (n : Notices). length n.dead.names) is in let gone = ap (λ (n : Notices). length n.gone.names) is in let zero_is : home + 0 ≡ home = omega arith in let list = ap (λ (i : ℕ). length (names_of l i ns)) zero_is in let all = length-append x.gone.names (names_of l (home + 0) ns) in omega (arith, dead, gone, list, all)))
    (at zero) in
    omega (arith, rest, here)

pub box_few : (l : Geometry) (home : ℕ) (ns : List EntryName) (old new : List Notices) → length new ≡ length old → ((h : ℕ) → (slice_get new h ≡ slice_get old h) ⊎ (slice_get new h ≡ option_map (with_gone l (home + h) ns) (slice_get old h)))
    → box_left new ≤ box_left old + length ns
box_few l home ns old new e at = (let boxes = box_filed l home ns old new e at in let few = few_filed l home ns (length old) in omega (arith, boxes, few))

-- a list without one name
abbrev without_one : EntryName → List EntryName → List EntryName
without_one d [] = []
without_one d (x ∷ xs) = cond (name_eq (x.key, x.version) (d.key, d.version)) xs (x ∷ without_one d xs)

name_is : (x d : EntryName) → name_eq (x.key, x.version) (d.key, d.version) ≡ true → x ≡ d
name_is x d is = let e = same_name x.key x.version d.key d.version is in (λ i. record { key = e.0 i; version = e.1 i })

counts_one : (p : EntryName → Bool) (d : EntryName) (ns : List EntryName) → 0 < times_in ns d.key d.version → count_by p ns ≡ count_by p (without_one d ns) + cond {A = ℕ} (p d) 1 0
counts_one p d [] some = absurd (omega (arith, some))
counts_one p d (x ∷ xs) some = by (name_eq (x.key, x.version) (d.key, d.version)) refl (counts_one p d xs) where
  all : count_by p (x ∷ xs) ≡ cond {A = ℕ} (p x) 1 0 + count_by p xs
  all = sum_by-cons (λ (y : EntryName). cond {A = ℕ} (p y) 1 0) x xs

  times : times_in (x ∷ xs) d.key d.version ≡ cond {A = ℕ} (name_eq (x.key, x.version) (d.key, d.version)) 1 0 + times_in xs d.key d.version
  times = sum_by-cons (λ (y : EntryName). cond {A = ℕ} (name_eq (y.key, y.version) (d.key, d.version)) 1 0) x xs

  by : (b : Bool) → name_eq (x.key, x.version) (d.key, d.version) ≡ b → (0 < times_in xs d.key d.version → count_by p xs ≡ count_by p (without_one d xs) + cond {A = ℕ} (p d) 1 0) → count_by p (x ∷ xs) ≡ count_by p (cond (name_eq (x.key, x.version) (d.key, d.version)) xs (x ∷ without_one d xs)) + cond {A = ℕ} (p d) 1 0
  by true is more =
      let list = ap (λ (b : Bool). count_by p (cond b xs (x ∷ without_one d xs))) is in
      let same = ap (λ (y : EntryName). cond {A = ℕ} (p y) 1 0) (name_is x d is) in
      let a = all in
      omega (arith, list, same, a)
  by false is more =
      let list = ap (λ (b : Bool). count_by p (cond b xs (x ∷ without_one d xs))) is in
      let bit = ap (λ (b : Bool). cond {A = ℕ} b 1 0) is in
      let t = times in
      let rest = more (omega (arith, some, t, bit)) in
      let head = sum_by-cons (λ (y : EntryName). cond {A = ℕ} (p y) 1 0) x (without_one d xs) in
      let a = all in
      omega (arith, list, rest, head, a)

same_self : (k v : ℕ) → name_eq (k, v) (k, v) ≡ true
same_self k v = λ i. eq-eqb k k refl i && eq-eqb v v refl i

-- names that all pass a test, none oftener than in a list, are no more than those of the list that pass it
pub few_that : (p : EntryName → Bool) (ds ns : List EntryName) → ((k v : ℕ) → times_in ds k v ≤ times_in ns k v) → ((k v : ℕ) → 0 < times_in ds k v → p (record { key = k; version = v }) ≡ true) → length ds ≤ count_by p ns
few_that p [] ns within passes = omega arith
few_that p (d ∷ ds) ns within passes =
    let times : (k v : ℕ) → times_in (d ∷ ds) k v ≡ cond {A = ℕ} (name_eq (d.key, d.version) (k, v)) 1 0 + times_in ds k v = λ k v. sum_by-cons (λ (y : EntryName). cond {A = ℕ} (name_eq (y.key, y.version) (k, v)) 1 0) d ds in
    let self = ap (λ (b : Bool). cond {A = ℕ} b 1 0) (same_self d.key d.version) in
    let here = times d.key d.version in
    let low = within d.key d.version in
    let some : 0 < times_in ns d.key d.version = omega (arith, here, self, low) in
    let rest = few_that p ds (without_one d ns)
    (λ k v. let less = counts_one (λ (y : EntryName). name_eq (y.key, y.version) (k, v)) d ns some in let t = times k v in let w = within k v in omega (arith, less, t, w))
    (λ k v more. passes k v (let t = times k v in omega (arith, t, more))) in
    let all = counts_one p d ns some in
    let yes = ap (λ (b : Bool). cond {A = ℕ} b 1 0) (passes d.key d.version (omega (arith, here, self))) in
    omega (arith, rest, all, yes)

-- a name that stands in a list is one of it
pub times_named : (ns : List EntryName) (k n : ℕ) → 0 < times_in ns k n → has ns k n ≡ true
times_named [] k n some = absurd (omega (arith, some))
times_named (x ∷ xs) k n some = by (name_eq (x.key, x.version) (k, n)) refl (times_named xs k n) where
  times : times_in (x ∷ xs) k n ≡ cond {A = ℕ} (name_eq (x.key, x.version) (k, n)) 1 0 + times_in xs k n
  times = sum_by-cons (λ (y : EntryName). cond {A = ℕ} (name_eq (y.key, y.version) (k, n)) 1 0) x xs

  last : (b : Bool) → has xs k n ≡ true → (b || has xs k n) ≡ true
  last true e = refl
  last false e = e

  by : (b : Bool) → name_eq (x.key, x.version) (k, n) ≡ b → (0 < times_in xs k n → has xs k n ≡ true) → (name_eq (x.key, x.version) (k, n) || has xs k n) ≡ true
  by true is rest = ap (λ (b : Bool). b || has xs k n) is
  by false is rest = last (name_eq (x.key, x.version) (k, n)) (rest (let bit = ap (λ (b : Bool). cond {A = ℕ} b 1 0) is in let t = times in omega (arith, some, bit, t)))
