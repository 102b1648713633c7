-- The entries of a key as a map from versions, and which of them are dead.
use Rattle.std.proofs.Common.{◌≡◌, ◌≢◌, ℕ, ◌+◌, ◌≤◌, ◌<◌, ◌==◌, Bool, true, false, cond, ◌&&◌, not, List, [], ◌∷◌, ◌++◌, Option, Some, None, refl, sym, ◌∙◌, ap, subst, arith}
use Rattle.std.specs.List.{AllByRecursion}
use Rattle.std.proofs.lemmas.Bool.{eqb-true, eq-eqb, ne_eqb, cond-true, cond-false}
use Rattle.core_index.specs.declared.types.StandingEntry.{StandingEntry}
use Rattle.core_index.specs.Records.{standing_with, standing_at, stands_alone, with_told, count_untold, others}

-- an entry that is found has the version
pub found_version : (ss : List StandingEntry) (v : ℕ) (s : StandingEntry) → standing_at ss v ≡ Some s → s.version ≡ v
found_version [] v s is = absurd (cc is)
found_version (x ∷ ss) v s is = by (found_version ss v s) (x.version == v) refl is
  where
    by : (standing_at ss v ≡ Some s → s.version ≡ v) → (b : Bool) → (x.version == v) ≡ b → cond b (Some x) (standing_at ss v) ≡ Some s → s.version ≡ v
    by rest true same at = let e : x ≡ s = cc at in subst (λ (y : StandingEntry). y.version ≡ v) e (eqb-true x.version v same)
    by rest false other at = rest at

-- what all entries have, one that is found has
pub found_has : (P : StandingEntry → Type 0) (ss : List StandingEntry) (v : ℕ) (s : StandingEntry) → AllByRecursion P ss → standing_at ss v ≡ Some s → P s
found_has P [] v s all is = absurd (cc is)
found_has P (x ∷ ss) v s all is = by (found_has P ss v s all.1) (x.version == v) is
  where
    by : (standing_at ss v ≡ Some s → P s) → (b : Bool) → cond b (Some x) (standing_at ss v) ≡ Some s → P s
    by rest true at = let e : x ≡ s = cc at in subst P e all.0
    by rest false at = rest at

-- a later version is in no such list
pub none_above : (ss : List StandingEntry) (v n : ℕ) → AllByRecursion (λ (s : StandingEntry). s.version ≤ n) ss → n < v → standing_at ss v ≡ None
none_above [] v n all lt = refl
none_above (x ∷ ss) v n all lt = cond-false (x.version == v) (Some x) (standing_at ss v) (ne_eqb x.version v (λ e. omega (arith, e, all.0, lt))) ∙ none_above ss v n all.1 lt

-- with one more entry at the end
pub at_more : (ss : List StandingEntry) (s : StandingEntry) (v : ℕ) → s.version ≢ v → standing_at (ss ++ s ∷ []) v ≡ standing_at ss v
at_more [] s v ne = cond-false (s.version == v) (Some s) None (ne_eqb s.version v ne)
at_more (x ∷ ss) s v ne = ap (λ (o : Option StandingEntry). cond (x.version == v) (Some x) o) (at_more ss s v ne)

pub at_added : (ss : List StandingEntry) (s : StandingEntry) → standing_at ss s.version ≡ None → standing_at (ss ++ s ∷ []) s.version ≡ Some s
at_added [] s none = cond-true (s.version == s.version) (Some s) None (eq-eqb s.version s.version refl)
at_added (x ∷ ss) s none = by (at_added ss s) (x.version == s.version) none
  where
    by : (standing_at ss s.version ≡ None → standing_at (ss ++ s ∷ []) s.version ≡ Some s) → (b : Bool) → cond b (Some x) (standing_at ss s.version) ≡ None → cond b (Some x) (standing_at (ss ++ s ∷ []) s.version) ≡ Some s
    by rest true at = absurd (cc at)
    by rest false at = rest at

-- once a version was told
pub at_told : (ss : List StandingEntry) (v : ℕ) (s : StandingEntry) → standing_at ss v ≡ Some s → standing_at (with_told ss v) v ≡ Some (standing_with v s.home true)
at_told [] v s is = absurd (cc is)
at_told (x ∷ ss) v s is = by (at_told ss v s) (x.version == v) refl is
  where
    by : (standing_at ss v ≡ Some s → standing_at (with_told ss v) v ≡ Some (standing_with v s.home true)) → (b : Bool) → (x.version == v) ≡ b → cond b (Some x) (standing_at ss v) ≡ Some s
        → standing_at (cond b (standing_with x.version x.home true ∷ ss) (x ∷ with_told ss v)) v ≡ Some (standing_with v s.home true)
    by rest true same at =
        let e : x ≡ s = cc at in
        let f = eqb-true x.version v same in
        cond-true (x.version == v) (Some (standing_with x.version x.home true)) (standing_at ss v) same ∙ cc (e, f)
    by rest false other at = cond-false (x.version == v) (Some x) (standing_at (with_told ss v) v) other ∙ rest at

-- and one entry less is to be told
pub fewer_untold : (ss : List StandingEntry) (v home : ℕ) → standing_at ss v ≡ Some (standing_with v home false) → count_untold (with_told ss v) + 1 ≡ count_untold ss
fewer_untold [] v home is = absurd (cc is)
fewer_untold (x ∷ ss) v home is = by (fewer_untold ss v home) (x.version == v) is
  where
    by : (standing_at ss v ≡ Some (standing_with v home false) → count_untold (with_told ss v) + 1 ≡ count_untold ss) → (b : Bool) → cond b (Some x) (standing_at ss v) ≡ Some (standing_with v home false)
        → count_untold (cond b (standing_with x.version x.home true ∷ ss) (x ∷ with_told ss v)) + 1 ≡ count_untold (x ∷ ss)
    by rest true at =
        let new : x.told ≡ false = let e : x ≡ standing_with v home false = cc at in ap (λ (s : StandingEntry). s.told) e in
        subst (λ (b : Bool). 0 + count_untold ss + 1 ≡ cond b 0 1 + count_untold ss) (sym new) (omega arith)
    by rest false at = let e = rest at in omega (arith, e)

-- one more entry that was not told
pub count_added : (ss : List StandingEntry) (v home : ℕ) → count_untold (ss ++ standing_with v home false ∷ []) ≡ count_untold ss + 1
count_added [] v home = refl
count_added (x ∷ ss) v home = let rest = count_added ss v home in omega (arith, rest)

-- without one there are no more
pub fewer_others : (ss : List StandingEntry) (v : ℕ) → count_untold (others v ss) ≤ count_untold ss
fewer_others [] v = omega arith
fewer_others (x ∷ ss) v = by (x.version == v) (fewer_others ss v)
  where
    by : (b : Bool) → count_untold (others v ss) ≤ count_untold ss → count_untold (cond (not b) (x ∷ others v ss) (others v ss)) ≤ count_untold (x ∷ ss)
    by true rest = omega (arith, rest)
    by false rest = omega (arith, rest)

pub at_told_other : (ss : List StandingEntry) (v w : ℕ) → w ≢ v → standing_at (with_told ss v) w ≡ standing_at ss w
at_told_other [] v w ne = refl
at_told_other (x ∷ ss) v w ne = by (at_told_other ss v w ne) (x.version == v) refl
  where
    by : standing_at (with_told ss v) w ≡ standing_at ss w → (b : Bool) → (x.version == v) ≡ b → standing_at (cond b (standing_with x.version x.home true ∷ ss) (x ∷ with_told ss v)) w ≡ standing_at (x ∷ ss) w
    by rest true same =
        let f = eqb-true x.version v same in
        let isnt : (x.version == w) ≡ false = ne_eqb x.version w (λ e. ne (sym e ∙ f)) in
        cond-false (x.version == w) (Some (standing_with x.version x.home true)) (standing_at ss w) isnt ∙ sym (cond-false (x.version == w) (Some x) (standing_at ss w) isnt)
    by rest false other = ap (λ (o : Option StandingEntry). cond (x.version == w) (Some x) o) rest

pub alone_told : (ss : List StandingEntry) (v w : ℕ) → stands_alone (with_told ss v) w ≡ stands_alone ss w
alone_told [] v w = refl
alone_told (x ∷ ss) v w = elim (x.version == v) as (λ b. stands_alone (cond b (standing_with x.version x.home true ∷ ss) (x ∷ with_told ss v)) w ≡ stands_alone (x ∷ ss) w) [
  | true ↦ refl
  | false ↦ ap (λ (b : Bool). (x.version == w) && b) (alone_told ss v w)
]

pub below_told : (ss : List StandingEntry) (v n : ℕ) → AllByRecursion (λ (s : StandingEntry). s.version ≤ n) ss → AllByRecursion (λ (s : StandingEntry). s.version ≤ n) (with_told ss v)
below_told [] v n all = tt
below_told (x ∷ ss) v n all = elim (x.version == v) as (λ b. AllByRecursion (λ (s : StandingEntry). s.version ≤ n) (cond b (standing_with x.version x.home true ∷ ss) (x ∷ with_told ss v))) [
  | true ↦ all
  | false ↦ (all.0, below_told ss v n all.1)
]

-- without a version
pub at_without : (ss : List StandingEntry) (v : ℕ) → standing_at (others v ss) v ≡ None
at_without [] v = refl
at_without (x ∷ ss) v = by (at_without ss v) (x.version == v) refl
  where
    by : standing_at (others v ss) v ≡ None → (b : Bool) → (x.version == v) ≡ b → standing_at (cond (not b) (x ∷ others v ss) (others v ss)) v ≡ None
    by rest true same = rest
    by rest false other = cond-false (x.version == v) (Some x) (standing_at (others v ss) v) other ∙ rest

pub at_without_other : (ss : List StandingEntry) (v w : ℕ) → w ≢ v → standing_at (others v ss) w ≡ standing_at ss w
at_without_other [] v w ne = refl
at_without_other (x ∷ ss) v w ne = by (at_without_other ss v w ne) (x.version == v) refl
  where
    by : standing_at (others v ss) w ≡ standing_at ss w → (b : Bool) → (x.version == v) ≡ b → standing_at (cond (not b) (x ∷ others v ss) (others v ss)) w ≡ standing_at (x ∷ ss) w
    by rest true same = let f = eqb-true x.version v same in rest ∙ sym (cond-false (x.version == w) (Some x) (standing_at ss w) (ne_eqb x.version w (λ e. ne (sym e ∙ f))))
    by rest false other = ap (λ (o : Option StandingEntry). cond (x.version == w) (Some x) o) rest

pub alone_without : (ss : List StandingEntry) (v w : ℕ) → stands_alone ss w ≡ true → stands_alone (others v ss) w ≡ true
alone_without [] v w alone = refl
alone_without (x ∷ ss) v w alone = by (alone_without ss v w) (x.version == w) refl alone
  where
    by : (stands_alone ss w ≡ true → stands_alone (others v ss) w ≡ true) → (b : Bool) → (x.version == w) ≡ b → (b && stands_alone ss w) ≡ true → stands_alone (others v (x ∷ ss)) w ≡ true
    by rest false other at = absurd (cc at)
    by rest true same at = elim (x.version == v) as (λ c. stands_alone (cond (not c) (x ∷ others v ss) (others v ss)) w ≡ true) [
      | true ↦ rest at
      | false ↦ ap (λ (c : Bool). c && stands_alone (others v ss) w) same ∙ rest at
    ]

pub below_without : (ss : List StandingEntry) (v n : ℕ) → AllByRecursion (λ (s : StandingEntry). s.version ≤ n) ss → AllByRecursion (λ (s : StandingEntry). s.version ≤ n) (others v ss)
below_without [] v n all = tt
below_without (x ∷ ss) v n all = elim (x.version == v) as (λ b. AllByRecursion (λ (s : StandingEntry). s.version ≤ n) (cond (not b) (x ∷ others v ss) (others v ss))) [
  | true ↦ below_without ss v n all.1
  | false ↦ (all.0, below_without ss v n all.1)
]

-- where one version stands alone, no other is found
pub alone_none : (ss : List StandingEntry) (v w : ℕ) → w ≢ v → stands_alone ss v ≡ true → standing_at ss w ≡ None
alone_none [] v w ne alone = refl
alone_none (x ∷ ss) v w ne alone = by (alone_none ss v w ne) (x.version == v) refl alone
  where
    by : (stands_alone ss v ≡ true → standing_at ss w ≡ None) → (b : Bool) → (x.version == v) ≡ b → (b && stands_alone ss v) ≡ true → standing_at (x ∷ ss) w ≡ None
    by rest false other at = absurd (cc at)
    by rest true same at = let f = eqb-true x.version v same in cond-false (x.version == w) (Some x) (standing_at ss w) (ne_eqb x.version w (λ e. ne (sym e ∙ f))) ∙ rest at

pub alone_front : (ss : List StandingEntry) (s : StandingEntry) (v : ℕ) → stands_alone (ss ++ s ∷ []) v ≡ true → stands_alone ss v ≡ true
alone_front [] s v alone = refl
alone_front (x ∷ ss) s v alone = by (alone_front ss s v) (x.version == v) alone
  where
    by : (stands_alone (ss ++ s ∷ []) v ≡ true → stands_alone ss v ≡ true) → (b : Bool) → (b && stands_alone (ss ++ s ∷ []) v) ≡ true → (b && stands_alone ss v) ≡ true
    by rest false at = absurd (cc at)
    by rest true at = rest at

pub below_more : (ss : List StandingEntry) (s : StandingEntry) (m n : ℕ) → m ≤ n → s.version ≤ n → AllByRecursion (λ (x : StandingEntry). x.version ≤ m) ss → AllByRecursion (λ (x : StandingEntry). x.version ≤ n) (ss ++ s ∷ [])
below_more [] s m n le new all = (new, tt)
below_more (x ∷ ss) s m n le new all = (omega (arith, le, all.0), below_more ss s m n le new all.1)
