-- A chunk comes into a chain, or leaves it.
use Rattle.std.proofs.Common.{◌≡◌, ◌≢◌, ⊎_elim, ℕ, ◌+◌, ◌≤◌, ◌<◌, Bool, true, false, List, length, set, Option, Some, None, refl, sym, ◌∙◌, ap, subst, arith}
use Rattle.std.proofs.lemmas.Bool.{cases_eq, cases_lt, both_ways}
use Rattle.std.proofs.lemmas.List.{length-set, get_or-set_same, get_or-set_other}
use Rattle.lazy_alloc.specs.Chains.{LeastFrom, link_at, IsLinked, Adds, Removes}

least_upto : (p q : ℕ → Bool) (from k : ℕ) → LeastFrom p from (Some k) → ((i : ℕ) → from ≤ i → i ≤ k → q i ≡ p i) → LeastFrom q from (Some k)
least_upto p q from k is same = (is.0, same k is.0 (omega arith) ∙ is.1, λ i low lt. same i low (omega arith) ∙ is.2 i low lt)

least_same : (p q : ℕ → Bool) (from : ℕ) (o : Option ℕ) → LeastFrom p from o → ((i : ℕ) → from ≤ i → q i ≡ p i) → LeastFrom q from o
least_same p q from None is same = λ k low. same k low ∙ is k low
least_same p q from (Some k) is same = least_upto p q from k is (λ i low le. same i low)

-- from a lower number on, where nothing is in between
least_lower : (p q : ℕ → Bool) (from to : ℕ) (o : Option ℕ) → from ≤ to → LeastFrom p to o → ((i : ℕ) → from ≤ i → i < to → q i ≡ false) → ((i : ℕ) → to ≤ i → q i ≡ p i) → LeastFrom q from o
least_lower p q from to None le is none same = λ k low. ⊎_elim (λ lt. none k low lt) (λ ge. same k ge ∙ is k ge) (cases_lt k to)
least_lower p q from to (Some k) le is none same = (let low = is.0 in omega arith, same k is.0 ∙ is.1, λ i low lt. ⊎_elim (λ before. none i low before) (λ ge. same i ge ∙ is.2 i ge lt) (cases_lt i to))

-- something is in: the least is at most that
some_in : (p : ℕ → Bool) (from i : ℕ) (o : Option ℕ) → from ≤ i → p i ≡ true → LeastFrom p from o → (k : ℕ) × (o ≡ Some k) × (k ≤ i)
some_in p from i None low is least = absurd (both_ways (p i) (least i low) is)
some_in p from i (Some k) low is least = (k, refl, ⊎_elim (λ lt. absurd (both_ways (p i) (least.2 i low lt) is)) (λ ge. ge) (cases_lt i k))

module _ (firsts nexts : List (Option ℕ)) (has has' : ℕ → ℕ → Bool) (is : IsLinked firsts nexts has) (c j : ℕ) (low : c < length firsts) where
  pub least_in : (k : ℕ) → has c k ≡ true → (f : ℕ) × (link_at firsts c ≡ Some f) × (f ≤ k)
  least_in k e = some_in (has c) 0 k (link_at firsts c) (omega arith) e (is.first c low)

  module _ (lt : j < length nexts) (adds : Adds has has' c j) where
    other : (d i : ℕ) → d ≢ c → has' d i ≡ has d i
    other d i ne = adds.others d i (λ both. ne both.0)

    apart : (d i : ℕ) → i ≢ j → has' d i ≡ has d i
    apart d i ne = adds.others d i (λ both. ne both.1)

    own : (d : ℕ) → has' d j ≡ true → d ≡ c
    own d e = ⊎_elim (λ same. same) (λ ne. absurd (both_ways (has d j) (adds.was d) (sym (other d j ne) ∙ e))) (cases_eq d c)

    added_one : (d e i : ℕ) → has' d i ≡ true → has' e i ≡ true → d ≡ e
    added_one d e i x y = ⊎_elim
        (λ same. own d (ap (has' d) (sym same) ∙ x) ∙ sym (own e (ap (has' e) (sym same) ∙ y)))
        (λ ne. is.one d e i (sym (apart d i ne) ∙ x) (sym (apart e i ne) ∙ y)) (cases_eq i j)

    added_within : (d i : ℕ) → has' d i ≡ true → i < length nexts
    added_within d i e = ⊎_elim (λ same. subst (λ (x : ℕ). x < length nexts) (sym same) lt) (λ ne. is.within d i (sym (apart d i ne) ∙ e)) (cases_eq i j)

    -- before all others of the chain
    module _ (least : (k : ℕ) → has c k ≡ true → j < k) where
      behind : LeastFrom (has' c) (j + 1) (link_at firsts c)
      behind = by (link_at firsts c) refl (is.first c low)
        where
          by : (o : Option ℕ) → link_at firsts c ≡ o → LeastFrom (has c) 0 o → LeastFrom (has' c) (j + 1) o
          by None e none = λ k le. apart c k (λ same. absurd (omega arith)) ∙ none k (omega arith)
          by (Some k) e some = (let l = least k some.1 in omega arith, apart c k (λ same. absurd (let l = least k some.1 in omega arith)) ∙ some.1, λ i le less. apart c i (λ same. absurd (omega arith)) ∙ some.2 i (omega arith) less)

      pub added_first : IsLinked (set firsts c (Some j)) (set nexts j (link_at firsts c)) has'
      added_first = record {
        first = λ d lower. ⊎_elim (first_own d) (λ ne. first_other d ne (subst (λ (n : ℕ). d < n) (length-set firsts c (Some j)) lower)) (cases_eq d c);
        next = λ d i e. ⊎_elim (next_own d i e) (next_other d i e) (cases_eq i j);
        one = added_one;
        within = λ d i e. subst (λ (n : ℕ). i < n) (sym (length-set nexts j (link_at firsts c))) (added_within d i e);
      }
        where
          first_own : (d : ℕ) → d ≡ c → LeastFrom (has' d) 0 (link_at (set firsts c (Some j)) d)
          first_own d same =
              let here : LeastFrom (has' c) 0 (Some j) = (omega arith, adds.now, λ i le less. apart c i (λ e. absurd (omega arith)) ∙ lower i less) in
              subst (λ (o : Option ℕ). LeastFrom (has' d) 0 o) (sym (ap (link_at (set firsts c (Some j))) same ∙ get_or-set_same firsts c (Some j) None low)) (subst (λ (x : ℕ). LeastFrom (has' x) 0 (Some j)) (sym same) here)
            where
              lower : (i : ℕ) → i < j → has c i ≡ false
              lower i less = by (has c i) refl
                where
                  by : (b : Bool) → has c i ≡ b → b ≡ false
                  by false e = refl
                  by true e = absurd (let l = least i e in omega arith)

          first_other : (d : ℕ) → d ≢ c → d < length firsts → LeastFrom (has' d) 0 (link_at (set firsts c (Some j)) d)
          first_other d ne lower = subst (λ (o : Option ℕ). LeastFrom (has' d) 0 o) (sym (get_or-set_other firsts c d (Some j) None ne)) (least_same (has d) (has' d) 0 (link_at firsts d) (is.first d lower) (λ i le. other d i ne))

          next_own : (d i : ℕ) → has' d i ≡ true → i ≡ j → LeastFrom (has' d) (i + 1) (link_at (set nexts j (link_at firsts c)) i)
          next_own d i e same =
              let class = own d (ap (has' d) (sym same) ∙ e) in
              subst (λ (o : Option ℕ). LeastFrom (has' d) (i + 1) o) (sym (ap (link_at (set nexts j (link_at firsts c))) same ∙ get_or-set_same nexts j (link_at firsts c) None lt))
              (subst (λ (x : ℕ). LeastFrom (has' x) (i + 1) (link_at firsts c)) (sym class) (subst (λ (x : ℕ). LeastFrom (has' c) (x + 1) (link_at firsts c)) (sym same) behind))

          next_other : (d i : ℕ) → has' d i ≡ true → i ≢ j → LeastFrom (has' d) (i + 1) (link_at (set nexts j (link_at firsts c)) i)
          next_other d i e ne =
              let was : has d i ≡ true = sym (apart d i ne) ∙ e in
              subst (λ (o : Option ℕ). LeastFrom (has' d) (i + 1) o) (sym (get_or-set_other nexts j i (link_at firsts c) None ne))
              (least_same (has d) (has' d) (i + 1) (link_at nexts i) (is.next d i was) (λ x le. ⊎_elim (λ class. apart d x (λ same. absurd (let l = least i (ap (λ (y : ℕ). has y i) (sym class) ∙ was) in omega arith))) (λ unlike. other d x unlike) (cases_eq d c)))

    -- behind another one of the chain
    module _ (at : ℕ) (there : has c at ≡ true) (before : at < j) (last : (k : ℕ) → link_at nexts at ≡ Some k → j ≤ k) where
      between : (i : ℕ) → at < i → i ≤ j → has c i ≡ false
      between i above le = by (link_at nexts at) refl (is.next c at there)
        where
          by : (o : Option ℕ) → link_at nexts at ≡ o → LeastFrom (has c) (at + 1) o → has c i ≡ false
          by None e none = none i (omega arith)
          by (Some k) e some = ⊎_elim (λ less. some.2 i (omega arith) less) (λ ge. let here : i ≡ j = (let l = last k e in omega arith) in ap (has c) here ∙ adds.was c) (cases_lt i k)

      behind' : LeastFrom (has' c) (j + 1) (link_at nexts at)
      behind' = by (link_at nexts at) refl (is.next c at there)
        where
          by : (o : Option ℕ) → link_at nexts at ≡ o → LeastFrom (has c) (at + 1) o → LeastFrom (has' c) (j + 1) o
          by None e none = λ k le. apart c k (λ same. absurd (omega arith)) ∙ none k (omega arith)
          by (Some k) e some =
              let ne : k ≢ j = λ same. both_ways (has c j) (adds.was c) (ap (has c) (sym same) ∙ some.1) in
              (let l = last k e in omega arith, apart c k ne ∙ some.1, λ i le less. apart c i (λ same. absurd (omega arith)) ∙ some.2 i (omega arith) less)

      at_in : at < length nexts
      at_in = is.within c at there

      pub added_behind : IsLinked firsts (set (set nexts j (link_at nexts at)) at (Some j)) has'
      added_behind = record {
        first = λ d lower. ⊎_elim (first_own d lower) (λ ne. least_same (has d) (has' d) 0 (link_at firsts d) (is.first d lower) (λ i le. other d i ne)) (cases_eq d c);
        next = λ d i e. ⊎_elim (next_at d i e) (λ away. ⊎_elim (next_own d i e away) (next_other d i e away) (cases_eq i j)) (cases_eq i at);
        one = added_one;
        within = λ d i e. subst (λ (n : ℕ). i < n) (sym (length-set (set nexts j (link_at nexts at)) at (Some j) ∙ length-set nexts j (link_at nexts at))) (added_within d i e);
      }
        where
          first_own : (d : ℕ) → d < length firsts → d ≡ c → LeastFrom (has' d) 0 (link_at firsts d)
          first_own d lower same =
              let f = least_in at there in
              let here : LeastFrom (has' c) 0 (Some f.0) = least_upto (has c) (has' c) 0 f.0 (subst (λ (o : Option ℕ). LeastFrom (has c) 0 o) f.1 (is.first c low)) (λ i le less. apart c i (λ e. absurd (let g = f.2 in omega arith))) in
              subst (λ (x : ℕ). LeastFrom (has' x) 0 (link_at firsts x)) (sym same) (subst (λ (o : Option ℕ). LeastFrom (has' c) 0 o) (sym f.1) here)

          next_at : (d i : ℕ) → has' d i ≡ true → i ≡ at → LeastFrom (has' d) (i + 1) (link_at (set (set nexts j (link_at nexts at)) at (Some j)) i)
          next_at d i e same =
              let ne : at ≢ j = λ x. absurd (omega arith) in
              let class : d ≡ c = is.one d c at (sym (apart d at ne) ∙ ap (has' d) (sym same) ∙ e) there in
              let here : LeastFrom (has' c) (at + 1) (Some j) = (omega arith, adds.now, λ x le less. apart c x (λ q. absurd (omega arith)) ∙ between x (omega arith) (omega arith)) in
              subst (λ (o : Option ℕ). LeastFrom (has' d) (i + 1) o) (sym (ap (link_at (set (set nexts j (link_at nexts at)) at (Some j))) same ∙ get_or-set_same (set nexts j (link_at nexts at)) at (Some j) None (subst (λ (n : ℕ). at < n) (sym (length-set nexts j (link_at nexts at))) at_in)))
              (subst (λ (x : ℕ). LeastFrom (has' x) (i + 1) (Some j)) (sym class) (subst (λ (x : ℕ). LeastFrom (has' c) (x + 1) (Some j)) (sym same) here))

          next_own : (d i : ℕ) → has' d i ≡ true → i ≢ at → i ≡ j → LeastFrom (has' d) (i + 1) (link_at (set (set nexts j (link_at nexts at)) at (Some j)) i)
          next_own d i e away same =
              let class = own d (ap (has' d) (sym same) ∙ e) in
              subst (λ (o : Option ℕ). LeastFrom (has' d) (i + 1) o) (sym (get_or-set_other (set nexts j (link_at nexts at)) at i (Some j) None away ∙ ap (link_at (set nexts j (link_at nexts at))) same ∙ get_or-set_same nexts j (link_at nexts at) None lt))
              (subst (λ (x : ℕ). LeastFrom (has' x) (i + 1) (link_at nexts at)) (sym class) (subst (λ (x : ℕ). LeastFrom (has' c) (x + 1) (link_at nexts at)) (sym same) behind'))

          next_other : (d i : ℕ) → has' d i ≡ true → i ≢ at → i ≢ j → LeastFrom (has' d) (i + 1) (link_at (set (set nexts j (link_at nexts at)) at (Some j)) i)
          next_other d i e away ne =
              let was : has d i ≡ true = sym (apart d i ne) ∙ e in
              subst (λ (o : Option ℕ). LeastFrom (has' d) (i + 1) o) (sym (get_or-set_other (set nexts j (link_at nexts at)) at i (Some j) None away ∙ get_or-set_other nexts j i (link_at nexts at) None ne))
              (⊎_elim (mine was) (λ unlike. least_same (has d) (has' d) (i + 1) (link_at nexts i) (is.next d i was) (λ x le. other d x unlike)) (cases_eq d c))
            where
              mine : has d i ≡ true → d ≡ c → LeastFrom (has' d) (i + 1) (link_at nexts i)
              mine was class =
                  let was' : has c i ≡ true = ap (λ (y : ℕ). has y i) (sym class) ∙ was in
                  ⊎_elim
                  (λ lower.
                  let s = some_in (has c) (i + 1) at (link_at nexts i) (omega arith) there (is.next c i was') in
                  let here : LeastFrom (has' c) (i + 1) (Some s.0) = least_upto (has c) (has' c) (i + 1) s.0 (subst (λ (o : Option ℕ). LeastFrom (has c) (i + 1) o) s.1 (is.next c i was')) (λ x le less. apart c x (λ q. absurd (let t = s.2 in omega arith))) in
                  subst (λ (y : ℕ). LeastFrom (has' y) (i + 1) (link_at nexts i)) (sym class) (subst (λ (o : Option ℕ). LeastFrom (has' c) (i + 1) o) (sym s.1) here))
                  (λ above.
                  let past : j < i = ⊎_elim (λ less. less) (λ ge. absurd (both_ways (has c i) (between i (omega arith) ge) was')) (cases_lt j i) in
                  subst (λ (y : ℕ). LeastFrom (has' y) (i + 1) (link_at nexts i)) (sym class) (least_same (has c) (has' c) (i + 1) (link_at nexts i) (is.next c i was') (λ x le. apart c x (λ q. absurd (omega arith)))))
                  (cases_lt i at)

  module _ (removes : Removes has has' c j) where
    other' : (d i : ℕ) → d ≢ c → has' d i ≡ has d i
    other' d i ne = removes.others d i (λ both. ne both.0)

    apart' : (d i : ℕ) → i ≢ j → has' d i ≡ has d i
    apart' d i ne = removes.others d i (λ both. ne both.1)

    -- what is in was in, and is another one
    still : (d i : ℕ) → has' d i ≡ true → has d i ≡ true
    still d i e = ⊎_elim
        (λ class. ⊎_elim (λ same. absurd (both_ways (has' c j) removes.now ((λ t. has' (sym class t) (sym same t)) ∙ e))) (λ ne. sym (apart' d i ne) ∙ e) (cases_eq i j))
        (λ unlike. sym (other' d i unlike) ∙ e) (cases_eq d c)

    not_own : (i : ℕ) → has' c i ≡ true → i ≢ j
    not_own i e same = both_ways (has' c j) removes.now (ap (has' c) (sym same) ∙ e)

    removed_one : (d e i : ℕ) → has' d i ≡ true → has' e i ≡ true → d ≡ e
    removed_one d e i x y = is.one d e i (still d i x) (still e i y)

    -- the first of the chain
    module _ (least : (k : ℕ) → has c k ≡ true → j ≤ k) where
      pub removed_first : IsLinked (set firsts c (link_at nexts j)) nexts has'
      removed_first = record {
        first = λ d lower. ⊎_elim (first_own d) (λ ne. first_other d ne (subst (λ (n : ℕ). d < n) (length-set firsts c (link_at nexts j)) lower)) (cases_eq d c);
        next = λ d i e. ⊎_elim (next_own d i e) (λ unlike. least_same (has d) (has' d) (i + 1) (link_at nexts i) (is.next d i (still d i e)) (λ x le. other' d x unlike)) (cases_eq d c);
        one = removed_one;
        within = λ d i e. is.within d i (still d i e);
      }
        where
          lower : (i : ℕ) → i < j → has c i ≡ false
          lower i less = by (has c i) refl
            where
              by : (b : Bool) → has c i ≡ b → b ≡ false
              by false e = refl
              by true e = absurd (let l = least i e in omega arith)

          first_own : (d : ℕ) → d ≡ c → LeastFrom (has' d) 0 (link_at (set firsts c (link_at nexts j)) d)
          first_own d same =
              let here : LeastFrom (has' c) 0 (link_at nexts j) = least_lower (has c) (has' c) 0 (j + 1) (link_at nexts j) (omega arith) (is.next c j removes.was)
              (λ i le less. ⊎_elim (λ q. ap (has' c) q ∙ removes.now) (λ ne. apart' c i ne ∙ lower i (omega arith)) (cases_eq i j)) (λ i le. apart' c i (λ q. absurd (omega arith))) in
              subst (λ (o : Option ℕ). LeastFrom (has' d) 0 o) (sym (ap (link_at (set firsts c (link_at nexts j))) same ∙ get_or-set_same firsts c (link_at nexts j) None low)) (subst (λ (x : ℕ). LeastFrom (has' x) 0 (link_at nexts j)) (sym same) here)

          first_other : (d : ℕ) → d ≢ c → d < length firsts → LeastFrom (has' d) 0 (link_at (set firsts c (link_at nexts j)) d)
          first_other d ne lower = subst (λ (o : Option ℕ). LeastFrom (has' d) 0 o) (sym (get_or-set_other firsts c d (link_at nexts j) None ne)) (least_same (has d) (has' d) 0 (link_at firsts d) (is.first d lower) (λ i le. other' d i ne))

          next_own : (d i : ℕ) → has' d i ≡ true → d ≡ c → LeastFrom (has' d) (i + 1) (link_at nexts i)
          next_own d i e class =
              let in_chain : has' c i ≡ true = ap (λ (y : ℕ). has' y i) (sym class) ∙ e in
              let ne = not_own i in_chain in
              let le = least i (still c i in_chain) in
              let past : j < i = ⊎_elim (λ less. less) (λ ge. absurd (ne (omega arith))) (cases_lt j i) in
              least_same (has d) (has' d) (i + 1) (link_at nexts i) (is.next d i (still d i e)) (λ x le. apart' d x (λ q. absurd (omega arith)))

    -- one behind another
    module _ (at : ℕ) (there : has c at ≡ true) (before : at < j) (last : (k : ℕ) → link_at nexts at ≡ Some k → j ≤ k) where
      points : link_at nexts at ≡ Some j
      points =
          let s = some_in (has c) (at + 1) j (link_at nexts at) (omega arith) removes.was (is.next c at there) in
          let l = last s.0 s.1 in
          let le = s.2 in
          s.1 ∙ ap Some (let e : s.0 ≡ j = omega arith in e)

      between' : (i : ℕ) → at < i → i < j → has c i ≡ false
      between' i above less = (subst (λ (o : Option ℕ). LeastFrom (has c) (at + 1) o) points (is.next c at there)).2 i (omega arith) less

      pub removed_behind : IsLinked firsts (set nexts at (link_at nexts j)) has'
      removed_behind = record {
        first = λ d lower. ⊎_elim (first_own d) (λ ne. least_same (has d) (has' d) 0 (link_at firsts d) (is.first d lower) (λ i le. other' d i ne)) (cases_eq d c);
        next = λ d i e. ⊎_elim (next_at d i e) (next_other d i e) (cases_eq i at);
        one = removed_one;
        within = λ d i e. subst (λ (n : ℕ). i < n) (sym (length-set nexts at (link_at nexts j))) (is.within d i (still d i e));
      }
        where
          first_own : (d : ℕ) → d ≡ c → LeastFrom (has' d) 0 (link_at firsts d)
          first_own d same =
              let f = least_in at there in
              let here : LeastFrom (has' c) 0 (Some f.0) = least_upto (has c) (has' c) 0 f.0 (subst (λ (o : Option ℕ). LeastFrom (has c) 0 o) f.1 (is.first c low)) (λ i le less. apart' c i (λ e. absurd (let g = f.2 in omega arith))) in
              subst (λ (x : ℕ). LeastFrom (has' x) 0 (link_at firsts x)) (sym same) (subst (λ (o : Option ℕ). LeastFrom (has' c) 0 o) (sym f.1) here)

          next_at : (d i : ℕ) → has' d i ≡ true → i ≡ at → LeastFrom (has' d) (i + 1) (link_at (set nexts at (link_at nexts j)) i)
          next_at d i e same =
              let class : d ≡ c = is.one d c at (ap (has d) (sym same) ∙ still d i e) there in
              let here : LeastFrom (has' c) (at + 1) (link_at nexts j) = least_lower (has c) (has' c) (at + 1) (j + 1) (link_at nexts j) (omega arith) (is.next c j removes.was)
              (λ x le less. ⊎_elim (λ q. ap (has' c) q ∙ removes.now) (λ ne. apart' c x ne ∙ between' x (omega arith) (omega arith)) (cases_eq x j)) (λ x le. apart' c x (λ q. absurd (omega arith))) in
              subst (λ (o : Option ℕ). LeastFrom (has' d) (i + 1) o) (sym (ap (link_at (set nexts at (link_at nexts j))) same ∙ get_or-set_same nexts at (link_at nexts j) None (is.within c at there)))
              (subst (λ (x : ℕ). LeastFrom (has' x) (i + 1) (link_at nexts j)) (sym class) (subst (λ (x : ℕ). LeastFrom (has' c) (x + 1) (link_at nexts j)) (sym same) here))

          next_other : (d i : ℕ) → has' d i ≡ true → i ≢ at → LeastFrom (has' d) (i + 1) (link_at (set nexts at (link_at nexts j)) i)
          next_other d i e away =
              subst (λ (o : Option ℕ). LeastFrom (has' d) (i + 1) o) (sym (get_or-set_other nexts at i (link_at nexts j) None away))
              (⊎_elim mine (λ unlike. least_same (has d) (has' d) (i + 1) (link_at nexts i) (is.next d i (still d i e)) (λ x le. other' d x unlike)) (cases_eq d c))
            where
              mine : d ≡ c → LeastFrom (has' d) (i + 1) (link_at nexts i)
              mine class =
                  let in_chain : has' c i ≡ true = ap (λ (y : ℕ). has' y i) (sym class) ∙ e in
                  let was : has c i ≡ true = still c i in_chain in
                  let ne = not_own i in_chain in
                  ⊎_elim
                  (λ lower.
                  let s = some_in (has c) (i + 1) at (link_at nexts i) (omega arith) there (is.next c i was) in
                  let here : LeastFrom (has' c) (i + 1) (Some s.0) = least_upto (has c) (has' c) (i + 1) s.0 (subst (λ (o : Option ℕ). LeastFrom (has c) (i + 1) o) s.1 (is.next c i was)) (λ x le less. apart' c x (λ q. absurd (let t = s.2 in omega arith))) in
                  subst (λ (y : ℕ). LeastFrom (has' y) (i + 1) (link_at nexts i)) (sym class) (subst (λ (o : Option ℕ). LeastFrom (has' c) (i + 1) o) (sym s.1) here))
                  (λ above.
                  let past : j < i = ⊎_elim (λ less. less) (λ ge. ⊎_elim (λ lt. absurd (both_ways (has c i) (between' i (omega arith) lt) was)) (λ le. absurd (ne (omega arith))) (cases_lt i j)) (cases_lt j i) in
                  subst (λ (y : ℕ). LeastFrom (has' y) (i + 1) (link_at nexts i)) (sym class) (least_same (has c) (has' c) (i + 1) (link_at nexts i) (is.next c i was) (λ x le. apart' c x (λ q. absurd (omega arith)))))
                  (cases_lt i at)

-- a chunk that is the first of its class's chain, or is linked to, is in it
pub first_has : (firsts nexts : List (Option ℕ)) (has : ℕ → ℕ → Bool) → IsLinked firsts nexts has → (c f : ℕ) → c < length firsts → link_at firsts c ≡ Some f → has c f ≡ true
first_has firsts nexts has is c f low e = (subst (λ (o : Option ℕ). LeastFrom (has c) 0 o) e (is.first c low)).1

pub next_has : (firsts nexts : List (Option ℕ)) (has : ℕ → ℕ → Bool) → IsLinked firsts nexts has → (c i k : ℕ) → has c i ≡ true → link_at nexts i ≡ Some k → (i < k) × (has c k ≡ true)
next_has firsts nexts has is c i k there e = let l = subst (λ (o : Option ℕ). LeastFrom (has c) (i + 1) o) e (is.next c i there) in (let low = l.0 in omega arith, l.1)

-- where the first of the chain is not below a chunk, none is
pub none_below : (firsts nexts : List (Option ℕ)) (has : ℕ → ℕ → Bool) (is : IsLinked firsts nexts has) (c j : ℕ) → c < length firsts → ((f : ℕ) → link_at firsts c ≡ Some f → j ≤ f) → (k : ℕ) → has c k ≡ true → j ≤ k
none_below firsts nexts has is c j low least k e = let f = some_in (has c) 0 k (link_at firsts c) (omega arith) e (is.first c low) in let l = least f.0 f.1 in let le = f.2 in omega arith

pub none_at : (has : ℕ → ℕ → Bool) (c j : ℕ) → ((k : ℕ) → has c k ≡ true → j ≤ k) → has c j ≡ false → (k : ℕ) → has c k ≡ true → j < k
none_at has c j least was k e = let l = least k e in ⊎_elim (λ same. absurd (both_ways (has c j) was (ap (has c) (sym same) ∙ e))) (λ ne. omega arith) (cases_eq k j)

-- along equal lists
pub linked_at : (firsts firsts' nexts nexts' : List (Option ℕ)) (has : ℕ → ℕ → Bool) → firsts' ≡ firsts → nexts' ≡ nexts → IsLinked firsts nexts has → IsLinked firsts' nexts' has
linked_at firsts firsts' nexts nexts' has f n is = subst (λ (x : List (Option ℕ)). IsLinked x nexts' has) (sym f) (subst (λ (x : List (Option ℕ)). IsLinked firsts x has) (sym n) is)

pub linked_same : (firsts nexts : List (Option ℕ)) (has has' : ℕ → ℕ → Bool) → IsLinked firsts nexts has → ((d i : ℕ) → has' d i ≡ has d i) → IsLinked firsts nexts has'
linked_same firsts nexts has has' is same = subst (λ (h : ℕ → ℕ → Bool). IsLinked firsts nexts h) (λ t d i. sym (same d i) t) is
