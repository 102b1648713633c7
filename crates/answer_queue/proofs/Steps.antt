-- Each step keeps the rule of the queue of answers.
use Rattle.std.proofs.Common.{◌≡◌, ℕ, ◌+◌, ◌<◌, ◌≤◌, List, [], ◌∷◌, ◌++◌, length, set, sym, refl, ap, ap₂, ◌∙◌, subst₂, ⊎_elim, append_assoc, length-append, IsPermutation, arith}
use Rattle.std.proofs.lemmas.List.Sorted.{IsPermutation-refl, IsPermutation-sym, IsPermutation-trans, IsPermutation-append_left, length_permutation}
use Rattle.std.proofs.lemmas.List.{nil_from_length}
use mathlib.Core.Option.{some, some-ne-none}
use lib.ListN.{get_elem?}
use Rattle.crossbeam_queue.specs.Fifo.{Pushes, Pops, Forks, Merges, Learns}
use Rattle.crossbeam_queue.proofs.Lists.{at_set}
use Rattle.answer_queue.specs.declared.window_sizes.TheConstants.{WINDOW, PARTS}
use Rattle.core_worker.specs.declared.types.Answer.{Answer}
use Rattle.answer_queue.specs.declared.account.Account.{Account}
use Rattle.answer_queue.specs.Accounts.{account, times, AreDistinct, AreAmong, numbers, total, gathered, IsIdle, Once, spent, granted, with_numbers, without_numbers, joined, after_put, after_take, PutsAs, TakesAs, HasRoomFor, SettlesAs}
use Rattle.answer_queue.proofs.Gathering.{by_equality, total_set, total_snoc, total_at, total_both, gathered_length, gathered_snoc, gathered_same, gathered_more, gathered_joined, AllIdle, none_gathered, none_total, alone_gathered, alone_total, idle_set, idle_snoc}
use Rattle.answer_queue.proofs.Numbering.{times_append, numbers_append, leaves, leaves_all}

abbrev put_of : Account → List Answer
put_of v = v.put

abbrev took_of : Account → List Answer
took_of v = v.took

-- how many may come and came, and how often a number does
abbrev count_of : Account → ℕ
count_of v = length v.may + length v.put

abbrev times_of : ℕ → Account → ℕ
times_of n v = times n v.may + times n (numbers v.put)

-- a pass begins with nothing but its parts
pub begins : Once [] (account PARTS [] [] [] ∷ [])
begins = record {
  parts = refl;
  kept = IsPermutation-refl [];
  few = omega arith;
  distinct = λ n. omega arith;
  idle = idle_snoc [] (account PARTS [] [] []) (λ none. absurd (omega arith)) (λ port v at. absurd (some-ne-none v (sym at)));
}

idle_spent : IsIdle spent
idle_spent = record { may = refl; put = refl; took = refl }

idle_count : (v : Account) → IsIdle v → count_of v ≡ 0
idle_count v i = ap₂ (λ (a : List ℕ) (b : List Answer). length a + length b) i.may i.put

idle_times : (n : ℕ) (v : Account) → IsIdle v → times_of n v ≡ 0
idle_times n v i = ap₂ (λ (a : List ℕ) (b : List Answer). times n a + times n (numbers b)) i.may i.put

-- The pass with all parts, which has taken as many as it put, may give the numbers of a window to a new one. So may one that has done nothing.
pub grants : (ns : List ℕ) → length ns ≤ WINDOW → AreDistinct ns → (port : ℕ) (v : Account) → v.parts ≡ PARTS → length v.took ≡ length v.put → Forks Once port v spent (granted ns)
grants ns few distinct port v whole level items views h at =
    let w : Account = granted ns in
    let vs : List Account = set views port spent in
    let sum : total (λ u. u.parts) views ≡ v.parts = h.parts ∙ sym whole in
    let put_is : gathered put_of views ≡ v.put = alone_gathered put_of (λ u i. i.put) views port v at h.idle sum in
    let took_is : gathered took_of views ≡ v.took = alone_gathered took_of (λ u i. i.took) views port v at h.idle sum in
    let l = length_permutation (gathered put_of views) (gathered took_of views ++ items) h.kept in
    let a = ap length put_is in
    let b = ap length took_is in
    let none : items ≡ [] = nil_from_length items (omega (arith, length-append (gathered took_of views) items)) in
    let idle : AllIdle vs = idle_set views port spent (λ _. idle_spent) h.idle in
    let zero_parts : total (λ u. u.parts) vs ≡ 0 = (let s = total_set (λ u. u.parts) views port v spent at in omega arith) in
    let no_put : gathered put_of (vs ++ w ∷ []) ≡ [] = gathered_snoc put_of vs w refl ∙ none_gathered put_of (λ u i. i.put) vs idle zero_parts in
    let no_took : gathered took_of (vs ++ w ∷ []) ++ items ≡ [] = ap₂ (λ (x y : List Answer). x ++ y) (gathered_snoc took_of vs w refl ∙ none_gathered took_of (λ u i. i.took) vs idle zero_parts) none in
    record {
      parts = (let t = total_snoc (λ u. u.parts) vs w in omega arith);
      kept = subst₂ IsPermutation (sym no_put) (sym no_took) (IsPermutation-refl []);
      few = (let c = none_total count_of idle_count vs idle zero_parts in let t = total_snoc count_of vs w in omega arith);
      distinct = λ n. (let c = none_total (times_of n) (idle_times n) vs idle zero_parts in let t = total_snoc (times_of n) vs w in let d = distinct n in omega arith);
      idle = idle_snoc vs w (λ z. absurd (omega arith)) idle;
    }

-- an answer is put
pub puts : (n port : ℕ) (v : Account) (x : Answer) → 0 < v.parts → 0 < times x.number v.may → Pushes Once n port v x (PutsAs v x)
puts n port v x part may items views room h at =
    let w : Account = after_put v x in
    let l = leaves x.number v.may may in
    let ps : List Answer = gathered put_of views in
    let ts : List Answer = gathered took_of views in
    let more : IsPermutation (gathered put_of (set views port w)) (ps ++ x ∷ []) = gathered_more put_of views port v w (x ∷ []) at refl in
    let same : gathered took_of (set views port w) ≡ ts = gathered_same took_of views port v w at refl in (
      w,
      record {
        parts = (let s = total_set (λ u. u.parts) views port v w at in let p = h.parts in omega arith);
        kept = IsPermutation-trans _ _ _ more (IsPermutation-trans _ _ _ (IsPermutation-append_left (x ∷ []) ps (ts ++ items) h.kept) (by_equality _ _ (append_assoc ts items (x ∷ []) ∙ ap (λ k. k ++ (items ++ x ∷ [])) (sym same))));
        few = (let s = total_set count_of views port v w at in let k = l.length_is in let f = h.few in omega (arith, length-append v.put (x ∷ [])));
        distinct = λ m. (let s = total_set (times_of m) views port v w at in let k = l.times_are m in let d = h.distinct m in
            let a : times m (numbers (v.put ++ x ∷ [])) ≡ times m (numbers v.put ++ x.number ∷ []) = ap (times m) (numbers_append v.put (x ∷ [])) in
            omega (arith, times_append m (numbers v.put) (x.number ∷ [])));
        idle = idle_set views port w (λ none. absurd (omega arith)) h.idle;
      },
      refl,
    )

-- as many places are free as numbers may come
pub rooms : (port : ℕ) (v : Account) → Learns Once port v (HasRoomFor v)
rooms port v items views h at =
    let ps : List Answer = gathered put_of views in
    let ts : List Answer = gathered took_of views in
    let l = length_permutation ps (ts ++ items) h.kept in
    let both = total_both (λ u. length u.may) (λ u. length u.put) views in
    let mine = total_at (λ u. length u.may) views port v at in
    let f = h.few in
    omega (arith, length-append ts items, gathered_length put_of views)

-- an answer is taken
pub takes : (port : ℕ) (v : Account) → 0 < v.parts → Pops Once port v (TakesAs v)
takes port v part x items views h at =
    let w : Account = after_take v x in
    let ps : List Answer = gathered put_of views in
    let ts : List Answer = gathered took_of views in
    let more : IsPermutation (gathered took_of (set views port w)) (ts ++ x ∷ []) = gathered_more took_of views port v w (x ∷ []) at refl in
    let same : gathered put_of (set views port w) ≡ ps = gathered_same put_of views port v w at refl in
    let l = length_permutation ps (ts ++ (x ∷ items)) h.kept in
    let mine = total_at (λ u. length u.took) views port v at in
    let both = total_both (λ u. length u.may) (λ u. length u.put) views in
    let f = h.few in (
      w,
      record {
        parts = (let s = total_set (λ u. u.parts) views port v w at in let p = h.parts in omega arith);
        kept = IsPermutation-trans _ _ _ (by_equality _ _ same) (IsPermutation-trans _ _ _ h.kept (IsPermutation-trans _ _ _ (by_equality _ _ (sym (append_assoc ts (x ∷ []) items))) (IsPermutation-append_left items (ts ++ x ∷ []) _ (IsPermutation-sym _ _ more))));
        few = (let s = total_set count_of views port v w at in omega arith);
        distinct = λ m. (let s = total_set (times_of m) views port v w at in let d = h.distinct m in omega arith);
        idle = idle_set views port w (λ none. absurd (omega arith)) h.idle;
      },
      (refl, omega (arith, length-append v.took (x ∷ []), length-append ts (x ∷ items), gathered_length put_of views, gathered_length took_of views)),
    )

-- with all parts, what was put is known to be what was taken and what the queue holds
pub settles : (port : ℕ) (v : Account) → Learns Once port v (SettlesAs v)
settles port v items views h at all =
    let sum : total (λ u. u.parts) views ≡ v.parts = h.parts ∙ sym all in
    let put_is : gathered put_of views ≡ v.put = alone_gathered put_of (λ u i. i.put) views port v at h.idle sum in
    let took_is : gathered took_of views ≡ v.took = alone_gathered took_of (λ u i. i.took) views port v at h.idle sum in (
      subst₂ (λ p t. IsPermutation p (t ++ items)) put_is took_is h.kept,
      λ n. (let a = alone_total (times_of n) (idle_times n) views port v at h.idle sum in let d = h.distinct n in omega arith),
    )

-- a pass gives a part and some of its numbers to a new one
pub deals : (ns : List ℕ) (port : ℕ) (v : Account) → 1 < v.parts → AreAmong ns v.may → Forks Once port v (without_numbers ns v) (with_numbers ns)
deals ns port v parts among items views h at =
    let a : Account = without_numbers ns v in
    let w : Account = with_numbers ns in
    let vs : List Account = set views port a in
    let l = leaves_all ns v.may among in
    let put_is : gathered put_of (vs ++ w ∷ []) ≡ gathered put_of views = gathered_snoc put_of vs w refl ∙ gathered_same put_of views port v a at refl in
    let took_is : gathered took_of (vs ++ w ∷ []) ≡ gathered took_of views = gathered_snoc took_of vs w refl ∙ gathered_same took_of views port v a at refl in
    record {
      parts = (let s = total_set (λ u. u.parts) views port v a at in let t = total_snoc (λ u. u.parts) vs w in let p = h.parts in omega arith);
      kept = subst₂ (λ p t. IsPermutation p (t ++ items)) (sym put_is) (sym took_is) h.kept;
      few = (let s = total_set count_of views port v a at in let t = total_snoc count_of vs w in let k = l.length_is in let f = h.few in omega arith);
      distinct = λ n. (let s = total_set (times_of n) views port v a at in let t = total_snoc (times_of n) vs w in let k = l.times_are n in let d = h.distinct n in omega arith);
      idle = idle_snoc vs w (λ none. absurd (omega arith)) (idle_set views port a (λ none. absurd (omega arith)) h.idle);
    }

-- a pass takes in another one
pub joins : (port : ℕ) (v : Account) (other : ℕ) (u : Account) → Merges Once port v other u (joined v u) spent
joins port v other u items views h at apart at' =
    let both : Account = joined v u in
    let vs : List Account = set views port both in
    let was : get_elem? views other ≡ some u = ⊎_elim (λ x. absurd (apart x.0)) (λ x. x.1) (at_set views port other both u at') in
    let put_is : IsPermutation (gathered put_of views) (gathered put_of (set vs other spent)) = gathered_joined put_of views port other v u both spent at was apart refl refl in
    let took_is : IsPermutation (gathered took_of views) (gathered took_of (set vs other spent)) = gathered_joined took_of views port other v u both spent at was apart refl refl in
    record {
      parts = (let s = total_set (λ y. y.parts) views port v both at in let t = total_set (λ y. y.parts) vs other u spent at' in let p = h.parts in omega arith);
      kept = IsPermutation-trans _ _ _ (IsPermutation-sym _ _ put_is) (IsPermutation-trans _ _ _ h.kept (IsPermutation-append_left items _ _ took_is));
      few = (let s = total_set count_of views port v both at in let t = total_set count_of vs other u spent at' in let f = h.few in omega (arith, length-append v.may u.may, length-append v.put u.put));
      distinct = λ n. (let s = total_set (times_of n) views port v both at in let t = total_set (times_of n) vs other u spent at' in let d = h.distinct n in
          let e : times n (numbers (v.put ++ u.put)) ≡ times n (numbers v.put ++ numbers u.put) = ap (times n) (numbers_append v.put u.put) in
          omega (arith, times_append n v.may u.may, times_append n (numbers v.put) (numbers u.put)));
      idle = idle_set vs other spent (λ _. idle_spent) (idle_set views port both (λ none. (let a = h.idle port v at (omega arith) in let b = h.idle other u was (omega arith) in
          record { may = ap₂ (λ (x y : List ℕ). x ++ y) a.may b.may; put = ap₂ (λ (x y : List Answer). x ++ y) a.put b.put; took = ap₂ (λ (x y : List Answer). x ++ y) a.took b.took })) h.idle);
    }
