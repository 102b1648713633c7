-- The table of chains: what a write leaves of it, and which requests wait then.
use Rattle.std.proofs.Common.{◌≡◌, ◌≢◌, ℕ, suc, ◌<◌, ◌==◌, List, [], ◌∷◌, ◌++◌, length, get_or, take, drop, Option, Some, refl, sym, ◌∙◌, ap, subst, arith, option_to_list}
use Rattle.std.specs.List.{AllByRecursion}
use Rattle.std.proofs.lemmas.List.{append_assoc, append-nil, length-append, set_split, set-get_or}
use Rattle.std.proofs.lemmas.List.Elements.{filter-append}
use Rattle.std.proofs.lemmas.Bool.{eq-eqb, ne_eqb, cond-true, cond-false}
use Rattle.fs_model.specs.Cells.{key_of}
use Rattle.conflict_queue.specs.declared.types.Held.{Held}
use Rattle.conflict_queue.specs.declared.nodes.Node.{Node}
use Rattle.conflict_queue.specs.declared.key_chains.Chain.{Chain}
use Rattle.conflict_queue.specs.Waiting.{waiting, AddsLast, TakesFirst}
use Rattle.conflict_queue.specs.Chains.{IsChain, held_at, next_of, held_in, held_by, all_held, none, IsKeyChain, Lacks, HasEachKeyOnce}
use Rattle.conflict_queue.proofs.ChainLaws.{followed_is, some_held}

-- Lists with one element in the middle.

pub all_front : (P : Chain → Type 0) (p q : List Chain) → AllByRecursion P (p ++ q) → AllByRecursion P p
all_front P [] q all = tt
all_front P (c ∷ p) q all = (all.0, all_front P p q all.1)

pub all_back : (P : Chain → Type 0) (p q : List Chain) → AllByRecursion P (p ++ q) → AllByRecursion P q
all_back P [] q all = all
all_back P (c ∷ p) q all = all_back P p q all.1

pub all_joined : (P : Chain → Type 0) (p q : List Chain) → AllByRecursion P p → AllByRecursion P q → AllByRecursion P (p ++ q)
all_joined P [] q front back = back
all_joined P (c ∷ p) q front back = (front.0, all_joined P p q front.1 back)

pub split_at : (cs : List Chain) (i : ℕ) → i < length cs → cs ≡ take i cs ++ get_or cs i none ∷ drop (suc i) cs
split_at cs i lt = sym (set-get_or cs i none) ∙ set_split cs i (get_or cs i none) lt

-- Keys that stand once.

pub once_front : (p q : List Chain) (c : Chain) → HasEachKeyOnce (p ++ c ∷ q) → Lacks p c.key
once_front [] q c once = tt
once_front (x ∷ p) q c once =
    let ne = (all_back (λ (y : Chain). y.key ≢ x.key) p (c ∷ q) once.0).0 in
    (λ e. ne (sym e), once_front p q c once.1)

pub once_back : (p q : List Chain) (c : Chain) → HasEachKeyOnce (p ++ c ∷ q) → Lacks q c.key
once_back [] q c once = once.0
once_back (x ∷ p) q c once = once_back p q c once.1

pub once_without : (p q : List Chain) (c : Chain) → HasEachKeyOnce (p ++ c ∷ q) → HasEachKeyOnce (p ++ q)
once_without [] q c once = once.1
once_without (x ∷ p) q c once =
    let lacks : Lacks (p ++ c ∷ q) x.key = once.0 in
    let P = λ (y : Chain). y.key ≢ x.key in
    (all_joined P p q (all_front P p (c ∷ q) lacks) (all_back P p (c ∷ q) lacks).1, once_without p q c once.1)

pub once_with : (p q : List Chain) (c d : Chain) → d.key ≡ c.key → HasEachKeyOnce (p ++ c ∷ q) → HasEachKeyOnce (p ++ d ∷ q)
once_with [] q c d e once = (subst (Lacks q) (sym e) once.0, once.1)
once_with (x ∷ p) q c d e once =
    let lacks : Lacks (p ++ c ∷ q) x.key = once.0 in
    let P = λ (y : Chain). y.key ≢ x.key in
    let at = (all_back P p (c ∷ q) lacks).0 in
    (all_joined P p (d ∷ q) (all_front P p (c ∷ q) lacks) (λ same. at (sym e ∙ same), (all_back P p (c ∷ q) lacks).1), once_with p q c d e once.1)

pub once_more : (cs : List Chain) (d : Chain) → Lacks cs d.key → HasEachKeyOnce cs → HasEachKeyOnce (cs ++ d ∷ [])
once_more [] d lacks once = (tt, tt)
once_more (x ∷ cs) d lacks once =
    let ne = lacks.0 in
    (all_joined (λ (y : Chain). y.key ≢ x.key) cs (d ∷ []) once.0 (λ e. ne (sym e), tt), once_more cs d lacks.1 once.1)

-- What the chains hold.

pub all_held_append : (ns : List Node) (p q : List Chain) → all_held ns (p ++ q) ≡ all_held ns p ++ all_held ns q
all_held_append ns [] q = refl
all_held_append ns (c ∷ p) q = ap (λ (hs : List Held). held_by ns c ++ hs) (all_held_append ns p q) ∙ sym (append_assoc (held_by ns c) (all_held ns p) (all_held ns q))

pub held_by_is : (ns : List Node) (c : Chain) (is : IsKeyChain ns c) → held_by ns c ≡ held_in ns (c.first ∷ is.rest)
held_by_is ns c is = ap (held_in ns) (followed_is ns (Some c.key) (Some c.first) (c.first ∷ is.rest) (length ns) is.chain (let s = is.short in omega (arith, s)))

waiting_own : (ns : List Node) (k : ℕ) (at : Option ℕ) (xs : List ℕ) → IsChain ns (Some k) at xs → waiting (held_in ns xs) k ≡ held_in ns xs
waiting_own ns k at [] is = refl
waiting_own ns k at (x ∷ xs) is =
    let some = some_held (held_at ns x) k is.2 in
    let h = some.0 in
    let e : held_in ns (x ∷ xs) ≡ h ∷ held_in ns xs = ap (λ (o : Option Held). option_to_list o ++ held_in ns xs) some.1 in
    ap (λ (hs : List Held). waiting hs k) e ∙ cond-true (key_of h.request == k) (h ∷ waiting (held_in ns xs) k) (waiting (held_in ns xs) k) (eq-eqb (key_of h.request) k some.2)
    ∙ ap (λ (hs : List Held). h ∷ hs) (waiting_own ns k (next_of ns x) xs is.3) ∙ sym e

waiting_other : (ns : List Node) (k j : ℕ) (at : Option ℕ) (xs : List ℕ) → k ≢ j → IsChain ns (Some k) at xs → waiting (held_in ns xs) j ≡ []
waiting_other ns k j at [] ne is = refl
waiting_other ns k j at (x ∷ xs) ne is =
    let some = some_held (held_at ns x) k is.2 in
    let h = some.0 in
    ap (λ (o : Option Held). waiting (option_to_list o ++ held_in ns xs) j) some.1
    ∙ cond-false (key_of h.request == j) (h ∷ waiting (held_in ns xs) j) (waiting (held_in ns xs) j) (ne_eqb (key_of h.request) j (λ e. ne (sym some.2 ∙ e)))
    ∙ waiting_other ns k j (next_of ns x) xs ne is.3

pub waiting_append : (front bs : List Held) (k : ℕ) → waiting (front ++ bs) k ≡ waiting front k ++ waiting bs k
waiting_append front bs k = filter-append (λ (h : Held). key_of h.request == k) front bs

-- a key without a chain waits for nothing
pub lacks_waiting : (ns : List Node) (cs : List Chain) (k : ℕ) → AllByRecursion (IsKeyChain ns) cs → Lacks cs k → waiting (all_held ns cs) k ≡ []
lacks_waiting ns [] k all lacks = refl
lacks_waiting ns (c ∷ cs) k all lacks =
    let is = all.0 in
    waiting_append (held_by ns c) (all_held ns cs) k
    ∙ ap (λ (hs : List Held). waiting hs k ++ waiting (all_held ns cs) k) (held_by_is ns c is)
    ∙ ap (λ (hs : List Held). hs ++ waiting (all_held ns cs) k) (waiting_other ns c.key k (Some c.first) (c.first ∷ is.rest) lacks.0 is.chain)
    ∙ lacks_waiting ns cs k all.1 lacks.1

-- Lists of requests with one more, or one less, in the middle.

waiting_one : (h : Held) → waiting (h ∷ []) (key_of h.request) ≡ h ∷ []
waiting_one h = cond-true (key_of h.request == key_of h.request) (h ∷ []) [] (eq-eqb (key_of h.request) (key_of h.request) refl)

waiting_not : (h : Held) (hs : List Held) (k : ℕ) → k ≢ key_of h.request → waiting (h ∷ hs) k ≡ waiting hs k
waiting_not h hs k ne = cond-false (key_of h.request == k) (h ∷ waiting hs k) (waiting hs k) (ne_eqb (key_of h.request) k (λ e. ne (sym e)))

three : (front bs cs : List Held) (k : ℕ) → waiting (front ++ (bs ++ cs)) k ≡ waiting front k ++ (waiting bs k ++ waiting cs k)
three front bs cs k = waiting_append front (bs ++ cs) k ∙ ap (λ (hs : List Held). waiting front k ++ hs) (waiting_append bs cs k)

pub adds_middle : (front bs cs : List Held) (h : Held) → waiting cs (key_of h.request) ≡ [] → AddsLast (front ++ (bs ++ cs)) (front ++ ((bs ++ h ∷ []) ++ cs)) h
adds_middle front bs cs h none = record {
  key =
      let k = key_of h.request in
      let wa = waiting front k in
      let wb = waiting bs k in
      let old : waiting (front ++ (bs ++ cs)) k ≡ wa ++ wb = three front bs cs k ∙ ap (λ (hs : List Held). wa ++ (wb ++ hs)) none ∙ ap (λ (hs : List Held). wa ++ hs) (append-nil wb) in
      let more : waiting (bs ++ h ∷ []) k ≡ wb ++ h ∷ [] = waiting_append bs (h ∷ []) k ∙ ap (λ (hs : List Held). wb ++ hs) (waiting_one h) in
      let new : waiting (front ++ ((bs ++ h ∷ []) ++ cs)) k ≡ wa ++ (wb ++ h ∷ []) = three front (bs ++ h ∷ []) cs k ∙ ap (λ (hs : List Held). wa ++ (waiting (bs ++ h ∷ []) k ++ hs)) none ∙ ap (λ (hs : List Held). wa ++ hs) (append-nil (waiting (bs ++ h ∷ []) k) ∙ more) in
      new ∙ sym (append_assoc wa wb (h ∷ [])) ∙ ap (λ (hs : List Held). hs ++ h ∷ []) (sym old);
  others = λ k ne.
      let none_of : waiting (h ∷ []) k ≡ [] = waiting_not h [] k ne in
      let same : waiting (bs ++ h ∷ []) k ≡ waiting bs k = waiting_append bs (h ∷ []) k ∙ ap (λ (hs : List Held). waiting bs k ++ hs) none_of ∙ append-nil (waiting bs k) in
      three front (bs ++ h ∷ []) cs k ∙ ap (λ (hs : List Held). waiting front k ++ (hs ++ waiting cs k)) same ∙ sym (three front bs cs k);
  together =
      let l1 = length-append front (bs ++ cs) in
      let l2 = length-append bs cs in
      let l3 = length-append front ((bs ++ h ∷ []) ++ cs) in
      let l4 = length-append (bs ++ h ∷ []) cs in
      let l5 = length-append bs (h ∷ []) in
      omega (arith, l1, l2, l3, l4, l5);
}

pub takes_middle : (front bs cs : List Held) (k : ℕ) (h : Held) → key_of h.request ≡ k → waiting front k ≡ [] → TakesFirst (front ++ ((h ∷ bs) ++ cs)) (front ++ (bs ++ cs)) k h
takes_middle front bs cs k h is none = record {
  key =
      let old : waiting (front ++ ((h ∷ bs) ++ cs)) k ≡ waiting ((h ∷ bs) ++ cs) k = waiting_append front ((h ∷ bs) ++ cs) k ∙ ap (λ (hs : List Held). hs ++ waiting ((h ∷ bs) ++ cs) k) none in
      let new : waiting (front ++ (bs ++ cs)) k ≡ waiting (bs ++ cs) k = waiting_append front (bs ++ cs) k ∙ ap (λ (hs : List Held). hs ++ waiting (bs ++ cs) k) none in
      old ∙ cond-true (key_of h.request == k) (h ∷ waiting (bs ++ cs) k) (waiting (bs ++ cs) k) (eq-eqb (key_of h.request) k is) ∙ ap (λ (hs : List Held). h ∷ hs) (sym new);
  others = λ j ne.
      waiting_append front (bs ++ cs) j ∙ ap (λ (hs : List Held). waiting front j ++ hs) (sym (waiting_not h (bs ++ cs) j (λ e. ne (e ∙ is)))) ∙ sym (waiting_append front ((h ∷ bs) ++ cs) j);
  together =
      let l1 = length-append front (bs ++ cs) in
      let l2 = length-append front ((h ∷ bs) ++ cs) in
      omega (arith, l1, l2);
}
