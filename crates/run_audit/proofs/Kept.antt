-- What is known of the keys of a share as far as their requests were looked at.
use Rattle.std.proofs.Common.{◌≡◌, ℕ, ◌≤◌, List, [], ◌∷◌, ◌++◌, take, drop, refl, sym, ap, ◌∙◌, subst, ◌==◌, ◌||◌, Bool, true, false, Option}
use Rattle.std.proofs.lemmas.Bool.{cond-true, cond-false, both_ways, eqb-true, eq-eqb}
use Rattle.std.proofs.lemmas.List.{append-nil, take-append-drop, take-take}
use Rattle.fs_model.specs.declared.model.Request.{Request}
use Rattle.fs_model.specs.declared.model.Reply.{Reply}
use Rattle.fs_model.specs.Cells.{key_of}
use Rattle.fs_model.specs.Lawful.{MayReply, IsLawfulFor, asked, cell_left, cell_of, stopped_of, is_stopped}
use Rattle.fs_model.proofs.Clients.{asked-append, lawful-more}
use Rattle.run_audit.specs.Shares.{State, state_after, Moves, AreLawful}

pub record Kept (table : ℕ → State) (start : ℕ → Option (List ℕ)) (mine : ℕ → Bool) (xs : List (Request × Reply)) : Type 0 where
  pub states : (k : ℕ) → mine k ≡ true → table k ≡ (cell_of (start k) (asked k xs), stopped_of false (asked k xs))
  pub lawful : AreLawful start mine xs

pub asked_apart : (k : ℕ) (xs : List (Request × Reply)) (q : Request) (r : Reply) → (key_of q == k) ≡ false → asked k (xs ++ (q, r) ∷ []) ≡ asked k xs
asked_apart k xs q r h = asked-append k xs ((q, r) ∷ []) ∙ ap (λ l. asked k xs ++ l) (cond-false (key_of q == k) ((q, r) ∷ []) [] h) ∙ append-nil (asked k xs)

pub asked_own : (k : ℕ) (xs : List (Request × Reply)) (q : Request) (r : Reply) → (key_of q == k) ≡ true → asked k (xs ++ (q, r) ∷ []) ≡ asked k xs ++ (q, r) ∷ []
asked_own k xs q r h = asked-append k xs ((q, r) ∷ []) ∙ ap (λ l. asked k xs ++ l) (cond-true (key_of q == k) ((q, r) ∷ []) [] h)

cell_push : (c : Option (List ℕ)) (xs : List (Request × Reply)) (q : Request) (r : Reply) → cell_of c (xs ++ (q, r) ∷ []) ≡ cell_left q r (cell_of c xs)
cell_push c [] q r = refl
cell_push c (x ∷ xs) q r = cell_push (cell_left x.0 x.1 c) xs q r

stopped_push : (s : Bool) (xs : List (Request × Reply)) (q : Request) (r : Reply) → stopped_of s (xs ++ (q, r) ∷ []) ≡ (stopped_of s xs || is_stopped r)
stopped_push s [] q r = refl
stopped_push s (x ∷ xs) q r = stopped_push (s || is_stopped x.1) xs q r

state_push : (c : Option (List ℕ)) (xs : List (Request × Reply)) (q : Request) (r : Reply)
    → state_after q r (cell_of c xs, stopped_of false xs) ≡ (cell_of c (xs ++ (q, r) ∷ []), stopped_of false (xs ++ (q, r) ∷ []))
state_push c xs q r = let a = cell_push c xs q r in let b = stopped_push false xs q r in cc

pub lawful_parts : (c : Option (List ℕ)) (s : Bool) (xs ys : List (Request × Reply)) → IsLawfulFor c s (xs ++ ys) → IsLawfulFor c s xs × IsLawfulFor (cell_of c xs) (stopped_of s xs) ys
lawful_parts c s [] ys h = (tt, h)
lawful_parts c s (x ∷ xs) ys h = let r = lawful_parts (cell_left x.0 x.1 c) (s || is_stopped x.1) xs ys h.1 in ((h.0, r.0), r.1)

-- A key of the share isn't one that the share hasn't.
pub not_own : (mine : ℕ → Bool) (j k : ℕ) → mine j ≡ false → mine k ≡ true → (j == k) ≡ false
not_own mine j k a b = by_test (j == k) refl
  where
    by_test : (t : Bool) → (j == k) ≡ t → t ≡ false
    by_test true e = absurd (both_ways (mine k) (subst (λ n. mine n ≡ false) (eqb-true j k e) a) b)
    by_test false e = refl

-- a request of another share
pub kept_other : (table : ℕ → State) (start : ℕ → Option (List ℕ)) (mine : ℕ → Bool) (xs : List (Request × Reply)) (q : Request) (r : Reply)
    → Kept table start mine xs → mine (key_of q) ≡ false → Kept table start mine (xs ++ (q, r) ∷ [])
kept_other table start mine xs q r h other = record {
  states = λ k own. let e = asked_apart k xs q r (not_own mine (key_of q) k other own) in rw e (h.states k own);
  lawful = λ k own. let e = asked_apart k xs q r (not_own mine (key_of q) k other own) in rw e (h.lawful k own);
}

-- a request of the share that may be answered so
pub kept_own : (table later : ℕ → State) (start : ℕ → Option (List ℕ)) (mine : ℕ → Bool) (xs : List (Request × Reply)) (q : Request) (r : Reply)
    → Kept table start mine xs → mine (key_of q) ≡ true → MayReply q (table (key_of q)).0 (table (key_of q)).1 r
    → Moves table later (key_of q) (state_after q r (table (key_of q))) → Kept later start mine (xs ++ (q, r) ∷ [])
kept_own table later start mine xs q r h own may moves = record {
  states = λ k mine_k. state_at k mine_k (key_of q == k) refl;
  lawful = λ k mine_k. lawful_at k mine_k (key_of q == k) refl;
}
  where
    state_at : (k : ℕ) → mine k ≡ true → (t : Bool) → (key_of q == k) ≡ t → later k ≡ (cell_of (start k) (asked k (xs ++ (q, r) ∷ [])), stopped_of false (asked k (xs ++ (q, r) ∷ [])))
    state_at k mine_k true e =
        let same : key_of q ≡ k = eqb-true (key_of q) k e in
        rw (asked_own k xs q r e)
        (moves k ∙ cond-true (key_of q == k) (state_after q r (table (key_of q))) (table k) e
        ∙ ap (λ j. state_after q r (table j)) same ∙ ap (state_after q r) (h.states k mine_k) ∙ state_push (start k) (asked k xs) q r)
    state_at k mine_k false e =
        rw (asked_apart k xs q r e)
        (moves k ∙ cond-false (key_of q == k) (state_after q r (table (key_of q))) (table k) e ∙ h.states k mine_k)

    lawful_at : (k : ℕ) → mine k ≡ true → (t : Bool) → (key_of q == k) ≡ t → IsLawfulFor (start k) false (asked k (xs ++ (q, r) ∷ []))
    lawful_at k mine_k true e =
        let same : key_of q ≡ k = eqb-true (key_of q) k e in
        let here : MayReply q (table k).0 (table k).1 r = subst (λ j. MayReply q (table j).0 (table j).1 r) same may in
        let there = subst (λ (s : State). MayReply q s.0 s.1 r) (h.states k mine_k) here in
        subst (λ l. IsLawfulFor (start k) false l) (sym (asked_own k xs q r e))
        (lawful-more (start k) false (asked k xs) q r (h.lawful k mine_k) there)
    lawful_at k mine_k false e = subst (λ l. IsLawfulFor (start k) false l) (sym (asked_apart k xs q r e)) (h.lawful k mine_k)

-- a request of the share that may not be answered so
pub kept_fault : (table : ℕ → State) (start : ℕ → Option (List ℕ)) (mine : ℕ → Bool) (xs : List (Request × Reply)) (q : Request) (r : Reply)
    → Kept table start mine xs → mine (key_of q) ≡ true → (MayReply q (table (key_of q)).0 (table (key_of q)).1 r → ⊥)
    → IsLawfulFor (start (key_of q)) false (asked (key_of q) (xs ++ (q, r) ∷ [])) → ⊥
kept_fault table start mine xs q r h own never lawful =
    let k = key_of q in
    let all = subst (λ l. IsLawfulFor (start k) false l) (asked_own k xs q r (eq-eqb k k refl)) lawful in
    let last = lawful_parts (start k) false (asked k xs) ((q, r) ∷ []) all in
    never (subst (λ (s : State). MayReply q s.0 s.1 r) (sym (h.states k own)) last.1.0)

-- the replies to a front are lawful where all are
pub lawful_begin : (start : ℕ → Option (List ℕ)) (mine : ℕ → Bool) (n : ℕ) (xs : List (Request × Reply)) → AreLawful start mine xs → AreLawful start mine (take n xs)
lawful_begin start mine n xs h k own =
    let whole : asked k xs ≡ asked k (take n xs) ++ asked k (drop n xs) = ap (asked k) (sym (take-append-drop n xs)) ∙ asked-append k (take n xs) (drop n xs) in
    (lawful_parts (start k) false (asked k (take n xs)) (asked k (drop n xs)) (subst (λ l. IsLawfulFor (start k) false l) whole (h k own))).0

pub lawful_less : (start : ℕ → Option (List ℕ)) (mine : ℕ → Bool) (m n : ℕ) (xs : List (Request × Reply)) → m ≤ n → AreLawful start mine (take n xs) → AreLawful start mine (take m xs)
lawful_less start mine m n xs low h = subst (λ l. AreLawful start mine l) (take-take m n xs low) (lawful_begin start mine m (take n xs) h)
