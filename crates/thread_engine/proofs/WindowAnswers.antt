-- The requests that joined in a window, and those that were answered in it.
use Rattle.std.proofs.Common.{◌≡◌, inl, inr, ℕ, ◌==◌, Bool, true, false, cond, List, [], ◌∷◌, ◌++◌, map, IsPermutation, refl, sym, ◌∙◌, ap, subst, append_assoc}
use Rattle.std.specs.List.{AllByRecursion}
use Rattle.std.proofs.lemmas.Bool.{eq-eqb, eqb-true}
use Rattle.std.proofs.lemmas.List.Elements.{filter-append}
use Rattle.std.proofs.lemmas.List.Sorted.{IsPermutation-refl, IsPermutation-trans, IsPermutation-cons, IsPermutation-middle}
use Rattle.fs_model.specs.declared.model.Request.{Request}
use Rattle.fs_model.specs.Cells.{key_of}
use Rattle.store_image.specs.Facts.{In}
use Rattle.group_laws.specs.Places.{owner}
use Rattle.group_board.specs.Seats.{SeatAt}
use Rattle.engine_laws.specs.WorkerMoves.{Fixed, asked, fixed_of, requests_for, line_in, request_placed}
use Rattle.engine_core.specs.Calls.{AreOwn}
use Rattle.thread_engine.specs.WorkStates.{WorkState, IsAtWork, Move, Leads, Works, HasEnded, joined_by, joined_along, joined_in}
use Rattle.thread_engine.specs.WorkStates.Move.{accepts, turns, winds_down, joins, hands_over}
use Rattle.thread_engine.specs.WorkLaws.{KeepsDoubts, WorksOff, HasRested, hands_at}
use Rattle.thread_engine.specs.CoreRuns.{fixed_in}
use Rattle.thread_engine.specs.WindowLaws.{AnswersOnce}
use Rattle.thread_engine.proofs.Doubts.{clash}
use Rattle.thread_engine.proofs.LastState.{ChainLaw}
use Rattle.thread_engine.proofs.Rested.{has_rested}

abbrev Numbered : Type 0
Numbered = ℕ × Request

-- no request of any key
none_left : (xs : List Numbered) → ((k : ℕ) → requests_for k xs ≡ []) → xs ≡ []
none_left [] h = refl
none_left (x ∷ xs) h = absurd (let k = key_of x.1 in let e = sym (ap (λ b. cond b (x ∷ requests_for k xs) (requests_for k xs)) (eq-eqb k k refl)) ∙ h k in cc e)

-- the first request of a key
record First (k : ℕ) (x : Numbered) (xs rest : List Numbered) : Type 0 where
  front : List Numbered
  back : List Numbered
  split : xs ≡ front ++ x ∷ back
  none : requests_for k front ≡ []

first_of : (k : ℕ) (x : Numbered) (rest xs : List Numbered) → requests_for k xs ≡ x ∷ rest → First k x xs rest
first_of k x rest [] e = absurd (cc e)
first_of k x rest (y ∷ ys) e = by (key_of y.1 == k) refl e (first_of k x rest ys) where
  by : (b : Bool) → (key_of y.1 == k) ≡ b → cond b (y ∷ requests_for k ys) (requests_for k ys) ≡ x ∷ rest → (requests_for k ys ≡ x ∷ rest → First k x ys rest) → First k x (y ∷ ys) rest
  by true t e again = (let same : y ≡ x = cc e in record { front = []; back = ys; split = ap (λ z. z ∷ ys) same; none = refl })
  by false t e again = (let F = again e in record {
    front = y ∷ F.front;
    back = F.back;
    split = ap (λ l. y ∷ l) F.split;
    none = ap (λ b. cond b (y ∷ requests_for k F.front) (requests_for k F.front)) t ∙ F.none;
  })

-- without it
taken_out : (x : Numbered) (front back : List Numbered) → requests_for (key_of x.1) front ≡ [] → (k : ℕ) (zs : List Numbered) → requests_for k (front ++ x ∷ back) ≡ cond (key_of x.1 == k) (x ∷ zs) zs → requests_for k (front ++ back) ≡ zs
taken_out x front back none k zs e =
    filter-append (λ (z : Numbered). key_of z.1 == k) front back ∙ by (key_of x.1 == k) refl (sym (filter-append (λ (z : Numbered). key_of z.1 == k) front (x ∷ back)) ∙ e)
  where
    by : (b : Bool) → (key_of x.1 == k) ≡ b → requests_for k front ++ cond b (x ∷ requests_for k back) (requests_for k back) ≡ cond b (x ∷ zs) zs → requests_for k front ++ requests_for k back ≡ zs
    by true t e =
        let empty : requests_for k front ≡ [] = subst (λ j. requests_for j front ≡ []) (eqb-true (key_of x.1) k t) none in
        let tails : x ∷ requests_for k back ≡ x ∷ zs = sym (ap (λ l. l ++ x ∷ requests_for k back) empty) ∙ e in
        ap (λ l. l ++ requests_for k back) empty ∙ cc tails
    by false t e = e

joined_cond : (b : Bool) (x : Numbered) (xs ys : List Numbered) → cond b (x ∷ xs) xs ++ ys ≡ cond b (x ∷ (xs ++ ys)) (xs ++ ys)
joined_cond true x xs ys = refl
joined_cond false x xs ys = refl

-- Where of each key these requests come first in a list, the list is them and others, in another order.
split_off : (ys xs : List Numbered) (rest : ℕ → List Numbered) → ((k : ℕ) → requests_for k xs ≡ requests_for k ys ++ rest k)
    → (left : List Numbered) × IsPermutation xs (ys ++ left) × ((k : ℕ) → requests_for k left ≡ rest k)
split_off [] xs rest h = (xs, IsPermutation-refl xs, h)
split_off (y ∷ ys) xs rest h =
    let k = key_of y.1 in
    let here : requests_for k xs ≡ y ∷ (requests_for k ys ++ rest k) = h k ∙ ap (λ b. cond b (y ∷ requests_for k ys) (requests_for k ys) ++ rest k) (eq-eqb k k refl) in
    let F = first_of k y (requests_for k ys ++ rest k) xs here in
    let again = split_off ys (F.front ++ F.back) rest (λ j. taken_out y F.front F.back F.none j (requests_for j ys ++ rest j)
    (ap (requests_for j) (sym F.split) ∙ h j ∙ joined_cond (key_of y.1 == j) y (requests_for j ys) (rest j))) in (
      again.0,
      subst (λ l. IsPermutation l (y ∷ (ys ++ again.0))) (sym F.split) (IsPermutation-trans _ _ _ (IsPermutation-middle F.front y F.back) (IsPermutation-cons y (F.front ++ F.back) (ys ++ again.0) again.1)),
      again.2,
    )

all_behind : {X : Type 0} (P : X → Type 0) (xs ys : List X) → AllByRecursion P (xs ++ ys) → AllByRecursion P ys
all_behind P [] ys h = h
all_behind P (x ∷ xs) ys h = all_behind P xs ys h.1

both_own : (p : ℕ → ℕ) (m : ℕ) (xs ys : List Numbered) → AllByRecursion (λ z. p (key_of z.1) ≡ m) xs → AllByRecursion (λ z. p (key_of z.1) ≡ m) ys → AllByRecursion (λ z. p (key_of z.1) ≡ m) (xs ++ ys)
both_own p m [] ys h g = g
both_own p m (x ∷ xs) ys h g = (h.0, both_own p m xs ys h.1 g)

-- of a key of another member none
none_other : (p : ℕ → ℕ) (m k : ℕ) (xs : List Numbered) → (p k == m) ≡ false → AllByRecursion (λ z. p (key_of z.1) ≡ m) xs → requests_for k xs ≡ []
none_other p m k [] other h = refl
none_other p m k (x ∷ xs) other h = by (key_of x.1 == k) refl (none_other p m k xs other h.1) where
  by : (b : Bool) → (key_of x.1 == k) ≡ b → requests_for k xs ≡ [] → cond b (x ∷ requests_for k xs) (requests_for k xs) ≡ []
  by true t rest = absurd (clash (p k == m) (eq-eqb (p k) m (ap p (sym (eqb-true (key_of x.1) k t)) ∙ h.0)) other)
  by false t rest = rest

all_asked : (P : Numbered → Type 0) (fs : List Fixed) → ((y : Fixed) → In y fs → P (asked y)) → AllByRecursion P (map asked fs)
all_asked P [] h = tt
all_asked P (y ∷ ys) h = (h y (inl refl), all_asked P ys (λ z i. h z (inr i)))

fixed_asked : (k : ℕ) (fs : List Fixed) → map asked (fixed_of k fs) ≡ requests_for k (map asked fs)
fixed_asked k [] = refl
fixed_asked k (y ∷ ys) = by (key_of y.request == k) (fixed_asked k ys) where
  by : (b : Bool) → map asked (fixed_of k ys) ≡ requests_for k (map asked ys) → map asked (cond b (y ∷ fixed_of k ys) (fixed_of k ys)) ≡ cond b (asked y ∷ requests_for k (map asked ys)) (requests_for k (map asked ys))
  by true e = ap (λ l. asked y ∷ l) e
  by false e = e

module _ (seat : SeatAt) (refused : Bool) where
  abbrev Own : Numbered → Type 0
  Own x = owner seat.place (key_of x.1) ≡ seat.number

  -- what joins is for own keys
  move_own : (a b : WorkState) (m : Move seat refused a b) → IsAtWork seat b → AllByRecursion Own (joined_by m)
  move_own a b (accepts A) at = tt
  move_own a b (turns T) at = tt
  move_own a b (winds_down e) at = tt
  move_own a b (joins xs e) at = all_behind Own a.queue xs (subst (λ (z : WorkState). AreOwn seat.place seat.number z.queue) e at.own)
  move_own a b (hands_over none empty e) at = tt

  joined_own : (a : WorkState) (path : List WorkState) (b : WorkState) (l : Leads seat refused a path b) → AllByRecursion Own (joined_along seat refused a path b l)
  joined_own a [] b l = tt
  joined_own a (x ∷ xs) b l = both_own (owner seat.place) seat.number (joined_by l.0) (joined_along seat refused x xs b l.2) (move_own a x l.0 l.1) (joined_own x xs b l.2)

  works_there : (a : WorkState) (path : List WorkState) (b : WorkState) → IsAtWork seat a → Leads seat refused a path b → IsAtWork seat b
  works_there a [] b at l = subst (IsAtWork seat) (sym l) at
  works_there a (x ∷ xs) b at l = works_there x xs b l.1 l.2

  pub answers_once : ChainLaw → (a b : WorkState) → IsAtWork seat a → KeepsDoubts seat a.view → HasEnded a → a.worker.winds_down ≡ false → HasEnded b → (w : Works seat refused a b) → AnswersOnce seat refused a b w
  answers_once chain a b at D ended works ended_b w = record {
    left = off.0;
    once = off.1;
    all = λ on. none_left off.0 (λ k. off.2 k ∙ none_rests on k);
  } where
    law : (x : WorksOff seat a b) × (x.fixed ≡ fixed_in seat refused a b w) × KeepsDoubts seat b.view × (x.joined ≡ joined_in seat refused a b w) × ((x.given) ≡ (x.given))
    law = (let r = chain seat refused a b at D w in (r.0, r.1, r.2, r.3, refl))

    W : WorksOff seat a b
    W = law.0

    joined : List Numbered
    joined = joined_in seat refused a b w

    fixed : List Fixed
    fixed = fixed_in seat refused a b w

    rested_a : HasRested seat a
    rested_a = has_rested seat a at ended

    rested_b : HasRested seat b
    rested_b = has_rested seat b (works_there a w.path b at w.leads) ended_b

    rest_by : ℕ → Bool → List Numbered
    rest_by k true = line_in (hands_at b) k ++ requests_for k b.queue
    rest_by k false = []

    rests : ℕ → List Numbered
    rests k = rest_by k (owner seat.place k == seat.number)

    none_rests : b.worker.winds_down ≡ false → (k : ℕ) → rests k ≡ []
    none_rests on k = by (owner seat.place k == seat.number) where
      by : (x : Bool) → rest_by k x ≡ []
      by true = (λ i. (request_placed (rested_b.places on k i) ++ rested_b.waits on k i) ++ requests_for k (rested_b.queue on i))
      by false = refl

    nothing_first : (k : ℕ) → line_in (hands_at a) k ≡ []
    nothing_first k = (λ i. request_placed (rested_a.places works k i) ++ rested_a.waits works k i)

    split : joined ≡ W.accepted ++ b.queue
    split = sym law.3 ∙ ap (λ q. q ++ W.joined) (sym (rested_a.queue works)) ∙ W.split

    fronts : (k : ℕ) → requests_for k joined ≡ requests_for k (map asked fixed) ++ rests k
    fronts k = by (owner seat.place k == seat.number) refl where
      by : (x : Bool) → (owner seat.place k == seat.number) ≡ x → requests_for k joined ≡ requests_for k (map asked fixed) ++ rest_by k x
      by true e =
          let own = eqb-true (owner seat.place k) seat.number e in
          ap (requests_for k) split ∙ filter-append (λ (z : Numbered). key_of z.1 == k) W.accepted b.queue
          ∙ ap (λ h. h ++ requests_for k b.queue) (ap (λ h. h ++ requests_for k W.accepted) (sym (nothing_first k)) ∙ W.order k own ∙ ap (λ h. map asked (fixed_of k h) ++ line_in (hands_at b) k) law.1 ∙ ap (λ h. h ++ line_in (hands_at b) k) (fixed_asked k fixed))
          ∙ append_assoc (requests_for k (map asked fixed)) (line_in (hands_at b) k) (requests_for k b.queue)
      by false e =
          none_other (owner seat.place) seat.number k joined e (joined_own a w.path b w.leads)
          ∙ sym (ap (λ h. h ++ []) (none_other (owner seat.place) seat.number k (map asked fixed) e (all_asked Own fixed (λ y i. W.own y (subst (In y) (sym law.1) i)))))

    off : (left : List Numbered) × IsPermutation joined (map asked fixed ++ left) × ((k : ℕ) → requests_for k left ≡ rests k)
    off = split_off (map asked fixed) joined rests fronts
