-- Moves one after another, and when a core has ended.
use Rattle.std.proofs.Common.{◌≡◌, inl, inr, ℕ, Bool, true, false, List, [], ◌∷◌, ◌++◌, refl, sym, ◌∙◌, ap, subst, append-nil, append_assoc}
use Rattle.std.proofs.Math.Path.{path_j, subst_refl}
use Rattle.fs_model.specs.declared.model.Request.{Request}
use Rattle.pm_region.specs.State.{State}
use Rattle.group_board.specs.Seats.{SeatAt}
use Rattle.std.specs.Global.{Global}
use Rattle.std.specs.declared.collections.VecDeque.{VecDeque}
use Rattle.core_worker.specs.declared.types.Answer.{Answer}
use Rattle.core_worker.specs.Beginning.{answers_of}
use Rattle.core_worker.specs.declared.worker.Worker.{Worker}
use Rattle.core_worker.specs.Supplies.{HasKeptRoom}
use Rattle.thread_engine.specs.declared.core_job.CoreJob.{CoreJob}
use Rattle.thread_engine.specs.WorkStates.Move.{joins, hands_over}
use Rattle.thread_engine.specs.WorkStates.{Sight, WorkState, IsAtWork, Move, Leads, Works, joined_by, given_by, joined_along, given_along, OwnMove, WorksOn, with_more, with_answers, GoesOn, stands_at}
use Rattle.thread_engine.specs.Between.{ComesBy, RestsWith}

pub leads_more : (seat : SeatAt) (refused : Bool) (a : WorkState) (xs : List WorkState) (b : WorkState) (ys : List WorkState) (c : WorkState) → Leads seat refused a xs b → Leads seat refused b ys c → Leads seat refused a (xs ++ ys) c
leads_more seat refused a [] b ys c e more = subst (λ z. Leads seat refused z ys c) e more
leads_more seat refused a (x ∷ xs) b ys c l more = (l.0, l.1, leads_more seat refused x xs b ys c l.2 more)

pub works_more : (seat : SeatAt) (refused : Bool) (a b c : WorkState) → Works seat refused a b → Works seat refused b c → Works seat refused a c
works_more seat refused a b c w v = record { path = w.path ++ v.path; leads = leads_more seat refused a w.path b v.path c w.leads v.leads }

pub works_none : (seat : SeatAt) (refused : Bool) (a : WorkState) → Works seat refused a a
works_none seat refused a = record { path = []; leads = refl }

pub works_one : (seat : SeatAt) (refused : Bool) (a b : WorkState) → Move seat refused a b → IsAtWork seat b → Works seat refused a b
works_one seat refused a b m at = record { path = b ∷ []; leads = (m, at, refl) }

-- what joined and what was handed over in the same chain from an equal state
module _ (seat : SeatAt) (refused : Bool) (a b : WorkState) (ys : List WorkState) (c : WorkState) (e : b ≡ a) (m : Leads seat refused b ys c) where
  joined_same : joined_along seat refused a ys c (subst (λ z. Leads seat refused z ys c) e m) ≡ joined_along seat refused b ys c m
  joined_same = path_j (λ z p. joined_along seat refused z ys c (subst (λ y. Leads seat refused y ys c) p m) ≡ joined_along seat refused b ys c m) (ap (joined_along seat refused b ys c) (subst_refl (λ y. Leads seat refused y ys c) m)) e

  given_same : given_along seat refused a ys c (subst (λ z. Leads seat refused z ys c) e m) ≡ given_along seat refused b ys c m
  given_same = path_j (λ z p. given_along seat refused z ys c (subst (λ y. Leads seat refused y ys c) p m) ≡ given_along seat refused b ys c m) (ap (given_along seat refused b ys c) (subst_refl (λ y. Leads seat refused y ys c) m)) e

-- in two chains
pub joined_more : (seat : SeatAt) (refused : Bool) (a : WorkState) (xs : List WorkState) (b : WorkState) (ys : List WorkState) (c : WorkState) (l : Leads seat refused a xs b) (m : Leads seat refused b ys c)
    → joined_along seat refused a (xs ++ ys) c (leads_more seat refused a xs b ys c l m) ≡ joined_along seat refused a xs b l ++ joined_along seat refused b ys c m
unfolding leads_more
joined_more seat refused a [] b ys c e m = joined_same seat refused a b ys c e m
joined_more seat refused a (x ∷ xs) b ys c l m = ap (λ q. joined_by l.0 ++ q) (joined_more seat refused x xs b ys c l.2 m) ∙ sym (append_assoc (joined_by l.0) (joined_along seat refused x xs b l.2) (joined_along seat refused b ys c m))

pub given_more : (seat : SeatAt) (refused : Bool) (a : WorkState) (xs : List WorkState) (b : WorkState) (ys : List WorkState) (c : WorkState) (l : Leads seat refused a xs b) (m : Leads seat refused b ys c)
    → given_along seat refused a (xs ++ ys) c (leads_more seat refused a xs b ys c l m) ≡ given_along seat refused a xs b l ++ given_along seat refused b ys c m
unfolding leads_more
given_more seat refused a [] b ys c e m = given_same seat refused a b ys c e m
given_more seat refused a (x ∷ xs) b ys c l m = ap (λ q. given_by l.0 ++ q) (given_more seat refused x xs b ys c l.2 m) ∙ sym (append_assoc (given_by l.0) (given_along seat refused x xs b l.2) (given_along seat refused b ys c m))

pub on_more : (seat : SeatAt) (refused : Bool) (xs ys : List (ℕ × Request)) (os ps : List Answer) (a b c : WorkState) → WorksOn seat refused xs os a b → WorksOn seat refused ys ps b c → WorksOn seat refused (xs ++ ys) (os ++ ps) a c
unfolding works_more
on_more seat refused xs ys os ps a b c w v = record {
  works = works_more seat refused a b c w.works v.works;
  joins = joined_more seat refused a w.works.path b v.works.path c w.works.leads v.works.leads ∙ (λ i. w.joins i ++ v.joins i);
  gives = given_more seat refused a w.works.path b v.works.path c w.works.leads v.works.leads ∙ (λ i. w.gives i ++ v.gives i);
}

-- a chain that goes on comes by the same states, and so it rests where it did
comes_more : (seat : SeatAt) (refused : Bool) (joined : List (ℕ × Request)) (at a : WorkState) (xs : List WorkState) (b : WorkState) (ys : List WorkState) (c : WorkState) (l : Leads seat refused a xs b) (m : Leads seat refused b ys c)
    → ComesBy seat refused joined at a xs b l → ComesBy seat refused joined at a (xs ++ ys) c (leads_more seat refused a xs b ys c l m)
unfolding leads_more
comes_more seat refused joined at a [] b [] c l m there = there
comes_more seat refused joined at a [] b (y ∷ ys) c l m there = inl there
comes_more seat refused joined at a (x ∷ xs) b ys c l m (inl here) = inl here
comes_more seat refused joined at a (x ∷ xs) b ys c l m (inr later) = inr (later.0, later.1, comes_more seat refused later.0 at x xs b ys c l.2 m later.2)

pub rests_on : (seat : SeatAt) (refused : Bool) (joined xs ys : List (ℕ × Request)) (os ps : List Answer) (a b c : WorkState) (w : WorksOn seat refused xs os a b) (v : WorksOn seat refused ys ps b c) → RestsWith seat refused joined a b w.works → RestsWith seat refused joined a c (on_more seat refused xs ys os ps a b c w v).works
unfolding on_more works_more
rests_on seat refused joined xs ys os ps a b c w v R = record { at = R.at; there = comes_more seat refused joined R.at a w.works.path b v.works.path c w.works.leads v.works.leads R.there; rest = R.rest }

pub on_none : (seat : SeatAt) (refused : Bool) (a : WorkState) → WorksOn seat refused [] [] a a
unfolding works_none
on_none seat refused a = record { works = works_none seat refused a; joins = refl; gives = refl }

pub on_one : (seat : SeatAt) (refused : Bool) (a b : WorkState) → OwnMove seat refused a b → IsAtWork seat b → WorksOn seat refused [] [] a b
unfolding works_one
on_one seat refused a b m at = record {
  works = works_one seat refused a b m.move at;
  joins = append-nil (joined_by m.move) ∙ m.joins;
  gives = append-nil (given_by m.move) ∙ m.gives;
}

-- requests join
pub on_joined : (seat : SeatAt) (refused : Bool) (more : List (ℕ × Request)) (a : WorkState) → IsAtWork seat (with_more more a) → WorksOn seat refused more [] a (with_more more a)
unfolding works_one
on_joined seat refused more a at = record { works = works_one seat refused a (with_more more a) (joins more refl) at; joins = append-nil more; gives = refl }

-- answers are handed over
pub on_handed : (seat : SeatAt) (refused : Bool) (none : VecDeque Answer Global) → none.items ≡ [] → (a : WorkState) → IsAtWork seat (with_answers none a) → WorksOn seat refused [] (answers_of a.worker) a (with_answers none a)
unfolding works_one
on_handed seat refused none empty a at = record { works = works_one seat refused a (with_answers none a) (hands_over none empty refl) at; joins = refl; gives = append-nil (answers_of a.worker) }

module _ {B P : Type 0} (seat : B → SeatAt) (view : B → Sight) (state : P → State) (refused : Bool) where
  pub none_yet : (x : CoreJob B P) → IsAtWork (seat x.seat) (stands_at view state x) → GoesOn seat view state refused x x
  none_yet x at = record { seat_is = refl; work = at; pass_is = refl; works = on_none (seat x.seat) refused (stands_at view state x) }

  -- one more stretch of it
  pub goes_more : (x y z : CoreJob B P) → GoesOn seat view state refused x y → GoesOn seat view state refused y z → GoesOn seat view state refused x z
  goes_more x y z g h = record {
    seat_is = h.seat_is ∙ g.seat_is;
    work = subst (λ t. IsAtWork t (stands_at view state z)) g.seat_is h.work;
    pass_is = h.pass_is ∙ g.pass_is;
    works = on_more (seat x.seat) refused [] [] [] [] (stands_at view state x) (stands_at view state y) (stands_at view state z) g.works (subst (λ t. WorksOn t refused [] [] (stands_at view state y) (stands_at view state z)) g.seat_is h.works);
  }

-- until it stops, the room rule is kept
pub rule_now : (w x : Worker) → (w.stopped ≡ true → x.stopped ≡ true) → (w.stopped ≡ false → HasKeptRoom w) → (x.stopped ≡ false → HasKeptRoom w → HasKeptRoom x) → x.stopped ≡ false → HasKeptRoom x
rule_now w x stays was keeps runs = keeps runs (was (by w.stopped refl)) where
  by : (b : Bool) → w.stopped ≡ b → w.stopped ≡ false
  by false e = e
  by true e = absurd (let both : true ≡ false = sym (stays e) ∙ runs in cc both)
