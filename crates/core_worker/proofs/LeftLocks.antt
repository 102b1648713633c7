-- A try of the lock, after the loads of the own slots.
use Rattle.std.proofs.Common.{◌≡◌, inl, inr, ⊎_elim, ℕ, ◌≤◌, true, false, cond, List, [], ◌∷◌, ◌++◌, map, Option, Some, None, refl, sym, ◌∙◌, ap, subst, arith, append_assoc, append-nil}
use Rattle.std.specs.Prelude.{IfSome}
use Rattle.std.proofs.lemmas.Bool.{eq-eqb}
use Rattle.std.proofs.lemmas.List.{append_cancel_left}
use Rattle.store_image.specs.Facts.{In}
use Rattle.group_laws.specs.declared.types.Seen.{Seen}
use Rattle.group_laws.specs.declared.types.Seen.TheVariants.{Slot as SeenSlot, Mail as SeenMail}
use Rattle.group_laws.specs.declared.types.Slot.{Slot}
use Rattle.group_laws.specs.declared.types.Slot.TheVariants as slots
use Rattle.group_laws.specs.declared.types.SlotWord.{SlotWord}
use Rattle.group_laws.specs.declared.types.SlotWord.TheVariants as words
use Rattle.group_laws.specs.State.{Group, word_shown, is_full}
use Rattle.group_laws.specs.MemberViews.{View, view_of}
use Rattle.group_laws.specs.Runs.{Kind, IsStep, Runs}
use Rattle.group_board.specs.Told.{Makes}
use Rattle.batch_leader.specs.Leading.{MakesAll, IsFrom, taken_by, CollectsAt}
use Rattle.batch_leader.specs.declared.states.Collecting.{Collecting}
use Rattle.batch_leader.specs.declared.taken.Taken.{Taken}
use Rattle.std.specs.List.{AllByRecursion}
use Rattle.core_worker.specs.declared.worker.Worker.{Worker}
use Rattle.core_worker.specs.Ties.{LeadsNothing}
use Rattle.core_worker.specs.Turns.{Moment, SameButLeading, Looked, FindsPosted}
use Rattle.core_worker.specs.Loads.{Load, load_kind, looks_at}
use Rattle.core_worker.specs.Loads.Load.{Own, Mailbox}
use Rattle.core_worker.specs.Left.{leading_left, left, offers, any_offers, HasOffer, group_left, Lowers, NotMore}
use Rattle.core_worker.proofs.LeftSums.{offers_by, offers_has}
use Rattle.core_worker.proofs.LeftSteps.{locks_way}
use Rattle.core_worker.proofs.LeftWorkers.{leading_way}
use Rattle.core_worker.proofs.LeftLooks.{at_looked, load_looked, looked_way}

-- what the loads of own slots add to a view
abbrev pub seen_of : Group → ℕ → Load → Seen
seen_of w m (Own s) = SeenSlot m s (word_shown (w.slot m s))
seen_of w m (Mailbox a b) = SeenMail a b (is_full (w.mail a b))

abbrev pub seen_in : Group → ℕ → List Load → List Seen
seen_in w m ls = map (λ l. seen_of w m l) ls

load_seen : (w u : Group) (m : ℕ) (l : Load) → IsStep w m (load_kind m l) u → u.looked m ≡ w.looked m ++ seen_of w m l ∷ []
load_seen w u m (Own s) r = ap (λ (g : Group). g.looked m) r.2 ∙ ap (λ b. cond b (w.looked m ++ seen_of w m (Own s) ∷ []) (w.looked m)) (eq-eqb m m refl)
load_seen w u m (Mailbox a b) r = ap (λ (g : Group). g.looked m) r.3 ∙ ap (λ c. cond c (w.looked m ++ seen_of w m (Mailbox a b) ∷ []) (w.looked m)) (eq-eqb m m refl)

pub at_seen : (w u : Group) (m : ℕ) (ss : List Load) → Runs w (looks_at m ss) u → u.looked m ≡ w.looked m ++ seen_in w m ss
at_seen w u m [] r = ap (λ (g : Group). g.looked m) r ∙ sym (append-nil (w.looked m))
at_seen w u m (l ∷ ss) r =
    let x = seen_of w m l in
    let here : r.0.looked m ≡ w.looked m ++ x ∷ [] = load_seen w r.0 m l r.1 in
    let same : seen_in r.0 m ss ≡ seen_in w m ss = ap (λ (g : Group). seen_in g m ss) (load_looked w r.0 m l r.1).1 in
    at_seen r.0 u m ss r.2 ∙ ap (λ xs. xs ++ seen_in r.0 m ss) here ∙ append_assoc (w.looked m) (x ∷ []) (seen_in r.0 m ss) ∙ ap (λ ys. w.looked m ++ x ∷ ys) same

pub in_seen : (w : Group) (m : ℕ) (ss : List Load) (s : ℕ) (word : SlotWord) → In (SeenSlot m s word) (seen_in w m ss) → word ≡ word_shown (w.slot m s)
in_seen w m [] s word i = absurd i
in_seen w m (Mailbox a b ∷ ss) s word (inl e) = absurd (cc e)
in_seen w m (Own t ∷ ss) s word (inl e) = (let same : s ≡ t = cc e in let is : word ≡ word_shown (w.slot m t) = cc e in is ∙ ap (λ n. word_shown (w.slot m n)) (sym same))
in_seen w m (t ∷ ss) s word (inr i) = in_seen w m ss s word i

-- What the loads of this turn showed is what stood in the slots, and stands there.
module _ (g u : Group) (m : ℕ) (ss : List Load) (run : Runs g (looks_at m ss) u) (a : Moment) (upto : ℕ) (v : View) (before : a.view ≡ view_of g m) (now : v ≡ view_of u m) (L : Looked m a upto v) where
  looks_are : L.looks ≡ seen_in g m ss
  looks_are = append_cancel_left a.view.looked L.looks (seen_in g m ss)
      (sym (ap (λ (x : View). x.looked) L.view) ∙ ap (λ (x : View). x.looked) now ∙ at_seen g u m ss run ∙ ap (λ xs. xs ++ seen_in g m ss) (sym (ap (λ (x : View). x.looked) before)))

  pub found_is : (s : ℕ) (word : SlotWord) → In (SeenSlot m s word) L.looks → word ≡ word_shown (g.slot m s)
  found_is s word i = in_seen g m ss s word (subst (λ (xs : List Seen). In (SeenSlot m s word) xs) looks_are i)

posted_offers : (x : Slot) (n : ℕ) → words.Posted n ≡ word_shown x → offers x ≡ true
posted_offers slots.Empty n e = absurd (cc e)
posted_offers (slots.Posted d) n e = refl
posted_offers slots.Taken n e = absurd (cc e)
posted_offers (slots.Done d h) n e = absurd (cc e)
posted_offers (slots.Failed d) n e = absurd (cc e)

-- So where an own slot was found Posted, one is.
pub found_offers : (g u : Group) (m : ℕ) (ss : List Load) (a : Moment) (v : View) → MakesAll (Some g) (looks_at m ss) (Some u) m v → a.view ≡ view_of g m → (L : Looked m a 8 v) → FindsPosted a.worker.places.items L.found 8 → any_offers (u.slot m) 8 ≡ true
found_offers g u m ss a v made agrees L F =
    let word = found_is g u m ss made.0 a 8 v agrees made.1 L F.0 (L.found F.0) (L.seen F.0 F.2 F.3) in
    ap (λ (x : Group). any_offers (x.slot m) 8) (at_looked g u m ss made.0).1 ∙ offers_by (g.slot m) 8 F.0 F.2 (posted_offers (g.slot m F.0) F.1 (sym F.4 ∙ word))

-- Loads first, and then what lowers it.
pub lowers_looked : (before mid after : Option Group) (m : ℕ) (ss : List Load) (v : View) (w x : Worker) → MakesAll before (looks_at m ss) mid m v → Lowers mid after w x → Lowers before after w x
lowers_looked None mid after m ss v w x made less = tt
lowers_looked (Some g) None after m ss v w x made less = absurd made
lowers_looked (Some g) (Some u) None m ss v w x made less = absurd less
lowers_looked (Some g) (Some u) (Some e) m ss v w x made less = (let same = looked_way g u (at_looked g u m ss made.0) in omega (arith, same, less))

-- the same of what lowers it where an own slot is Posted
pub lowers_found : (before mid after : Option Group) (m : ℕ) (ss : List Load) (a : Moment) (v : View) (x : Worker) → MakesAll before (looks_at m ss) mid m v → IfSome before (λ w. a.view ≡ view_of w m) → (L : Looked m a 8 v) → FindsPosted a.worker.places.items L.found 8 → (HasOffer mid m → Lowers mid after a.worker x) → Lowers before after a.worker x
lowers_found None mid after m ss a v x made agrees L F less = tt
lowers_found (Some g) None after m ss a v x made agrees L F less = absurd made
lowers_found (Some g) (Some u) after m ss a v x made agrees L F less = lowers_looked (Some g) (Some u) after m ss v a.worker x made (less (found_offers g u m ss a v made agrees L F))

pub looked_not_more : (before mid after : Option Group) (m : ℕ) (ss : List Load) (v : View) (w x : Worker) → MakesAll before (looks_at m ss) mid m v → NotMore mid after w x → NotMore before after w x
looked_not_more None mid after m ss v w x made less = tt
looked_not_more (Some g) None after m ss v w x made less = absurd made
looked_not_more (Some g) (Some u) None m ss v w x made less = absurd less
looked_not_more (Some g) (Some u) (Some e) m ss v w x made less = (let same = looked_way g u (at_looked g u m ss made.0) in omega (arith, same, less))

-- no step, and as much to do
pub not_more_still : (before : Option Group) (w x : Worker) → left x ≤ left w → NotMore before before w x
not_more_still None w x less = tt
not_more_still (Some g) w x less = omega (arith, less)

pub nothing_left : (w : Worker) → LeadsNothing w → leading_left w.leading ≡ 0
nothing_left w free = ap leading_left free.1

-- The lock is had, with an own slot Posted.
pub locks_lower : (before after : Option Group) (m : ℕ) (v : View) (w x : Worker) → Makes before m Kind.Lock after v → HasOffer before m → v.holds ≡ true → LeadsNothing w → leading_left x.leading ≡ 0 → SameButLeading w x → Lowers before after w x
locks_lower None after m v w x made offer holds free now same = tt
locks_lower (Some g) None m v w x made offer holds free now same = absurd made
locks_lower (Some g) (Some u) m v w x made offer holds free now same = ⊎_elim
    (λ had.
    let at = offers_has (g.slot m) 8 offer in
    let way = locks_way g m at.0 had.0 at.1 at.2 in
    let group = ap group_left had.1 in
    let left_same = leading_way w x same in
    let was = nothing_left w free in
    omega (arith, way, group, left_same, was, now))
    (λ found. absurd (let both : true ≡ false = sym holds ∙ ap (λ (y : View). y.holds) made.1 ∙ ap (λ (y : Group). y.holds m) found.2 ∙ made.0.0.not_held in cc both))
    made.0.1

-- A holder was found.
pub busy_not_more : (before after : Option Group) (m : ℕ) (v : View) (w x : Worker) → Makes before m Kind.Lock after v → v.holds ≡ false → LeadsNothing w → LeadsNothing x → SameButLeading w x → NotMore before after w x
busy_not_more None after m v w x made holds free now same = tt
busy_not_more (Some g) None m v w x made holds free now same = absurd made
busy_not_more (Some g) (Some u) m v w x made holds free now same = ⊎_elim
    (λ had. absurd (let both : true ≡ false = sym (ap (λ b. cond b true (g.holds m)) (eq-eqb m m refl)) ∙ sym (ap (λ (y : Group). y.holds m) had.1) ∙ sym (ap (λ (y : View). y.holds) made.1) ∙ holds in cc both))
    (λ found.
    let group = ap group_left found.2 in
    let left_same = leading_way w x same in
    let was = nothing_left w free in
    let is = nothing_left x now in
    omega (arith, group, left_same, was, is))
    made.0.1

-- a round that stands at its first slot has taken nothing
from_none : (m : ℕ) (ts : List Taken) → AllByRecursion (IsFrom m 0) ts → ts ≡ []
from_none m [] from = refl
from_none m (t ∷ ts) from = absurd (let lt = from.0.1 in omega (arith, lt))

pub first_left : (p : _) (m : ℕ) (v : View) (c : Collecting) → CollectsAt p m v c → c.at ≡ 0 → taken_by c ≡ []
first_left p m v c C first = from_none m (taken_by c) (subst (λ (n : ℕ). AllByRecursion (IsFrom m n) (taken_by c)) first C.passed)
