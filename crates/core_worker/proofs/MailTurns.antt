-- Loads of mailboxes, after those of own slots: what a turn passes, finds and makes by both.
use Rattle.std.proofs.Common.{◌≡◌, ◌⊎◌, inl, ⊎_elim, ℕ, ◌+◌, Bool, true, false, List, [], ◌∷◌, ◌++◌, map, Option, Some, None, refl, sym, ◌∙◌, ap, subst, arith, append_assoc, append-nil}
use Rattle.std.specs.Prelude.{IfSome}
use Rattle.std.proofs.lemmas.Bool.{cases_lt}
use Rattle.std.proofs.lemmas.List.{map-append}
use Rattle.store_image.specs.Facts.{In}
use Rattle.group_laws.specs.declared.types.Seen.{Seen}
use Rattle.group_laws.specs.declared.types.Seen.TheVariants.{Mail}
use Rattle.group_laws.specs.State.{Group}
use Rattle.group_laws.specs.Places as groups
use Rattle.group_laws.specs.MemberViews.{View, view_of}
use Rattle.group_laws.specs.Runs.{Kind}
use Rattle.group_laws.proofs.Clients.{In-append_left, In-append_right}
use Rattle.group_board.specs.Told.{Makes, MakesBoth}
use Rattle.group_board.specs.Trails.{TrailStep, step_with}
use Rattle.group_board.specs.Views.{after_find}
use Rattle.batch_leader.specs.Leading.{MakesAll}
use Rattle.batch_leader.specs.TurnSteps.{is_handed, OnlyLoads, LoadsThenOne}
use Rattle.batch_leader.proofs.Clients.{makes_then, one_step, no_steps}
use Rattle.core_worker.specs.declared.types.Turn.{Turn}
use Rattle.core_worker.specs.declared.types.Turn.TheVariants.{Moved, Idle}
use Rattle.core_worker.specs.declared.worker.Worker.{Worker}
use Rattle.core_worker.specs.Left.{HasOffer, Lowers, MeasuresTurn}
use Rattle.core_worker.specs.Loads.{Load, load_kind, looks_at, LooksMade}
use Rattle.core_worker.specs.Loads.Load.{Mailbox}
use Rattle.core_worker.specs.Mails.{FoundEmpty}
use Rattle.core_worker.specs.Resting.{IfIdleTurn, TriedIf, TriedAfter}
use Rattle.core_worker.specs.Turns.{Moment, PassesItems, Steps}
use Rattle.core_worker.proofs.LeftLooks.{at_looked}
use Rattle.core_worker.proofs.LeftLocks.{lowers_looked, looked_not_more}

-- more loads, after those of own slots
abbrev pub passes_more : (m : ℕ) (a : Moment) (upto : ℕ) (v u : View) (looks : List Seen) → u ≡ record v { looked = v.looked ++ looks } → PassesItems m a upto v → PassesItems m a upto u
passes_more m a upto v u looks is P = record {
  free = P.free;
  looked = record {
    found = P.looked.found;
    looks = P.looked.looks ++ looks;
    view = is ∙ ap (λ (y : View). record y { looked = y.looked ++ looks }) P.looked.view ∙ ap (λ (xs : List Seen). record a.view { looked = xs }) (append_assoc a.view.looked P.looked.looks looks);
    seen = λ s lt at. In-append_left _ P.looked.looks looks (P.looked.seen s lt at);
  };
  none = P.none;
}

looks_append : (m : ℕ) (xs ys : List Load) → looks_at m (xs ++ ys) ≡ looks_at m xs ++ looks_at m ys
looks_append m xs ys = map-append {B = ℕ × Kind} (λ l. (m, load_kind m l)) xs ys

pub looks_join : (before mid after : Option Group) (m : ℕ) (v u : View) → LooksMade before mid m v → LooksMade mid after m u → LooksMade before after m u
looks_join before mid after m v u a b = (a.0 ++ b.0, subst (λ (xs : List (ℕ × Kind)). MakesAll before xs after m u) (sym (looks_append m a.0 b.0)) (makes_then before mid after (looks_at m a.0) (looks_at m b.0) m v u a.1 b.1))

-- one load
pub one_load : (a b : ℕ) (full : Bool) (v u : View) (old new : List TrailStep) → u ≡ after_find (Mail a b full) v → new ≡ step_with (Kind.LookMail a b) u ∷ old → OnlyLoads v u old new
one_load a b full v u old new is more = record {
  made = step_with (Kind.LookMail a b) u ∷ [];
  more = more;
  loads = (refl, is ∙ ap (λ (xs : List Seen). record v { looked = xs }) (sym (ap (λ (y : View). y.looked) is)), tt);
  ends = refl;
}

-- no mailbox was looked at yet
pub none_found : (before : Option Group) (m : ℕ) (p : groups.Place) (v : View) → IfSome before (λ u. (p ≡ u.place) × (v ≡ view_of u m)) → FoundEmpty m 0 before before v v
none_found before m p v agrees = record {
  looks = [];
  view = ap (λ (xs : List Seen). record v { looked = xs }) (sym (append-nil v.looked));
  empty = λ a lt. absurd (omega (arith, lt));
  loads = [];
  made = no_steps before m p v agrees;
}

-- one mailbox more
module _ (before mid after : Option Group) (m from : ℕ) (v u t : View) (F : FoundEmpty m from before mid v u) where
  looked_on : t ≡ after_find (Mail from m false) u → Makes mid m (Kind.LookMail from m) after t → FoundEmpty m (from + 1) before after v t
  unfolding looks_join
  looked_on is made = record {
    looks = F.looks ++ Mail from m false ∷ [];
    view = is ∙ ap (after_find (Mail from m false)) F.view ∙ ap (λ (xs : List Seen). record v { looked = xs }) (append_assoc v.looked F.looks (Mail from m false ∷ []));
    empty = λ a lt ne. ⊎_elim
        (λ low. In-append_left (Mail a m false) F.looks (Mail from m false ∷ []) (F.empty a low ne))
        (λ high. let here : a ≡ from = omega (arith, lt, high) in subst (λ (i : ℕ). In (Mail i m false) (F.looks ++ Mail from m false ∷ [])) (sym here) (In-append_right (Mail from m false) F.looks (Mail from m false ∷ []) (inl refl)))
        (cases_lt a from);
    loads = F.loads ++ Mailbox from m ∷ [];
    made = (looks_join before mid after m u t (F.loads, F.made) (Mailbox from m ∷ [], one_step mid after m (Kind.LookMail from m) t made)).1;
  }

  beside_on : from ≡ m → t ≡ u → after ≡ mid → FoundEmpty m (from + 1) before after v t
  beside_on mine same group = record {
    looks = F.looks;
    view = same ∙ F.view;
    empty = λ a lt ne. F.empty a (⊎_elim (λ low. low) (λ high. absurd (ne (let here : a ≡ from = omega (arith, lt, high) in here ∙ mine))) (cases_lt a from)) ne;
    loads = F.loads;
    made = subst (λ (g : Option Group). MakesAll before (looks_at m F.loads) g m t) (sym group) (subst (λ (y : View). MakesAll before (looks_at m F.loads) mid m y) (sym same) F.made);
  }

  pub found_on : (((t ≡ after_find (Mail from m false) u) × Makes mid m (Kind.LookMail from m) after t) ⊎ ((from ≡ m) × (t ≡ u) × (after ≡ mid))) → FoundEmpty m (from + 1) before after v t
  found_on which = ⊎_elim (λ x. looked_on x.0 x.1) (λ x. beside_on x.0 x.1 x.2) which

-- what a turn that found all mailboxes empty goes on with is measured as it is
pub offer_looked : (g h : Group) (m : ℕ) (loads : List Load) (v : View) → MakesAll (Some g) (looks_at m loads) (Some h) m v → HasOffer (Some g) m → HasOffer (Some h) m
offer_looked g h m loads v made offer = ap (λ (x : Group). Rattle.core_worker.specs.Left.any_offers (x.slot m) 8) (at_looked g h m loads made.0).1 ∙ offer

measured : (turn : Turn) (g h : Group) (after : Option Group) (m : ℕ) (loads : List Load) (v : View) (w x : Worker) → MakesAll (Some g) (looks_at m loads) (Some h) m v → MeasuresTurn turn (Some h) after w x → MeasuresTurn turn (Some g) after w x
measured Moved g h after m loads v w x made less = lowers_looked (Some g) (Some h) after m loads v w x made less
measured Idle g h after m loads v w x made less = looked_not_more (Some g) (Some h) after m loads v w x made less

unmeasured : (turn : Turn) (after : Option Group) (w x : Worker) → MeasuresTurn turn None after w x
unmeasured Moved after w x = tt
unmeasured Idle after w x = tt

pub measures_passed : (turn : Turn) (posted : Bool) (before mid after : Option Group) (m : ℕ) (loads : List Load) (v : View) (w x : Worker) → MakesAll before (looks_at m loads) mid m v → (posted ≡ true → HasOffer before m) → ((posted ≡ true → HasOffer mid m) → MeasuresTurn turn mid after w x) → MeasuresTurn turn before after w x
measures_passed turn posted None mid after m loads v w x made offer less = unmeasured turn after w x
measures_passed turn posted (Some g) None after m loads v w x made offer less = absurd made
measures_passed turn posted (Some g) (Some h) after m loads v w x made offer less = measured turn g h after m loads v w x made (less (λ yes. offer_looked g h m loads v made (offer yes)))

-- receiving is two steps of the member
pub both_steps : (before after : Option Group) (m : ℕ) (one two : Kind) (v : View) → MakesBoth before m one two after v → Steps before after m v
both_steps before after m one two v made = (one ∷ two ∷ [], by before after made) where
  by : (before after : Option Group) → MakesBoth before m one two after v → MakesAll before (map {B = ℕ × Kind} (λ y. (m, y)) (one ∷ two ∷ [])) after m v
  by None after made = tt
  by (Some a) None made = absurd made
  by (Some a) (Some b) made = ((made.0.0, made.0.1, (b, made.0.2, refl)), made.1)

-- a load, and one step more
pub load_then : (a b : ℕ) (full : Bool) (kind : Kind) (v u : View) (old new : List TrailStep) → is_handed kind ≡ false → new ≡ step_with kind u ∷ step_with (Kind.LookMail a b) (after_find (Mail a b full) v) ∷ old → LoadsThenOne v u old new
load_then a b full kind v u old new bare more = record {
  mid = after_find (Mail a b full) v;
  before = step_with (Kind.LookMail a b) (after_find (Mail a b full) v) ∷ old;
  loads = one_load a b full v (after_find (Mail a b full) v) old (step_with (Kind.LookMail a b) (after_find (Mail a b full) v) ∷ old) refl refl;
  step = step_with kind u;
  more = more;
  leaves = refl;
  bare = bare;
}

pub if_idle : (turn : Turn) (A B : Type 0) → (A → B) → IfIdleTurn turn A → IfIdleTurn turn B
if_idle Moved A B f x = tt
if_idle Idle A B f x = f x

-- no mailbox is looked at
pub tried_at_once : (posted : Bool) (m : ℕ) (before after : Option Group) (p : groups.Place) (v u : View) → IfSome before (λ w. (p ≡ w.place) × (v ≡ view_of w m)) → TriedIf posted m before after u → TriedAfter posted m before after v u
tried_at_once posted m before after p v u agrees tried = record {
  mid = v;
  between = before;
  looks = [];
  view = ap (λ (xs : List Seen). record v { looked = xs }) (sym (append-nil v.looked));
  made = ([], no_steps before m p v agrees);
  tried = tried;
}
