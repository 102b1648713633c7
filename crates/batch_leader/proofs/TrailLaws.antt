-- Loads one after the other, and the step behind them.
use Rattle.std.proofs.Common.{◌≡◌, ℕ, Bool, true, false, List, [], ◌∷◌, ◌++◌, refl, sym, ◌∙◌, ap, append_assoc, subst}
use Rattle.pm_region.specs.State.{State}
use Rattle.group_laws.specs.Runs.{Kind}
use Rattle.group_laws.specs.declared.types.Seen.{Seen}
use Rattle.group_laws.specs.MemberViews.{View}
use Rattle.group_board.specs.Trails.{TrailStep, step_with}
use Rattle.group_board.specs.Views.{after_find}
use Rattle.batch_leader.specs.TakenChanges.{MatchBool}
use Rattle.batch_leader.specs.TurnSteps.{is_load, is_handed, is_post, AreLoads, LoadsThenStep, EndsAt, StandsAtLast, AsksFirst, TurnSteps, trail_with, OnlyLoads, LoadsThenOne, OneHanded}

pub no_loads : (v : View) (old : List TrailStep) → OnlyLoads v v old old
no_loads v old = record { made = []; more = refl; loads = tt; ends = refl }

-- nothing but what it looked at differs
but_looked : (v u : View) (ks : List TrailStep) → AreLoads v ks → EndsAt v u ks → u ≡ record v { looked = u.looked }
but_looked v u [] loads ends = ends ∙ ap (λ (y : View). record v { looked = y.looked }) (sym ends)
but_looked v u (k ∷ ks) loads ends = sym ends ∙ loads.1 ∙ ap (λ (y : View). record v { looked = y.looked }) ends

pub same_but_looked : (v u : View) (a b : List TrailStep) → OnlyLoads v u a b → u ≡ record v { looked = u.looked }
same_but_looked v u a b x = but_looked v u x.made x.loads x.ends

pub load_more : (v u w : View) (a b c : List TrailStep) (k : Kind) (s : Seen) → OnlyLoads v u a b → is_load k ≡ true → w ≡ after_find s u → c ≡ step_with k w ∷ b → OnlyLoads v w a c
load_more v u w a b c k s x load found is = record {
  made = step_with k w ∷ x.made;
  more = is ∙ ap (λ ks. step_with k w ∷ ks) x.more;
  loads = (load, found ∙ ap (λ (y : View). record y { looked = (after_find s u).looked }) (same_but_looked v u a b x) ∙ ap (λ (y : View). record v { looked = y.looked }) (sym found), x.loads);
  ends = refl;
}

on_loads : (v u : View) (xs ys : List TrailStep) → u ≡ record v { looked = u.looked } → AreLoads v xs → AreLoads u ys → AreLoads v (ys ++ xs)
on_loads v u xs [] same a b = a
on_loads v u xs (y ∷ ys) same a b = (b.0, b.1 ∙ ap (λ (z : View). record z { looked = y.view.looked }) same, on_loads v u xs ys same a b.2)

ends_on : (v u w : View) (xs ys : List TrailStep) → EndsAt v u xs → EndsAt u w ys → EndsAt v w (ys ++ xs)
ends_on v u w [] [] a b = b ∙ a
ends_on v u w (x ∷ xs) [] a b = a ∙ sym b
ends_on v u w xs (y ∷ ys) a b = b

pub loads_on : (v u w : View) (a b c : List TrailStep) → OnlyLoads v u a b → OnlyLoads u w b c → OnlyLoads v w a c
loads_on v u w a b c x y = record {
  made = y.made ++ x.made;
  more = y.more ∙ (ap (λ ks. y.made ++ ks) x.more ∙ sym (append_assoc y.made x.made a));
  loads = on_loads v u x.made y.made (same_but_looked v u a b x) x.loads y.loads;
  ends = ends_on v u w x.made y.made x.ends y.ends;
}

pub one_only : (v u : View) (a b : List TrailStep) (k : Kind) → b ≡ step_with k u ∷ a → is_handed k ≡ false → LoadsThenOne v u a b
one_only v u a b k is bare = record { mid = v; before = a; loads = no_loads v a; step = step_with k u; more = is; leaves = refl; bare = bare }

pub loads_then : (v u w : View) (a b c : List TrailStep) → OnlyLoads v u a b → LoadsThenOne u w b c → LoadsThenOne v w a c
loads_then v u w a b c x y = record { mid = y.mid; before = y.before; loads = loads_on v u y.mid a b y.before x y.loads; step = y.step; more = y.more; leaves = y.leaves; bare = y.bare }

no_step : (v : View) (ks : List TrailStep) → AreLoads v ks → LoadsThenStep v ks
no_step v [] loads = tt
no_step v (k ∷ ks) loads = loads.2

load_unhanded : (k : Kind) → is_load k ≡ true → is_handed k ≡ false
load_unhanded Kind.Split e = absurd (cc e)
load_unhanded Kind.Join e = absurd (cc e)
load_unhanded (Kind.Post s x v) e = absurd (cc e)
load_unhanded Kind.Lock e = absurd (cc e)
load_unhanded (Kind.Look a s) e = refl
load_unhanded (Kind.LookMail a b) e = refl
load_unhanded (Kind.Take a s) e = absurd (cc e)
load_unhanded Kind.Unlock e = absurd (cc e)
load_unhanded Kind.Commit e = absurd (cc e)
load_unhanded (Kind.Mark a s) e = absurd (cc e)
load_unhanded (Kind.Finish s) e = absurd (cc e)
load_unhanded (Kind.Fail a s) e = absurd (cc e)
load_unhanded (Kind.Withdraw s) e = absurd (cc e)
load_unhanded (Kind.Doom ns) e = absurd (cc e)
load_unhanded (Kind.Retire ns) e = absurd (cc e)
load_unhanded (Kind.Send to n) e = absurd (cc e)
load_unhanded (Kind.Receive from) e = absurd (cc e)

last_load : (v : View) (ks : List TrailStep) (s t : State) (steps : List TrailStep) (at : ℕ) → AreLoads v ks → StandsAtLast ks s t (trail_with steps at)
last_load v [] s t steps at loads = tt
last_load v (k ∷ ks) s t steps at loads = record {
  handed = λ h. absurd (let l = load_unhanded k.kind loads.0 in let e : true ≡ false = sym h ∙ l in cc e);
  alone = λ no. absurd (let e : true ≡ false = sym loads.0 ∙ no in cc e);
}

unhanded_post : (k : Kind) → is_handed k ≡ false → is_post k ≡ true → ⊥
unhanded_post Kind.Split e p = cc p
unhanded_post Kind.Join e p = cc p
unhanded_post (Kind.Post s x v) e p = cc e
unhanded_post Kind.Lock e p = cc p
unhanded_post (Kind.Look a s) e p = cc p
unhanded_post (Kind.LookMail a b) e p = cc p
unhanded_post (Kind.Take a s) e p = cc p
unhanded_post Kind.Unlock e p = cc p
unhanded_post Kind.Commit e p = cc p
unhanded_post (Kind.Mark a s) e p = cc p
unhanded_post (Kind.Finish s) e p = cc p
unhanded_post (Kind.Fail a s) e p = cc p
unhanded_post (Kind.Withdraw s) e p = cc p
unhanded_post (Kind.Doom ns) e p = cc p
unhanded_post (Kind.Retire ns) e p = cc p
unhanded_post (Kind.Send to n) e p = cc p
unhanded_post (Kind.Receive from) e p = cc p

loads_ask : (passes : Bool) (v : View) (ks : List TrailStep) → AreLoads v ks → AsksFirst passes ks
loads_ask passes v [] loads = tt
loads_ask passes v (k ∷ ks) loads = λ p. absurd (unhanded_post k.kind (load_unhanded k.kind loads.0) p)

-- a turn of loads alone, whatever it did to the region
pub turn_of_loads : (passes : Bool) (s t : State) (v u : View) (a b : List TrailStep) (i j : ℕ) → OnlyLoads v u a b → TurnSteps passes s t v u (trail_with a i) (trail_with b j)
turn_of_loads passes s t v u a b i j x = record { made = x.made; more = x.more; loads = no_step v x.made x.loads; ends = x.ends; last = last_load v x.made s t b j x.loads; asks = loads_ask passes v x.made x.loads }

-- a turn whose step isn't handed the region, and that doesn't call it
pub turn_of_one : (passes : Bool) (s : State) (v u : View) (a b : List TrailStep) (i j : ℕ) → LoadsThenOne v u a b → TurnSteps passes s s v u (trail_with a i) (trail_with b j)
turn_of_one passes s v u a b i j x = record {
  made = x.step ∷ x.loads.made;
  more = x.more ∙ ap (λ ks. x.step ∷ ks) x.loads.more;
  loads = x.loads.loads;
  ends = x.leaves;
  last = record { handed = λ h. absurd (let e : true ≡ false = sym h ∙ x.bare in cc e); alone = λ no bare. refl };
  asks = λ p. absurd (unhanded_post x.step.kind x.bare p);
}

-- a turn that makes one such step, or nothing
pub turn_of_few : (r passes : Bool) (s : State) (v u : View) (a b : List TrailStep) (i j : ℕ) → MatchBool r (LoadsThenOne v u a b) ((b ≡ a) × (u ≡ v)) → TurnSteps passes s s v u (trail_with a i) (trail_with b j)
turn_of_few true passes s v u a b i j x = turn_of_one passes s v u a b i j x
turn_of_few false passes s v u a b i j x = turn_of_loads passes s s v u a b i j (subst (λ (w : View). OnlyLoads v w a b) (sym x.1) (subst (λ (c : List TrailStep). OnlyLoads v v a c) (sym x.0) (no_loads v a)))

-- a turn whose only step was handed the region as it stood at the turn's end
pub turn_handed : (s t : State) (v u : View) (a b : List TrailStep) (i j : ℕ) → OneHanded t.stamp u a (trail_with b j) → TurnSteps true s t v u (trail_with a i) (trail_with b j)
turn_handed s t v u a b i j x = record {
  made = x.step ∷ [];
  more = x.more;
  loads = tt;
  ends = x.leaves;
  last = record { handed = λ h. x.at; alone = λ no bare. absurd (let e : true ≡ false = sym x.handed ∙ bare in cc e) };
  asks = λ p. refl;
}

-- loads before it
pub turn_after_loads : (passes : Bool) (s t : State) (v w u : View) (a b c : List TrailStep) (i k j : ℕ) → OnlyLoads v w a b → TurnSteps passes s t w u (trail_with b k) (trail_with c j) → TurnSteps passes s t v u (trail_with a i) (trail_with c j)
turn_after_loads passes s t v w u a b c i k j x y = record {
  made = y.made ++ x.made;
  more = y.more ∙ (ap (λ ks. y.made ++ ks) x.more ∙ sym (append_assoc y.made x.made a));
  loads = after y.made y.loads;
  ends = ends_on v w u x.made y.made x.ends y.ends;
  last = over y.made y.last;
  asks = asked y.made y.asks;
} where
  after : (ks : List TrailStep) → LoadsThenStep w ks → LoadsThenStep v (ks ++ x.made)
  after [] l = no_step v x.made x.loads
  after (k ∷ ks) l = on_loads v w x.made ks (same_but_looked v w a b x) x.loads l

  over : (ks : List TrailStep) → StandsAtLast ks s t (trail_with c j) → StandsAtLast (ks ++ x.made) s t (trail_with c j)
  over [] l = last_load v x.made s t c j x.loads
  over (k ∷ ks) l = l

  asked : (ks : List TrailStep) → AsksFirst passes ks → AsksFirst passes (ks ++ x.made)
  asked [] l = loads_ask passes v x.made x.loads
  asked (k ∷ ks) l = l
