-- One order of the steps of each group's cores, by the deeds that its table showed at its end.
use Rattle.std.proofs.Common.{◌≡◌, ℕ, zero, suc, ◌+◌, ◌*◌, ◌<◌, Bool, true, false, cond, eqb, List, [], ◌∷◌, ◌++◌, length, Option, Some, refl, sym, ◌∙◌, ap, subst, arith, append_assoc}
use Rattle.std.specs.List.{slice_get}
use Rattle.std.proofs.lemmas.Bool.{eqb-true}
use Rattle.group_laws.specs.Places.{Place}
use Rattle.group_laws.specs.declared.types.Slot.{Slot}
use Rattle.group_laws.specs.State.{Group, Notices}
use Rattle.group_laws.specs.Runs.{Runs}
use Rattle.group_laws.specs.MemberViews.{View, view_of}
use Rattle.group_laws.specs.OpeningImages.{opened}
use Rattle.group_board.specs.Trails.{TrailStep, step_with}
use Rattle.batch_leader.specs.TurnSteps.{is_load}
use Rattle.atomic_board.specs.declared.group_table.GroupTable.{GroupTable}
use Rattle.atomic_board.specs.declared.seat_data.Origin.{Origin}
use Rattle.atomic_board.specs.declared.seat_data.SeatData.{SeatData}
use Rattle.atomic_board.specs.declared.seat_data.SeatData.TheVariants.{Store, Own, Spent}
use Rattle.atomic_board.specs.declared.seat_data.Deed.{Deed}
use Rattle.atomic_board.specs.declared.seat_data.Deed.TheVariants as deeds
use Rattle.atomic_board.specs.declared.token.SeatToken.{SeatToken}
use Rattle.atomic_board.specs.Deeds.{group_of, began, place_of, view_by, trail_by, kind_of, steps_in, deeds_of}
use Rattle.atomic_board.specs.GroupTables.{origin_of}
use Rattle.atomic_board.specs.MemberSeats.{trail_at}
use Rattle.atomic_board.specs.StepTells.{done_in, trail_in}
use Rattle.atomic_board.specs.ShownState.{IsCut, IsReached, deeds_at}
use Rattle.thread_engine.specs.CoreRuns.{HasView, view_after, LoadsLook}
use Rattle.thread_engine.specs.TableTokens.{AllEnded}
use Rattle.thread_engine.specs.Cuts.{steps_of, kinds_in, IsShown}
use Rattle.thread_engine.proofs.Places.{get_front, get_behind, as_elem}

-- a seat with no deed has no step
pub idle_trail : (d : SeatData) → done_in d ≡ [] → trail_in d ≡ []
idle_trail (Store k b back) e = refl
idle_trail (Own m q b ds) e = ap (trail_by b m) e
idle_trail Spent e = refl

-- what a member has after the steps of its deeds
after_trail : (b : Origin) (m : ℕ) (ds : List Deed) → view_after (view_of (began b) m) (trail_by b m ds) ≡ view_by b m ds
after_trail b m [] = refl
after_trail b m (d ∷ ds) = refl

-- a load changes nothing but what was looked at
pub deeds_look : (b : Origin) (m : ℕ) (ds : List Deed) → LoadsLook (view_of (began b) m) (trail_by b m ds)
deeds_look b m [] = tt
deeds_look b m (d ∷ ds) = (look d, deeds_look b m ds) where
  look : (d : Deed) → is_load (kind_of d) ≡ true → view_by b m (d ∷ ds) ≡ record (view_after (view_of (began b) m) (trail_by b m ds)) { looked = (view_by b m (d ∷ ds)).looked }
  look (deeds.Found x) load = ap (λ (v : View). record v { looked = (view_by b m (deeds.Found x ∷ ds)).looked }) (sym (after_trail b m ds))
  look (deeds.Post s e v at) load = absurd (cc load)
  look deeds.Lock load = absurd (cc load)
  look (deeds.Take a s e) load = absurd (cc load)
  look deeds.Unlock load = absurd (cc load)
  look (deeds.Commit at) load = absurd (cc load)
  look (deeds.Mark a s) load = absurd (cc load)
  look (deeds.Fail a s) load = absurd (cc load)
  look (deeds.Finish s e h) load = absurd (cc load)
  look (deeds.GiveUp s e) load = absurd (cc load)
  look (deeds.Withdraw s e) load = absurd (cc load)
  look (deeds.Doom ns at) load = absurd (cc load)
  look (deeds.Retire ns at) load = absurd (cc load)
  look (deeds.Send to dead gone) load = absurd (cc load)
  look (deeds.Receive from dead gone) load = absurd (cc load)

-- the steps of deeds in their order
pub order_by : Origin → List (ℕ × Deed) → List (ℕ × TrailStep)
order_by b [] = []
order_by b (x ∷ xs) = (x.0, step_with (kind_of x.1) (view_by b x.0 (x.1 ∷ deeds_of xs x.0))) ∷ order_by b xs

order_steps : (b : Origin) (ds : List (ℕ × Deed)) (m : ℕ) → steps_of (order_by b ds) m ≡ trail_by b m (deeds_of ds m)
unfolding order_by
order_steps b [] m = refl
order_steps b (x ∷ xs) m = by (order_steps b xs m) (eqb m x.0) refl where
  by : steps_of (order_by b xs) m ≡ trail_by b m (deeds_of xs m) → (c : Bool) → eqb m x.0 ≡ c
      → cond c (step_with (kind_of x.1) (view_by b x.0 (x.1 ∷ deeds_of xs x.0)) ∷ steps_of (order_by b xs) m) (steps_of (order_by b xs) m) ≡ trail_by b m (cond c (x.1 ∷ deeds_of xs m) (deeds_of xs m))
  by rest true e = (let same = sym (eqb-true m x.0 e) in λ i. step_with (kind_of x.1) (view_by b (same i) (x.1 ∷ deeds_of xs (same i))) ∷ rest i)
  by rest false e = rest

order_kinds : (b : Origin) (ds : List (ℕ × Deed)) → kinds_in (order_by b ds) ≡ steps_in ds
unfolding order_by
order_kinds b [] = refl
order_kinds b (x ∷ xs) = ap (λ l. l ++ (x.0, kind_of x.1) ∷ []) (order_kinds b xs)

-- the deeds of a front of their steps
order_parts : (b : Origin) (ds : List (ℕ × Deed)) (late early : List (ℕ × TrailStep)) → order_by b ds ≡ late ++ early → (ld : List (ℕ × Deed)) × (ed : List (ℕ × Deed)) × (ds ≡ ld ++ ed) × (early ≡ order_by b ed)
unfolding order_by
order_parts b ds [] early e = ([], ds, refl, sym e)
order_parts b [] (y ∷ late) early e = absurd (let n = ap length e in omega (arith, n))
order_parts b (x ∷ xs) (y ∷ late) early e =
    let rest : order_by b xs ≡ late ++ early = cc e in
    let F = order_parts b xs late early rest in
    (x ∷ F.0, F.1, ap (λ l. x ∷ l) F.2, F.3)

-- a list that isn't empty has a last one
last_of : {X : Type 0} (y : X) (ys : List X) → (front : List X) × (x : X) × (y ∷ ys ≡ front ++ x ∷ [])
last_of y [] = ([], y, refl)
last_of y (z ∷ zs) = (let r = last_of z zs in (y ∷ r.0, r.1, ap (λ l. y ∷ l) r.2))

module _ (b : Origin) (done : ℕ → List Deed) (holder : Option ℕ) (slot : ℕ → ℕ → Slot) (mail : ℕ → ℕ → Option Notices) (R : IsReached b done (group_of (place_of b) holder slot mail (λ m. view_by b m (done m)))) where
  -- after each of the deeds a state was shown
  cut_at : (ld ed : List (ℕ × Deed)) → R.order ≡ ld ++ ed → IsCut b ed
  cut_at [] ed e = record {
    holder = holder;
    slot = slot;
    mail = mail;
    runs = subst (λ ds. Runs (began b) (steps_in ds) (group_of (place_of b) holder slot mail (λ m. view_by b m (deeds_of ed m)))) e
        (subst (λ (f : ℕ → List Deed). Runs (began b) (steps_in R.order) (group_of (place_of b) holder slot mail (λ m. view_by b m (f m)))) (λ i m. (sym (R.made m) ∙ ap (λ ds. deeds_of ds m) e) i) R.runs);
  }
  cut_at (y ∷ ys) ed e = (let r = last_of y ys in R.cuts r.0 r.1 ed (e ∙ ap (λ l. l ++ ed) r.2 ∙ append_assoc r.0 (r.1 ∷ []) ed))

  module _ (p : Place) (image : ℕ → ℕ) (opens : began b ≡ opened p image) (late early : List (ℕ × TrailStep)) (e : order_by b R.order ≡ late ++ early) where
    F : (ld : List (ℕ × Deed)) × (ed : List (ℕ × Deed)) × (R.order ≡ ld ++ ed) × (early ≡ order_by b ed)
    F = order_parts b R.order late early e

    C : IsCut b F.1
    C = cut_at F.0 F.1 F.2

    abbrev w : Group
    w = group_of (place_of b) C.holder C.slot C.mail (λ m. view_by b m (deeds_of F.1 m))

    own : (m : ℕ) → HasView w m (view_by b m (deeds_of F.1 m))
    own m = record {
      kept = refl;
      flying = refl;
      taken = refl;
      looked = refl;
      dead = refl;
      doomed = refl;
      leaving = refl;
      mailed = refl;
      broken = refl;
      holds = refl;
      posted = refl;
      took = refl;
      blocks = refl;
      last = λ k is. ap (λ j. (view_by b j (deeds_of F.1 j)).last k) is;
      cell = λ k is. ap (λ j. (view_by b j (deeds_of F.1 j)).cell k) is;
      pending = λ k is. ap (λ j. (view_by b j (deeds_of F.1 j)).pending k) is;
      present = λ k n is. ap (λ j. (view_by b j (deeds_of F.1 j)).present k n) is;
      told = λ k n is. ap (λ j. (view_by b j (deeds_of F.1 j)).told k n) is;
    }

    pub shown_at : (u : Group) × IsShown p image early u
    shown_at = (
      w,
      record {
        runs = subst (λ (v : Group). Runs v (kinds_in early) w) opens (subst (λ ks. Runs (began b) ks w) (sym (ap kinds_in F.3 ∙ order_kinds b F.1)) C.runs);
        views = λ m. subst (HasView w m) (sym (after_trail b m (deeds_of F.1 m)) ∙ (λ i. view_after (view_of (opens i) m) ((sym (order_steps b F.1 m) ∙ ap (λ l. steps_of l m) (sym F.3)) i))) (own m);
      },
    )

-- the groups' orders, as the closed tables have them
pub shown_orders : (ts : List GroupTable) (tokens : List SeatToken) → AllEnded ts tokens → ℕ → List (ℕ × TrailStep)
shown_orders [] tokens E g = []
shown_orders (t ∷ ts) tokens E zero = order_by (origin_of t) E.5.shows.reached.order
shown_orders (t ∷ ts) tokens E (suc g) = shown_orders ts E.1 E.6 g

pub orders_shown : (ts : List GroupTable) (tokens : List SeatToken) (E : AllEnded ts tokens) (g : ℕ) (t : GroupTable) → slice_get ts g ≡ Some t
    → (p : Place) (image : ℕ → ℕ) → began (origin_of t) ≡ opened p image → (late early : List (ℕ × TrailStep)) → shown_orders ts tokens E g ≡ late ++ early → (w : Group) × IsShown p image early w
unfolding shown_orders
orders_shown [] tokens E g t at p image is late early e = absurd (cc at)
orders_shown (x ∷ ts) tokens E zero t at p image is late early e =
    let same : x ≡ t = cc at in
    let s = E.5.shows in
    shown_at (origin_of x) (deeds_at E.5.table.views) s.holder s.slot s.mail s.reached p image (ap (λ y. began (origin_of y)) same ∙ is) late early e
orders_shown (x ∷ ts) tokens E (suc g) t at p image is late early e = orders_shown ts E.1 E.6 g t at p image is late early e

-- of each member they have the steps of its token, and its loads look
module _ (n : ℕ) where
  abbrev Made : List (ℕ × TrailStep) → ℕ → SeatToken → GroupTable → Type 0
  Made order m u t = (steps_of order m ≡ trail_at u.own) × LoadsLook (view_of (began (origin_of t)) m) (trail_at u.own)

  pub orders_made : (ts : List GroupTable) (tokens : List SeatToken) (E : AllEnded ts tokens) → ((g : ℕ) (t : GroupTable) → slice_get ts g ≡ Some t → t.members ≡ n) → (g m : ℕ) (t : GroupTable) (u : SeatToken) → slice_get ts g ≡ Some t → m < n
      → slice_get tokens (g * n + m) ≡ Some u → Made (shown_orders ts tokens E g) m u t
  unfolding shown_orders
  orders_made [] tokens E sizes g m t u at low there = absurd (cc at)
  orders_made (x ∷ ts) tokens E sizes zero m t u at low there = (
    order_steps (origin_of x) E.5.shows.reached.order m ∙ ap (trail_by (origin_of x) m) (E.5.shows.reached.made m) ∙ sym trail,
    subst (λ y. LoadsLook (view_of (began (origin_of y)) m) (trail_at u.own)) same (subst (LoadsLook (view_of (began (origin_of x)) m)) (sym trail) (deeds_look (origin_of x) m (deeds_at E.5.table.views m))),
  ) where
    same : x ≡ t
    same = cc at

    mine : slice_get E.0 m ≡ Some u
    mine = sym (get_front E.0 E.1 m (let many = E.3 in let size = sizes 0 x refl in omega (arith, many, size, low))) ∙ ap (λ xs. slice_get xs m) (sym E.2) ∙ ap (slice_get tokens) (let z : m ≡ 0 * n + m = omega arith in z) ∙ there

    trail : trail_at u.own ≡ trail_by (origin_of x) m (deeds_at E.5.table.views m)
    trail = E.5.trails m u (as_elem E.0 m u mine)
  orders_made (x ∷ ts) tokens E sizes (suc g) m t u at low there =
      orders_made ts E.1 E.6 (λ h y e. sizes (suc h) y e) g m t u at low
      (sym (get_behind E.0 E.1 (g * n + m)) ∙ ap (λ xs. slice_get xs (length E.0 + (g * n + m))) (sym E.2)
      ∙ ap (slice_get tokens) (let many = E.3 in let size = sizes 0 x refl in let z : length E.0 + (g * n + m) ≡ suc g * n + m = omega (arith, many, size) in z) ∙ there)
