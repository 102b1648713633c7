-- Where a core is at a cut: between which two parts of its chain, and what a crash may leave of its piece there.
use Rattle.std.proofs.Common.{◌≡◌, inl, inr, ℕ, ◌≤◌, Bool, true, false, List, [], ◌∷◌, ◌++◌, length, length-append, refl, sym, ◌∙◌, ap, subst, arith, append-nil, append_assoc}
use Rattle.pm_region.specs.State.{State, IsTold, IsTelling}
use Rattle.group_laws.specs.MemberViews.{View}
use Rattle.group_board.specs.Seats.{SeatAt}
use Rattle.group_board.specs.Trails.{TrailStep}
use Rattle.licence.specs.Licence.{Licensed}
use Rattle.batch_leader.specs.Persisting.{IsLicensedNow}
use Rattle.batch_leader.specs.TurnSteps.{Trail, AreLoads, LoadsThenStep, TurnSteps, EndsAt, is_load, since}
use Rattle.thread_engine.specs.WorkStates.{WorkState, IsAtWork, MakesTurn, Move, Leads}
use Rattle.thread_engine.specs.WorkStates.Move.{accepts, turns, winds_down, joins, hands_over}
use Rattle.thread_engine.specs.CoreRuns.{view_after, LoadsLook, fixed_by, fixed_along}
use Rattle.thread_engine.specs.Cuts.{Spot, IsSince, fixed_before, IsWithin, IsAtEnd, IsAlong}
use Rattle.thread_engine.proofs.SameViews.{IsLike, like_same, like_more, like_licence}
use Rattle.thread_engine.proofs.Stops.{chain_frame}
use Rattle.thread_engine.proofs.SpotOrder.{chain_adds}

-- lists with one end have one front
pub same_front : {X : Type 0} (xs ys zs : List X) → xs ++ zs ≡ ys ++ zs → xs ≡ ys
same_front [] [] zs e = refl
same_front [] (y ∷ ys) zs e = absurd (let n = ap length e in let a = length-append ys zs in omega (arith, n, a))
same_front (x ∷ xs) [] zs e = absurd (let n = ap length e in let a = length-append xs zs in omega (arith, n, a))
same_front (x ∷ xs) (y ∷ ys) zs e =
    let first : x ≡ y = cc e in
    let rest : xs ++ zs ≡ ys ++ zs = cc e in
    (λ i. first i ∷ same_front xs ys zs rest i)

loads_behind : (v : View) (xs ys : List TrailStep) → AreLoads v (xs ++ ys) → AreLoads v ys
loads_behind v [] ys h = h
loads_behind v (x ∷ xs) ys h = loads_behind v xs ys h.2

-- after loads alone
after_loads : (v0 v : View) (ms ts : List TrailStep) → AreLoads v ms → view_after v0 ts ≡ v → IsLike (view_after v0 (ms ++ ts)) v
after_loads v0 v [] ts h e = like_same (view_after v0 ts) v e
after_loads v0 v (m ∷ ms) ts h e = h.1

looks_behind : (v0 : View) (xs ys : List TrailStep) → LoadsLook v0 (xs ++ ys) → LoadsLook v0 ys
looks_behind v0 [] ys h = h
looks_behind v0 (x ∷ xs) ys h = looks_behind v0 xs ys h.1

-- the law of a turn at a cut
abbrev pub AfterLaw : Type 0
AfterLaw = (s : State) (t : State) (seat : SeatAt) (v : View) (u : View) (old : Trail) (x : Trail) (passes : Bool) (turn : TurnSteps passes s t v u old x) (k : TrailStep) (ks : List TrailStep) → turn.made ≡ k ∷ ks
    → is_load k.kind ≡ false → IsLicensedNow t seat u → (i : ℕ) → IsTold t i → since k.kind s x ≤ i → Licensed seat.place seat.number u (t.cells i)

-- A state of the chain, from which the core's view at the cut differs in what was looked at alone; its answers so far are those fixed up to there.
pub record Found (seat : SeatAt) (refused : Bool) (v0 : View) (x : Spot) (a : WorkState) (path : List WorkState) (b : WorkState) (l : Leads seat refused a path b) : Type 0 where
  pub state : WorkState
  pub before : List WorkState
  pub front : Leads seat refused a before state
  pub behind : List WorkState
  pub back : Leads seat refused state behind b
  pub whole : fixed_along seat refused a path b l ≡ fixed_along seat refused a before state front ++ fixed_along seat refused state behind b back
  pub fixed : x.fixed ≡ fixed_along seat refused a before state front
  pub work : IsAtWork seat state
  pub like : IsLike (view_after v0 x.done) state.view
  pub licensed : Licensed seat.place seat.number (view_after v0 x.done) (x.piece.cells x.stamp)
  pub frame : x.piece.frame ≡ a.region.frame

module _ (law : AfterLaw) (seat : SeatAt) (refused : Bool) (v0 : View) where
  -- the steps so far lead to the view
  abbrev Led : WorkState → Type 0
  Led a = view_after v0 a.trail.steps ≡ a.view

  turn_led : (a b : WorkState) → Led a → (T : MakesTurn seat refused a b) → Led b
  turn_led a b e T = by T.steps.made refl T.steps.ends where
    by : (ms : List TrailStep) → T.steps.made ≡ ms → EndsAt a.view b.view ms → Led b
    by [] is ends = ap (view_after v0) (T.steps.more ∙ ap (λ l. l ++ a.trail.steps) is) ∙ e ∙ sym ends
    by (m ∷ ms) is ends = ap (view_after v0) (T.steps.more ∙ ap (λ l. l ++ a.trail.steps) is) ∙ ends

  move_led : (a b : WorkState) → Led a → Move seat refused a b → Led b
  move_led a b e (accepts A) = ap (λ (t : Trail). view_after v0 t.steps) A.trail ∙ e ∙ sym A.view
  move_led a b e (turns T) = turn_led a b e T
  move_led a b e (winds_down w) = ap (λ (z : WorkState). view_after v0 z.trail.steps) w ∙ e ∙ sym (ap (λ (z : WorkState). z.view) w)
  move_led a b e (joins more w) = ap (λ (z : WorkState). view_after v0 z.trail.steps) w ∙ e ∙ sym (ap (λ (z : WorkState). z.view) w)
  move_led a b e (hands_over none empty w) = ap (λ (z : WorkState). view_after v0 z.trail.steps) w ∙ e ∙ sym (ap (λ (z : WorkState). z.view) w)

  -- at a state's own moment
  now : (b : WorkState) (x : Spot) → IsAtWork seat b → IsLike (view_after v0 x.done) b.view → x.piece ≡ b.region → x.stamp ≡ b.region.stamp → IsTold x.piece x.stamp → Licensed seat.place seat.number (view_after v0 x.done) (x.piece.cells x.stamp)
  now b x at like piece stamp told =
      let here : IsTelling b.region = subst (λ (i : ℕ). IsTold b.region i) stamp (subst (λ (s : State). IsTold s x.stamp) piece told) in
      like_licence seat.place seat.number (view_after v0 x.done) b.view (x.piece.cells x.stamp) like
      (subst (λ (s : State). Licensed seat.place seat.number b.view (s.cells x.stamp)) (sym piece) (subst (λ (i : ℕ). Licensed seat.place seat.number b.view (b.region.cells i)) (sym stamp) (at.member.stands.licensed here)))

  at_end : (a b : WorkState) (l : b ≡ a) (x : Spot) → IsAtWork seat a → Led a → IsAtEnd b x → Found seat refused v0 x a [] b l
  at_end a b l x at led E = record {
    state = a;
    before = [];
    front = refl;
    behind = [];
    back = l;
    whole = refl;
    fixed = E.fixed;
    work = at;
    like = like;
    licensed = now a x at like (E.piece ∙ ap (λ (z : WorkState). z.region) l) (E.stamp ∙ ap (λ (z : WorkState). z.region.stamp) l) E.told;
    frame = ap (λ (s : State). s.frame) E.piece ∙ ap (λ (z : WorkState). z.region.frame) l;
  } where
    like : IsLike (view_after v0 x.done) a.view
    like = like_same (view_after v0 x.done) a.view (ap (view_after v0) (E.done ∙ ap (λ (z : WorkState). z.trail.steps) l) ∙ led)

  -- in a move from a to y
  module _ (a y : WorkState) (m : Move seat refused a y) (x : Spot) (at : IsAtWork seat a) (there : IsAtWork seat y) (led : Led a) (looks : LoadsLook v0 y.trail.steps) (W : IsWithin a y (fixed_by m) x) where
    abbrev P : View → Type 0
    P v = Licensed seat.place seat.number v (x.piece.cells x.stamp)

    frame_is : x.piece.frame ≡ a.region.frame
    frame_is = ap (λ (s : State). s.frame) W.piece ∙ chain_frame seat refused a (y ∷ []) y (m, there, refl)

    -- at each told moment of a turn, by the view at its entry
    moment : (T : MakesTurn seat refused a y) → P a.view
    moment T =
        let told = subst (λ (s : State). IsTold s x.stamp) W.piece W.told in
        subst (λ (s : State). Licensed seat.place seat.number a.view (s.cells x.stamp)) (sym W.piece) (T.moves.moves.moments.each x.stamp told W.entered)

    -- Some steps lie ahead.
    module _ (k : TrailStep) (ks : List TrailStep) (ahead : W.ahead ≡ k ∷ ks) where
      all : y.trail.steps ≡ (k ∷ ks) ++ (W.made ++ a.trail.steps)
      all = W.all ∙ (λ i. ahead i ++ W.done i)

      none : y.trail.steps ≡ a.trail.steps → ⊥
      none same =
          let n = ap length (sym same ∙ all) in
          let p = length-append ks (W.made ++ a.trail.steps) in
          let q = length-append W.made a.trail.steps in
          omega (arith, n, p, q)

      turn : (T : MakesTurn seat refused a y) → IsLike (view_after v0 x.done) a.view × P (view_after v0 x.done)
      turn T =
          let made : (k ∷ ks) ++ W.made ≡ T.steps.made = same_front ((k ∷ ks) ++ W.made) T.steps.made a.trail.steps (append_assoc (k ∷ ks) W.made a.trail.steps ∙ sym all ∙ T.steps.more) in
          let loads : AreLoads a.view W.made = loads_behind a.view ks W.made (first (ks ++ W.made) k T.steps.made (sym made) T.steps.loads) in
          let like : IsLike (view_after v0 x.done) a.view = subst (λ l. IsLike (view_after v0 l) a.view) (sym W.done) (after_loads v0 a.view W.made a.trail.steps loads led) in (
            like,
            like_licence seat.place seat.number (view_after v0 x.done) a.view (x.piece.cells x.stamp) like (moment T),
          ) where
            first : (ls : List TrailStep) (j : TrailStep) (ms : List TrailStep) → ms ≡ j ∷ ls → LoadsThenStep a.view ms → AreLoads a.view ls
            first ls j ms e h = subst (LoadsThenStep a.view) e h

      behind : (n : Move seat refused a y) → IsLike (view_after v0 x.done) a.view × P (view_after v0 x.done)
      behind (accepts A) = absurd (none (ap (λ (t : Trail). t.steps) A.trail))
      behind (turns T) = turn T
      behind (winds_down w) = absurd (none (ap (λ (z : WorkState). z.trail.steps) w))
      behind (joins more w) = absurd (none (ap (λ (z : WorkState). z.trail.steps) w))
      behind (hands_over empty is w) = absurd (none (ap (λ (z : WorkState). z.trail.steps) w))

    -- All are made.
    module _ (none : W.ahead ≡ []) where
      done_is : x.done ≡ y.trail.steps
      done_is = sym (W.all ∙ ap (λ l. l ++ x.done) none)

      like_there : IsLike (view_after v0 x.done) y.view
      like_there = like_same (view_after v0 x.done) y.view (ap (view_after v0) done_is ∙ move_led a y led m)

      same : y.region ≡ a.region → P (view_after v0 x.done)
      same e =
          let told = subst (λ (s : State). IsTold s x.stamp) W.piece W.told in
          let low = W.entered in
          let high = told.seen in
          let stamp = ap (λ (s : State). s.stamp) e in
          now y x there like_there W.piece (omega (arith, low, high, stamp)) W.told

      by_load : (T : MakesTurn seat refused a y) (k : TrailStep) (ks : List TrailStep) → T.steps.made ≡ k ∷ ks → is_load k.kind ≡ true → P y.view
      by_load T k ks is load =
          let all : y.trail.steps ≡ k ∷ (ks ++ a.trail.steps) = T.steps.more ∙ ap (λ l. l ++ a.trail.steps) is in
          let loads : AreLoads a.view ks = subst (LoadsThenStep a.view) is T.steps.loads in
          let ends : k.view ≡ y.view = subst (EndsAt a.view y.view) is T.steps.ends in
          let look : IsLike k.view (view_after v0 (ks ++ a.trail.steps)) = (subst (LoadsLook v0) all looks).0 load in
          let like : IsLike k.view a.view = like_more k.view (view_after v0 (ks ++ a.trail.steps)) a.view look (after_loads v0 a.view ks a.trail.steps loads led) in
          subst P ends (like_licence seat.place seat.number k.view a.view (x.piece.cells x.stamp) like (moment T))

      by_step : (T : MakesTurn seat refused a y) (k : TrailStep) (ks : List TrailStep) → T.steps.made ≡ k ∷ ks → is_load k.kind ≡ false → P y.view
      by_step T k ks is step =
          let told = subst (λ (s : State). IsTold s x.stamp) W.piece W.told in
          let made : W.made ≡ T.steps.made = same_front W.made T.steps.made a.trail.steps (sym W.done ∙ done_is ∙ T.steps.more) in
          let late : since k.kind a.region y.trail ≤ x.stamp = subst (λ l. IsSince l a.region y.trail x.stamp) (made ∙ is) (W.behind none) in
          subst (λ (s : State). Licensed seat.place seat.number y.view (s.cells x.stamp)) (sym W.piece)
          (law a.region y.region seat a.view y.view a.trail y.trail T.passes T.steps k ks is step there.member.stands.licensed x.stamp told late)

      turned : (T : MakesTurn seat refused a y) → P (view_after v0 x.done)
      turned T = like_licence seat.place seat.number (view_after v0 x.done) y.view (x.piece.cells x.stamp) like_there (by T.steps.made refl) where
        by : (ms : List TrailStep) → T.steps.made ≡ ms → P y.view
        by [] is = subst P (sym (subst (EndsAt a.view y.view) is T.steps.ends)) (moment T)
        by (k ∷ ks) is = kind (is_load k.kind) refl where
          kind : (b : Bool) → is_load k.kind ≡ b → P y.view
          kind true e = by_load T k ks is e
          kind false e = by_step T k ks is e

      after : (n : Move seat refused a y) → P (view_after v0 x.done)
      after (accepts A) = same A.region
      after (turns T) = turned T
      after (winds_down w) = same (ap (λ (z : WorkState). z.region) w)
      after (joins more w) = same (ap (λ (z : WorkState). z.region) w)
      after (hands_over empty is w) = same (ap (λ (z : WorkState). z.region) w)

    pub within : (ys : List WorkState) (b : WorkState) (back : Leads seat refused y ys b) → Found seat refused v0 x a (y ∷ ys) b (m, there, back)
    within ys b back = by W.ahead refl where
      by : (ahead : List TrailStep) → W.ahead ≡ ahead → Found seat refused v0 x a (y ∷ ys) b (m, there, back)
      by [] none = record {
        state = y;
        before = y ∷ [];
        front = (m, there, refl);
        behind = ys;
        back = back;
        whole = ap (λ l. l ++ fixed_along seat refused y ys b back) (sym (append-nil (fixed_by m)));
        fixed = W.fixed_is ∙ ap (λ l. fixed_before l (fixed_by m)) none ∙ sym (append-nil (fixed_by m));
        work = there;
        like = like_there none;
        licensed = after none m;
        frame = frame_is;
      }
      by (k ∷ ks) ahead = (let B = behind k ks ahead m in record {
        state = a;
        before = [];
        front = refl;
        behind = y ∷ ys;
        back = (m, there, back);
        whole = refl;
        fixed = W.fixed_is ∙ ap (λ l. fixed_before l (fixed_by m)) ahead;
        work = at;
        like = B.0;
        licensed = B.1;
        frame = frame_is;
      })

  pub found : (x : Spot) (a : WorkState) (path : List WorkState) (b : WorkState) (l : Leads seat refused a path b) → IsAtWork seat a → Led a → LoadsLook v0 b.trail.steps → IsAlong seat refused x a path b l → Found seat refused v0 x a path b l
  found x a [] b l at led looks is = at_end a b l x at led is
  found x a (y ∷ ys) b l at led looks (inl W) =
      let adds = chain_adds seat refused y ys b l.2 in
      within a y l.0 x at l.1 led (looks_behind v0 adds.0 y.trail.steps (subst (LoadsLook v0) adds.1 looks)) W ys b l.2
  found x a (y ∷ ys) b l at led looks (inr later) =
      let F = found (record x { fixed = later.0 }) y ys b l.2 l.1 (move_led a y led l.0) looks later.2 in
      record {
        state = F.state;
        before = y ∷ F.before;
        front = (l.0, l.1, F.front);
        behind = F.behind;
        back = F.back;
        whole = ap (λ xs. fixed_by l.0 ++ xs) F.whole ∙ sym (append_assoc (fixed_by l.0) (fixed_along seat refused y F.before F.state F.front) (fixed_along seat refused F.state F.behind b F.back));
        fixed = later.1 ∙ ap (λ xs. fixed_by l.0 ++ xs) F.fixed;
        work = F.work;
        like = F.like;
        licensed = F.licensed;
        frame = F.frame ∙ chain_frame seat refused a (y ∷ []) y (l.0, l.1, refl);
      }
