-- The spots of a core's chain in their order: one for each front of its steps, and what two of them have fixed.
use Rattle.std.proofs.Common.{◌≡◌, ◌⊎◌, inl, inr, Bool, List, [], ◌∷◌, ◌++◌, length, length-append, refl, sym, ◌∙◌, ap, subst, arith, append_assoc}
use Rattle.pm_region.specs.State.{State, IsTold, IsTelling, cell_now}
use Rattle.pm_region.specs.Words.{KeepsOutside}
use Rattle.pm_region.proofs.Clients.{told_at_entry}
use Rattle.group_board.specs.Seats.{SeatAt}
use Rattle.group_board.specs.Trails.{TrailStep}
use Rattle.licence.specs.Licence.{part_at, part_end}
use Rattle.engine_laws.specs.WorkerMoves.{Fixed}
use Rattle.batch_leader.specs.TurnSteps.{Trail}
use Rattle.thread_engine.specs.WorkStates.{WorkState, Move, Leads}
use Rattle.thread_engine.specs.WorkStates.Move.{accepts, turns, winds_down, joins, hands_over}
use Rattle.thread_engine.specs.CoreRuns.{fixed_by, fixed_along}
use Rattle.thread_engine.specs.Cuts.{Spot, fixed_before, IsAlong}

-- of two ends of one list one is an end of the other
overlap : {X : Type 0} (xs ys us vs : List X) → xs ++ us ≡ ys ++ vs → ((m : List X) × (us ≡ m ++ vs)) ⊎ ((k : X) × (ks : List X) × (vs ≡ (k ∷ ks) ++ us))
overlap [] ys us vs e = inl (ys, e)
overlap (x ∷ xs) [] us vs e = inr (x, xs, sym e)
overlap (x ∷ xs) (y ∷ ys) us vs e = (let rest : xs ++ us ≡ ys ++ vs = cc e in overlap xs ys us vs rest)

module _ (seat : SeatAt) (refused : Bool) where
  abbrev Adds : WorkState → WorkState → Type 0
  Adds a b = (more : List TrailStep) × (b.trail.steps ≡ more ++ a.trail.steps)

  move_adds : (a b : WorkState) → Move seat refused a b → Adds a b
  move_adds a b (accepts A) = ([], ap (λ (t : Trail). t.steps) A.trail)
  move_adds a b (turns T) = (T.steps.made, T.steps.more)
  move_adds a b (winds_down w) = ([], ap (λ (z : WorkState). z.trail.steps) w)
  move_adds a b (joins more w) = ([], ap (λ (z : WorkState). z.trail.steps) w)
  move_adds a b (hands_over none empty w) = ([], ap (λ (z : WorkState). z.trail.steps) w)

  pub chain_adds : (a : WorkState) (path : List WorkState) (b : WorkState) → Leads seat refused a path b → Adds a b
  chain_adds a [] b l = ([], ap (λ (z : WorkState). z.trail.steps) l)
  chain_adds a (y ∷ ys) b l = (let one = move_adds a y l.0 in let rest = chain_adds y ys b l.2 in (rest.0 ++ one.0, rest.1 ∙ ap (λ xs. rest.0 ++ xs) one.1 ∙ sym (append_assoc rest.0 one.0 a.trail.steps)))

  -- a piece that tells at the end told before
  move_telling : (a b : WorkState) → Move seat refused a b → IsTelling b.region → IsTelling a.region
  move_telling a b (accepts A) t = subst IsTelling A.region t
  move_telling a b (turns T) t = told_at_entry a.region b.region (KeepsOutside (cell_now a.region) (part_at seat.place seat.number) (part_end seat.place seat.number)) T.moves.moves.outside t
  move_telling a b (winds_down w) t = subst IsTelling (ap (λ (z : WorkState). z.region) w) t
  move_telling a b (joins more w) t = subst IsTelling (ap (λ (z : WorkState). z.region) w) t
  move_telling a b (hands_over none empty w) t = subst IsTelling (ap (λ (z : WorkState). z.region) w) t

  chain_telling : (a : WorkState) (path : List WorkState) (b : WorkState) → Leads seat refused a path b → IsTelling b.region → IsTelling a.region
  chain_telling a [] b l t = subst IsTelling (ap (λ (z : WorkState). z.region) l) t
  chain_telling a (y ∷ ys) b l t = move_telling a y l.0 (chain_telling y ys b l.2 t)

  -- and keeps what it told
  move_keeps : (a b : WorkState) → Move seat refused a b → IsTelling a.region → IsTold b.region a.region.stamp
  move_keeps a b (accepts A) t = subst (λ (s : State). IsTold s a.region.stamp) (sym A.region) t
  move_keeps a b (turns T) t = T.moves.moves.outside.keeps a.region.stamp t
  move_keeps a b (winds_down w) t = subst (λ (s : State). IsTold s a.region.stamp) (sym (ap (λ (z : WorkState). z.region) w)) t
  move_keeps a b (joins more w) t = subst (λ (s : State). IsTold s a.region.stamp) (sym (ap (λ (z : WorkState). z.region) w)) t
  move_keeps a b (hands_over none empty w) t = subst (λ (s : State). IsTold s a.region.stamp) (sym (ap (λ (z : WorkState). z.region) w)) t

  -- Of each front of a core's steps there is a spot, where the piece tells.
  abbrev There : List TrailStep → (a : WorkState) (path : List WorkState) (b : WorkState) → Leads seat refused a path b → Type 0
  There done a path b l = (x : Spot) × (x.done ≡ done) × IsAlong seat refused x a path b l

  pub spot_there : (a : WorkState) (path : List WorkState) (b : WorkState) (l : Leads seat refused a path b) → IsTelling b.region → (late done made : List TrailStep) → b.trail.steps ≡ late ++ done → done ≡ made ++ a.trail.steps → There done a path b l
  spot_there a [] b l tells late done made all since = (
    record { done = done; piece = b.region; stamp = b.region.stamp; fixed = [] },
    refl,
    record { done = sym (all ∙ ap (λ xs. xs ++ done) (none late refl)); piece = refl; stamp = refl; told = tells; fixed = refl },
  ) where
    none : (xs : List TrailStep) → late ≡ xs → late ≡ []
    none [] e = e
    none (k ∷ ks) e = absurd (
        let n = ap length (sym (ap (λ (z : WorkState). z.trail.steps) l) ∙ all ∙ (λ i. e i ++ since i)) in
        let p = length-append ks (made ++ a.trail.steps) in
        let q = length-append made a.trail.steps in
        omega (arith, n, p, q))
  spot_there a (y ∷ ys) b l tells late done made all since = elim (overlap late rest.0 done y.trail.steps (sym all ∙ rest.1)) [
    | inl behind ↦
        let r = spot_there y ys b l.2 tells late done behind.0 all behind.1 in (
          record { done = r.0.done; piece = r.0.piece; stamp = r.0.stamp; fixed = fixed_by l.0 ++ r.0.fixed },
          r.1,
          inr (r.0.fixed, refl, r.2),
        )
    | inr within ↦ (
      record { done = done; piece = y.region; stamp = a.region.stamp; fixed = [] },
      refl,
      inl (record {
        made = made;
        ahead = within.0 ∷ within.1;
        done = since;
        all = within.2;
        piece = refl;
        told = move_keeps a y l.0 (move_telling a y l.0 (chain_telling y ys b l.2 tells));
        entered = omega arith;
        behind = λ none. absurd (let n = ap length none in omega (arith, n));
        fixed_is = refl;
      }),
    )
  ] where
    rest : Adds y b
    rest = chain_adds y ys b l.2

  -- a spot of a chain has the steps from before it
  spot_adds : (x : Spot) (a : WorkState) (path : List WorkState) (b : WorkState) (l : Leads seat refused a path b) → IsAlong seat refused x a path b l → (more : List TrailStep) × (x.done ≡ more ++ a.trail.steps)
  spot_adds x a [] b l E = ([], E.done ∙ ap (λ (z : WorkState). z.trail.steps) l)
  spot_adds x a (y ∷ ys) b l (inl W) = (W.made, W.done)
  spot_adds x a (y ∷ ys) b l (inr later) =
      let rest = spot_adds (record x { fixed = later.0 }) y ys b l.2 later.2 in
      let one = move_adds a y l.0 in
      (rest.0 ++ one.0, rest.1 ∙ ap (λ xs. rest.0 ++ xs) one.1 ∙ sym (append_assoc rest.0 one.0 a.trail.steps))

  -- With more steps made, all is fixed that was before.
  abbrev Grows : Spot → Spot → Type 0
  Grows x z = (rest : List Fixed) × (z.fixed ≡ x.fixed ++ rest)

  before_front : (ahead : List TrailStep) (fixed later : List Fixed) → (rest : List Fixed) × (fixed ++ later ≡ fixed_before ahead fixed ++ rest)
  before_front [] fixed later = (later, refl)
  before_front (k ∷ ks) fixed later = (fixed ++ later, refl)

  not_both : (m ahead more : List TrailStep) (k : TrailStep) (xs ys zs : List TrailStep) → xs ≡ m ++ zs → zs ≡ ahead ++ ys → ys ≡ k ∷ more ++ xs → ⊥
  not_both m ahead more k xs ys zs e f g =
      let a = ap length e ∙ length-append m zs in
      let b = ap length f ∙ length-append ahead ys in
      let c = ap length g in
      let d = length-append more xs in
      omega (arith, a, b, c, d)

  pub spots_grow : (x z : Spot) (a : WorkState) (path : List WorkState) (b : WorkState) (l : Leads seat refused a path b) → IsAlong seat refused x a path b l → IsAlong seat refused z a path b l
      → (k : TrailStep) (more : List TrailStep) → z.done ≡ k ∷ more ++ x.done → Grows x z
  spots_grow x z a [] b l E F k more e = absurd (not_both [] [] more k x.done z.done b.trail.steps E.done (sym F.done) e)
  spots_grow x z a (y ∷ ys) b l (inl W) (inl V) k more e = (z.fixed, ap (λ fs. fs ++ z.fixed) (sym (W.fixed_is ∙ some W.ahead refl))) where
    some : (ahead : List TrailStep) → W.ahead ≡ ahead → fixed_before W.ahead (fixed_by l.0) ≡ []
    some (j ∷ js) is = ap (λ xs. fixed_before xs (fixed_by l.0)) is
    some [] none = absurd (not_both [] V.ahead more k x.done z.done y.trail.steps (sym (W.all ∙ ap (λ xs. xs ++ x.done) none)) V.all e)
  spots_grow x z a (y ∷ ys) b l (inl W) (inr later) k more e = (let f = before_front W.ahead (fixed_by l.0) later.0 in (f.0, later.1 ∙ f.1 ∙ ap (λ fs. fs ++ f.0) (sym W.fixed_is)))
  spots_grow x z a (y ∷ ys) b l (inr before) (inl V) k more e = absurd (let r = spot_adds (record x { fixed = before.0 }) y ys b l.2 before.2 in not_both r.0 V.ahead more k x.done z.done y.trail.steps r.1 V.all e)
  spots_grow x z a (y ∷ ys) b l (inr before) (inr later) k more e =
      let r = spots_grow (record x { fixed = before.0 }) (record z { fixed = later.0 }) y ys b l.2 before.2 later.2 k more e in
      (r.0, later.1 ∙ ap (λ fs. fixed_by l.0 ++ fs) r.1 ∙ sym (append_assoc (fixed_by l.0) before.0 r.0) ∙ ap (λ fs. fs ++ r.0) (sym before.1))

  -- behind all moves everything is fixed
  pub spot_last : (a : WorkState) (path : List WorkState) (b : WorkState) (l : Leads seat refused a path b) → IsTelling b.region → (x : Spot) × IsAlong seat refused x a path b l × (x.stamp ≡ b.region.stamp) × (x.fixed ≡ fixed_along seat refused a path b l)
  spot_last a [] b l tells = (
    record { done = b.trail.steps; piece = b.region; stamp = b.region.stamp; fixed = [] },
    record { done = refl; piece = refl; stamp = refl; told = tells; fixed = refl },
    refl,
    refl,
  )
  spot_last a (y ∷ ys) b l tells =
      let r = spot_last y ys b l.2 tells in (
        record { done = r.0.done; piece = r.0.piece; stamp = r.0.stamp; fixed = fixed_by l.0 ++ r.0.fixed },
        inr (r.0.fixed, refl, r.1),
        r.2,
        ap (λ fs. fixed_by l.0 ++ fs) r.3,
      )
