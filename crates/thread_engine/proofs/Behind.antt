-- Behind a rest of all cores: the spots there, and what was finished before a cut there.
use Rattle.std.proofs.Common.{◌≡◌, ◌≢◌, inl, inr, ℕ, zero, suc, ◌+◌, ◌≤◌, ◌<◌, ◌==◌, ◌||◌, if◌then◌else◌, cond, Bool, true, false, List, [], ◌∷◌, ◌++◌, map, filter, length, length-append, take, drop, Option, Some, None, refl, sym, ◌∙◌, ap, subst, arith, append-nil, append_assoc}
use Rattle.std.proofs.lemmas.Bool.{cases_eq, eq-eqb, ne_eqb}
use Rattle.std.proofs.lemmas.List.{map-append, take-append-drop}
use Rattle.std.proofs.lemmas.List.Elements.{filter-append}
use Rattle.fs_model.specs.declared.model.Request.{Request}
use Rattle.fs_model.specs.declared.model.Reply.{Reply}
use Rattle.fs_model.specs.Cells.{key_of}
use Rattle.fs_model.specs.Lawful.{is_finish}
use Rattle.fs_model.specs.Changes.{requests_of, requests_in, names}
use Rattle.pm_region.specs.State.{IsTelling}
use Rattle.chunk_map.specs.declared.layouts.Geometry.{Geometry}
use Rattle.chunk_map.specs.Layouts.{layout_of, owner, IsLayout}
use Rattle.store_image.specs.Facts.{In}
use Rattle.store_image.proofs.Clients.{in_front, has_layout, superblock_facts}
use Rattle.recover.specs.declared.types.Recovered.{Recovered}
use Rattle.group_laws.specs.Places as places
use Rattle.group_laws.specs.MemberViews.{view_of}
use Rattle.group_laws.specs.OpeningImages.{opened}
use Rattle.group_laws.specs.Regions.{place_at}
use Rattle.group_laws.proofs.Clients.{in_map}
use Rattle.group_board.specs.Seats.{SeatAt}
use Rattle.group_board.specs.Trails.{TrailStep}
use Rattle.headline.specs.Headline.{finished_in}
use Rattle.engine_laws.specs.Parts.{group_of, member_of}
use Rattle.engine_laws.specs.Engine.{Engine, Answer}
use Rattle.engine_laws.specs.WorkerMoves.{request_placed, Fixed, asked, replied, fixed_of, requests_for, line_in}
use Rattle.engine_laws.specs.Keys.{finished}
use Rattle.engine_laws.specs.Reports.{named_at, named_from, told_of}
use Rattle.engine_laws.specs.Origins.{Origin}
use Rattle.engine_laws.specs.Promises.{IsOrigin}
use Rattle.engine_laws.proofs.Clients.{owner_low, of_member, in_filter, in_requests}
use Rattle.thread_engine.specs.WorkStates.{WorkState, Leads, joined_by, joined_along}
use Rattle.thread_engine.specs.WorkLaws.{KeepsDoubts, WorksOff, HasRested, hands_at}
use Rattle.thread_engine.specs.CoreRuns.{CoreRun, requests_to, fixed_by, fixed_along, fixed_in}
use Rattle.thread_engine.specs.Cuts.{Spot, IsAlong}
use Rattle.thread_engine.specs.Between.{ComesBy, IsFrom, RestsAt, HoldsBehind, finished_among}
use Rattle.thread_engine.proofs.ByNumber.{requests_are}
use Rattle.thread_engine.proofs.LastState.{ChainLaw, OpeningDoubts}
use Rattle.thread_engine.proofs.Places.{get_low}
use Rattle.thread_engine.proofs.Rested.{has_rested}
use Rattle.thread_engine.proofs.SpotOrder.{spot_there}

-- A report names a number where the answer with it is a finish.
module _ {X : Type 0} (what : Answer → X) (ans : ℕ → Option Answer) where
  abbrev named : ℕ → ℕ → List (ℕ × X)
  named n count = named_from is_finish what ans n count

  abbrev names_in : List (ℕ × X) → ℕ → Bool
  names_in xs i = names (map (λ (x : ℕ × X). x.0) xs) i

  passed : (n i : ℕ) → n ≢ i → (a : Option Answer) (rest : List (ℕ × X)) → names_in (named_at is_finish what n a ++ rest) i ≡ names_in rest i
  passed n i ne None rest = refl
  passed n i ne (Some a) rest = by (is_finish a.reply) where
    by : (b : Bool) → names_in ((if b then (n, what a) ∷ [] else []) ++ rest) i ≡ names_in rest i
    by true = (λ t. ne_eqb n i ne t || names_in rest i)
    by false = refl

  unnamed : (n count i : ℕ) → i < n → names_in (named n count) i ≡ false
  unnamed n zero i lt = refl
  unnamed n (suc count) i lt = passed n i (λ e. omega (arith, lt, e)) (ans n) (named (n + 1) count) ∙ unnamed (n + 1) count i (omega (arith, lt))

  named_there : (n count i : ℕ) (a : Answer) → ans i ≡ Some a → n ≤ i → i < n + count → names_in (named n count) i ≡ is_finish a.reply
  named_there n zero i a is low high = absurd (omega (arith, low, high))
  named_there n (suc count) i a is low high = elim (cases_eq n i) [
    | inl same ↦ ap (λ d. names_in (named_at is_finish what n d ++ named (n + 1) count) i) (ap ans same ∙ is) ∙ here same (is_finish a.reply)
    | inr other ↦ passed n i other (ans n) (named (n + 1) count) ∙ named_there (n + 1) count i a is (omega (arith, low, other)) (omega (arith, high))
  ] where
    here : n ≡ i → (b : Bool) → names_in ((if b then (n, what a) ∷ [] else []) ++ named (n + 1) count) i ≡ b
    here same true = (λ t. eq-eqb n i same t || names_in (named (n + 1) count) i)
    here same false = unnamed (n + 1) count i (omega (arith, same))

-- the finishes that are named among answered requests
one_more : (y : Fixed) (xs : List (ℕ × Request)) (ys : List (Request × Reply)) (b : Bool) → requests_in xs ≡ map (λ (x : Request × Reply). x.0) ys → requests_in (cond b (asked y ∷ xs) xs) ≡ map (λ (x : Request × Reply). x.0) (cond b (replied y ∷ ys) ys)
one_more y xs ys true e = ap (λ l. y.request ∷ l) e
one_more y xs ys false e = e

finishes_named : (fin : List ℕ) (fs : List Fixed) → ((y : Fixed) → In y fs → names fin y.number ≡ is_finish y.reply) → requests_in (filter (λ (x : ℕ × Request). names fin x.0) (map asked fs)) ≡ finished (map replied fs)
finishes_named fin [] h = refl
finishes_named fin (y ∷ ys) h =
    let those = filter (λ (x : ℕ × Request). names fin x.0) (map asked ys) in
    ap (λ b. requests_in (cond b (asked y ∷ those) those)) (h y (inl refl)) ∙ one_more y those (filter (λ (x : Request × Reply). is_finish x.1) (map replied ys)) (is_finish y.reply) (finishes_named fin ys (λ z i. h z (inr i)))

finished_more : (xs ys : List (Request × Reply)) → finished (xs ++ ys) ≡ finished xs ++ finished ys
finished_more xs ys = ap (map (λ (x : Request × Reply). x.0)) (filter-append (λ (x : Request × Reply). is_finish x.1) xs ys) ∙ map-append (λ (x : Request × Reply). x.0) (filter (λ (x : Request × Reply). is_finish x.1) xs) (filter (λ (x : Request × Reply). is_finish x.1) ys)

-- The part of a chain up to a state by which it comes: what joined in it, and what it fixed, with which these answers and all of the chain's begin.
pub record Front (seat : SeatAt) (refused : Bool) (fixed : List Fixed) (joined : List (ℕ × Request)) (at a : WorkState) (path : List WorkState) (b : WorkState) (l : Leads seat refused a path b) : Type 0 where
  pub before : List WorkState
  pub front : Leads seat refused a before at
  pub joins : joined_along seat refused a before at front ≡ joined
  pub later : List Fixed
  pub fixed_is : fixed ≡ fixed_along seat refused a before at front ++ later
  pub rest : List Fixed
  pub whole : fixed_along seat refused a path b l ≡ fixed_along seat refused a before at front ++ rest

module _ (seat : SeatAt) (refused : Bool) where
  front_of : (x : Spot) (joined : List (ℕ × Request)) (at a : WorkState) (path : List WorkState) (b : WorkState) (l : Leads seat refused a path b) → IsFrom seat refused x joined at a path b l → Front seat refused x.fixed joined at a path b l
  front_of x joined at a [] b l here = record { before = []; front = here.0; joins = sym here.1; later = x.fixed; fixed_is = refl; rest = []; whole = refl }
  front_of x joined at a (y ∷ ys) b l (inl here) = record { before = []; front = here.0; joins = sym here.1; later = x.fixed; fixed_is = refl; rest = fixed_along seat refused a (y ∷ ys) b l; whole = refl }
  front_of x joined at a (y ∷ ys) b l (inr behind) =
      let r = front_of (record x { fixed = behind.1 }) behind.0 at y ys b l.2 behind.4 in
      record {
        before = y ∷ r.before;
        front = (l.0, l.1, r.front);
        joins = ap (λ q. joined_by l.0 ++ q) r.joins ∙ sym behind.2;
        later = r.later;
        fixed_is = behind.3 ∙ ap (λ fs. fixed_by l.0 ++ fs) r.fixed_is ∙ sym (append_assoc (fixed_by l.0) (fixed_along seat refused y r.before at r.front) r.later);
        rest = r.rest;
        whole = ap (λ fs. fixed_by l.0 ++ fs) r.whole ∙ sym (append_assoc (fixed_by l.0) (fixed_along seat refused y r.before at r.front) r.rest);
      }

  -- the spots from there on
  abbrev Spots : List TrailStep → List (ℕ × Request) → WorkState → (a : WorkState) (path : List WorkState) (b : WorkState) → Leads seat refused a path b → Type 0
  Spots done joined at a path b l = (x : Spot) × (x.done ≡ done) × IsAlong seat refused x a path b l × IsFrom seat refused x joined at a path b l

  spots_from : (joined : List (ℕ × Request)) (at a : WorkState) (path : List WorkState) (b : WorkState) (l : Leads seat refused a path b) → ComesBy seat refused joined at a path b l → IsTelling b.region
      → (late done more : List TrailStep) → b.trail.steps ≡ late ++ done → done ≡ more ++ at.trail.steps → Spots done joined at a path b l
  spots_from joined at a [] b l here tells late done more all since =
      let r = spot_there seat refused a [] b l tells late done more all (since ∙ ap (λ (z : WorkState). more ++ z.trail.steps) here.0) in
      (r.0, r.1, r.2, (here.0, here.1, r.2))
  spots_from joined at a (y ∷ ys) b l (inl here) tells late done more all since =
      let r = spot_there seat refused a (y ∷ ys) b l tells late done more all (since ∙ ap (λ (z : WorkState). more ++ z.trail.steps) here.0) in
      (r.0, r.1, r.2, inl (here.0, here.1, r.2))
  spots_from joined at a (y ∷ ys) b l (inr behind) tells late done more all since =
      let r = spots_from behind.0 at y ys b l.2 behind.2 tells late done more all since in (
        record { done = r.0.done; piece = r.0.piece; stamp = r.0.stamp; fixed = fixed_by l.0 ++ r.0.fixed },
        r.1,
        inr (r.0.fixed, refl, r.2),
        inr (behind.0, r.0.fixed, behind.1, refl, r.3),
      )

module _ (chain : ChainLaw) (doubts_open : OpeningDoubts) (o : Origin) (r : Recovered) (refused : Bool) (e : Engine) (is : IsOrigin o) (lay : e.layout ≡ layout_of o.found) (cores : (c : ℕ) → c < e.layout.cores → CoreRun o r refused e c)
    (m : ℕ) (rests : (c : ℕ) (low : c < e.layout.cores) → RestsAt (cores c low) m) where
  is_layout : IsLayout e.layout
  is_layout = subst IsLayout (sym lay) (superblock_facts o.region.frame.bytes o.found (has_layout o.region.frame.bytes o.found is.sound)).1

  abbrev first_requests : List Request
  first_requests = take m e.given

  -- of one key
  module _ (k : ℕ) where
    abbrev c : ℕ
    c = owner e.layout k

    abbrev low : c < e.layout.cores
    low = owner_low e.layout is_layout k

    abbrev Y : CoreRun o r refused e c
    Y = cores c low

    abbrev R : RestsAt Y m
    R = rests c low

    own : places.owner Y.seat.place k ≡ Y.seat.number
    own = (λ i. places.owner (Y.place i) k) ∙ of_member e.layout is_layout c k refl ∙ sym Y.number

    own_found : owner (layout_of o.found) k ≡ c
    own_found = ap (λ (g : Geometry). owner g k) (sym lay)

    first_view : Y.first.view ≡ view_of (opened (place_at e.layout (group_of e.layout c)) o.found) (member_of e.layout c)
    first_view = Y.sits.view ∙ (λ i. view_of (opened (place_at (sym lay i) (group_of (sym lay i) c)) o.found) (member_of (sym lay i) c))

    doubts : KeepsDoubts Y.seat Y.first.view
    doubts = subst (KeepsDoubts Y.seat) (sym (first_view ∙ (λ i. view_of (opened (sym Y.place i) o.found) (sym Y.number i)))) (doubts_open Y.seat o.found)

    rested : HasRested Y.seat R.at
    rested = has_rested Y.seat R.at R.rest.work R.rest.ended

    none_first : line_in (hands_at Y.first) k ≡ []
    none_first = (λ i. request_placed (Y.sits.place k own_found i) ++ Y.sits.waits k own_found i)

    none_there : line_in (hands_at R.at) k ≡ []
    none_there = (λ i. request_placed (rested.places R.rest.runs k i) ++ rested.waits R.rest.runs k i)

    module _ (fixed : List Fixed) (F : Front Y.seat refused fixed (requests_to e.layout c first_requests) R.at Y.first Y.works.path Y.last Y.works.leads) where
      abbrev front_fixed : List Fixed
      front_fixed = fixed_along Y.seat refused Y.first F.before R.at F.front

      abbrev fs : List Fixed
      fs = fixed_of k front_fixed

      off : (w : WorksOff Y.seat Y.first R.at) × (w.fixed ≡ front_fixed) × (w.joined ≡ joined_along Y.seat refused Y.first F.before R.at F.front)
      off = (let C = chain Y.seat refused Y.first R.at Y.at_work doubts (record { path = F.before; leads = F.front }) in (C.0, C.1, C.3))

      accepted_are : requests_to e.layout c first_requests ≡ off.0.accepted
      accepted_are =
          sym F.joins ∙ sym off.2 ∙ ap (λ q. q ++ off.0.joined) (sym Y.queue) ∙ off.0.split ∙ ap (λ q. off.0.accepted ++ q) (R.rest.ended.queue R.rest.runs) ∙ append-nil off.0.accepted

      -- all of the key's requests among the first ones were answered
      answered : requests_of k first_requests ≡ map asked fs
      answered =
          sym (requests_are e.layout c k first_requests refl) ∙ ap (requests_for k) accepted_are ∙ ap (λ h. h ++ requests_for k off.0.accepted) (sym none_first) ∙ off.0.order k own
          ∙ (λ i. map asked (fixed_of k (off.1 i)) ++ none_there i) ∙ append-nil (map asked fs)

      named_so : (z : Fixed) → In z fs → names (finished_in (told_of e)) z.number ≡ is_finish z.reply
      named_so z i =
          let there : In z (fixed_in Y.seat refused Y.first Y.last Y.works) = subst (In z) (sym F.whole) (in_front z front_fixed F.rest (in_filter (λ (f : Fixed). key_of f.request == k) front_fixed z i).0) in
          let request = (in_requests k first_requests (asked z) (subst (In (asked z)) (sym answered) (in_map asked z fs i))).0 in
          let low = get_low first_requests z.number z.request request in
          let long = ap length (sym (take-append-drop m e.given)) ∙ length-append first_requests (drop m e.given) in
          named_there (λ (a : Answer). a.stamp) e.answer 0 (length e.given) z.number (record { reply = z.reply; stamp = e.region.stamp }) (Y.answers z there) (omega arith) (omega (arith, low, long))

      count_is : finished_among e m k ≡ length (finished (map replied fs))
      count_is = ap (λ l. length (requests_in (filter (λ (x : ℕ × Request). names (finished_in (told_of e)) x.0) l))) answered ∙ ap length (finishes_named (finished_in (told_of e)) fs named_so)

      split : finished (map replied (fixed_of k fixed)) ≡ finished (map replied fs) ++ finished (map replied (fixed_of k F.later))
      split =
          ap (λ gs. finished (map replied (fixed_of k gs))) F.fixed_is ∙ ap (λ gs. finished (map replied gs)) (filter-append (λ (f : Fixed). key_of f.request == k) front_fixed F.later)
          ∙ ap finished (map-append replied fs (fixed_of k F.later)) ∙ finished_more (map replied fs) (map replied (fixed_of k F.later))

      kept_of : finished_among e m k ≤ length (finished (map replied (fixed_of k fixed)))
      kept_of = (let few = count_is in let long = ap length split ∙ length-append (finished (map replied fs)) (finished (map replied (fixed_of k F.later))) in omega (arith, few, long))

  pub holds_behind : HoldsBehind o r refused e cores m
  holds_behind = record {
    rests = rests;
    spots = λ c low tells late done more all since. (let y = cores c low in let R = rests c low in spots_from y.seat refused (requests_to e.layout c first_requests) R.at y.first y.works.path y.last y.works.leads R.there tells late done more all since);
    kept = λ order cut behind k.
        let y = Y k in
        let x = cut.core (owner e.layout k) in
        kept_of k x.fixed (front_of y.seat refused x (requests_to e.layout (owner e.layout k) first_requests) (R k).at y.first y.works.path y.last y.works.leads (behind (owner e.layout k) (low k)));
  }
