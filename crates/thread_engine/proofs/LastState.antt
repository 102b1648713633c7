-- The state in which a run on threads ends, made of what each core has then.
use Rattle.std.proofs.Common.{◌≡◌, ◌≢◌, ◌⊎◌, inl, inr, ℕ, zero, suc, ◌+◌, ◌*◌, ◌≤◌, ◌<◌, ◌==◌, Bool, true, false, List, [], ◌∷◌, ◌++◌, map, length, take, slice_index_or, Option, Some, None, refl, sym, ◌∙◌, ap, subst, arith, append-nil, append_assoc}
use Rattle.std.proofs.lemmas.Bool.{eq-eqb}
use Rattle.std.proofs.lemmas.Nat.{div-mul-add, mod-mul-add}
use Rattle.std.specs.List.{AllByRecursion, slice_get, enumerate_from}
use Rattle.std.proofs.lemmas.List.{take_all}
use Rattle.std.proofs.lemmas.List.Elements.{filter-append}
use Rattle.fs_model.specs.declared.model.Request.{Request}
use Rattle.fs_model.specs.Cells.{key_of}
use Rattle.fs_model.specs.Lawful.{cell_of, stopped_of}
use Rattle.fs_model.specs.Changes.{requests_of}
use Rattle.pm_region.specs.State.{State, Frame, IsTold, IsTelling, MayLeave, cell_now, counted, Rose}
use Rattle.pm_region.specs.Split.{TakesPiece, TellsFrom}
use Rattle.log_entry.specs.declared.entry.Entry.{Entry}
use Rattle.chunk_map.specs.declared.layouts.Geometry.{Geometry}
use Rattle.chunk_map.specs.Layouts.{layout_of, owner, IsLayout}
use Rattle.store_image.specs.Facts.{In}
use Rattle.store_image.proofs.Clients.{in_front, in_back, has_layout}
use Rattle.recover.specs.declared.types.CoreStart.{CoreStart}
use Rattle.recover.specs.declared.types.Recovered.{Recovered}
use Rattle.group_laws.specs.declared.types.Slot.{Slot}
use Rattle.group_laws.specs.declared.types.Slot.TheVariants.{Empty, Posted, Taken, Done, Failed}
use Rattle.group_laws.specs.Invariant.{Lawful, PendsAt}
use Rattle.group_laws.specs.Runs.{Kind, Runs}
use Rattle.group_laws.specs.Places as places
use Rattle.group_laws.specs.State.{Group}
use Rattle.group_laws.specs.Regions.{key_group, groups_in, place_at}
use Rattle.group_laws.specs.OpeningImages.{opened}
use Rattle.group_laws.specs.MemberViews.{View, view_of}
use Rattle.group_laws.proofs.Clients.{in_map, of_map}
use Rattle.group_board.specs.Seats.{SeatAt}
use Rattle.group_board.specs.Trails.{TrailStep}
use Rattle.licence.specs.Licence.{Licensed}
use Rattle.engine_laws.specs.Parts.{Groups, AllLicensed, HasSuperblock, group_of, member_of}
use Rattle.engine_laws.specs.Idle.{IsDrained}
use Rattle.engine_laws.specs.Ceasing.{HasCeased}
use Rattle.engine_laws.specs.Causes.{Causes}
use Rattle.headline.specs.Headline.{Recovers}
use Rattle.engine_laws.specs.Reports.{AllAnswered, told_of}
use Rattle.engine_laws.specs.WorkerMoves.{Placed, request_placed, Hands, Fixed, asked, replied, fixed_of, requests_for, line_in, HasDoubt}
use Rattle.engine_laws.specs.Engine as engines
use Rattle.engine_laws.specs.Engine.{Engine, group_for, line}
use Rattle.engine_laws.specs.Keys.{Served, pairs, posted_in, finished, changes_on, History, KeyStands}
use Rattle.engine_laws.specs.KeyLaw.{KeyIs, key_view, key_in}
use Rattle.engine_laws.specs.Origins.{Origin, start_of}
use Rattle.engine_laws.specs.Promises.{IsOrigin, HasStopped, Promised, IsDone}
use Rattle.engine_laws.specs.Stands.{StandsNow, opening}
use Rattle.engine_laws.specs.Workers.{Sits}
use Rattle.engine_laws.proofs.Clients.{owner_low, key_group_low, group_low, member_core, of_member, of_core, shows_groups, shows_key, IsUp, up, all_in, in_all, in_requests, in_filter, filter_in}
use Rattle.core_worker.specs.declared.types.Answer.{Answer}
use Rattle.core_worker.specs.declared.worker.Worker.{Worker}
use Rattle.core_worker.specs.Answering.{IsGiven, AreGiven}
use Rattle.core_worker.specs.Beginning.{answers_of}
use Rattle.core_worker.specs.Openings.{IsNew, IsStartAt}
use Rattle.engine_core.specs.declared.types.Stamped.{Stamped}
use Rattle.engine_core.specs.declared.run_outcome.End.TheVariants as closings
use Rattle.engine_core.specs.declared.run_outcome.End.{End}
use Rattle.engine_core.specs.Answers.{ShowsAnswer, kept_at, stored}
use Rattle.engine_core.specs.RunStarts.{BeginsAt}
use Rattle.engine_core.specs.Reports.{listed_of}
use Rattle.engine_core.proofs.Clients.{reports_by}
use Rattle.thread_engine.specs.Collected.{AreBlank, restamped, any_stopped, end_by}
use Rattle.thread_engine.specs.RanApart.{stamped, KeepsAnswers, TakesOnce, Rejoined, RanApart}
use Rattle.thread_engine.specs.Takings.{TakenAs}
use Rattle.answer_cores.specs.Passes.{all_answers}
use Rattle.answer_queue.specs.declared.window_sizes.TheConstants.{WINDOW}
use Rattle.std.proofs.lemmas.List.Sorted.{IsPermutation-sym}
use Rattle.thread_engine.proofs.Places.{any_at, any_in}
use Rattle.thread_engine.proofs.KeptAnswers.{given_for, fixed_for, from_one, blank_none, stored_long}
use Rattle.thread_engine.proofs.TakenKept.{taken_kept, in_order, in_one, in_all as in_all_outs, restamped_stored, blank_restamped}
use Rattle.thread_engine.specs.Pieces.{IsPieceOf, HasPart}
use Rattle.thread_engine.specs.WorkStates.{WorkState, IsAtWork, Works, HasEnded, joined_in, given_in}
use Rattle.thread_engine.specs.WorkLaws.{KeepsDoubts, WorksOff, HasRested, hands_at}
use Rattle.thread_engine.specs.CoreRuns.{requests_to, fixed_in, HasView, LoadsLook, CoreRun, AllRan}
use Rattle.thread_engine.specs.Cuts.{steps_of, IsShown, Cut, finished_at, MayLeaveAt}
use Rattle.thread_engine.specs.Between.{RestsWith, RestsEach, RestsAt}
use Rattle.thread_engine.proofs.Doubts.{none_some, one_of, clash}
use Rattle.thread_engine.proofs.PieceStands.{joined_licence}
use Rattle.thread_engine.proofs.Rested.{has_rested}
use Rattle.thread_engine.proofs.WorkRests.{rests_last}
use Rattle.thread_engine.proofs.SameViews.{key_shown, shown_licence}
use Rattle.thread_engine.proofs.SpotOrder.{spot_there, spot_last, spots_grow}
use Rattle.thread_engine.proofs.Stops.{chain_frame, ended_because}
use Rattle.thread_engine.proofs.ByNumber.{in_enumerated, requests_are, with_number, found_there, found_nowhere, found_in, served_at, served_asked, served_pairs, served_all}

-- A core's chain of moves.
pub record CoreEnd (refused : Bool) : Type 0 where
  pub seat : SeatAt
  pub first : WorkState
  pub last : WorkState
  pub works : Works seat refused first last
  -- the requests that did not join, and the answers that its worker handed over
  pub later : List (ℕ × Request)
  pub outs : List Answer

abbrev pub no_hands : Hands
no_hands = record { place = λ k. None; waits = λ k. []; stopped = false; stock = record { chunks = 0; lines = 0; blocks = λ class. 0 } }

abbrev pub answered : ℕ → Option Fixed → Option engines.Answer
answered t None = None
answered t (Some y) = Some (record { reply = y.reply; stamp = t })

module _ {refused : Bool} where
  abbrev pub fixed_of_end : CoreEnd refused → List Fixed
  fixed_of_end x = fixed_in x.seat refused x.first x.last x.works

  abbrev pub hands_in : Option (CoreEnd refused) → Hands
  hands_in None = no_hands
  hands_in (Some x) = hands_at x.last

  abbrev pub queue_in : Option (CoreEnd refused) → List (ℕ × Request)
  queue_in None = []
  queue_in (Some x) = x.last.queue ++ x.later

  abbrev pub fixed_in_end : Option (CoreEnd refused) → List Fixed
  fixed_in_end None = []
  fixed_in_end (Some x) = fixed_of_end x

  abbrev pub answer_by : Geometry → ℕ → (ℕ → Option (CoreEnd refused)) → ℕ → Option Request → Option engines.Answer
  answer_by l t ends n None = None
  answer_by l t ends n (Some q) = answered t (with_number n (fixed_of (key_of q) (fixed_in_end (ends (owner l (key_of q))))))

  -- the state that these ends and these groups make
  abbrev pub engine_of : Geometry → State → (ℕ → Group) → List Request → (ℕ → Option (CoreEnd refused)) → Engine
  engine_of l t group given ends = record {
    layout = l;
    region = t;
    group = group;
    given = given;
    backlog = λ c. queue_in (ends c);
    takes = λ c. false;
    stopped = λ c. (hands_in (ends c)).stopped;
    stock = λ c. (hands_in (ends c)).stock;
    place = λ k. (hands_in (ends (owner l k))).place k;
    waits = λ k. (hands_in (ends (owner l k))).waits k;
    answer = λ n. answer_by l t.stamp ends n (slice_get given n);
  }

-- what is known of core c's end
pub record IsEnd (o : Origin) (r : Recovered) (refused : Bool) (t : State) (group : ℕ → Group) (given : List Request) (c : ℕ) (x : CoreEnd refused) : Type 0 where
  pub place : x.seat.place ≡ place_at (layout_of o.found) (group_of (layout_of o.found) c)
  pub number : x.seat.number ≡ member_of (layout_of o.found) c
  pub start : CoreStart
  pub recovered : slice_get r.starts.items c ≡ Some start
  pub found : IsStartAt x.seat.place x.seat.number o.found start
  pub new : IsNew start r.layout x.first.worker
  pub sits : Sits (opening o) c x.first.view (hands_at x.first)
  pub piece : IsPieceOf x.seat.place x.seat.number o.region x.first.region
  pub queue : x.first.queue ≡ []
  pub dealt : joined_in x.seat refused x.first x.last x.works ++ x.later ≡ requests_to (layout_of o.found) c given
  pub whole : x.last.worker.winds_down ≡ false → x.later ≡ []
  pub handed : given_in x.seat refused x.first x.last x.works ≡ x.outs
  pub none : answers_of x.last.worker ≡ []
  pub at_work : IsAtWork x.seat x.first
  pub idle : x.first.trail.steps ≡ []
  pub loads : LoadsLook x.first.view x.last.trail.steps
  pub work : IsAtWork x.seat x.last
  pub ended : HasEnded x.last
  pub joined : TakesPiece t x.last.region
  pub shown : HasView (group (group_of (layout_of o.found) c)) (member_of (layout_of o.found) c) x.last.view

-- the laws of a chain, of the opening
abbrev pub ChainLaw : Type 0
ChainLaw = (seat : SeatAt) (refused : Bool) (a b : WorkState) → IsAtWork seat a → KeepsDoubts seat a.view → (w : Works seat refused a b)
    → (x : WorksOff seat a b) × (x.fixed ≡ fixed_in seat refused a b w) × KeepsDoubts seat b.view × (x.joined ≡ joined_in seat refused a b w) × (x.given ≡ given_in seat refused a b w)

abbrev pub OpeningKeys : Type 0
OpeningKeys = (o : Origin) → IsOrigin o → (m k : ℕ) → places.owner (place_at (layout_of o.found) (key_group (layout_of o.found) k)) k ≡ m
    → KeyIs (start_of o k) (key_view (view_of (opened (place_at (layout_of o.found) (key_group (layout_of o.found) k)) o.found) m) k) None false []

abbrev pub OpeningDoubts : Type 0
OpeningDoubts = (seat : SeatAt) (image : ℕ → ℕ) → KeepsDoubts seat (view_of (opened seat.place image) seat.number)

-- why requests are refused, and what a moment promises
abbrev pub RefusalLaw : Type 0
RefusalLaw = (o : Origin) (r : Recovered) (refused : Bool) (e : Engine) → IsOrigin o → AllRan o r refused e → Causes o e

abbrev pub MomentLaw : Type 0
MomentLaw = (o : Origin) (e : Engine) → StandsNow o e → Causes o e → (HasStopped e → Rose o.region.faults e.region.faults) → Promised o e

-- what a crash leaves at a cut
abbrev pub CutLaw : Type 0
CutLaw = (o : Origin) (r : Recovered) (refused : Bool) (e : Engine) → IsOrigin o → StandsNow o e → (ran : AllRan o r refused e) → (order : ℕ → List (ℕ × TrailStep))
    → (cut : Cut o r refused e ran.cores order) → (image : ℕ → ℕ) → MayLeaveAt cut image → Recovers o.region.frame.bytes (start_of o) e.given (told_of e) (finished_at cut) image

-- what the end says of the workers
faulted : (a b : Bool) → end_by a b ≡ closings.RegionFault → b ≡ true
faulted false b e = absurd (cc e)
faulted true true e = refl
faulted true false e = absurd (cc e)

completed : (a b : Bool) → end_by a b ≡ closings.Complete → b ≡ false
completed false b e = absurd (cc e)
completed true true e = absurd (cc e)
completed true false e = refl

had_memory : (a b : Bool) → (end_by a b ≡ closings.Memory → ⊥) → a ≡ true
had_memory true b no_ = refl
had_memory false b no_ = absurd (no_ refl)

lacked : (a b : Bool) → end_by a b ≡ closings.Memory → a ≡ false
lacked true true e = absurd (cc e)
lacked true false e = absurd (cc e)
lacked false b e = refl

-- the front of rising numbers, and no numbers
up_front : (xs ys : List (ℕ × Request)) → IsUp (xs ++ ys) → IsUp xs
up_front [] ys u = tt
up_front (x ∷ xs) ys u = (in_all (λ (y : ℕ × Request). x.0 < y.0) xs (λ y i. all_in (λ (z : ℕ × Request). x.0 < z.0) (xs ++ ys) y u.0 (in_front y xs ys i)), up_front xs ys u.1)

none_up : (xs : List (ℕ × Request)) → ((x : ℕ × Request) → In x xs → ⊥) → IsUp xs
none_up [] no_ = tt
none_up (x ∷ xs) no_ = absurd (no_ x (inl refl))

-- a place within a list is not empty, and one past it is
slice_some : (xs : List Request) (i : ℕ) → i < length xs → slice_get xs i ≡ None → ⊥
slice_some [] i lt e = absurd (omega (arith, lt))
slice_some (y ∷ ys) zero lt e = none_some y e
slice_some (y ∷ ys) (suc i) lt e = slice_some ys i (omega (arith, lt)) e

none_past : (xs : List Request) (n : ℕ) → length xs ≤ n → slice_get xs n ≡ None
none_past [] n past = refl
none_past (y ∷ ys) zero past = absurd (omega (arith, past))
none_past (y ∷ ys) (suc n) past = none_past ys n (omega (arith, past))

module _ (chain : ChainLaw) (keys_open : OpeningKeys) (doubts_open : OpeningDoubts) (o : Origin) (is : IsOrigin o) (is_layout : IsLayout (layout_of o.found)) (r : Recovered) (refused : Bool) (t : State) (group : ℕ → Group) (given : List Request)
    (groups : Groups (layout_of o.found) group) (ends : ℕ → Option (CoreEnd refused)) (all : (c : ℕ) → c < (layout_of o.found).cores → (x : CoreEnd refused) × (ends c ≡ Some x) × IsEnd o r refused t group given c x) where
  abbrev l : Geometry
  l = layout_of o.found

  abbrev pub e : Engine
  e = engine_of l t group given ends

  -- of one core
  module _ (c : ℕ) (low : c < l.cores) where
    abbrev x : CoreEnd refused
    x = (all c low).0

    abbrev at : ends c ≡ Some x
    at = (all c low).1

    abbrev X : IsEnd o r refused t group given c x
    X = (all c low).2

    doubts : KeepsDoubts x.seat x.first.view
    doubts = subst (λ (v : View). KeepsDoubts x.seat v) (sym view_is) (doubts_open x.seat o.found) where
      view_is : x.first.view ≡ view_of (opened x.seat.place o.found) x.seat.number
      view_is = X.sits.view ∙ (λ i. view_of (opened (sym X.place i) o.found) (sym X.number i))

    off : (w : WorksOff x.seat x.first x.last) × (w.fixed ≡ fixed_of_end x) × (w.joined ≡ joined_in x.seat refused x.first x.last x.works) × (w.given ≡ given_in x.seat refused x.first x.last x.works)
    off = (let C = chain x.seat refused x.first x.last X.at_work doubts x.works in (C.0, C.1, C.3, C.4))

    abbrev W : WorksOff x.seat x.first x.last
    W = off.0

    -- those that were accepted, those that wait, and those that did not join
    all_split : requests_to l c given ≡ W.accepted ++ (x.last.queue ++ x.later)
    all_split = sym X.dealt ∙ ap (λ q. q ++ x.later) (sym off.2 ∙ ap (λ q. q ++ W.joined) (sym X.queue) ∙ W.split) ∙ append_assoc W.accepted x.last.queue x.later

    own_key : (k : ℕ) → owner l k ≡ c → places.owner x.seat.place k ≡ x.seat.number
    own_key k own = (λ i. places.owner (X.place i) k) ∙ of_member l is_layout c k own ∙ sym X.number

  -- of one key
  module _ (k : ℕ) where
    abbrev c : ℕ
    c = owner l k

    abbrev low : c < l.cores
    low = owner_low l is_layout k

    abbrev y : CoreEnd refused
    y = x c low

    abbrev Y : IsEnd o r refused t group given c y
    Y = X c low

    abbrev fs : List Fixed
    fs = fixed_of k (fixed_of_end y)

    abbrev rest : List (ℕ × Request)
    rest = line_in (hands_at y.last) k ++ requests_for k (y.last.queue ++ y.later)

    nothing_first : line_in (hands_at y.first) k ≡ []
    nothing_first = (λ i. request_placed (Y.sits.place k refl i) ++ Y.sits.waits k refl i)

    pub split : requests_of k given ≡ map asked fs ++ rest
    split =
        let V = W c low in
        sym (requests_are l c k given refl) ∙ ap (requests_for k) (all_split c low) ∙ filter-append (λ (z : ℕ × Request). key_of z.1 == k) V.accepted (y.last.queue ++ y.later)
        ∙ ap (λ h. h ++ requests_for k (y.last.queue ++ y.later)) (ap (λ h. h ++ requests_for k V.accepted) (sym nothing_first) ∙ V.order k (own_key c low k refl) ∙ ap (λ h. map asked (fixed_of k h) ++ line_in (hands_at y.last) k) (off c low).1)
        ∙ append_assoc (map asked fs) (line_in (hands_at y.last) k) (requests_for k (y.last.queue ++ y.later))

    rising : IsUp (map asked fs ++ rest)
    rising = subst IsUp split (up k 0 given)

    -- an answer by its number
    answer_is : (z : ℕ × Request) → In z (requests_of k given) → e.answer z.0 ≡ answered t.stamp (with_number z.0 fs)
    answer_is z i =
        let a = in_requests k given z i in
        ap (answer_by l t.stamp ends z.0) a.0 ∙ ap (λ j. answered t.stamp (with_number z.0 (fixed_of j (fixed_in_end (ends (owner l j)))))) a.1 ∙ ap (λ d. answered t.stamp (with_number z.0 (fixed_of k (fixed_in_end d)))) (at c low)

    pub answer_there : (z : Fixed) → In z fs → e.answer z.number ≡ Some (record { reply = z.reply; stamp = t.stamp })
    answer_there z i =
        answer_is (asked z) (subst (λ h. In (asked z) h) (sym split) (in_front (asked z) (map asked fs) rest (in_map asked z fs i))) ∙ ap (answered t.stamp) (found_there fs rest rising z i)

    answer_none : (z : ℕ × Request) → In z rest → e.answer z.0 ≡ None
    answer_none z i =
        answer_is z (subst (λ h. In z h) (sym split) (in_back z (map asked fs) rest i)) ∙ ap (answered t.stamp) (found_nowhere fs rest rising z i)

    abbrev w : Group
    w = group (key_group l k)

    owner_there : places.owner w.place k ≡ member_of l c
    owner_there = ap (λ (p : places.Place). places.owner p k) (groups.place (key_group l k) (key_group_low l is_layout k)) ∙ of_member l is_layout c k refl

    -- where its answers led it
    pub key_is : KeyIs (start_of o k) (key_in w k) ((hands_at y.last).place k) y.last.worker.stopped (map replied fs)
    key_is =
        let V = W c low in
        let first : KeyIs (start_of o k) (key_view y.first.view k) ((hands_at y.first).place k) y.first.worker.stopped [] =
        subst (λ (v : View). KeyIs (start_of o k) (key_view v k) ((hands_at y.first).place k) y.first.worker.stopped []) (sym Y.sits.view)
        (subst (λ p. KeyIs (start_of o k) (key_view (view_of (opened (place_at l (group_of l c)) o.found) (member_of l c)) k) p y.first.worker.stopped []) (sym (Y.sits.place k refl))
        (subst (λ b. KeyIs (start_of o k) (key_view (view_of (opened (place_at l (group_of l c)) o.found) (member_of l c)) k) None b []) (sym Y.new.runs)
        (keys_open o is (member_of l c) k (of_member l is_layout c k refl)))) in
        subst (λ v. KeyIs (start_of o k) v ((hands_at y.last).place k) y.last.worker.stopped (map replied fs)) (key_shown w (member_of l c) k y.last.view Y.shown owner_there)
        (subst (λ h. KeyIs (start_of o k) (key_view y.last.view k) ((hands_at y.last).place k) y.last.worker.stopped (map replied (fixed_of k h))) (off c low).1
        (V.keys (start_of o k) k [] (own_key c low k refl) first))

    abbrev served : List Served
    served = map (served_at t.stamp) fs

    hands_are : hands_in (ends c) ≡ hands_at y.last
    hands_are = ap hands_in (at c low)

    line_is : line e k ++ requests_for k (e.backlog c) ≡ rest
    line_is = (λ i. (request_placed ((hands_are i).place k) ++ (hands_are i).waits k) ++ requests_for k (queue_in (at c low i)))

    pub key_stands : KeyStands (start_of o k) e k
    key_stands =
        let K = key_is in record {
          served = served;
          split = split ∙ (λ i. sym (served_asked t.stamp fs) i ++ sym line_is i);
          answers = served_all t.stamp (λ (z : Served). e.answer z.number ≡ Some z.answer) fs answer_there;
          waiting = subst (AllByRecursion (λ (z : ℕ × Request). e.answer z.0 ≡ None)) (sym line_is) (in_all (λ (z : ℕ × Request). e.answer z.0 ≡ None) rest answer_none);
          stamps = served_all t.stamp (λ (z : Served). z.answer.stamp ≤ t.stamp) fs (λ z i. omega arith);
          history = subst (λ ps. History (start_of o k) ps) (sym pairs_are) K.history;
          cell = ap (cell_of (start_of o k)) pairs_are ∙ K.cell;
          halted = λ stop. (let h = K.halted (sym (ap (stopped_of false) pairs_are) ∙ stop) in (ap (λ (h : Hands). h.stopped) hands_are ∙ h.0, ap (λ (h : Hands). h.place k) hands_are ∙ h.1));
          holds = record {
            posted = λ p there posted. K.holds.posted p (sym (ap (λ (h : Hands). h.place k) hands_are) ∙ there) posted;
            pending = λ p pends. elim (K.holds.pending p pends) [
              | inl out ↦ inl (out.0, ap (λ (h : Hands). h.place k) hands_are ∙ out.1, out.2)
              | inr doubt ↦ inr (doubt.0, ap (λ (h : Hands). h.place k) hands_are ∙ doubt.1, ap (λ (h : Hands). h.stopped) hands_are ∙ doubt.2)
            ];
          };
          pending = λ p pends. (let n = K.pending p pends in (n.0, n.1, (λ i. changes_on (start_of o k) (pairs_are i ++ posted_in ((hands_are i).place k))) ∙ n.2 ∙ (λ i. finished (sym pairs_are i) ++ n.0 ∷ n.1), n.3));
        } where
          pairs_are : pairs served ≡ map replied fs
          pairs_are = served_pairs t.stamp fs

  same_end : (c : ℕ) (low low' : c < l.cores) → x c low ≡ x c low'
  same_end c low low' = one_of (x c low) (x c low') (sym (at c low) ∙ at c low')

  -- what a core fixed is for a key of its own
  in_own : (c : ℕ) (low : c < l.cores) (z : Fixed) → In z (fixed_of_end (x c low)) → (owner l (key_of z.request) ≡ c) × In z (fs (key_of z.request))
  in_own c low z i =
      let V = W c low in
      let k = key_of z.request in
      let own : owner l k ≡ c = of_core l is_layout c k (sym (λ j. places.owner ((X c low).place j) k) ∙ V.own z (subst (In z) (sym (off c low).1) i) ∙ (X c low).number) in (
        own,
        subst (λ (d : ℕ). (low' : d < l.cores) → In z (fixed_of_end (x d low')) → In z (fs k)) own
            (λ low' i'. filter_in (λ (f : Fixed). key_of f.request == k) _ z (subst (λ (y : CoreEnd refused). In z (fixed_of_end y)) (same_end (owner l k) low' (owner_low l is_layout k)) i') (eq-eqb k k refl)) low i,
      )

  -- and is the answer with that number, to the request with it
  core_answer : (c : ℕ) (low : c < l.cores) (z : Fixed) → In z (fixed_of_end (x c low)) → e.answer z.number ≡ Some (record { reply = z.reply; stamp = t.stamp })
  core_answer c low z i = answer_there (key_of z.request) z (in_own c low z i).1

  core_asked : (c : ℕ) (low : c < l.cores) (z : Fixed) → In z (fixed_of_end (x c low)) → slice_get given z.number ≡ Some z.request
  core_asked c low z i =
      let k = key_of z.request in
      (in_requests k given (asked z) (subst (λ h. In (asked z) h) (sym (split k)) (in_front (asked z) (map asked (fs k)) (rest k) (in_map asked z (fs k) (in_own c low z i).1)))).0

  pub core_run : (c : ℕ) → c < l.cores → CoreRun o r refused e c
  core_run c low = let y = x c low in let Y = X c low in record {
    seat = y.seat;
    place = Y.place;
    number = Y.number;
    first = y.first;
    start = Y.start;
    recovered = Y.recovered;
    found = Y.found;
    new = Y.new;
    sits = Y.sits;
    piece = Y.piece;
    queue = Y.queue;
    at_work = Y.at_work;
    idle = Y.idle;
    last = y.last;
    works = y.works;
    ended = Y.ended;
    later = y.later;
    dealt = Y.dealt;
    whole = Y.whole;
    loads = Y.loads;
    shown = Y.shown;
    places = λ k own. ap (λ (d : ℕ). (hands_in (ends d)).place k) own ∙ ap (λ d. (hands_in d).place k) (at c low);
    waits = λ k own. ap (λ (d : ℕ). (hands_in (ends d)).waits k) own ∙ ap (λ d. (hands_in d).waits k) (at c low);
    stopped = ap (λ d. (hands_in d).stopped) (at c low);
    stock = ap (λ d. (hands_in d).stock) (at c low);
    backlog = ap queue_in (at c low);
    joined = Y.joined;
    answers = core_answer c low;
  }

  -- each answer is one that a core fixed
  abbrev IsFixed : ℕ → engines.Answer → Type 0
  IsFixed n a = (c : ℕ) × (low : c < l.cores) × (y : Fixed) × In y (fixed_of_end (x c low)) × (y.number ≡ n) × (y.reply ≡ a.reply)

  pub fixed_is : (n : ℕ) (a : engines.Answer) → e.answer n ≡ Some a → IsFixed n a
  fixed_is n a is = by (slice_get given n) is where
    by : (q : Option Request) → answer_by l t.stamp ends n q ≡ Some a → IsFixed n a
    by None is = absurd (none_some a (sym is))
    by (Some q) is = found (with_number n (fixed_of (key_of q) (fixed_in_end (ends (owner l (key_of q)))))) refl is where
      found : (f : Option Fixed) → with_number n (fixed_of (key_of q) (fixed_in_end (ends (owner l (key_of q))))) ≡ f → answered t.stamp f ≡ Some a → IsFixed n a
      found None at_none is = absurd (none_some a (sym is))
      found (Some y) there is =
          let k = key_of q in
          let low' = owner_low l is_layout k in
          let here : with_number n (fixed_of k (fixed_of_end (x (owner l k) low'))) ≡ Some y = ap (λ d. with_number n (fixed_of k (fixed_in_end d))) (sym (at (owner l k) low')) ∙ there in
          let F = found_in n (fixed_of k (fixed_of_end (x (owner l k) low'))) y here in
          let same : record { reply = y.reply; stamp = t.stamp } ≡ a = one_of (record { reply = y.reply; stamp = t.stamp }) a is in
          (owner l k, low', y, (in_filter (λ (f : Fixed). key_of f.request == k) (fixed_of_end (x (owner l k) low')) y F.0).0, F.1, ap (λ (b : engines.Answer). b.reply) same)

  pub all_ran : ((g : ℕ) → g < groups_in l → (steps : List (ℕ × Kind)) × Runs (opened (place_at l g) o.found) steps (group g)) → AllRan o r refused e
  unfolding core_run
  all_ran reached = record { layout = refl; groups = groups; reached = reached; cores = core_run; fixed = fixed_is }

  -- each part is licensed by its core's view
  rested : (c : ℕ) (low : c < l.cores) → HasRested (x c low).seat (x c low).last
  rested c low = has_rested (x c low).seat (x c low).last (X c low).work (X c low).ended

  part_is : (c : ℕ) (low : c < l.cores) → HasPart (x c low).seat.place (x c low).seat.number (x c low).last.region
  part_is c low =
      let y = x c low in
      let P = (X c low).piece in
      let frame : y.last.region.frame ≡ y.first.region.frame = chain_frame y.seat refused y.first y.works.path y.last y.works.leads in
      record {
        low = ap (λ (f : Frame). f.first) frame ∙ P.piece.between.first ∙ P.low;
        high = ap (λ (f : Frame). f.first + f.words) frame ∙ P.piece.between.end ∙ P.high;
      }

  pub licensed : IsTelling t → AllLicensed l group (cell_now t)
  licensed telling c low =
      let y = x c low in
      let Y = X c low in
      shown_licence (group (group_of l c)) (place_at l (group_of l c)) (member_of l c) y.last.view (cell_now t) Y.shown
      (subst (λ (m : ℕ). Licensed (place_at l (group_of l c)) m y.last.view (cell_now t)) Y.number
      (subst (λ (p : places.Place). Licensed p y.seat.number y.last.view (cell_now t)) Y.place
      (joined_licence y.last.region t y.seat.place y.seat.number y.last.view (part_is c low) Y.joined (rested c low).licensed telling)))

  -- What holds at its one moment.
  pub last_stands : t.frame.since ≡ t.stamp → (IsTelling t → HasSuperblock o.found (cell_now t)) → StandsNow o e
  unfolding key_stands
  last_stands since superblock = record {
    sound = is.sound;
    first = is.first;
    words = is.words;
    layout = refl;
    groups = groups;
    superblock = superblock;
    licensed = licensed;
    keys = key_stands;
    unasked = λ n past. ap (answer_by l t.stamp ends n) (none_past given n past);
    crash = λ s told from image may.
        let now : s ≡ t.stamp = (let low = told.since in let high = told.seen in omega (arith, low, high, since)) in
        let telling : IsTelling t = subst (IsTold t) now told in
        let shown = shows_groups o.region.frame.bytes o.found o.region.frame group (cell_now t) image (has_layout o.region.frame.bytes o.found is.sound) is.first is.words groups (superblock telling) (licensed telling) (subst (λ (n : ℕ). MayLeave o.region.frame (t.cells n) image) now may) in
        record {
          sound = shown.sound;
          layout = shown.layout;
          cells = λ k. shows_key (start_of o k) e k s o.region.frame.bytes image (key_stands k) (served_all t.stamp (λ (z : Served). z.answer.stamp ≤ s) (fs k) (λ z i. omega (arith, now))) shown;
        };
  }

  -- a slot that isn't empty has a change of its owner
  slot_empty : (g m s : ℕ) → g < groups_in l → m < l.group → (group g).slot m s ≡ Empty
  slot_empty g m s low member = by ((group g).slot m s) refl where
    L : Lawful (group g)
    L = groups.lawful g low

    c_low : g * l.group + m < l.cores
    c_low = member_core l is_layout g m low member

    g_is : group_of l (g * l.group + m) ≡ g
    g_is = div-mul-add g l.group m member

    m_is : member_of l (g * l.group + m) ≡ m
    m_is = mod-mul-add g l.group m member

    view_is : HasView (group g) m (x (g * l.group + m) c_low).last.view
    view_is = subst (λ (i : ℕ). HasView (group g) i (x (g * l.group + m) c_low).last.view) m_is (subst (λ (j : ℕ). HasView (group j) (member_of l (g * l.group + m)) (x (g * l.group + m) c_low).last.view) g_is (X (g * l.group + m) c_low).shown)

    none : (d : Entry) → PendsAt (group g) d (Some s) → places.owner (group g).place d.key ≡ m → ⊥
    none d pends own = (rested (g * l.group + m) c_low).slots d.key s d (sym (view_is.pending d.key own) ∙ pends)

    by : (z : Slot) → (group g).slot m s ≡ z → (group g).slot m s ≡ Empty
    by Empty at_z = at_z
    by (Posted d) at_z = absurd (let n = L.slots.posted_named m s d at_z in none d n.0 n.1)
    by (Done d h) at_z = absurd (let n = L.slots.done_named m s h d at_z in none d n.0 n.1)
    by (Failed d) at_z = absurd (let n = L.slots.failed_named m s d at_z in none d n.0 n.1)
    by Taken at_z = absurd (let b = L.slots.taken_by m s at_z in let n = L.slots.taken_named b.0 m s b.1 b.2 in none b.1 n.0 n.1)

  -- a key has no posted change
  none_posted : (k s : ℕ) (d : Entry) → (w k).pending k ≡ Some (record { entry = d; slot = Some s }) → ⊥
  none_posted k s d pends = (rested (c k) (low k)).slots k s d (sym ((Y k).shown.pending k (owner_there k)) ∙ pends)

  pub ceased : HasCeased e
  ceased = record {
    posted = λ k z there. by k z.posted z there refl;
    slots = λ g m s low member. slot_empty g m s low member;
    leads = λ g h low held. leads g h low held;
  } where
    by : (k : ℕ) (b : Bool) (z : Placed) → e.place k ≡ Some z → z.posted ≡ b → z.posted ≡ false
    by k false z there is = is
    by k true z there is =
        let P = (key_is k).holds.posted z (sym (ap (λ (h : Hands). h.place k) (hands_are k)) ∙ there) is in
        absurd (none_posted k P.1.1 P.1.0.entry (P.1.2 ∙ (λ i. Some (record { entry = P.1.0.entry; slot = P.1.3 i }))))

    leads : (g h : ℕ) → g < groups_in l → (group g).holder ≡ Some h → ⊥
    leads g h low held =
        let L = groups.lawful g low in
        let member : h < l.group = subst (λ (p : places.Place). h < places.members p) (groups.place g low) (L.looks.holder_member h held) in
        let low' = member_core l is_layout g h low member in
        let on : (group g).holds h ≡ true = (L.looks.holds_is h).1 held in
        let there : (group (group_of l (g * l.group + h))).holds (member_of l (g * l.group + h)) ≡ true = (λ i. (group (div-mul-add g l.group h member i)).holds (mod-mul-add g l.group h member i)) ∙ on in
        clash true refl (sym (sym (X (g * l.group + h) low').shown.holds ∙ there) ∙ (rested (g * l.group + h) low').holds)

  -- With memory everything is answered and nothing is under way.
  module _ (works : (c : ℕ) (low : c < l.cores) → (x c low).last.worker.winds_down ≡ false) where
    none_waits : (c : ℕ) (low : c < l.cores) → (x c low).last.queue ++ (x c low).later ≡ []
    none_waits c low = (λ i. (rested c low).queue (works c low) i ++ (X c low).whole (works c low) i)

    rest_none : (k : ℕ) → rest k ≡ []
    rest_none k =
        let R = rested (c k) (low k) in
        let on = works (c k) (low k) in
        (λ i. (request_placed (R.places on k i) ++ R.waits on k i) ++ requests_for k (none_waits (c k) (low k) i))

    all_answered : AllAnswered e
    all_answered n lt = by (slice_get given n) refl where
      by : (q : Option Request) → slice_get given n ≡ q → (a : engines.Answer) × (e.answer n ≡ Some a)
      by None none = absurd (slice_some given n lt none)
      by (Some q) there =
          let k = key_of q in
          let z : 0 + n ≡ n = omega arith in
          let asked_there : In (n, q) (requests_of k given) = filter_in (λ (y : ℕ × Request). key_of y.1 == k) (enumerate_from 0 given) (n, q) (subst (λ (i : ℕ). In (i, q) (enumerate_from 0 given)) z (in_enumerated 0 given n q there)) (eq-eqb k k refl) in
          let fixed_there : In (n, q) (map asked (fs k)) = subst (λ h. In (n, q) h) (split k ∙ ap (λ h. map asked (fs k) ++ h) (rest_none k) ∙ append-nil (map asked (fs k))) asked_there in
          let F = of_map asked (n, q) (fs k) fixed_there in
          (record { reply = F.0.reply; stamp = t.stamp }, ap (λ (y : ℕ × Request). e.answer y.0) F.2 ∙ answer_there k F.0 F.1)

    pub drained : IsDrained e
    drained = record {
      place = λ k. ap (λ (h : Hands). h.place k) (hands_are k) ∙ (rested (c k) (low k)).places (works (c k) (low k)) k;
      waits = λ k. ap (λ (h : Hands). h.waits k) (hands_are k) ∙ (rested (c k) (low k)).waits (works (c k) (low k)) k;
      backlog = λ c low. ap queue_in (at c low) ∙ none_waits c low;
      slots = λ g m s low member. slot_empty g m s low member;
    }

    pub is_done : Promised o e → IsDone o e
    is_done P = record { promised = P; answered = all_answered; drained = drained }

  -- A core has stopped only where a call of a piece failed.
  pub stop_cause : ((c : ℕ) (low : c < l.cores) → (x c low).first.region.faults ≡ o.region.faults) → HasStopped e → Rose o.region.faults t.faults
  stop_cause first_faults stop = elim (because stop.0 stop.1) [
    | inl rose ↦ rose
    | inr R ↦ from (R.1 (sym (ap (λ d. (hands_in d).stopped) (at stop.0 stop.1)) ∙ stop.2))
  ] where
    because : (c : ℕ) (low : c < l.cores) → Rose o.region.faults t.faults ⊎ (((x c low).last.view.flying ≡ []) × ((x c low).last.worker.stopped ≡ true → HasDoubt (x c low).seat.place (x c low).seat.number (x c low).last.view))
    because c low = let Y = X c low in let y = x c low in elim (ended_because y.seat refused y.first y.last Y.at_work Y.new.runs y.works Y.work Y.ended) [
      | inl rose ↦ inl (let first = first_faults c low in let last = Y.joined.faults in omega (arith, rose, first, last))
      | inr R ↦ inr R
    ]

    from : HasDoubt (x stop.0 stop.1).seat.place (x stop.0 stop.1).seat.number (x stop.0 stop.1).last.view → Rose o.region.faults t.faults
    from D =
        let g = group_of l stop.0 in
        let low = group_low l is_layout stop.0 stop.1 in
        let L = groups.lawful g low in
        let place = groups.place g low in
        let own : places.owner (group g).place D.0 ≡ member_of l stop.0 = (λ i. places.owner ((place ∙ sym (X stop.0 stop.1).place) i) D.0) ∙ D.2 ∙ (X stop.0 stop.1).number in
        let doubt : (group g).pending D.0 ≡ Some (record { entry = D.1; slot = None }) = (X stop.0 stop.1).shown.pending D.0 own ∙ D.3 in
        let lost = L.slots.in_doubt D.0 D.1 doubt in
        let member : lost.0 < l.group = subst (λ (p : places.Place). lost.0 < places.members p) place (L.logs.group lost.0 D.1 (inr lost.2)).0 in
        let low' = member_core l is_layout g lost.0 low member in
        let there : (group (group_of l (g * l.group + lost.0))).flying (member_of l (g * l.group + lost.0)) ≡ (group g).flying lost.0 = (λ i. (group (div-mul-add g l.group lost.0 member i)).flying (mod-mul-add g l.group lost.0 member i)) in
        elim (because (g * l.group + lost.0) low') [
          | inl rose ↦ rose
          | inr R ↦ absurd (subst (λ (ds : List Entry). In D.1 ds) (sym there ∙ (X (g * l.group + lost.0) low').shown.flying ∙ R.0) lost.2)
        ]

  -- the answers that the workers gave, all of which they handed over
  gave : (c : ℕ) (low : c < l.cores) → AreGiven (IsTelling (x c low).last.region) (fixed_of_end (x c low)) (x c low).outs
  gave c low =
      let A = (W c low).answers in
      let outs = (x c low).outs in
      let none : answers_of (x c low).first.worker ≡ [] = (X c low).new.answers.0 in
      let handed = ap (λ os. os ++ answers_of (x c low).last.worker) ((off c low).3 ∙ (X c low).handed) ∙ ap (λ os. outs ++ os) (X c low).none ∙ append-nil outs in
      let same : A.more ≡ outs = sym (A.added ∙ ap (λ os. os ++ A.more) none) ∙ handed in
      subst (λ os. AreGiven (IsTelling (x c low).last.region) (fixed_of_end (x c low)) os) same (subst (λ ys. AreGiven (IsTelling (x c low).last.region) ys A.more) (off c low).1 A.given)

  module _ (workers : List Worker) (blanks : List (Option Stamped)) (workers_are : (c : ℕ) (low : c < l.cores) → slice_get workers c ≡ Some (x c low).last.worker) (few : (c : ℕ) (w : Worker) → slice_get workers c ≡ Some w → c < l.cores) (places_are : length blanks ≡ length given) (blank : AreBlank blanks)
      (outs : List (List Answer)) (outs_are : (c : ℕ) (low : c < l.cores) → (x c low).outs ≡ slice_index_or outs c []) (outs_few : length outs ≤ l.cores) (first_kept : List (Option Stamped)) (T : TakenAs 0 0 (length given) outs blanks first_kept) where
    worker_is : (c : ℕ) (v : Worker) (at_v : slice_get workers c ≡ Some v) → v ≡ (x c (few c v at_v)).last.worker
    worker_is c v at_v = one_of v (x c (few c v at_v)).last.worker (sym at_v ∙ workers_are c (few c v at_v))

    -- the request with an answer's number
    answer_asked : (c : ℕ) (low : c < l.cores) (a : Answer) → In a (x c low).outs → (y : Fixed) × In y (fixed_of_end (x c low)) × IsGiven (IsTelling (x c low).last.region) y a
    answer_asked c low a i = fixed_for (IsTelling (x c low).last.region) (fixed_of_end (x c low)) (x c low).outs (gave c low) a i

    -- what was taken is kept, with the last stamp
    abbrev kept : List (Option Stamped)
    kept = stored T.taken t.stamp blanks

    pub kept_is : restamped t.stamp first_kept ≡ kept
    kept_is = ap (restamped t.stamp) T.kept ∙ restamped_stored T.taken 0 t.stamp blanks ∙ ap (stored T.taken t.stamp) (blank_restamped t.stamp blanks blank)

    pub keeps_all : (c : ℕ) (low : c < l.cores) (a : Answer) → In a (x c low).outs → kept_at kept a.number ≡ Some (stamped t.stamp a)
    keeps_all c low a i = taken_kept T.taken t.stamp blanks T.distinct (λ b j. (let less = (T.within b j).1 in omega (arith, less, places_are))) a
        (in_order (all_answers outs) T.taken T.all a (in_all_outs outs c a (subst (In a) (outs_are c low) i)))

    pub keeps_only : (n : ℕ) (y : Stamped) → kept_at kept n ≡ Some y → (c : ℕ) × (low : c < l.cores) × (a : Answer) × In a (x c low).outs × (a.number ≡ n)
    keeps_only n y is = elim (from_one T.taken t.stamp n blanks y is) [
      | inl there ↦ (let one = in_one outs there.0 (in_order T.taken (all_answers outs) (IsPermutation-sym _ _ T.all) there.0 there.1) in
          let less = one.1 in
          let low : one.0 < l.cores = omega (arith, less, outs_few) in
          (one.0, low, there.0, subst (In there.0) (sym (outs_are one.0 low)) one.2, there.2))
      | inr none ↦ absurd (none_some y (sym none ∙ blank_none blanks n blank))
    ]

    -- so they show the state's answers
    pub shows : (n : ℕ) → ShowsAnswer (IsTelling t) (slice_get given n) (e.answer n) (kept_at kept n)
    shows n = by (e.answer n) refl where
      by : (a : Option engines.Answer) → e.answer n ≡ a → ShowsAnswer (IsTelling t) (slice_get given n) (e.answer n) (kept_at kept n)
      by None none = subst (λ a. ShowsAnswer (IsTelling t) (slice_get given n) a (kept_at kept n)) (sym none) (subst (λ y. ShowsAnswer (IsTelling t) (slice_get given n) None y) (sym (nothing (kept_at kept n) refl)) tt) where
        nothing : (y : Option Stamped) → kept_at kept n ≡ y → kept_at kept n ≡ None
        nothing None at_y = at_y
        nothing (Some y) at_y =
            let k = keeps_only n y at_y in
            let f = answer_asked k.0 k.1 k.2 k.3 in
            absurd (none_some (record { reply = f.0.reply; stamp = t.stamp }) (sym (core_answer k.0 k.1 f.0 f.1) ∙ ap e.answer (sym f.2.number ∙ k.4) ∙ none))
      by (Some a) is =
          let f = fixed_is n a is in
          let y = f.2 in
          let g = given_for (IsTelling (x f.0 f.1).last.region) (fixed_of_end (x f.0 f.1)) (x f.0 f.1).outs (gave f.0 f.1) y f.3 in
          let at_kept = keeps_all f.0 f.1 g.0 g.1 in
          subst (λ (m : ℕ). ShowsAnswer (IsTelling t) (slice_get given m) (e.answer m) (kept_at kept m)) f.4
          (subst (λ o. ShowsAnswer (IsTelling t) o (e.answer y.number) (kept_at kept y.number)) (sym (core_asked f.0 f.1 y f.3))
          (subst (λ o. ShowsAnswer (IsTelling t) (Some y.request) o (kept_at kept y.number)) (sym (core_answer f.0 f.1 y f.3))
          (subst (λ o. ShowsAnswer (IsTelling t) (Some y.request) (Some (record { reply = y.reply; stamp = t.stamp })) o) (sym (sym (ap (kept_at kept) g.2.number) ∙ at_kept)) (record {
            stamp = refl;
            reply = elim g.2.reply [ inl same ↦ inl same | inr read ↦ inr (y.request, refl, read.0, read.1) ];
            known = λ telling. g.2.known ((X f.0 f.1).joined.tells telling);
            cause = g.2.cause;
            shows = (y.request, refl, g.2.shows);
          }))))

    gave_is : (c : ℕ) (low : c < l.cores) → given_in (x c low).seat refused (x c low).first (x c low).last (x c low).works ++ answers_of (x c low).last.worker ≡ (x c low).outs
    gave_is c low = ap (λ os. os ++ answers_of (x c low).last.worker) (X c low).handed ∙ ap (λ os. (x c low).outs ++ os) (X c low).none ∙ append-nil (x c low).outs

    pub keeps : KeepsAnswers o r refused e core_run kept
    unfolding core_run
    keeps = record {
      count = stored_long T.taken t.stamp blanks ∙ places_are;
      all = λ c low a i. keeps_all c low a (subst (In a) (gave_is c low) i);
      only = λ n y is. (let k = keeps_only n y is in (k.0, k.1, k.2, subst (In k.2) (sym (gave_is k.0 k.1)) k.3, k.4));
    }

    -- each was taken once
    pub once : TakesOnce o r refused e core_run kept
    unfolding core_run
    once = record {
      put = outs;
      few = outs_few;
      gave = λ c low. gave_is c low ∙ outs_are c low;
      taken = T.taken;
      all = T.all;
      distinct = T.distinct;
      blanks = blanks;
      blank = blank;
      stored_are = refl;
    }

    -- What the run comes to.
    module _ (s : State) (word : ℕ → ℕ) (end : End) (begins : BeginsAt s word o) (rejoined : Rejoined s t) (reached : (g : ℕ) → g < groups_in l → (steps : List (ℕ × Kind)) × Runs (opened (place_at l g) o.found) steps (group g))
        (superblock : IsTelling t → HasSuperblock o.found (cell_now t)) (first_faults : (c : ℕ) (low : c < l.cores) → (x c low).first.region.faults ≡ o.region.faults)
        (next : IsTelling s → ((c : ℕ) (low : c < l.cores) → TellsFrom s (x c low).last.region) → (latest : ℕ) → s.stamp ≤ latest → ((c : ℕ) (low : c < l.cores) → (x c low).last.region.stamp ≤ latest) → t.stamp ≤ counted latest)
        (in_all : Bool) (end_is : end ≡ end_by in_all (any_stopped workers)) (refusal : RefusalLaw) (moment : MomentLaw) (at_cut : CutLaw) (order : ℕ → List (ℕ × TrailStep))
        (made : (c : ℕ) (low : c < l.cores) → steps_of (order (group_of l c)) (member_of l c) ≡ (x c low).last.trail.steps)
        (order_shown : (g : ℕ) → g < groups_in l → (late early : List (ℕ × TrailStep)) → order g ≡ late ++ early → (w : Group) × IsShown (place_at l g) o.found early w)
        (memory : in_all ≡ true → (c : ℕ) (low : c < l.cores) → (x c low).last.worker.winds_down ≡ false)
        (short : in_all ≡ false → (c : ℕ) (low : c < l.cores) → (x c low).last.worker.winds_down ≡ true) where
      with_memory : end ≢ closings.Memory → in_all ≡ true
      with_memory not_memory = had_memory in_all (any_stopped workers) (λ is. not_memory (end_is ∙ is))

      promised : Promised o e
      promised = moment o e (last_stands rejoined.since superblock) (refusal o r refused e is (all_ran reached)) (stop_cause first_faults)

      has_stopped : end ≡ closings.RegionFault → HasStopped e
      has_stopped is_fault =
          let there = any_in (λ (w : Worker). w.stopped) workers (faulted in_all (any_stopped workers) (sym end_is ∙ is_fault)) in
          let low = few there.0 there.1 there.2 in
          (there.0, low, ap (λ d. (hands_in d).stopped) (at there.0 low) ∙ ap (λ (w : Worker). w.stopped) (sym (worker_is there.0 there.1 there.2)) ∙ there.3)

      goes_on : end ≡ closings.Complete → (c : ℕ) → c < l.cores → e.stopped c ≡ false
      goes_on is_complete c low = by (e.stopped c) refl where
        by : (b : Bool) → e.stopped c ≡ b → e.stopped c ≡ false
        by false at_b = at_b
        by true at_b = absurd (clash (any_stopped workers) (any_at (λ (w : Worker). w.stopped) workers c (x c low).last.worker (workers_are c low) (sym (ap (λ d. (hands_in d).stopped) (at c low)) ∙ at_b)) (completed in_all (any_stopped workers) (sym end_is ∙ is_complete)))

      pub ran : RanApart s word refused r given t end
      unfolding all_ran core_run
      ran = record {
        origin = o;
        last = e;
        begins = begins;
        rejoined = rejoined;
        region = refl;
        given = refl;
        ran = all_ran reached;
        next = next;
        inside = record {
          order = order;
          made = made;
          shown = order_shown;
          spots = λ c low tells late done all. spot_there (x c low).seat refused (x c low).first (x c low).works.path (x c low).last (x c low).works.leads tells late done done all (sym (append-nil done) ∙ ap (λ ks. done ++ ks) (sym (X c low).idle));
          ends = λ c low tells. spot_last (x c low).seat refused (x c low).first (x c low).works.path (x c low).last (x c low).works.leads tells;
          grows = λ c low y z at_y at_z k more later. spots_grow (x c low).seat refused y z (x c low).first (x c low).works.path (x c low).last (x c low).works.leads at_y at_z k more later;
          crash = λ cut image may. at_cut o r refused e is (last_stands rejoined.since superblock) (all_ran reached) order cut image may;
        };
        licensed = licensed;
        superblock = superblock;
        kept = kept;
        keeps = keeps;
        once = once;
        reports = reports_by t o e kept (listed_of kept) promised (stored_long T.taken t.stamp blanks ∙ places_are) shows refl (record { replies = refl; finishes = refl; refusals = refl });
        promised = promised;
        done = λ not_memory. is_done (memory (with_memory not_memory)) promised;
        ceased = λ memory. ceased;
        wound = λ is. short (lacked in_all (any_stopped workers) (sym end_is ∙ is));
        works = λ not_memory. memory (with_memory not_memory);
        fault = has_stopped;
        complete = goes_on;
      }

      -- at rest in the end
      last_rest : in_all ≡ true → (c : ℕ) (low : c < l.cores) → RestsWith (x c low).seat refused (requests_to l c (take (length given) given)) (x c low).first (x c low).last (x c low).works
      last_rest is c low =
          let y = x c low in
          let runs = memory is c low in
          let joined = joined_in y.seat refused y.first y.last y.works in
          let dealt = sym (append-nil joined) ∙ ap (λ ys. joined ++ ys) (sym ((X c low).whole runs)) ∙ (X c low).dealt in
          rests_last y.seat refused (requests_to l c (take (length given) given)) y.first y.last y.works (dealt ∙ ap (requests_to l c) (sym (take_all (length given) given (omega arith))))
          (record { work = (X c low).work; ended = (X c low).ended; runs = runs; doubts = (chain y.seat refused y.first y.last (X c low).at_work (doubts c low) y.works).2; none = (X c low).none })

      -- behind m of its requests all its cores rested
      abbrev pub AllRestAt : RanApart s word refused r given t end → ℕ → Type 0
      AllRestAt R m = (c : ℕ) (low : c < R.last.layout.cores) → RestsAt (R.ran.cores c low) m

      -- and where they rested
      pub ran_resting : (windows : ℕ) → ((c : ℕ) (low : c < l.cores) → RestsEach (x c low).seat refused windows (λ i. requests_to l c (take (i * WINDOW) given)) (x c low).first (x c low).last (x c low).works)
          → (R : RanApart s word refused r given t end) × ((i : ℕ) → i ≤ windows → AllRestAt R (i * WINDOW)) × (in_all ≡ true → AllRestAt R (length given)) × (R.kept ≡ kept)
      unfolding ran all_ran core_run
      ran_resting windows rests = (ran, (λ i less c low. rests c low i less), last_rest, refl)
