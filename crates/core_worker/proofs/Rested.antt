-- An idle turn leaves its core at rest.
use Rattle.std.proofs.Common.{◌≡◌, ◌⊎◌, inl, inr, ⊎_elim, ℕ, ◌<◌, ◌≤◌, Bool, true, false, not, List, [], ◌∷◌, ◌++◌, Option, Some, None, Result, Ok, Err, refl, sym, ◌∙◌, ap, subst, arith}
use Rattle.std.specs.Prelude.{IfSome}
use Rattle.std.proofs.lemmas.Bool.{and_from}
use Rattle.log_entry.specs.declared.entry.Entry.{Entry}
use Rattle.group_laws.specs.declared.types.Pending.{Pending}
use Rattle.group_laws.specs.Places.{Place, owner}
use Rattle.group_laws.specs.State.{Group}
use Rattle.group_laws.specs.Invariant.{Lawful}
use Rattle.group_laws.specs.MemberViews.{View, view_of}
use Rattle.group_laws.specs.Runs.{Kind}
use Rattle.group_board.specs.Told.{Makes}
use Rattle.pm_region.specs.State.{State}
use Rattle.fs_model.specs.declared.memory.Memory.{Memory}
use Rattle.group_board.specs.Seats.{SeatAt}
use Rattle.batch_leader.specs.TakenChanges.{MatchBool}
use Rattle.core_worker.specs.declared.types.Turn.{Turn}
use Rattle.core_worker.specs.declared.types.Turn.TheVariants.{Moved, Idle}
use Rattle.core_worker.specs.Turning.{TurnedTo}
use Rattle.core_worker.specs.declared.types.Leading.{Leading}
use Rattle.core_worker.specs.declared.worker.Worker.{Worker}
use Rattle.core_worker.specs.OwnPlaces.{place_at, is_staged, is_posted, HasNone}
use Rattle.core_worker.specs.Status.{has_room, is_leading}
use Rattle.core_worker.specs.Ties.{Holds, LeadsAt, LeadsNothing}
use Rattle.core_worker.specs.Turns.{Moment, FindsPosted, PassesItems, PassesPost, Idles}
use Rattle.core_worker.specs.Loads.{LooksMade}
use Rattle.core_worker.specs.WorkerMoves.{hands_of}
use Rattle.core_worker.specs.Resting.{IsWithOthers, IsResting, HoldsSame, HasNoMore, OpenFor, LoadsOnly, AtRest, IfIdle, TriedIf, TriedAfter}
use Rattle.log_standing.specs.NameCounts.{StandingState}
use Rattle.group_laws.specs.declared.types.Seen.{Seen}
use Rattle.group_laws.specs.declared.types.Seen.TheVariants.{Holder}
use Rattle.core_worker.specs.Left.{NotMore, left}
use Rattle.core_worker.proofs.BegunHolds.{none_left}
use Rattle.core_worker.proofs.LeftWorkers.{leading_way}
use Rattle.core_worker.proofs.LeftLocks.{looked_not_more, not_more_still, busy_not_more, nothing_left}
use Rattle.core_worker.proofs.LeftOwn.{own_view}
use Rattle.core_worker.proofs.QuietMoves.{for_same}
use Rattle.core_worker.proofs.MailTurns.{passes_more, looks_join}
use Rattle.core_worker.proofs.ReadyLaws.{takes_low}
use Rattle.core_worker.proofs.SentTurns.{not_more_ready, passes_is, passes_takes}
use Rattle.core_worker.proofs.RestingLoads.{looks_only, looks_and_try}
use Rattle.core_worker.proofs.RestingSlots.{busy_slot, with_others}
use Rattle.core_worker.proofs.RestingPlaces.{slot_of, posted_of, none_waits, room_for_one}

-- the state is lawful, and place and view are what it has of the member
abbrev pub Agrees : Place → ℕ → View → Option Group → Type 0
Agrees p m v told = IfSome told (λ w. (p ≡ w.place) × (v ≡ view_of w m))

-- nothing was left staged
none_staged : (refused : Bool) (w : Worker) → PassesPost refused w → refused ≡ false → w.winds_down ≡ false → HasNone is_staged w.places.items
none_staged refused w passes asks works = ⊎_elim (λ none. none)
    (λ or. absurd (⊎_elim (λ yes. let both : true ≡ false = sym yes ∙ asks in cc both) (λ down. let both : true ≡ false = sym down ∙ works in cc both) or))
    passes

abbrev slot_or : Option Pending → Option ℕ
slot_or None = None
slot_or (Some d) = d.slot

module _ (p : Place) (refused : Bool) (m : ℕ) (a b : Moment) (seen : View) (P : PassesItems m a 8 seen) (post : PassesPost refused a.worker) (free : LeadsNothing b.worker) (y : Worker) (st : StandingState) (same_worker : b.worker ≡ record a.worker { index = y.index; notices = y.notices; standing = st; leading = b.worker.leading }) (H : Holds p m b.view b.worker) where
  pub leads_nothing : (b.view.holds ≡ false) × ((s t : ℕ) → b.view.taken s t ≡ None)
  leads_nothing = (let led = subst (λ (l : Leading). LeadsAt H.leads.seat b.view l) free.1 H.leads.at in (led.0, led.1))

  -- one that goes on, and isn't held back, has nothing to begin
  module _ (asks : refused ≡ false) (works : a.worker.winds_down ≡ false) where
    none : HasNone is_staged b.worker.places.items
    none t = ap (λ (w : Worker). is_staged (place_at w.places.items t)) same_worker ∙ none_staged refused a.worker post asks works t

    works_still : b.worker.winds_down ≡ false
    works_still = ap (λ (w : Worker). w.winds_down) same_worker ∙ works

    open_for : OpenFor p m (hands_of b.view b.worker) a.worker
    open_for all =
        let room : has_room a.worker ≡ true = sym (ap has_room same_worker) ∙ room_for_one p m b.view b.worker H none works_still all in
        and_from (not (is_leading a.worker.leading)) (has_room a.worker) (ap (λ (l : Leading). not (is_leading l)) P.free.1) room

    pub no_more : b.worker.in_hand ≡ None → HasNoMore p m (hands_of b.view b.worker) a.worker
    no_more hand = record {
      placed = λ k y own is. (posted_of p m b.view b.worker H none k y is).0;
      waits = λ k own is. none_waits p m b.view b.worker H none works_still hand k is;
      open_for = open_for;
    }

  -- The steps that it made: the loads, and the try of the lock, where an own change was found Posted.
  module _ (before mid after : Option Group) (looks : LooksMade before mid m seen) (tried : ((FindsPosted a.worker.places.items P.looked.found 8 → ⊥) × (after ≡ mid)) ⊎ Makes mid m Kind.Lock after b.view) where
    pub loads : LoadsOnly before after m
    loads = ⊎_elim (λ no. subst (λ (o : Option Group). LoadsOnly before o m) (sym no.1) (looks_only before mid m seen looks)) (λ try. looks_and_try before mid after m seen b.view looks try) tried

    module _ (entered : Agrees p m a.view before) (left : Agrees p m b.view after) (lawful : IfSome after (λ w. ∥ Lawful w ∥₁)) where
      slot_with : (k s : ℕ) (e : Entry) → owner p k ≡ m → b.view.pending k ≡ Some (record { entry = e; slot = Some s }) → s < 8 → is_posted (place_at b.worker.places.items s) ≡ true → IsWithOthers before after m s
      slot_with k s e own pends lt is = by before mid after looks tried entered left lawful where
        at : is_posted (place_at a.worker.places.items s) ≡ true
        at = sym (ap (λ (w : Worker). is_posted (place_at w.places.items s)) same_worker) ∙ is

        by : (before mid after : Option Group) → LooksMade before mid m seen → ((FindsPosted a.worker.places.items P.looked.found 8 → ⊥) × (after ≡ mid)) ⊎ Makes mid m Kind.Lock after b.view → Agrees p m a.view before → Agrees p m b.view after → IfSome after (λ w. ∥ Lawful w ∥₁) → IsWithOthers before after m s
        by None mid after looks tried entered left lawful = tt
        by (Some g) mid None looks tried entered left lawful = tt
        by (Some g) None (Some e') looks tried entered left lawful = absurd looks.1
        by (Some g) (Some h) (Some e') looks tried entered left lawful =
            let mine : owner e'.place k ≡ m = ap (λ (q : Place). owner q k) (sym left.0) ∙ own in
            let named : e'.pending k ≡ Some (record { entry = e; slot = Some s }) = sym (own_view e'.place m k (e'.pending k) None mine) ∙ sym (ap (λ (v : View). v.pending k) left.1) ∙ pends in
            ⊎_elim
            (λ no. let same : e' ≡ h = cc no.1 in
            with_others g h e' m looks.0 looks.1.0 a seen P entered.1 looks.1.1 (ap (λ (y : Group). y.slot) same) (λ found. absurd (no.0 found)) lawful k s e mine named lt at)
            (λ try. let busy = busy_slot h e' m try.0 (sym (ap (λ (v : View). v.holds) try.1) ∙ leads_nothing.0) in
            with_others g h e' m looks.0 looks.1.0 a seen P entered.1 looks.1.1 busy.0 (λ found. busy.1) lawful k s e mine named lt at)
            tried

      pub rests : IsResting p m before after b.view (hands_of b.view b.worker)
      rests = record {
        holds = leads_nothing.0;
        taken = leads_nothing.1;
        posted = λ k y own is posted d s pends slot.
            let at = slot_of p m b.view b.worker H k y is posted in
            let same : Some s ≡ Some at.0 = sym slot ∙ ap slot_or (sym pends ∙ at.3.1) in
            let here : s ≡ at.0 = cc same in
            subst (λ n. IsWithOthers before after m n) (sym here) (slot_with k at.0 at.3.0 own at.3.1 at.1 at.2);
      }

-- What it holds is what it held.
pub holds_same : (p : Place) (m : ℕ) (v u : View) (w x : Worker) → u.pending ≡ v.pending → u.blocks ≡ v.blocks → x.places ≡ w.places → x.queue ≡ w.queue → x.in_hand ≡ w.in_hand → HoldsSame p m (hands_of v w) (hands_of u x)
holds_same p m v u w x pending blocks same queue hand k own = (for_same v u x.places.items k pending blocks ∙ ap (λ ps. (hands_of v (record w { places = ps })).place k) same, (λ i. (hands_of u (record x { queue = queue i; in_hand = hand i })).waits k))

idle_view : {X : Type 0} (f : View → X) (s : State) (refused : Bool) (p : Place) (m : ℕ) (a b : Moment) (I : Idles s refused p m a b) → ((v : View) (xs : List Seen) → f (record v { looked = xs }) ≡ f v) → f b.view ≡ f a.view
idle_view f s refused p m a b I same =
    ⊎_elim (λ no. ap f no.1) (λ busy. ap f busy.1.2 ∙ same I.mid (I.mid.looked ++ Holder busy.1.0 ∷ [])) I.lock
    ∙ ap f I.before.looked.view ∙ same a.view (a.view.looked ++ I.before.looked.looks)

-- what a search leaves of the names that stand
abbrev searched : (s : State) (refused : Bool) (p : Place) (m : ℕ) (a b : Moment) → Idles s refused p m a b → StandingState
searched s refused p m a b I = I.looked.standing

-- nothing but what it leads, its index, what it has to tell and where a search found its names differs
idle_is : (s : State) (p : Place) (refused : Bool) (m : ℕ) (a b : Moment) (I : Idles s refused p m a b) → b.worker ≡ record a.worker { index = I.ready.index; notices = I.ready.notices; standing = searched s refused p m a b I; leading = b.worker.leading }
idle_is s p refused m a b I = I.same
    ∙ ap (λ (z : Worker). record z { leading = b.worker.leading }) I.begins.looks.same
    ∙ ap (λ (z : Worker). record z { standing = I.looked.standing; leading = b.worker.leading }) (passes_is p m a.worker I.ready I.before.looked.looks I.sending)

pub idle_same : (s : State) (p : Place) (refused : Bool) (m : ℕ) (a b : Moment) → Idles s refused p m a b → HoldsSame p m (hands_of a.view a.worker) (hands_of b.view b.worker)
idle_same s p refused m a b I =
    let is = idle_is s p refused m a b I in
    holds_same p m a.view b.view a.worker b.worker
    (idle_view (λ (v : View). v.pending) s refused p m a b I (λ v xs. refl)) (idle_view (λ (v : View). v.blocks) s refused p m a b I (λ v xs. refl))
    (ap (λ (w : Worker). w.places) is) (ap (λ (w : Worker). w.queue) is) (ap (λ (w : Worker). w.in_hand) is)

-- There is no more to do than before.
pub idles_not_more : (s : State) (refused : Bool) (p : Place) (m : ℕ) (a b : Moment) (I : Idles s refused p m a b) (before mid after : Option Group) → LooksMade before mid m I.mid → (after ≡ mid) ⊎ Makes mid m Kind.Lock after b.view → b.view.holds ≡ false → NotMore before after a.worker b.worker
idles_not_more s refused p m a b I before mid after looks tried free =
    let T = passes_takes p m a.worker I.ready I.before.looked.looks I.sending in
    let led : I.looked.leading ≡ a.worker.leading = ap (λ (w : Worker). w.leading) I.begins.looks.same ∙ ap (λ (w : Worker). w.leading) T.0.same in
    let nothing : LeadsNothing I.looked = (I.before.free.0, led ∙ I.before.free.1) in
    let low : left I.looked ≤ left a.worker = (let fewer = takes_low p a.worker I.ready T.0 T.1 in let same = none_left s I.ready I.looked I.begins in omega (arith, fewer, same)) in
    looked_not_more before mid after m looks.0 I.mid a.worker b.worker looks.1
    (not_more_ready mid after a.worker I.looked b.worker low
    (⊎_elim (λ no. subst (λ (o : Option Group). NotMore mid o I.looked b.worker) (sym no) (not_more_still mid I.looked b.worker
    (let same = leading_way I.looked b.worker I.same in let was = nothing_left I.looked nothing in let now = nothing_left b.worker I.free in omega (arith, same, was, now))))
    (λ try. busy_not_more mid after m b.view I.looked b.worker try free nothing I.free I.same)
    tried))

-- By what a turn answers.
at_rest : (s : State) (refused : Bool) (seat : SeatAt) (a b : Moment) (seen : View) (P : PassesItems seat.number a 8 seen) (posted : Bool) → MatchBool posted (FindsPosted a.worker.places.items P.looked.found 8) (FindsPosted a.worker.places.items P.looked.found 8 → ⊥) → (before mid after : Option Group) → LooksMade before mid seat.number seen → TriedIf posted seat.number mid after b.view
    → Idles s refused seat.place seat.number a b → Holds seat.place seat.number b.view b.worker → (b.worker.winds_down ≡ false → b.worker.in_hand ≡ None) → Agrees seat.place seat.number a.view before → Agrees seat.place seat.number b.view after → IfSome after (λ w. ∥ Lawful w ∥₁)
    → AtRest refused seat before after a.view b.view a.worker b.worker
at_rest s refused seat a b seen P posted found before mid after looks tried I H hand entered left lawful =
    let p = seat.place in
    let m = seat.number in
    let try = tried_as posted found tried in
    record {
      loads = loads p refused m a b seen P I.post I.free I.ready (searched s refused p m a b I) (idle_is s p refused m a b I) H before mid after looks try;
      same = idle_same s p refused m a b I;
      rests = rests p refused m a b seen P I.post I.free I.ready (searched s refused p m a b I) (idle_is s p refused m a b I) H before mid after looks try entered left lawful;
      no_more = λ asks works. no_more p refused m a b seen P I.post I.free I.ready (searched s refused p m a b I) (idle_is s p refused m a b I) H asks works (hand (ap (λ (w : Worker). w.winds_down) (idle_is s p refused m a b I) ∙ works));
    } where
      tried_as : (x : Bool) → MatchBool x (FindsPosted a.worker.places.items P.looked.found 8) (FindsPosted a.worker.places.items P.looked.found 8 → ⊥) → TriedIf x seat.number mid after b.view
          → ((FindsPosted a.worker.places.items P.looked.found 8 → ⊥) × (after ≡ mid)) ⊎ Makes mid seat.number Kind.Lock after b.view
      tried_as true f t = inr t
      tried_as false f t = inl (f, t)

pub rests_by : (r : Result Turn Memory) (s t : State) (refused : Bool) (seat : SeatAt) (a b : Moment) (seen : View) (P : PassesItems seat.number a 8 seen) (posted : Bool) → MatchBool posted (FindsPosted a.worker.places.items P.looked.found 8) (FindsPosted a.worker.places.items P.looked.found 8 → ⊥) → (before mid after : Option Group) → LooksMade before mid seat.number seen → IfIdle r (TriedAfter posted seat.number mid after seen b.view)
    → TurnedTo r s t refused before seat a b → Holds seat.place seat.number b.view b.worker → (b.worker.winds_down ≡ false → b.worker.in_hand ≡ None) → Agrees seat.place seat.number a.view before → Agrees seat.place seat.number b.view after → IfSome after (λ w. ∥ Lawful w ∥₁)
    → IfIdle r (AtRest refused seat before after a.view b.view a.worker b.worker)
rests_by (Ok Moved) s t refused seat a b seen P posted found before mid after looks tried turned H hand entered left lawful = tt
rests_by (Err memory) s t refused seat a b seen P posted found before mid after looks tried turned H hand entered left lawful = tt
rests_by (Ok Idle) s t refused seat a b seen P posted found before mid after looks T turned H hand entered left lawful =
    at_rest s refused seat a b T.mid (passes_more seat.number a 8 seen T.mid T.looks T.view P) posted found before T.between after (looks_join before mid T.between seat.number seen T.mid looks T.made) T.tried turned.1 H hand entered left lawful
