-- What a turn that sends keeps, and what it finds of mailboxes on its way.
use Rattle.std.proofs.Common.{◌≡◌, ◌≢◌, ◌⊎◌, inl, inr, ⊎_elim, ℕ, ◌+◌, Bool, true, false, List, [], ◌∷◌, ◌++◌, Option, Some, Result, Ok, Err, refl, sym, ◌∙◌, ap, subst, arith, append_assoc, append-nil}
use Rattle.std.specs.Prelude.{slice_get, IfSome, IfOk, OnErr}
use Rattle.std.proofs.lemmas.Bool.{cases_lt}
use Rattle.fs_model.specs.declared.memory.Memory.{Memory}
use Rattle.pm_region.specs.State.{State}
use Rattle.pm_region.proofs.Clients.{started, all_kept}
use Rattle.store_image.specs.Facts.{In}
use Rattle.group_board.specs.declared.names.Notices.{Notices}
use Rattle.group_laws.specs.declared.types.Seen.{Seen}
use Rattle.group_laws.specs.declared.types.Seen.TheVariants.{Mail}
use Rattle.group_laws.specs.Places.{Place, core_of, members}
use Rattle.group_laws.specs.State.{Group}
use Rattle.group_laws.specs.MemberViews.{View, view_of}
use Rattle.group_laws.specs.Runs.{Kind}
use Rattle.group_laws.proofs.Clients.{In-append_left, In-append_right}
use Rattle.group_board.specs.Seats.{SeatAt}
use Rattle.group_board.specs.Told.{Makes}
use Rattle.group_board.specs.Trails.{TrailStep}
use Rattle.group_board.specs.Views.{after_find}
use Rattle.licence.specs.Licence.{Licensed, part_at, part_end}
use Rattle.batch_leader.specs.TurnSteps.{LoadsThenOne, OnlyLoads}
use Rattle.batch_leader.proofs.Clients.{no_steps, one_step, no_loads}
use Rattle.core_worker.specs.declared.worker.Worker.{Worker}
use Rattle.core_worker.specs.Loads.Load.{Mailbox}
use Rattle.core_worker.specs.Mails.{MailSteps}
use Rattle.core_worker.specs.Outbox.{HasSpare, TellsNothing}
use Rattle.core_worker.specs.Readying.{TakesDead, Readies, FindsFull, LooksOn, FindsBox, SendsTo, SendsBeside, SendsLowest, SendsNone, SendsShort, SendsFirst, SendSteps, StaysTiedFrom, IfOver, IfNoneSent}
use Rattle.core_worker.specs.Sending.{HasNames, IsReadyFor, KeepsTiesAt, SendsBox, TakesAt, WindsOnly}
use Rattle.core_worker.specs.Supplies.{HasKeptRoom}
use Rattle.core_worker.specs.Ties.{HoldsAt, StandsAt, LeadsNothing}
use Rattle.core_worker.specs.Turning.{MayServe, KeepsTurn}
use Rattle.core_worker.specs.Turns.{InOrderAt}
use Rattle.core_worker.specs.WorkerMoves.{stock_of}
use Rattle.core_worker.proofs.MailTurns.{looks_join}
use Rattle.core_worker.proofs.QuietMoves.{quiet_moves}
use Rattle.core_worker.proofs.ReadiedMail.{readied}
use Rattle.core_worker.proofs.ReadyLaws.{ready_none, ready_more, ready_beside, ready_same, takes_at, takes_on, takes_same}
use Rattle.core_worker.proofs.StockFacts.{still_spend, stock_small}
use Rattle.core_worker.proofs.TurnLaws.{nothing_fixed, keeps_looked, looked_holds, looked_stands, looked_order}
use Rattle.core_worker.proofs.UnderWay.{room_wound}

-- Loads of mailboxes, one after another.
pub looks_none : (before : Option Group) (m : ℕ) (p : Place) (v : View) → IfSome before (λ u. (p ≡ u.place) × (v ≡ view_of u m)) → LooksOn m before before v v []
looks_none before m p v agrees = record {
  view = ap (λ (xs : List Seen). record v { looked = xs }) (sym (append-nil v.looked));
  loads = [];
  made = no_steps before m p v agrees;
}

pub looks_more : (before mid after : Option Group) (m a b : ℕ) (full : Bool) (v u t : View) (looks : List Seen) → LooksOn m before mid v u looks → t ≡ after_find (Mail a b full) u → Makes mid m (Kind.LookMail a b) after t → LooksOn m before after v t (looks ++ Mail a b full ∷ [])
looks_more before mid after m a b full v u t looks L is made =
    let J = looks_join before mid after m u t (L.loads, L.made) (Mailbox a b ∷ [], one_step mid after m (Kind.LookMail a b) t made) in
    record {
      view = is ∙ ap (after_find (Mail a b full)) L.view ∙ ap (λ (xs : List Seen). record v { looked = xs }) (append_assoc v.looked looks (Mail a b full ∷ []));
      loads = J.0;
      made = J.1;
    }

pub looks_same : (before mid after : Option Group) (m : ℕ) (v u t : View) (looks : List Seen) → LooksOn m before mid v u looks → t ≡ u → after ≡ mid → LooksOn m before after v t looks
looks_same before mid after m v u t looks L same group =
    subst (λ (g : Option Group). LooksOn m before g v t looks) (sym group) (subst (λ (y : View). LooksOn m before mid v y looks) (sym same) L)

-- a worker with other names to tell
abbrev boxed : Worker → Worker → Worker
boxed w y = record w { index = y.index; notices = y.notices }

readied_is : (p : Place) (m upto : ℕ) (w y : Worker) → Readies p m upto w y → y ≡ boxed w y
readied_is p m upto w y R = R.takes.same ∙ (λ i. record w { index = y.index; notices = y.notices; winds_down = R.works i })

pub readied_free : (p : Place) (m upto : ℕ) (w y : Worker) → Readies p m upto w y → LeadsNothing w → LeadsNothing y
readied_free p m upto w y R nothing = (nothing.0, ap (λ (z : Worker). z.leading) R.takes.same ∙ nothing.1)

-- who stays tied so, and leads nothing still, may serve its own still
pub tied_may : (s : State) (seat : SeatAt) (v u : View) (w y : Worker) → StaysTiedFrom seat v u w y → LeadsNothing y → MayServe s seat v w → MayServe s seat u y
tied_may s seat v u w y T nothing M = record { tied = record { holds = T.holds; stands = T.stands s M.tied.stands; order = T.order }; nothing = nothing }

keeps_boxed : (seat : SeatAt) (s t : State) (before after : Option Group) (v u : View) (w y x : Worker) → KeepsTurn seat s t before after v u (boxed w y) x → KeepsTurn seat s t before after v u w x
keeps_boxed seat s t before after v u w y x K = record {
  moments = K.moments;
  outside = K.outside;
  holds = K.holds;
  stands = K.stands;
  order = K.order;
  rule = K.rule;
  moves = let M = K.moves in record { fixed = M.fixed; answers = M.answers; moves = M.moves };
}

-- what a turn keeps after names were made ready is kept from before
pub keeps_readied : (seat : SeatAt) (s t : State) (before after : Option Group) (v u : View) (upto : ℕ) (w y x : Worker) → Readies seat.place seat.number upto w y → KeepsTurn seat s t before after v u y x → KeepsTurn seat s t before after v u w x
keeps_readied seat s t before after v u upto w y x R K = keeps_boxed seat s t before after v u w y x (subst (λ (z : Worker). KeepsTurn seat s t before after v u z x) (readied_is seat.place seat.number upto w y R) K)

-- the core winds down
wound_room : (p : Place) (w y : Worker) → TakesDead p w y → y.winds_down ≡ true → HasKeptRoom w → HasKeptRoom y
wound_room p w y T winds kept = subst (λ (z : Worker). HasKeptRoom z) (sym (T.same ∙ (λ i. record w { index = y.index; notices = y.notices; winds_down = winds i }))) (room_wound w kept)

pub keeps_short : (seat : SeatAt) (s : State) (before : Option Group) (v : View) (w x : Worker) → IfSome before (λ u. (seat.place ≡ u.place) × (v ≡ view_of u seat.number)) → StandsAt s seat v w → TakesDead seat.place w x → x.winds_down ≡ true → KeepsTiesAt seat.place seat.number v w x → KeepsTurn seat s s before before v v w x
keeps_short seat s before v w x agrees S T winds K =
    let new = record w { index = x.index; notices = x.notices; winds_down = x.winds_down } in
    let L : KeepsTiesAt seat.place seat.number v w new = subst (λ (y : Worker). KeepsTiesAt seat.place seat.number v w y) T.same K in
    let R = L.stands s S in
    subst (λ (y : Worker). KeepsTurn seat s s before before v v w y) (sym T.same) (record {
      moments = started s (Licensed seat.place seat.number v) S.licensed;
      outside = all_kept s (part_at seat.place seat.number) (part_end seat.place seat.number);
      holds = L.holds;
      stands = R;
      order = L.order;
      rule = λ on kept. subst (λ (z : Worker). HasKeptRoom z) T.same (wound_room seat.place w x T winds kept);
      moves = nothing_fixed seat s s before before v v w new refl
          (quiet_moves seat.place seat.number s s before before v v w new L.holds (all_kept s (part_at seat.place seat.number) (part_end seat.place seat.number)) (started s (Licensed seat.place seat.number v) S.licensed) R.licensed ([], no_steps before seat.number seat.place v agrees) refl refl refl refl refl
          (λ on. still_spend seat.place.layout v.took v.flying v.took v.flying (stock_of w) (stock_of new) (record { chunks = omega arith; lines = omega arith; blocks = λ c. omega arith }) (stock_small seat.place seat.number v new L.holds) (omega arith))
          (λ k. refl) refl refl (λ e. inl e) (λ e. e));
    })

-- ties, from one view to the next
pub tied_still : (seat : SeatAt) (v : View) (w : Worker) → HoldsAt seat v w → InOrderAt seat v w → StaysTiedFrom seat v v w w
tied_still seat v w H O = record { holds = H; order = O; stands = λ s S. S }

pub tied_on : (seat : SeatAt) (v u t : View) (w y x : Worker) → StaysTiedFrom seat v u w y → StaysTiedFrom seat u t y x → StaysTiedFrom seat v t w x
tied_on seat v u t w y x A B = record { holds = B.holds; order = B.order; stands = λ s S. B.stands s (A.stands s S) }

pub tied_by : (seat : SeatAt) (v : View) (w x : Worker) → KeepsTiesAt seat.place seat.number v w x → StaysTiedFrom seat v v w x
tied_by seat v w x K = record { holds = K.holds; order = K.order; stands = K.stands }

tied_looked : (seat : SeatAt) (v u : View) (w x : Worker) (looked : Seen) → KeepsTiesAt seat.place seat.number v w x → LeadsNothing x → u ≡ after_find looked v → StaysTiedFrom seat v u w x
tied_looked seat v u w x looked K nothing is = record {
  holds = looked_holds seat v u x (v.looked ++ looked ∷ []) is nothing K.holds;
  order = looked_order seat v u x (v.looked ++ looked ∷ []) is K.order;
  stands = λ s S. looked_stands s seat v u x (v.looked ++ looked ∷ []) is (K.stands s S);
}

pub taken_free : (home to : ℕ) (w x : Worker) → TakesAt home to w x → LeadsNothing w → LeadsNothing x
taken_free home to w x X nothing = (nothing.0, ap (λ (z : Worker). z.leading) X.same ∙ nothing.1)

-- What is done for one member, by what the call that sends answers: all that awaited is ready.
module _ (seat : SeatAt) (to : ℕ) (before : Option Group) (v : View) (w y : Worker) (H : HoldsAt seat v w) (O : InOrderAt seat v w) (nothing : LeadsNothing w) (runs : w.stopped ≡ false) (works : w.winds_down ≡ false) (other : to ≢ seat.number) (X : TakesAt (core_of seat.place to) to w y) (I : IsReadyFor (core_of seat.place to) to w y) where
  abbrev home : ℕ
  home = core_of seat.place to

  on_now : y.winds_down ≡ false
  on_now = I.works ∙ works

  -- the same, with another list of the same boxes
  ties : (x : Worker) → TakesAt home to w x → (x.winds_down ≡ false → (n : Notices) → slice_get x.notices.items to ≡ Some n → HasSpare n) → KeepsTiesAt seat.place seat.number v w x
  ties x T spare = readied seat.place seat.number to v w H O runs nothing other x T (λ on. works) spare

  taken_full : (x : Worker) → (x ≡ record y { notices = x.notices }) → x.notices.items ≡ y.notices.items → TakesAt home to w x
  taken_full x same boxes = takes_same home to w y x X (same ∙ (λ i. record y { notices = x.notices; winds_down = sym (ap (λ (z : Worker). z.winds_down) same) i })) boxes

  taken_short : (x : Worker) → WindsOnly y x → TakesAt home to w x
  taken_short x W = takes_same home to w y x X W.0 W.1

  pub sent_to : (r : Result Bool Memory) (after : Option Group) (u : View) (x : Worker) → HasNames to y → IfOk r (λ sent. SendsBox sent seat.number to before after v u y x) → OnErr r ((u ≡ v) × (after ≡ before) × WindsOnly y x) → SendsTo r seat.place seat.number to before after v u w x
  sent_to (Ok true) after u x some S short = (y, X, I, record { box = S.0; some = some S.0.old S.0.was; view = S.1; made = S.2 })
  sent_to (Ok false) after u x some S short = (taken_full x S.0 S.1, ready_same home to w y x I S.0 S.1, inr (S.2, S.3))
  sent_to (Err memory) after u x some S short = (taken_short x short.2, short.2.2, short.0, short.1)

  pub sent_tied : (r : Result Bool Memory) (after : Option Group) (u : View) (x : Worker) → IfOk r (λ sent. SendsBox sent seat.number to before after v u y x) → IfNoneSent r (StaysTiedFrom seat v u w x)
  sent_tied (Ok true) after u x S = tt
  sent_tied (Ok false) after u x S =
      let T = taken_full x S.0 S.1 in
      tied_looked seat v u w x (Mail seat.number to true) (ties x T (λ on n is. (ready_same home to w y x I S.0 S.1).spare n is)) (taken_free home to w x T nothing) S.2
  sent_tied (Err memory) after u x S = tt

  pub sent_keeps : (r : Result Bool Memory) (s : State) (after : Option Group) (u : View) (x : Worker) → IfSome before (λ g. (seat.place ≡ g.place) × (v ≡ view_of g seat.number)) → StandsAt s seat v w → IfOk r (λ sent. sent ≡ true → KeepsTurn seat s s before after v u y x) → OnErr r ((u ≡ v) × (after ≡ before) × WindsOnly y x) → IfOver r (KeepsTurn seat s s before after v u w x)
  sent_keeps (Ok true) s after u x agrees S K short =
      keeps_boxed seat s s before after v u w y x (subst (λ (z : Worker). KeepsTurn seat s s before after v u z x) (X.same ∙ (λ i. record w { index = y.index; notices = y.notices; winds_down = I.works i })) (K refl))
  sent_keeps (Ok false) s after u x agrees S K short = tt
  sent_keeps (Err memory) s after u x agrees S K short =
      let T = taken_short x short.2 in
      let winds = short.2.2 in
      subst (λ (t : View). KeepsTurn seat s s before after v t w x) (sym short.0)
      (subst (λ (g : Option Group). KeepsTurn seat s s before g v v w x) (sym short.1)
      (keeps_short seat s before v w x agrees S (takes_at seat.place to w x T) winds (ties x T (λ on. absurd (let both : true ≡ false = sym winds ∙ on in cc both)))))

pub on_short : (r : Result Bool Memory) (X Y : Type 0) → (X → Y) → OnErr r X → OnErr r Y
on_short (Ok sent) X Y f x = tt
on_short (Err memory) X Y f x = f x

-- The steps of a call that sends, or had no memory.
pub sent_steps : (r : Result Bool Memory) (v u : View) (old new : List TrailStep) → IfOk r (λ sent. MailSteps sent v u old new) → OnErr r ((u ≡ v) × (new ≡ old)) → SendSteps r v u old new
sent_steps (Ok true) v u old new S short = S
sent_steps (Ok false) v u old new S short = S
sent_steps (Err memory) v u old new S short = subst (λ (t : View). OnlyLoads v t old new) (sym short.0) (subst (λ (xs : List TrailStep). OnlyLoads v v old xs) (sym short.1) (no_loads v old))

-- Below one member more every mailbox is full for which something waits.
module _ (p : Place) (m to : ℕ) (before mid after : Option Group) (v u t : View) (w y x : Worker) (N : SendsNone p m to before mid v u w y) where
  others_full : (looks : List Seen) → ((h : ℕ) → h ≢ to → slice_get x.notices.items h ≡ slice_get y.notices.items h) → ((s : Seen) → In s N.looks → In s looks) → (to ≢ m → (n : Notices) → slice_get x.notices.items to ≡ Some n → TellsNothing n ⊎ In (Mail m to true) looks) → FindsFull m (to + 1) x looks
  others_full looks others more here h n lt ne is = ⊎_elim
      (λ low. ⊎_elim (λ none. inl none) (λ full. inr (more (Mail m h true) full)) (N.full h n low ne (sym (others h (λ e. let same : h ≡ to = e in omega (arith, low, same))) ∙ is)))
      (λ high.
      let at : to ≡ h = omega (arith, lt, high) in
      subst (λ (j : ℕ). TellsNothing n ⊎ In (Mail m j true) looks) at (here (λ mine. ne (sym at ∙ mine)) n (ap (slice_get x.notices.items) at ∙ is)))
      (cases_lt h to)

  none_on : TakesAt (core_of p to) to y x → IsReadyFor (core_of p to) to y x → FindsBox m to x mid after u t → SendsNone p m (to + 1) before after v t w x
  none_on X I found = ⊎_elim
      (λ none. record {
        looks = N.looks;
        readies = ready_more p m to w y x N.readies X I;
        full = others_full N.looks X.others (λ s i. i) (λ ne n is. inl (none.0 n is));
        found = looks_same before mid after m v u t N.looks N.found none.1 none.2;
      })
      (λ full. record {
        looks = N.looks ++ Mail m to true ∷ [];
        readies = ready_more p m to w y x N.readies X I;
        full = others_full (N.looks ++ Mail m to true ∷ []) X.others (λ s i. In-append_left s N.looks (Mail m to true ∷ []) i) (λ ne n is. inr (In-append_right (Mail m to true) N.looks (Mail m to true ∷ []) (inl refl)));
        found = looks_more before mid after m m to true v u t N.looks N.found full.0 full.1;
      })
      found

  none_beside : to ≡ m → x ≡ y → t ≡ u → after ≡ mid → SendsNone p m (to + 1) before after v t w x
  none_beside mine same view group = record {
    looks = N.looks;
    readies = ready_beside p m to w y x N.readies mine same;
    full = others_full N.looks (λ h ne. ap (λ (z : Worker). slice_get z.notices.items h) same) (λ s i. i) (λ ne n is. absurd (ne mine));
    found = looks_same before mid after m v u t N.looks N.found view group;
  }

  pub none_more : (r : Result Bool Memory) → r ≡ Ok false → SendsBeside r p m to mid after u t y x → SendsNone p m (to + 1) before after v t w x
  none_more (Ok true) e S = absurd (cc e)
  none_more (Ok false) e S = ⊎_elim (λ o. none_on o.1.0 o.1.1 o.1.2) (λ o. none_beside o.0 o.2 o.3 o.4) S
  none_more (Err memory) e S = absurd (cc e)

  pub lowest_by : (r : Result Bool Memory) → r ≡ Ok true → SendsBeside r p m to mid after u t y x → SendsLowest p m before after v t w x
  lowest_by (Ok true) e S = ⊎_elim
      (λ o. record {
        mid = u;
        between = mid;
        looks = N.looks;
        to = to;
        other = o.0;
        ready = o.1.0;
        readies = ready_more p m to w y o.1.0 N.readies o.1.1 o.1.2;
        full = λ h n lt ne is. N.full h n lt ne (sym (o.1.1.others h (λ e. let same : h ≡ to = e in omega (arith, lt, same))) ∙ is);
        found = N.found;
        sends = o.1.3;
      })
      (λ o. absurd (let is = o.1 in cc is))
      S
  lowest_by (Ok false) e S = absurd (cc e)
  lowest_by (Err memory) e S = absurd (cc e)

  pub short_by : (r : Result Bool Memory) (memory : Memory) → r ≡ Err memory → SendsBeside r p m to mid after u t y x → SendsShort p m before after v t w x
  short_by (Ok sent) memory e S = absurd (cc e)
  short_by (Err lack) memory e S = ⊎_elim
      (λ o. record {
        looks = N.looks;
        takes = takes_on p w y x N.readies.takes (takes_at p to y x o.1.0);
        winds = o.1.1;
        found = looks_same before mid after m v u t N.looks N.found o.1.2 o.1.3;
      })
      (λ o. absurd (let is = o.1 in cc is))
      S

pub none_yet : (p : Place) (m : ℕ) (before : Option Group) (v : View) (w : Worker) → IfSome before (λ u. (p ≡ u.place) × (v ≡ view_of u m)) → SendsNone p m 0 before before v v w w
none_yet p m before v w agrees = record {
  looks = [];
  readies = ready_none p m w;
  full = λ h n lt ne is. absurd (omega (arith, lt));
  found = looks_none before m p v agrees;
}

-- What one member more keeps, after what was looked at and made ready before.
pub keeps_on : (seat : SeatAt) (s : State) (upto : ℕ) (before mid after : Option Group) (v u t : View) (w y x : Worker) → SendsNone seat.place seat.number upto before mid v u w y → KeepsTurn seat s s mid after u t y x → KeepsTurn seat s s before after v t w x
keeps_on seat s upto before mid after v u t w y x N K =
    keeps_looked seat s s before mid after v u t w x (v.looked ++ N.looks) N.found.view (N.found.loads, N.found.made) (keeps_readied seat s s mid after u t upto w y x N.readies K)

pub over_by : (r : Result Bool Memory) (X Y : Type 0) → (X → Y) → IfOver r X → IfOver r Y
over_by (Ok true) X Y f x = f x
over_by (Ok false) X Y f x = tt
over_by (Err memory) X Y f x = f x

-- By the answer of a call.
pub was_sent : (b : Bool) (p : Place) (m : ℕ) (before after : Option Group) (v u : View) (w x : Worker) → b ≡ true → SendsFirst (Ok b) p m before after v u w x → SendsLowest p m before after v u w x
was_sent true p m before after v u w x e S = S
was_sent false p m before after v u w x e S = absurd (cc e)

pub was_none : (b : Bool) (p : Place) (m : ℕ) (before after : Option Group) (v u : View) (w x : Worker) → b ≡ false → SendsFirst (Ok b) p m before after v u w x → SendsNone p m (members p) before after v u w x
was_none true p m before after v u w x e S = absurd (cc e)
was_none false p m before after v u w x e S = S

pub over_sent : (b : Bool) (X : Type 0) → b ≡ true → IfOver (Ok b) X → X
over_sent true X e x = x
over_sent false X e x = absurd (cc e)

pub none_sent : (b : Bool) (X : Type 0) → b ≡ false → IfNoneSent (Ok b) X → X
none_sent true X e x = absurd (cc e)
none_sent false X e x = x

pub steps_sent : (b : Bool) (v u : View) (old new : List TrailStep) → b ≡ true → SendSteps (Ok b) v u old new → LoadsThenOne v u old new
steps_sent true v u old new e S = S
steps_sent false v u old new e S = absurd (cc e)

pub steps_none : (b : Bool) (v u : View) (old new : List TrailStep) → b ≡ false → SendSteps (Ok b) v u old new → OnlyLoads v u old new
steps_none true v u old new e S = absurd (cc e)
steps_none false v u old new e S = S
