-- A request is given back, held or begun; where it was held or begun, that is noted.
use Rattle.std.proofs.Common.{◌≡◌, inl, ℕ, ◌+◌, ◌<◌, ◌≤◌, Bool, true, false, cond, List, [], Result, Ok, Err, OnErr, rules, refl, sym, ◌∙◌, ap, subst, arith}
use Rattle.pm_region.specs.State.{State, IsTelling}
use Rattle.fs_model.specs.declared.model.Request.{Request}
use Rattle.fs_model.specs.Cells.{key_of}
use Rattle.conflict_queue.specs.declared.types.Held.{Held}
use Rattle.conflict_queue.specs.Waiting.{AddsLast, held_with}
use Rattle.core_index.specs.Index.{room_at}
use Rattle.core_worker.specs.declared.worker.Worker.{Worker}
use Rattle.core_worker.specs.OwnPlaces.{is_busy}
use Rattle.core_worker.specs.IndexRoom.{HasJustRoom}
use Rattle.core_worker.specs.Plans.{may_stage}
use Rattle.core_worker.specs.Supplies.{HasKeptRoom}
use Rattle.core_worker.specs.Refusals.{HasAnswerRoom}
use Rattle.core_worker.specs.Status.{has_room}
use Rattle.core_worker.specs.Beginning.{KeepsTies, ByEachView, OnlyBegins, Begins, UsesRoom}
use Rattle.core_worker.specs.Serving.{KeepsLine}
use Rattle.core_worker.specs.Accepting.{IsAsBefore, HasTie, StaysTied, Prepared, wants_room, HoldsOrBeginsByEachView, AcceptMoves}
use Rattle.core_worker.specs.Left.{left, staged_left, waits_left, StartsFirst}
use Rattle.core_worker.proofs.Accepted.{room_place, room_node, leads_nothing, prepared_tie, held_tie, tied_aside, begun_tie, accepts_begun, prepared_room}
use Rattle.core_worker.proofs.AcceptMoves.{accept_moves, back_moves}
use Rattle.core_worker.proofs.JustRooms.{wanted_by, wanted_busy, stage_same, just_before, just_held, accepted_just, returned_just, accepted_roomy}
use Rattle.core_worker.proofs.LeftWorkers.{before_way, queued_way, noted_way}
use Rattle.core_worker.proofs.Noted.{tied_noted, accepts_noted, moves_noted}
use Rattle.core_worker.proofs.worker.Worker.accept.Goals as goal
use Rattle.core_worker.proofs.worker.Worker.accept.Goals.{then-is_busy+in_ok-hold, else-is_busy+in_ok-begin}

on_err : {X Y P : Type 0} (r : Result X Y) → P → OnErr r P
on_err (Ok x) p = tt
on_err (Err y) p = p

-- what is so of the worker before that is noted
record Took (s : State) (w b : Worker) (n : ℕ) (r : Request) : Type 0 where
  ties : StaysTied s w b (key_of r)
  accepts : HoldsOrBeginsByEachView s w b n r
  rule : HasKeptRoom w → HasKeptRoom b
  most : left b ≤ left w + waits_left
  starts : StartsFirst w → StartsFirst b
  just : HasJustRoom w → HasJustRoom b
  roomy : is_busy b.places.items (key_of r) ≡ false → (k : ℕ) → room_at b.index k ≤ room_at w.index k
  works : b.winds_down ≡ w.winds_down
  runs : b.stopped ≡ w.stopped

-- what is so of the worker where the request comes back
record GaveBack (s : State) (w u : Worker) (k : ℕ) : Type 0 where
  ties : StaysTied s w u k
  rule : HasKeptRoom w → HasKeptRoom u
  unchanged : IsAsBefore w u
  stays : AcceptMoves s w u k []
  starts : StartsFirst w → StartsFirst u
  just : HasJustRoom w → HasJustRoom u
  works : u.winds_down ≡ w.winds_down
  runs : u.stopped ≡ w.stopped

starts_before : (w u : Worker) → IsAsBefore w u → StartsFirst w → StartsFirst u
starts_before w u B = subst (λ (y : Worker). StartsFirst w → StartsFirst y) (sym B.rest) (λ h. h)

gave_back : (s : State) (w u : Worker) (k : ℕ) → IsAsBefore w u → (HasJustRoom w → HasJustRoom u) → GaveBack s w u k
gave_back s w u k B just = record {
  ties = prepared_tie s k w u B;
  rule = prepared_room w u B;
  unchanged = B;
  stays = back_moves s w u k B (prepared_tie s k w u B);
  starts = starts_before w u B;
  just = just;
  works = ap (λ (y : Worker). y.winds_down) B.rest;
  runs = ap (λ (y : Worker). y.stopped) B.rest;
}

module _ (s : State) (w u : Worker) (n : ℕ) (r : Request) (wanted : Bool) (B : IsAsBefore w u) (P : Prepared w u (key_of r) wanted) (is : wanted ≡ wants_room w r) (room : has_room w ≡ true) (works : w.winds_down ≡ false) (tied : HasTie s w (key_of r)) where
  abbrev key : ℕ
  key = key_of r

  same_busy : is_busy u.places.items key ≡ is_busy w.places.items key
  same_busy = ap (λ (y : Worker). is_busy y.places.items key) B.rest

  prepared : Prepared w u key (wants_room w r)
  prepared = subst (λ (b : Bool). Prepared w u key b) is P

  -- a record is wanted for one that waits
  held_took : (q : List Held) → is_busy u.places.items key ≡ true → AddsLast u.queue q (held_with n r) → Took s w (record u { queue = q }) n r
  held_took q busy adds = record {
    ties = held_tie s w u q n r B more was adds P.answers works (room_node w u B room);
    accepts = λ x T. (u, B, prepared, inl (was, adds, refl));
    rule = prepared_room w u B;
    most = (let before = before_way w u B in let queued = queued_way u (record u { queue = q }) (held_with n r) adds refl in omega (arith, before, queued));
    starts = starts_before w u B;
    just = just_held w u q (held_with n r) wanted B P one adds;
    roomy = λ idle. absurd (let both : true ≡ false = sym busy ∙ idle in cc both);
    works = ap (λ (y : Worker). y.winds_down) B.rest;
    runs = ap (λ (y : Worker). y.stopped) B.rest;
  } where
    was : is_busy w.places.items key ≡ true
    was = sym same_busy ∙ busy

    one : wanted ≡ true
    one = is ∙ wanted_busy (is_busy w.places.items key) (may_stage w r) was

    more : room_at u.index key ≡ room_at w.index key + 1
    more = let room = P.record_room in let is : cond wanted 1 0 ≡ 1 = ap (λ (b : Bool). cond {A = ℕ} b 1 0) one in omega (arith, room, is)

  begun_took : (b : Worker) → is_busy u.places.items key ≡ false → KeepsTies u b key → ByEachView s u key (λ v. Begins (IsTelling s) u b (v.cell key) n r) → ((m : ℕ) → HasAnswerRoom (m + 1) u → HasAnswerRoom m b) → (HasKeptRoom u → HasKeptRoom b) → OnlyBegins u b → UsesRoom u b key → ((k : ℕ) → is_busy u.places.items k ≡ true → is_busy b.places.items k ≡ true) → KeepsLine u b key → left b ≤ left u + staged_left → Took s w b n r
  begun_took b idle keeps begins answers rule only uses busy line most = record {
    ties = ties;
    accepts = accepts_begun s w u b n r B prepared was only uses begins;
    rule = λ h. rule (prepared_room w u B h);
    most = (let before = before_way w u B in omega (arith, most, before));
    starts = λ h. subst StartsFirst (sym only) (starts_before w u B h);
    just = accepted_just s w u b r wanted B P works was tied.0 tied.1 (ties tied.0 tied.1) only uses busy line;
    roomy = accepted_roomy w u b r wanted P uses;
    works = ap (λ (y : Worker). y.winds_down) only ∙ ap (λ (y : Worker). y.winds_down) B.rest;
    runs = ap (λ (y : Worker). y.stopped) only ∙ ap (λ (y : Worker). y.stopped) B.rest;
  } where
    was : is_busy w.places.items key ≡ false
    was = sym same_busy ∙ idle

    ties : StaysTied s w b key
    ties = begun_tie s key w u b B (ap (λ (y : Worker). y.winds_down) B.rest ∙ works) only idle uses keeps busy line answers P.answers (room_node w u B room)

pub returns-then-not-prepare : goal.returns-then-not-prepare
returns-then-not-prepare g c =
    let w = c.args.self.now in
    let u = c.prepare.new.self in
    let G = gave_back (g.R.Region.state c.args.region.now) w u (key_of c.args.request) c.prepare.ensures.before (just_before w u c.prepare.ensures.before (λ j. ap (λ es. room_at es j) (c.prepare.ensures.none c.if-not-prepare.true))) in
    record { ties = G.ties; accepts = tt; rule = G.rule; given_back = refl; unchanged = G.unchanged; moves = tt; stays = G.stays; most = tt; starts = G.starts; just = G.just; roomy = tt; works = G.works; runs = G.runs }

pub begin-requires-clause-tied : goal.begin-requires-clause-tied
begin-requires-clause-tied g c =
    let s = g.R.Region.state c.args.region.now in
    let k = key_of c.args.request in
    let x = c.requires.tied.0 in
    let T = prepared_tie s k c.args.self.now c.prepare.new.self c.prepare.ensures.before x c.requires.tied.1 in
    (x, tied_aside s c.prepare.new.self k x T, T.stands)

pub begin-requires-clause-nothing : goal.begin-requires-clause-nothing
begin-requires-clause-nothing g c runs =
    let n = leads_nothing (g.R.Region.state c.args.region.now) c.args.self.now (key_of c.args.request) c.requires.tied.0 c.requires.tied.1 c.requires.free in
    (n.0, ap (λ (x : Worker). x.leading) c.prepare.ensures.before.rest ∙ n.1)

pub begin-requires-clause-place : goal.begin-requires-clause-place
begin-requires-clause-place g c = room_place c.args.self.now c.prepare.new.self c.prepare.ensures.before c.requires.tied.1.holds.eight c.requires.room

pub begin-requires-clause-room : goal.begin-requires-clause-room
begin-requires-clause-room g c change =
    let w = c.args.self.now in
    let P = c.prepare.ensures.ready c.if-not-prepare.false in
    let may = sym (stage_same w c.prepare.new.self c.args.request c.prepare.ensures.before.records) ∙ change in
    let one : c.wants_room-wanted.result ≡ true = c.wants_room-wanted.ensures ∙ wanted_by (is_busy w.places.items (key_of c.args.request)) (may_stage w c.args.request) may in
    let more = P.record_room in
    let is : cond c.wants_room-wanted.result 1 0 ≡ 1 = ap (λ (b : Bool). cond {A = ℕ} b 1 0) one in
    subst (λ (k : ℕ). 0 < room_at c.prepare.new.self.index k) c.key-key.ensures (omega (arith, more, is))

-- there is room for one that waits
pub returns-in_err-hold : goal.returns-in_err-hold
returns-in_err-hold g c =
    let full = c.in_err-hold.ensures.full in
    let few = room_node c.args.self.now c.prepare.new.self c.prepare.ensures.before c.requires.room in
    absurd (omega (arith, full, few))

pub returns-in_err-begin : goal.returns-in_err-begin
returns-in_err-begin g c =
    let s = g.R.Region.state c.args.region.now in
    let w = c.args.self.now in
    let u = c.prepare.new.self in
    let r = c.args.request in
    let B = c.prepare.ensures.before in
    let P = subst (λ (k : ℕ). Prepared w u k c.wants_room-wanted.result) c.key-key.ensures (c.prepare.ensures.ready c.if-not-prepare.false) in
    let idle = ap (λ (y : Worker). is_busy y.places.items (key_of r)) (sym B.rest) ∙ ap (is_busy u.places.items) (sym c.key-key.ensures) ∙ sym c.is_busy.ensures ∙ c.if-is_busy.false in
    let just = returned_just w u r c.wants_room-wanted.result B P c.wants_room-wanted.ensures idle c.in_err-begin.ensures.gets in
    let G = subst (λ (y : Worker). GaveBack s w y (key_of r)) (sym c.in_err-begin.ensures.unchanged) (gave_back s w u (key_of r) B just) in
    let back = c.from_residual-in_err-begin.result in
    record { ties = G.ties; accepts = search rules; rule = G.rule; given_back = search rules; unchanged = on_err back G.unchanged; moves = search rules; stays = on_err back G.stays; most = search rules; starts = G.starts; just = G.just; roomy = search rules; works = G.works; runs = G.runs }

pub returns : goal.returns
returns g c =
    let s = g.R.Region.state c.args.region.now in
    let w = c.args.self.now in
    let u = c.prepare.new.self in
    let r = c.args.request in
    let n = c.args.number in
    let B = c.prepare.ensures.before in
    let P = subst (λ (k : ℕ). Prepared w u k c.wants_room-wanted.result) c.key-key.ensures (c.prepare.ensures.ready c.if-not-prepare.false) in
    let b = c.if-is_busy.self in
    let T : Took s w b n r = elim c.if-is_busy.branch [
      | then-is_busy+in_ok-hold way ↦ subst (λ (y : Worker). Took s w y n r) (sym way.self-is) (held_took s w u n r c.wants_room-wanted.result B P c.wants_room-wanted.ensures c.requires.room c.requires.works c.requires.tied way.hold.new.self (ap (is_busy u.places.items) (sym c.key-key.ensures) ∙ sym c.is_busy.ensures ∙ way.if-is_busy.true) way.in_ok-hold.ensures.added)
      | else-is_busy+in_ok-begin way ↦ subst (λ (y : Worker). Took s w y n r) (sym way.self-is) (begun_took s w u n r c.wants_room-wanted.result B P c.wants_room-wanted.ensures c.requires.room c.requires.works c.requires.tied way.begin.new.self (ap (is_busy u.places.items) (sym c.key-key.ensures) ∙ sym c.is_busy.ensures ∙ way.if-is_busy.false)
          way.in_ok-begin.ensures.keeps way.in_ok-begin.ensures.begins way.in_ok-begin.ensures.room way.begin.ensures.rule way.begin.ensures.rest way.in_ok-begin.ensures.uses way.in_ok-begin.ensures.busy way.in_ok-begin.ensures.line way.in_ok-begin.ensures.most)
    ] in
    record {
      ties = tied_noted s w b (key_of r) T.ties;
      accepts = accepts_noted s w b n r T.accepts;
      rule = T.rule;
      given_back = tt;
      unchanged = tt;
      moves = moves_noted s w b (key_of r) n r (accept_moves s w b n r c.requires.works T.ties T.accepts);
      stays = tt;
      most = (let took = T.most in let noted = noted_way b in omega (arith, took, noted));
      starts = T.starts;
      just = T.just;
      roomy = T.roomy;
      works = T.works;
      runs = T.runs;
    }
