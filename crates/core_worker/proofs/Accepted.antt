-- A request is accepted, whatever view the worker is tied to.
use Rattle.std.proofs.Common.{◌≡◌, ℕ, suc, ltb, ◌+◌, ◌<◌, List, [], ◌∷◌, length, true, false, inr, refl, sym, ◌∙◌, ap, subst, arith}
use Rattle.std.proofs.lemmas.Bool.{and_parts, ltb-true}
use Rattle.pm_region.specs.State.{State, IsTelling}
use Rattle.fs_model.specs.declared.model.Request.{Request}
use Rattle.fs_model.specs.Cells.{key_of}
use Rattle.conflict_queue.specs.declared.types.Held.{Held}
use Rattle.conflict_queue.specs.Waiting.{AddsLast, held_with}
use Rattle.core_index.specs.Index.{room_at}
use Rattle.batch_leader.specs.declared.batch_buffer.BatchBuffer.{BatchBuffer}
use Rattle.core_worker.specs.declared.types.Leading.{Leading}
use Rattle.core_worker.specs.declared.types.Leading.TheVariants as leads
use Rattle.core_worker.specs.declared.types.Place.{Place}
use Rattle.core_worker.specs.declared.types.Place.TheVariants.{Free, Staged, Posted}
use Rattle.core_worker.specs.declared.worker.Worker.{Worker}
use Rattle.core_worker.specs.OwnPlaces.{place_at, is_busy}
use Rattle.core_worker.specs.Status.{any_free, has_room, is_leading}
use Rattle.core_worker.specs.Supplies.{HasKeptRoom}
use Rattle.core_worker.specs.Ties.{Tie, LeadsAt, LeadsNothing}
use Rattle.core_worker.specs.Beginning.{HasFree, IsHeldAside, KeepsTies, ByEachView, OnlyBegins, Begins, UsesRoom}
use Rattle.core_worker.specs.Accepting.{IsAsBefore, Prepared, IsTied, StaysTied, wants_room, HoldsOrBeginsByEachView}
use Rattle.core_worker.specs.Refusals.{HasAnswerRoom}
use Rattle.core_worker.specs.Serving.{KeepsLine}
use Rattle.core_worker.proofs.UnderWay.{room_counted}
use Rattle.core_worker.proofs.AcceptedOrder.{order_before, order_held, order_begun_now}
use Rattle.core_worker.proofs.Beginnings.{aside_of, before_holds, held_holds, prepared_stands, begun_holds}

-- what room says
free_in : (ps : List Place) → any_free ps ≡ true → (s : ℕ) × (s < length ps) × (place_at ps s ≡ Free)
free_in [] h = absurd (cc h)
free_in (Free ∷ ps) h = (0, omega (arith), refl)
free_in (Staged n e u ∷ ps) h = let r = free_in ps h in (suc r.0, (let l = r.1 in omega (arith, l)), r.2)
free_in (Posted n k l ∷ ps) h = let r = free_in ps h in (suc r.0, (let l = r.1 in omega (arith, l)), r.2)

pub room_place : (w u : Worker) → IsAsBefore w u → length w.places.items ≡ 8 → has_room w ≡ true → HasFree u.places.items
room_place w u B eight room =
    let r = free_in w.places.items (and_parts (any_free w.places.items) (ltb (length w.queue) 64) room).0 in
    subst (λ (y : Worker). HasFree y.places.items) (sym B.rest) (r.0, (let l = r.1 in omega (arith, l, eight)), r.2)

pub room_node : (w u : Worker) → IsAsBefore w u → has_room w ≡ true → length u.queue < 64
room_node w u B room =
    let same = ap (λ (y : Worker). length y.queue) B.rest in
    let few = ltb-true (length w.queue) 64 (and_parts (any_free w.places.items) (ltb (length w.queue) 64) room).1 in
    omega (arith, same, few)

nothing_led : (x : Tie) (l : Leading) → (s : _) → LeadsAt s x.view l → is_leading l ≡ false → (b : BatchBuffer) × (l ≡ leads.Nothing b)
nothing_led x (leads.Nothing b) s h e = (b, refl)
nothing_led x (leads.Collecting c) s h e = absurd (cc e)
nothing_led x (leads.Batch b) s h e = absurd (cc e)
nothing_led x (leads.Persisted y) s h e = absurd (cc e)
nothing_led x (leads.Failed y) s h e = absurd (cc e)
nothing_led x leads.Between s h e = absurd h

pub leads_nothing : (s : State) (w : Worker) (k : ℕ) (x : Tie) → IsTied s w k x → is_leading w.leading ≡ false → LeadsNothing w
leads_nothing s w k x T e = nothing_led x w.leading T.holds.leads.seat T.holds.leads.at e

-- after memory was taken for it
pub prepared_tie : (s : State) (k : ℕ) (w u : Worker) → IsAsBefore w u → StaysTied s w u k
prepared_tie s k w u B x T = record { holds = before_holds x.place x.number x.view w u B T.holds; stands = prepared_stands s x.place x.number x.view w u B.rest B.names T.stands; own = T.own; order = order_before x.place x.number x.view w u B T.holds T.order }

pub tied_aside : (s : State) (w : Worker) (k : ℕ) (x : Tie) → IsTied s w k x → IsHeldAside w k x
tied_aside s w k x T = record { holds = aside_of x.place x.number x.view w T.holds; own = T.own }

-- after it was held
pub held_tie : (s : State) (w u : Worker) (q : List Held) (n : ℕ) (r : Request) → IsAsBefore w u → room_at u.index (key_of r) ≡ room_at w.index (key_of r) + 1 → is_busy w.places.items (key_of r) ≡ true → AddsLast u.queue q (held_with n r) → HasAnswerRoom 73 u → w.winds_down ≡ false → length u.queue < 64 → StaysTied s w (record u { queue = q }) (key_of r)
held_tie s w u q n r B more busy adds room works few x T =
    let S = prepared_stands s x.place x.number x.view w u B.rest B.names T.stands in
    record {
      holds = held_holds x.place x.number x.view w u q (held_with n r) B more busy adds T.holds;
      stands = record { lies = S.lies; licensed = S.licensed; landed = S.landed; log = S.log; free = S.free; due = S.due; cut = S.cut; names = S.names };
      own = T.own;
      order = order_held x.place x.number x.view w u q B room (T.order.hand works) few adds.together T.holds T.order;
    }

-- after it was begun
pub begun_tie : (s : State) (k : ℕ) (w u b : Worker) → IsAsBefore w u → u.winds_down ≡ false → OnlyBegins u b → is_busy u.places.items k ≡ false → UsesRoom u b k → KeepsTies u b k → ((j : ℕ) → is_busy u.places.items j ≡ true → is_busy b.places.items j ≡ true) → KeepsLine u b k → ((n : ℕ) → HasAnswerRoom (n + 1) u → HasAnswerRoom n b) → HasAnswerRoom 73 u → length u.queue < 64 → StaysTied s w b k
begun_tie s k w u b B works rest idle uses keeps busy line less room few x T =
    let U = prepared_tie s k w u B x T in
    let K = keeps x (tied_aside s u k x U) in
    let holds = begun_holds x.place x.number x.view u b U.holds works rest same_room K.holds busy in
    record { holds = holds; stands = K.stands s U.stands; own = T.own; order = order_begun_now x.place x.number x.view w u b k B room (T.order.hand (sym (ap (λ (z : Worker). z.winds_down) B.rest) ∙ works)) few rest uses.records line less T.holds holds T.order }
  where
    same_room : (j : ℕ) → is_busy u.places.items j ≡ true → room_at b.index j ≡ room_at u.index j
    same_room j on = uses.others j (λ e. (let both : true ≡ false = sym on ∙ ap (is_busy u.places.items) e ∙ idle in cc both))

pub accepts_begun : (s : State) (w u b : Worker) (n : ℕ) (q : Request) → IsAsBefore w u → Prepared w u (key_of q) (wants_room w q) → is_busy w.places.items (key_of q) ≡ false → OnlyBegins u b → UsesRoom u b (key_of q) → ByEachView s u (key_of q) (λ v. Begins (IsTelling s) u b (v.cell (key_of q)) n q) → HoldsOrBeginsByEachView s w b n q
accepts_begun s w u b n q B P idle rest uses begins x T =
    let U = prepared_tie s (key_of q) w u B x T in
    (u, B, P, inr (idle, rest, begins x (tied_aside s u (key_of q) x U) U.stands, uses))

-- what memory was taken for pledges nothing
pub prepared_room : (w u : Worker) → IsAsBefore w u → HasKeptRoom w → HasKeptRoom u
prepared_room w u B h = subst (λ (x : Worker). HasKeptRoom x) (sym B.rest) (room_counted w u.standing B.names.tally h)
