-- What is left to do of a worker, where only some of its fields differ.
use Rattle.std.proofs.Common.{◌≡◌, ⊎_elim, ℕ, ◌+◌, ◌<◌, ◌≤◌, Bool, true, false, cond, List, [], ◌∷◌, ◌++◌, length, Option, Some, None, refl, sym, ◌∙◌, ap, arith}
use Rattle.fs_model.specs.declared.model.Request.{Request}
use Rattle.fs_model.specs.declared.model.Reply.{Reply}
use Rattle.conflict_queue.specs.declared.types.Held.{Held}
use Rattle.conflict_queue.specs.Waiting.{TakesFirst, AddsLast}
use Rattle.log_entry.specs.declared.entry.Entry.{Entry}
use Rattle.batch_leader.specs.declared.taken.Taken.{Taken}
use Rattle.batch_leader.specs.TakenChanges.{taken_in}
use Rattle.core_worker.specs.declared.types.Leading.{Leading}
use Rattle.core_worker.specs.declared.types.Place.{Place}
use Rattle.core_worker.specs.declared.types.Place.TheVariants.{Free, Staged, Posted}
use Rattle.core_worker.specs.declared.worker.Worker.{Worker}
use Rattle.core_worker.specs.OwnPlaces.{place_at, is_free}
use Rattle.core_index.specs.Index.{LessRoom}
use Rattle.core_worker.specs.Beginning.{OnlyAnswers, OnlyStages, IsStaged}
use Rattle.core_worker.specs.Accepting.{IsAsBefore}
use Rattle.core_worker.specs.Finishing.{LetsGo, Settles}
use Rattle.core_worker.specs.Turns.{SameButLeading, UnpledgedAt, Unpledges, persisted_left, failed_left}
use Rattle.core_worker.specs.Left.{waits_left, staged_left, place_left, places_left, taken_left, leading_left, serves_left, left}
use Rattle.core_worker.proofs.ClearsLeft as clears
use Rattle.core_worker.proofs.LeftSums.{places_same, places_with}
use Rattle.core_worker.specs.CleaningLeft.{cleaning_most, clears_left}
use Rattle.std.proofs.lemmas.List.{length-append}

pub leading_way : (w x : Worker) → SameButLeading w x → left x + leading_left w.leading ≡ left w + leading_left x.leading
leading_way w x same = let e = ap left same in omega (arith, e)

pub taken_more : (ts : List Taken) (t : Taken) → taken_left (ts ++ t ∷ []) ≡ 6 + taken_left ts
taken_more ts t = let longer = length-append ts (t ∷ []) in omega (arith, longer)

pub persisted_way : (ts : List Taken) (l : Leading) → persisted_left ts l → leading_left l ≡ 0
persisted_way ts l left = ⊎_elim (λ more. ap leading_left more.1.2) (λ over. ap leading_left over.1.1) left

pub failed_way : (ts : List Taken) (l : Leading) → failed_left ts l → leading_left l ≡ 0
failed_way ts l left = ⊎_elim (λ more. ap leading_left more.1.2) (λ over. ap leading_left over.1.1) left

-- a place that pledges nothing any more counts as before
unpledged_way : (o : Option Entry) (x y : Place) → UnpledgedAt o x y → place_left y ≡ place_left x
unpledged_way None x y same = ap place_left same
unpledged_way (Some e) x y at = ap place_left at.2 ∙ sym (ap place_left at.1)

pub unpledges_way : (m : ℕ) (ts : List Taken) (w x : Worker) → length x.places.items ≡ length w.places.items → Unpledges m ts w x → places_left x.places.items ≡ places_left w.places.items
unpledges_way m ts w x count each = places_same w.places.items x.places.items count (λ s. unpledged_way (taken_in ts m s) (place_at w.places.items s) (place_at x.places.items s) (each s))

-- A change that is staged in a free place.
free_way : (x : Place) → is_free x ≡ true → place_left x ≡ 0
free_way Free e = refl
free_way (Staged number entry value) e = absurd (cc e)
free_way (Posted number key lines) e = absurd (cc e)

pub staged_way : (w x : Worker) (n : ℕ) (r : Request) → OnlyStages w x → IsStaged w x n r → left x ≤ left w + staged_left
staged_way w x n r only S =
    let same = ap left only in
    let places = places_with w.places.items x.places.items S.slot (Staged n S.entry S.value) S.placed S.lowest.1 in
    let was = free_way (place_at w.places.items S.slot) S.lowest.0 in
    omega (arith, same, places, was)

-- What is only answered; room for a record of its key may be given back.
pub answered_way : (w x : Worker) (k : ℕ) → OnlyAnswers w x → LessRoom w.index x.index k → left x ≤ left w
answered_way w x k only gives =
    let same = ap serves_left only in
    let kept = ap (λ (y : Worker). clears_left y.accepted y.cleaning y.standing x.index y.notices.items) only in
    let less = clears.stays w.accepted w.cleaning w.standing w.standing w.index x.index w.notices.items (omega arith) gives.untold in
    omega (arith, same, kept, less)

pub before_way : (w x : Worker) → IsAsBefore w x → left x ≤ left w
before_way w x B =
    let same = ap serves_left B.rest in
    let kept = ap (λ (y : Worker). clears_left y.accepted y.cleaning x.standing x.index y.notices.items) B.rest in
    let names = B.stands in
    let less = clears.stays w.accepted w.cleaning w.standing x.standing w.index x.index w.notices.items (omega (arith, names)) B.untold in
    omega (arith, same, kept, less)

-- A request that waits behind those of its key, and one that waits no more.
pub queued_way : (w x : Worker) (h : Held) → AddsLast w.queue x.queue h → x ≡ record w { queue = x.queue } → left x ≡ left w + waits_left
queued_way w x h adds only =
    let same = ap left only in
    let more = adds.together in
    omega (arith, same, more)

pub unqueued_way : (w x : Worker) (k : ℕ) (h : Held) → TakesFirst w.queue x.queue k h → x ≡ record w { queue = x.queue } → left x + waits_left ≡ left w
unqueued_way w x k h takes only =
    let same = ap left only in
    let less = takes.together in
    omega (arith, same, less)

-- A place that is let go.
pub lets_go_way : (w x : Worker) (slot : ℕ) (reply : Reply) → slot < length w.places.items → LetsGo w x slot reply → left x + place_left (place_at w.places.items slot) ≡ left w
lets_go_way w x slot reply lt L =
    let same = ap left L.rest in
    let places = places_with w.places.items x.places.items slot Free L.places lt in
    omega (arith, same, places)

pub settles_way : (w x : Worker) (e : Entry) (home : ℕ) → Settles w x e home → left x ≤ left w + 4
settles_way w x e home S =
    let same = ap serves_left S.rest in
    let kept = ap (λ (y : Worker). clears_left y.accepted y.cleaning x.standing x.index y.notices.items) S.rest in
    let names = S.stands in
    let less = clears.stays w.accepted w.cleaning w.standing x.standing x.index x.index w.notices.items (omega (arith, names)) (omega arith) in
    let more = clears.finishes w.accepted w.cleaning w.standing w.index x.index w.notices.items S.untold in
    omega (arith, same, kept, less, more)

-- That a request was accepted is noted.
pub noted_way : (w : Worker) → left (record w { accepted = true }) ≤ left w + cleaning_most
noted_way w = let more = clears.accepts w.accepted w.cleaning w.standing w.index w.notices.items in omega (arith, more)

-- A core that winds down has no more to do for that.
pub winds_less : (a b : Bool) → (a ≡ true → b ≡ true) → cond b 0 1 ≤ cond a 0 1
winds_less true b up = let down = ap {B = ℕ} (λ c. cond c 0 1) (up refl) in omega (arith, down)
winds_less false true up = omega arith
winds_less false false up = omega arith

-- The core stops.
pub stops_way : (w x : Worker) → x ≡ record w { stopped = true } → left x ≤ left w
stops_way w x only = let same = ap left only in by w.stopped refl same where
  by : (b : Bool) → w.stopped ≡ b → left x ≡ left (record w { stopped = true }) → left x ≤ left w
  by true e same = let now : cond w.stopped 0 1 ≡ 0 = ap {B = ℕ} (λ b. cond b 0 1) e in omega (arith, same, now)
  by false e same = let now : cond w.stopped 0 1 ≡ 1 = ap {B = ℕ} (λ b. cond b 0 1) e in omega (arith, same, now)
