-- A batch of copies keeps the room rule: what was pledged had room where it went, and what is left has.
use Rattle.std.proofs.Common.{◌≡◌, inl, ⊎_elim, ℕ, ◌+◌, ◌*◌, ◌≤◌, ◌<◌, ltb, Bool, true, false, List, [], ◌∷◌, length, Option, Some, None, refl, sym, ◌∙◌, ap, subst, arith}
use Rattle.std.specs.Prelude.{is_some}
use Rattle.std.specs.List.{AllByRecursion}
use Rattle.std.proofs.lemmas.Bool.{ltb-true, ltb-false}
use Rattle.chunk_map.specs.Layouts.{payload_lines, numbers}
use Rattle.chunk_map.proofs.Clients.{numbers_of, chunk_words_whole}
use Rattle.core_log.specs.Log.{IsOwn, room_of}
use Rattle.core_room.specs.RoomRule.{KeepsRoomAtCleaning, pledged}
use Rattle.lazy_alloc.specs.Sets.{Sets, chunk_is_free, free_chunk_count}
use Rattle.log_cleaner.specs.declared.types.Victim.{Victim}
use Rattle.group_laws.specs.Places.{Place}
use Rattle.group_laws.specs.MemberViews.{View}
use Rattle.batch_leader.specs.Persisting.{opened_for}
use Rattle.core_worker.specs.declared.types.Cleaning.{Cleaning}
use Rattle.core_worker.specs.declared.types.Cleaning.TheVariants.{Copying}
use Rattle.core_worker.specs.declared.types.Place as places
use Rattle.core_worker.specs.declared.types.Place.TheVariants.{Free, Staged, Posted}
use Rattle.core_worker.specs.declared.worker.Worker.{Worker}
use Rattle.core_worker.specs.CopyItems.{CopiesOn, LeavesCopies, needs_chunk}
use Rattle.core_worker.specs.CopyTurns.{left_of}
use Rattle.core_worker.specs.OwnPlaces.{own, lines_in, place_at}
use Rattle.core_worker.specs.Refusals.{IsCounted}
use Rattle.core_worker.specs.Supplies.{supply_of, under_way, left_in, no_more_than, rest, KeepsRule, HasKeptRoom}
use Rattle.core_worker.specs.TakenChunks.{TakesChunkIf}
use Rattle.core_worker.specs.Ties.{Holds}
use Rattle.core_worker.proofs.BatchRoom.{few_lines}
use Rattle.core_worker.proofs.CleaningKept.{runs_way}
use Rattle.core_worker.proofs.CopiedHolds as copied
use Rattle.core_worker.proofs.CopiedLog.{room_open, batch_lines, none_lines, room_copied, room_opened}
use Rattle.core_worker.proofs.DoomedHolds as cleaning
use Rattle.core_worker.proofs.Pointers.{each, counted}
use Rattle.core_worker.proofs.UnderWay.{counted_rest}
use Rattle.core_worker.proofs.Writing.{none_counted}

-- eight places pledge forty lines at most
lines_few : (x : places.Place) → IsCounted x → lines_in x ≤ 5
lines_few Free is = omega arith
lines_few (Staged number entry value) is = few_lines entry is
lines_few (Posted number key lines) is = is

own_few : (ps : List places.Place) → AllByRecursion IsCounted ps → own ps ≤ 5 * length ps
own_few [] all = omega arith
own_few (x ∷ ps) all = (let here = lines_few x all.0 in let rest = own_few ps all.1 in omega (arith, here, rest))

pub own_forty : (p : Place) (m : ℕ) (v : View) (w : Worker) → Holds p m v w → own w.places.items ≤ 40
own_forty p m v w H =
    let eight = H.eight in
    let all = each w.places.items (λ s lt. let low : s < 8 = omega (arith, lt, eight) in counted p m v s (place_at w.places.items s) (H.placed s low)) in
    let few = own_few w.places.items all in
    omega (arith, eight, few)

-- What the room rule says of a worker that copies.
module _ (p : Place) (m : ℕ) (v : View) (w : Worker) (victim : Victim) (first : Bool) (H : Holds p m v w) (way : under_way w ≡ Copying victim first) (a : Sets) where
  scarce : free_chunk_count w.allocator ≤ 1
  scarce = (cleaning.cleans p m v w H victim first way).scarce

  rested : rest (under_way w) ≡ rest (Copying victim first)
  rested = ap rest way

  -- where no chunk is opened, all that is promised fits in the open one
  fits_open : HasKeptRoom w → (b : Bool) → first ≡ b → TakesChunkIf (needs_chunk b w) w.allocator a None → own w.places.items + rest (Copying victim first) ≤ room_of w.log
  fits_open had false e takes =
      let kept : KeepsRule (Copying victim false) (supply_of w) = subst (λ (c : Cleaning). KeepsRule c (supply_of w)) (way ∙ ap (Copying victim) e) had in
      let is = rested in let few = scarce in
      ⊎_elim (λ fits. omega (arith, fits, is)) (λ two. absurd (omega (arith, two, few))) kept
  fits_open had true e takes =
      let kept : KeepsRule (Copying victim true) (supply_of w) = subst (λ (c : Cleaning). KeepsRule c (supply_of w)) (way ∙ ap (Copying victim) e) had in
      by (ltb (room_of w.log) (pledged (supply_of w))) refl takes kept where
        by : (b : Bool) → ltb (room_of w.log) (pledged (supply_of w)) ≡ b → TakesChunkIf (ltb (room_of w.log) (pledged (supply_of w))) w.allocator a None → KeepsRoomAtCleaning (supply_of w) → own w.places.items + rest (Copying victim first) ≤ room_of w.log
        by false e takes kept = (let enough = ltb-false (room_of w.log) (pledged (supply_of w)) e in let is = rested in omega (arith, enough, is))
        by true e takes kept =
            let none : TakesChunkIf true w.allocator a None = subst (λ (b : Bool). TakesChunkIf b w.allocator a None) e takes in
            let zero = none_counted (chunk_is_free w.allocator) (numbers 0 w.allocator.layout.chunks) none.0 in
            let less = ltb-true (room_of w.log) (pledged (supply_of w)) e in
            absurd (⊎_elim
            (λ r. ⊎_elim (λ fits. omega (arith, fits, less)) (λ two. omega (arith, two, zero)) r)
            (λ one. (let free = one.1 in omega (arith, free, zero)))
            kept)

-- So what is left never lacks room.
pub never_left : (p : Place) (m : ℕ) (v : View) (w x : Worker) (victim : Victim) (first : Bool) → Holds p m v w → under_way w ≡ Copying victim first → HasKeptRoom w → LeavesCopies victim first w x → ⊥
never_left p m v w x victim first H way had L = (let fits = fits_open p m v w victim first H way w.allocator had first refl L.none in let lacks = L.lacks in omega (arith, fits, lacks))

module _ (p : Place) (m : ℕ) (v : View) (w x : Worker) (victim : Victim) (first : Bool) (H : Holds p m v w) (own_log : IsOwn w.log) (way : under_way w ≡ Copying victim first) (some : 0 < victim.entries) (K : CopiesOn victim first w x) where
  -- where it was opened, a third of it and what eight changes take fit
  fits_fresh : 60 ≤ payload_lines w.log.layout → own w.places.items + rest (Copying victim first) ≤ payload_lines w.log.layout
  fits_fresh big = (let forty = own_forty p m v w H in let third = (cleaning.begun p m v w H victim first way).third in omega (arith, forty, third, big))

  sixty : 60 ≤ payload_lines w.log.layout
  sixty = (let size = (chunk_words_whole w.log.layout (numbers_of w.log.layout own_log.layout).size) in let a = size.0 in let b = size.2 in omega (arith, a, b))

  fits_there : HasKeptRoom w → own w.places.items + rest (Copying victim first) ≤ room_of (opened_for w.log K.fresh)
  fits_there had = by K.fresh refl where
    by : (o : Option ℕ) → K.fresh ≡ o → own w.places.items + rest (Copying victim first) ≤ room_of (opened_for w.log K.fresh)
    by None e =
        let at = ap (λ (f : Option ℕ). room_of (opened_for w.log f)) e in
        let fits = fits_open p m v w victim first H way x.allocator had first refl (subst (λ (f : Option ℕ). TakesChunkIf (needs_chunk first w) w.allocator x.allocator f) e K.takes) in
        omega (arith, at, fits)
    by (Some j) e =
        let at = ap (λ (f : Option ℕ). room_of (opened_for w.log f)) e ∙ room_opened w.log j in
        let fits = fits_fresh sixty in
        omega (arith, at, fits)

  is_open : is_some (opened_for w.log K.fresh).opened ≡ true
  is_open = by K.fresh refl where
    by : (o : Option ℕ) → K.fresh ≡ o → is_some (opened_for w.log K.fresh).opened ≡ true
    by None e = ap (λ (f : Option ℕ). is_some (opened_for w.log f).opened) e ∙ room_open w.log (let room = K.fits e in omega (arith, room, some))
    by (Some j) e = ap (λ (f : Option ℕ). is_some (opened_for w.log f).opened) e

  pub way_now : under_way x ≡ Copying (no_more_than (left_in x.standing) (left_of victim K.count (length K.words))) false
  way_now =
      let C = cleaning.cleans p m v w H victim first way in
      ap under_way K.same ∙ runs_way (copied.to p m v w x victim first H own_log way some K) C.runs C.works

  pub copied_room : HasKeptRoom w → HasKeptRoom x
  copied_room had =
      let there = fits_there had in
      let owns : own x.places.items ≡ own w.places.items = ap (λ (y : Worker). own y.places.items) K.same in
      let less = counted_rest (left_in x.standing) (Copying (left_of victim K.count (length K.words)) false) in
      let left = ap rest way_now in
      let log = ap room_of K.batch.log_is in
      let few = K.batch.few in
      let within = K.batch.within in
      subst (λ (c : Cleaning). KeepsRule c (supply_of x)) (sym way_now)
      (inl (⊎_elim
      (λ y. (let room = y.1 in let lines = batch_lines victim.entries victim.words K.count (length K.words) y.0 few within (K.batch.short y.0) in omega (arith, there, owns, left, less, log, room, lines)))
      (λ z. (let room = z.1 in let none = none_lines victim.entries victim.words K.count (length K.words) z.0 in omega (arith, there, owns, left, less, log, room, none)))
      (room_copied K.count (opened_for w.log K.fresh) K.words is_open)))
