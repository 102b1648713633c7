-- The room rule after a batch is written.
use Rattle.std.proofs.Common.{◌≡◌, inl, inr, ⊎_elim, ℕ, ◌+◌, ◌-◌, ◌*◌, ◌/◌, ◌≤◌, Bool, true, false, List, [], ◌∷◌, length, Option, Some, None, refl, sym, ◌∙◌, ap, subst, arith}
use Rattle.std.specs.Prelude.{is_some, unwrap_or}
use Rattle.std.specs.List.{AllByRecursion}
use Rattle.pm_region.specs.Words.{lines_for}
use Rattle.chunk_map.specs.Layouts.{IsLayout, payload_lines, numbers}
use Rattle.chunk_map.proofs.Clients.{numbers_of}
use Rattle.log_entry.specs.declared.entry.Body.TheVariants as bodies
use Rattle.log_entry.specs.declared.entry.Entry.{Entry}
use Rattle.log_entry.specs.Spelling.{HasSpelling, words_of}
use Rattle.log_entry.proofs.Clients.{length-packed_in}
use Rattle.log_entry.specs.Words.{words_for}
use Rattle.core_log.specs.Chunk.{padded}
use Rattle.core_log.specs.Log.{LogState, with_tail, open_number, open_tail, lines_left, room_of, tail_of}
use Rattle.core_log.proofs.Clients.{tail_set, length-padded}
use Rattle.lazy_alloc.specs.Sets.{Sets, chunk_is_free, free_chunk_count}
use Rattle.group_laws.specs.Places as group
use Rattle.group_laws.specs.MemberViews.{View}
use Rattle.batch_leader.specs.Rounds.{space, left_free}
use Rattle.batch_leader.specs.Leading.{IsKept, HasSpace}
use Rattle.batch_leader.specs.Persisting.{opened_for}
use Rattle.core_worker.specs.declared.types.Cleaning.{Cleaning}
use Rattle.core_worker.specs.declared.types.Cleaning.TheVariants.{Nothing}
use Rattle.core_worker.specs.declared.types.Place.{Place}
use Rattle.core_worker.specs.declared.types.Place.TheVariants.{Free, Staged, Posted}
use Rattle.core_worker.specs.declared.worker.Worker.{Worker}
use Rattle.core_worker.specs.OwnPlaces.{own}
use Rattle.core_worker.specs.Supplies.{supply_of, under_way, rest, KeepsRule, HasKeptRoom, room_for}
use Rattle.core_worker.specs.Refusals.{IsCounted}
use Rattle.core_worker.specs.Ties.{Holds}
use Rattle.core_worker.specs.Turns.{TakesChunkIf, appended_to}
use Rattle.core_worker.proofs.Beginnings.{aside_of}
use Rattle.core_worker.proofs.Pointers.{measured}
use Rattle.core_worker.proofs.Writing.{none_counted}

-- no entry takes more than five lines
pub few_lines : (e : Entry) → HasSpelling e → lines_for (length (words_of e)) ≤ 5
few_lines e is = by_body e.key e.version e.body is where
  by_body : (k n : ℕ) (b : _) → HasSpelling (record { key = k; version = n; body = b }) → lines_for (length (words_of (record { key = k; version = n; body = b }))) ≤ 5
  by_body k n (bodies.Pointer q) is = omega arith
  by_body k n bodies.Tombstone is = omega arith
  by_body k n (bodies.Embedded u) is =
      let q = length-packed_in (words_for (length u)) u in
      let short = is.fits.2 in
      omega (arith, q, short)

own_few : (ps : List Place) → AllByRecursion IsCounted ps → own ps ≤ 5 * length ps
own_few [] each = omega arith
own_few (Free ∷ ps) each = let rest = own_few ps each.1 in omega (arith, rest)
own_few (Staged n e u ∷ ps) each = let rest = own_few ps each.1 in let few = few_lines e each.0 in omega (arith, rest, few)
own_few (Posted n k lines ∷ ps) each = let rest = own_few ps each.1 in let few = each.0 in omega (arith, rest, few)

-- What a leader is told of the room of a worker that keeps the rule.
module _ (p : group.Place) (m : ℕ) (v : View) (w : Worker) (H : Holds p m v w) (clean : under_way w ≡ Nothing) where
  pub nothing_rests : rest (under_way w) ≡ 0
  nothing_rests = ap rest clean

  pub kept_room : HasKeptRoom w → IsKept (room_for w)
  kept_room h = record {
    rule = subst (λ (c : Cleaning). KeepsRule c (supply_of w)) clean h;
    fresh =
        let M = measured p m v w (aside_of p m v w H) in
        let few = own_few w.places.items M.counted in
        let eight = H.eight in
        let none = nothing_rests in
        let size = (numbers_of w.log.layout (subst IsLayout (sym H.log_layout) H.place.layout)).size in
        let low = size.0 in
        omega (arith, few, eight, none, low);
  }

-- The free lines of the open chunk after a batch.
pub room_appended : (log : LogState) (ws : List ℕ) (j : ℕ) → log.opened ≡ Some j → room_of (appended_to log (padded ws)) ≡ room_of log - lines_for (length ws)
room_appended log ws j opened =
    let n : open_number log ≡ j = ap (λ o. unwrap_or o 0) opened in
    let tail = open_tail log in
    let before : room_of log ≡ payload_lines log.layout - unwrap_or (tail_of log.chunks j) 0 / 8 = ap (lines_left log) opened in
    let same : unwrap_or (tail_of log.chunks j) 0 ≡ tail = ap (λ (k : ℕ). unwrap_or (tail_of log.chunks k) 0) (sym n) in
    let after : room_of (appended_to log (padded ws)) ≡ payload_lines log.layout - unwrap_or (tail_of (with_tail log.chunks (open_number log) (tail + length (padded ws))) j) 0 / 8 = ap (lines_left (appended_to log (padded ws))) opened in
    let now : unwrap_or (tail_of (with_tail log.chunks (open_number log) (tail + length (padded ws))) j) 0 ≡ tail + length (padded ws) =
    ap (λ (k : ℕ). unwrap_or (tail_of (with_tail log.chunks (open_number log) (tail + length (padded ws))) k) 0) (sym n) ∙ ap (λ o. unwrap_or o 0) (tail_set log.chunks (open_number log) (tail + length (padded ws))) in
    let long = length-padded ws in
    omega (arith, before, same, after, now, long)

some_number : (o : Option ℕ) → is_some o ≡ true → (j : ℕ) × (o ≡ Some j)
some_number None some = absurd (cc some)
some_number (Some j) some = (j, refl)

pub opened_some : (log : LogState) (o : Option ℕ) → (o ≡ None → is_some log.opened ≡ true) → (j : ℕ) × ((opened_for log o).opened ≡ Some j)
opened_some log None some = some_number log.opened (some refl)
opened_some log (Some j) some = (j, refl)

-- where the batch goes, as the leader was told of it
pub space_is : (w : Worker) (a : Sets) (f : Bool) (o : Option ℕ) (lines n : ℕ) → HasSpace (room_for w) f lines n → TakesChunkIf f w.allocator a o
    → (space (room_for w) f ≡ room_of (opened_for w.log o)) × (2 ≤ left_free (room_for w) f → 2 ≤ free_chunk_count a)
space_is w a true None lines n had takes = absurd (let some = had.1 refl in let none = none_counted (chunk_is_free w.allocator) (numbers 0 w.allocator.layout.chunks) takes.0 in omega (arith, some, none))
space_is w a true (Some j) lines n had takes =
    let tail = ap (λ o. unwrap_or o 0) (tail_set w.log.chunks j 0) in
    let count = takes.chunk_count in
    (omega (arith, tail), λ two. omega (arith, two, count))
space_is w a false None lines n had takes = (refl, λ two. subst (λ (x : Sets). 2 ≤ free_chunk_count x) (sym takes.1) two)
space_is w a false (Some j) lines n had takes = absurd (cc takes.0)

-- After the batch, once its own entries pledge nothing any more.
module _ (p : group.Place) (m : ℕ) (v : View) (w u : Worker) (H : Holds p m v w) (f : Bool) (o : Option ℕ) (lines : ℕ) (ws : List ℕ) (had : HasSpace (room_for w) f lines (length ws)) (takes : TakesChunkIf f w.allocator u.allocator o)
    (opened : o ≡ None → is_some w.log.opened ≡ true) (log : u.log ≡ appended_to (opened_for w.log o) (padded ws)) (less : own u.places.items + lines ≡ own w.places.items) (cleaning : under_way u ≡ under_way w) (clean : under_way w ≡ Nothing) where
  pub room_wrote : HasKeptRoom w → HasKeptRoom u
  room_wrote h =
      let none = nothing_rests p m v w H clean in
      let still : rest (under_way u) ≡ 0 = ap rest cleaning ∙ none in
      let at = opened_some w.log o opened in
      let room = ap room_of log ∙ room_appended (opened_for w.log o) ws at.0 at.1 in
      let is = space_is w u.allocator f o lines (length ws) had takes in
      let where_to = is.0 in
      let left = had.2 (kept_room p m v w H clean h) in
      subst (λ (c : Cleaning). KeepsRule c (supply_of u)) (sym (cleaning ∙ clean))
      (⊎_elim (λ r. inl (omega (arith, r, none, still, room, where_to, less))) (λ two. inr (is.1 two)) left)
