-- The room rule is kept where a change is staged that was not refused.
use Rattle.std.proofs.Common.{◌≡◌, Option, Some, ◌/◌, ◌⊎◌, inl, inr, ⊎_elim, ℕ, zero, suc, ◌+◌, ◌<◌, ◌≤◌, ◌==◌, ◌&&◌, leb, ltb, Bool, true, false, cond, List, [], ◌∷◌, length, refl, sym, ◌∙◌, ap, subst, arith}
use Rattle.std.proofs.lemmas.Bool.{lt-leb, ltb-false, leb-true, and_parts, or_cases}
use Rattle.pm_region.specs.Words.{lines_for}
use Rattle.log_entry.specs.declared.entry.Entry.{Entry}
use Rattle.log_entry.specs.declared.entry.Body.TheVariants as bodies
use Rattle.log_entry.specs.Spelling.{words_of}
use Rattle.log_entry.specs.Words.{words_for}
use Rattle.log_entry.proofs.Clients.{length-packed_in}
use Rattle.core_room.specs.Lengths.{lines_needed}
use Rattle.core_log.specs.Log.{room_of}
use Rattle.pm_region.specs.State.{State}
use Rattle.lazy_alloc.specs.Written.{WroteValue}
use Rattle.lazy_alloc.proofs.Clients.{chunks_same}
use Rattle.group_laws.specs.State.{Group}
use Rattle.group_laws.specs.MemberViews.{View}
use Rattle.core_worker.specs.Posting.{PostsPlain}
use Rattle.lazy_alloc.specs.Sets.{Sets, Takes, free_chunk_count}
use Rattle.core_room.specs.declared.supply.Supply.{Supply}
use Rattle.core_room.specs.RoomRule.{KeepsRoom, lacks_room, may_cut}
use Rattle.core_worker.specs.declared.types.Cleaning.{Cleaning}
use Rattle.core_worker.specs.declared.types.Cleaning.TheVariants.{Nothing, Copying, Doomed}
use Rattle.core_worker.specs.declared.types.Place.{Place}
use Rattle.core_worker.specs.declared.types.Place.TheVariants.{Free, Staged, Posted}
use Rattle.core_worker.specs.declared.worker.Worker.{Worker}
use Rattle.core_worker.specs.OwnPlaces.{place_at, lines_in, own, Replaces}
use Rattle.core_worker.specs.Supplies.{supply_of, under_way, rest, KeepsRule, HasKeptRoom}
use Rattle.core_worker.proofs.UnderWay.{room_less}

-- the lines of equal places, and of places that differ in one
pub own_same : (xs ys : List Place) → length ys ≡ length xs → ((t : ℕ) → place_at ys t ≡ place_at xs t) → own ys ≡ own xs
own_same [] [] c h = refl
own_same [] (y ∷ ys) c h = absurd (cc c)
own_same (x ∷ xs) [] c h = absurd (cc c)
own_same (x ∷ xs) (y ∷ ys) c h =
    let here = ap lines_in (h 0) in
    let others = own_same xs ys (omega (arith, c)) (λ t. h (suc t)) in
    omega (arith, here, others)

pub own_with : (xs ys : List Place) (s : ℕ) (x : Place) → Replaces xs ys s x → s < length xs → own ys + lines_in (place_at xs s) ≡ own xs + lines_in x
own_with [] ys s x R lt = absurd (omega (arith, lt))
own_with (a ∷ xs) [] s x R lt = let c = R.count in absurd (cc c)
own_with (a ∷ xs) (b ∷ ys) zero x R lt =
    let c = R.count in
    let here = ap lines_in R.here in
    let others = own_same xs ys (omega (arith, c)) (λ t. R.others (suc t) (λ e. cc e)) in
    omega (arith, here, others)
own_with (a ∷ xs) (b ∷ ys) (suc s) x R lt =
    let c = R.count in
    let first = ap lines_in (R.others 0 (λ e. cc e)) in
    let tail : Replaces xs ys s x = record { count = omega (arith, c); here = R.here; others = λ t ne. R.others (suc t) (λ e. ne (omega (arith, e))) } in
    let more = own_with xs ys s x tail (omega (arith, lt)) in
    omega (arith, first, more)

-- the rule of a core in general, from the stronger one
pub by_room : (c : Cleaning) (s : Supply) → KeepsRoom s → KeepsRule c s
by_room Nothing s k = k
by_room (Copying v true) s k = inl k
by_room (Copying v false) s k = k
by_room (Doomed j) s k = k

-- what a change that isn't refused finds, and what a chunk that may be cut leaves
has_place : (a b : Bool) → a && b ≡ false → (a ≡ false) ⊎ (b ≡ false)
has_place true b e = inr e
has_place false b e = inl refl

fitting : (s : Supply) (need : ℕ) → lacks_room s need ≡ false → (s.own_lines + s.rest_lines + need ≤ s.open_lines) ⊎ (2 ≤ s.free_chunks)
fitting s need e = ⊎_elim
    (λ l. inl (ltb-false s.open_lines (s.own_lines + s.rest_lines + need) l))
    (λ f. inr (ltb-false s.free_chunks 2 f))
    (has_place (ltb s.open_lines (s.own_lines + s.rest_lines + need)) (ltb s.free_chunks 2) e)

leaving : (s : Supply) (need : ℕ) → may_cut s need ≡ true → (s.own_lines + s.rest_lines + need ≤ s.open_lines) ⊎ (3 ≤ s.free_chunks)
leaving s need e = ⊎_elim
    (λ f. inr (leb-true 3 s.free_chunks f))
    (λ b. inl (leb-true (s.own_lines + s.rest_lines + need) s.open_lines (and_parts (s.free_chunks == 2) (leb (s.own_lines + s.rest_lines + need) s.open_lines) b).1))
    (or_cases (leb 3 s.free_chunks) (s.free_chunks == 2 && leb (s.own_lines + s.rest_lines + need) s.open_lines) e)

module _ (w u : Worker) (slot number : ℕ) (e : Entry) (value : List ℕ) (need : ℕ) (placed : Replaces w.places.items u.places.items slot (Staged number e value)) (was : place_at w.places.items slot ≡ Free) (lt : slot < length w.places.items)
    (lines : lines_for (length (words_of e)) ≡ need) (log : u.log ≡ w.log) (cleaning : under_way u ≡ under_way w) where
  grown : own u.places.items ≡ own w.places.items + need
  grown =
      let all = own_with w.places.items u.places.items slot (Staged number e value) placed lt in
      let none = ap lines_in was in
      let here = lines in
      omega (arith, all, none, here)

  pub room_staged : free_chunk_count u.allocator ≡ free_chunk_count w.allocator → lacks_room (supply_of w) need ≡ false → HasKeptRoom u
  room_staged chunks fits =
      let g = grown in
      let r = ap rest cleaning in
      let o = ap room_of log in
      by_room (under_way u) (supply_of u) (⊎_elim (λ l. inl (omega (arith, l, g, r, o))) (λ f. inr (omega (arith, f, chunks))) (fitting (supply_of w) need fits))

  pub room_cut : free_chunk_count w.allocator ≡ free_chunk_count u.allocator + 1 → may_cut (supply_of w) need ≡ true → HasKeptRoom u
  room_cut chunks cuts =
      let g = grown in
      let r = ap rest cleaning in
      let o = ap room_of log in
      by_room (under_way u) (supply_of u) (⊎_elim (λ l. inl (omega (arith, l, g, r, o))) (λ f. inr (omega (arith, f, chunks))) (leaving (supply_of w) need cuts))

  -- a block was taken, from a chunk that was cut or from one that had been
  pub room_block : (class q : ℕ) → lacks_room (supply_of w) need ≡ false → Takes w.allocator u.allocator class (may_cut (supply_of w) need) (Some q) → HasKeptRoom u
  room_block class q fits takes = ⊎_elim (λ t. room_staged t.chunk_count fits) (λ c. room_cut c.2.chunk_count c.0) takes

-- the lines of an entry whose value stands beside its key
pub embedded_lines : (k v : ℕ) (u : List ℕ) → length u < 256 → lines_for (length (words_of (record { key = k; version = v; body = bodies.Embedded u }))) ≡ lines_needed (length u)
embedded_lines k v u short =
    let q = length-packed_in (words_for (length u)) u in
    let all : length (words_of (record { key = k; version = v; body = bodies.Embedded u })) ≡ 2 + words_for (length u) = omega (arith, q) in
    ap lines_for all ∙ sym (λ i. cond (lt-leb 256 (length u) short i) 1 ((2 + (length u + 7) / 8 + 7) / 8))

-- an answer more pledges nothing
pub answered_room : (w u : Worker) → u ≡ record w { answers = u.answers; index = u.index } → HasKeptRoom w → HasKeptRoom u
answered_room w u e h = subst (λ (x : Worker). HasKeptRoom x) (sym e) h

-- what has the same room keeps the rule
pub room_again : (w u : Worker) → own u.places.items ≡ own w.places.items → free_chunk_count u.allocator ≡ free_chunk_count w.allocator → u.log ≡ w.log → (under_way u ≡ under_way w) ⊎ (under_way u ≡ Nothing) → HasKeptRoom w → HasKeptRoom u
room_again w u lines chunks log way h = room_less w u (omega (arith, lines)) chunks log way h

-- after a value was written to a block, as many chunks are free
pub wrote_chunks : (s : State) (old new : Sets) (p class : ℕ) (value : List ℕ) → WroteValue s old new p class value → free_chunk_count new ≡ free_chunk_count old
wrote_chunks s old new p class value W = chunks_same old new (record { layout_is = W.layout_is; part_is = W.part_is }) W.free

-- a posted change pledges what the staged one did
pub room_posted : (m : ℕ) (before after : Option Group) (x y : View) (w u : Worker) (slot : ℕ) → length w.places.items ≡ 8 → slot < 8 → PostsPlain m before after x y w u slot → HasKeptRoom w → HasKeptRoom u
room_posted m before after x y w u slot eight lt P h =
    let all = own_with w.places.items u.places.items slot (Posted P.number P.entry.key (lines_for (length (words_of P.entry)))) P.places (omega (arith, lt, eight)) in
    let was = ap lines_in P.was in
    room_again w u (omega (arith, all, was)) (ap (λ (z : Worker). free_chunk_count z.allocator) P.rest) (ap (λ (z : Worker). z.log) P.rest) (inl (ap (λ (z : Worker). under_way z) P.rest)) h
