-- An own change that is Posted is one that a round takes first.
use Rattle.std.proofs.Common.{◌≡◌, inl, ⊎_elim, ℕ, zero, suc, ◌<◌, ◌≤◌, ◌&&◌, nat_le, nat_lt, Bool, true, false, cond, List, [], ◌∷◌, length, Option, Some, None, refl, sym, ◌∙◌, ap, subst, arith}
use Rattle.std.proofs.lemmas.Bool.{eq-eqb, and_from}
use Rattle.std.proofs.lemmas.Bool.Decides.{nat_tests}
use Rattle.pm_region.specs.Words.{lines_for}
use Rattle.log_entry.specs.declared.entry.Body.TheVariants as bodies
use Rattle.log_entry.specs.declared.entry.Entry.{Entry}
use Rattle.log_entry.specs.Spelling.{HasSpelling, words_of}
use Rattle.log_entry.specs.Words.{words_for}
use Rattle.log_entry.proofs.Clients.{length-packed_in}
use Rattle.core_log.specs.declared.types.Room.{Room}
use Rattle.store_image.specs.Facts.{In}
use Rattle.group_laws.specs.declared.types.Pending.{Pending}
use Rattle.group_laws.specs.declared.types.Slot.TheVariants as slots
use Rattle.group_laws.specs.Places.{Place, owner}
use Rattle.group_laws.specs.State.{Group}
use Rattle.group_laws.specs.Invariant.{Lawful}
use Rattle.group_laws.specs.MemberViews.{view_of, of_own}
use Rattle.batch_leader.specs.Rounds.{fits, stays_in, goes_fresh, has_chunk}
use Rattle.batch_leader.specs.Leading.{IsKept}
use Rattle.core_worker.specs.declared.types.Place as places
use Rattle.core_worker.specs.declared.types.Place.TheVariants.{Posted}
use Rattle.core_worker.specs.declared.worker.Worker.{Worker}
use Rattle.core_worker.specs.OwnPlaces.{place_at, lines_in, own}
use Rattle.core_worker.specs.KeyTies.{IsPlaced}
use Rattle.core_worker.specs.Supplies.{HasKeptRoom, room_for, under_way}
use Rattle.core_worker.specs.Ties.{Holds}
use Rattle.core_worker.specs.declared.types.Cleaning.TheVariants.{Nothing}
use Rattle.core_worker.proofs.BatchRoom.{kept_room}

-- no entry has more than 34 words
pub few_words : (e : Entry) → HasSpelling e → length (words_of e) ≤ 34
few_words e is = by_body e.key e.version e.body is where
  by_body : (k n : ℕ) (b : _) → HasSpelling (record { key = k; version = n; body = b }) → length (words_of (record { key = k; version = n; body = b })) ≤ 34
  by_body k n (bodies.Pointer q) is = omega arith
  by_body k n bodies.Tombstone is = omega arith
  by_body k n (bodies.Embedded u) is =
      let q = length-packed_in (words_for (length u)) u in
      let short = is.fits.2 in
      omega (arith, q, short)

own_has : (ps : List places.Place) (s : ℕ) → lines_in (place_at ps s) ≤ own ps
own_has [] s = omega arith
own_has (x ∷ ps) zero = omega arith
own_has (x ∷ ps) (suc s) = let rest = own_has ps s in omega (arith, rest)

-- The first entry of a batch, where the room rule is kept, and its lines are pledged.
first_fits : (room : Room) (lines : ℕ) (fresh : Bool) (n : ℕ) → n ≤ 34 → IsKept room → lines_for n ≤ room.pledged_lines → fits room lines [] fresh true n ≡ true
unfolding fits stays_in goes_fresh
first_fits room lines fresh n short kept few =
    and_from (nat_le n 34) (has_chunk room (nat_lt room.open_lines (lines_for n)) && true) (grind (arith, nat_tests))
    (and_from (has_chunk room (nat_lt room.open_lines (lines_for n))) true (by (nat_lt room.open_lines (lines_for n)) refl) refl) where
      by : (b : Bool) → nat_lt room.open_lines (lines_for n) ≡ b → has_chunk room b ≡ true
      by false e = refl
      by true e = ⊎_elim (λ r. absurd (grind (arith, nat_tests))) (λ two. grind (arith, nat_tests)) kept.rule

pub own_view : {X : Type 0} (p : Place) (m k : ℕ) (x d : X) → owner p k ≡ m → of_own p m k x d ≡ x
own_view p m k x d mine = ap (λ b. cond b x d) (eq-eqb (owner p k) m mine)

abbrev entry_or : Entry → Option Pending → Entry
entry_or d None = d
entry_or d (Some q) = q.entry

-- A change that stands Posted in an own slot.
module _ (g : Group) (L : Lawful g) (m : ℕ) (w : Worker) (H : Holds g.place m (view_of g m) w) (s : ℕ) (e : Entry) (is : g.slot m s ≡ slots.Posted e) where
  pends : (view_of g m).pending e.key ≡ Some (record { entry = e; slot = Some s })
  pends = (let named = L.slots.posted_named m s e is in own_view g.place m e.key (g.pending e.key) None named.1 ∙ named.0)

  spelled : HasSpelling e
  spelled = L.keys.spelled e.key (record { entry = e; slot = Some s }) (L.slots.posted_named m s e is).0

  -- its place pledges its lines
  posted_lines : (t number lines : ℕ) → t < 8 → place_at w.places.items t ≡ Posted number e.key lines → lines_for (length (words_of e)) ≤ own w.places.items
  posted_lines t number lines lt at =
      let had = own_has w.places.items t in
      let here = ap lines_in at in
      let placed : IsPlaced g.place m (view_of g m) t (Posted number e.key lines) = subst (IsPlaced g.place m (view_of g m) t) at (H.placed t lt) in
      let same : placed.0 ≡ e = ap (entry_or e) (sym placed.1 ∙ pends) in
      ⊎_elim
      (λ full. let long = full ∙ ap (λ (x : Entry). lines_for (length (words_of x))) same in omega (arith, had, here, long))
      (λ kept. absurd (L.logs.not_posted m m s e is (inl (subst (λ (x : Entry). In x (g.kept m)) same kept.1))))
      placed.5

  pledged_lines : lines_for (length (words_of e)) ≤ own w.places.items
  pledged_lines = ⊎_elim
      (λ at. posted_lines at.0 at.1 at.2 at.3 at.4)
      (λ doubt. absurd (cc doubt.0))
      (H.pending e.key (record { entry = e; slot = Some s }) pends)

  pub own_fits : under_way w ≡ Nothing → HasKeptRoom w → (lines : ℕ) (fresh : Bool) → fits (room_for w) lines [] fresh true (length (words_of e)) ≡ true
  own_fits clean rule lines fresh =
      let few = pledged_lines in
      first_fits (room_for w) lines fresh (length (words_of e)) (few_words e spelled) (kept_room g.place m (view_of g m) w H clean rule) (omega (arith, few))
