-- What the test of a full batch needs.
use Rattle.std.proofs.Common.{◌≡◌, ◌≢◌, ◌⊎◌, inl, inr, ℕ, ◌+◌, ◌/◌, ◌%◌, ◌==◌, ◌≤◌, ◌<◌, Bool, true, false, cond, eqb, [], Option, Some, None, refl, sym, ◌∙◌, ap, subst, arith}
use Rattle.std.proofs.lemmas.Bool.{ne_eqb, cases_eq}
use Rattle.std.proofs.Math.ListN.{get_or-eq_default}
use Rattle.pm_region.specs.Cell.{certain}
use Rattle.pm_region.specs.State.{State, IsTelling, cell_now, InRange}
use Rattle.pm_region.proofs.Clients.{certain_may_be}
use Rattle.chunk_map.specs.declared.layouts.Geometry.{Geometry}
use Rattle.chunk_map.specs.Layouts.{chunk_first, head_by, part_first, payload_lines}
use Rattle.store_image.specs.Soundness.{IsSound, first_fault}
use Rattle.core_log.specs.Log.{LogState, IsOwn, tail_of, first_of}
use Rattle.group_laws.specs.Places.{Place, IsPlace, members, owner, core_of}
use Rattle.group_laws.specs.State.{Group}
use Rattle.group_laws.specs.MemberViews.{View, view_of, of_own}
use Rattle.group_laws.specs.OpeningImages.{IsBlank}
use Rattle.group_laws.specs.declared.types.Pending.{Pending}
use Rattle.group_board.specs.declared.change.Change.{Change}
use Rattle.group_laws.proofs.Clients.{no_block, no_last, no_log}
use Rattle.group_board.specs.Journals.{image_of}
use Rattle.group_board.specs.Conditions.{IsFree, MayPost, MayLock}
use Rattle.group_board.specs.Views.{after_post}
use Rattle.licence.specs.Licence.{part_at, part_end}
use Rattle.licence.specs.Writes.{Begins}
use Rattle.batch_leader.specs.declared.states.Batch.{Batch}
use Rattle.group_tests.specs.LeadTrials.{put_of, KeepsOthers, MayWrite}
use Rattle.group_tests.specs.EightTrials.{eight_words, eight_place, eight_fresh, key_at, IsNew, IsPosted, HasBatch}
use Rattle.group_tests.proofs.LeadTrialLaws.{zero_licensed}

pub eight_sound : IsSound 135168 (image_of eight_words)
unfolding first_fault
eight_sound = refl

eight_is_place : IsPlace eight_place
eight_is_place = record { layout = refl; group = omega arith }

eight_blank : IsBlank eight_place.layout (image_of eight_words)
eight_blank c j low less =
    let zero_at : (i : ℕ) → 6 ≤ i → image_of eight_words i ≡ 0 = λ i h. get_or-eq_default eight_words 0 {n = i} h in
    let at = chunk_first eight_place.layout c j in
    ap (λ (n : ℕ). head_by eight_place.layout n (image_of eight_words (at + 1))) (zero_at at (omega arith)) ∙ refl

none_own : {X : Type 0} (b : Bool) (d : X) → cond b d d ≡ d
none_own true d = refl
none_own false d = refl

nothing_pends : (m k : ℕ) → (view_of eight_fresh m).pending k ≡ None
nothing_pends m k = none_own {X = Option Pending} (eqb (owner eight_place k) m) None

-- at the beginning
pub first_posted : (w : Group) → w ≡ eight_fresh → IsPosted 0 w
first_posted w is = subst (IsPosted 0) (sym is) (record {
  place = refl;
  each = λ m. record {
    whole = refl;
    last = λ k. ap (λ (x : ℕ). of_own eight_place m k x 0) (no_last eight_place eight_is_place (image_of eight_words) eight_blank k) ∙ none_own (eqb (owner eight_place k) m) 0;
    holds = refl;
    taken = λ a s. refl;
    flying = refl;
    unwritten = record {
      kept = no_log eight_place eight_is_place (image_of eight_words) eight_blank m;
      blocks = λ q. no_block eight_place eight_is_place (image_of eight_words) eight_blank m q;
    };
  };
  free = λ i le k e pends. (let both : None ≡ Some (record { entry = e; slot = Some (i % 8) }) = sym (nothing_pends (i / 8) k) ∙ pends in cc both);
  idle = λ i le. nothing_pends (i / 8) (key_at i);
})

owner_eight : (i : ℕ) → i < 64 → owner eight_place (key_at i) ≡ i / 8
unfolding owner
owner_eight i lt =
    let core : key_at i % 8 ≡ i / 8 = omega (arith, lt) in
    let group : i / 8 / 8 ≡ 0 = omega (arith, lt) in
    let number : i / 8 % 8 ≡ i / 8 = omega (arith, lt) in
    (λ t. cond (core t / 8 == 0) (core t % 8) 8) ∙ (λ t. cond (group t == 0) (number t) 8)

-- the next post may be made
pub eight_may_post : (w : Group) (i : ℕ) (c : Change) → IsPosted i w → i < 64 → c ≡ put_of (key_at i) → MayPost w.place (i / 8) (view_of w (i / 8)) (i % 8) c []
eight_may_post w i c P lt change = subst (λ (x : Change). MayPost w.place (i / 8) (view_of w (i / 8)) (i % 8) x []) (sym change) (record {
  member = subst (λ (p : Place). i / 8 < members p) (sym P.place) (omega (arith, lt));
  slot = omega arith;
  free = P.free i (omega arith);
  home = refl;
  spelled = record { key = omega (arith, lt); fits = (omega arith, omega arith, omega arith, (omega arith, tt)) };
  own = ap (λ (p : Place). owner p (key_at i)) P.place ∙ owner_eight i lt;
  idle = P.idle i (omega arith);
  whole = (P.each (i / 8)).whole;
  next = sym (ap (λ (x : ℕ). x + 1) ((P.each (i / 8)).last (key_at i)));
  live = λ t. absurd (cc t);
  block = λ at t. absurd (cc t);
})

-- and then it was made
module _ (w u : Group) (i : ℕ) (c : Change) (P : IsPosted i w) (lt : i < 64) (change : c ≡ put_of (key_at i)) (place : u.place ≡ w.place) (view : view_of u (i / 8) ≡ after_post (i % 8) c.entry [] (view_of w (i / 8))) (others : KeepsOthers w u (i / 8)) where
  abbrev v : View
  v = view_of w (i / 8)

  abbrev after : View
  after = after_post (i % 8) (put_of (key_at i)).entry [] v

  here : view_of u (i / 8) ≡ after
  here = view ∙ ap (λ (x : Change). after_post (i % 8) x.entry [] v) change

  new_after : IsNew v → IsNew after
  new_after n = record { whole = n.whole; last = n.last; holds = n.holds; taken = n.taken; flying = n.flying; unwritten = record { kept = n.unwritten.kept; blocks = n.unwritten.blocks } }

  each : (m : ℕ) → (m ≡ i / 8) ⊎ (m ≢ i / 8) → IsNew (view_of u m)
  each m (inl same) = subst (λ (k : ℕ). IsNew (view_of u k)) (sym same) (subst IsNew (sym here) (new_after (P.each (i / 8))))
  each m (inr ne) = subst IsNew (sym (others m ne)) (P.each m)

  free_after : (j : ℕ) → i + 1 ≤ j → j / 8 ≡ i / 8 → IsFree v (j % 8) → IsFree after (j % 8)
  free_after j le same free k e pends = by_key (eqb k (key_at i)) pends where
    by_key : (b : Bool) → cond b (Some (record { entry = (put_of (key_at i)).entry; slot = Some (i % 8) })) (v.pending k) ≡ Some (record { entry = e; slot = Some (j % 8) }) → ⊥
    by_key false p = free k e p
    by_key true p =
        let r : Path Pending (record { entry = (put_of (key_at i)).entry; slot = Some (i % 8) }) (record { entry = e; slot = Some (j % 8) }) = cc p in
        let q : Some (i % 8) ≡ Some (j % 8) = ap (λ (x : Pending). x.slot) r in
        let slot : i % 8 ≡ j % 8 = cc q in
        omega (arith, slot, same, le)

  free : (j : ℕ) → i + 1 ≤ j → (j / 8 ≡ i / 8) ⊎ (j / 8 ≢ i / 8) → IsFree (view_of u (j / 8)) (j % 8)
  free j le (inl same) =
      subst (λ (k : ℕ). IsFree (view_of u k) (j % 8)) (sym same)
      (subst (λ (x : View). IsFree x (j % 8)) (sym here) (free_after j le same (subst (λ (k : ℕ). IsFree (view_of w k) (j % 8)) same (P.free j (omega (arith, le))))))
  free j le (inr ne) = subst (λ (x : View). IsFree x (j % 8)) (sym (others (j / 8) ne)) (P.free j (omega (arith, le)))

  idle_after : (j : ℕ) → i + 1 ≤ j → j / 8 ≡ i / 8 → v.pending (key_at j) ≡ None → after.pending (key_at j) ≡ None
  idle_after j le same none = ap (λ (b : Bool). cond b (Some (record { entry = (put_of (key_at i)).entry; slot = Some (i % 8) })) (v.pending (key_at j))) (ne_eqb (key_at j) (key_at i) (λ e. omega (arith, e, same, le))) ∙ none

  idle : (j : ℕ) → i + 1 ≤ j → (j / 8 ≡ i / 8) ⊎ (j / 8 ≢ i / 8) → (view_of u (j / 8)).pending (key_at j) ≡ None
  idle j le (inl same) =
      subst (λ (k : ℕ). (view_of u k).pending (key_at j) ≡ None) (sym same)
      (ap (λ (x : View). x.pending (key_at j)) here ∙ idle_after j le same (subst (λ (k : ℕ). (view_of w k).pending (key_at j) ≡ None) same (P.idle j (omega (arith, le)))))
  idle j le (inr ne) = ap (λ (x : View). x.pending (key_at j)) (others (j / 8) ne) ∙ P.idle j (omega (arith, le))

  pub next_posted : IsPosted (i + 1) u
  next_posted = record {
    place = place ∙ P.place;
    each = λ m. each m (cases_eq m (i / 8));
    free = λ j le. free j le (cases_eq (j / 8) (i / 8));
    idle = λ j le. idle j le (cases_eq (j / 8) (i / 8));
  }

-- member 0 may lead
pub eight_may_lead : (n : ℕ) (w : Group) → IsPosted n w → MayLock w.place 0 (view_of w 0)
eight_may_lead n w P = record {
  member = subst (λ (p : Place). 0 < members p) (sym P.place) (omega arith);
  not_held = (P.each 0).holds;
  gave_back = (P.each 0).taken;
}

core_0 : core_of eight_place 0 ≡ 0
unfolding core_of
core_0 = refl

part_0 : (part_at eight_place 0 ≡ 512) × (part_end eight_place 0 ≡ 2560)
unfolding core_of
part_0 = (refl, refl)

-- it may write its batch into chunk 2 of its part, in a region of zeros
pub eight_may_write : (s : State) (u : Group) (log : LogState) (b : Batch) → s.frame.first ≡ 0 → s.frame.words ≡ 16896 → ((w : ℕ) → InRange s.frame w → IsTelling s → cell_now s w ≡ certain 0) → IsOwn log → log.layout ≡ eight_place.layout → log.part ≡ 0
    → ((j : ℕ) → tail_of log.chunks j ≡ None) → HasBatch u b → MayWrite u.place 0 (view_of u 0) s log b
eight_may_write s u log b first words zeros own layout part none has = record {
  batch = has.batch;
  begins = subst (λ (p : Place). Begins s p 0 (view_of u 0) log) (sym has.place) (record {
    own = record { layout = layout; part = part ∙ sym core_0 };
    stands = record {
      own = own;
      low = omega (arith, first);
      high = (let end : part_first log.layout (log.part + 1) ≡ 2560 = (λ i. part_first (layout i) (part i + 1)) in omega (arith, first, words, end));
      logs = λ telling j tail is. (let both : None ≡ Some tail = sym (none j) ∙ is in absurd (cc both));
      spelled = λ telling j tail is. (let both : None ≡ Some tail = sym (none j) ∙ is in absurd (cc both));
    };
    licensed = λ telling image may. zero_licensed eight_place 0 (view_of u 0) image has.unwritten
        (λ w lo hi. certain_may_be (cell_now s w) 0 (image w) (zeros w (record { low = omega (arith, first); high = (let end = part_0.1 in omega (arith, first, words, end, hi)) }) telling) (may w lo hi))
        (omega arith);
  });
  room =
      let payload : payload_lines log.layout ≡ 60 = ap payload_lines layout in
      let chunks : log.layout.chunks ≡ 4 = ap (λ (l : Geometry). l.chunks) layout in
      let at : first_of log 2 ≡ 1536 = (λ i. chunk_first (layout i) (part i) 2) in
      let fits = has.fits in
      (omega (arith, payload, fits), omega (arith, chunks), λ telling x may. certain_may_be (cell_now s (first_of log 2)) 0 x (zeros (first_of log 2) (record { low = omega (arith, first); high = omega (arith, first, words, at) }) telling) may);
}
