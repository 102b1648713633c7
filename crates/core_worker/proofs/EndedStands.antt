-- What the end of a cleaning leaves of the ties to the region, and of the room.
use Rattle.std.proofs.Common.{◌≡◌, ◌≢◌, inl, inr, ⊎_elim, ℕ, ◌+◌, ◌*◌, ◌^◌, ◌≤◌, ◌<◌, ◌||◌, Bool, true, false, [], Some, None, sym, ◌∙◌, ap, subst, arith}
use Rattle.std.specs.Prelude.{is_some}
use Rattle.std.proofs.lemmas.Bool.{cases_eq, ne_eqb}
use Rattle.pm_region.specs.State.{State, Frame, IsTelling, cell_now}
use Rattle.pm_region.specs.Words.{KeepsOutside, Surely}
use Rattle.pm_region.proofs.Clients.{at_exit, told_at_entry, surely_kept}
use Rattle.chunk_map.specs.Layouts.{part_first}
use Rattle.chunk_map.proofs.Clients.{numbers_of, chunk_words_whole}
use Rattle.core_log.specs.Log.{LogState, tail_of, first_of}
use Rattle.core_log.proofs.Clients.{outside_chunk, without_other, without_self}
use Rattle.lazy_alloc.specs.Sets.{chunk_is_free}
use Rattle.log_cleaner.specs.Clearing.{ClearingState}
use Rattle.group_laws.specs.Places.{Place}
use Rattle.group_laws.specs.MemberViews.{View}
use Rattle.group_board.specs.Views.{after_retire}
use Rattle.licence.specs.Licence.{Licensed}
use Rattle.core_worker.specs.declared.types.Cleaning.{Cleaning}
use Rattle.core_worker.specs.declared.types.Leading.TheVariants as leads
use Rattle.core_worker.specs.declared.worker.Worker.{Worker}
use Rattle.core_worker.specs.EndsCleaning.{EndsIn, EndsInRegion}
use Rattle.core_worker.specs.LogNames.{IsCleanedBy}
use Rattle.core_worker.specs.Ties.{LeadsAt, Holds, Stands}
use Rattle.core_worker.proofs.Led.{runs_whole}

module _ (s t : State) (p : Place) (m : ℕ) (v u : View) (w x : Worker) (c : ClearingState) (H : Holds p m v w) (S : Stands s p m v w) (E : EndsIn p m v u w x c) (R : EndsInRegion s t p m u w x c) where
  abbrev head : ℕ
  head = first_of w.log c.chunk

  told : IsTelling t → IsTelling s
  told telling = told_at_entry s t (KeepsOutside (cell_now s) head (head + 8)) R.outside telling

  view_is : u ≡ record (after_retire p m c.doomed v) { last = E.tidied.0; told = E.tidied.1; dead = E.tidied.2 }
  view_is = E.tidied.4

  first_same : (j : ℕ) → first_of x.log j ≡ first_of w.log j
  first_same j = ap (λ (l : LogState). first_of l j) E.ends.log_is

  tail_gone : tail_of x.log.chunks c.chunk ≡ None
  tail_gone = ap (λ (l : LogState). tail_of l.chunks c.chunk) E.ends.log_is ∙ without_self w.log.chunks 0 c.chunk (S.log E.runs).own.rising

  tail_stays : (j : ℕ) → j ≢ c.chunk → tail_of w.log.chunks j ≡ None → tail_of x.log.chunks j ≡ None
  tail_stays j ne none = ap (λ (l : LogState). tail_of l.chunks j) E.ends.log_is ∙ without_other w.log.chunks c.chunk j ne ∙ none

  -- what isn't the log's is another chunk
  another : (j : ℕ) → tail_of w.log.chunks j ≡ None → j ≢ c.chunk
  another j none here = (let both : true ≡ false = sym E.chunk ∙ ap (λ (i : ℕ). is_some (tail_of w.log.chunks i)) (sym here) ∙ ap is_some none in cc both)

  kind_stays : IsTelling t → (j : ℕ) → j ≢ c.chunk → (k : ℕ) → Surely (cell_now s (first_of w.log j)) k → Surely (cell_now t (first_of x.log j)) k
  kind_stays telling j ne k sure =
      let kept = at_exit s t (KeepsOutside (cell_now s) head (head + 8)) R.outside telling in
      let size = chunk_words_whole w.log.layout (numbers_of w.log.layout (S.log E.runs).own.layout).size in
      let big = size.2 in
      let out = outside_chunk w.log.layout w.log.part c.chunk j 0 ne (omega (arith, big)) in
      subst (λ (i : ℕ). Surely (cell_now t i) k) (sym (first_same j))
      (surely_kept (cell_now s (first_of w.log j)) (cell_now t (first_of w.log j)) k sure
      (kept (first_of w.log j) (⊎_elim (λ below. inl (omega (arith, below))) (λ above. inr (omega (arith, above, big))) out)))

  flying_none : u.flying ≡ []
  flying_none =
      let had : LeadsAt H.leads.seat v (leads.Nothing E.idle.0) = subst (LeadsAt H.leads.seat v) E.idle.1 H.leads.at in
      ap (λ (y : View). y.flying) view_is ∙ had.2 (runs_whole p m v w H E.runs)

  pub ended_stands : Stands t p m u x
  ended_stands = record {
    lies = (let L = S.lies in let fr = R.outside.frame in record {
      low = subst (λ (y : Frame). y.first ≤ part_first x.allocator.layout x.allocator.part) (sym fr) (subst (λ (n : ℕ). s.frame.first ≤ n) (λ i. part_first (sym E.ends.gives.layout_is i) (sym E.ends.gives.part_is i)) L.low);
      high = subst (λ (y : Frame). part_first x.allocator.layout (x.allocator.part + 1) ≤ y.first + y.words) (sym fr) (subst (λ (n : ℕ). n ≤ s.frame.first + s.frame.words) (λ i. part_first (sym E.ends.gives.layout_is i) (sym E.ends.gives.part_is i + 1)) L.high);
      fits = subst (λ (y : Frame). y.first + y.words < 2 ^ 64) (sym fr) L.fits;
    });
    licensed = R.exit;
    landed = λ unlost telling. subst (λ (y : View). Licensed p m y (cell_now t)) (λ i. record u { flying = flying_none i }) (R.exit telling);
    log = λ r. R.retired.stands;
    free = λ r j is telling. ⊎_elim
        (λ (here : j ≡ c.chunk). (
          ap (tail_of x.log.chunks) here ∙ tail_gone,
          subst (λ (i : ℕ). Surely (cell_now t i) 0) (sym (first_same j)) (subst (λ (i : ℕ). Surely (cell_now t (first_of w.log i)) 0) (sym here) (R.retired.free telling)),
        ))
        (λ (ne : j ≢ c.chunk).
        let was = S.free E.runs j (sym (E.ends.gives.free j ∙ ap (λ (b : Bool). b || chunk_is_free w.allocator j) (ne_eqb j c.chunk ne)) ∙ is) (told telling) in
        (tail_stays j ne was.0, kind_stays telling j ne 0 was.1))
        (cases_eq j c.chunk);
    due = λ r j is telling.
        let was = S.due E.runs j (sym (E.ends.gives.due j) ∙ is) (told telling) in
        let ne = another j was.0 in
        (tail_stays j ne was.0, kind_stays telling j ne 0 was.1);
    cut = λ r j k is undue telling.
        let was = S.cut E.runs j k (sym (E.ends.gives.classes j) ∙ is) (sym (E.ends.gives.due j) ∙ undue) (told telling) in
        let ne = another j was.0 in
        (tail_stays j ne was.0, kind_stays telling j ne (2 + 256 * k) was.1);
    names = λ r on telling. record {
      counted = R.counted telling;
      read = λ h at. absurd (let both : None ≡ Some h = sym R.read ∙ at in cc both);
      floors = R.floors telling (S.names E.runs (sym (ap (λ (y : Worker). y.winds_down) E.same) ∙ on) (told telling)).floors;
      knows = R.names (told telling);
      cleaned = subst (λ (d : Cleaning). IsCleanedBy t x.log x.standing x.clearing d) (sym (ap (λ (y : Worker). y.cleaning) E.same)) tt;
    };
  }
