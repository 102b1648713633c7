use Rattle.std.proofs.Common.{◌≡◌, inl, inr, ℕ, not, Bool, true, false, [], ◌∷◌, ◌++◌, Option, refl, sym, ◌∙◌, ap, subst, None}
use Rattle.std.specs.Prelude.{◌+◌, ◌<◌, List, is_some}
use Rattle.std.specs.List.{AllByRecursion}
use Rattle.store_image.specs.Facts.{In}
use Rattle.group_laws.proofs.Clients.{In-append_left}
use Rattle.group_board.specs.Seats.{SeatAt}
use Rattle.group_board.specs.Trails.{step_with}
use Rattle.batch_leader.specs.declared.taken.Taken.{Taken}
use Rattle.pm_region.specs.State.{During, cell_now}
use Rattle.pm_region.specs.Words.{KeepsOutside}
use Rattle.chunk_map.specs.declared.layouts.Geometry.{Geometry}
use Rattle.chunk_map.specs.Layouts.{chunk_words}
use Rattle.core_log.specs.Chunk.{padded}
use Rattle.core_log.specs.Log.{open_first}
use Rattle.batch_leader.specs.Persisting.{opened_for}
use Rattle.core_log.specs.Log.{HoldsEntries}
use Rattle.core_log.proofs.Clients.{open_has, room_opens}
use Rattle.group_laws.specs.MemberViews.{View}
use Rattle.batch_leader.specs.TakenChanges.{entries_taken, spelled, taken_in}
use Rattle.batch_leader.specs.Rounds.{words_taken}
use Rattle.batch_leader.specs.Persisting.{HasRoom}
use Rattle.batch_leader.proofs.Clients.{batch_of}
use Rattle.core_worker.specs.declared.types.Leading.TheVariants as leads
use Rattle.core_worker.specs.Ties.{HasSpaceFor}
use Rattle.core_worker.specs.Turns.{TakesChunkIf, MadeOrStops, PersistsOrLoses, unpledged_if}
use Rattle.core_worker.specs.OwnPlaces.{place_at, own as own_lines_of}
use Rattle.group_laws.specs.Runs as runs
use Rattle.core_worker.specs.Status.{is_leading}
use Rattle.core_worker.proofs.UnderWay.{none_standing}
use Rattle.core_worker.proofs.CleaningKept.{leads_none}
use Rattle.core_worker.proofs.Flight.{runs_unlost, unlost_keeps}
use Rattle.core_worker.proofs.LeadTies.{led_here, leads_of}
use Rattle.core_worker.proofs.Made.{one_step}
use Rattle.core_worker.proofs.ChunksKept.{chunks_wrote}
use Rattle.core_worker.proofs.Renewing.{holds_renewed}
use Rattle.core_worker.proofs.Writing.{opened_layout, room_ready, takes_same, holds_wrote, stands_wrote}
use Rattle.core_worker.proofs.Unpledging.{pledged_by, less_own, each_place, certain_own, unpledged_at, holds_lowered, stands_lowered}
use Rattle.core_worker.proofs.NamesAgreeing.{lacks_taken}
use Rattle.core_worker.proofs.NamesWrote.{batch_stood}
use Rattle.core_worker.proofs.BatchRoom.{room_wrote}
use Rattle.core_worker.proofs.LeftItems.{persists_lower, loses_lower}
use Rattle.core_worker.proofs.worker.Worker.write_batch.Goals as goal

pub persist-requires-clause-room : goal.persist-requires-clause-room
persist-requires-clause-room g c =
    let p = (g.B.Board.seat c.args.board.now).place in
    let m = (g.B.Board.seat c.args.board.now).number in
    let v = g.B.Board.view c.args.board.now in
    let w = c.args.self.now in
    let H = c.requires.holds in
    let b = c.in-Batch.batch in
    room_ready (g.R.Region.state c.args.region.now) p m v w c.requires.stands H.sets (H.allocator_layout ∙ sym H.log_layout) c.requires.runs b.fresh b.own_lines (words_taken b.changes.taken.items) c.chunk_for-fresh.new.allocator c.chunk_for-fresh.result
    (subst (HasSpaceFor w) (sym c.in-Batch.ensures.value) (H.space c.requires.runs)) (subst (λ (f : Bool). TakesChunkIf f w.allocator c.chunk_for-fresh.new.allocator c.chunk_for-fresh.result) c.needs_chunk.ensures c.chunk_for-fresh.ensures.takes)

pub returns-in-Ok-clause-holds : goal.returns-in-Ok-clause-holds
returns-in-Ok-clause-holds g c =
    let p = (g.B.Board.seat c.args.board.now).place in
    let m = (g.B.Board.seat c.args.board.now).number in
    let v = g.B.Board.view c.args.board.now in
    let u = g.B.Board.view c.persist.new.board in
    let w = c.args.self.now in
    let H = c.requires.holds in
    let b = c.in-Batch.batch in
    let ts = b.changes.taken.items in
    let seat = g.B.Board.seat c.args.board.now in
    let had = led_here seat v c.args.self.now.leading (leads.Batch b) c.requires.holds.leads (sym c.in-Batch.ensures.value) in
    let view = c.in-Ok.ensures.view in
    let gives = c.in-Ok.ensures.gives in
    let takes = subst (λ (f : Bool). TakesChunkIf f w.allocator c.chunk_for-fresh.new.allocator c.chunk_for-fresh.result) c.needs_chunk.ensures c.chunk_for-fresh.ensures.takes in
    let own : c.member-own.result ≡ m = c.member-own.ensures ∙ ap (λ (x : SeatAt). x.number) c.persist.ensures.seat in
    let s = g.R.Region.state c.args.region.now in
    let o = c.chunk_for-fresh.result in
    let room = room_ready s p m v w c.requires.stands H.sets (H.allocator_layout ∙ sym H.log_layout) c.requires.runs b.fresh b.own_lines (words_taken ts) c.chunk_for-fresh.new.allocator o (subst (HasSpaceFor w) (sym c.in-Batch.ensures.value) (H.space c.requires.runs)) takes in
    let entries : HoldsEntries (spelled ts) = record { entries = entries_taken ts; words = refl; batch = batch_of p ts had.0.out.each b.some } in
    let opened : o ≡ None → is_some w.log.opened ≡ true = λ none. room_opens w.log (spelled ts) entries (subst (λ (x : Option ℕ). HasRoom s w.log (words_taken ts) x) none room) in
    let wrote = holds_wrote p m v u w c.chunk_for-fresh.new.allocator c.persist.new.log (leads.Persisted c.in-Ok.done) w.stopped w.lost_batch (v.kept ++ v.flying) [] v.taken v.holds [] v.took view (λ x i. In-append_left x v.kept v.flying i) H
    (takes_same b.fresh w.allocator c.chunk_for-fresh.new.allocator c.chunk_for-fresh.result takes) c.chunk_for-fresh.ensures.sets c.in-Ok.ensures.log.layout c.in-Ok.ensures.log.part
    (leads_of seat u (leads.Persisted c.in-Ok.done) (gives.1, ap (λ (x : View). x.holds) view ∙ had.1, (λ whole. ap (λ (x : View). x.flying) view), (λ none. b.some (sym gives.0 ∙ none))))
    tt (λ broken. absurd (let both : true ≡ false = sym broken ∙ ap (λ (x : View). x.broken) view ∙ had.0.whole in cc both)) (λ lost. absurd (cc lost)) (unlost_keeps u.flying u.broken (leads.Persisted c.in-Ok.done) w.lost_batch w.stopped (runs_unlost v.flying v.broken w.leading w.lost_batch w.stopped H.flight c.requires.runs) (ap (λ (x : View). x.flying) view)) (λ runs. runs) (λ stopped. stopped)
    (λ runs. chunks_wrote p.layout.chunks b.fresh w.allocator c.chunk_for-fresh.new.allocator c.chunk_for-fresh.result w.log c.persist.new.log (padded (spelled ts)) H.sets takes (λ none. ap is_some (open_has w.log (c.requires.stands.log c.requires.runs).own (opened none))) c.in-Ok.ensures.wrote.log_is (H.chunks c.requires.runs)) (leads_none p m v w H.cleaning (ap is_leading (sym c.in-Batch.ensures.value))) in
    holds_renewed p m u (record w { log = c.persist.new.log; allocator = c.chunk_for-fresh.new.allocator; leading = leads.Persisted c.in-Ok.done; places = c.unpledge.new.places }) c.note_names.new.standing w.winds_down (λ on. on) (inl (none_standing w c.note_names.new.standing (leads_none p m v w H.cleaning (ap is_leading (sym c.in-Batch.ensures.value)))))
    (holds_lowered p m u (record w { log = c.persist.new.log; allocator = c.chunk_for-fresh.new.allocator; leading = leads.Persisted c.in-Ok.done; stopped = w.stopped; lost_batch = w.lost_batch }) wrote c.unpledge.new.places c.unpledge.ensures.count (λ s. is_some (taken_in ts m s))
    (λ s lt. c.unpledge.ensures.each s lt ∙ (λ i. unpledged_if (is_some (taken_in (gives.0 i) (own i) s)) (place_at w.places.items s)))
    (certain_own p m v u w H ts had.0.unlogged (subst (λ (rs : List Taken). AllByRecursion (λ t. In t.change.entry u.kept) rs) gives.0 gives.1.kept) (ap (λ (x : View). x.pending) view)) (λ runs. tt))

pub returns-in-Ok-clause-stands : goal.returns-in-Ok-clause-stands
returns-in-Ok-clause-stands g c =
    let p = (g.B.Board.seat c.args.board.now).place in
    let m = (g.B.Board.seat c.args.board.now).number in
    let v = g.B.Board.view c.args.board.now in
    let u = g.B.Board.view c.persist.new.board in
    let w = c.args.self.now in
    let s = g.R.Region.state c.args.region.now in
    let H = c.requires.holds in
    let b = c.in-Batch.batch in
    let a = c.chunk_for-fresh.new.allocator in
    let o = c.chunk_for-fresh.result in
    let seat = g.B.Board.seat c.args.board.now in
    let had = led_here seat v c.args.self.now.leading (leads.Batch b) c.requires.holds.leads (sym c.in-Batch.ensures.value) in
    let takes = subst (λ (f : Bool). TakesChunkIf f w.allocator a o) c.needs_chunk.ensures c.chunk_for-fresh.ensures.takes in
    let room = room_ready s p m v w c.requires.stands H.sets (H.allocator_layout ∙ sym H.log_layout) c.requires.runs b.fresh b.own_lines (words_taken b.changes.taken.items) a o (subst (HasSpaceFor w) (sym c.in-Batch.ensures.value) (H.space c.requires.runs)) takes in
    let entries : HoldsEntries (spelled b.changes.taken.items) = record { entries = entries_taken b.changes.taken.items; words = refl; batch = batch_of p b.changes.taken.items had.0.out.each b.some } in
    let ts = b.changes.taken.items in
    let t = g.R.Region.state c.persist.new.region in
    let chunk = subst (λ (l : Geometry). During s t (KeepsOutside (cell_now s) (open_first (opened_for w.log o)) (open_first (opened_for w.log o) + chunk_words l))) (opened_layout w.log o) c.persist.ensures.chunk in
    let opened : o ≡ None → is_some w.log.opened ≡ true = λ none. room_opens w.log (spelled ts) entries (subst (λ (x : Option ℕ). HasRoom s w.log (words_taken ts) x) none room) in
    let names = batch_stood s t p m v w a c.persist.new.log b.fresh o (entries_taken ts) H c.requires.stands c.requires.runs takes chunk c.in-Ok.ensures.wrote opened c.note_names.new.standing entries.batch had.0.flying (lacks_taken m v ts had.0.unlogged) had.0.named (leads_none p m v w H.cleaning (ap is_leading (sym c.in-Batch.ensures.value))) (λ on. c.note_names.ensures.adds (ap not on)) in
    stands_lowered t p m u (record w { log = c.persist.new.log; allocator = a; leading = leads.Persisted c.in-Ok.done; standing = c.note_names.new.standing }) c.unpledge.new.places
    (stands_wrote s t p m v w a c.persist.new.log b.fresh o (spelled ts) H c.requires.stands c.requires.runs takes chunk c.in-Ok.ensures.wrote opened
    u c.in-Ok.done c.note_names.new.standing names c.in-Ok.ensures.view c.persist.ensures.exit)

pub returns-in-Err-clause-holds : goal.returns-in-Err-clause-holds
returns-in-Err-clause-holds g c =
    let p = (g.B.Board.seat c.args.board.now).place in
    let m = (g.B.Board.seat c.args.board.now).number in
    let v = g.B.Board.view c.args.board.now in
    let u = g.B.Board.view c.persist.new.board in
    let w = c.args.self.now in
    let H = c.requires.holds in
    let b = c.in-Batch.batch in
    let seat = g.B.Board.seat c.args.board.now in
    let had = led_here seat v c.args.self.now.leading (leads.Batch b) c.requires.holds.leads (sym c.in-Batch.ensures.value) in
    let view = c.in-Err.ensures.view in
    let gives = c.in-Err.ensures.gives in
    let takes = subst (λ (f : Bool). TakesChunkIf f w.allocator c.chunk_for-fresh.new.allocator c.chunk_for-fresh.result) c.needs_chunk.ensures c.chunk_for-fresh.ensures.takes in
    holds_renewed p m u (record w { log = c.persist.new.log; allocator = c.chunk_for-fresh.new.allocator; leading = leads.Failed c.in-Err.lost; stopped = true; lost_batch = true }) c.note_names.new.standing w.winds_down (λ on. on) (inl refl)
    (holds_wrote p m v u w c.chunk_for-fresh.new.allocator c.persist.new.log (leads.Failed c.in-Err.lost) true true v.kept v.flying v.taken v.holds v.looked v.took view (λ x i. i) H
    (takes_same b.fresh w.allocator c.chunk_for-fresh.new.allocator c.chunk_for-fresh.result takes) c.chunk_for-fresh.ensures.sets c.in-Err.ensures.log.layout c.in-Err.ensures.log.part
    (leads_of seat u (leads.Failed c.in-Err.lost) (gives.1, ap (λ (x : View). x.holds) view ∙ had.1, (λ none. b.some (sym gives.0 ∙ none))))
    tt (λ broken. refl) (λ lost. refl) (record { led = λ off. absurd (cc off); stops = λ on. refl; fails = λ on. inr refl }) (λ runs. absurd (cc runs)) (λ stopped. refl) (λ runs. absurd (cc runs)) (leads_none p m v w H.cleaning (ap is_leading (sym c.in-Batch.ensures.value))))

pub returns-in-Ok-clause-made : goal.returns-in-Ok-clause-made
returns-in-Ok-clause-made g c =
    let m = (g.B.Board.seat c.args.board.now).number in
    let v = g.B.Board.view c.args.board.now in
    let u = g.B.Board.view c.persist.new.board in
    subst (λ (b : Bool). MadeOrStops b (g.B.Board.whole c.args.board.now) (g.B.Board.whole c.persist.new.board) m v u) (sym c.requires.runs)
    (runs.Kind.Commit ∷ [], one_step (g.B.Board.whole c.args.board.now) (g.B.Board.whole c.persist.new.board) m runs.Kind.Commit u c.in-Ok.ensures.made)

pub returns-in-Ok-clause-rule : goal.returns-in-Ok-clause-rule
returns-in-Ok-clause-rule g c runs rule =
    let s = g.R.Region.state c.args.region.now in
    let p = (g.B.Board.seat c.args.board.now).place in
    let m = (g.B.Board.seat c.args.board.now).number in
    let v = g.B.Board.view c.args.board.now in
    let w = c.args.self.now in
    let H = c.requires.holds in
    let b = c.in-Batch.batch in
    let ts = b.changes.taken.items in
    let a = c.chunk_for-fresh.new.allocator in
    let o = c.chunk_for-fresh.result in
    let seat = g.B.Board.seat c.args.board.now in
    let had = led_here seat v c.args.self.now.leading (leads.Batch b) c.requires.holds.leads (sym c.in-Batch.ensures.value) in
    let gives = c.in-Ok.ensures.gives in
    let takes = subst (λ (f : Bool). TakesChunkIf f w.allocator a o) c.needs_chunk.ensures c.chunk_for-fresh.ensures.takes in
    let space = subst (HasSpaceFor w) (sym c.in-Batch.ensures.value) (H.space c.requires.runs) in
    let room = room_ready s p m v w c.requires.stands H.sets (H.allocator_layout ∙ sym H.log_layout) c.requires.runs b.fresh b.own_lines (words_taken ts) a o space takes in
    let entries : HoldsEntries (spelled ts) = record { entries = entries_taken ts; words = refl; batch = batch_of p ts had.0.out.each b.some } in
    let own : c.member-own.result ≡ m = c.member-own.ensures ∙ ap (λ (x : SeatAt). x.number) c.persist.ensures.seat in
    let each : (s : ℕ) → s < 8 → place_at c.unpledge.new.places.items s ≡ unpledged_if (is_some (taken_in ts m s)) (place_at w.places.items s) = λ s lt. c.unpledge.ensures.each s lt ∙ (λ i. unpledged_if (is_some (taken_in (gives.0 i) (own i) s)) (place_at w.places.items s)) in
    let less = less_own m ts c.unpledge.new.places.items w.places.items (c.unpledge.ensures.count ∙ sym H.eight) had.0.out.apart (pledged_by p m v w H ts had.0.unlogged) (each_place ts m w.places.items c.unpledge.new.places.items H.eight c.unpledge.ensures.count each) in
    let none = leads_none p m v w H.cleaning (ap is_leading (sym c.in-Batch.ensures.value)) in
    room_wrote p m v w (record w { log = c.persist.new.log; allocator = a; standing = c.note_names.new.standing; places = c.unpledge.new.places; leading = leads.Persisted c.in-Ok.done }) H b.fresh o b.own_lines (spelled ts) space takes
    (λ none. room_opens w.log (spelled ts) entries (subst (λ (x : Option ℕ). HasRoom s w.log (words_taken ts) x) none room))
    c.in-Ok.ensures.wrote.log_is (ap (λ (n : ℕ). own_lines_of c.unpledge.new.places.items + n) had.0.own ∙ less) (none_standing w c.note_names.new.standing none ∙ sym none) none rule

pub returns-in-Ok-clause-persists : goal.returns-in-Ok-clause-persists
returns-in-Ok-clause-persists g c =
    let p = (g.B.Board.seat c.args.board.now).place in
    let m = (g.B.Board.seat c.args.board.now).number in
    let v = g.B.Board.view c.args.board.now in
    let u = g.B.Board.view c.persist.new.board in
    let w = c.args.self.now in
    let H = c.requires.holds in
    let b = c.in-Batch.batch in
    let ts = b.changes.taken.items in
    let a = c.chunk_for-fresh.new.allocator in
    let o = c.chunk_for-fresh.result in
    let seat = g.B.Board.seat c.args.board.now in
    let had = led_here seat v c.args.self.now.leading (leads.Batch b) c.requires.holds.leads (sym c.in-Batch.ensures.value) in
    let gives = c.in-Ok.ensures.gives in
    let takes = subst (λ (f : Bool). TakesChunkIf f w.allocator a o) c.needs_chunk.ensures c.chunk_for-fresh.ensures.takes in
    let own : c.member-own.result ≡ m = c.member-own.ensures ∙ ap (λ (x : SeatAt). x.number) c.persist.ensures.seat in
    let each : (s : ℕ) → s < 8 → place_at c.unpledge.new.places.items s ≡ unpledged_if (is_some (taken_in ts m s)) (place_at w.places.items s) = λ s lt. c.unpledge.ensures.each s lt ∙ (λ i. unpledged_if (is_some (taken_in (gives.0 i) (own i) s)) (place_at w.places.items s)) in
    let all = each_place ts m w.places.items c.unpledge.new.places.items H.eight c.unpledge.ensures.count each in
    let new = record w { log = c.persist.new.log; allocator = a; places = c.unpledge.new.places; leading = leads.Persisted c.in-Ok.done; standing = c.note_names.new.standing } in
    subst (λ (x : Bool). PersistsOrLoses x m (record { worker = w; view = v }) (record { worker = new; view = u })) (sym c.requires.runs)
    (record {
      batch = b;
      done = c.in-Ok.done;
      led = sym c.in-Batch.ensures.value;
      leads_now = refl;
      gives = gives.0;
      fresh = o;
      chunk = takes;
      log = c.in-Ok.ensures.wrote.log_is;
      pledged = λ s. unpledged_at ts m w.places.items (place_at c.unpledge.new.places.items s) s (pledged_by p m v w H ts had.0.unlogged s) (all s);
      view = c.in-Ok.ensures.view;
      names = λ on. c.note_names.ensures.adds (ap not on);
      stands = c.note_names.ensures.count;
      winds = λ on. on;
      same = refl;
    })

pub returns-in-Err-clause-persists : goal.returns-in-Err-clause-persists
returns-in-Err-clause-persists g c = record {
  batch = c.in-Batch.batch;
  lost = c.in-Err.lost;
  led = sym c.in-Batch.ensures.value;
  leads_now = refl;
  gives = c.in-Err.ensures.gives.0;
  stopped = refl;
  noted = refl;
  stands = c.note_names.ensures.count;
  view = c.in-Err.ensures.view;
  same = refl;
}

pub returns-in-Ok-clause-less : goal.returns-in-Ok-clause-less
returns-in-Ok-clause-less g c =
    let m = (g.B.Board.seat c.args.board.now).number in
    let v = g.B.Board.view c.args.board.now in
    let u = g.B.Board.view c.persist.new.board in
    let w = c.args.self.now in
    let new = record w { log = c.persist.new.log; allocator = c.chunk_for-fresh.new.allocator; places = c.unpledge.new.places; leading = leads.Persisted c.in-Ok.done; standing = c.note_names.new.standing } in
    persists_lower (g.B.Board.whole c.args.board.now) (g.B.Board.whole c.persist.new.board) m (record { worker = w; view = v }) (record { worker = new; view = u }) (c.unpledge.ensures.count ∙ sym c.requires.holds.eight)
    (subst (λ (x : Bool). PersistsOrLoses x m (record { worker = w; view = v }) (record { worker = new; view = u })) c.requires.runs (returns-in-Ok-clause-persists g c))
    (g.met.B.Board.lawful c.args.board.now) c.in-Ok.ensures.made

pub returns-in-Err-clause-less : goal.returns-in-Err-clause-less
returns-in-Err-clause-less g c =
    let w = c.args.self.now in
    let new = record w { log = c.persist.new.log; allocator = c.chunk_for-fresh.new.allocator; leading = leads.Failed c.in-Err.lost; standing = c.note_names.new.standing; stopped = true; lost_batch = true } in
    loses_lower (g.B.Board.whole c.args.board.now) (g.B.Board.whole c.persist.new.board) (record { worker = w; view = g.B.Board.view c.args.board.now }) (record { worker = new; view = g.B.Board.view c.persist.new.board }) (returns-in-Err-clause-persists g c) c.in-Err.ensures.made

pub returns-in-Ok-clause-steps : goal.returns-in-Ok-clause-steps
returns-in-Ok-clause-steps g c passes = record { made = step_with runs.Kind.Commit (g.B.Board.view c.persist.new.board) ∷ []; more = c.in-Ok.ensures.steps.0; loads = tt; ends = refl; last = record { handed = λ _. c.in-Ok.ensures.steps.1; alone = λ _ no. absurd (cc no) }; asks = λ no. absurd (cc no) }

pub returns-in-Err-clause-steps : goal.returns-in-Err-clause-steps
returns-in-Err-clause-steps g c passes = record { made = []; more = c.in-Err.ensures.steps; loads = tt; ends = c.in-Err.ensures.view; last = tt; asks = tt }
