use Rattle.std.proofs.Common.{◌≡◌, inl, inr, true, false, [], ◌∷◌, ◌++◌, Some, refl, sym, ◌∙◌, ap, subst}
use Rattle.core_log.specs.declared.types.Room.{Room}
use Rattle.group_laws.specs.Updates.{put2}
use Rattle.group_laws.specs.MemberViews.{View}
use Rattle.group_board.specs.Views.{after_unlock}
use Rattle.batch_leader.specs.Leading.{Suits, Went, IsReleased, SawPassed}
use Rattle.core_worker.specs.declared.types.Leading.TheVariants as leads
use Rattle.group_board.specs.Seats.{SeatAt}
use Rattle.core_worker.specs.Ties.{LeadsAt, is_lost, HasSpaceFor}
use Rattle.core_worker.specs.Status.{is_leading}
use Rattle.core_worker.proofs.CleaningKept.{leads_none}
use Rattle.core_worker.proofs.LeadTies.{leads_of}
use Rattle.core_worker.proofs.Flight.{led_flies, runs_unlost, unlost_keeps}
use Rattle.core_worker.proofs.Led.{holds_by, stands_by, stands_taking, runs_whole}
use Rattle.core_worker.proofs.Rounds.{released_leads, released_space, released_not_lost}
use Rattle.group_laws.specs.Runs as runs
use Rattle.group_board.specs.Told.{Makes}
use Rattle.batch_leader.specs.Leading.{steps_of}
use Rattle.batch_leader.proofs.Clients.{makes_then}
use Rattle.core_worker.proofs.Made.{one_step, and_then, round_of, steps_made}
use Rattle.core_worker.specs.Turns.{Collects, Releases}
use Rattle.core_worker.proofs.LeftRounds.{collects_lower, releases_lower}
use Rattle.batch_leader.proofs.Clients.{loads_then, one_only, turn_of_one}
use Rattle.core_worker.proofs.worker.Worker.go_round.Goals as goal

pub returns-in-Took-clause-holds : goal.returns-in-Took-clause-holds
returns-in-Took-clause-holds g c =
    let p = (g.B.Board.seat c.args.board.now).place in
    let m = (g.B.Board.seat c.args.board.now).number in
    let v = g.B.Board.view c.args.board.now in
    let w = c.args.self.now in
    let l = leads.Collecting c.collect.new.self in
    let u = g.B.Board.view c.collect.new.board in
    let t = c.in-Took.ensures.went.0 in
    holds_by p m v u c.args.self.now (v.flying ++ t.change.change.entry ∷ []) (put2 v.taken t.change.member t.change.slot (Some t.change.change.entry)) v.holds [] (v.took ++ t.change.change.entry ∷ []) (leads.Collecting c.collect.new.self) t.view c.requires.holds
    (leads_of (g.B.Board.seat c.args.board.now) u (leads.Collecting c.collect.new.self) c.in-Took.ensures.collects) (inl (leads_none p m v c.args.self.now c.requires.holds.cleaning (ap is_leading (sym c.in-Collecting.ensures.value)))) (λ runs. subst (λ (r : Room). Suits r c.collect.new.self) c.requires.room c.in-Took.ensures.suits) (λ e. absurd (cc e))
    (unlost_keeps u.flying u.broken l w.lost_batch w.stopped (runs_unlost v.flying v.broken w.leading w.lost_batch w.stopped c.requires.holds.flight c.requires.runs) (led_flies (g.B.Board.seat c.args.board.now) u l c.in-Took.ensures.collects (ap (λ (x : View). x.broken) t.view ∙ runs_whole p m v w c.requires.holds c.requires.runs) refl))

pub returns-in-Took-clause-stands : goal.returns-in-Took-clause-stands
returns-in-Took-clause-stands g c s S =
    let p = (g.B.Board.seat c.args.board.now).place in
    let m = (g.B.Board.seat c.args.board.now).number in
    let v = g.B.Board.view c.args.board.now in
    let w = c.args.self.now in
    let u = g.B.Board.view c.collect.new.board in
    let t = c.in-Took.ensures.went.0 in
    stands_taking s p m v u c.args.self.now (v.flying ++ t.change.change.entry ∷ []) (put2 v.taken t.change.member t.change.slot (Some t.change.change.entry)) [] (v.took ++ t.change.change.entry ∷ []) (leads.Collecting c.collect.new.self) t.view
    (runs_unlost v.flying v.broken w.leading w.lost_batch w.stopped c.requires.holds.flight c.requires.runs) S

pub returns-in-Took-clause-went : goal.returns-in-Took-clause-went
returns-in-Took-clause-went g c =
    inl (record {
      old = c.in-Collecting.collecting;
      new = c.collect.new.self;
      led = sym c.in-Collecting.ensures.value;
      leads_now = refl;
      runs = c.requires.runs;
      went = subst (λ (r : Room). Went true (g.B.Board.whole c.args.board.now) r ((g.B.Board.seat c.args.board.now).number) (g.B.Board.view c.args.board.now) (g.B.Board.view c.collect.new.board) c.in-Collecting.collecting c.collect.new.self) c.requires.room c.in-Took.ensures.went;
      same = refl;
    })

pub returns-in-RoundOver-clause-holds : goal.returns-in-RoundOver-clause-holds
returns-in-RoundOver-clause-holds g c =
    let p = (g.B.Board.seat c.args.board.now).place in
    let m = (g.B.Board.seat c.args.board.now).number in
    let v = g.B.Board.view c.args.board.now in
    let w = c.args.self.now in
    let mid = g.B.Board.view c.collect.new.board in
    let u = g.B.Board.view c.release.new.board in
    let kept = c.in-RoundOver.ensures.went.0 in
    let here = g.B.Board.seat c.args.board.now in
    let seat = c.collect.ensures.seat in
    let view = c.release.ensures.view ∙ ap after_unlock kept.view.1 in
    let led = c.led_by.ensures in
    let released = subst (λ (q : SeatAt). IsReleased q u c.collect.new.self c.release.result) seat c.release.ensures.released in
    let suits = subst (λ (r : Room). Suits r c.collect.new.self) c.requires.room c.collect.ensures.suits in
    let leads_now : LeadsAt here u c.led_by.result = subst (LeadsAt here u) (sym led) (released_leads here u c.collect.new.self c.release.result released (ap (λ (x : View). x.holds) view)) in
    holds_by p m v u c.args.self.now v.flying v.taken false [] v.took c.led_by.result view c.requires.holds
    (leads_of here u c.led_by.result leads_now)
    (inl (leads_none p m v c.args.self.now c.requires.holds.cleaning (ap is_leading (sym c.in-Collecting.ensures.value))))
    (λ runs. subst (HasSpaceFor c.args.self.now) (sym led) (released_space c.args.self.now here u c.collect.new.self c.release.result released suits))
    (λ e. absurd (let both : true ≡ false = sym e ∙ ap is_lost led ∙ released_not_lost c.release.result in cc both))
    (unlost_keeps u.flying u.broken c.led_by.result w.lost_batch w.stopped (runs_unlost v.flying v.broken w.leading w.lost_batch w.stopped c.requires.holds.flight c.requires.runs) (led_flies here u c.led_by.result leads_now (ap (λ (x : View). x.broken) view ∙ runs_whole p m v w c.requires.holds c.requires.runs) (ap is_lost led ∙ released_not_lost c.release.result)))

pub returns-in-RoundOver-clause-stands : goal.returns-in-RoundOver-clause-stands
returns-in-RoundOver-clause-stands g c s S =
    let p = (g.B.Board.seat c.args.board.now).place in
    let m = (g.B.Board.seat c.args.board.now).number in
    let v = g.B.Board.view c.args.board.now in
    let u = g.B.Board.view c.release.new.board in
    let kept = c.in-RoundOver.ensures.went.0 in
    stands_by s p m v u c.args.self.now v.taken false [] v.took c.led_by.result (c.release.ensures.view ∙ ap after_unlock kept.view.1) S

pub returns-in-RoundOver-clause-went : goal.returns-in-RoundOver-clause-went
returns-in-RoundOver-clause-went g c =
    let p = (g.B.Board.seat c.args.board.now).place in
    let m = (g.B.Board.seat c.args.board.now).number in
    let u = g.B.Board.view c.release.new.board in
    let here = g.B.Board.seat c.args.board.now in
    let seat = c.collect.ensures.seat in
    let released = subst (λ (q : SeatAt). IsReleased q u c.collect.new.self c.release.result) seat c.release.ensures.released in
    inr (record {
      old = c.in-Collecting.collecting;
      last = c.collect.new.self;
      mid = g.B.Board.view c.collect.new.board;
      given = c.release.result;
      led = sym c.in-Collecting.ensures.value;
      leads_now = c.led_by.ensures;
      runs = c.requires.runs;
      went = subst (λ (r : Room). Went false (g.B.Board.whole c.args.board.now) r m (g.B.Board.view c.args.board.now) (g.B.Board.view c.collect.new.board) c.in-Collecting.collecting c.collect.new.self) c.requires.room c.in-RoundOver.ensures.went;
      over = (c.in-RoundOver.ensures.over refl).0;
      end = (c.in-RoundOver.ensures.over refl).1;
      seen = subst (λ (r : Room). SawPassed r (g.B.Board.seat c.args.board.now).number (g.B.Board.view c.args.board.now) (g.B.Board.view c.collect.new.board) c.in-Collecting.collecting c.collect.new.self) c.requires.room (c.in-RoundOver.ensures.seen refl);
      released = released;
      view = c.release.ensures.view;
      same = refl;
    })

pub returns-in-RoundOver-clause-made : goal.returns-in-RoundOver-clause-made
returns-in-RoundOver-clause-made g c =
    let m = (g.B.Board.seat c.args.board.now).number in
    let w0 = g.B.Board.whole c.args.board.now in
    let w1 = g.B.Board.whole c.collect.new.board in
    let w2 = g.B.Board.whole c.release.new.board in
    let mid = g.B.Board.view c.collect.new.board in
    let u = g.B.Board.view c.release.new.board in
    let xs = steps_of false m c.in-Collecting.collecting c.collect.new.self in
    steps_made w0 w2 m u (xs ++ (m, runs.Kind.Unlock) ∷ []) (and_then m xs runs.Kind.Unlock (round_of false m c.in-Collecting.collecting c.collect.new.self)) (makes_then w0 w1 w2 xs ((m, runs.Kind.Unlock) ∷ []) m mid u c.in-RoundOver.ensures.made
    (one_step w1 w2 m runs.Kind.Unlock u (subst (λ (q : SeatAt). Makes w1 q.number runs.Kind.Unlock w2 u) c.collect.ensures.seat c.release.ensures.whole)))

pub returns-in-Took-clause-made : goal.returns-in-Took-clause-made
returns-in-Took-clause-made g c =
    let m = (g.B.Board.seat c.args.board.now).number in
    steps_made (g.B.Board.whole c.args.board.now) (g.B.Board.whole c.collect.new.board) m (g.B.Board.view c.collect.new.board) (steps_of true m c.in-Collecting.collecting c.collect.new.self) (round_of true m c.in-Collecting.collecting c.collect.new.self) c.in-Took.ensures.made

pub returns-in-Took-clause-less : goal.returns-in-Took-clause-less
returns-in-Took-clause-less g c rule starts =
    let m = (g.B.Board.seat c.args.board.now).number in
    let w = c.args.self.now in
    let new = record w { leading = leads.Collecting c.collect.new.self } in
    let v = g.B.Board.view c.args.board.now in
    let u = g.B.Board.view c.collect.new.board in
    let C : Collects (g.B.Board.whole c.args.board.now) m (record { worker = w; view = v }) (record { worker = new; view = u }) = record {
      old = c.in-Collecting.collecting;
      new = c.collect.new.self;
      led = sym c.in-Collecting.ensures.value;
      leads_now = refl;
      runs = c.requires.runs;
      went = subst (λ (r : Room). Went true (g.B.Board.whole c.args.board.now) r m v u c.in-Collecting.collecting c.collect.new.self) c.requires.room c.in-Took.ensures.went;
      same = refl;
    } in
    collects_lower (g.B.Board.whole c.args.board.now) (g.B.Board.whole c.collect.new.board) m (record { worker = w; view = v }) (record { worker = new; view = u }) C (g.met.B.Board.lawful c.args.board.now) c.in-Took.ensures.made

pub returns-in-RoundOver-clause-less : goal.returns-in-RoundOver-clause-less
returns-in-RoundOver-clause-less g c rule starts =
    let here = g.B.Board.seat c.args.board.now in
    let m = here.number in
    let w0 = g.B.Board.whole c.args.board.now in
    let w1 = g.B.Board.whole c.collect.new.board in
    let w2 = g.B.Board.whole c.release.new.board in
    let v = g.B.Board.view c.args.board.now in
    let mid = g.B.Board.view c.collect.new.board in
    let u = g.B.Board.view c.release.new.board in
    let w = c.args.self.now in
    let new = record w { leading = c.led_by.result } in
    let xs = steps_of false m c.in-Collecting.collecting c.collect.new.self in
    let R : Releases w0 here (record { worker = w; view = v }) (record { worker = new; view = u }) = record {
      old = c.in-Collecting.collecting;
      last = c.collect.new.self;
      mid = mid;
      given = c.release.result;
      led = sym c.in-Collecting.ensures.value;
      leads_now = c.led_by.ensures;
      runs = c.requires.runs;
      went = subst (λ (r : Room). Went false w0 r m v mid c.in-Collecting.collecting c.collect.new.self) c.requires.room c.in-RoundOver.ensures.went;
      over = (c.in-RoundOver.ensures.over refl).0;
      end = (c.in-RoundOver.ensures.over refl).1;
      seen = subst (λ (r : Room). SawPassed r (g.B.Board.seat c.args.board.now).number (g.B.Board.view c.args.board.now) (g.B.Board.view c.collect.new.board) c.in-Collecting.collecting c.collect.new.self) c.requires.room (c.in-RoundOver.ensures.seen refl);
      released = subst (λ (q : SeatAt). IsReleased q u c.collect.new.self c.release.result) c.collect.ensures.seat c.release.ensures.released;
      view = c.release.ensures.view;
      same = refl;
    } in
    releases_lower w0 w2 here (record { worker = w; view = v }) (record { worker = new; view = u }) R c.requires.holds rule starts (c.in-RoundOver.ensures.over refl).1 c.requires.holds.member (g.met.B.Board.agrees c.args.board.now) (g.met.B.Board.lawful c.args.board.now)
    (makes_then w0 w1 w2 xs ((m, runs.Kind.Unlock) ∷ []) m mid u c.in-RoundOver.ensures.made (one_step w1 w2 m runs.Kind.Unlock u (subst (λ (q : SeatAt). Makes w1 q.number runs.Kind.Unlock w2 u) c.collect.ensures.seat c.release.ensures.whole)))

pub returns-in-Took-clause-steps : goal.returns-in-Took-clause-steps
returns-in-Took-clause-steps g c passes s = turn_of_one passes s _ _ _ _ _ _ c.in-Took.ensures.steps

pub returns-in-RoundOver-clause-steps : goal.returns-in-RoundOver-clause-steps
returns-in-RoundOver-clause-steps g c passes s = turn_of_one passes s _ _ _ _ _ _ (loads_then _ _ _ _ _ _ c.in-RoundOver.ensures.steps (one_only _ _ _ _ (runs.Kind.Unlock) c.release.ensures.step refl))
