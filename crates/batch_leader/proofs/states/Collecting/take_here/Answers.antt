use Rattle.std.proofs.Common.{◌≡◌, ℕ, ◌+◌, ◌-◌, ◌<◌, ◌==◌, Bool, if◌then◌else◌, [], length, refl, sym, ◌∙◌, ap, subst, arith, length-append}
use Rattle.pm_region.specs.Words.{lines_for}
use Rattle.log_entry.specs.Spelling.{words_of}
use Rattle.group_laws.specs.Places.{members}
use Rattle.batch_leader.specs.declared.taken.Taken.{Taken}
use Rattle.batch_leader.specs.Rounds.{goes_fresh, words_taken, member_at, slot_at, fits}
use Rattle.batch_leader.specs.TakenChanges.{spelled}
use Rattle.batch_leader.specs.Leading.{HasSpace}
use Rattle.batch_leader.proofs.CollectLaws.{spelled_more, collects_more, fits_suits, more_own, own_none, member_low}
use Rattle.batch_leader.proofs.states.Collecting.take_here.Goals as goal

pub returns-clause-collects : goal.returns-clause-collects
returns-clause-collects g c =
    let long : length (words_of c.take-change.result.entry) ≡ c.args.count = c.take-change.ensures.words c.args.count c.requires.seen in
    let t : Taken = record { member = c.args.member; slot = c.args.slot; change = c.take-change.result } in
    collects_more (g.B.Board.seat c.args.board.now) (g.B.Board.view c.args.board.now) (g.B.Board.view c.take-change.new.self) c.args.self.now _ t
    c.requires.collects c.requires.whole c.requires.few c.requires.within c.add.ensures refl
    (ap (λ (n : ℕ). c.args.self.now.own_lines + n) (c.own_share-lines.ensures.share ∙ (λ i. if c.args.member == c.requires.own i then lines_for (sym long i) else 0)))
    (omega (arith, long, c.requires.short)) c.requires.member c.requires.slot c.take-change.ensures.spelled c.take-change.ensures.unlogged c.take-change.ensures.view

pub returns-clause-suits : goal.returns-clause-suits
returns-clause-suits g c some =
    let long : length (words_of c.take-change.result.entry) ≡ c.args.count = c.take-change.ensures.words c.args.count c.requires.seen in
    let ts = c.args.self.now.changes.taken.items in
    let total : words_taken c.add.new.self.taken.items ≡ words_taken ts + c.args.count =
    ap words_taken c.add.ensures ∙ ap length (spelled_more ts (record { member = c.args.member; slot = c.args.slot; change = c.take-change.result })) ∙ length-append (spelled ts) (words_of c.take-change.result.entry) ∙ ap (λ (n : ℕ). words_taken ts + n) long in
    let fresh = c.goes_fresh-fresh.ensures in
    let none : ts ≡ [] → c.args.self.now.own_lines ≡ 0 = λ e. c.requires.collects.own ∙ own_none (g.B.Board.seat c.args.board.now).number ts e in
    let fit = fits_suits c.args.room.now c.args.self.now.own_lines ts c.args.self.now.fresh (c.args.member == c.args.own) c.args.count c.requires.room c.requires.short none c.requires.suits c.requires.fits in
    let lines : c.args.self.now.own_lines + c.own_share-lines.result ≡ c.args.self.now.own_lines + more_own (c.args.member == c.args.own) c.args.count = ap (λ (n : ℕ). c.args.self.now.own_lines + n) c.own_share-lines.ensures.share in
    subst (λ (n : ℕ). HasSpace c.args.room.now c.goes_fresh-fresh.result n (words_taken c.add.new.self.taken.items)) (sym lines)
    (subst (HasSpace c.args.room.now c.goes_fresh-fresh.result (c.args.self.now.own_lines + more_own (c.args.member == c.args.own) c.args.count)) (sym total)
    (subst (λ (b : Bool). HasSpace c.args.room.now b (c.args.self.now.own_lines + more_own (c.args.member == c.args.own) c.args.count) (words_taken ts + c.args.count)) (sym fresh) fit))

pub returns-clause-takes : goal.returns-clause-takes
returns-clause-takes g c =
    let long : length (words_of c.take-change.result.entry) ≡ c.args.count = c.take-change.ensures.words c.args.count c.requires.seen in
    let back : c.args.self.now.at + 1 - 1 ≡ c.args.self.now.at = omega arith in
    record {
      change = record { member = c.args.member; slot = c.args.slot; change = c.take-change.result };
      taken = c.add.ensures;
      on = omega arith;
      member = c.requires.member ∙ ap (member_at (g.B.Board.seat c.args.board.now).number) (sym back);
      slot = c.requires.slot ∙ ap slot_at (sym back);
      fits = (λ i. fits c.args.room.now (sym c.requires.collects.own i) c.args.self.now.changes.taken.items c.args.self.now.fresh (c.args.member == sym c.requires.own i) (long i)) ∙ c.requires.fits;
      fresh = c.goes_fresh-fresh.ensures ∙ ap (goes_fresh c.args.room.now c.args.self.now.changes.taken.items c.args.self.now.fresh) (sym long);
      home = c.take-change.ensures.change;
      over = refl;
      view = c.take-change.ensures.view;
    }

pub take-change-requires : goal.take-change-requires
take-change-requires g c =
    let p = (g.B.Board.seat c.args.board.now).place in
    let m = (g.B.Board.seat c.args.board.now).number in
    record {
      member = c.requires.collects.member;
      target = subst (λ (a : ℕ). a < members p) (sym c.requires.member) (member_low m c.args.self.now.at (members p) c.requires.collects.member c.requires.within);
      slot = let at = c.requires.slot in omega (arith, at);
      holds = c.requires.collects.holds;
      whole = c.requires.whole;
      seen = (c.args.count, c.requires.seen);
    }
