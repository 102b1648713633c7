use Rattle.group_laws.specs.Runs.Kind.{Look}
use Rattle.std.proofs.Common.{◌≡◌, inl, ℕ, ◌<◌, ◌==◌, Bool, [], ◌∷◌, ◌++◌, refl, sym, ◌∙◌, ap, subst, arith}
use Rattle.store_image.specs.Facts.{In}
use Rattle.group_laws.specs.declared.types.Seen.TheVariants as loads
use Rattle.group_laws.specs.declared.types.SlotWord.{SlotWord}
use Rattle.group_laws.specs.declared.types.SlotWord.TheVariants as words
use Rattle.group_laws.specs.Places.{members}
use Rattle.group_laws.proofs.Clients.{In-append_right}
use Rattle.group_laws.specs.MemberViews.{View}
use Rattle.group_board.specs.Seats.{SeatAt}
use Rattle.batch_leader.specs.Leading.{Collects}
use Rattle.batch_leader.specs.Rounds.{member_at, slot_at, Passes}
use Rattle.batch_leader.proofs.CollectLaws.{collects_past, collects_still, member_low}
use Rattle.batch_leader.proofs.Steps.{found_at, posted_word}
use Rattle.batch_leader.proofs.TrailLaws.{no_loads, load_more, loads_then, one_only}
use Rattle.batch_leader.proofs.states.Collecting.visit.Goals as goal

pub look-found-requires : goal.look-found-requires
look-found-requires g c =
    let p = (g.B.Board.seat c.args.board.now).place in
    let m = (g.B.Board.seat c.args.board.now).number in
    let own = c.member-own.ensures in
    record {
      member = c.requires.collects.member;
      target = subst (λ (a : ℕ). a < members p) (sym (c.member_at-member.ensures ∙ ap (λ (x : ℕ). member_at x c.args.self.now.at) own)) (member_low m c.args.self.now.at (members p) c.requires.collects.member c.requires.within);
      slot = let at = c.slot_at-slot.ensures in omega (arith, at);
    }

pub take_here-requires-clause-seen : goal.take_here-requires-clause-seen
take_here-requires-clause-seen g c =
    let seen = c.look-found.ensures.view in
    let is = posted_word seen.0 c.in-Some.count (seen.1 ∙ c.in-Some.ensures.posted) in
    subst (λ (u : View). In (loads.Slot c.member_at-member.result c.slot_at-slot.result (words.Posted c.in-Some.count)) u.looked) (sym seen.2)
    (subst (λ (w : SlotWord). In (loads.Slot c.member_at-member.result c.slot_at-slot.result (words.Posted c.in-Some.count)) ((g.B.Board.view c.args.board.now).looked ++ loads.Slot c.member_at-member.result c.slot_at-slot.result w ∷ [])) (sym is)
    (In-append_right _ (g.B.Board.view c.args.board.now).looked _ (inl refl)))

pub returns-in-None-clause-collects : goal.returns-in-None-clause-collects
returns-in-None-clause-collects g c =
    let seen = c.look-found.ensures.view in
    collects_past (g.B.Board.seat c.args.board.now) (g.B.Board.view c.args.board.now) (g.B.Board.view c.look-found.new.self) c.args.self.now _ c.requires.collects c.requires.within refl refl refl
    (ap (λ (u : View). u.taken) seen.2) (ap (λ (u : View). u.holds) seen.2) (ap (λ (u : View). u.flying) seen.2) (ap (λ (u : View). u.broken) seen.2) (ap (λ (u : View). u.pending) seen.2) (ap (λ (u : View). u.kept) seen.2)

pub returns-in-None-clause-went : goal.returns-in-None-clause-went
returns-in-None-clause-went g c =
    let seen = c.look-found.ensures.view in
    let own = c.member-own.ensures in
    let m = (g.B.Board.seat c.args.board.now).number in
    let old = c.args.self.now in (
      record { changes = refl; fresh = refl; own = refl; on = omega arith; view = (_, seen.2) },
      λ i low high.
          let here : i ≡ old.at = omega (arith, low, high) in
          let who : c.member_at-member.result ≡ member_at m i = c.member_at-member.ensures ∙ (λ t. member_at (own t) (sym here t)) in
          let which : c.slot_at-slot.result ≡ slot_at i = c.slot_at-slot.ensures ∙ ap slot_at (sym here) in (
            c.look-found.result,
            (subst (λ (n : ℕ). Passes c.args.room.now n old.changes.taken.items old.fresh (member_at m i == m) c.look-found.result) c.requires.collects.own
                (subst (λ (b : Bool). Passes c.args.room.now old.own_lines old.changes.taken.items old.fresh b c.look-found.result) (λ t. who t == own t) c.in-None.ensures)),
            found_at (g.B.Board.whole c.args.board.now) c.member_at-member.result c.slot_at-slot.result m i c.look-found.result who which c.look-found.ensures.stood,
          ),
    )

pub take_here-requires-clause-collects : goal.take_here-requires-clause-collects
take_here-requires-clause-collects g c =
    let seen = c.look-found.ensures.view in
    subst (λ (x : SeatAt). Collects x (g.B.Board.view c.look-found.new.self) c.args.self.now) (sym c.look-found.ensures.seat)
    (collects_still (g.B.Board.seat c.args.board.now) (g.B.Board.view c.args.board.now) (g.B.Board.view c.look-found.new.self) c.args.self.now c.args.self.now c.requires.collects refl refl refl
    (ap (λ (u : View). u.taken) seen.2) (ap (λ (u : View). u.holds) seen.2) (ap (λ (u : View). u.flying) seen.2) (ap (λ (u : View). u.broken) seen.2) (ap (λ (u : View). u.pending) seen.2) (ap (λ (u : View). u.kept) seen.2))

pub returns-in-Some-clause-steps : goal.returns-in-Some-clause-steps
returns-in-Some-clause-steps g c =
    loads_then _ _ _ _ _ _ (load_more _ _ _ _ _ _ (Look c.member_at-member.result c.slot_at-slot.result) (loads.Slot c.member_at-member.result c.slot_at-slot.result c.look-found.ensures.view.0) (no_loads (g.B.Board.view c.args.board.now) (g.B.Board.trail c.args.board.now)) refl c.look-found.ensures.view.2 c.look-found.ensures.made) (one_only _ _ _ _ _ c.take_here.ensures.step refl)

pub returns-in-None-clause-steps : goal.returns-in-None-clause-steps
returns-in-None-clause-steps g c = load_more _ _ _ _ _ _ (Look c.member_at-member.result c.slot_at-slot.result) (loads.Slot c.member_at-member.result c.slot_at-slot.result c.look-found.ensures.view.0) (no_loads (g.B.Board.view c.args.board.now) (g.B.Board.trail c.args.board.now)) refl c.look-found.ensures.view.2 c.look-found.ensures.made
