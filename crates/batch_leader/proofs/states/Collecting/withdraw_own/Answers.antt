use Rattle.std.proofs.Common.{◌≡◌, ℕ, ◌+◌, ◌<◌, [], ◌∷◌, ◌++◌, Option, inl, refl, sym, ◌∙◌, ap, subst, arith}
use Rattle.store_image.specs.Facts.{In}
use Rattle.std.specs.Prelude.{IfSome}
use Rattle.group_laws.specs.State.{Group, word_shown}
use Rattle.group_laws.specs.MemberViews.{View}
use Rattle.group_laws.specs.Runs.{Kind}
use Rattle.group_laws.specs.Runs.Kind.{Look, Withdraw}
use Rattle.group_laws.specs.Places.{members}
use Rattle.group_laws.specs.declared.types.Seen.{Seen}
use Rattle.group_laws.specs.declared.types.Seen.TheVariants as loads
use Rattle.group_laws.specs.declared.types.SlotWord.{SlotWord}
use Rattle.group_laws.specs.declared.types.SlotWord.TheVariants as words
use Rattle.group_laws.proofs.Clients.{In-append_right}
use Rattle.group_board.specs.Seats.{SeatAt}
use Rattle.group_board.specs.Views.{after_find, after_withdraw}
use Rattle.group_board.specs.Told.{Makes, state_of}
use Rattle.batch_leader.specs.Leading.{looks_upto, HasLooked, IsNotPosted}
use Rattle.batch_leader.proofs.CollectLaws.{collects_still}
use Rattle.batch_leader.proofs.Steps.{no_steps, one_step, makes_then, posted_word}
use Rattle.batch_leader.proofs.WithdrawLaws.{own_member, own_slot, looks_more, lower_more}
use Rattle.batch_leader.proofs.SightLaws.{saw_none, saw_one, saw_then}
use Rattle.batch_leader.proofs.TrailLaws.{no_loads, load_more, loads_then, one_only}
use Rattle.batch_leader.proofs.states.Collecting.withdraw_own.Goals as goal

number_of : {a b : SeatAt} → a ≡ b → a.number ≡ b.number
number_of same = ap (λ (x : SeatAt). x.number) same

-- a look more
looked_more : (v u t : View) (x : Seen) → HasLooked v u → t ≡ after_find x u → HasLooked v t
looked_more v u t x looked is = (u.looked ++ x ∷ [], is ∙ ap (λ (y : View). record y { looked = u.looked ++ x ∷ [] }) looked.1)

made_by : (w u : Option Group) (a b : ℕ) (kind : Kind) (v : View) → a ≡ b → Makes w a kind u v → Makes w b kind u v
made_by w u a b kind v same made = subst (λ (n : ℕ). Makes w n kind u v) same made

-- the look of member a at its own slot is one of member b
look_by : (w u : Option Group) (a b i : ℕ) (c : ℕ) (v : View) → a ≡ b → c ≡ a → Makes w a (Look c i) u v → Makes w b (Look b i) u v
look_by w u a b i c v same own made = subst (λ (n : ℕ). Makes w b (Look n i) u v) (own ∙ same) (made_by w u a b (Look c i) v same made)

pub slots-init : goal.slots-init
slots-init g c =
    let seat = g.B.Board.seat c.args.board.now in
    record {
      sits = refl;
      same = refl;
      collects = c.requires.collects;
      looked = ((g.B.Board.view c.args.board.now).looked, refl);
      lower = λ i lt. absurd (omega (arith, lt));
      saw = saw_none (g.B.Board.view c.args.board.now) seat.number 0 (λ i x. IsNotPosted x);
      trail = no_loads (g.B.Board.view c.args.board.now) (g.B.Board.trail c.args.board.now);
      made = no_steps (g.B.Board.whole c.args.board.now) seat.number seat.place (g.B.Board.view c.args.board.now) (g.met.B.Board.agrees c.args.board.now);
    }

-- the slot was seen Posted
seen_in : (v u : View) (a b s n : ℕ) (w : SlotWord) → a ≡ b → w ≡ words.Posted n → u ≡ after_find (loads.Slot a s w) v → In (loads.Slot b s (words.Posted n)) u.looked
seen_in v u a b s n w same is view =
    subst (λ (x : View). In (loads.Slot b s (words.Posted n)) x.looked) (sym view)
    (subst (λ (y : Seen). In (loads.Slot b s (words.Posted n)) (v.looked ++ y ∷ [])) (λ t. loads.Slot (sym same t) s (sym is t))
    (In-append_right (loads.Slot b s (words.Posted n)) v.looked (loads.Slot b s (words.Posted n) ∷ []) (inl refl)))

pub withdraw-requires : goal.withdraw-requires
withdraw-requires g c =
    let i = c.slots.invariant in
    let seen = c.look-found.ensures.view in
    let posted = c.if-is_posted.ensures in
    let sits : g.B.Board.seat c.look-found.new.self ≡ g.B.Board.seat c.args.board.now = c.look-found.ensures.seat ∙ i.sits in
    record {
      member = subst (λ (x : SeatAt). x.number < members x.place) (sym sits) i.collects.member;
      slot = c.slots-test.true;
      holds = ap (λ (u : View). u.holds) seen.2 ∙ i.collects.holds;
      seen = (
        posted.0,
        seen_in (g.B.Board.view c.slots.board) (g.B.Board.view c.look-found.new.self) c.member-own.result (g.B.Board.seat c.look-found.new.self).number c.slots.slot posted.0 seen.0
            (c.member-own.ensures ∙ sym (number_of sits)) (posted_word seen.0 posted.0 (seen.1 ∙ posted.1)) seen.2,
      );
    }

pub returns-then-is_posted-clause-found : goal.returns-then-is_posted-clause-found
returns-then-is_posted-clause-found g c =
    let i = c.slots.invariant in
    let w = g.B.Board.whole in
    let v = g.B.Board.view in
    let m = (g.B.Board.seat c.args.board.now).number in
    let seen = c.look-found.ensures.view in
    let sits : g.B.Board.seat c.look-found.new.self ≡ g.B.Board.seat c.args.board.now = c.look-found.ensures.seat ∙ i.sits in
    let looked = looked_more (v c.args.board.now) (v c.slots.board) (v c.look-found.new.self) (loads.Slot c.member-own.result c.slots.slot seen.0) i.looked seen.2 in
    let step = look_by (w c.slots.board) (w c.look-found.new.self) (g.B.Board.seat c.slots.board).number m c.slots.slot c.member-own.result (v c.look-found.new.self) (number_of i.sits) (c.member-own.ensures ∙ sym (number_of i.sits)) c.look-found.ensures.whole in
    record {
      slot = c.slots.slot;
      within = c.slots-test.true;
      lower = i.lower;
      home = c.withdraw.ensures.change;
      pending = ap (λ (u : View). u.pending c.withdraw.result.entry.key) (sym looked.1) ∙ c.withdraw.ensures.pending;
      view = c.withdraw.ensures.view ∙ ap (after_withdraw c.withdraw.result.entry) looked.1;
      made = makes_then (w c.args.board.now) (w c.look-found.new.self) (w c.withdraw.new.self) (looks_upto m 0 (c.slots.slot + 1)) ((m, Withdraw c.slots.slot) ∷ []) m (v c.look-found.new.self) (v c.withdraw.new.self)
          (looks_more (w c.args.board.now) (w c.slots.board) (w c.look-found.new.self) m c.slots.slot (v c.slots.board) (v c.look-found.new.self) c.look-found.result c.slots-test.true i.made step)
          (one_step (w c.look-found.new.self) (w c.withdraw.new.self) m (Withdraw c.slots.slot) (v c.withdraw.new.self) (made_by (w c.look-found.new.self) (w c.withdraw.new.self) (g.B.Board.seat c.look-found.new.self).number m (Withdraw c.slots.slot) (v c.withdraw.new.self) (number_of sits) c.withdraw.ensures.whole));
    }

pub slots-preserved : goal.slots-preserved
slots-preserved g c =
    let i = c.slots.invariant in
    let w = g.B.Board.whole in
    let v = g.B.Board.view in
    let m = (g.B.Board.seat c.args.board.now).number in
    let seen = c.look-found.ensures.view in
    let step = look_by (w c.slots.board) (w c.look-found.new.self) (g.B.Board.seat c.slots.board).number m c.slots.slot c.member-own.result (v c.look-found.new.self) (number_of i.sits) (c.member-own.ensures ∙ sym (number_of i.sits)) c.look-found.ensures.whole in
    let own : c.member-own.result ≡ m = c.member-own.ensures in
    record {
      sits = c.look-found.ensures.seat ∙ i.sits;
      same = refl;
      collects = collects_still (g.B.Board.seat c.args.board.now) (v c.slots.board) (v c.look-found.new.self) c.args.self.now c.args.self.now i.collects refl refl refl
          (ap (λ (u : View). u.taken) seen.2) (ap (λ (u : View). u.holds) seen.2) (ap (λ (u : View). u.flying) seen.2) (ap (λ (u : View). u.broken) seen.2) (ap (λ (u : View). u.pending) seen.2) (ap (λ (u : View). u.kept) seen.2);
      looked = looked_more (v c.args.board.now) (v c.slots.board) (v c.look-found.new.self) (loads.Slot c.member-own.result c.slots.slot seen.0) i.looked seen.2;
      lower = lower_more (w c.args.board.now) (w c.slots.board) (w c.look-found.new.self) m c.slots.slot (v c.slots.board) (v c.look-found.new.self) c.look-found.result c.slots-test.true i.made i.lower c.if-is_posted.ensures
          (subst (λ (n : ℕ). IfSome (w c.slots.board) (λ x. state_of (word_shown (x.slot n c.slots.slot)) ≡ c.look-found.result)) own c.look-found.ensures.stood);
      saw = saw_then (v c.args.board.now) (v c.slots.board) (v c.look-found.new.self) m 0 c.slots.slot (c.slots.slot + 1) (λ i x. IsNotPosted x) i.saw
          (saw_one (v c.slots.board) (v c.look-found.new.self) m c.slots.slot c.member-own.result c.slots.slot seen.0 c.look-found.result (λ i x. IsNotPosted x)
          (own ∙ sym (own_member m c.slots.slot c.slots-test.true)) (sym (own_slot c.slots.slot c.slots-test.true)) seen.1 seen.2 c.if-is_posted.ensures);
      trail = load_more _ _ _ _ _ _ (Look c.member-own.result c.slots.slot) (loads.Slot c.member-own.result c.slots.slot c.look-found.ensures.view.0) i.trail refl c.look-found.ensures.view.2 c.look-found.ensures.made;
      made = looks_more (w c.args.board.now) (w c.slots.board) (w c.look-found.new.self) m c.slots.slot (v c.slots.board) (v c.look-found.new.self) c.look-found.result c.slots-test.true i.made step;
    }

pub returns-then-is_posted-clause-steps : goal.returns-then-is_posted-clause-steps
returns-then-is_posted-clause-steps g c =
    loads_then _ _ _ _ _ _ (load_more _ _ _ _ _ _ (Look c.member-own.result c.slots.slot) (loads.Slot c.member-own.result c.slots.slot c.look-found.ensures.view.0) c.slots.invariant.trail refl c.look-found.ensures.view.2 c.look-found.ensures.made) (one_only _ _ _ _ (Withdraw c.slots.slot) c.withdraw.ensures.made refl)
