-- What a round lowers: a take, and giving the lock back.
use Rattle.std.proofs.Common.{◌≡◌, ◌≢◌, ⊎_elim, ℕ, ◌+◌, ◌-◌, ◌*◌, ◌<◌, ◌≤◌, ◌==◌, Bool, true, false, List, [], ◌∷◌, ◌++◌, length, Option, Some, None, refl, sym, ◌∙◌, ap, subst, arith}
use Rattle.std.specs.Prelude.{IfSome}
use Rattle.std.proofs.Math.Bridge.{le_prop}
use Rattle.std.proofs.lemmas.Bool.{eq-eqb}
use Rattle.std.proofs.lemmas.Bool.Decides.{nat_tests}
use mathlib.Core.Logic.{∥∥₁_elim}
use Rattle.log_entry.specs.declared.entry.Entry.{Entry}
use Rattle.log_entry.specs.Spelling.{words_of}
use Rattle.group_laws.specs.declared.types.Slot.{Slot}
use Rattle.group_laws.specs.declared.types.Slot.TheVariants as slots
use Rattle.group_laws.specs.Places.{Place, members}
use Rattle.group_laws.specs.State.{Group, word_shown}
use Rattle.group_laws.specs.Invariant.{Lawful}
use Rattle.group_laws.specs.MemberViews.{View, view_of}
use Rattle.group_laws.specs.Runs.{Kind, Runs}
use Rattle.group_board.specs.Seats.{SeatAt}
use Rattle.group_board.specs.Told.{state_of}
use Rattle.group_board.specs.declared.board.SlotState.TheVariants as states
use Rattle.batch_leader.specs.declared.states.Collecting.{Collecting}
use Rattle.batch_leader.specs.declared.changes.Changes.{Changes}
use Rattle.batch_leader.specs.declared.states.Released.{Released}
use Rattle.batch_leader.specs.declared.states.Released.TheVariants as released
use Rattle.batch_leader.specs.declared.taken.Taken.{Taken}
use Rattle.batch_leader.specs.Rounds.{member_at, slot_at, round_end, own_lines, fits, Passes}
use Rattle.batch_leader.specs.Leading.{MakesAll, looks_upto, steps_of, taken_by, IsReleased, IsOver, Passed}
use Rattle.core_worker.specs.declared.worker.Worker.{Worker}
use Rattle.core_worker.specs.Supplies.{HasKeptRoom, room_for}
use Rattle.core_worker.specs.Ties.{Holds}
use Rattle.core_worker.specs.Turns.{Moment, Collects, Releases, led_by}
use Rattle.core_worker.specs.Left.{taken_left, leading_left, left, offers, any_offers, group_left, Lowers, StartsFirst}
use Rattle.core_worker.specs.declared.types.Cleaning.TheVariants.{Nothing}
use Rattle.core_worker.specs.Status.{is_leading}
use Rattle.core_worker.specs.Supplies.{under_way as worker_way}
use Rattle.core_worker.proofs.CleaningKept.{leads_none}
use Rattle.core_worker.proofs.LeftSums.{offers_has}
use Rattle.core_worker.proofs.LeftSteps.{takes_way, unlocks_way, unlocks_none}
use Rattle.core_worker.proofs.LeftWorkers.{leading_way, taken_more}
use Rattle.core_worker.proofs.LeftLooks.{last_step, upto_looked, looked_way}
use Rattle.core_worker.proofs.LeftOwn.{own_fits}
use Rattle.core_worker.proofs.LeftItems.{IsLawful}

-- Steps of a state that is lawful.
pub lowers_run : (before after : Option Group) (m : ℕ) (steps : List (ℕ × Kind)) (v : View) (w x : Worker) → MakesAll before steps after m v → IsLawful before → ((a b : Group) → before ≡ Some a → Lawful a → Runs a steps b → left x + group_left b < left w + group_left a) → Lowers before after w x
lowers_run None after m steps v w x made lawful less = tt
lowers_run (Some a) None m steps v w x made lawful less = absurd made
lowers_run (Some a) (Some b) m steps v w x made lawful less = ∥∥₁_elim lawful le_prop (λ L. less a b refl L made.0)

pub collects_lower : (before after : Option Group) (m : ℕ) (a b : Moment) (C : Collects before m a b) → IsLawful before → MakesAll before (steps_of true m C.old C.new) after m b.view → Lowers before after a.worker b.worker
collects_lower before after m a b C lawful made =
    lowers_run before after m (steps_of true m C.old C.new) b.view a.worker b.worker made lawful (λ g u told L run.
    let last = last_step g u (looks_upto m C.old.at (C.new.at - C.old.at)) m (Kind.Take (member_at m (C.new.at - 1)) (slot_at (C.new.at - 1))) run in
    let looked = looked_way g last.0 (upto_looked g last.0 m C.old.at (C.new.at - C.old.at) last.1) in
    let way = takes_way last.0 m (member_at m (C.new.at - 1)) (slot_at (C.new.at - 1)) last.2.0 last.2.1 in
    let group = ap group_left last.2.2 in
    let same = leading_way a.worker b.worker C.same in
    let was = ap leading_left C.led in
    let now = ap leading_left C.leads_now ∙ ap taken_left C.went.0.taken ∙ taken_more (taken_by C.old) C.went.0.change in
    omega (arith, looked, way, group, same, was, now))

pub offered : (x : Slot) → offers x ≡ true → (e : Entry) × (x ≡ slots.Posted e)
offered slots.Empty is = absurd (cc is)
offered (slots.Posted e) is = (e, refl)
offered slots.Taken is = absurd (cc is)
offered (slots.Done e h) is = absurd (cc is)
offered (slots.Failed e) is = absurd (cc is)

-- own slots are the first of the round
pub own_member : (m s : ℕ) → s < 8 → member_at m s ≡ m
unfolding member_at
own_member m s lt = grind (arith, nat_tests)

pub own_slot : (s : ℕ) → s < 8 → slot_at s ≡ s
own_slot s lt = omega (arith, lt)

some_taken : (ts : List Taken) → ts ≢ [] → 1 ≤ length ts
some_taken [] some = absurd (some refl)
some_taken (t ∷ ts) some = omega arith

-- A round that is over, of a core that has taken nothing, found none of its own slots Posted.
module _ (g : Group) (L : Lawful g) (m : ℕ) (w : Worker) (H : Holds g.place m (view_of g m) w) (clean : worker_way w ≡ Nothing) (rule : HasKeptRoom w) (old last : Collecting) (first : old.at ≡ 0) (none : taken_by old ≡ []) (whole : 8 ≤ last.at) (passed : Passed (Some g) (room_for w) m old last.at) where
  not_here : (s : ℕ) → s < 8 → (e : Entry) → g.slot m s ≡ slots.Posted e → ⊥
  not_here s lt e is =
      let at = passed s (omega (arith, first)) (omega (arith, lt, whole)) in
      let who = own_member m s lt in
      let shows : states.Posted (length (words_of e)) ≡ at.0 =
      sym (ap (λ (x : Slot). state_of (word_shown x)) is) ∙ ap (λ n. state_of (word_shown (g.slot n s))) (sym who) ∙ ap (λ n. state_of (word_shown (g.slot (member_at m s) n))) (sym (own_slot s lt)) ∙ at.2 in
      let passes : Passes (room_for w) (own_lines m (taken_by old)) (taken_by old) old.fresh (member_at m s == m) (states.Posted (length (words_of e))) =
      subst (Passes (room_for w) (own_lines m (taken_by old)) (taken_by old) old.fresh (member_at m s == m)) (sym shows) at.1 in
      let mine : (member_at m s == m) ≡ true = eq-eqb (member_at m s) m who in
      let here : fits (room_for w) (own_lines m (taken_by old)) [] old.fresh true (length (words_of e)) ≡ false =
      subst (λ (ts : List Taken). fits (room_for w) (own_lines m (taken_by old)) ts old.fresh true (length (words_of e)) ≡ false) none
      (subst (λ (b : Bool). fits (room_for w) (own_lines m (taken_by old)) (taken_by old) old.fresh b (length (words_of e)) ≡ false) mine passes) in
      let both : true ≡ false = sym (own_fits g L m w H s e is clean rule (own_lines m (taken_by old)) old.fresh) ∙ here in
      cc both

  pub none_offers : any_offers (g.slot m) 8 ≡ false
  none_offers = by (any_offers (g.slot m) 8) refl where
    by : (b : Bool) → any_offers (g.slot m) 8 ≡ b → b ≡ false
    by false e = refl
    by true e = absurd (let at = offers_has (g.slot m) 8 e in let x = offered (g.slot m at.0) at.2 in not_here at.0 at.1 x.0 x.1)

-- The lock is given back.
module _ (before after : Option Group) (seat : SeatAt) (a b : Moment) (R : Releases before seat a b) (H : Holds seat.place seat.number a.view a.worker) (rule : HasKeptRoom a.worker) (starts : StartsFirst a.worker) (over : IsOver seat R.last) (member : seat.number < members seat.place)
    (agrees : IfSome before (λ w. (seat.place ≡ w.place) × (a.view ≡ view_of w seat.number))) (lawful : IsLawful before) (made : MakesAll before (steps_of false seat.number R.old R.last ++ (seat.number, Kind.Unlock) ∷ []) after seat.number b.view) where
  items : taken_by R.last ≡ taken_by R.old
  items = ap (λ (x : Changes). x.taken.items) R.went.0.changes

  was : leading_left a.worker.leading ≡ taken_left (taken_by R.old)
  was = ap leading_left R.led

  abbrev StepsOf : Group → Group → Type 0
  StepsOf g u = Runs g (steps_of false seat.number R.old R.last ++ (seat.number, Kind.Unlock) ∷ []) u

  -- with a batch
  batch : (g u : Group) → 1 ≤ length (taken_by R.old) → leading_left b.worker.leading ≡ 1 + 3 * length (taken_by R.old) → StepsOf g u → left b.worker + group_left u < left a.worker + group_left g
  batch g u had now run =
      let last = last_step g u (steps_of false seat.number R.old R.last) seat.number Kind.Unlock run in
      let looked = looked_way g last.0 (upto_looked g last.0 seat.number R.old.at (R.last.at - R.old.at) last.1) in
      let way = unlocks_way last.0 seat.number in
      let group = ap group_left last.2.1 in
      let same = leading_way a.worker b.worker R.same in
      let old = was in
      omega (arith, looked, way, group, same, now, had, old)

  -- with nothing
  whole : taken_by R.last ≡ [] → 8 ≤ R.last.at
  whole none = ⊎_elim
      (λ (end : R.last.at ≡ round_end seat.place). omega (arith, end, member))
      (λ (full : length (taken_by R.last) ≡ 64). absurd (let zero_long = ap (λ (ts : List Taken). length ts) none in omega (arith, full, zero_long)))
      over

  nothing : (g u : Group) → before ≡ Some g → Lawful g → taken_by R.last ≡ [] → leading_left b.worker.leading ≡ 0 → StepsOf g u → left b.worker + group_left u < left a.worker + group_left g
  nothing g u told L none now run =
      let last = last_step g u (steps_of false seat.number R.old R.last) seat.number Kind.Unlock run in
      let on = upto_looked g last.0 seat.number R.old.at (R.last.at - R.old.at) last.1 in
      let looked = looked_way g last.0 on in
      let is : (seat.place ≡ g.place) × (a.view ≡ view_of g seat.number) = subst (λ (o : Option Group). IfSome o (λ w. (seat.place ≡ w.place) × (a.view ≡ view_of w seat.number))) told agrees in
      let H_here : Holds g.place seat.number (view_of g seat.number) a.worker = subst (λ (v : View). Holds g.place seat.number v a.worker) is.1 (subst (λ (p : Place). Holds p seat.number a.view a.worker) is.0 H) in
      let passed : Passed (Some g) (room_for a.worker) seat.number R.old R.last.at = subst (λ (o : Option Group). Passed o (room_for a.worker) seat.number R.old R.last.at) told R.went.1 in
      let before_none = sym items ∙ none in
      let clear = none_offers g L seat.number a.worker H_here (leads_none seat.place seat.number a.view a.worker H.cleaning (ap is_leading R.led)) rule R.old R.last (starts R.runs R.old R.led before_none) before_none (whole none) passed in
      let holds : g.holds seat.number ≡ true = sym (ap (λ (x : Group). x.holds seat.number) on.1) ∙ last.2.0.holds in
      let mine : last.0.holder ≡ Some seat.number = ap (λ (x : Group). x.holder) on.1 ∙ (L.looks.holds_is seat.number).0 holds in
      let clear_here : any_offers (last.0.slot seat.number) 8 ≡ false = ap (λ (x : Group). any_offers (x.slot seat.number) 8) on.1 ∙ clear in
      let way = unlocks_none last.0 seat.number mine clear_here in
      let group = ap group_left last.2.1 in
      let same = leading_way a.worker b.worker R.same in
      omega (arith, looked, way, group, same, now)

  by : (r : Released) → R.given ≡ r → IsReleased seat b.view R.last r → (g u : Group) → before ≡ Some g → Lawful g → StepsOf g u → left b.worker + group_left u < left a.worker + group_left g
  by (released.Batch x) e is g u told L run =
      let taken = ap (λ (c : Changes). c.taken.items) is.1 ∙ items in
      batch g u (some_taken (taken_by R.old) (λ none. x.some (taken ∙ none))) (ap leading_left R.leads_now ∙ ap (λ (r : Released). leading_left (led_by r)) e ∙ ap (λ (ts : List Taken). 1 + 3 * length ts) taken) run
  by (released.Nothing x) e is g u told L run =
      nothing g u told L is.0 (ap leading_left R.leads_now ∙ ap (λ (r : Released). leading_left (led_by r)) e) run

  pub releases_lower : Lowers before after a.worker b.worker
  releases_lower = lowers_run before after seat.number (steps_of false seat.number R.old R.last ++ (seat.number, Kind.Unlock) ∷ []) b.view a.worker b.worker made lawful (λ g u told L run. by R.given refl R.released g u told L run)
