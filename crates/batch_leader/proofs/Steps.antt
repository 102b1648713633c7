-- Lists of steps, one after the other.
use Rattle.std.proofs.Common.{◌≡◌, ⊎_elim, ℕ, zero, suc, ◌+◌, ◌-◌, ◌≤◌, ◌==◌, Bool, true, false, List, [], ◌∷◌, ◌++◌, length, Option, Some, None, refl, sym, ◌∙◌, ap, subst, arith, append_assoc}
use Rattle.std.proofs.lemmas.Bool.{cases_lt}
use Rattle.log_entry.specs.Spelling.{words_of}
use Rattle.core_log.specs.declared.types.Room.{Room}
use Rattle.group_laws.specs.declared.types.Slot.{Slot}
use Rattle.group_laws.specs.Places.{Place}
use Rattle.group_laws.specs.State.{Group, word_shown}
use Rattle.group_laws.specs.Runs.{Kind, Runs}
use Rattle.group_laws.specs.Runs.Kind.{Look, Take}
use Rattle.group_laws.specs.MemberViews.{View, view_of}
use Rattle.group_board.specs.Views.{after_take}
use Rattle.std.specs.Prelude.{IfSome}
use Rattle.group_board.specs.Told.{Makes, state_of}
use Rattle.group_laws.specs.declared.types.SlotWord.{SlotWord}
use Rattle.group_laws.specs.declared.types.SlotWord.TheVariants as words
use Rattle.group_board.specs.declared.board.SlotState.{SlotState}
use Rattle.group_board.specs.declared.board.SlotState.TheVariants.{Posted}
use Rattle.batch_leader.specs.declared.taken.Taken.{Taken}
use Rattle.batch_leader.specs.declared.changes.Changes.{Changes}
use Rattle.batch_leader.specs.declared.states.Collecting.{Collecting}
use Rattle.batch_leader.specs.Leading.{MakesAll, looks_upto, HasLooked, Found, Takes, Keeps, Passed, Went, Saw, PassesAt, SawPassed, steps_of}
use Rattle.batch_leader.proofs.SightLaws.{saw_then, saw_weaker}
use Rattle.batch_leader.specs.Rounds.{member_at, slot_at, own_lines, fits, goes_fresh, Passes}

pub runs_then : (w mid u : Group) (xs ys : List (ℕ × Kind)) → Runs w xs mid → Runs mid ys u → Runs w (xs ++ ys) u
runs_then w mid u [] ys first next = subst (λ (x : Group). Runs x ys u) first next
runs_then w mid u (x ∷ xs) ys first next = (first.0, first.1, runs_then first.0 mid u xs ys first.2 next)

pub makes_none : (before : Option Group) (m : ℕ) (v : View) → ((w : Group) → before ≡ Some w → v ≡ view_of w m) → MakesAll before [] before m v
makes_none None m v is = tt
makes_none (Some w) m v is = (refl, is w refl)

pub makes_then : (before mid after : Option Group) (xs ys : List (ℕ × Kind)) (m : ℕ) (v u : View) → MakesAll before xs mid m v → MakesAll mid ys after m u → MakesAll before (xs ++ ys) after m u
makes_then None mid after xs ys m v u first next = tt
makes_then (Some w) None after xs ys m v u first next = absurd first
makes_then (Some w) (Some x) None xs ys m v u first next = absurd next
makes_then (Some w) (Some x) (Some y) xs ys m v u first next = (runs_then w x y xs ys first.0 next.0, next.1)

-- looks go on where they stopped
pub looks_on : (m a b c : ℕ) → a ≤ b → c ≡ b + 1 → looks_upto m a (b - a) ++ looks_upto m b (c - b) ≡ looks_upto m a (c - a)
looks_on m a b c le next =
    let one : c - b ≡ suc zero = omega (arith, next) in
    let more : c - a ≡ suc (b - a) = omega (arith, le, next) in
    let here : b + zero ≡ a + (b - a) = omega (arith, le) in
    ap (λ n. looks_upto m a (b - a) ++ looks_upto m b n) one
    ∙ ap (λ n. looks_upto m a (b - a) ++ (m, Look (member_at m n) (slot_at n)) ∷ []) here
    ∙ ap (looks_upto m a) (sym more)

runs_split : (w u : Group) (xs ys : List (ℕ × Kind)) → Runs w (xs ++ ys) u → (mid : Group) × Runs w xs mid × Runs mid ys u
runs_split w u [] ys r = (w, refl, r)
runs_split w u (x ∷ xs) ys r = let rest = runs_split r.0 u xs ys r.2 in (rest.0, (r.0, r.1, rest.1), rest.2)

-- looks change no slot
looks_same : (w u : Group) (m a n : ℕ) → Runs w (looks_upto m a n) u → u.slot ≡ w.slot
looks_same w u m a zero r = ap (λ (x : Group). x.slot) r
looks_same w u m a (suc n) r =
    let parts = runs_split w u (looks_upto m a n) ((m, Look (member_at m (a + n)) (slot_at (a + n))) ∷ []) r in
    let last = parts.2 in
    ap (λ (x : Group). x.slot) last.2 ∙ ap (λ (x : Group). x.slot) last.1.2 ∙ looks_same w parts.0 m a n parts.1

pub found_back : (before mid : Option Group) (m a n i : ℕ) (v : View) (x : SlotState) → MakesAll before (looks_upto m a n) mid m v → Found mid m i x → Found before m i x
found_back None mid m a n i v x made found = tt
found_back (Some w) None m a n i v x made found = absurd made
found_back (Some w) (Some u) m a n i v x made found = ap (λ (f : ℕ → ℕ → Slot). state_of (word_shown (f (member_at m i) (slot_at i)))) (sym (looks_same w u m a n made.0)) ∙ found

-- no step was made, where the view agrees with the state
pub no_steps : (before : Option Group) (m : ℕ) (p : Place) (v : View) → IfSome before (λ u. (p ≡ u.place) × (v ≡ view_of u m)) → MakesAll before [] before m v
no_steps None m p v is = tt
no_steps (Some u) m p v is = (refl, is.1)

-- one step is a list of steps
pub one_step : (before after : Option Group) (m : ℕ) (kind : Kind) (v : View) → Makes before m kind after v → MakesAll before ((m, kind) ∷ []) after m v
one_step None after m kind v made = tt
one_step (Some w) None m kind v made = absurd made
one_step (Some w) (Some u) m kind v made = ((u, made.0, refl), made.1)

-- what a look found stands at its position
pub found_at : (before : Option Group) (a s m i : ℕ) (x : SlotState) → a ≡ member_at m i → s ≡ slot_at i → IfSome before (λ w. state_of (word_shown (w.slot a s)) ≡ x) → Found before m i x
found_at before a s m i x who which stood = subst (λ (n : ℕ). IfSome before (λ w. state_of (word_shown (w.slot (member_at m i) n)) ≡ x)) which (subst (λ (n : ℕ). IfSome before (λ w. state_of (word_shown (w.slot n s)) ≡ x)) who stood)

-- a word that shows a posted entry
pub posted_word : (w : SlotWord) (n : ℕ) → state_of w ≡ Posted n → w ≡ words.Posted n
posted_word words.Empty n e = absurd (cc e)
posted_word (words.Posted k) n e = (let same : k ≡ n = cc e in ap words.Posted same)
posted_word words.Taken n e = absurd (cc e)
posted_word (words.Done h) n e = absurd (cc e)
posted_word words.Failed n e = absurd (cc e)

-- A round that goes on: what was passed before, and what is done now.
module _ (room : Room) (m : ℕ) (first now new : Collecting) (v0 v1 v2 : View) (w0 w1 w2 : Option Group) (low : first.at ≤ now.at) (changes : now.changes ≡ first.changes) (fresh : now.fresh ≡ first.fresh) (own : now.own_lines ≡ first.own_lines)
    (looked : HasLooked v0 v1) (passed : Passed w0 room m first now.at) (made : MakesAll w0 (looks_upto m first.at (now.at - first.at)) w1 m v1) (next : new.at ≡ now.at + 1) where
  items : now.changes.taken.items ≡ first.changes.taken.items
  items = ap (λ (b : Changes). b.taken.items) changes

  passed_on : (end : ℕ) → Passed w1 room m now end → Passed w0 room m first end
  passed_on end more i ge lt = ⊎_elim (λ before. passed i ge before)
      (λ after.
      let x = more i after lt in (
        x.0,
        (subst (λ (b : Bool). Passes room (own_lines m first.changes.taken.items) first.changes.taken.items b (member_at m i == m) x.0) fresh (subst (λ (ts : List Taken). Passes room (own_lines m ts) ts now.fresh (member_at m i == m) x.0) items x.1)),
        found_back w0 w1 m first.at (now.at - first.at) i v1 x.0 made x.2,
      ))
      (cases_lt i now.at)

  passes_first : (i : ℕ) (x : SlotState) → PassesAt room m now i x → PassesAt room m first i x
  passes_first i x passes =
      subst (λ (b : Bool). Passes room (own_lines m first.changes.taken.items) first.changes.taken.items b (member_at m i == m) x) fresh
      (subst (λ (ts : List Taken). Passes room (own_lines m ts) ts now.fresh (member_at m i == m) x) items passes)

  pub saw_on : Saw v0 v1 m first.at now.at (PassesAt room m first) → SawPassed room m v1 v2 now new → SawPassed room m v0 v2 first new
  saw_on before more =
      saw_then v0 v1 v2 m first.at now.at new.at (PassesAt room m first) before (saw_weaker v1 v2 m now.at new.at (PassesAt room m now) (PassesAt room m first) passes_first more)

  takes_on : Takes room m v1 v2 now new → Takes room m v0 v2 first new
  takes_on t = record {
    change = t.change;
    taken = t.taken ∙ ap (λ (ts : List Taken). ts ++ t.change ∷ []) items;
    on = (let more = t.on in omega (arith, low, more));
    member = t.member;
    slot = t.slot;
    fits = (λ i. fits room (own_lines m (sym items i)) (sym items i) (sym fresh i) (t.change.member == m) (length (words_of t.change.change.entry))) ∙ t.fits;
    fresh = t.fresh ∙ (λ i. goes_fresh room (items i) (fresh i) (length (words_of t.change.change.entry)));
    home = t.home;
    over = t.over;
    view = t.view ∙ ap (after_take t.change.member t.change.slot t.change.change.entry) looked.1;
  }

  keeps_on : Keeps v1 v2 now new → Keeps v0 v2 first new
  keeps_on k = record {
    changes = k.changes ∙ changes;
    fresh = k.fresh ∙ fresh;
    own = k.own ∙ own;
    on = (let more = k.on in omega (arith, low, more));
    view = (k.view.0, k.view.1 ∙ ap (λ (v : View). record v { looked = k.view.0 }) looked.1);
  }

  pub went_true : Went true w1 room m v1 v2 now new → Went true w0 room m v0 v2 first new
  went_true w = (takes_on w.0, passed_on (new.at - 1) w.1)

  pub went_false : Went false w1 room m v1 v2 now new → Went false w0 room m v0 v2 first new
  went_false w = (keeps_on w.0, passed_on new.at w.1)

  pub made_true : MakesAll w1 (steps_of true m now new) w2 m v2 → MakesAll w0 (steps_of true m first new) w2 m v2
  made_true more = subst (λ xs. MakesAll w0 xs w2 m v2)
      (sym (append_assoc (looks_upto m first.at (now.at - first.at)) (looks_upto m now.at (new.at - now.at)) ((m, Take (member_at m (new.at - 1)) (slot_at (new.at - 1))) ∷ []))
      ∙ ap (λ xs. xs ++ (m, Take (member_at m (new.at - 1)) (slot_at (new.at - 1))) ∷ []) (looks_on m first.at now.at new.at low next))
      (makes_then w0 w1 w2 (looks_upto m first.at (now.at - first.at)) (steps_of true m now new) m v1 v2 made more)

  pub made_false : MakesAll w1 (steps_of false m now new) w2 m v2 → MakesAll w0 (steps_of false m first new) w2 m v2
  made_false more = subst (λ xs. MakesAll w0 xs w2 m v2) (looks_on m first.at now.at new.at low next)
      (makes_then w0 w1 w2 (looks_upto m first.at (now.at - first.at)) (steps_of false m now new) m v1 v2 made more)
