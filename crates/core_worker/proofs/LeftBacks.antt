-- What a stopped core, and one whose change is given back, lower.
use Rattle.std.proofs.Common.{◌≡◌, ⊎_elim, ℕ, zero, suc, ◌+◌, ◌<◌, ◌≤◌, Bool, true, false, List, [], ◌∷◌, ◌++◌, length, Option, Some, None, refl, sym, ◌∙◌, ap, arith}
use Rattle.std.specs.Prelude.{IsSomeAnd, MatchOption}
use Rattle.std.proofs.Math.Bridge.{le_prop}
use mathlib.Core.Logic.{∥∥₁_elim}
use Rattle.fs_model.specs.declared.model.Reply.{Reply}
use Rattle.log_entry.specs.declared.entry.Entry.{Entry}
use Rattle.group_laws.specs.declared.types.Slot.{Slot}
use Rattle.group_laws.specs.Places.{Place, core_of}
use Rattle.group_laws.specs.State.{Group, word_shown}
use Rattle.group_laws.specs.Invariant.{Lawful}
use Rattle.group_laws.specs.MemberViews.{View}
use Rattle.group_laws.specs.Runs.{Kind, Runs}
use Rattle.group_board.specs.Told.{Makes, state_of}
use Rattle.batch_leader.specs.Rounds.{slot_at}
use Rattle.batch_leader.specs.Leading.{MakesAll, looks_upto, NonePosted}
use Rattle.fs_model.specs.declared.model.Reply.TheVariants.{Stopped}
use Rattle.batch_leader.specs.declared.states.Collecting.{Collecting}
use Rattle.batch_leader.specs.Leading.{taken_by}
use Rattle.core_worker.specs.declared.types.Leading.TheVariants as leads
use Rattle.core_worker.specs.declared.types.Place.{Place as WorkerPlace}
use Rattle.core_worker.specs.Stopping.{PutsAway, PutsAwayKey}
use Rattle.core_worker.specs.Ties.{LeadsNothing}
use Rattle.core_worker.proofs.LeftLocks.{nothing_left}
use Rattle.core_worker.specs.declared.types.Place.TheVariants.{Free, Staged, Posted}
use Rattle.core_worker.specs.declared.worker.Worker.{Worker}
use Rattle.core_worker.specs.OwnPlaces.{place_at, key_in, is_staged}
use Rattle.core_worker.specs.Finishing.{LetsGo, Settles, TakesBack, reply_back}
use Rattle.core_worker.specs.Left.{place_left, taken_left, left, any_offers, group_left, Lowers}
use Rattle.core_worker.proofs.LeftSums.{offers_has}
use Rattle.core_worker.proofs.LeftSteps.{finishes_way, gives_up_way, withdraws_way, unlocks_none}
use Rattle.core_worker.proofs.LeftWorkers.{leading_way, lets_go_way, settles_way, stops_way}
use Rattle.core_worker.proofs.LeftLooks.{last_step, upto_looked, looked_way}
use Rattle.core_worker.proofs.LeftItems.{IsLawful, lowers_step, lowers_still}
use Rattle.core_worker.proofs.LeftRounds.{lowers_run, offered, own_member, own_slot}

-- Before its place is let go: the change is settled, or the core stops.
settled_low : (home : Option ℕ) (p : Place) (w x : Worker) (e : Entry) → MatchOption home (x ≡ record w { stopped = true }) (λ h. Settles w x e (core_of p h)) → left x ≤ left w + 4
settled_low None p w x e stops = let same = stops_way w x stops in omega (arith, same)
settled_low (Some h) p w x e settles = settles_way w x e (core_of p h) settles

settled_places : (home : Option ℕ) (p : Place) (w x : Worker) (e : Entry) → MatchOption home (x ≡ record w { stopped = true }) (λ h. Settles w x e (core_of p h)) → length x.places.items ≡ length w.places.items
settled_places None p w x e stops = ap (λ (y : Worker). length y.places.items) stops
settled_places (Some h) p w x e settles = ap (λ (y : Worker). length y.places.items) settles.rest

pub takes_back_low : (p : Place) (m slot : ℕ) (v u : View) (w x : Worker) → slot < length w.places.items → TakesBack p m slot v u w x → left x ≤ left w + 4
takes_back_low p m slot v u w x lt T =
    let settled = settled_low T.home p w T.mid T.entry T.settles in
    let count = settled_places T.home p w T.mid T.entry T.settles in
    let gone = lets_go_way T.mid x slot (reply_back T.home T.entry.body) (omega (arith, lt, count)) T.lets in
    omega (arith, settled, gone)

-- A change that was given back is finished, and what waits of its key is begun.
pub finishes_lower : (before after : Option Group) (m slot : ℕ) (u : View) (w x : Worker) → Makes before m (Kind.Finish slot) after u → IsLawful before → left x ≤ left w + 4 → Lowers before after w x
finishes_lower before after m slot u w x made lawful low = lowers_step before after m (Kind.Finish slot) u w x made lawful (λ a b L step. ⊎_elim
    (λ done. let way = finishes_way a b m slot done.0 done.1 done.2 done.3 in omega (arith, way, low))
    (λ lost. let way = gives_up_way a b m slot lost.0 lost.1 lost.2 in omega (arith, way, low))
    step)

-- An own change is taken back that nobody had taken.
pub withdraws_lower : (before after : Option Group) (m slot n : ℕ) (u : View) (w x : Worker) → MakesAll before (looks_upto m 0 n ++ (m, Kind.Withdraw slot) ∷ []) after m u → IsLawful before → left x ≤ left w → Lowers before after w x
withdraws_lower before after m slot n u w x made lawful low =
    lowers_run before after m (looks_upto m 0 n ++ (m, Kind.Withdraw slot) ∷ []) u w x made lawful (λ a b told L run.
    let last = last_step a b (looks_upto m 0 n) m (Kind.Withdraw slot) run in
    let looked = looked_way a last.0 (upto_looked a last.0 m 0 n last.1) in
    let way = withdraws_way last.0 m slot last.2.0 last.2.1 in
    let group = ap group_left last.2.2 in
    omega (arith, looked, way, group, low))

-- A stopped core found none of its own slots Posted, and gives the lock back.
none_posted : (g : Group) (m : ℕ) → NonePosted (Some g) m 8 → any_offers (g.slot m) 8 ≡ false
none_posted g m none = by (any_offers (g.slot m) 8) refl where
  by : (b : Bool) → any_offers (g.slot m) 8 ≡ b → b ≡ false
  by false e = refl
  by true e = absurd (
      let at = offers_has (g.slot m) 8 e in
      let x = offered (g.slot m at.0) at.2 in
      let found = none at.0 at.1 in
      found.1 _ (sym found.2 ∙ ap (λ n. state_of (word_shown (g.slot n (slot_at at.0)))) (own_member m at.0 at.1) ∙ ap (λ n. state_of (word_shown (g.slot m n))) (own_slot at.0 at.1) ∙ ap (λ (y : Slot). state_of (word_shown y)) x.1)
      )

gives_over : (g h : Group) (o : Option Group) (m : ℕ) (v u : View) (w x : Worker) → NonePosted (Some g) m 8 → Runs g (looks_upto m 0 8) h → Makes (Some h) m Kind.Unlock o u → Lawful g → left x ≤ left w → IsSomeAnd o (λ e. left x + group_left e < left w + group_left g)
gives_over g h None m v u w x none run unlock L low = absurd unlock
gives_over g h (Some e) m v u w x none run unlock L low =
    let on = upto_looked g h m 0 8 run in
    let looked = looked_way g h on in
    let step = unlock.0 in
    let holds : g.holds m ≡ true = sym (ap (λ (y : Group). y.holds m) on.1) ∙ step.0.holds in
    let mine : h.holder ≡ Some m = ap (λ (y : Group). y.holder) on.1 ∙ (L.looks.holds_is m).0 holds in
    let clear : any_offers (h.slot m) 8 ≡ false = ap (λ (y : Group). any_offers (y.slot m) 8) on.1 ∙ none_posted g m none in
    let way = unlocks_none h m mine clear in
    let group = ap group_left step.1 in
    omega (arith, looked, way, group, low)

pub gives_over_lower : (before mid after : Option Group) (m : ℕ) (v u : View) (w x : Worker) → NonePosted before m 8 → MakesAll before (looks_upto m 0 8) mid m v → Makes mid m Kind.Unlock after u → IsLawful before → left x ≤ left w → Lowers before after w x
gives_over_lower None mid after m v u w x none made unlock lawful low = tt
gives_over_lower (Some g) None after m v u w x none made unlock lawful low = absurd made
gives_over_lower (Some g) (Some h) None m v u w x none made unlock lawful low = absurd unlock
gives_over_lower (Some g) (Some h) (Some e) m v u w x none made unlock lawful low = ∥∥₁_elim lawful le_prop (λ L. gives_over g h (Some e) m v u w x none made.0 unlock L low)

-- A stopped core lets a staged change go.
pub drops_lower : (before after : Option Group) (slot number : ℕ) (entry : Entry) (value : List ℕ) (reply : Reply) (w x y : Worker) → after ≡ before → slot < length w.places.items → place_at w.places.items slot ≡ Staged number entry value → LetsGo w x slot reply → left y ≤ left x → Lowers before after w y
drops_lower before after slot number entry value reply w x y same lt is lets low =
    lowers_still before after w y same
    (let gone = lets_go_way w x slot reply lt lets in
    let was = ap place_left is in
    omega (arith, gone, was, low))

-- A place that has a key is one of the places.
pub key_within : (ps : List WorkerPlace) (s k : ℕ) → key_in (place_at ps s) ≡ Some k → s < length ps
key_within [] s k is = absurd (cc is)
key_within (x ∷ ps) zero k is = omega arith
key_within (x ∷ ps) (suc s) k is = let rest = key_within ps s k is in omega (arith, rest)

staged_counts : (x : WorkerPlace) → is_staged x ≡ true → place_left x ≡ 30
staged_counts Free is = absurd (cc is)
staged_counts (Staged number entry value) is = refl
staged_counts (Posted number key lines) is = absurd (cc is)

pub puts_away_way : (w x : Worker) (slot : ℕ) (block : Option ℕ) → slot < length w.places.items → PutsAway w x slot block → left x + place_left (place_at w.places.items slot) ≡ left w
puts_away_way w x slot block lt P = let gone = lets_go_way (record w { allocator = P.mid }) x slot Stopped lt P.lets in omega (arith, gone)

pub drop_less : (w x y : Worker) (slot : ℕ) (block : Option ℕ) → slot < length w.places.items → is_staged (place_at w.places.items slot) ≡ true → PutsAway w x slot block → left y ≤ left x → left y < left w
drop_less w x y slot block lt is P low =
    let gone = puts_away_way w x slot block lt P in
    let was = staged_counts (place_at w.places.items slot) is in
    omega (arith, gone, was, low)

-- a change that was withdrawn is put away
pub put_by_low : (w x : Worker) (k : ℕ) (block : Option ℕ) → PutsAwayKey w x k block → left x ≤ left w
put_by_low w x k block P =
    let gone = puts_away_way w x P.0 block (key_within w.places.items P.0 k P.1) P.2 in
    omega (arith, gone)

pub collecting_low : (w x : Worker) (c : Collecting) → x ≡ record w { leading = leads.Collecting c } → taken_by c ≡ [] → left x ≤ left w
collecting_low w x c now none =
    let same = ap left now in
    let nothing = ap taken_left none in
    omega (arith, same, nothing)

pub nothing_low : (w x : Worker) → x ≡ record w { leading = x.leading } → LeadsNothing x → left x ≤ left w
nothing_low w x same free = let still = leading_way w x same in let now = nothing_left x free in omega (arith, still, now)
