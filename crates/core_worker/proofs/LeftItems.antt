-- What the items of a turn lower, where the board tells the state.
use Rattle.std.proofs.Common.{◌≡◌, ⊎_elim, ℕ, ◌+◌, ◌<◌, ◌≤◌, Bool, true, false, cond, List, length, Option, Some, None, sym, ap, subst, arith}
use Rattle.std.specs.Prelude.{IfSome, IsSomeAnd}
use Rattle.std.proofs.Math.Bridge.{le_prop}
use mathlib.Core.Logic.{∥∥₁_elim}
use Rattle.group_laws.specs.State.{Group}
use Rattle.group_laws.specs.Invariant.{Lawful}
use Rattle.group_laws.specs.MemberViews.{View}
use Rattle.group_laws.specs.Runs.{Kind, IsStep}
use Rattle.group_board.specs.Told.{Makes}
use Rattle.core_worker.specs.declared.worker.Worker.{Worker}
use Rattle.core_worker.specs.Posting.{PostsPlain, PostsOrStops}
use Rattle.batch_leader.specs.declared.taken.Taken.{Taken}
use Rattle.core_worker.specs.Turns.{Moment, SameButLeading, persisted_left, failed_left, Persists, LosesBatch}
use Rattle.core_worker.specs.Left.{place_left, leading_left, serves_left, left, group_left, Lowers}
use Rattle.core_worker.specs.CleaningLeft.{clears_left}
use Rattle.core_worker.proofs.ClearsLeft as clears
use Rattle.core_worker.proofs.LeftSums.{places_with}
use Rattle.core_worker.proofs.LeftSteps.{posts_way, marks_way, fails_way}
use Rattle.core_worker.proofs.LeftWorkers.{leading_way, persisted_way, failed_way, unpledges_way, winds_less}

-- the board's law
abbrev pub IsLawful : Option Group → Type 0
IsLawful before = IfSome before (λ w. ∥ Lawful w ∥₁)

-- One step, of a state that is lawful.
pub lowers_step : (before after : Option Group) (m : ℕ) (kind : Kind) (v : View) (w x : Worker) → Makes before m kind after v → IsLawful before → ((a b : Group) → Lawful a → IsStep a m kind b → left x + group_left b < left w + group_left a) → Lowers before after w x
lowers_step None after m kind v w x made lawful less = tt
lowers_step (Some a) None m kind v w x made lawful less = absurd made
lowers_step (Some a) (Some b) m kind v w x made lawful less = ∥∥₁_elim lawful le_prop (λ L. less a b L made.0)

-- no step, where the worker itself has less to do
pub lowers_still : (before after : Option Group) (w x : Worker) → after ≡ before → left x < left w → Lowers before after w x
lowers_still before after w x same less = subst (λ (o : Option Group). Lowers before o w x) (sym same) (by before) where
  by : (o : Option Group) → Lowers o o w x
  by None = tt
  by (Some a) = omega (arith, less)

pub marks_lower : (before after : Option Group) (m : ℕ) (t : Taken) (rest : List Taken) (v : View) (w x : Worker) → persisted_left rest x.leading → SameButLeading w x → IsLawful before → Makes before m (Kind.Mark t.member t.slot) after v → Lowers before after w x
marks_lower before after m t rest v w x leads same lawful made =
    lowers_step before after m (Kind.Mark t.member t.slot) v w x made lawful (λ g u L step.
    let way = marks_way g m t.member t.slot step.0 L step.1 in
    let group = ap group_left step.2 in
    let still = leading_way w x same in
    let now = persisted_way rest x.leading leads in
    omega (arith, way, group, still, now))

pub fails_lower : (before after : Option Group) (m : ℕ) (t : Taken) (rest : List Taken) (v : View) (w x : Worker) → failed_left rest x.leading → SameButLeading w x → IsLawful before → Makes before m (Kind.Fail t.member t.slot) after v → Lowers before after w x
fails_lower before after m t rest v w x leads same lawful made =
    lowers_step before after m (Kind.Fail t.member t.slot) v w x made lawful (λ g u L step.
    let way = fails_way g m t.member t.slot step.0 L step.1 in
    let group = ap group_left step.2 in
    let still = leading_way w x same in
    let now = failed_way rest x.leading leads in
    omega (arith, way, group, still, now))

pub persists_lower : (before after : Option Group) (m : ℕ) (a b : Moment) → length b.worker.places.items ≡ length a.worker.places.items → Persists m a b → IsLawful before → Makes before m Kind.Commit after b.view → Lowers before after a.worker b.worker
persists_lower before after m a b count P lawful made =
    lowers_step before after m Kind.Commit b.view a.worker b.worker made lawful (λ w u L step.
    let group = ap group_left step.1 in
    let same = ap serves_left P.same in
    let places = unpledges_way m P.batch.changes.taken.items a.worker b.worker count P.pledged in
    let was = ap leading_left P.led in
    let now = ap leading_left P.leads_now in
    let kept = ap (λ (y : Worker). clears_left y.accepted y.cleaning b.worker.standing y.index y.notices.items) P.same in
    let names = clears.commits a.worker.accepted a.worker.cleaning a.worker.standing b.worker.standing a.worker.index a.worker.notices.items (length P.batch.changes.taken.items) P.stands in
    let winds = winds_less a.worker.winds_down b.worker.winds_down P.winds in
    omega (arith, group, same, places, was, now, kept, names, winds))

stops_less : (b : Bool) → 0 ≤ cond b 0 1
stops_less b = omega arith

pub loses_lower : (before after : Option Group) (a b : Moment) → LosesBatch a b → after ≡ before → Lowers before after a.worker b.worker
loses_lower before after a b P group =
    lowers_still before after a.worker b.worker group
    (let same = ap serves_left P.same in
    let was = ap leading_left P.led in
    let now = ap leading_left P.leads_now in
    let kept = ap (λ (y : Worker). clears_left y.accepted y.cleaning b.worker.standing y.index y.notices.items) P.same in
    let names = clears.commits a.worker.accepted a.worker.cleaning a.worker.standing b.worker.standing a.worker.index a.worker.notices.items (length P.batch.changes.taken.items) P.stands in
    let stops = stops_less a.worker.stopped in
    omega (arith, same, was, now, kept, names, stops))

-- A post, after its block where there is one; or the core stops.
pub plain_lower : (before after : Option Group) (m : ℕ) (v u : View) (w x : Worker) (slot : ℕ) → slot < length w.places.items → PostsPlain m before after v u w x slot → IsLawful before → Lowers before after w x
plain_lower before after m v u w x slot lt P lawful =
    lowers_step before after m (Kind.Post slot P.entry P.value) u w x P.whole lawful (λ a b L step.
    let way = posts_way a m slot P.entry P.value step.0 in
    let group = ap group_left step.1 in
    let same = ap left P.rest in
    let places = places_with w.places.items x.places.items slot _ P.places lt in
    let was = ap place_left P.was in
    omega (arith, way, group, same, places, was))

pub posts_lower : (before after : Option Group) (m : ℕ) (v u : View) (w x : Worker) (slot : ℕ) → w.stopped ≡ false → slot < length w.places.items → PostsOrStops m before after v u w x slot → IsLawful before → Lowers before after w x
posts_lower before after m v u w x slot runs lt which lawful = ⊎_elim
    (λ done. subst (λ (y : ℕ). IfSome before (λ a. IsSomeAnd after (λ b. left x + group_left b < y + group_left a))) (ap left done.1)
    (plain_lower before after m v u done.0 x slot (subst (λ (y : Worker). slot < length y.places.items) (sym done.1) lt) done.2 lawful))
    (λ stops. lowers_still before after w x stops.2 (let same = ap left stops.0 in let was : cond w.stopped 0 1 ≡ 1 = ap {B = ℕ} (λ b. cond b 0 1) runs in omega (arith, same, was)))
    which

-- places are reserved for the names of the next batch, or the core winds down
pub renewed_lowers : (before after : Option Group) (w y x : Worker) → x ≡ record y { standing = x.standing; winds_down = x.winds_down } → length x.standing.entries ≡ length y.standing.entries → (y.winds_down ≡ true → x.winds_down ≡ true) → Lowers before after w y → Lowers before after w x
renewed_lowers None after w y x rest count up less = tt
renewed_lowers (Some a) None w y x rest count up less = absurd less
renewed_lowers (Some a) (Some b) w y x rest count up less =
    let same = ap serves_left rest in
    let kept = ap (λ (z : Worker). clears_left z.accepted z.cleaning x.standing z.index z.notices.items) rest in
    let names = clears.stays y.accepted y.cleaning y.standing x.standing y.index y.index y.notices.items (omega (arith, count)) (omega arith) in
    let winds = winds_less y.winds_down x.winds_down up in
    omega (arith, less, same, kept, names, winds)
