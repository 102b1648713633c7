-- A core that has taken nothing in its round is at the round's first slot: whatever an item does leaves it so.
use Rattle.std.proofs.Common.{◌≡◌, ⊎_elim, ℕ, ◌+◌, Bool, true, false, Option, Some, None, refl, sym, ◌∙◌, ap, arith}
use Rattle.std.specs.Prelude.{MatchOption}
use Rattle.group_laws.specs.Places as groups
use Rattle.group_laws.specs.State.{Group}
use Rattle.pm_region.specs.State.{State}
use Rattle.log_entry.specs.declared.entry.Entry.{Entry}
use Rattle.group_board.specs.Seats.{SeatAt}
use Rattle.batch_leader.specs.declared.states.Collecting.{Collecting}
use Rattle.batch_leader.specs.declared.states.Released.{Released}
use Rattle.batch_leader.specs.declared.states.Released.TheVariants as released
use Rattle.batch_leader.specs.Leading.{taken_by}
use Rattle.core_worker.specs.declared.types.Leading.{Leading}
use Rattle.core_worker.specs.declared.types.Leading.TheVariants as leads
use Rattle.core_worker.specs.declared.worker.Worker.{Worker}
use Rattle.core_worker.specs.Ties.{LeadsNothing}
use Rattle.group_laws.specs.MemberViews.{View}
use Rattle.core_worker.specs.Finishing.{FinishesSlot, Settles}
use Rattle.core_worker.specs.Turns.{Moment, led_by, Collects, Releases, PersistsOrLoses, Marks, Fails, Posts, LosesBlock, Locks, Idles}
use Rattle.core_worker.specs.Left.{taken_left, StartsFirst, fair}
use Rattle.core_worker.proofs.LeftWorkers.{taken_more}

pub starts_same : (w x : Worker) → x.leading ≡ w.leading → x.stopped ≡ w.stopped → StartsFirst w → StartsFirst x
starts_same w x led stopped starts runs c is none = starts (sym stopped ∙ runs) c (sym led ∙ is) none

pub starts_stopped : (x : Worker) → x.stopped ≡ true → StartsFirst x
starts_stopped x stopped runs c is none = absurd (let both : true ≡ false = sym stopped ∙ runs in cc both)

abbrev is_collecting : Leading → Bool
is_collecting (leads.Nothing b) = false
is_collecting (leads.Collecting c) = true
is_collecting (leads.Batch b) = false
is_collecting (leads.Persisted x) = false
is_collecting (leads.Failed x) = false
is_collecting leads.Between = false

starts_other : (x : Worker) → is_collecting x.leading ≡ false → StartsFirst x
starts_other x other runs c is none = absurd (let both : false ≡ true = sym other ∙ ap is_collecting is in cc both)

pub starts_nothing : (x : Worker) → LeadsNothing x → StartsFirst x
starts_nothing x free = starts_other x (ap is_collecting free.1)

-- it leads nothing, and goes on so
pub starts_still : (w x : Worker) → x.leading ≡ w.leading → LeadsNothing w → StartsFirst x
starts_still w x led free = starts_other x (ap is_collecting led ∙ ap is_collecting free.1)

pub collects_starts : (before : Option Group) (m : ℕ) (a b : Moment) → Collects before m a b → StartsFirst b.worker
collects_starts before m a b C runs c is none = absurd (
    let same : leads.Collecting C.new ≡ leads.Collecting c = sym C.leads_now ∙ is in
    let here : C.new ≡ c = cc same in
    let six : taken_left (taken_by c) ≡ 6 + taken_left (taken_by C.old) = ap (λ (x : Collecting). taken_left (taken_by x)) (sym here) ∙ ap taken_left C.went.0.taken ∙ taken_more (taken_by C.old) C.went.0.change in
    let zero_left : taken_left (taken_by c) ≡ 0 = ap taken_left none in
    omega (arith, six, zero_left)
    )

given_other : (r : Released) → is_collecting (led_by r) ≡ false
given_other (released.Batch b) = refl
given_other (released.Nothing b) = refl

pub releases_starts : (before : Option Group) (seat : SeatAt) (a b : Moment) → Releases before seat a b → StartsFirst b.worker
releases_starts before seat a b R = starts_other b.worker (ap is_collecting R.leads_now ∙ given_other R.given)

pub writes_starts : (m : ℕ) (a b : Moment) → PersistsOrLoses b.worker.stopped m a b → StartsFirst b.worker
writes_starts m a b which = by b.worker.stopped refl which where
  by : (s : Bool) → b.worker.stopped ≡ s → PersistsOrLoses s m a b → StartsFirst b.worker
  by true e P = starts_stopped b.worker e
  by false e P = starts_other b.worker (ap is_collecting P.leads_now)

pub marks_starts : (a b : Moment) → Marks a b → StartsFirst b.worker
marks_starts a b M = starts_other b.worker (⊎_elim (λ more. ap is_collecting more.1.2) (λ over. ap is_collecting over.1.1) M.leads_now)

pub fails_starts : (a b : Moment) → Fails a b → StartsFirst b.worker
fails_starts a b F = starts_other b.worker (⊎_elim (λ more. ap is_collecting more.1.2) (λ over. ap is_collecting over.1.1) F.leads_now)

pub posts_starts : (m : ℕ) (a b : Moment) → Posts m a b → StartsFirst b.worker
posts_starts m a b P = starts_still a.worker b.worker (ap (λ (x : Worker). x.leading) P.same) P.before.free

pub loses_starts : (m : ℕ) (a b : Moment) → LosesBlock m a b → StartsFirst b.worker
loses_starts m a b P = starts_still a.worker b.worker (ap (λ (x : Worker). x.leading) P.same) P.before.free

pub locks_starts : (s : State) (refused : Bool) (p : groups.Place) (m : ℕ) (a b : Moment) → Locks s refused p m a b → StartsFirst b.worker
locks_starts s refused p m a b L runs c is none =
    let same : leads.Collecting L.leads_now.0 ≡ leads.Collecting c = sym L.leads_now.1 ∙ is in
    let here : L.leads_now.0 ≡ c = cc same in
    ap (λ (x : Collecting). x.at) (sym here) ∙ L.leads_now.2

pub idles_starts : (s : State) (refused : Bool) (p : groups.Place) (m : ℕ) (a b : Moment) → Idles s refused p m a b → StartsFirst b.worker
idles_starts s refused p m a b I = starts_nothing b.worker I.free

settled_leads : (home : Option ℕ) (p : groups.Place) (w x : Worker) (e : Entry) → MatchOption home (x ≡ record w { stopped = true }) (λ h. Settles w x e (groups.core_of p h)) → x.leading ≡ w.leading
settled_leads None p w x e stops = ap (λ (y : Worker). y.leading) stops
settled_leads (Some h) p w x e settles = ap (λ (y : Worker). y.leading) settles.rest

pub finishes_starts : (s : State) (p : groups.Place) (m slot : ℕ) (v u : View) (w x : Worker) (all : Bool) → LeadsNothing w → FinishesSlot s p m slot v u w x all → StartsFirst x
finishes_starts s p m slot v u w x all nothing F =
    let T = F.takes in
    starts_still w x
    (ap (λ (y : Worker). y.leading) F.rest ∙ ap (λ (y : Worker). y.leading) T.lets.rest ∙ settled_leads T.home p w T.mid T.entry T.settles)
    nothing

-- What the other members do doesn't matter.
pub fair_beside : (a e : Group) (m : ℕ) (w : Worker) → fair a m w → fair e m w
fair_beside a e m w starts = starts
