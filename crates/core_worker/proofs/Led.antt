-- What a leader's steps leave of the ties.
use Rattle.std.proofs.Common.{◌≡◌, inl, inr, ⊎_elim, ℕ, Bool, true, false, List, [], Option, refl, sym, ◌∙◌, subst}
use Rattle.pm_region.specs.State.{State}
use Rattle.log_entry.specs.declared.entry.Entry.{Entry}
use Rattle.group_laws.specs.declared.types.Seen.{Seen}
use Rattle.group_laws.specs.Places.{Place}
use Rattle.group_laws.specs.MemberViews.{View}
use Rattle.licence.specs.Licence.{grounded}
use Rattle.licence.proofs.Clients.{allowed, flown}
use Rattle.core_worker.specs.declared.types.Leading.{Leading}
use Rattle.core_worker.specs.declared.worker.Worker.{Worker}
use Rattle.core_worker.specs.KeepsCleaning.{KeepsCleaning}
use Rattle.core_worker.specs.Ties.{Leads, HasSpaceFor, KeepsFlight, in_flight, is_lost, Holds, Stands}
use Rattle.core_worker.proofs.Flight.{failed_on}
use Rattle.core_worker.proofs.MailKept.{mail_same}
use Rattle.core_worker.proofs.CleaningKept.{stopped_none}

-- a view in which a leader's fields are others
abbrev pub led_view : View → List Entry → List Entry → (ℕ → ℕ → Option Entry) → Bool → List Seen → List Entry → View
led_view v kept flying taken holds looked took = record v { kept = kept; flying = flying; taken = taken; holds = holds; looked = looked; took = took }

pub holds_led : (p : Place) (m : ℕ) (v : View) (w : Worker) (flying : List Entry) (taken : ℕ → ℕ → Option Entry) (holds : Bool) (looked : List Seen) (took : List Entry) (l : Leading) → Holds p m v w
    → Leads p m (led_view v v.kept flying taken holds looked took) l → KeepsCleaning p m v (record w { leading = l }) → (w.stopped ≡ false → HasSpaceFor w l) → (is_lost l ≡ true → w.stopped ≡ true) → KeepsFlight flying v.broken l w.lost_batch w.stopped
    → Holds p m (led_view v v.kept flying taken holds looked took) (record w { leading = l })
holds_led p m v w flying taken holds looked took l H leads cleaning space lost flight = record {
  place = H.place;
  member = H.member;
  core = H.core;
  layout = H.layout;
  log_layout = H.log_layout;
  log_part = H.log_part;
  sets = H.sets;
  allocator_layout = H.allocator_layout;
  allocator_part = H.allocator_part;
  spelled = H.spelled;
  eight = H.eight;
  placed = λ s lt. H.placed s lt;
  apart = H.apart;
  pending = H.pending;
  admitted = H.admitted;
  keys = λ k own which. let K = H.keys k own which in record { last = K.last; cell = K.cell; present = K.present; told = K.told };
  mail = mail_same p m v (led_view v v.kept flying taken holds looked took) w.winds_down w.notices.items refl refl refl refl refl H.mail;
  blocks = record {
    held = H.blocks.held;
    staged = λ q x. H.blocks.staged q (record { slot = x.slot; number = x.number; entry = x.entry; value = x.value; place = x.place; points = x.points });
    once = λ q x y. H.blocks.once q (record { slot = x.slot; number = x.number; entry = x.entry; value = x.value; place = x.place; points = x.points }) (record { slot = y.slot; number = y.number; entry = y.entry; value = y.value; place = y.place; points = y.points });
    only = λ q used. ⊎_elim (λ b. inl b) (λ x. inr (record { slot = x.slot; number = x.number; entry = x.entry; value = x.value; place = x.place; points = x.points })) (H.blocks.only q used);
  };
  waits = H.waits;
  leads = leads;
  space = space;
  broken = H.broken;
  cleaning = cleaning;
  remembers = H.remembers;
  chunks = H.chunks;
  lost = lost;
  flight = flight;
}

-- nothing certain or in flight changes
pub stands_quiet : (s : State) (p : Place) (m : ℕ) (v : View) (w : Worker) (taken : ℕ → ℕ → Option Entry) (holds : Bool) (looked : List Seen) (took : List Entry) (l : Leading) → Stands s p m v w
    → Stands s p m (led_view v v.kept v.flying taken holds looked took) (record w { leading = l })
stands_quiet s p m v w taken holds looked took l S =
    let u = led_view v v.kept v.flying taken holds looked took in
    record {
      lies = S.lies;
      licensed = λ telling image may. allowed p m v u image (record { kept = refl; flying = refl; doomed = λ k n e. e; blocks = λ q b e. e }) (S.licensed telling image may);
      landed = λ unlost telling image may. allowed p m (grounded v) (grounded u) image (record { kept = refl; flying = refl; doomed = λ k n e. e; blocks = λ q b e. e }) (S.landed unlost telling image may);
      log = S.log;
      free = S.free;
      due = S.due;
      cut = S.cut;
      names = S.names;
    }

-- the same of a view that is known to be such a one
pub holds_by : (p : Place) (m : ℕ) (v u : View) (w : Worker) (flying : List Entry) (taken : ℕ → ℕ → Option Entry) (holds : Bool) (looked : List Seen) (took : List Entry) (l : Leading) → u ≡ led_view v v.kept flying taken holds looked took → Holds p m v w
    → Leads p m u l → KeepsCleaning p m v (record w { leading = l }) → (w.stopped ≡ false → HasSpaceFor w l) → (is_lost l ≡ true → w.stopped ≡ true) → KeepsFlight u.flying u.broken l w.lost_batch w.stopped
    → Holds p m u (record w { leading = l })
holds_by p m v u w flying taken holds looked took l e H leads cleaning space lost flight =
    subst (λ (x : View). Holds p m x (record w { leading = l })) (sym e) (holds_led p m v w flying taken holds looked took l H (subst (λ (x : View). Leads p m x l) e leads) cleaning space lost (subst (λ (x : View). KeepsFlight x.flying x.broken l w.lost_batch w.stopped) e flight))

pub stands_by : (s : State) (p : Place) (m : ℕ) (v u : View) (w : Worker) (taken : ℕ → ℕ → Option Entry) (holds : Bool) (looked : List Seen) (took : List Entry) (l : Leading) → u ≡ led_view v v.kept v.flying taken holds looked took → Stands s p m v w
    → Stands s p m u (record w { leading = l })
stands_by s p m v u w taken holds looked took l e S = subst (λ (x : View). Stands s p m x (record w { leading = l })) (sym e) (stands_quiet s p m v w taken holds looked took l S)

-- what is taken while no image has what is in flight
pub stands_taking : (s : State) (p : Place) (m : ℕ) (v u : View) (w : Worker) (flying : List Entry) (taken : ℕ → ℕ → Option Entry) (looked : List Seen) (took : List Entry) (l : Leading) → u ≡ led_view v v.kept flying taken v.holds looked took
    → w.lost_batch ≡ false → Stands s p m v w → Stands s p m u (record w { leading = l })
stands_taking s p m v u w flying taken looked took l e unlost S =
    let x = led_view v v.kept flying taken v.holds looked took in
    subst (λ (x : View). Stands s p m x (record w { leading = l })) (sym e) (record {
      lies = S.lies;
      licensed = λ telling image may. flown p m x image (allowed p m (grounded v) (grounded x) image (record { kept = refl; flying = refl; doomed = λ k n e. e; blocks = λ q b e. e }) (S.landed unlost telling image may));
      landed = λ off telling image may. allowed p m (grounded v) (grounded x) image (record { kept = refl; flying = refl; doomed = λ k n e. e; blocks = λ q b e. e }) (S.landed unlost telling image may);
      log = S.log;
      free = S.free;
      due = S.due;
      cut = S.cut;
      names = S.names;
    })

-- a core that runs is not broken
pub runs_whole : (p : Place) (m : ℕ) (v : View) (w : Worker) → Holds p m v w → w.stopped ≡ false → v.broken ≡ false
runs_whole p m v w H runs = by_case v.broken refl where
  by_case : (b : Bool) → v.broken ≡ b → v.broken ≡ false
  by_case false e = e
  by_case true e = absurd (let both : true ≡ false = sym (H.broken e) ∙ runs in cc both)

-- the same after an entry was failed: who has stopped may be broken
abbrev pub failed_view : View → (ℕ → ℕ → Option Entry) → View
failed_view v taken = record v { taken = taken; broken = true; looked = [] }

pub failed_by : (p : Place) (m : ℕ) (v u : View) (w : Worker) (taken : ℕ → ℕ → Option Entry) (l : Leading) → u ≡ failed_view v taken → Holds p m v w → Leads p m u l → HasSpaceFor w l → w.stopped ≡ true → in_flight l ≡ in_flight w.leading → Holds p m u (record w { leading = l })
failed_by p m v u w taken l e H leads space stopped flies = subst (λ (x : View). Holds p m x (record w { leading = l })) (sym e) (record {
  place = H.place;
  member = H.member;
  core = H.core;
  layout = H.layout;
  log_layout = H.log_layout;
  log_part = H.log_part;
  sets = H.sets;
  allocator_layout = H.allocator_layout;
  allocator_part = H.allocator_part;
  spelled = H.spelled;
  eight = H.eight;
  placed = λ s lt. H.placed s lt;
  apart = H.apart;
  pending = H.pending;
  admitted = H.admitted;
  keys = λ k own which. let K = H.keys k own which in record { last = K.last; cell = K.cell; present = K.present; told = K.told };
  mail = mail_same p m v (failed_view v taken) w.winds_down w.notices.items refl refl refl refl refl H.mail;
  blocks = record {
    held = H.blocks.held;
    staged = λ q x. H.blocks.staged q (record { slot = x.slot; number = x.number; entry = x.entry; value = x.value; place = x.place; points = x.points });
    once = λ q x y. H.blocks.once q (record { slot = x.slot; number = x.number; entry = x.entry; value = x.value; place = x.place; points = x.points }) (record { slot = y.slot; number = y.number; entry = y.entry; value = y.value; place = y.place; points = y.points });
    only = λ q used. ⊎_elim (λ b. inl b) (λ x. inr (record { slot = x.slot; number = x.number; entry = x.entry; value = x.value; place = x.place; points = x.points })) (H.blocks.only q used);
  };
  waits = H.waits;
  leads = subst (λ (x : View). Leads p m x l) e leads;
  space = λ runs. space;
  broken = λ b. stopped;
  cleaning = inl (stopped_none w stopped);
  remembers = H.remembers;
  chunks = H.chunks;
  lost = λ b. stopped;
  flight = failed_on v.flying v.broken w.leading w.lost_batch w.stopped H.flight l flies stopped;
})

pub failed_stands : (s : State) (p : Place) (m : ℕ) (v u : View) (w : Worker) (taken : ℕ → ℕ → Option Entry) (l : Leading) → u ≡ failed_view v taken → Stands s p m v w → Stands s p m u (record w { leading = l })
failed_stands s p m v u w taken l e S =
    let x = failed_view v taken in
    subst (λ (y : View). Stands s p m y (record w { leading = l })) (sym e) (record {
      lies = S.lies;
      licensed = λ telling image may. allowed p m v x image (record { kept = refl; flying = refl; doomed = λ k n e. e; blocks = λ q b e. e }) (S.licensed telling image may);
      landed = λ unlost telling image may. allowed p m (grounded v) (grounded x) image (record { kept = refl; flying = refl; doomed = λ k n e. e; blocks = λ q b e. e }) (S.landed unlost telling image may);
      log = S.log;
      free = S.free;
      due = S.due;
      cut = S.cut;
      names = S.names;
    })
