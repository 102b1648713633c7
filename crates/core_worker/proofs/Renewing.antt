-- The ties say nothing of the names in the log, and a worker that winds down is tied by less.
use Rattle.std.proofs.Common.{◌≡◌, ℕ, Bool, true, false, refl, sym, ◌∙◌, ap, subst, length, arith}
use Rattle.pm_region.specs.State.{State}
use Rattle.log_standing.specs.NameCounts.{StandingState, count_in}
use Rattle.group_laws.specs.Places.{Place}
use Rattle.group_laws.specs.MemberViews.{View}
use Rattle.core_worker.specs.declared.types.Leading.{Leading}
use Rattle.core_worker.specs.declared.types.Leading.TheVariants as leads
use Rattle.core_log.specs.declared.types.Room.{Room}
use Rattle.batch_leader.specs.Rounds.{words_taken}
use Rattle.batch_leader.specs.Leading.{Suits, HasSpace}
use Rattle.core_worker.specs.Status.{is_leading}
use Rattle.core_worker.specs.Supplies.{room_for, HasKeptRoom}
use Rattle.core_worker.proofs.UnderWay.{room_winds, room_counted}
use Rattle.core_worker.proofs.CleaningKept.{keeps_counts, keeps_winds, led_room}
use Rattle.core_worker.specs.declared.worker.Worker.{Worker}
use Rattle.core_worker.specs.Ties.{Holds, Stands, HasSpaceFor}
use Rattle.core_worker.specs.StandingTies.{SameNames}
use Rattle.core_worker.specs.KeepsCleaning.{KeepsCleaning}
use Rattle.core_worker.specs.Turns.{Moment, Persists, LosesBatch, PersistsOrLoses}
use Rattle.core_worker.proofs.MailKept.{mail_winds}
use Rattle.core_worker.proofs.NamesKnown.{adds_same}
use Rattle.core_worker.proofs.NamesStood.{names_same}

space : (w : Worker) (st : StandingState) (winds : Bool) → (is_leading w.leading ≡ true → room_for (record w { standing = st; winds_down = winds }) ≡ room_for w) → (l : Leading) → w.leading ≡ l → HasSpaceFor w l → HasSpaceFor (record w { standing = st; winds_down = winds }) l
space w st winds room (leads.Nothing b) e h = tt
space w st winds room (leads.Collecting c) e h = subst (λ (r : Room). Suits r c) (sym (room (ap is_leading e))) h
space w st winds room (leads.Batch b) e h = subst (λ (r : Room). HasSpace r b.fresh b.own_lines (words_taken b.changes.taken.items)) (sym (room (ap is_leading e))) h
space w st winds room (leads.Persisted x) e h = tt
space w st winds room (leads.Failed x) e h = tt
space w st winds room leads.Between e h = tt

pub holds_renewed : (p : Place) (m : ℕ) (v : View) (w : Worker) (st : StandingState) (winds : Bool) → (winds ≡ false → w.winds_down ≡ false) → KeepsCleaning p m v (record w { standing = st; winds_down = winds }) → Holds p m v w → Holds p m v (record w { standing = st; winds_down = winds })
holds_renewed p m v w st winds works cleaning H = record {
  place = H.place;
  member = H.member;
  core = H.core;
  layout = H.layout;
  log_layout = H.log_layout;
  log_part = H.log_part;
  sets = H.sets;
  allocator_layout = H.allocator_layout;
  allocator_part = H.allocator_part;
  spelled = H.spelled;
  eight = H.eight;
  placed = H.placed;
  apart = H.apart;
  pending = H.pending;
  admitted = H.admitted;
  keys = H.keys;
  mail = mail_winds p m v w.winds_down winds w.notices.items works H.mail;
  blocks = H.blocks;
  waits = λ on. H.waits (works on);
  leads = H.leads;
  space = λ r. space w st winds (led_room p m v w st winds works H.cleaning) w.leading refl (H.space r);
  broken = H.broken;
  lost = H.lost;
  flight = H.flight;
  cleaning = cleaning;
  remembers = H.remembers;
  chunks = H.chunks;
}

pub stands_renewed : (s : State) (p : Place) (m : ℕ) (v : View) (w : Worker) (st : StandingState) (winds : Bool) → (winds ≡ false → w.winds_down ≡ false) → SameNames w.standing st → Stands s p m v w → Stands s p m v (record w { standing = st; winds_down = winds })
stands_renewed s p m v w st winds works same S = record { lies = S.lies; licensed = S.licensed; landed = S.landed; log = S.log; free = S.free; due = S.due; cut = S.cut; names = λ r on telling. names_same s m v.kept v.present v.told v.dead w.log w.standing st w.clearing w.cleaning same (S.names r (works on) telling) }

still_works : (y x : Worker) → (y.winds_down ≡ true → x.winds_down ≡ true) → x.winds_down ≡ false → y.winds_down ≡ false
still_works y x up on = by y.winds_down refl where
  by : (b : Bool) → y.winds_down ≡ b → y.winds_down ≡ false
  by false e = e
  by true e = absurd (let both : true ≡ false = sym (up e) ∙ on in cc both)

pub renewed_holds : (p : Place) (m : ℕ) (v : View) (y x : Worker) → x ≡ record y { standing = x.standing; winds_down = x.winds_down } → (y.winds_down ≡ true → x.winds_down ≡ true) → SameNames y.standing x.standing → Holds p m v y → Holds p m v x
renewed_holds p m v y x rest up same H = subst (λ (z : Worker). Holds p m v z) (sym rest) (holds_renewed p m v y x.standing x.winds_down (still_works y x up) (keeps_winds p m v (record y { standing = x.standing }) x.winds_down (still_works y x up) (keeps_counts p m v y x.standing (λ k n. ap count_in (same.copies k n)) H.cleaning)) H)

pub renewed_stands : (s : State) (p : Place) (m : ℕ) (v : View) (y x : Worker) → x ≡ record y { standing = x.standing; winds_down = x.winds_down } → (y.winds_down ≡ true → x.winds_down ≡ true) → SameNames y.standing x.standing → Stands s p m v y → Stands s p m v x
renewed_stands s p m v y x rest up same S = subst (λ (z : Worker). Stands s p m v z) (sym rest) (stands_renewed s p m v y x.standing x.winds_down (still_works y x up) same S)

-- a batch was written, and places reserved for the names of the next one
persists_renewed : (m : ℕ) (a : Moment) (y : Worker) (u : View) (st : StandingState) (winds : Bool) → SameNames y.standing st → length st.entries ≡ length y.standing.entries → (y.winds_down ≡ true → winds ≡ true) → Persists m a (record { worker = y; view = u }) → Persists m a (record { worker = record y { standing = st; winds_down = winds }; view = u })
persists_renewed m a y u st winds same count up P = record {
  batch = P.batch;
  done = P.done;
  led = P.led;
  leads_now = P.leads_now;
  gives = P.gives;
  fresh = P.fresh;
  chunk = P.chunk;
  log = P.log;
  pledged = P.pledged;
  view = P.view;
  names = λ on. adds_same a.worker.standing y.standing st _ (P.names on) same;
  stands = (let many = P.stands in omega (arith, many, count));
  winds = λ e. up (P.winds e);
  same = ap (λ (z : Worker). record z { standing = st; winds_down = winds }) P.same;
}

-- the same where the batch may be lost: a core that stopped needs no places
pub batch_renewed : (m : ℕ) (a : Moment) (y x : Worker) (u : View) → x ≡ record y { standing = x.standing; winds_down = x.winds_down } → SameNames y.standing x.standing → length x.standing.entries ≡ length y.standing.entries → (y.winds_down ≡ true → x.winds_down ≡ true) → (y.stopped ≡ true → x ≡ y)
    → PersistsOrLoses y.stopped m a (record { worker = y; view = u }) → PersistsOrLoses x.stopped m a (record { worker = x; view = u })
batch_renewed m a y x u rest same count up still which = by y.stopped refl which where
  by : (b : Bool) → y.stopped ≡ b → PersistsOrLoses b m a (record { worker = y; view = u }) → PersistsOrLoses x.stopped m a (record { worker = x; view = u })
  by true e L = subst (λ (b : Bool). PersistsOrLoses b m a (record { worker = x; view = u })) (sym (ap (λ (z : Worker). z.stopped) (still e) ∙ e)) (subst (λ (z : Worker). LosesBatch a (record { worker = z; view = u })) (sym (still e)) L)
  by false e P = subst (λ (b : Bool). PersistsOrLoses b m a (record { worker = x; view = u })) (sym (ap (λ (z : Worker). z.stopped) rest ∙ e)) (subst (λ (z : Worker). Persists m a (record { worker = z; view = u })) (sym rest) (persists_renewed m a y u x.standing x.winds_down same count up P))

-- and the room rule is kept
pub renewed_room : (y x : Worker) → x ≡ record y { standing = x.standing; winds_down = x.winds_down } → (y.winds_down ≡ true → x.winds_down ≡ true) → SameNames y.standing x.standing → HasKeptRoom y → HasKeptRoom x
renewed_room y x rest up same h = subst (λ (z : Worker). HasKeptRoom z) (sym rest) (room_winds (record y { standing = x.standing }) x.winds_down (still_works y x up) (room_counted y x.standing same.tally h))
