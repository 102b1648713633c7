-- What is kept where answers are given out, and where a worker winds down.
use Rattle.std.proofs.Common.{ℕ, true, inl, refl, ◌≡◌, sym, ap, subst}
use Rattle.std.specs.declared.collections.VecDeque.{VecDeque}
use Rattle.std.specs.Global.{Global}
use Rattle.pm_region.specs.State.{State}
use Rattle.group_laws.specs.Places.{Place}
use Rattle.group_laws.specs.MemberViews.{View}
use Rattle.core_worker.specs.declared.types.Answer.{Answer}
use Rattle.core_worker.specs.declared.types.Leading.{Leading}
use Rattle.core_worker.specs.declared.types.Leading.TheVariants as leads
use Rattle.core_log.specs.declared.types.Room.{Room}
use Rattle.batch_leader.specs.Rounds.{words_taken}
use Rattle.batch_leader.specs.Leading.{Suits, HasSpace}
use Rattle.core_worker.specs.Supplies.{room_for}
use Rattle.core_worker.specs.Status.{is_leading}
use Rattle.core_worker.proofs.UnderWay.{wound_way}
use Rattle.core_worker.proofs.CleaningKept.{led_room}
use Rattle.core_worker.specs.declared.worker.Worker.{Worker}
use Rattle.core_worker.specs.Ties.{Holds, Stands, HasSpaceFor}
use Rattle.core_worker.proofs.MailKept.{mail_winds}
use Rattle.core_worker.proofs.Beginnings.{with_answers, answered_holds, answered_stands, aside_of, of_aside}

pub given_holds : (p : Place) (m : ℕ) (v : View) (w : Worker) (a : VecDeque Answer Global) → Holds p m v w → Holds p m v (with_answers w a)
given_holds p m v w a H = of_aside p m v (with_answers w a) (answered_holds p m v w (with_answers w a) refl (aside_of p m v w H)) H.admitted H.waits

pub given_stands : (s : State) (p : Place) (m : ℕ) (v : View) (w : Worker) (a : VecDeque Answer Global) → Stands s p m v w → Stands s p m v (with_answers w a)
given_stands s p m v w a S = answered_stands s p m v w (with_answers w a) refl S

space : (w : Worker) → (is_leading w.leading ≡ true → room_for (record w { winds_down = true }) ≡ room_for w) → (l : Leading) → w.leading ≡ l → HasSpaceFor w l → HasSpaceFor (record w { winds_down = true }) l
space w room (leads.Nothing b) e h = tt
space w room (leads.Collecting c) e h = subst (λ (r : Room). Suits r c) (sym (room (ap is_leading e))) h
space w room (leads.Batch b) e h = subst (λ (r : Room). HasSpace r b.fresh b.own_lines (words_taken b.changes.taken.items)) (sym (room (ap is_leading e))) h
space w room (leads.Persisted x) e h = tt
space w room (leads.Failed x) e h = tt
space w room leads.Between e h = tt

pub wound_holds : (p : Place) (m : ℕ) (v : View) (w : Worker) → Holds p m v w → Holds p m v (record w { winds_down = true })
wound_holds p m v w H = record {
  place = H.place;
  member = H.member;
  core = H.core;
  layout = H.layout;
  log_layout = H.log_layout;
  log_part = H.log_part;
  sets = H.sets;
  allocator_layout = H.allocator_layout;
  allocator_part = H.allocator_part;
  spelled = H.spelled;
  eight = H.eight;
  placed = H.placed;
  apart = H.apart;
  pending = H.pending;
  admitted = H.admitted;
  keys = H.keys;
  mail = mail_winds p m v w.winds_down true w.notices.items (λ on. absurd (cc on)) H.mail;
  blocks = H.blocks;
  waits = λ on. absurd (cc on);
  leads = H.leads;
  space = λ r. space w (led_room p m v w w.standing true (λ on. absurd (cc on)) H.cleaning) w.leading refl (H.space r);
  broken = H.broken;
  lost = H.lost;
  flight = H.flight;
  cleaning = inl (wound_way w);
  remembers = H.remembers;
  chunks = H.chunks;
}

pub wound_stands : (s : State) (p : Place) (m : ℕ) (v : View) (w : Worker) → Stands s p m v w → Stands s p m v (record w { winds_down = true })
wound_stands s p m v w S = record { lies = S.lies; licensed = S.licensed; landed = S.landed; log = S.log; free = S.free; due = S.due; cut = S.cut; names = λ r on. absurd (cc on) }
