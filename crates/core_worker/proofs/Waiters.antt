-- The waiting requests of a key are begun one after the other.
use Rattle.std.proofs.Common.{◌≡◌, ℕ, ◌==◌, Bool, true, false, cond, List, [], ◌∷◌, Option, refl, sym, ◌∙◌, ap, subst}
use Rattle.std.specs.List.{filter}
use Rattle.std.proofs.lemmas.Bool.{eqb-true}
use Rattle.pm_region.specs.State.{State}
use Rattle.fs_model.specs.Cells.{key_of}
use Rattle.conflict_queue.specs.declared.types.Held.{Held}
use Rattle.conflict_queue.specs.Waiting.{waiting, TakesFirst}
use Rattle.group_laws.specs.Places.{Place, owner}
use Rattle.group_laws.specs.MemberViews.{View}
use Rattle.core_log.specs.declared.types.Room.{Room}
use Rattle.batch_leader.specs.Rounds.{words_taken}
use Rattle.batch_leader.specs.Leading.{Suits, HasSpace}
use Rattle.core_worker.specs.Status.{is_leading}
use Rattle.core_worker.proofs.CleaningKept.{keeps_winds, led_room}
use Rattle.core_worker.specs.declared.worker.Worker.{Worker}
use Rattle.core_worker.specs.Beginning.{HoldsAside, IsHeldAside}
use Rattle.core_worker.specs.Ties.{Stands, HasSpaceFor, Tie, StandsBy}
use Rattle.core_worker.proofs.MailKept.{mail_winds}
use Rattle.core_worker.specs.declared.types.Leading.{Leading}
use Rattle.core_worker.specs.declared.types.Leading.TheVariants as leads

-- the first waiting request of a key is one of that key
first_of : (p : Held → Bool) (hs : List Held) (h : Held) (rest : List Held) → filter p hs ≡ h ∷ rest → p h ≡ true
first_of p [] h rest e = absurd (cc e)
first_of p (x ∷ xs) h rest e = by (p x) refl e (λ again. first_of p xs h rest again) where
  by : (b : Bool) → p x ≡ b → cond b (x ∷ filter p xs) (filter p xs) ≡ h ∷ rest → (filter p xs ≡ h ∷ rest → p h ≡ true) → p h ≡ true
  by true is e again = ap p (let same : x ≡ h = cc e in sym same) ∙ is
  by false is e again = again e

pub first_key : (old new : List Held) (k : ℕ) (h : Held) → TakesFirst old new k h → key_of h.request ≡ k
first_key old new k h t = eqb-true (key_of h.request) k (first_of (λ x. key_of x.request == k) old h (waiting new k) t.key)

-- with nothing waiting the ties say nothing of the queue, nor of what is in hand
pub aside_other : (p : Place) (m : ℕ) (v : View) (w : Worker) (q : List Held) (h : Option Held) (b : Bool) → (b ≡ false → w.winds_down ≡ false) → HoldsAside p m v w → HoldsAside p m v (record w { queue = q; in_hand = h; winds_down = b })
aside_other p m v w q h b works H = record {
  place = H.place;
  member = H.member;
  core = H.core;
  layout = H.layout;
  log_layout = H.log_layout;
  log_part = H.log_part;
  sets = H.sets;
  allocator_layout = H.allocator_layout;
  allocator_part = H.allocator_part;
  spelled = H.spelled;
  eight = H.eight;
  placed = H.placed;
  apart = H.apart;
  pending = H.pending;
  admitted = H.admitted;
  keys = H.keys;
  mail = mail_winds p m v w.winds_down b w.notices.items works H.mail;
  blocks = H.blocks;
  waits = λ on k idle. refl;
  leads = H.leads;
  space = λ r. by w.leading refl (H.space r);
  broken = H.broken;
  lost = H.lost;
  flight = H.flight;
  cleaning = keeps_winds p m v w b works H.cleaning;
  remembers = H.remembers;
  chunks = H.chunks;
} where
  by : (l : Leading) → w.leading ≡ l → HasSpaceFor (record w { queue = [] }) l → HasSpaceFor (record w { queue = []; in_hand = h; winds_down = b }) l
  by (leads.Nothing x) e h = tt
  by (leads.Collecting c) e h = subst (λ (r : Room). Suits r c) (sym (led_room p m v w w.standing b works H.cleaning (ap is_leading e))) h
  by (leads.Batch x) e h = subst (λ (r : Room). HasSpace r x.fresh x.own_lines (words_taken x.changes.taken.items)) (sym (led_room p m v w w.standing b works H.cleaning (ap is_leading e))) h
  by (leads.Persisted x) e h = tt
  by (leads.Failed x) e h = tt
  by leads.Between e h = tt

pub stands_other : (s : State) (p : Place) (m : ℕ) (v : View) (w : Worker) (q : List Held) (h : Option Held) (b : Bool) → (b ≡ false → w.winds_down ≡ false) → Stands s p m v w → Stands s p m v (record w { queue = q; in_hand = h; winds_down = b })
stands_other s p m v w q h b works S = record { lies = S.lies; licensed = S.licensed; landed = S.landed; log = S.log; free = S.free; due = S.due; cut = S.cut; names = λ r on. S.names r (works on) }

-- the first waiting request of a key is taken out: the ties for its key
pub taken_aside : (w : Worker) (q : List Held) (k : ℕ) (h : Held) → TakesFirst w.queue q k h → (x : Tie) → IsHeldAside w k x → IsHeldAside (record w { queue = q }) (key_of h.request) x
taken_aside w q k h T x a = record { holds = aside_other x.place x.number x.view w q w.in_hand w.winds_down (λ on. on) a.holds; own = ap (owner x.place) (first_key w.queue q k h T) ∙ a.own }

pub taken_stands : (s : State) (x : Tie) (w : Worker) (q : List Held) → StandsBy s x w → StandsBy s x (record w { queue = q })
taken_stands s x w q S = stands_other s x.place x.number x.view w q w.in_hand w.winds_down (λ on. on) S
