-- What a round that is over leaves.
use Rattle.std.proofs.Common.{◌≡◌, ℕ, Bool, false, refl, sym, ◌∙◌, ap, subst}
use Rattle.group_laws.specs.MemberViews.{View}
use Rattle.batch_leader.specs.declared.states.Collecting.{Collecting}
use Rattle.batch_leader.specs.declared.states.Released.{Released}
use Rattle.batch_leader.specs.declared.states.Released.TheVariants as released
use Rattle.batch_leader.specs.Leading.{IsReleased, Suits, HasSpace}
use Rattle.core_worker.specs.declared.worker.Worker.{Worker}
use Rattle.core_worker.specs.Supplies.{room_for}
use Rattle.group_board.specs.Seats.{SeatAt}
use Rattle.batch_leader.specs.declared.changes.Changes.{Changes}
use Rattle.batch_leader.specs.Rounds.{words_taken}
use Rattle.core_worker.specs.Ties.{LeadsAt, HasSpaceFor, is_lost}
use Rattle.core_worker.specs.Turns.{led_by}

pub released_leads : (seat : SeatAt) (u : View) (c : Collecting) (r : Released) → IsReleased seat u c r → u.holds ≡ false → LeadsAt seat u (led_by r)
released_leads seat u c (released.Batch b) is free = (is.0, free)
released_leads seat u c (released.Nothing b) is free = (free, is.2, is.1)

pub released_space : (w : Worker) (seat : SeatAt) (u : View) (c : Collecting) (r : Released) → IsReleased seat u c r → Suits (room_for w) c → HasSpaceFor w (led_by r)
released_space w seat u c (released.Batch b) is suits =
    subst (λ (n : ℕ). HasSpace (room_for w) b.fresh n (words_taken b.changes.taken.items)) (sym is.3)
    (subst (λ (f : Bool). HasSpace (room_for w) f c.own_lines (words_taken b.changes.taken.items)) (sym is.2)
    (subst (λ (x : Changes). HasSpace (room_for w) c.fresh c.own_lines (words_taken x.taken.items)) (sym is.1) (suits (λ none. b.some (ap (λ (x : Changes). x.taken.items) is.1 ∙ none)))))
released_space w seat u c (released.Nothing b) is suits = tt

pub released_not_lost : (r : Released) → is_lost (led_by r) ≡ false
released_not_lost (released.Batch b) = refl
released_not_lost (released.Nothing b) = refl
