-- What items 4 and 5 keep where a change is let go.
use Rattle.std.proofs.Common.{◌≡◌, inl, inr, ⊎_elim, ℕ, ◌<◌, Bool, true, false, [], Option, refl, sym, ◌∙◌, ap, subst}
use Rattle.std.specs.Prelude.{IfSome}
use Rattle.pm_region.specs.State.{State}
use Rattle.pm_region.proofs.Clients.{started, all_kept}
use Rattle.store_image.specs.Facts.{In}
use Rattle.group_laws.specs.declared.types.Seen.TheVariants.{Slot}
use Rattle.group_laws.specs.declared.types.SlotWord.{SlotWord}
use Rattle.group_laws.specs.declared.types.SlotWord.TheVariants as words
use Rattle.group_laws.specs.State.{Group}
use Rattle.group_laws.specs.Runs as runs
use Rattle.group_laws.specs.MemberViews.{View, view_of}
use Rattle.group_board.specs.Seats.{SeatAt}
use Rattle.group_board.specs.Told.{Makes}
use Rattle.licence.specs.Licence.{Licensed, part_at, part_end}
use Rattle.batch_leader.proofs.Clients.{no_steps}
use Rattle.batch_leader.specs.declared.batch_buffer.BatchBuffer.{BatchBuffer}
use Rattle.batch_leader.specs.declared.states.Collecting.{Collecting}
use Rattle.core_worker.specs.WorkerMoves.{awaits_chunk}
use Rattle.core_worker.proofs.QuietItems.{open_filled}
use Rattle.core_worker.specs.declared.types.Leading.{Leading}
use Rattle.core_worker.specs.declared.types.Leading.TheVariants as leads
use Rattle.core_worker.specs.declared.worker.Worker.{Worker}
use Rattle.core_worker.specs.Supplies.{HasKeptRoom}
use Rattle.core_worker.specs.Ties.{HoldsAt, StandsAt, LeadsAt}
use Rattle.core_worker.specs.Turns.{InOrderAt, IsBack, Steps}
use Rattle.core_worker.specs.Finishing.{WasFoundBack, FinishesSlot, StopsByFailed, IsServed}
use Rattle.core_worker.specs.Order.{MayLeadStopped}
use Rattle.core_worker.specs.Stopping.{DropsStaged, WithdrawsOrUnlocks}
use Rattle.group_board.specs.Views.{after_unlock}
use Rattle.core_worker.proofs.TurnLaws.{keeps_leading}
use Rattle.core_worker.specs.Turning.{HasBatch, KeepsTurn}
use Rattle.core_worker.proofs.FinishMoves.{finish_moves}
use Rattle.core_worker.proofs.StopMoves.{drop_moves, withdraw_moves}

-- what a load that showed a change given back says
pub was_back : (m slot : ℕ) (v : View) (word : SlotWord) → IsBack word → In (Slot m slot word) v.looked → WasFoundBack m slot v
was_back m slot v words.Empty b i = absurd b
was_back m slot v (words.Posted n) b i = absurd b
was_back m slot v words.Taken b i = absurd b
was_back m slot v (words.Done h) b i = inr (h, i)
was_back m slot v words.Failed b i = inl i

-- item 4
pub keeps_finish : (seat : SeatAt) (s : State) (before after : Option Group) (v u : View) (w x : Worker) (slot : ℕ) (all : Bool) → slot < 8 → HoldsAt seat v w → HoldsAt seat u x → StandsAt s seat v w → StandsAt s seat u x → InOrderAt seat v w → InOrderAt seat u x → (HasKeptRoom w → HasKeptRoom x) → Makes before seat.number (runs.Kind.Finish slot) after u → StopsByFailed before seat.number w x
    → FinishesSlot s seat.place seat.number slot v u w x all → KeepsTurn seat s s before after v u w x
keeps_finish seat s before after v u w x slot all lt H N S T O P rule made cause F = record {
  moments = started s (Licensed seat.place seat.number v) S.licensed;
  outside = all_kept s (part_at seat.place seat.number) (part_end seat.place seat.number);
  holds = N;
  stands = T;
  order = P;
  rule = λ runs. rule;
  moves = finish_moves seat s before after v u w x slot all lt H N S T O made cause F;
}

-- item 5 of a stopped core
pub keeps_drop : (seat : SeatAt) (s : State) (a : Option Group) (v : View) (w x : Worker) (slot : ℕ) (all : Bool) → slot < 8 → w.stopped ≡ true → HoldsAt seat v w → StandsAt s seat v w → InOrderAt seat v w → IfSome a (λ u. (seat.place ≡ u.place) × (v ≡ view_of u seat.number)) → IsServed s x (record { place = seat.place; number = seat.number; view = v }) → (HasKeptRoom w → HasKeptRoom x) → DropsStaged s slot w x all
    → KeepsTurn seat s s a a v v w x
keeps_drop seat s a v w x slot all lt stopped H S O agrees N rule D = record {
  moments = started s (Licensed seat.place seat.number v) S.licensed;
  outside = all_kept s (part_at seat.place seat.number) (part_end seat.place seat.number);
  holds = N.holds;
  stands = N.stands;
  order = N.order;
  rule = λ runs. rule;
  moves = drop_moves seat s a v w x slot all lt stopped H N.holds S N.stands O ([], no_steps a seat.number seat.place v agrees) D;
}

-- neither nothing nor a round is led
pub has_batch : (seat : SeatAt) (v : View) (l : Leading) → LeadsAt seat v l → ((b : BatchBuffer) → l ≡ leads.Nothing b → ⊥) → ((c : Collecting) → l ≡ leads.Collecting c → ⊥) → HasBatch l
has_batch seat v (leads.Nothing b) L n c = absurd (n b refl)
has_batch seat v (leads.Collecting x) L n c = absurd (c x refl)
has_batch seat v (leads.Batch b) L n c = tt
has_batch seat v (leads.Persisted x) L n c = tt
has_batch seat v (leads.Failed x) L n c = tt
has_batch seat v leads.Between L n c = L

-- item 1 of a stopped core
pub keeps_withdraw : (seat : SeatAt) (s : State) (before after : Option Group) (v u : View) (w x : Worker) (all : Bool) → w.stopped ≡ true → HoldsAt seat v w → HoldsAt seat u x → StandsAt s seat v w → StandsAt s seat u x → InOrderAt seat v w → InOrderAt seat u x → (HasKeptRoom w → HasKeptRoom x) → Steps before after seat.number u → WithdrawsOrUnlocks s seat before after v u w x all
    → KeepsTurn seat s s before after v u w x
keeps_withdraw seat s before after v u w x all stopped H N S T O P rule made which = ⊎_elim
    (λ W. record {
      moments = started s (Licensed seat.place seat.number v) S.licensed;
      outside = all_kept s (part_at seat.place seat.number) (part_end seat.place seat.number);
      holds = N;
      stands = T;
      order = P;
      rule = λ runs. rule;
      moves = withdraw_moves seat s before after v u w x all stopped H N S T O made W;
    })
    (λ U. let un = U.1 in
    keeps_leading seat s before after v u w x N un.stands S made
    (record { flying = v.flying; taken = v.taken; broken = v.broken; holds = false; looked = []; took = v.took; is = un.view ∙ ap after_unlock un.found.view.1 }) un.same
    (λ is. subst MayLeadStopped (sym un.leads_now.1) tt) O rule
    (let view = un.view ∙ ap after_unlock un.found.view.1 in open_filled v u w x un.same (ap awaits_chunk un.leads_now.1) (ap (λ (y : View). y.took) view) (ap (λ (y : View). y.flying) view)))
    which
