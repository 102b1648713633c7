-- What is left of the chunk that is copied is counted exactly.
use Rattle.std.proofs.Common.{◌≡◌, ℕ, Bool, false, length, Option, Some, ◌∙◌, ap, arith}
use Rattle.std.specs.Prelude.{option_map}
use Rattle.std.proofs.Math.Nat.{min-le_right}
use Rattle.pm_region.specs.State.{State, IsTelling}
use Rattle.core_log.specs.Walking.{entries_in}
use Rattle.log_standing.specs.Tallies.{TallyState}
use Rattle.log_cleaner.specs.Copying.{left_to_copy, to_copy, words_sum}
use Rattle.log_cleaner.specs.declared.types.Victim.{Victim}
use Rattle.group_laws.specs.Places.{Place}
use Rattle.group_laws.specs.MemberViews.{View}
use Rattle.core_worker.specs.declared.types.Cleaning.TheVariants.{Copying}
use Rattle.core_worker.specs.declared.worker.Worker.{Worker}
use Rattle.core_worker.specs.Supplies.{under_way, no_more_than}
use Rattle.core_worker.specs.Ties.{Holds, Stands}
use Rattle.core_worker.proofs.DoomedHolds.{cleans, raw, copies_in}

module _ (s : State) (p : Place) (m : ℕ) (v : View) (w : Worker) (H : Holds p m v w) (S : Stands s p m v w) (tells : IsTelling s) where
  pub rest_is : (victim : Victim) (first : Bool) → under_way w ≡ Copying victim first → victim ≡ to_copy s w.log w.standing victim.chunk
  rest_is victim first way =
      let C = copies_in p m v w H victim first way s (S.names runs works tells).cleaned in
      let T = C.counts in
      let R = raw p m v w H victim first way in
      let is : victim ≡ no_more_than (Some T.tally.left) R.victim = R.lowered ∙ ap (λ (o : Option TallyState). no_more_than (option_map (λ (t : TallyState). t.left) o) R.victim) T.is in
      let entries : victim.entries ≡ length (left_to_copy w.standing (entries_in s w.log victim.chunk)) =
      let at = ap (λ (x : Victim). x.entries) is in
      let few = min-le_right R.victim.entries T.tally.left.entries in
      let all = C.bounds.entries in
      let same = T.of.entries in
      omega (arith, at, few, all, same)
      in
      let words : victim.words ≡ words_sum (left_to_copy w.standing (entries_in s w.log victim.chunk)) =
      let at = ap (λ (x : Victim). x.words) is in
      let few = min-le_right R.victim.words T.tally.left.words in
      let all = C.bounds.words in
      let same = T.of.words in
      omega (arith, at, few, all, same)
      in
      (λ i. record { chunk = victim.chunk; entries = entries i; words = words i })
    where
      runs : w.stopped ≡ false
      runs = (cleans p m v w H victim first way).runs

      works : w.winds_down ≡ false
      works = (cleans p m v w H victim first way).works
