use Rattle.std.proofs.Common.{◌≡◌, ◌==◌, ◌&&◌, not, true, false, Option, Some, None, refl, sym, ◌∙◌, ap}
use Rattle.std.proofs.lemmas.Bool.{cond-true, eqb-true, and_parts}
use Rattle.log_standing.specs.declared.types.Copies.{Copies}
use Rattle.log_standing.specs.NameCounts.{name_eq, copies_at, count_in, told_in, count_of, is_told, one_more, spot_in, wants}
use Rattle.log_standing.proofs.Clients.{name_same}
use Rattle.log_cleaner.proofs.Batches.{two_wants}
use Rattle.log_cleaner.proofs.TallyLaws.{wanted_no_more}
use Rattle.log_cleaner.proofs.collect_copies.take_in.Goals as goal

more_spot : (o : Option Copies) → spot_in (Some (one_more o)) ≡ spot_in o
more_spot None = refl
more_spot (Some c) = refl

more_still : (o : Option Copies) → told_in (Some (one_more o)) ≡ false → told_in o ≡ false
more_still None untold = untold
more_still (Some c) untold = untold

pub returns-clause-tally : goal.returns-clause-tally
returns-clause-tally g c =
    let st = c.args.standing.now in
    let new = c.add_second.new.self in
    let k = c.args.found.name.key in
    let v = c.args.found.name.version in
    let wanted : wants c.args.standing.now c.args.found.name.key c.args.found.name.version ≡ true = sym c.wants.ensures ∙ c.if-not-wants.false in
    let one = eqb-true (count_of st k v) 1 (and_parts (count_of st k v == 1) (not (is_told st k v)) wanted).0 in
    let at = c.add_second.ensures.added k v ∙ cond-true (name_eq (k, v) (k, v)) (Some (one_more (copies_at st k v))) (copies_at st k v) (name_same k v) in
    let unwanted = ap (λ (o : Option Copies). count_in o == 1 && not (told_in o)) at ∙ two_wants (copies_at st k v) one in
    wanted_no_more st new k v (Some (one_more (copies_at st k v))) c.add_second.ensures.added unwanted (more_spot (copies_at st k v)) (more_still (copies_at st k v)) c.add_second.ensures.tally c.add_second.ensures.floors
