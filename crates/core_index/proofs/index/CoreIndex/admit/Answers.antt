use Rattle.std.proofs.Common.{◌+◌, ℕ, List, ◌∙◌, ap, arith}
use Rattle.core_index.specs.Slots.{Place}
use Rattle.core_index.specs.Index.{all_untold, known_at, room_at}
use Rattle.core_index.proofs.StepLaws.{on_ok}
use Rattle.core_index.proofs.IndexLaws.{admits_room, admitted_others, admitted_known, admitted_untold}
use Rattle.core_index.proofs.IndexLaws.{admitted_index, roomier}
use Rattle.core_index.proofs.index.CoreIndex.admit.Goals as goal

pub invariant_of-self-2 : goal.invariant_of-self-2
invariant_of-self-2 c =
    let spare = c.in_ok-reserve.ensures.ok in
    let deaths = c.lone_deaths-more.ensures.deaths in
    admitted_index c.admit_at.result c.self.inside.slots.entries c.admit_at.new.slots.entries c.self.inside.start c.admit_at.new.start c.self.inside.notices c.reserve.new.self c.args.key c.self.invariant c.admit_at.ensures.ok c.admit_at.ensures.err c.admit_at.ensures.err_left c.in_ok-reserve.ensures.kept (omega (arith, spare, deaths))

pub invariant_of-self : goal.invariant_of-self
invariant_of-self c = roomier c.self.inside.slots.entries c.self.inside.start c.self.inside.notices c.reserve.new.self c.self.invariant c.in_err-reserve.ensures.kept (let same = c.in_err-reserve.ensures.err in omega (arith, same))

pub returns-clause-ok : goal.returns-clause-ok
returns-clause-ok c =
    let es = c.self.inside.slots.entries in
    let a = c.self.inside.start in
    let k = c.args.key in
    on_ok c.admit_at.result (λ admits. admits_room es c.admit_at.new.slots.entries a c.admit_at.new.start k admits ∙ ap (λ (xs : List (ℕ × Place)). room_at xs k + 1) c.self.view_is) c.admit_at.ensures.ok

pub returns-clause-others : goal.returns-clause-others
returns-clause-others c = λ j ne.
    let es = c.self.inside.slots.entries in
    let a = c.self.inside.start in
    admitted_others c.admit_at.result es c.admit_at.new.slots.entries a c.admit_at.new.start c.args.key c.admit_at.ensures.ok c.admit_at.ensures.err c.admit_at.ensures.err_left j ne ∙ ap (λ (xs : List (ℕ × Place)). room_at xs j) c.self.view_is

pub returns-clause-records : goal.returns-clause-records
returns-clause-records c = λ j.
    let es = c.self.inside.slots.entries in
    let a = c.self.inside.start in
    admitted_known c.admit_at.result es c.admit_at.new.slots.entries a c.admit_at.new.start c.args.key c.admit_at.ensures.ok c.admit_at.ensures.err c.admit_at.ensures.err_left j ∙ ap (λ (xs : List (ℕ × Place)). known_at xs j) c.self.view_is

pub returns-clause-untold : goal.returns-clause-untold
returns-clause-untold c =
    let es = c.self.inside.slots.entries in
    let a = c.self.inside.start in
    let fewer = admitted_untold c.admit_at.result es c.admit_at.new.slots.entries a c.admit_at.new.start c.args.key c.admit_at.ensures.ok c.admit_at.ensures.err c.admit_at.ensures.err_left in
    let same = ap all_untold c.self.view_is in
    omega (arith, fewer, same)
