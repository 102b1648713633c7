use Rattle.std.proofs.Common.{◌≤◌, List, [], sym, subst}
use Rattle.std.specs.List.{AllByRecursion}
use Rattle.std.proofs.lemmas.List.{append-nil}
use Rattle.core_index.specs.declared.types.Standee.{Standee}
use Rattle.core_index.specs.Records.{opened_with}
use Rattle.core_index.specs.Index.{EntersAs}
use Rattle.core_index.proofs.IndexLaws.{first_of_left, none_above_in, entering_more}
use Rattle.core_index.proofs.index.CoreIndex.open.Goals as goal

pub enter_known-requires : goal.enter_known-requires
enter_known-requires c =
    let all = c.args.records.items in
    let is = c.loop-record.invariant in
    let r = c.in-Some.record in
    subst (AllByRecursion (λ (s : Standee). s.version ≤ r.version)) (sym c.deref.ensures.value) (none_above_in all c.pop.new.self.items is.done r c.requires (first_of_left all c.loop-record.left.items c.pop.new.self.items is.done r is.split c.in-Some.ensures.items))

pub loop-record-preserved : goal.loop-record-preserved
loop-record-preserved c =
    let r = c.in-Some.record in
    let entered = subst (λ (ss : List Standee). EntersAs c.loop-record.index c.enter_known.new.self r.key (opened_with r.version r.body ss)) c.deref.ensures.value c.in_ok-enter_known.ensures in
    entering_more c.args.records.items c.loop-record.left.items c.pop.new.self.items c.loop-record.index c.enter_known.new.self r c.loop-record.invariant c.in-Some.ensures.items entered

pub loop-record-init : goal.loop-record-init
loop-record-init c = record { done = []; split = sym (append-nil c.args.records.items); known = λ k. c.in_ok-index.ensures.known k; room = λ k. c.in_ok-index.ensures.room k }
