use Rattle.std.proofs.Common.{rules, ◌≡◌, ◌<◌, ◌≤◌, List, length, get_or, Some, sym, ◌∙◌, ap, subst}
use Rattle.std.proofs.lemmas.List.{get_or_read}
use Rattle.conflict_queue.specs.declared.types.Held.{Held}
use Rattle.conflict_queue.specs.declared.key_chains.Chain.{Chain}
use Rattle.conflict_queue.specs.Waiting.{waiting}
use Rattle.conflict_queue.specs.Chains.{none, IsPlace}
use Rattle.conflict_queue.proofs.TableLaws.{lacks_waiting}
use Rattle.conflict_queue.proofs.QueueLaws.{released_queue}
use Rattle.conflict_queue.proofs.queue.ConflictQueue.release.Goals as goal

pub returns-then-place-len-clause-absent : goal.returns-then-place-len-clause-absent
returns-then-place-len-clause-absent c =
    let q = c.self.inside in
    let cs = q.chains.items in
    let place : IsPlace cs c.args.key c.place_of-place.result = subst (λ (xs : List Chain). IsPlace xs c.args.key c.place_of-place.result) c.deref.ensures.value c.place_of-place.ensures in
    let le : length cs ≤ c.place_of-place.result = search rules in
    ap (λ (hs : List Held). waiting hs c.args.key) (sym c.self.view_is) ∙ lacks_waiting q.nodes.items cs c.args.key c.self.invariant.table.chains (place.absent le)

pub invariant_of-self : goal.invariant_of-self
invariant_of-self c =
    let q = c.self.inside in
    let cs = q.chains.items in
    let at = c.place_of-place.result in
    let lt : at < length cs = search rules in
    let read : c.index.result.now ≡ get_or cs at none = get_or_read cs at c.index.result.now lt c.index.ensures none in
    released_queue q.nodes.items c.take_first-held.new.nodes.items cs c.take_first-held.new.chains.items q.free (Some c.index.result.now.first) q.free_nodes _ _ (get_or cs at none) c.take_first-held.result c.self.invariant c.take_first-held.ensures.shortens (ap (λ (d : Chain). Some d.first) read) c.take_first-held.ensures.capacity
