use Rattle.std.proofs.Common.{◌≡◌, ◌∷◌, [], ℕ, List, length, Some, None, refl, sym, ◌∙◌, ap, subst, arith, add-one}
use Rattle.std.proofs.lemmas.List.{length-append}
use Rattle.conflict_queue.specs.declared.nodes.Node.{Node}
use Rattle.conflict_queue.specs.Chains.{AllFree, last_below, node_with}
use Rattle.conflict_queue.proofs.QueueLaws.{one_more_free}
use Rattle.conflict_queue.proofs.nodes.free_nodes.Goals as goal

pub loop-i-init : goal.loop-i-init
loop-i-init c =
    let none = c.in_ok-nodes.ensures.items in
    record {
      length = ap length none;
      next = refl;
      free = subst (λ (ns : List Node). AllFree ns None) (sym none) (record { numbers = []; chain = refl; all = refl });
    }

pub loop-i-preserved : goal.loop-i-preserved
loop-i-preserved c =
    let ns = c.loop-i.nodes.items in
    let was = c.loop-i.invariant in
    let items = c.in_ok-push.ensures.items in
    let l = length-append ns (node_with None c.loop-i.next ∷ []) in
    let more = one_more_free ns c.loop-i.next was.free in
    record {
      length = ap length items ∙ (let n = was.length in omega (arith, l, n));
      next = sym (ap last_below (add-one c.loop-i.i));
      free = subst (λ (n : ℕ). AllFree c.push.new.self.items (Some n)) was.length (subst (λ (ms : List Node). AllFree ms (Some (length ns))) (sym items) more);
    }

pub returns-clause-free : goal.returns-clause-free
returns-clause-free c =
    let i : c.loop-i.i ≡ 64 = omega arith in
    subst (AllFree c.loop-i.nodes.items) (c.loop-i.invariant.next ∙ ap last_below i) c.loop-i.invariant.free
