use Rattle.std.proofs.Common.{◌≡◌, ℕ, ◌<◌, ◌≤◌, List, length, get_or, Some, None, sym, ◌∙◌, ap, subst, arith, rules, vec_len, slice_set}
use Rattle.std.proofs.lemmas.List.{get_or_read}
use Rattle.fs_model.specs.Cells.{key_of}
use Rattle.conflict_queue.specs.declared.nodes.Node.{Node}
use Rattle.conflict_queue.specs.declared.key_chains.Chain.{Chain}
use Rattle.conflict_queue.specs.Chains.{none, held_at, node_with, IsPlace}
use Rattle.conflict_queue.proofs.AtPlace.{chain_at, last_in, extended_at, begun_at}
use Rattle.conflict_queue.proofs.key_chains.add_last.Goals as goal
use Rattle.conflict_queue.proofs.key_chains.add_last.Goals.{then-place-len, else-place-len}

pub link-requires : goal.link-requires
link-requires c =
    let cs = c.args.chains.now.items in
    let lt : c.place_of-place.result < length cs = search rules in
    let is = get_or_read cs c.place_of-place.result c.index.result.now lt c.index.ensures none in
    let at = last_in c.args.nodes.now.items c.index.result.now (chain_at c.args.nodes.now.items cs c.place_of-place.result c.index.result.now c.requires.table lt is) in
    let len : vec_len c.args.nodes.now ≡ length c.args.nodes.now.items = search rules in
    omega (arith, at, len)

pub returns-clause-extends : goal.returns-clause-extends
returns-clause-extends c =
    let ns = c.args.nodes.now.items in
    let cs = c.args.chains.now.items in
    let ms = c.exchange.new.nodes.items in
    let ds = c.if-place-len.chains.items in
    let i = c.args.node in
    let h = c.args.held in
    let at = c.place_of-place.result in
    let within : i < length ns = search rules in
    let key : c.key-key.result ≡ key_of h.request = c.key-key.ensures in
    let place : IsPlace cs (key_of h.request) at = subst (λ (k : ℕ). IsPlace cs k at) key (subst (λ (xs : List Chain). IsPlace xs c.key-key.result at) c.deref.ensures.value c.place_of-place.ensures) in
    elim c.if-place-len.branch [
      | then-place-len w ↦
          let lt : at < length cs = search rules in
          let d : Chain = w.index_mut.result.now in
          let is : d ≡ get_or cs at none = get_or_read cs at d lt w.index_mut.ensures.value none in
          let read : w.index.result.now ≡ get_or cs at none = get_or_read cs at w.index.result.now lt w.index.ensures none in
          let same : w.index.result.now ≡ d = read ∙ sym is in
          let linked : w.link.new.nodes.items ≡ slice_set ns d.last (node_with (held_at ns d.last) (Some i)) = w.link.ensures.items ∙ ap (λ (e : Chain). slice_set ns e.last (node_with (held_at ns e.last) (Some i))) same in
          let nodes : ms ≡ slice_set (slice_set ns d.last (node_with (held_at ns d.last) (Some i))) i (node_with (Some h) None) = c.exchange.ensures.items ∙ ap (λ (xs : List Node). slice_set xs i (node_with (Some h) None)) (ap (λ x. x.items) w.nodes-is ∙ linked) in
          let chains : ds ≡ slice_set cs at (record d { last = i }) = search rules in
          extended_at ns ms cs ds at d i h c.requires.table lt is (ap (λ (e : Chain). e.key) is ∙ place.found lt) within c.requires.free c.requires.below nodes chains
      | else-place-len w ↦
          let le : length cs ≤ at = search rules in
          let nodes : ms ≡ slice_set ns i (node_with (Some h) None) = c.exchange.ensures.items ∙ ap (λ x. slice_set x.items i (node_with (Some h) None)) w.nodes-is in
          begun_at ns ms cs ds i h c.requires.table (place.absent le) within c.requires.free nodes (search rules)
    ]

pub returns-clause-capacity : goal.returns-clause-capacity
returns-clause-capacity c = elim c.if-place-len.branch [
  | then-place-len w ↦ search rules
  | else-place-len w ↦ search rules
]
