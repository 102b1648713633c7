use Rattle.std.proofs.Common.{◌≡◌, ℕ, ◌<◌, length, get_or, Some, None, refl, sym, ◌∙◌, ap, subst, rules, slice_set}
use Rattle.std.specs.List.{remove}
use Rattle.std.proofs.lemmas.List.{get_or_read}
use Rattle.conflict_queue.specs.declared.nodes.Node.{Node}
use Rattle.conflict_queue.specs.declared.key_chains.Chain.{Chain}
use Rattle.conflict_queue.specs.Chains.{none, bare, held_at, node_with}
use Rattle.conflict_queue.proofs.AtPlace.{chain_at, shortened_at, ended_at}
use Rattle.conflict_queue.proofs.key_chains.take_first.Goals as goal
use Rattle.conflict_queue.proofs.key_chains.take_first.Goals.{in-Some, in-None}

pub returns-clause-shortens : goal.returns-clause-shortens
returns-clause-shortens c =
    let ns = c.args.nodes.now.items in
    let cs = c.args.chains.now.items in
    let ms = c.exchange-old.new.nodes.items in
    let ds = c.match-old.chains.items in
    let place = c.args.place in
    let lt : place < length cs = search rules in
    let d : Chain = get_or cs place none in
    let read : c.index.result.now ≡ d = get_or_read cs place c.index.result.now lt c.index.ensures none in
    let first : c.index.result.now.first ≡ d.first = ap (λ (e : Chain). e.first) read in
    let within : d.first < length ns = (chain_at ns cs place d c.requires.table lt refl).chain.1 in
    let was : c.exchange-old.result ≡ get_or ns c.index.result.now.first bare = get_or_read ns c.index.result.now.first c.exchange-old.result (subst (λ (n : ℕ). n < length ns) (sym first) within) c.exchange-old.ensures.was bare in
    let old : get_or ns d.first bare ≡ c.exchange-old.result = ap (λ (n : ℕ). get_or ns n bare) (sym first) ∙ sym was in
    let held : held_at ns d.first ≡ Some c.unwrap.result = ap (λ (n : Node). n.held) old ∙ c.unwrap.ensures in
    let nodes : ms ≡ slice_set ns d.first (node_with None c.args.free) = c.exchange-old.ensures.items ∙ ap (λ (n : ℕ). slice_set ns n (node_with None c.args.free)) first in
    elim c.match-old.branch [
      | in-Some w ↦
          let e : Chain = w.index_mut.result.now in
          let same : e ≡ d = get_or_read cs place e lt w.index_mut.ensures.value none in
          let put : ds ≡ slice_set cs place (record e { first = w.in-Some.next }) = search rules in
          let chains : ds ≡ slice_set cs place (record d { first = w.in-Some.next }) = put ∙ ap (λ (x : Chain). slice_set cs place (record x { first = w.in-Some.next })) same in
          shortened_at ns ms cs ds place d c.args.free w.in-Some.next c.unwrap.result c.requires.table lt refl (ap (λ (n : Node). n.next) old ∙ w.in-Some.is) held nodes chains
      | in-None w ↦
          let chains : ds ≡ remove cs place = ap (λ x. x.items) w.chains-is ∙ w.remove.ensures.items in
          ended_at ns ms cs ds place d c.args.free c.unwrap.result c.requires.table lt refl (ap (λ (n : Node). n.next) old ∙ w.in-None.is) held nodes chains
    ]
