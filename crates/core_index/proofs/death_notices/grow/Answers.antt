use Rattle.std.proofs.Common.{◌≡◌, ◌<◌, ◌++◌, ◌∷◌, [], ℕ, List, length, get_or, Some, None, refl, sym, subst, arith, rules, slice_set}
use Rattle.std.proofs.lemmas.List.{get_or_read}
use Rattle.core_index.specs.declared.death_notices.NoticeNode.{NoticeNode}
use Rattle.core_index.specs.Noted.{node_with, name_with, AreChains, Grows}
use Rattle.core_index.proofs.NoticeLaws.{chains_grown, grows_push}
use Rattle.core_index.proofs.death_notices.grow.Goals as goal

pub returns-clause-chains : goal.returns-clause-chains
returns-clause-chains c =
    let ns = c.args.nodes.now.items in
    let hs = c.args.heads.now.items in
    let nine = c.requires.nine in
    let lt : 8 < length hs = omega (arith, nine) in
    let next : c.index.result.now ≡ get_or hs 8 None = get_or_read hs 8 c.index.result.now lt c.index.ensures None in
    let n : NoticeNode = node_with (name_with 0 0) None c.index.result.now in
    let len : c.len-at.result ≡ length ns = search rules in
    let items : c.push.new.self.items ≡ ns ++ n ∷ [] = c.in_ok-push.ensures.items in
    subst (λ (ms : List NoticeNode). AreChains ms (slice_set hs 8 (Some c.len-at.result))) (sym items)
    (subst (λ (k : ℕ). AreChains (ns ++ n ∷ []) (slice_set hs 8 (Some k))) (sym len) (chains_grown ns hs n c.requires refl next))

pub returns-clause-grows : goal.returns-clause-grows
returns-clause-grows c =
    let ns = c.args.nodes.now.items in
    let n : NoticeNode = node_with (name_with 0 0) None c.index.result.now in
    let items : c.push.new.self.items ≡ ns ++ n ∷ [] = c.in_ok-push.ensures.items in
    subst (Grows ns) (sym items) (grows_push ns n refl)
