use Rattle.std.proofs.Common.{◌≡◌, ◌<◌, ℕ, length, get_or, Option, Some, None, sym, ◌∙◌, ap, subst, arith, rules, vec_len, slice_set}
use Rattle.std.proofs.lemmas.List.{get_or_read}
use Rattle.core_index.specs.declared.death_notices.NoticeNode.{NoticeNode}
use Rattle.core_index.specs.Noted.{node_with, bare, chain_of, AreChains}
use Rattle.core_index.proofs.NoticeLaws.{first_of, chain_below, chains_moved}
use Rattle.core_index.proofs.death_notices.move_first.Goals as goal

pub index-requires : goal.index-requires
index-requires c =
    let ns = c.args.nodes.now.items in
    let hs = c.args.heads.now.items in
    let from = c.requires.chains.each c.args.from None c.requires.from in
    let first = first_of ns (get_or hs c.args.from None) c.args.first c.args.from from (c.requires.first None) in
    let lt = first.within in
    let len : vec_len c.args.nodes.now ≡ length ns = search rules in
    omega (arith, lt, len)

pub index_mut-requires : goal.index_mut-requires
index_mut-requires c =
    let ns = c.args.nodes.now.items in
    let hs = c.args.heads.now.items in
    let from = c.requires.chains.each c.args.from None c.requires.from in
    let first = first_of ns (get_or hs c.args.from None) c.args.first c.args.from from (c.requires.first None) in
    let lt = first.within in
    let len : vec_len c.args.nodes.now ≡ length ns = search rules in
    omega (arith, lt, len)

pub returns-clause-chains : goal.returns-clause-chains
returns-clause-chains c =
    let ns = c.args.nodes.now.items in
    let hs = c.args.heads.now.items in
    let from = c.requires.chains.each c.args.from None c.requires.from in
    let first = first_of ns (get_or hs c.args.from None) c.args.first c.args.from from (c.requires.first None) in
    let home = c.args.home in
    let to : c.chain_of-to.result ≡ chain_of home = c.chain_of-to.ensures in
    let below = chain_below home in
    let nine = c.requires.chains.nine in
    let in_to : c.chain_of-to.result < length hs = omega (arith, to, below, nine) in
    let next : c.index-2.result.now ≡ get_or hs (chain_of home) None = get_or_read hs c.chain_of-to.result c.index-2.result.now in_to c.index-2.ensures None ∙ ap (λ (k : ℕ). get_or hs k None) to in
    let read : c.index.result.now ≡ get_or ns c.args.first bare = get_or_read ns c.args.first c.index.result.now first.within c.index.ensures bare in
    let n : NoticeNode = node_with c.args.name home c.index-2.result.now in
    let moved = chains_moved ns hs c.args.from c.args.first n c.requires.chains c.requires.from c.requires.first c.requires.other next in
    subst (λ (k : ℕ). AreChains (slice_set ns c.args.first n) (slice_set (slice_set hs c.args.from c.index.result.now.next) k (Some c.args.first))) (sym to)
    (subst (λ (o : Option ℕ). AreChains (slice_set ns c.args.first n) (slice_set (slice_set hs c.args.from o) (chain_of home) (Some c.args.first))) (sym (ap (λ (m : NoticeNode). m.next) read)) moved)
