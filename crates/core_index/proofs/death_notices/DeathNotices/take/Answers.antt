use Rattle.std.proofs.Common.{◌≡◌, ◌+◌, ◌-◌, ◌<◌, ⊎_elim, inl, inr, ℕ, List, length, get_or, Option, Some, None, refl, sym, ◌∙◌, ap, subst, arith, rules, vec_len, slice_set}
use Rattle.std.proofs.lemmas.List.{get_or_read, length-set}
use Rattle.core_index.specs.declared.death_notices.NoticeNode.{NoticeNode}
use Rattle.core_index.specs.Noted.{Book, Noted, node_with, bare, name_at, home_at, next_at, chain_of, IsFor, AreChains, one_used, count_used}
use Rattle.core_index.proofs.NoticeLaws.{first_of, none_of, chain_below, chains_over, for_home, used_home, taken_count, taken_book, taken_noted}
use Rattle.core_index.proofs.death_notices.DeathNotices.take.Goals as goal

pub returns-in_default-clause-none : goal.returns-in_default-clause-none
returns-in_default-clause-none c = λ name noted.
    let ns = c.self.inside.nodes.items in
    let hs = c.self.inside.heads.items in
    let inv = c.self.invariant in
    let nine = inv.chains.nine in
    let home = c.args.home in
    let a = c.chain_of-chain.result in
    let a_is : a ≡ chain_of (Some home) = c.chain_of-chain.ensures in
    let below = chain_below (Some home) in
    let lt : a < 9 = omega (arith, a_is, below) in
    let in_a : a < length hs = omega (arith, nine, lt) in
    let read : c.index.result.now ≡ get_or hs a None = get_or_read hs a c.index.result.now in_a c.index.ensures None in
    let ch = inv.chains.each a None lt in
    let was : Noted _ home name = subst (λ (b : Book). Noted b home name) (sym c.self.view_is) noted in
    none_of ns (get_or hs a None) a was.at ch (sym read ∙ c.in_default.is) was.within (ap chain_of was.home_is ∙ sym a_is)

pub place_for-requires : goal.place_for-requires
place_for-requires c =
    let ns = c.self.inside.nodes.items in
    let hs = c.self.inside.heads.items in
    let inv = c.self.invariant in
    let nine = inv.chains.nine in
    let home = c.args.home in
    let a = c.chain_of-chain.result in
    let a_is : a ≡ chain_of (Some home) = c.chain_of-chain.ensures in
    let below = chain_below (Some home) in
    let lt : a < 9 = omega (arith, a_is, below) in
    let in_a : a < length hs = omega (arith, nine, lt) in
    let read : c.index.result.now ≡ get_or hs a None = get_or_read hs a c.index.result.now in_a c.index.ensures None in
    let ch = inv.chains.each a None lt in
    let f = c.in-Some.first in
    let first = first_of ns (get_or hs a None) f a ch (sym read ∙ c.in-Some.is) in
    subst (λ (xs : List NoticeNode). f < length xs) (sym c.deref.ensures.value) first.within

pub write_over-name-requires-clause-first : goal.write_over-name-requires-clause-first
write_over-name-requires-clause-first c =
    let ns = c.self.inside.nodes.items in
    let hs = c.self.inside.heads.items in
    let inv = c.self.invariant in
    let nine = inv.chains.nine in
    let home = c.args.home in
    let a = c.chain_of-chain.result in
    let a_is : a ≡ chain_of (Some home) = c.chain_of-chain.ensures in
    let below = chain_below (Some home) in
    let lt : a < 9 = omega (arith, a_is, below) in
    let in_a : a < length hs = omega (arith, nine, lt) in
    let read : c.index.result.now ≡ get_or hs a None = get_or_read hs a c.index.result.now in_a c.index.ensures None in
    let ch = inv.chains.each a None lt in
    let f = c.in-Some.first in
    let first = first_of ns (get_or hs a None) f a ch (sym read ∙ c.in-Some.is) in
    let within = first.within in
    let len : vec_len c.self.inside.nodes ≡ length ns = search rules in
    omega (arith, within, len)

pub move_first-requires-clause-chains : goal.move_first-requires-clause-chains
move_first-requires-clause-chains c =
    let ns = c.self.inside.nodes.items in
    let hs = c.self.inside.heads.items in
    let inv = c.self.invariant in
    let nine = inv.chains.nine in
    let home = c.args.home in
    let a = c.chain_of-chain.result in
    let a_is : a ≡ chain_of (Some home) = c.chain_of-chain.ensures in
    let below = chain_below (Some home) in
    let lt : a < 9 = omega (arith, a_is, below) in
    let in_a : a < length hs = omega (arith, nine, lt) in
    let read : c.index.result.now ≡ get_or hs a None = get_or_read hs a c.index.result.now in_a c.index.ensures None in
    let ch = inv.chains.each a None lt in
    let f = c.in-Some.first in
    let first = first_of ns (get_or hs a None) f a ch (sym read ∙ c.in-Some.is) in
    let k = c.in-Some-place_for.place in
    let at : IsFor ns home k = subst (λ (xs : List NoticeNode). IsFor xs home k) c.deref.ensures.value c.in-Some-place_for.ensures.found in
    let at_k : home_at ns k ≡ Some home = for_home (home_at ns k) home (at.here bare) in
    let ms = c.write_over-name.new.nodes.items in
    let over : ms ≡ slice_set ns k (node_with (name_at ns f) (home_at ns f) (next_at ns k)) = c.write_over-name.ensures.nodes in
    let class : chain_of (home_at ns f) ≡ chain_of (home_at ns k) = first.class ∙ a_is ∙ sym (ap chain_of at_k) in
    subst (λ (xs : List NoticeNode). AreChains xs hs) (sym over) (chains_over ns hs k (node_with (name_at ns f) (home_at ns f) (next_at ns k)) inv.chains at.within refl class)

pub overflow_sub-self : goal.overflow_sub-self
overflow_sub-self c =
    let ns = c.self.inside.nodes.items in
    let hs = c.self.inside.heads.items in
    let inv = c.self.invariant in
    let nine = inv.chains.nine in
    let home = c.args.home in
    let a = c.chain_of-chain.result in
    let a_is : a ≡ chain_of (Some home) = c.chain_of-chain.ensures in
    let below = chain_below (Some home) in
    let lt : a < 9 = omega (arith, a_is, below) in
    let in_a : a < length hs = omega (arith, nine, lt) in
    let read : c.index.result.now ≡ get_or hs a None = get_or_read hs a c.index.result.now in_a c.index.ensures None in
    let ch = inv.chains.each a None lt in
    let f = c.in-Some.first in
    let first = first_of ns (get_or hs a None) f a ch (sym read ∙ c.in-Some.is) in
    let k = c.in-Some-place_for.place in
    let at : IsFor ns home k = subst (λ (xs : List NoticeNode). IsFor xs home k) c.deref.ensures.value c.in-Some-place_for.ensures.found in
    let at_k : home_at ns k ≡ Some home = for_home (home_at ns k) home (at.here bare) in
    let ms = c.write_over-name.new.nodes.items in
    let over : ms ≡ slice_set ns k (node_with (name_at ns f) (home_at ns f) (next_at ns k)) = c.write_over-name.ensures.nodes in
    let class : chain_of (home_at ns f) ≡ chain_of (home_at ns k) = first.class ∙ a_is ∙ sym (ap chain_of at_k) in
    let name = c.write_over-name.result in
    let more : Option ℕ = get_or hs (chain_of None) None in
    let ls = c.move_first.new.nodes.items in
    let free : ls ≡ slice_set ms f (node_with name None more) = c.move_first.ensures.nodes None in
    let one : one_used (home_at ns f) ≡ 1 = used_home (home_at ns f) home (first.class ∙ a_is) in
    let less : count_used ls + 1 ≡ count_used ns = taken_count ns ms ls k f home (node_with (name_at ns f) (home_at ns f) (next_at ns k)) (node_with name None more) at.within first.within at_k one refl refl over free in
    let count = inv.count in
    omega (arith, less, count)

pub invariant_of-self : goal.invariant_of-self
invariant_of-self c =
    let ns = c.self.inside.nodes.items in
    let hs = c.self.inside.heads.items in
    let inv = c.self.invariant in
    let nine = inv.chains.nine in
    let home = c.args.home in
    let a = c.chain_of-chain.result in
    let a_is : a ≡ chain_of (Some home) = c.chain_of-chain.ensures in
    let below = chain_below (Some home) in
    let lt : a < 9 = omega (arith, a_is, below) in
    let in_a : a < length hs = omega (arith, nine, lt) in
    let read : c.index.result.now ≡ get_or hs a None = get_or_read hs a c.index.result.now in_a c.index.ensures None in
    let ch = inv.chains.each a None lt in
    let f = c.in-Some.first in
    let first = first_of ns (get_or hs a None) f a ch (sym read ∙ c.in-Some.is) in
    let k = c.in-Some-place_for.place in
    let at : IsFor ns home k = subst (λ (xs : List NoticeNode). IsFor xs home k) c.deref.ensures.value c.in-Some-place_for.ensures.found in
    let at_k : home_at ns k ≡ Some home = for_home (home_at ns k) home (at.here bare) in
    let ms = c.write_over-name.new.nodes.items in
    let over : ms ≡ slice_set ns k (node_with (name_at ns f) (home_at ns f) (next_at ns k)) = c.write_over-name.ensures.nodes in
    let class : chain_of (home_at ns f) ≡ chain_of (home_at ns k) = first.class ∙ a_is ∙ sym (ap chain_of at_k) in
    let name = c.write_over-name.result in
    let more : Option ℕ = get_or hs (chain_of None) None in
    let ls = c.move_first.new.nodes.items in
    let free : ls ≡ slice_set ms f (node_with name None more) = c.move_first.ensures.nodes None in
    let one : one_used (home_at ns f) ≡ 1 = used_home (home_at ns f) home (first.class ∙ a_is) in
    let less : count_used ls + 1 ≡ count_used ns = taken_count ns ms ls k f home (node_with (name_at ns f) (home_at ns f) (next_at ns k)) (node_with name None more) at.within first.within at_k one refl refl over free in
    let count = inv.count in
    let long : length ls ≡ length ns = ap length free ∙ length-set ms f (node_with name None more) ∙ ap length over ∙ length-set ns k (node_with (name_at ns f) (home_at ns f) (next_at ns k)) in
    taken_book ns ls hs c.move_first.new.heads.items c.self.inside.used c.self.inside.spare inv c.move_first.ensures.chains long less

pub returns-clause-others : goal.returns-clause-others
returns-clause-others c = λ h n noted.
    let ns = c.self.inside.nodes.items in
    let hs = c.self.inside.heads.items in
    let inv = c.self.invariant in
    let nine = inv.chains.nine in
    let home = c.args.home in
    let a = c.chain_of-chain.result in
    let a_is : a ≡ chain_of (Some home) = c.chain_of-chain.ensures in
    let below = chain_below (Some home) in
    let lt : a < 9 = omega (arith, a_is, below) in
    let in_a : a < length hs = omega (arith, nine, lt) in
    let read : c.index.result.now ≡ get_or hs a None = get_or_read hs a c.index.result.now in_a c.index.ensures None in
    let ch = inv.chains.each a None lt in
    let f = c.in-Some.first in
    let first = first_of ns (get_or hs a None) f a ch (sym read ∙ c.in-Some.is) in
    let k = c.in-Some-place_for.place in
    let at : IsFor ns home k = subst (λ (xs : List NoticeNode). IsFor xs home k) c.deref.ensures.value c.in-Some-place_for.ensures.found in
    let at_k : home_at ns k ≡ Some home = for_home (home_at ns k) home (at.here bare) in
    let ms = c.write_over-name.new.nodes.items in
    let over : ms ≡ slice_set ns k (node_with (name_at ns f) (home_at ns f) (next_at ns k)) = c.write_over-name.ensures.nodes in
    let class : chain_of (home_at ns f) ≡ chain_of (home_at ns k) = first.class ∙ a_is ∙ sym (ap chain_of at_k) in
    let name = c.write_over-name.result in
    let more : Option ℕ = get_or hs (chain_of None) None in
    let ls = c.move_first.new.nodes.items in
    let free : ls ≡ slice_set ms f (node_with name None more) = c.move_first.ensures.nodes None in
    let one : one_used (home_at ns f) ≡ 1 = used_home (home_at ns f) home (first.class ∙ a_is) in
    let less : count_used ls + 1 ≡ count_used ns = taken_count ns ms ls k f home (node_with (name_at ns f) (home_at ns f) (next_at ns k)) (node_with name None more) at.within first.within at_k one refl refl over free in
    let count = inv.count in
    let was = subst (λ (b : Book). Noted b h n) (sym c.self.view_is) noted in
    ⊎_elim (λ (p : (h ≡ home) × (n ≡ name_at ns k)). inl (p.0, p.1 ∙ sym c.write_over-name.ensures.name)) (λ q. inr q)
    (taken_noted ns ms ls k f home c.self.inside.used (c.self.inside.used - 1) c.self.inside.spare (next_at ns k) more name at.within first.within at_k over free h n was)

pub returns-clause-less : goal.returns-clause-less
returns-clause-less c =
    let ns = c.self.inside.nodes.items in
    let hs = c.self.inside.heads.items in
    let inv = c.self.invariant in
    let nine = inv.chains.nine in
    let home = c.args.home in
    let a = c.chain_of-chain.result in
    let a_is : a ≡ chain_of (Some home) = c.chain_of-chain.ensures in
    let below = chain_below (Some home) in
    let lt : a < 9 = omega (arith, a_is, below) in
    let in_a : a < length hs = omega (arith, nine, lt) in
    let read : c.index.result.now ≡ get_or hs a None = get_or_read hs a c.index.result.now in_a c.index.ensures None in
    let ch = inv.chains.each a None lt in
    let f = c.in-Some.first in
    let first = first_of ns (get_or hs a None) f a ch (sym read ∙ c.in-Some.is) in
    let k = c.in-Some-place_for.place in
    let at : IsFor ns home k = subst (λ (xs : List NoticeNode). IsFor xs home k) c.deref.ensures.value c.in-Some-place_for.ensures.found in
    let at_k : home_at ns k ≡ Some home = for_home (home_at ns k) home (at.here bare) in
    let ms = c.write_over-name.new.nodes.items in
    let over : ms ≡ slice_set ns k (node_with (name_at ns f) (home_at ns f) (next_at ns k)) = c.write_over-name.ensures.nodes in
    let class : chain_of (home_at ns f) ≡ chain_of (home_at ns k) = first.class ∙ a_is ∙ sym (ap chain_of at_k) in
    let name = c.write_over-name.result in
    let more : Option ℕ = get_or hs (chain_of None) None in
    let ls = c.move_first.new.nodes.items in
    let free : ls ≡ slice_set ms f (node_with name None more) = c.move_first.ensures.nodes None in
    let one : one_used (home_at ns f) ≡ 1 = used_home (home_at ns f) home (first.class ∙ a_is) in
    let less : count_used ls + 1 ≡ count_used ns = taken_count ns ms ls k f home (node_with (name_at ns f) (home_at ns f) (next_at ns k)) (node_with name None more) at.within first.within at_k one refl refl over free in
    let count = inv.count in
    let used : c.self.inside.used ≡ c.args.self.now.used = ap (λ (b : Book). b.used) c.self.view_is in
    omega (arith, less, count, used)
