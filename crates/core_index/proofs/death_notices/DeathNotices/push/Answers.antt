use Rattle.std.proofs.Common.{◌≡◌, ◌+◌, ◌-◌, ◌<◌, ℕ, length, get_or, Option, Some, None, refl, sym, ◌∙◌, ap, subst, arith, slice_set}
use Rattle.std.proofs.lemmas.List.{get_or_read}
use Rattle.core_index.specs.Noted.{Book, Noted, node_with, home_at, chain_of}
use Rattle.core_index.proofs.NoticeLaws.{first_of, free_home, never_full, some_from, put_book, put_noted, noted_here}
use Rattle.core_index.proofs.death_notices.DeathNotices.push.Goals as goal

pub unwrap-first-requires : goal.unwrap-first-requires
unwrap-first-requires c =
    let ns = c.self.inside.nodes.items in
    let hs = c.self.inside.heads.items in
    let inv = c.self.invariant in
    let nine = inv.chains.nine in
    let lt : 8 < length hs = omega (arith, nine) in
    let read : c.index.result.now ≡ get_or hs 8 None = get_or_read hs 8 c.index.result.now lt c.index.ensures None in
    let spare : c.self.inside.spare ≡ c.args.self.now.spare = ap (λ (b : Book). b.spare) c.self.view_is in
    let room = c.requires in
    let some : 0 < c.self.inside.spare = omega (arith, spare, room) in
    some_from c.index.result.now (λ e. never_full ns hs c.self.inside.used c.self.inside.spare inv some (sym read ∙ e))

pub invariant_of-self : goal.invariant_of-self
invariant_of-self c =
    let ns = c.self.inside.nodes.items in
    let hs = c.self.inside.heads.items in
    let inv = c.self.invariant in
    let nine = inv.chains.nine in
    let lt : 8 < length hs = omega (arith, nine) in
    let read : c.index.result.now ≡ get_or hs 8 None = get_or_read hs 8 c.index.result.now lt c.index.ensures None in
    let i = c.unwrap-first.result in
    let is : get_or hs 8 None ≡ Some i = sym read ∙ c.unwrap-first.ensures in
    let first = first_of ns (get_or hs 8 None) i 8 (inv.chains.each 8 None (omega arith)) is in
    let free = free_home (home_at ns i) first.class in
    let next : Option ℕ = get_or hs (chain_of (Some c.args.home)) None in
    let put : c.move_first.new.nodes.items ≡ slice_set ns i (node_with c.args.name (Some c.args.home) next) = c.move_first.ensures.nodes None in
    let spare : c.self.inside.spare ≡ c.args.self.now.spare = ap (λ (b : Book). b.spare) c.self.view_is in
    let room = c.requires in
    let some : 0 < c.self.inside.spare = omega (arith, spare, room) in
    put_book ns c.move_first.new.nodes.items hs c.move_first.new.heads.items i c.self.inside.used c.self.inside.spare (node_with c.args.name (Some c.args.home) next) inv some c.move_first.ensures.chains first.within free put refl

pub returns-clause-added : goal.returns-clause-added
returns-clause-added c =
    let ns = c.self.inside.nodes.items in
    let hs = c.self.inside.heads.items in
    let inv = c.self.invariant in
    let nine = inv.chains.nine in
    let lt : 8 < length hs = omega (arith, nine) in
    let read : c.index.result.now ≡ get_or hs 8 None = get_or_read hs 8 c.index.result.now lt c.index.ensures None in
    let i = c.unwrap-first.result in
    let is : get_or hs 8 None ≡ Some i = sym read ∙ c.unwrap-first.ensures in
    let first = first_of ns (get_or hs 8 None) i 8 (inv.chains.each 8 None (omega arith)) is in
    let free = free_home (home_at ns i) first.class in
    let next : Option ℕ = get_or hs (chain_of (Some c.args.home)) None in
    let put : c.move_first.new.nodes.items ≡ slice_set ns i (node_with c.args.name (Some c.args.home) next) = c.move_first.ensures.nodes None in
    noted_here ns c.move_first.new.nodes.items i (c.self.inside.used + 1) (c.self.inside.spare - 1) c.args.home c.args.name next first.within put

pub returns-clause-kept : goal.returns-clause-kept
returns-clause-kept c = λ h m noted.
    let ns = c.self.inside.nodes.items in
    let hs = c.self.inside.heads.items in
    let inv = c.self.invariant in
    let nine = inv.chains.nine in
    let lt : 8 < length hs = omega (arith, nine) in
    let read : c.index.result.now ≡ get_or hs 8 None = get_or_read hs 8 c.index.result.now lt c.index.ensures None in
    let i = c.unwrap-first.result in
    let is : get_or hs 8 None ≡ Some i = sym read ∙ c.unwrap-first.ensures in
    let first = first_of ns (get_or hs 8 None) i 8 (inv.chains.each 8 None (omega arith)) is in
    let free = free_home (home_at ns i) first.class in
    let next : Option ℕ = get_or hs (chain_of (Some c.args.home)) None in
    let put : c.move_first.new.nodes.items ≡ slice_set ns i (node_with c.args.name (Some c.args.home) next) = c.move_first.ensures.nodes None in
    put_noted ns c.move_first.new.nodes.items i c.self.inside.used (c.self.inside.used + 1) c.self.inside.spare (c.self.inside.spare - 1) (node_with c.args.name (Some c.args.home) next) first.within free put h m (subst (λ (b : Book). Noted b h m) (sym c.self.view_is) noted)
