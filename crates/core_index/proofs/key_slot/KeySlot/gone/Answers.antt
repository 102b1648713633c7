use Rattle.std.proofs.Common.{◌≡◌, Option, sym, ◌∙◌, ap, subst, arith}
use Rattle.core_index.specs.declared.types.Standee.{Standee}
use Rattle.core_index.specs.Records.{KeyRecord, last_of, others}
use Rattle.core_index.specs.Slots.{Place, change_in, known_with, alive_at, lone_deaths, count_dead, died, OnlyDead}
use Rattle.core_index.proofs.SlotLaws.{gone_only, gone_count, gone_slot}
use Rattle.core_index.proofs.key_slot.KeySlot.gone.Goals as goal

pub invariant_of-self : goal.invariant_of-self
invariant_of-self c = gone_slot (change_in c.self.inside.head) c.self.inside.standing c.take_out.new.self c.args.version c.self.invariant c.take_out.ensures.items c.take_out.ensures.top

pub returns-clause-dead : goal.returns-clause-dead
returns-clause-dead c =
    let o = change_in c.self.inside.head in
    let ss = c.self.inside.standing.items in
    let v = c.args.version in
    let old : known_with o ss ≡ c.args.self.now.known = ap (λ (p : Place). p.known) c.self.view_is in
    let now : known_with o c.take_out.new.self.items ≡ known_with o (others v ss) = ap (known_with o) c.take_out.ensures.items in
    let last : c.last-last.result ≡ last_of (known_with o ss) = c.last-last.ensures ∙ ap last_of (sym old) in
    let before : c.alive-before.result ≡ alive_at (known_with o ss) = c.alive-before.ensures ∙ ap alive_at (sym old) in
    let after : c.alive.result ≡ alive_at (known_with o (others v ss)) = c.alive.ensures ∙ ap alive_at now in
    let dead : c.died-dead.result ≡ died v (last_of (known_with o ss)) (alive_at (known_with o ss)) (alive_at (known_with o (others v ss))) = c.died-dead.ensures ∙ (λ i. died v (last i) (before i) (after i)) in
    subst (λ (k : Option KeyRecord). OnlyDead k (known_with o c.take_out.new.self.items) c.died-dead.result) old
    (subst (λ (k : Option KeyRecord). OnlyDead (known_with o ss) k c.died-dead.result) (sym now)
    (subst (λ (d : Option Standee). OnlyDead (known_with o ss) (known_with o (others v ss)) d) (sym dead) (gone_only o ss v c.self.invariant.below)))

pub overflow_sub-result : goal.overflow_sub-result
overflow_sub-result c =
    let o = change_in c.self.inside.head in
    let ss = c.self.inside.standing.items in
    let v = c.args.version in
    let old : known_with o ss ≡ c.args.self.now.known = ap (λ (p : Place). p.known) c.self.view_is in
    let now : known_with o c.take_out.new.self.items ≡ known_with o (others v ss) = ap (known_with o) c.take_out.ensures.items in
    let last : c.last-last.result ≡ last_of (known_with o ss) = c.last-last.ensures ∙ ap last_of (sym old) in
    let before : c.alive-before.result ≡ alive_at (known_with o ss) = c.alive-before.ensures ∙ ap alive_at (sym old) in
    let after : c.alive.result ≡ alive_at (known_with o (others v ss)) = c.alive.ensures ∙ ap alive_at now in
    let dead : c.died-dead.result ≡ died v (last_of (known_with o ss)) (alive_at (known_with o ss)) (alive_at (known_with o (others v ss))) = c.died-dead.ensures ∙ (λ i. died v (last i) (before i) (after i)) in
    let count = gone_count o ss v in
    let a : count_dead c.died-dead.result ≡ count_dead (died v (last_of (known_with o ss)) (alive_at (known_with o ss)) (alive_at (known_with o (others v ss)))) = ap count_dead dead in
    let b : lone_deaths (known_with o c.take_out.new.self.items) ≡ lone_deaths (known_with o (others v ss)) = ap lone_deaths now in
    let d : lone_deaths (known_with o ss) ≡ lone_deaths c.args.self.now.known = ap lone_deaths old in
    let was = c.lone_deaths-lone.ensures in
    let is = c.lone_deaths.ensures in
    let deaths = c.count_dead.ensures in
    omega (arith, count, a, b, d, was, is, deaths)

pub returns-clause-mortal : goal.returns-clause-mortal
returns-clause-mortal c =
    let o = change_in c.self.inside.head in
    let ss = c.self.inside.standing.items in
    let v = c.args.version in
    let old : known_with o ss ≡ c.args.self.now.known = ap (λ (p : Place). p.known) c.self.view_is in
    let now : known_with o c.take_out.new.self.items ≡ known_with o (others v ss) = ap (known_with o) c.take_out.ensures.items in
    let last : c.last-last.result ≡ last_of (known_with o ss) = c.last-last.ensures ∙ ap last_of (sym old) in
    let before : c.alive-before.result ≡ alive_at (known_with o ss) = c.alive-before.ensures ∙ ap alive_at (sym old) in
    let after : c.alive.result ≡ alive_at (known_with o (others v ss)) = c.alive.ensures ∙ ap alive_at now in
    let dead : c.died-dead.result ≡ died v (last_of (known_with o ss)) (alive_at (known_with o ss)) (alive_at (known_with o (others v ss))) = c.died-dead.ensures ∙ (λ i. died v (last i) (before i) (after i)) in
    let count = gone_count o ss v in
    let a : count_dead c.died-dead.result ≡ count_dead (died v (last_of (known_with o ss)) (alive_at (known_with o ss)) (alive_at (known_with o (others v ss)))) = ap count_dead dead in
    let b : lone_deaths (known_with o c.take_out.new.self.items) ≡ lone_deaths (known_with o (others v ss)) = ap lone_deaths now in
    let d : lone_deaths (known_with o ss) ≡ lone_deaths c.args.self.now.known = ap lone_deaths old in
    let was = c.lone_deaths-lone.ensures in
    let is = c.lone_deaths.ensures in
    let deaths = c.count_dead.ensures in
    let e : c.self.inside.standing.room ≡ c.args.self.now.room = ap (λ (p : Place). p.room) c.self.view_is in
    let f = c.take_out.ensures.room in
    omega (arith, count, a, b, d, e, f, was, is, deaths)
