-- The place of a busy key is found.
use Rattle.std.proofs.Common.{◌≡◌, ℕ, ⊎_elim, true, false, Option, Some, None, refl, sym, ◌∙◌, ap, arith}
use Rattle.std.proofs.lemmas.Bool.{cases_lt, eqb-true, eq-eqb}
use Rattle.core_worker.specs.OwnPlaces.{place_at, key_in, is_of}
use Rattle.core_worker.proofs.Posts.{busy_has}
use Rattle.core_worker.proofs.stopped_items.place_with.Goals as goal

of_key : (k : ℕ) (o : Option ℕ) → is_of k o ≡ true → o ≡ Some k
of_key k None t = absurd (cc t)
of_key k (Some j) t = ap Some (sym (eqb-true k j t))

pub returns-then-has_key-clause-place : goal.returns-then-has_key-clause-place
returns-then-has_key-clause-place c = of_key c.args.key (key_in (place_at c.args.places.now.items c.loop-slot.slot)) (ap (λ x. is_of c.args.key (key_in x)) (sym c.place_in.ensures) ∙ sym c.has_key.ensures ∙ c.if-has_key.true)

pub loop-slot-preserved : goal.loop-slot-preserved
loop-slot-preserved c t lt = ⊎_elim (λ below. c.loop-slot.invariant t below)
    (λ ge. let same : t ≡ c.loop-slot.slot = omega (arith, lt, ge) in ap (λ n. is_of c.args.key (key_in (place_at c.args.places.now.items n))) same ∙ ap (λ x. is_of c.args.key (key_in x)) (sym c.place_in.ensures) ∙ sym c.has_key.ensures ∙ c.if-has_key.false) (cases_lt t c.loop-slot.slot)

pub unreachable-requires : goal.unreachable-requires
unreachable-requires c =
    let at = busy_has c.args.places.now.items c.args.key c.requires.busy in
    let lt = at.1 in
    let end = c.loop-slot-test.false in
    let eight = c.requires.eight in
    let both : true ≡ false = sym (ap (is_of c.args.key) at.2 ∙ eq-eqb c.args.key c.args.key refl) ∙ c.loop-slot.invariant at.0 (omega (arith, lt, end, eight)) in cc both
