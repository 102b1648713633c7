-- The first place that is free is the lowest one.
use Rattle.std.proofs.Common.{◌≡◌, ⊎_elim, true, false, refl, sym, ◌∙◌, ap, arith}
use Rattle.std.proofs.lemmas.Bool.{cases_lt}
use Rattle.core_worker.specs.declared.types.Place.{Place}
use Rattle.core_worker.specs.declared.types.Place.TheVariants.{Free, Staged, Posted}
use Rattle.core_worker.specs.OwnPlaces.{place_at, is_free}
use Rattle.core_worker.proofs.begin_request.free_place.Goals as goal

not_free : (x : Place) → (x ≡ Free → ⊥) → is_free x ≡ false
not_free Free ne = absurd (ne refl)
not_free (Staged n e u) ne = refl
not_free (Posted n k l) ne = refl

pub returns-in-Free-clause-lowest : goal.returns-in-Free-clause-lowest
returns-in-Free-clause-lowest c = (ap is_free (sym c.place_in.ensures ∙ c.in-Free.is), (let lt = c.loop-slot-test.true in let eight = c.requires.eight in omega (arith, lt, eight)), c.loop-slot.invariant)

pub loop-slot-preserved : goal.loop-slot-preserved
loop-slot-preserved c t lt = ⊎_elim (λ below. c.loop-slot.invariant t below)
    (λ ge. let same : t ≡ c.loop-slot.slot = omega (arith, lt, ge) in ap (λ n. is_free (place_at c.args.places.now.items n)) same ∙ ap is_free (sym c.place_in.ensures) ∙ not_free c.place_in.result.now c.in_default.not-Free) (cases_lt t c.loop-slot.slot)

pub unreachable-requires : goal.unreachable-requires
unreachable-requires c =
    let s = c.requires.some in
    let lt = s.1 in
    let end = c.loop-slot-test.false in
    let both : true ≡ false = sym (ap is_free s.2) ∙ c.loop-slot.invariant s.0 (omega (arith, lt, end)) in cc both
