use Rattle.std.proofs.Common.{◌≡◌, ⊎_elim, ℕ, ◌+◌, ◌*◌, ◌/◌, ◌%◌, ◌≤◌, get_or, sym, ◌∙◌, ap, subst, arith}
use Rattle.std.specs.Int.Bits.{bit_or}
use Rattle.std.proofs.lemmas.Nat.{le_or_l, le_or_r}
use Rattle.std.proofs.lemmas.Bool.{cases_eq}
use Rattle.std.proofs.lemmas.Bool.Decides.{nat_tests}
use Rattle.pm_region.specs.Bytes.{word_at}
use Rattle.region_file.proofs.Reading.{zero_bytes}
use Rattle.region_file.proofs.read_pages.are_zeros.Goals as goal

pub loop-place-preserved : goal.loop-place-preserved
loop-place-preserved c = λ k lt.
    let was = c.loop-place.bits in
    ⊎_elim (λ e. subst (λ (n : ℕ). word_at c.args.bytes.now n ≤ bit_or was c.word-bits.result) (sym e) (subst (λ (w : ℕ). w ≤ bit_or was c.word-bits.result) c.word-bits.ensures (le_or_r was c.word-bits.result)))
    (λ ne. let before = c.loop-place.invariant k (omega (arith, lt, ne)) in let low = le_or_l was c.word-bits.result in omega (arith, before, low)) (cases_eq k c.loop-place.place)

pub returns : goal.returns
returns c = λ yes j lt.
    let bits : c.loop-place.bits ≡ 0 = grind (arith, nat_tests) in
    let most = c.loop-place.invariant (j / 8) (omega (arith, lt, c.requires, c.loop-place-test.false)) in
    let at : 8 * (j / 8) + j % 8 ≡ j = omega arith in
    let word : word_at c.args.bytes.now (j / 8) ≡ 0 = omega (arith, most, bits) in
    ap (λ (k : ℕ). get_or c.args.bytes.now k 0) (sym at) ∙ zero_bytes c.args.bytes.now (j / 8) word (j % 8) (omega arith)
