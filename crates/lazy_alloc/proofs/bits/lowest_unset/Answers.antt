use Rattle.std.proofs.Common.{◌≡◌, ℕ, ◌<◌, true, false, sym, subst, arith}
use Rattle.lazy_alloc.specs.Bits.{has}
use Rattle.lazy_alloc.proofs.BitLaws.{all_set, lowest_unset_is}
use Rattle.lazy_alloc.proofs.bits.lowest_unset.Goals as goal

pub returns-then-word-eq18446744073709551615-clause-lowest : goal.returns-then-word-eq18446744073709551615-clause-lowest
returns-then-word-eq18446744073709551615-clause-lowest c = all_set c.args.word c.if-word-eq18446744073709551615.true

pub returns-else-word-eq18446744073709551615-clause-lowest : goal.returns-else-word-eq18446744073709551615-clause-lowest
returns-else-word-eq18446744073709551615-clause-lowest c =
    let n = c.args.word in
    let is = lowest_unset_is n (omega (arith, c.ranges.word)) c.if-word-eq18446744073709551615.false in
    subst (λ (t : ℕ). (has n t ≡ false) × ((i : ℕ) → i < t → has n i ≡ true)) (sym c.trailing_ones.ensures) (is.1, is.2)
