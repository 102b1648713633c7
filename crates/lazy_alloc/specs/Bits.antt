-- Bits of words, and of lists of words.
use Rattle.std.specs.Prelude.{ℕ, ◌/◌, ◌%◌, ◌==◌, List, Bool, slice_index}
use Rattle.std.specs.Int.{bit_at}
use Rattle.lazy_alloc.specs.declared.bits.TheConstants.{WORD_BITS}

-- the bit of a word is set
unfoldable pub has : ℕ → ℕ → Bool
has n i = bit_at n i == 1

-- Bit WORD_BITS * i + k of a list is bit k of its word i.
unfoldable pub has_bit : List ℕ → ℕ → Bool
has_bit words i = has (slice_index words (i / WORD_BITS)) (i % WORD_BITS)
