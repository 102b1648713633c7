-- What the tests of recovery need to list the pairs of a recovered region, and to ask its allocators.
use Rattle.std.proofs.Common.{◌≡◌, ℕ, ◌<◌, length, sym, subst, arith}
use Rattle.std.specs.Prelude.{slice_index_or}
use Rattle.chunk_map.specs.Layouts.{IsLayout, total_bytes}
use Rattle.recover.specs.declared.types.CoreStart.{CoreStart}
use Rattle.recover.specs.declared.types.Recovered.{Recovered}
use Rattle.recover.specs.Recovering.{IsMade, IsFound}

pub found_made : (bytes : ℕ) (r : Recovered) → IsMade bytes r → (image : ℕ → ℕ) → IsFound bytes image r → IsFound (total_bytes r.layout) image r
found_made bytes r made image found = subst (λ (n : ℕ). IsFound n image r) (sym made.total) found

-- the layouts of all allocators
pub allocators_laid : (bytes : ℕ) (r : Recovered) → IsMade bytes r → (c : ℕ) (d : CoreStart) → c < length r.starts.items → IsLayout (slice_index_or r.starts.items c d).allocator.layout
allocators_laid bytes r made c d lt = let count = made.count in let low : c < r.layout.cores = omega (arith, lt, count) in subst IsLayout (sym (made.starts c d low).allocator_layout) made.layout
