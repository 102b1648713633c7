-- The numbers of a layout are small.
use Rattle.std.proofs.Common.{◌≡◌, ℕ, ◌+◌, ◌*◌, ◌/◌, ◌^◌, ◌<◌, ◌≤◌, arith}
use Rattle.std.proofs.Math.Nat.{mul-le-mul_left}
use Rattle.std.proofs.lemmas.Nat.{mul-le}
use Rattle.chunk_map.specs.declared.layouts.Geometry.{Geometry}
use Rattle.chunk_map.specs.Layouts.{IsLayout}
use Rattle.store_image.proofs.Clients.{layout_numbers}

-- the units of a part
pub part_small : (l : Geometry) → IsLayout l → l.chunks * (l.chunk_bytes / 256) ≤ 268435456
part_small l is =
    let ns = layout_numbers l is in
    let units = mul-le-mul_left {m = l.chunk_bytes / 256} {n = l.chunk_bytes} l.chunks (omega arith) in
    let cores = ns.cores in
    let some = mul-le 1 (l.chunks * l.chunk_bytes) l.cores (l.chunks * l.chunk_bytes) cores (omega arith) in
    let total = ns.total in
    let same : l.cores * l.chunks * l.chunk_bytes ≡ l.cores * (l.chunks * l.chunk_bytes) = omega arith in
    omega (arith, units, some, total, same)

-- the number of a core
pub core_small : (g n m : ℕ) → g < 2 ^ 32 → n < 2 ^ 32 → m ≤ 2 ^ 32 → g * n + m ≤ 18446744073709551616
core_small g n m a b c =
    let product = mul-le g n 4294967295 4294967295 (omega (arith, a)) (omega (arith, b)) in
    omega (arith, product, c)

pub unit_small : (core part : ℕ) → core ≤ 18446744073709551616 → part ≤ 268435456 → core * part ≤ 18446744073709551616 * 268435456
unit_small core part a b = mul-le core part 18446744073709551616 268435456 a b
