-- Parts lie one behind another, and each block has some unit.
use Rattle.std.proofs.Common.{ℕ, ◌+◌, ◌*◌, ◌<◌, ◌≤◌, arith}
use Rattle.std.proofs.Math.Nat.{mul-le-mul_right}
use Rattle.std.proofs.lemmas.Nat.{pow_pos}
use Rattle.store_image.specs.Parts.{chunk_units}
use Rattle.group_laws.specs.Places.{Place, first_unit, units}

pub parts_rise : (p : Place) (m n : ℕ) → m < n → first_unit p (m + 1) ≤ first_unit p n
unfolding first_unit
parts_rise p m n l =
    let size : ℕ = p.layout.chunks * chunk_units p.layout in
    let first : ℕ = p.group * p.layout.group in
    let more = mul-le-mul_right {m = first + (m + 1)} {n = first + n} size (omega arith) in
    omega (arith, more)

pub units_some : (n : ℕ) → 0 < units n
unfolding units
units_some n = pow_pos _
