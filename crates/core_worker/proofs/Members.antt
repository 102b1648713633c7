-- The cores of the members of a group.
use Rattle.std.proofs.Common.{◌≡◌, ℕ, ◌+◌, ◌-◌, ◌*◌, ◌/◌, ◌<◌, ◌≤◌, ◌∙◌, ap, arith}
use Rattle.std.proofs.Math.Nat.{mul-le-mul_left, mul-div-le}
use Rattle.chunk_map.proofs.Clients.{numbers_of}
use Rattle.group_laws.specs.Places.{Place, IsPlace, members, core_of}

pub core_few : (p : Place) → IsPlace p → (h : ℕ) → h < members p → core_of p h < 16
unfolding core_of
core_few p place h low =
    let l = p.layout in
    let group = place.group in
    let more : l.group * (p.group + 1) ≤ l.group * (l.cores / l.group) = mul-le-mul_left l.group (omega (arith, group)) in
    let all = mul-div-le l.cores l.group in
    let few = (numbers_of l place.layout).cores_high in
    omega (arith, more, all, low, few)

pub member_low : (p : Place) (m : ℕ) → m ≤ core_of p m
unfolding core_of
member_low p m = omega arith

pub core_moved : (p : Place) (m h : ℕ) → core_of p m - m + h ≡ core_of p h
unfolding core_of
core_moved p m h = omega arith

pub core_beside : (p : Place) (m h core member : ℕ) → core ≡ core_of p m → member ≡ m → core - member + h ≡ core_of p h
core_beside p m h core member is same = ap (λ (n : ℕ). core - n + h) same ∙ ap (λ (n : ℕ). n - m + h) is ∙ core_moved p m h
