-- A name is a key and a version.
use Rattle.std.specs.Prelude.{ℕ, ◌&&◌, nat_eq, Bool}

abbrev pub name_eq : ℕ × ℕ → ℕ × ℕ → Bool
name_eq = λ x y. nat_eq x.0 y.0 && nat_eq x.1 y.1
