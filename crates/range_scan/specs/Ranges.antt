-- What a range keeps of a list of pairs by rising key.
use Rattle.std.specs.Prelude.{ℕ, ◌&&◌, nat_le, List, take, map, Bool, Option, option_map, slice_get}
use Rattle.std.specs.List.{filter}
use Rattle.fs_model.specs.declared.model.Pair.{Pair}

-- the key is from lo to hi
abbrev pub is_within : ℕ → ℕ → ℕ → Bool
is_within lo hi k = nat_le lo k && nat_le k hi

abbrev pub kept : List Pair → ℕ → ℕ → List Pair
kept pairs lo hi = filter (λ p. is_within lo hi p.key) pairs

-- some pairs, and the key of the next one, if any
pub record Shown : Type 0 where
  pub pairs : List Pair
  pub more : Option ℕ

-- the first pairs that a range keeps, at most so many of them
abbrev pub ranged : List Pair → ℕ → ℕ → ℕ → Shown
ranged pairs lo hi limit = record {
  pairs = take limit (kept pairs lo hi);
  more = option_map (λ p. p.key) (slice_get (kept pairs lo hi) limit);
}

abbrev pub keys_of : List Pair → List ℕ
keys_of pairs = map (λ p. p.key) pairs
