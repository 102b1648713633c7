-- What a source and a sink say of themselves, where they do, and what a call makes of it.
use Rattle.std.specs.Prelude.{◌≡◌, ◌⊎◌, ℕ, ◌<◌, ◌==◌, ◌&&◌, nat_lt, List, [], ◌++◌, length, Bool, Option, Some, None}
use Rattle.fs_text.specs.declared.input_limits.TheConstants.{MOST_INPUT_BYTES}

-- What a source has left: these bytes come, and then what it has left then. One that tells goes on telling.
abbrev pub Gives : Option (List ℕ) → Option (List ℕ) → List ℕ → Type 0
Gives None left bytes = Unit {0}
Gives (Some coming) None bytes = ⊥
Gives (Some coming) (Some rest) bytes = coming ≡ bytes ++ rest

-- nothing is left, where it is told
abbrev pub IsAtEnd : Option (List ℕ) → Type 0
IsAtEnd None = Unit {0}
IsAtEnd (Some coming) = coming ≡ []

-- a read answered with so many bytes, for so much room, that it is at its end
abbrev pub is_end : ℕ → ℕ → Bool
is_end count room = count == 0 && nat_lt 0 room

-- It was read to its end, or past the bytes that an input may have.
abbrev pub IsReadOut : Option (List ℕ) → Option (List ℕ) → Type 0
IsReadOut coming left = (bytes : List ℕ) × Gives coming left bytes
    × ((MOST_INPUT_BYTES < length bytes) ⊎ IsAtEnd left)

-- A sink took these bytes behind those that it had taken. It may stop telling, and doesn't begin to tell.
abbrev pub Takes : Option (List ℕ) → Option (List ℕ) → List ℕ → Type 0
Takes before None bytes = Unit {0}
Takes None (Some now) bytes = ⊥
Takes (Some before) (Some now) bytes = now ≡ before ++ bytes

-- It took bytes from the front, and all but the rest of them.
abbrev pub TakesUpTo : Option (List ℕ) → Option (List ℕ) → List ℕ → List ℕ → Type 0
TakesUpTo before now bytes rest = (front : List ℕ) × (bytes ≡ front ++ rest)
    × Takes before now front

-- It took bytes from the front, perhaps all of them, perhaps none.
abbrev pub TakesPrefix : Option (List ℕ) → Option (List ℕ) → List ℕ → Type 0
TakesPrefix before now bytes = (rest : List ℕ) × TakesUpTo before now bytes rest
