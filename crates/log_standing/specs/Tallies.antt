-- What of one chunk is still to be copied, and what each of its names has there.
use Rattle.std.specs.Prelude.{ℕ, ◌+◌, ◌-◌, List, Option, Some, None}
use Rattle.std.specs.Map.{lookup}
use Rattle.log_standing.specs.declared.types.Amount.{Amount}
use Rattle.log_standing.specs.Names.{name_eq}

-- how much is left, what each name has, and for how many more names there is room
pub record TallyState : Type 0 where
  pub left : Amount
  pub names : List ((ℕ × ℕ) × Amount)
  pub room : ℕ

abbrev pub amount_at : TallyState → ℕ → ℕ → Option Amount
amount_at t k v = lookup (name_eq (k, v)) t.names

abbrev pub entries_held : Option Amount → ℕ
entries_held None = 0
entries_held (Some a) = a.entries

abbrev pub words_held : Option Amount → ℕ
words_held None = 0
words_held (Some a) = a.words

-- with one more entry of so many words
abbrev pub more : Option Amount → ℕ → Amount
more a words = record { entries = entries_held a + 1; words = words_held a + words }

abbrev pub less_by : Amount → Amount → Amount
less_by a by = record { entries = a.entries - by.entries; words = a.words - by.words }

-- what is left without a name
abbrev pub less : ℕ → ℕ → TallyState → TallyState
less k v t = record t {
  left = record {
    entries = t.left.entries - entries_held (amount_at t k v);
    words = t.left.words - words_held (amount_at t k v);
  };
}
