-- Names that are told dead by a test.
use Rattle.std.specs.Prelude.{◌≡◌, ℕ, Bool, true, ◌||◌, List, option_map, if◌then◌else◌}
use Rattle.log_entry.specs.declared.entry.EntryName.{EntryName}
use Rattle.log_standing.specs.declared.name_item.NameItem.{NameItem}
use Rattle.log_standing.specs.declared.types.Copies.{Copies}
use Rattle.log_standing.specs.NameCounts.{killed}
use Rattle.log_standing.specs.NameItems.{copies_among}

-- the test answers of each name as f has it
abbrev pub Answers : (EntryName → Bool → Type 0) → (ℕ → ℕ → Bool) → Type 0
Answers says f = (n : EntryName) (b : Bool) → says n b → b ≡ f n.key n.version

-- told dead, where f has it so
abbrev pub dead_by : (ℕ → ℕ → Bool) → NameItem → NameItem
dead_by f x = record {
  key = x.key;
  version = x.version;
  count = x.count;
  chunk = x.chunk;
  words = x.words;
  dead = x.dead || f x.key x.version;
}

-- told dead, whether or not it was
abbrev pub all_dead : NameItem → NameItem
all_dead x = record {
  key = x.key;
  version = x.version;
  count = x.count;
  chunk = x.chunk;
  words = x.words;
  dead = true;
}

-- every name has the copies that it had, but for who is told dead
abbrev pub SameCounts : List ((ℕ × ℕ) × Copies) → List ((ℕ × ℕ) × Copies) → Type 0
SameCounts old new = (k v : ℕ) → option_map killed (copies_among new k v)
    ≡ option_map killed (copies_among old k v)

-- the names that f has were told dead, as far as they stand
abbrev pub KillsAmong : List ((ℕ × ℕ) × Copies) → List ((ℕ × ℕ) × Copies) → (ℕ → ℕ → Bool) → Type 0
KillsAmong old new f = (k v : ℕ) → copies_among new k v ≡ (if f k v then option_map killed
    (copies_among old k v) else copies_among old k v)
