-- What an answer of reading says of the words, by the spellings of entries alone.
use Rattle.std.specs.Prelude.{◌≡◌, ◌≢◌, ℕ, List, ◌++◌, length, drop, Some, slice_index}
use Rattle.log_entry.specs.declared.entry.Entry.{Entry}
use Rattle.log_entry.specs.declared.entry.Read.{Read}
use Rattle.log_entry.specs.declared.entry.Read.TheVariants as reads
use Rattle.log_entry.specs.Spelling.{words_of, HasSpelling}
use Rattle.log_entry.specs.Reading.{entry_rule}

-- the words begin with the entry's spelling, which has n words
pub record BeginsWith (ws : List ℕ) (e : Entry) (n : ℕ) : Type 0 where
  pub spelling : HasSpelling e
  pub size : n ≡ length (words_of e)
  pub front : ws ≡ words_of e ++ drop n ws

-- they begin with no entry's spelling
pub record BeginsWithNone (ws : List ℕ) : Type 0 where
  pub none : (e : Entry) → HasSpelling e → (rest : List ℕ) → ws ≢ words_of e ++ rest

-- what each answer says of the words
abbrev pub Tells : List ℕ → Read → Type 0
Tells ws (reads.Entry e n) = BeginsWith ws e n
Tells ws reads.Padding = slice_index ws 0 ≡ 0
Tells ws (reads.BadEntry rule) = (slice_index ws 0 ≢ 0) × (entry_rule ws ≡ Some rule)
    × BeginsWithNone ws

-- The answer is right, and no other would be: what is spelled is read, a zero word is padding, and the rest is bad.
pub record IsReading (ws : List ℕ) (r : Read) : Type 0 where
  pub spelled : (e : Entry) → HasSpelling e → (rest : List ℕ) → ws ≡ words_of e ++ rest
      → r ≡ reads.Entry e (length (words_of e))
  pub padding : slice_index ws 0 ≡ 0 → r ≡ reads.Padding
  pub tells : Tells ws r

-- no other entry's spelling begins with this one's
pub record IsNoPrefix (e : Entry) : Type 0 where
  pub alone : (f : Entry) → HasSpelling f → (rest : List ℕ) → words_of f ≡ words_of e ++ rest
      → f ≡ e
