-- Batches: as a list of words spells them, and as they are read place by place.
use Rattle.std.specs.Prelude.{◌≡◌, ℕ, zero, suc, ◌+◌, ◌-◌, ◌%◌, ◌<◌, ◌==◌, ◌&&◌, not, List, [], ◌∷◌, ◌++◌, length, Bool, true, false, if◌then◌else◌, replicate}
use Rattle.std.specs.List.{flat_map, AllByRecursion}
use Rattle.pm_region.specs.declared.region_sizes.TheConstants.{LINE_WORDS}
use Rattle.log_entry.specs.declared.entry.Entry.{Entry}
use Rattle.log_entry.specs.declared.entry.Read.TheVariants as reads
use Rattle.log_entry.specs.Spelling.{words_of, HasSpelling}
use Rattle.log_entry.specs.Reading.{read}

-- how many words are missing up to a line's end
abbrev pub padding : ℕ → ℕ
padding n = (LINE_WORDS - n % LINE_WORDS) % LINE_WORDS

abbrev pub batch_words : List Entry → List ℕ
batch_words es = let ws = flat_map words_of es in ws ++ replicate (padding (length ws)) 0

pub record IsBatch (es : List Entry) : Type 0 where
  pub some : 0 < length es
  pub each : AllByRecursion HasSpelling es

-- a payload up to its tail is a list of batches
pub record SpellsBatches (ws : List ℕ) (batches : List (List Entry)) : Type 0 where
  pub words : ws ≡ flat_map batch_words batches
  pub each : AllByRecursion IsBatch batches

-- The entries of a payload with their places, up to the end or to the first place where none may stand.
pub record Scan : Type 0 where
  pub entries : List (ℕ × Entry)
  pub whole : Bool

abbrev pub ended : Scan
ended = record { entries = []; whole = true }

abbrev pub broken : Scan
broken = record { entries = []; whole = false }

abbrev pub with_entry : ℕ → Entry → Scan → Scan
with_entry p e s = record { entries = (p, e) ∷ s.entries; whole = s.whole }

-- Reading goes on at place p: so many words of an entry are left there, and whether a zero word stood before it.
abbrev pub scan : ℕ → ℕ → Bool → List ℕ → Scan
scan p left padded [] = ended
scan p (suc left) padded (w ∷ ws) = scan (p + 1) left padded ws
scan p zero padded (w ∷ ws) =
    if padded && not (p % LINE_WORDS == 0) then (if w == 0 then scan (p + 1) 0 true ws else broken)
    else (elim (read (w ∷ ws)) [
      | reads.Entry e n ↦ with_entry p e (scan (p + 1) (n - 1) false ws)
      | reads.Padding ↦ if p % LINE_WORDS == 0 then broken else scan (p + 1) 0 true ws
      | reads.BadEntry rule ↦ broken
    ])

abbrev pub scan_of : List ℕ → Scan
scan_of ws = scan 0 0 false ws

abbrev pub spells : List ℕ → Bool
spells ws = (scan_of ws).whole
