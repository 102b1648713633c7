-- What a scan of the code shows.
use Rattle.std.specs.Prelude.{◌≡◌, ℕ, List, map, ◌+◌, drop, Bool, true, false}
use Rattle.log_entry.specs.declared.entry.Entry.{Entry}
use Rattle.log_entry.specs.Reading.{name_of}
use Rattle.log_entry.specs.Batches.{Scan, broken, with_entry, scan}
use Rattle.store_image.specs.declared.scanning.AtPlace.{AtPlace}
use Rattle.store_image.specs.declared.scanning.Scanned.{Scanned}
use Rattle.store_image.specs.declared.scanning.Next.{Next}
use Rattle.store_image.specs.declared.scanning.Next.TheVariants.{Stop, Zero, Found}

-- an entry with its place, by its name alone
abbrev pub name_at : ℕ × Entry → AtPlace
name_at x = record { place = x.0; name = name_of x.1 }

abbrev pub IsScan : Scanned → Scan → Type 0
IsScan s found = (s.entries.items ≡ map name_at found.entries) × (s.whole ≡ found.whole)

-- what was said of place p is what a scan finds there
abbrev pub IsNext : List ℕ → ℕ → Bool → Next → Type 0
IsNext ws p padded Stop = scan p 0 padded (drop p ws) ≡ broken
IsNext ws p padded Zero = scan p 0 padded (drop p ws) ≡ scan (p + 1) 0 true (drop (p + 1) ws)
IsNext ws p padded (Found name left) = (e : Entry) × (name_of e ≡ name)
    × (scan p 0 padded (drop p ws) ≡ with_entry p e (scan (p + 1) left false (drop (p + 1) ws)))
