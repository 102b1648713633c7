-- The winners of all keys.
use Rattle.std.specs.Prelude.{ℕ, ◌==◌, ◌&&◌, nat_lt, Bool, false, List, [], ◌∷◌, find, Option, Some, None, if◌then◌else◌}
use Rattle.std.specs.Option.{option_to_list}
use Rattle.std.specs.List.{flat_map, AllByRecursion}
use Rattle.log_entry.specs.Spelling.{HasSpelling}
use Rattle.store_image.specs.declared.types.PlacedEntry.{PlacedEntry}
use Rattle.store_image.specs.Winners.{winner_in, keys_of}

-- the winner of each key, by rising key
abbrev pub winners_of : List PlacedEntry → List PlacedEntry
winners_of es = flat_map (λ k. option_to_list (winner_in k es)) (keys_of es)

-- the winner of a key in a list of winners
abbrev pub won_in : ℕ → List PlacedEntry → Option PlacedEntry
won_in k ws = find (λ x. x.entry.key == k) ws

-- each entry is one that words can spell: its version and its value are in their bounds
abbrev pub AreSpelled : List PlacedEntry → Type 0
AreSpelled es = AllByRecursion (λ x. HasSpelling x.entry) es

-- whether the winner has the entry's key and a greater version
abbrev pub is_older : Option PlacedEntry → PlacedEntry → Bool
is_older None x = false
is_older (Some y) x = y.entry.key == x.entry.key && nat_lt x.entry.version y.entry.version

-- winners by rising key, without the first where it has the entry's key
abbrev pub without : PlacedEntry → List PlacedEntry → List PlacedEntry
without x [] = []
without x (y ∷ ws) = if y.entry.key == x.entry.key then ws else y ∷ ws

-- and with the entry in front, unless the first has its key and a greater version
abbrev pub with_winner : PlacedEntry → List PlacedEntry → List PlacedEntry
with_winner x [] = x ∷ []
with_winner x (y ∷ ws) = if is_older (Some y) x then y ∷ ws else x ∷ without x (y ∷ ws)
