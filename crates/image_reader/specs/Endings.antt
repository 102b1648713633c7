-- How a call of the program ends, and what it then says of the bytes that it read.
use Rattle.std.specs.Prelude.{◌≡◌, ℕ, ◌<◌, List, length, Vec, Option}
use Rattle.std.specs.Global.{Global}
use Rattle.fs_model.specs.declared.model.Pair.{Pair}
use Rattle.fs_text.specs.Streams.{Gives, IsAtEnd, Takes, TakesPrefix}
use Rattle.fs_text.specs.Output.{pairs_text}
use Rattle.image_reader.specs.declared.ending.Ending.{Ending}
use Rattle.image_reader.specs.declared.ending.Ending.TheVariants.{Shown, SourceFault, SinkFault, Faulty, Memory}
use Rattle.image_reader.specs.declared.image_reading.ImageContents.TheVariants as images
use Rattle.image_reader.specs.Shown.{ShowsBytes}

abbrev pub exit_code : Ending → ℕ
exit_code Shown = 0
exit_code SourceFault = 3
exit_code SinkFault = 4
exit_code (Faulty fault) = 6
exit_code Memory = 8

-- these are all bytes that came, or one more than a region may have
abbrev pub AreRead : Option (List ℕ) → Option (List ℕ) → List ℕ → Type 0
AreRead coming left bytes = Gives coming left bytes × (length bytes < 268439553 → IsAtEnd left)

-- By what came and was left at the source, and what the sink had taken before and after: all pairs of a sound image were written, or a part of their text where the sink failed. Of an image that is not sound the first fault is told, and nothing is written.
abbrev pub Tells : Ending → Option (List ℕ) → Option (List ℕ) → Option (List ℕ) → Option (List ℕ)
    → Type 0
Tells Shown coming left before after = (bytes : List ℕ) × AreRead coming left bytes
    × ((pairs : Vec Pair Global) × ShowsBytes (images.Sound pairs) bytes
    × Takes before after (pairs_text pairs.items))
Tells SinkFault coming left before after = (bytes : List ℕ) × AreRead coming left bytes
    × ((pairs : Vec Pair Global) × ShowsBytes (images.Sound pairs) bytes
    × TakesPrefix before after (pairs_text pairs.items))
Tells (Faulty fault) coming left before after = (bytes : List ℕ) × AreRead coming left bytes
    × ShowsBytes (images.Faulty fault) bytes × (after ≡ before)
Tells SourceFault coming left before after = after ≡ before
Tells Memory coming left before after = Unit {0}
