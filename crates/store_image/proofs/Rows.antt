-- Damaged images, and what is found in them.
use Rattle.std.proofs.Common.{◌≡◌, ℕ, ◌==◌, List, [], ◌∷◌, ◌++◌, refl, cond, Some, None}
use Rattle.log_entry.specs.Reading.{read}
use Rattle.store_image.specs.declared.types.Fault.TheVariants.{NotARegion, Damaged}
use Rattle.chunk_map.specs.Layouts.{magic, layout_of}
use Rattle.store_image.specs.Winners.{recovered}
use Rattle.store_image.specs.Soundness.{first_fault}

-- an image that has these words, the first that is named, and else zeros
abbrev image : List (ℕ × ℕ) → ℕ → ℕ
image [] w = 0
image (x ∷ xs) w = cond (w == x.0) x.1 (image xs w)

abbrev with : List (ℕ × ℕ) → ℕ → ℕ
with xs = image (xs ++ (0, magic) ∷ (1, 1) ∷ (2, 1) ∷ (3, 1) ∷ (4, 4) ∷ (5, 4096) ∷ [])

fresh : first_fault 20480 (with []) ≡ None
unfolding first_fault read
fresh = refl

short : first_fault 4088 (with []) ≡ Some (NotARegion 1)
unfolding first_fault read
short = refl

format_3 : first_fault 20480 (with ((1, 3) ∷ [])) ≡ Some (NotARegion 2)
unfolding first_fault read
format_3 = refl

no_layout : first_fault 20480 (with ((2, 3) ∷ (3, 2) ∷ [])) ≡ Some (NotARegion 3)
unfolding first_fault read
no_layout = refl

five_chunks : first_fault 24576 (with []) ≡ Some (NotARegion 3)
unfolding first_fault read
five_chunks = refl

class_0 : first_fault 20480 (with ((1536, 2) ∷ [])) ≡ Some (Damaged 0 2 4)
unfolding first_fault read
class_0 = refl

class_3 : first_fault 20480 (with ((1536, 770) ∷ [])) ≡ Some (Damaged 0 2 4)
unfolding first_fault read
class_3 = refl

tail_12 : first_fault 20480 (with ((1024, 1) ∷ (1025, 12) ∷ [])) ≡ Some (Damaged 0 1 5)
unfolding first_fault read
tail_12 = refl

tail_488 : first_fault 20480 (with ((1024, 1) ∷ (1025, 488) ∷ [])) ≡ Some (Damaged 0 1 5)
unfolding first_fault read
tail_488 = refl

zeros : first_fault 20480 (with ((1024, 1) ∷ (1025, 8) ∷ [])) ≡ Some (Damaged 0 1 6)
unfolding first_fault read
zeros = refl

too_long : first_fault 20480 (with ((1024, 1) ∷ (1025, 8) ∷ (1056, 0xff000015) ∷ [])) ≡ Some (Damaged 0 1 6)
unfolding first_fault read
too_long = refl

-- two cores of groups of one: key 1 isn't core 0's
other_group : first_fault 36864 (with ((2, 2) ∷ (512, 1) ∷ (513, 8) ∷ (544, 0x1000015) ∷ (545, 1) ∷ (546, 97) ∷ [])) ≡ Some (Damaged 0 0 7)
unfolding first_fault read
other_group = refl

-- one entry in two parts
two_parts : first_fault 36864 (with ((2, 2) ∷ (3, 2) ∷ (512, 1) ∷ (513, 8) ∷ (544, 0x1000015) ∷ (545, 1) ∷ (546, 97) ∷ (2560, 1) ∷ (2561, 8) ∷ (2592, 0x1000015) ∷ (2593, 1) ∷ (2594, 97) ∷ [])) ≡ Some (Damaged 1 0 8)
unfolding first_fault read
two_parts = refl

pointer_0 : first_fault 20480 (with ((512, 1) ∷ (513, 8) ∷ (544, 0x11) ∷ (545, 1) ∷ [])) ≡ Some (Damaged 0 0 9)
unfolding first_fault read
pointer_0 = refl

length_505 : first_fault 20480 (with ((512, 1) ∷ (513, 8) ∷ (544, 0x21000011) ∷ (545, 1) ∷ (1024, 258) ∷ (1056, 505) ∷ [])) ≡ Some (Damaged 0 0 10)
unfolding first_fault read
length_505 = refl

-- an entry that isn't a winner may point anywhere
loser : first_fault 20480 (with ((512, 1) ∷ (513, 8) ∷ (544, 0xffffffffff000011) ∷ (545, 1) ∷ (546, 0x1000025) ∷ (547, 1) ∷ (548, 97) ∷ [])) ≡ None
unfolding first_fault read
loser = refl

tombstone_1 : first_fault 20480 (with ((512, 1) ∷ (513, 8) ∷ (544, 0x12) ∷ (545, 1) ∷ [])) ≡ Some (Damaged 0 0 6)
unfolding first_fault read
tombstone_1 = refl

-- key 1 version 1 as a and as b
two_bodies : first_fault 20480 (with ((512, 1) ∷ (513, 8) ∷ (544, 0x1000015) ∷ (545, 1) ∷ (546, 97) ∷ (1024, 1) ∷ (1025, 8) ∷ (1056, 0x1000015) ∷ (1057, 1) ∷ (1058, 98) ∷ [])) ≡ Some (Damaged 0 1 8)
unfolding first_fault read
two_bodies = refl

-- two equal entries in one part
copied : first_fault 20480 (with ((512, 1) ∷ (513, 8) ∷ (544, 0x1000015) ∷ (545, 1) ∷ (546, 97) ∷ (1024, 1) ∷ (1025, 8) ∷ (1056, 0x1000015) ∷ (1057, 1) ∷ (1058, 97) ∷ [])) ≡ None
unfolding first_fault read
copied = refl

-- keys 1 and 2 with one block
one_block : first_fault 20480 (with ((512, 258) ∷ (544, 256) ∷ (1024, 1) ∷ (1025, 8) ∷ (1056, 0x11000011) ∷ (1057, 1) ∷ (1058, 0x11000011) ∷ (1059, 2) ∷ [])) ≡ Some (Damaged 0 1 11)
unfolding first_fault read
one_block = refl

recovers : recovered (layout_of (with [])) (with ((512, 1) ∷ (513, 8) ∷ (544, 0x1000015) ∷ (545, 1) ∷ (546, 97) ∷ (547, 0x22) ∷ (548, 1) ∷ [])) 1 ≡ None
unfolding read
recovers = refl

recovers_a : recovered (layout_of (with [])) (with ((512, 1) ∷ (513, 8) ∷ (544, 0x1000015) ∷ (545, 1) ∷ (546, 97) ∷ [])) 1 ≡ Some (97 ∷ [])
unfolding read
recovers_a = refl
