-- Texts of replies, whole and in part.
use Rattle.std.proofs.Common.{◌≡◌, ℕ, ◌≤◌, List, [], refl, sym, ◌∙◌, subst, arith, true, false, Bool, Option, Some, None, append-nil}
use Rattle.fs_model.specs.declared.model.Reply.{Reply}
use Rattle.fs_text.specs.Streams.{Takes, TakesPrefix}
use Rattle.fs_text.specs.Output.{replies_text}
use Rattle.chunk_map.specs.Layouts.{layout_of}
use Rattle.store_image.specs.Soundness.{IsSound}
use Rattle.store_image.proofs.Clients.{superblock_facts, layout_numbers, has_layout}
use Rattle.flatstore_commands.specs.Ends.{SinkUse}
use Rattle.flatstore_commands.specs.Promise.{TakesFront}

pub both : (b : Bool) {P : Type 0} → b ≡ true → b ≡ false → P
both b t f = cc (sym t ∙ f)

takes_nothing : (x : Option (List ℕ)) → Takes x x []
takes_nothing None = tt
takes_nothing (Some b) = sym (append-nil b)

pub takes_front : (before now : Option (List ℕ)) (text : List ℕ) → Takes before now text → TakesPrefix before now text
takes_front before now text takes = ([], (text, sym (append-nil text), takes))

pub no_front : (before now : Option (List ℕ)) (text : List ℕ) → now ≡ before → TakesPrefix before now text
no_front before now text same = (text, ([], refl, subst (λ x. Takes before x []) (sym same) (takes_nothing before)))

-- nothing is the beginning of the text of any replies
pub silent_front : (sink : SinkUse) → sink.now ≡ sink.before → (replies : List Reply) → TakesFront sink replies
silent_front sink same replies = no_front sink.before sink.now (replies_text replies) same

-- a sound region has few bytes
pub small_sound : (bytes : ℕ) (image : ℕ → ℕ) → IsSound bytes image → bytes ≤ 268439552
small_sound bytes image sound =
    let f = superblock_facts bytes image (has_layout bytes image sound) in
    let n = layout_numbers (layout_of image) f.1 in
    let total = n.total in
    let is = f.2 in
    omega (arith, total, is)
