use Rattle.std.proofs.Common.{◌+◌, ◌*◌, ◌∙◌, sym, ap}
use Rattle.image_yardstick.proofs.BlockReads.{block_read}
use Rattle.image_yardstick.proofs.image_blocks.value_in.Goals as goal

pub returns : goal.returns
returns c =
    block_read c.args.words.now c.args.pointer c.args.class (32 * c.args.pointer + 1 + c.words_for-count.result) c.in_ok-bytes.bytes.items c.of.result (sym c.has_class.ensures ∙ c.if-not-has_class.false) c.requires.within
    (ap (λ n. 32 * c.args.pointer + 1 + n) c.words_for-count.ensures) c.in_ok-bytes.ensures (c.of.ensures ∙ c.truncate.ensures.items)
