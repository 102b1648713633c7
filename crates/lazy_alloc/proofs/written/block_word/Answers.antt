use Rattle.std.proofs.Common.{sym, ◌∙◌, arith}
use Rattle.lazy_alloc.proofs.ValueLaws.{word_behind}
use Rattle.lazy_alloc.proofs.written.block_word.Goals as goal

pub returns-else-at-eq0 : goal.returns-else-at-eq0
returns-else-at-eq0 c = let ne = c.if-at-eq0.false in c.word_at.ensures ∙ sym (word_behind c.args.value.now c.args.at (omega arith) c.requires)
