use Rattle.std.proofs.Common.{◌≡◌, ℕ, ◌∙◌, ◌++◌, sym, ap, subst, Ok, Option}
use Rattle.std.specs.Prelude.{IfOk, slice_index}
use Rattle.log_entry.specs.Batches.{Scan}
use Rattle.store_image.specs.Parts.{placed_in_chunk}
use Rattle.store_image.proofs.Clients.{log_read}
use Rattle.image_yardstick.proofs.chunks.read_chunk.Goals as goal

pub returns-in-Ok-Log : goal.returns-in-Ok-Log
returns-in-Ok-Log c =
    let part = c.args.part in
    let chunk = c.args.chunk in
    let read = log_read c.args.layout.now (λ w. slice_index c.args.words.now w) part chunk c.chunk_first-at.result c.in-Ok-Log.tail c.log_words-payload.result.now
    c.chunk_first-at.ensures.value (sym c.head_at.ensures ∙ c.in-Ok-Log.is ∙ ap Ok c.in-Ok-Log.field-0-is) c.log_words-payload.ensures in
    record {
      rule = subst (λ (o : Option ℕ). IfOk c.read_log.result (λ rule. rule ≡ o)) read.0 c.read_log.ensures.rule;
      entries = subst (λ (s : Scan). IfOk c.read_log.result (λ _. c.read_log.new.entries.items ≡ c.args.entries.now.items ++ placed_in_chunk part chunk s.entries)) read.1 c.read_log.ensures.entries;
    }
