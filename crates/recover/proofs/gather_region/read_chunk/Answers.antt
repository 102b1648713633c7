use Rattle.std.proofs.Common.{◌+◌, ◌%◌, length, sym, ◌∙◌, ap, subst, arith, Ok}
use Rattle.pm_region.specs.Words.{lasts}
use Rattle.chunk_map.specs.Layouts.{head_at, payload_words}
use Rattle.store_image.specs.Scanned.{IsScan}
use Rattle.chunk_map.specs.Setting.{HeadLies}
use Rattle.chunk_map.specs.declared.layouts.Geometry.{Geometry}
use Rattle.chunk_map.specs.declared.heads.Head.TheVariants.{Log}
use Rattle.chunk_map.specs.Checked.{FitsHead}
use Rattle.log_entry.specs.Batches.{scan_of}
use Rattle.store_image.specs.Soundness.{rule_of}
use Rattle.store_image.proofs.Clients.{log_read}
use Rattle.log_entry.proofs.Clients.{words_loaded}
use Rattle.recover.proofs.RegionLaws.{chunk_lies, payload_lies, head_read}
use Rattle.recover.proofs.SpellLaws.{log_spelled, whole_of, lie_lower}
use Rattle.recover.proofs.gather_region.read_chunk.Goals as goal

pub read_head-requires : goal.read_head-requires
read_head-requires g c =
    let f = (g.R.Region.state c.args.region.now).frame in
    subst (HeadLies f) (sym c.chunk_first-at.ensures) (chunk_lies f c.args.layout.now c.requires.covers c.args.part c.args.chunk c.requires.part c.requires.chunk)

pub overflow_add-at : goal.overflow_add-at
overflow_add-at g c =
    let f = (g.R.Region.state c.args.region.now).frame in
    let lies = payload_lies f c.args.layout.now c.requires.covers c.args.part c.args.chunk c.in-Ok-Log.tail c.requires.part c.requires.chunk (subst (FitsHead c.args.layout.now) c.in-Ok-Log.field-0-is c.in-Ok-Log.ensures.fits).1 in
    let small = lies.1 in
    omega (arith, small, c.chunk_first-at.ensures)

pub fill_words-requires : goal.fill_words-requires
fill_words-requires g c =
    let f = (g.R.Region.state c.args.region.now).frame in
    let lies = payload_lies f c.args.layout.now c.requires.covers c.args.part c.args.chunk c.in-Ok-Log.tail c.requires.part c.requires.chunk (subst (FitsHead c.args.layout.now) c.in-Ok-Log.field-0-is c.in-Ok-Log.ensures.fits).1 in
    let end = lies.0 in
    let small = lies.1 in
    let first = c.requires.covers.first in
    record { low = omega (arith, first); high = omega (arith, end, c.chunk_first-at.ensures); fits = omega (arith, small, c.chunk_first-at.ensures) }

pub returns-in_ok-scan_log-in-Ok-Log-clause-told : goal.returns-in_ok-scan_log-in-Ok-Log-clause-told
returns-in_ok-scan_log-in-Ok-Log-clause-told g c = λ telling.
    let s = g.R.Region.state c.args.region.now in
    let l = c.args.layout.now in
    let ws = c.deref.result.now in
    let scan = c.in_ok-scan_log-in-Ok-Log.ensures.scan in
    let head = head_read (head_at l (lasts s) c.chunk_first-at.result) (Log c.in-Ok-Log.tail) (sym (c.in-Ok-Log.is ∙ ap Ok c.in-Ok-Log.field-0-is) ∙ c.read_head.ensures.told telling) in
    let words = c.deref.ensures.value ∙ words_loaded (lasts s) (c.chunk_first-at.result + 32) c.in-Ok-Log.tail c.fill_words.new.words.items c.in_ok-fill_words-in-Ok-Log.ensures.long (c.in_ok-fill_words-in-Ok-Log.ensures.words telling) in
    let read = log_read l (lasts s) c.args.part c.args.chunk c.chunk_first-at.result c.in-Ok-Log.tail ws c.chunk_first-at.ensures head words in
    let rule = c.log_rule.ensures (scan_of ws) scan ∙ ap (λ (l : Geometry). rule_of l c.args.part (scan_of ws)) c.geometry.ensures.value in
    (rule ∙ read.0, subst (IsScan c.scan_log.new.scanned) read.1 scan)

pub returns-in_ok-scan_log-in-Ok-Log-clause-places : goal.returns-in_ok-scan_log-in-Ok-Log-clause-places
returns-in_ok-scan_log-in-Ok-Log-clause-places g c =
    let tail = (subst (FitsHead c.args.layout.now) c.in-Ok-Log.field-0-is c.in-Ok-Log.ensures.fits).1 in
    let long = ap length c.deref.ensures.value ∙ c.in_ok-fill_words-in-Ok-Log.ensures.long in
    lie_lower (length c.deref.result.now) (payload_words c.args.layout.now) c.scan_log.new.scanned.entries.items (omega (arith, tail, long)) c.in_ok-scan_log-in-Ok-Log.ensures.places

pub returns-in_ok-scan_log-in-Ok-Log-clause-batches : goal.returns-in_ok-scan_log-in-Ok-Log-clause-batches
returns-in_ok-scan_log-in-Ok-Log-clause-batches g c = λ telling none tail head.
    let s = g.R.Region.state c.args.region.now in
    let l = c.args.layout.now in
    let ws = c.deref.result.now in
    let scan = c.in_ok-scan_log-in-Ok-Log.ensures.scan in
    let here = head_read (head_at l (lasts s) c.chunk_first-at.result) (Log c.in-Ok-Log.tail) (sym (c.in-Ok-Log.is ∙ ap Ok c.in-Ok-Log.field-0-is) ∙ c.read_head.ensures.told telling) in
    let fits = subst (FitsHead l) c.in-Ok-Log.field-0-is c.in-Ok-Log.ensures.fits in
    let words = c.deref.ensures.value ∙ words_loaded (lasts s) (c.chunk_first-at.result + 32) c.in-Ok-Log.tail c.fill_words.new.words.items c.in_ok-fill_words-in-Ok-Log.ensures.long (c.in_ok-fill_words-in-Ok-Log.ensures.words telling) in
    let rule = c.log_rule.ensures (scan_of ws) scan ∙ ap (λ (l : Geometry). rule_of l c.args.part (scan_of ws)) c.geometry.ensures.value in
    log_spelled l (lasts s) c.args.part c.args.chunk c.chunk_first-at.result c.in-Ok-Log.tail tail ws c.chunk_first-at.ensures here head words
    (c.in_ok-scan_log-in-Ok-Log.ensures.batches (scan.1 ∙ whole_of l c.args.part (scan_of ws) c.log_rule.result rule none)
    (ap (λ n. n % 8) (ap length c.deref.ensures.value ∙ c.in_ok-fill_words-in-Ok-Log.ensures.long) ∙ fits.0))
