-- The words of a snapshot are those that the region reads.
use Rattle.std.proofs.Common.{ℕ, List, Err, inl, inr, sym, ap, subst}
use Rattle.fs_text.specs.Streams.{Takes, TakesPrefix}
use Rattle.query_text.specs.declared.query.Query.{Query}
use Rattle.store_image.specs.Listing.{ListsCells}
use Rattle.recover.specs.Recovering.{cells_found}
use Rattle.flatstore_commands.specs.Asking.{ListsLive}
use Rattle.flatstore_commands.specs.Scans.{answers_text}
use Rattle.flatstore_commands.proofs.Scanned.{starts_seen}
use Rattle.flatstore_commands.proofs.scan_ranges.write_answers.Goals as goal
use Rattle.flatstore_commands.proofs.scan_ranges.write_answers.Goals.{in-Ok, in-Err-SinkFault, in-Err-Memory}

pub answer_all-requires-clause-starts : goal.answer_all-requires-clause-starts
answer_all-requires-clause-starts g c =
    starts_seen (g.R.Region.state c.args.region.now) _ (g.R.ReadRegion.word c.args.region.now) c.args.scan.now.recovered c.requires.stands c.of-view.ensures c.as_slice-starts.result.now c.as_slice-starts.ensures.value

pub returns-clause-written : goal.returns-clause-written
returns-clause-written g c = λ pairs lists.
    let a = g.O.Sink.taken c.args.sink.now in
    let b = g.O.Sink.taken c.answer_all.new.sink in
    let here : ListsLive (g.R.ReadRegion.word c.of-view.result.region.now) c.args.scan.now.directory pairs =
    (subst (λ (image : ℕ → ℕ). ListsCells (cells_found image) pairs) (λ i w. sym (c.of-view.ensures.lasts_are w) i) lists.0, lists.1) in
    elim c.match-answer_all.branch [
      | in-Ok w ↦ inl (w.status-is, subst (λ (qs : List Query). Takes a b (answers_text pairs qs)) c.queries-queries.ensures (w.in-Ok.ensures.ok pairs here), w.in-Ok.ensures.flushed)
      | in-Err-SinkFault w ↦ inr (inl (w.status-is, w.in-Err-SinkFault.ensures.cause (ap Err w.in-Err-SinkFault.field-0-is), subst (λ (qs : List Query). TakesPrefix a b (answers_text pairs qs)) c.queries-queries.ensures (w.in-Err-SinkFault.ensures.err pairs here)))
      | in-Err-Memory w ↦ inr (inr (w.status-is, subst (λ (qs : List Query). TakesPrefix a b (answers_text pairs qs)) c.queries-queries.ensures (w.in-Err-Memory.ensures.err pairs here)))
    ]
