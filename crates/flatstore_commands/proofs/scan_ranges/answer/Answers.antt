-- Where an answer is cut off, what went out is the beginning of it.
use Rattle.std.proofs.Common.{ℕ, List, sym, subst}
use Rattle.std.specs.Prelude.{OnErr}
use Rattle.fs_model.specs.declared.model.Pair.{Pair}
use Rattle.fs_text.specs.Streams.{TakesPrefix}
use Rattle.fs_text.proofs.Clients.{prefix_none, takes_none}
use Rattle.range_scan.specs.Ranges.{Shown}
use Rattle.query_text.specs.Answers.{page_text, count_text}
use Rattle.query_text.specs.declared.query.Query.{Query}
use Rattle.flatstore_commands.specs.Scans.{answer_text, shown_text}
use Rattle.flatstore_commands.proofs.scan_ranges.answer.Goals as goal

pub returns-in-Count-clause-err : goal.returns-in-Count-clause-err
returns-in-Count-clause-err g c = λ pairs lists.
    let a = g.O.Sink.taken c.args.sink.now in
    let b = g.O.Sink.taken c.write_count.new.sink in
    subst (λ (q : Query). OnErr c.write_count.result (TakesPrefix a b (answer_text pairs q))) (sym c.in-Count.is)
    (subst (λ (n : ℕ). OnErr c.write_count.result (TakesPrefix a b (count_text n))) (c.count.ensures.pairs pairs lists.1) c.write_count.ensures.err)

pub returns-in-Err-clause-err : goal.returns-in-Err-clause-err
returns-in-Err-clause-err g c = λ pairs lists. (let a = g.O.Sink.taken c.args.sink.now in prefix_none a a _ (takes_none a))

pub returns-in-Ok-clause-err : goal.returns-in-Ok-clause-err
returns-in-Ok-clause-err g c = λ pairs lists.
    let a = g.O.Sink.taken c.args.sink.now in
    let b = g.O.Sink.taken c.write_page.new.sink in
    let page = c.in-Ok.page in
    subst (λ (q : Query). OnErr c.write_page.result (TakesPrefix a b (answer_text pairs q))) (sym c.in-Range.is)
    (subst (λ (x : Shown). OnErr c.write_page.result (TakesPrefix a b (shown_text x))) (c.in-Ok.ensures c.requires.telling pairs lists.0)
    (subst (λ (ps : List Pair). OnErr c.write_page.result (TakesPrefix a b (page_text ps page.more))) c.deref.ensures.value c.write_page.ensures.err))
