use Rattle.std.proofs.Common.{arith, sym, ap, ◌∙◌, subst, Err}
use Rattle.std.proofs.lemmas.Result.{err_from_is_err_and}
use Rattle.fs_text.specs.Reading.{Answers}
use Rattle.fs_text.specs.Input.{lines_of}
use Rattle.query_text.specs.Queries.{queries_from, queries_of}
use Rattle.query_text.proofs.LineLaws.{with_queries, with_none, goes_on_behind, stopped}
use Rattle.query_text.proofs.queries.parse_queries.Goals as goal

pub loop-rest-init : goal.loop-rest-init
unfolding queries_of
loop-rest-init c = record {
  few = omega arith;
  within = omega arith;
  said = rw c.new-queries.ensures.items (with_none (queries_from 1 0 (lines_of c.args.bytes.now)));
}

pub loop-rest-preserved : goal.loop-rest-preserved
loop-rest-preserved c =
    let front = c.loop-rest.queries.items in
    let first = c.first_line-first.result in
    let step = goes_on_behind front c.loop-rest.number c.loop-rest.before (first.text.now, first.ended) (lines_of first.rest.now)
    (c.in_ok-query.query, c.in_ok-query.next) c.in_ok-query.ensures.exact in
    record {
      few = omega arith;
      within = c.in_ok-query.ensures.within;
      said = rw c.in_ok-push.ensures.items (sym step
          ∙ ap (λ xs. with_queries front (queries_from c.loop-rest.number c.loop-rest.before xs)) (sym c.first_line-first.ensures.lines)
          ∙ c.loop-rest.invariant.said);
    }

pub returns-in_err-query-clause-exact : goal.returns-in_err-query-clause-exact
returns-in_err-query-clause-exact c =
    let front = c.loop-rest.queries.items in
    let first = c.first_line-first.result in
    let said = stopped front c.loop-rest.number c.loop-rest.before (first.text.now, first.ended) (lines_of first.rest.now) c.in_err-query.field-0.0 (queries_of c.args.bytes.now) c.in_err-query.ensures.exact
    (ap (λ xs. with_queries front (queries_from c.loop-rest.number c.loop-rest.before xs)) (sym c.first_line-first.ensures.lines) ∙ c.loop-rest.invariant.said) in
    let d = err_from_is_err_and c.from_residual.result c.from_residual.ensures.1 in
    subst (λ r. Answers r (queries_of c.args.bytes.now)) (sym (d.1 ∙ ap Err d.2)) said
