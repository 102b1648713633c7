use Rattle.std.proofs.Common.{subst}
use Rattle.fs_text.specs.Reading.{Answers}
use Rattle.fs_text.proofs.Clients.{read_out}
use Rattle.query_text.specs.Queries.{queries_of}
use Rattle.query_text.proofs.LimitLaws.{told_queries}
use Rattle.query_text.proofs.queries.read_queries.Goals as goal

pub returns-clause-exact : goal.returns-clause-exact
returns-clause-exact g c =
    told_queries (g.S.Source.coming c.args.source.now) (g.S.Source.coming c.read_all.new.source) c.in_ok-bytes.bytes.items c.parse_queries.result
    c.in_ok-bytes.ensures.gives c.in_ok-bytes.ensures.end
    (subst (λ xs. Answers c.parse_queries.result (queries_of xs)) c.deref.ensures.value c.parse_queries.ensures.exact)

pub returns-clause-whole : goal.returns-clause-whole
returns-clause-whole g c = λ said. read_out (g.S.Source.coming c.args.source.now) (g.S.Source.coming c.read_all.new.source) c.in_ok-bytes.bytes.items c.in_ok-bytes.ensures.gives c.in_ok-bytes.ensures.end
