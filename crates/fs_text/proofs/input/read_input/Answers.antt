use Rattle.std.proofs.Common.{subst}
use Rattle.fs_text.specs.Input.{input_of}
use Rattle.fs_text.specs.Reading.{Answers}
use Rattle.fs_text.proofs.Within.{answer_within}
use Rattle.fs_text.proofs.ReadBytes.{told_input, ended_input, read_out}
use Rattle.fs_text.proofs.input.read_input.Goals as goal

pub returns-clause-exact : goal.returns-clause-exact
returns-clause-exact g c =
    told_input (g.S.Source.coming c.args.source.now) (g.S.Source.coming c.read_all.new.source) c.in_ok-bytes.bytes.items c.args.cores c.parse_input.result
    c.in_ok-bytes.ensures.gives c.in_ok-bytes.ensures.end
    (subst (λ xs. Answers c.parse_input.result (input_of c.args.cores xs)) c.deref.ensures.value c.parse_input.ensures.exact)

pub returns-clause-end : goal.returns-clause-end
returns-clause-end g c =
    ended_input (g.S.Source.coming c.read_all.new.source) c.in_ok-bytes.bytes.items c.args.cores c.parse_input.result c.in_ok-bytes.ensures.end
    (subst (λ xs. Answers c.parse_input.result (input_of c.args.cores xs)) c.deref.ensures.value c.parse_input.ensures.exact)

pub returns-clause-within : goal.returns-clause-within
returns-clause-within g c = answer_within c.args.cores c.deref.result.now c.parse_input.result c.parse_input.ensures.exact

pub returns-clause-whole : goal.returns-clause-whole
returns-clause-whole g c = λ said. read_out (g.S.Source.coming c.args.source.now) (g.S.Source.coming c.read_all.new.source) c.in_ok-bytes.bytes.items c.in_ok-bytes.ensures.gives c.in_ok-bytes.ensures.end
