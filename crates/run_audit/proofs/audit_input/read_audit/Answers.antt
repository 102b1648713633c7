use Rattle.std.proofs.Common.{subst}
use Rattle.fs_text.specs.Reading.{Answers}
use Rattle.run_audit.specs.Parting.{listed}
use Rattle.run_audit.specs.Replies.{audit_input_of}
use Rattle.run_audit.proofs.InputRead.{told_audit, ended_audit, told_written, on_listed}
use Rattle.run_audit.proofs.audit_input.read_audit.Goals as goal

pub returns-clause-exact : goal.returns-clause-exact
returns-clause-exact g c =
    told_audit (g.S.Source.coming c.args.source.now) (g.S.Source.coming c.read_all.new.source) c.in_ok-bytes.bytes.items c.args.cores (listed c.parse_audit.result)
    c.in_ok-bytes.ensures.gives c.in_ok-bytes.ensures.end c.in_ok-bytes.ensures.most
    (subst (λ xs. Answers (listed c.parse_audit.result) (audit_input_of c.args.cores xs)) c.deref.ensures.value c.parse_audit.ensures.exact)

pub returns-clause-inverse : goal.returns-clause-inverse
returns-clause-inverse g c =
    told_written (g.S.Source.coming c.args.source.now) c.args.cores (listed c.parse_audit.result)
    (told_audit (g.S.Source.coming c.args.source.now) (g.S.Source.coming c.read_all.new.source) c.in_ok-bytes.bytes.items c.args.cores (listed c.parse_audit.result)
    c.in_ok-bytes.ensures.gives c.in_ok-bytes.ensures.end c.in_ok-bytes.ensures.most
    (subst (λ xs. Answers (listed c.parse_audit.result) (audit_input_of c.args.cores xs)) c.deref.ensures.value c.parse_audit.ensures.exact))

pub returns-clause-end : goal.returns-clause-end
returns-clause-end g c = on_listed _ c.parse_audit.result
    (ended_audit (g.S.Source.coming c.read_all.new.source) c.in_ok-bytes.bytes.items c.args.cores (listed c.parse_audit.result)
    c.in_ok-bytes.ensures.end c.in_ok-bytes.ensures.most
    (subst (λ xs. Answers (listed c.parse_audit.result) (audit_input_of c.args.cores xs)) c.deref.ensures.value c.parse_audit.ensures.exact))
