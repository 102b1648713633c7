use Rattle.std.proofs.Common.{sym, ap, ◌∙◌, Ok}
use Rattle.fs_text.specs.Input.{lines_of, input_of}
use Rattle.fs_text.specs.Reading.{Answers}
use Rattle.run_audit.specs.Parting.{listed}
use Rattle.run_audit.specs.Replies.{replies_behind, audit_input_of}
use Rattle.run_audit.proofs.InputRead.{audit_parts, err_traced, err_replies, ok_traced, handed_on}
use Rattle.run_audit.proofs.audit_input.parse_audit.Goals as goal

pub returns-in_err-input-clause-exact : goal.returns-in_err-input-clause-exact
returns-in_err-input-clause-exact c =
    let parts = c.part_at_replies-parts.result in
    let e = c.in_err-input.field-0.0 in
    let whole = audit_parts c.args.cores c.args.bytes.now parts c.requires c.part_at_replies-parts.ensures in
    handed_on (λ r. Answers (listed r) (audit_input_of c.args.cores c.args.bytes.now)) c.from_residual.result e c.from_residual.ensures.1
    (rw whole (err_traced e (input_of c.args.cores parts.trace.now) (replies_behind (lines_of parts.trace.now) (lines_of parts.rest.now)) c.in_err-input.ensures.exact))

pub returns-in_err-replies-clause-exact : goal.returns-in_err-replies-clause-exact
returns-in_err-replies-clause-exact c =
    let parts = c.part_at_replies-parts.result in
    let e = c.in_err-replies.field-0.0 in
    let whole = audit_parts c.args.cores c.args.bytes.now parts c.requires c.part_at_replies-parts.ensures in
    handed_on (λ r. Answers (listed r) (audit_input_of c.args.cores c.args.bytes.now)) c.from_residual-in_err-replies.result e c.from_residual-in_err-replies.ensures.1
    (rw whole (err_replies e c.in_ok-input.input (input_of c.args.cores parts.trace.now) (replies_behind (lines_of parts.trace.now) (lines_of parts.rest.now)) c.in_ok-input.ensures.exact c.in_err-replies.ensures.exact))

pub returns-in-Ok-clause-exact : goal.returns-in-Ok-clause-exact
returns-in-Ok-clause-exact c =
    let parts = c.part_at_replies-parts.result in
    let whole = audit_parts c.args.cores c.args.bytes.now parts c.requires c.part_at_replies-parts.ensures in
    whole ∙ ok_traced c.in_ok-input.input c.in_ok-replies.replies.items (input_of c.args.cores parts.trace.now) (replies_behind (lines_of parts.trace.now) (lines_of parts.rest.now)) c.in_ok-input.ensures.exact c.in_ok-replies.ensures.exact
    ∙ ap (λ qs. Ok (qs, c.in_ok-replies.replies.items)) (sym c.in-Ok.ensures)
