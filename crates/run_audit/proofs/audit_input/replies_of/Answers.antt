use Rattle.std.proofs.Common.{◌≡◌, ◌+◌, ◌<◌, ◌≤◌, length, arith, sym, ap, ◌∙◌, subst, Err, List, ℕ, Bool}
use Rattle.std.specs.List.{sum_by}
use Rattle.fs_text.specs.Input.{lines_of, size_with}
use Rattle.fs_text.specs.Reading.{Answers}
use Rattle.run_audit.specs.Parting.{items_of}
use Rattle.run_audit.specs.Replies.{replies_behind, replies_from}
use Rattle.run_audit.proofs.InputRead.{behind_over, behind_on}
use Rattle.run_audit.proofs.Lines.{lines_few, sizes_of_lines}
use Rattle.run_audit.proofs.audit_input.replies_of.Goals as goal

pub overflow_add-line : goal.overflow_add-line
overflow_add-line c = let few = lines_few c.args.parts.now.trace.now in omega arith

pub returns-then-bytes-gt-MOST_INPUT_BYTES-clause-exact : goal.returns-then-bytes-gt-MOST_INPUT_BYTES-clause-exact
returns-then-bytes-gt-MOST_INPUT_BYTES-clause-exact c =
    let trace = c.args.parts.now.trace.now in
    let first = c.first_line-first.result in
    let sizes = sizes_of_lines trace in
    let big : 67108864 < sum_by size_with (lines_of trace) + size_with (first.text.now, first.ended) = omega arith in
    ap (replies_behind (lines_of trace)) c.first_line-first.ensures.parted.lines ∙ behind_over (lines_of trace) (lines_of first.rest.now) (first.text.now, first.ended) big
    ∙ ap (λ n. Err (n + 1, 1)) (sym c.requires.lines)

pub overflow_add-line-2 : goal.overflow_add-line-2
overflow_add-line-2 c = let few = lines_few c.args.parts.now.trace.now in omega arith

pub read_replies-requires-clause-few : goal.read_replies-requires-clause-few
read_replies-requires-clause-few c = let few = lines_few c.args.parts.now.trace.now in omega arith

pub returns-clause-exact : goal.returns-clause-exact
returns-clause-exact c =
    let trace = c.args.parts.now.trace.now in
    let first = c.first_line-first.result in
    let front = lines_of trace in
    let x : List ℕ × Bool = (first.text.now, first.ended) in
    let rest = lines_of first.rest.now in
    let sizes = sizes_of_lines trace in
    let fits : sum_by size_with front + size_with x ≤ 67108864 = omega arith in
    let number : length front + 2 ≡ c.args.parts.now.lines + 1 + 1 = omega arith in
    let bytes : sum_by size_with front + size_with x ≡ length trace + c.size.result = omega arith in
    subst (λ s. Answers (items_of c.read_replies.result) s)
    (sym (ap (replies_behind front) c.first_line-first.ensures.parted.lines ∙ behind_on front rest x fits
    ∙ ap (λ n. replies_from n (sum_by size_with front + size_with x) 0 rest) number ∙ ap (λ b. replies_from (c.args.parts.now.lines + 1 + 1) b 0 rest) bytes))
    c.read_replies.ensures.exact
