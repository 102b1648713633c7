use Rattle.std.proofs.Common.{◌≡◌, ⊎_elim, ℕ, ◌+◌, ◌*◌, ◌≤◌, length, get_or, take, ◌∙◌, ap, arith, rules}
use Rattle.std.proofs.lemmas.List.{get_or-take, length-take-le}
use Rattle.region_file.proofs.Storing.{same_part}
use Rattle.region_file.proofs.line_runs.run_bytes.Goals as goal

long : (c : goal.After-min-count) → 64 ≤ length c.rest-part.result.now
long c = ⊎_elim (λ e. omega (arith, e, c.rest-part.ensures.some)) (λ e. omega (arith, e, c.requires.within)) c.rest-part.ensures.end

pub returns : goal.returns
returns c =
    let from = c.args.from in
    let part = c.rest-part.result.now in
    let bytes = c.args.bytes.now.items in
    let low = 64 * get_or c.args.lines.now from 0 in
    let n = c.min-count.result in
    let after = c.run_end.ensures.after in
    let most = c.run_end.ensures.within in
    let whole = long c in
    let index : c.from.result ≡ get_or c.args.lines.now from 0 = search rules in
    let inside = c.rest-part.ensures.within in
    let size : length (take (64 * n) part) ≡ 64 * n = length-take-le (64 * n) part (omega arith) in
    record {
      run = record {
        count = n;
        some = omega (arith, whole, after);
        size = size;
        within = omega (arith, after, most);
        neighbours = λ j lt. c.run_end.ensures.neighbours j (omega (arith, lt, after));
        fits = omega (arith, inside);
        bytes_are = same_part (take (64 * n) part) bytes low (64 * n) size (omega (arith, inside)) (λ j lt. get_or-take (64 * n) part j 0 lt ∙ c.rest-part.ensures.bytes j (omega (arith, lt)) ∙ ap (λ (a : ℕ). get_or bytes (64 * a + j) 0) index);
      };
    }
