use Rattle.std.proofs.Common.{◌≡◌, ⊎_elim, ℕ, ◌+◌, ◌*◌, ◌≤◌, length, get_or, ◌∙◌, ap, arith}
use Rattle.pm_region.proofs.Clients.{word_same}
use Rattle.region_file.proofs.Paging.{count_is}
use Rattle.region_file.proofs.file_bytes.FileBytes.word_under.Goals as goal

pub overflow_mul-place : goal.overflow_mul-place
overflow_mul-place c = let n = count_is _ c.self.inside.own c.self.inside.base c.self.inside.len c.self.view_is in omega (arith, n, c.requires, c.self.invariant.most)

pub returns : goal.returns
returns c =
    let n = count_is _ c.self.inside.own c.self.inside.base c.self.inside.len c.self.view_is in
    let end = c.rest.ensures.end in
    let long : 8 ≤ length c.rest.result.now = ⊎_elim (λ e. omega (arith, e, c.rest.ensures.some)) (λ e. omega (arith, e, c.requires)) end in
    c.word.ensures ∙ word_same c.rest.result.now c.args.self.now.items 0 c.args.place (λ j lt.
    let at : 8 * 0 + j ≡ j = omega arith in
    ap (λ (k : ℕ). get_or c.rest.result.now k 0) at ∙ c.rest.ensures.bytes j (omega (arith, lt, long)))
