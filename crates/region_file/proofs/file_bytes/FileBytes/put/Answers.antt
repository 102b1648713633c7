use Rattle.std.proofs.Common.{◌≡◌, inl, inr, ⊎_elim, ℕ, ◌+◌, ◌-◌, length, get_or, take, drop, ◌∙◌, ap, arith}
use Rattle.std.proofs.lemmas.Bool.{cases_lt}
use Rattle.std.proofs.lemmas.List.{get_or-take, get_or-drop, length-drop, length-take-le}
use Rattle.region_file.proofs.Paging.{count_is}
use Rattle.region_file.proofs.file_bytes.FileBytes.put.Goals as goal

pub overflow_add-low : goal.overflow_add-low
overflow_add-low c = let n = count_is _ c.self.inside.own c.self.inside.base c.self.inside.len c.self.view_is in omega (arith, n, c.requires, c.self.invariant.most, c.loop-done.invariant.most)

pub loop-done-preserved : goal.loop-done-preserved
loop-done-preserved c =
    let done = c.loop-done.done in
    let low = c.args.low in
    let bytes = c.args.bytes.now in
    let inv = c.loop-done.invariant in
    let new = c.put_some-done.new.self.items in
    let size : length (take (length bytes - done) (drop done bytes)) ≡ length bytes - done = length-take-le (length bytes - done) (drop done bytes) (omega (arith, length-drop done bytes)) in
    record {
      most = omega (arith, size, c.put_some-done.ensures.within, inv.most);
      count = c.put_some-done.ensures.count ∙ inv.count;
      inner = λ j lt. ⊎_elim (λ lt'. c.put_some-done.ensures.outer (low + j) (inl (omega (arith, lt'))) ∙ inv.inner j lt')
          (λ le.
          let i = j - done in
          let at : low + j ≡ low + done + i = omega (arith, le) in
          let back : done + i ≡ j = omega (arith, le) in
          ap (λ (k : ℕ). get_or new k 0) at ∙ c.put_some-done.ensures.inner i (omega (arith, lt, le)) ∙ get_or-take (length bytes - done) (drop done bytes) i 0 (omega (arith, lt, le)) ∙ get_or-drop done bytes i 0 ∙ ap (λ (k : ℕ). get_or bytes k 0) back) (cases_lt j done);
      outer = λ k out. c.put_some-done.ensures.outer k (⊎_elim (λ lt. inl (omega (arith, lt))) (λ le. inr (omega (arith, le))) out) ∙ inv.outer k (⊎_elim (λ lt. inl lt) (λ le. inr (omega (arith, le))) out);
    }
