use Rattle.std.proofs.Common.{◌≡◌, inl, inr, ⊎_elim, ℕ, ◌+◌, ◌-◌, get_or, ◌∙◌, ap, arith}
use Rattle.std.proofs.lemmas.Bool.{cases_lt}
use Rattle.region_file.proofs.Paging.{count_is}
use Rattle.region_file.proofs.file_bytes.FileBytes.take_part.Goals as goal

pub overflow_add-low : goal.overflow_add-low
overflow_add-low c = let n = count_is _ c.self.inside.own c.self.inside.base c.self.inside.len c.self.view_is in omega (arith, n, c.requires, c.self.invariant.most, c.loop-done.invariant.most)

pub take_some-done-requires-clause-some : goal.take_some-done-requires-clause-some
take_some-done-requires-clause-some c = let n = count_is _ c.part.inside.own c.part.inside.base c.part.inside.len c.part.view_is in omega (arith, n, c.loop-done-test.true)

pub overflow_add-done : goal.overflow_add-done
overflow_add-done c =
    let n = count_is _ c.part.inside.own c.part.inside.base c.part.inside.len c.part.view_is in
    omega (arith, n, c.part.invariant.most, c.take_some-done.ensures.within)

pub loop-done-preserved : goal.loop-done-preserved
loop-done-preserved c =
    let done = c.loop-done.done in
    let low = c.args.low in
    let inv = c.loop-done.invariant in
    let new = c.take_some-done.new.self.items in
    record {
      most = c.take_some-done.ensures.within;
      count = c.take_some-done.ensures.count ∙ inv.count;
      inner = λ j lt. ⊎_elim (λ lt'. c.take_some-done.ensures.outer (low + j) (inl (omega (arith, lt'))) ∙ inv.inner j lt')
          (λ le.
          let i = j - done in
          let at : low + j ≡ low + done + i = omega (arith, le) in
          let back : done + i ≡ j = omega (arith, le) in
          ap (λ (k : ℕ). get_or new k 0) at ∙ c.take_some-done.ensures.inner i (omega (arith, lt, le)) ∙ ap (λ (k : ℕ). get_or c.args.part.now.items k 0) back) (cases_lt j done);
      outer = λ k out. c.take_some-done.ensures.outer k (⊎_elim (λ lt. inl (omega (arith, lt))) (λ le. inr (omega (arith, le))) out) ∙ inv.outer k (⊎_elim (λ lt. inl lt) (λ le. inr (omega (arith, le))) out);
    }

pub returns-clause-inner : goal.returns-clause-inner
returns-clause-inner c = λ j lt.
    let n = count_is _ c.part.inside.own c.part.inside.base c.part.inside.len c.part.view_is in
    c.loop-done.invariant.inner j (omega (arith, lt, n, c.loop-done-test.false))
