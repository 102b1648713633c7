use Rattle.std.proofs.Common.{◌≡◌, inl, ⊎_elim, ℕ, ◌+◌, ◌-◌, ◌≤◌, length, get_or, take, sym, ◌∙◌, ap, arith}
use Rattle.std.proofs.lemmas.Bool.{cases_lt}
use Rattle.std.proofs.lemmas.List.{get_or-take, length-take-le}
use Rattle.region_file.specs.Pages.{byte_under}
use Rattle.region_file.proofs.own_pages.copy_under.Goals as goal

pub loop-done-preserved : goal.loop-done-preserved
loop-done-preserved c =
    let done = c.loop-done.done in
    let n = c.min-count.result in
    let part = c.under-part.result.now in
    let inv = c.loop-done.invariant in
    let few : n ≤ length part = omega arith in
    let size : length (take n part) ≡ n = length-take-le n part few in
    record {
      most = omega (arith, c.put_over.ensures.count);
      count = c.put_over.ensures.count ∙ inv.count;
      bytes = λ j lt. ⊎_elim (λ low. c.put_over.ensures.outer j (inl low) ∙ inv.bytes j low)
          (λ high.
          let i = j - done in
          let at : done + i ≡ j = omega arith in
          ap (λ (m : ℕ). get_or c.put_over.new.room m 0) (sym at) ∙ c.put_over.ensures.inner i (omega (arith, size)) ∙ get_or-take n part i 0 (omega arith) ∙ c.under-part.ensures.bytes i (omega (arith, few))
          ∙ ap (byte_under c.args.base.now) (omega arith)) (cases_lt j done);
    }
