use Rattle.std.proofs.Common.{◌≡◌, ℕ, sym, ◌∙◌, ap, subst}
use Rattle.pm_region.specs.Split.{words_in}
use Rattle.region_memory.specs.Steady.{steady_state}
use Rattle.recover.specs.declared.types.Recovered.{Recovered}
use Rattle.recover.specs.Recovering.{IsMade, IsFound}
use Rattle.engine_tests.proofs.EngineTrials.{stands_as_found, is_opened}
use Rattle.engine_tests.proofs.counted_cores_tests.opened.Goals as goal

found_long : (m n : ℕ) (word : ℕ → ℕ) (r : Recovered) → m ≡ n → IsFound m word r → IsFound n word r
found_long m n word r same found = subst (λ k. IsFound k word r) same found

pub recover_read-requires-clause-words : goal.recover_read-requires-clause-words
recover_read-requires-clause-words c len = c.requires.words ∙ ap words_in (sym c.bytes.ensures ∙ c.if-bytes-ne135168.false)

pub open-requires : goal.open-requires
open-requires c =
    let s = steady_state c.args.region.now in
    let r = c.in_ok-recovered.recovered in
    let long : 135168 ≡ s.frame.bytes = sym c.if-bytes-ne135168.false ∙ c.bytes.ensures in
    record {
      region = stands_as_found s _ r c.requires.first c.requires.words c.requires.certain
          (subst (λ n. IsMade n r) long c.in_ok-recovered.ensures.made)
          (found_long 135168 s.frame.bytes _ r long c.in_ok-recovered.ensures.read)
          (c.in_ok-recovered.ensures.stands c.requires.certain);
    }

pub returns : goal.returns
returns c =
    let h = c.in_ok-open.ensures.opened in
    is_opened (steady_state c.args.region.now) _ c.in_ok-open.field-0 h.0 h.1 h.2
