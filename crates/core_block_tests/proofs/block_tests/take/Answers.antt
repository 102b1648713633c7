use Rattle.std.proofs.Common.{◌≡◌, ◌∙◌, ℕ, true, ⊎_elim, refl, ap, arith}
use Rattle.std.proofs.lemmas.Bool.{cases_eq}
use Rattle.chunk_map.specs.declared.layouts.Geometry.{Geometry}
use Rattle.chunk_map.specs.Layouts.{is_class}
use Rattle.core_block_tests.proofs.BlockTrials.{takes_same}
use Rattle.core_block_tests.proofs.block_tests.take.Goals as goal

pub take-requires : goal.take-requires
take-requires c =
    let l : Geometry = record { cores = 1; group = 1; chunks = 4; chunk_bytes = 4096 } in
    let low = c.requires.low in
    let high = c.requires.high in
    let one : ℕ = 1 in
    let two : ℕ = 2 in
    let here : is_class l c.args.class ≡ true = ⊎_elim
    (λ e. ap (is_class l) e ∙ (let r : is_class l one ≡ true = refl in r))
    (λ ne. let e : c.args.class ≡ two = omega arith in ap (is_class l) e ∙ (let r : is_class l two ≡ true = refl in r))
    (cases_eq c.args.class one) in
    record { class = ap (λ (g : Geometry). is_class g c.args.class) c.requires.layout ∙ here }

pub returns-clause-layout : goal.returns-clause-layout
returns-clause-layout c = (takes_same c.args.a.now c.take.new.self c.args.class c.args.may_cut c.take.result c.take.ensures.takes).layout_is ∙ c.requires.layout
