use Rattle.std.proofs.Common.{◌≡◌, ℕ, ◌<◌, refl, sym, ◌∙◌, ap, subst, arith}
use Rattle.std.proofs.lemmas.Result.{IfOk-weaker}
use Rattle.pm_region.specs.State.{IsTelling}
use Rattle.pm_region.specs.Words.{lasts}
use Rattle.chunk_map.specs.declared.layouts.Geometry.{Geometry}
use Rattle.store_image.proofs.Clients.{layout_numbers}
use Rattle.engine_core.specs.RunStarts.{AreNew}
use Rattle.engine_core.proofs.Clients.{sound, layout_is, begins, are_seated, origin_at}
use Rattle.group_engine.proofs.open_engine.Engine+Worker.open.Goals as goal

pub open_on-requires-clause-sound : goal.open_on-requires-clause-sound
open_on-requires-clause-sound g c = sound (g.R.Region.state c.args.region.now) (g.R.ReadRegion.word c.args.region.now) (λ w telling. g.met.R.ReadRegion.tells c.args.region.now w telling) c.args.recovered c.requires.region

pub open_on-requires-clause-layout : goal.open_on-requires-clause-layout
open_on-requires-clause-layout g c = sym (layout_is (g.R.Region.state c.args.region.now) (g.R.ReadRegion.word c.args.region.now) (λ w telling. g.met.R.ReadRegion.tells c.args.region.now w telling) c.args.recovered c.requires.region) ∙ sym c.geometry-geometry.ensures.value

pub open_on-requires-clause-group : goal.open_on-requires-clause-group
open_on-requires-clause-group g c =
    let one = (layout_numbers c.args.recovered.layout c.requires.region.made.layout).group in
    subst (λ (l : Geometry). 0 < l.group) (sym c.geometry-geometry.ensures.value) (omega (arith, one))

pub open_on-requires-clause-workers : goal.open_on-requires-clause-workers
open_on-requires-clause-workers g c = c.in_ok-workers.ensures.count ∙ c.requires.region.made.count ∙ ap (λ (l : Geometry). l.cores) (sym c.geometry-geometry.ensures.value)

pub returns-clause-opened : goal.returns-clause-opened
returns-clause-opened g c =
    let s = g.R.Region.state c.args.region.now in
    let word = g.R.ReadRegion.word c.args.region.now in
    let tells : (w : ℕ) → IsTelling s → lasts s w ≡ word w = (λ w telling. g.met.R.ReadRegion.tells c.args.region.now w telling) in
    let F = c.requires.region in
    IfOk-weaker c.open_on.result _ _ (λ x h. (
      origin_at s word,
      begins s word tells c.args.recovered F,
      h (origin_at s word) refl (are_seated s word tells c.args.recovered F c.in_ok-workers.workers.items c.in_ok-workers.ensures.count c.in_ok-workers.ensures.seat),
    )) c.open_on.ensures.opened

pub returns-clause-new : goal.returns-clause-new
returns-clause-new g c = IfOk-weaker c.open_on.result _ _ (λ x same. subst (λ ws. AreNew c.args.recovered.starts.items c.args.recovered.layout ws) (sym same) c.in_ok-workers.ensures.new) c.open_on.ensures.workers
