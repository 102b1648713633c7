use Rattle.std.proofs.Common.{◌≡◌, ℕ, ◌<◌, sym, ◌∙◌, subst, arith}
use Rattle.std.proofs.lemmas.Result.{IfOk-weaker}
use Rattle.pm_region.specs.State.{IsTelling}
use Rattle.pm_region.specs.Words.{lasts}
use Rattle.chunk_map.specs.declared.layouts.Geometry.{Geometry}
use Rattle.store_image.proofs.Clients.{layout_numbers}
use Rattle.engine_core.proofs.Clients.{sound, layout_is, begins, origin_at}
use Rattle.thread_engine.proofs.group_tables.open_tables.Goals as goal

pub open_on-requires-clause-sound : goal.open_on-requires-clause-sound
open_on-requires-clause-sound g c = sound (g.R.Region.state c.args.region.now) (g.R.ReadRegion.word c.args.region.now) (λ w telling. g.met.R.ReadRegion.tells c.args.region.now w telling) c.args.recovered.now c.requires.region

pub open_on-requires-clause-layout : goal.open_on-requires-clause-layout
open_on-requires-clause-layout g c = sym (layout_is (g.R.Region.state c.args.region.now) (g.R.ReadRegion.word c.args.region.now) (λ w telling. g.met.R.ReadRegion.tells c.args.region.now w telling) c.args.recovered.now c.requires.region) ∙ sym c.geometry-geometry.ensures.value

pub open_on-requires-clause-group : goal.open_on-requires-clause-group
open_on-requires-clause-group g c =
    let one = (layout_numbers c.args.recovered.now.layout c.requires.region.made.layout).group in
    subst (λ (l : Geometry). 0 < l.group) (sym c.geometry-geometry.ensures.value) (omega (arith, one))

pub returns-clause-have_tokens : goal.returns-clause-have_tokens
returns-clause-have_tokens g c =
    let s = g.R.Region.state c.args.region.now in
    let word = g.R.ReadRegion.word c.args.region.now in
    let tells : (w : ℕ) → IsTelling s → lasts s w ≡ word w = (λ w telling. g.met.R.ReadRegion.tells c.args.region.now w telling) in
    IfOk-weaker c.open_on.result _ _ (λ x h. (origin_at s word, begins s word tells c.args.recovered.now c.requires.region, h)) c.open_on.ensures.have_tokens
