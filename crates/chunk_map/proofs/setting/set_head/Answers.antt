use Rattle.std.proofs.Common.{◌+◌, sym, subst}
use Rattle.pm_region.specs.State.{During, cell_now}
use Rattle.pm_region.specs.Words.{EachIn}
use Rattle.chunk_map.specs.declared.heads.Head.{Head}
use Rattle.chunk_map.specs.declared.heads.Head.TheVariants.{Free, Log, Data}
use Rattle.chunk_map.specs.Setting.{HeadTurns}
use Rattle.chunk_map.proofs.HeadLaws.{either_head}
use Rattle.chunk_map.proofs.setting.set_head.Goals as goal

pub returns-in-Free-clause-heads : goal.returns-in-Free-clause-heads
returns-in-Free-clause-heads g c =
    let s = g.R.Region.state c.args.region.now in
    let t = g.R.Region.state c.set_kind.new.region in
    let run : During s t (EachIn c.args.at (c.args.at + 2) (HeadTurns (cell_now s) c.args.at Free)) = c.set_kind.ensures.moments in
    either_head s t c.args.at c.args.head (subst (λ (h : Head). During s t (EachIn c.args.at (c.args.at + 2) (HeadTurns (cell_now s) c.args.at h))) (sym c.in-Free.is) run)

pub returns-in-Log-clause-heads : goal.returns-in-Log-clause-heads
returns-in-Log-clause-heads g c =
    let s = g.R.Region.state c.args.region.now in
    let t = g.R.Region.state c.set_log.new.region in
    let run : During s t (EachIn c.args.at (c.args.at + 2) (HeadTurns (cell_now s) c.args.at (Log c.in-Log.tail))) = c.set_log.ensures.moments in
    either_head s t c.args.at c.args.head (subst (λ (h : Head). During s t (EachIn c.args.at (c.args.at + 2) (HeadTurns (cell_now s) c.args.at h))) (sym c.in-Log.is) run)

pub returns-in-Data-clause-heads : goal.returns-in-Data-clause-heads
returns-in-Data-clause-heads g c =
    let s = g.R.Region.state c.args.region.now in
    let t = g.R.Region.state c.set_kind-in-Data.new.region in
    let run : During s t (EachIn c.args.at (c.args.at + 2) (HeadTurns (cell_now s) c.args.at (Data c.in-Data.class))) = c.set_kind-in-Data.ensures.moments in
    either_head s t c.args.at c.args.head (subst (λ (h : Head). During s t (EachIn c.args.at (c.args.at + 2) (HeadTurns (cell_now s) c.args.at h))) (sym c.in-Data.is) run)
