use Rattle.std.proofs.Common.{◌≡◌, ℕ, List, ◌∙◌, ap, subst}
use Rattle.fs_text.specs.declared.line.Line.{Line}
use Rattle.pm_region.specs.State.{IsTelling}
use Rattle.pm_region.specs.Words.{lasts}
use Rattle.engine_core.specs.Endings.{outcome_by}
use Rattle.group_engine.specs.Replayed.{Replayed}
use Rattle.group_engine.proofs.Ended.{replayed, not_opened}
use Rattle.engine_core.proofs.Clients.{ok_then, err_then, begins, origin_at}
use Rattle.group_engine.proofs.replaying.replay.Goals as goal

pub returns-in-Err : goal.returns-in-Err
returns-in-Err g c =
    let s = g.R.Region.state c.args.region.now in
    let word = g.R.ReadRegion.word c.args.region.now in
    let tells : (w : ℕ) → IsTelling s → lasts s w ≡ word w = (λ w telling. g.met.R.ReadRegion.tells c.args.region.now w telling) in
    not_opened s word c.args.recovered c.args.input (origin_at s word) (begins s word tells c.args.recovered c.requires.region) c.new.result c.new.ensures c.of-nothing.result c.of-nothing.ensures

pub returns : goal.returns
returns g c =
    let s = g.R.Region.state c.args.region.now in
    let t = g.R.Region.state c.replay-run.new.region in
    let word = g.R.ReadRegion.word c.args.region.now in
    let O = c.in-Ok.ensures.opened in
    let first = c.in-Ok.engine in
    let en = c.replay-run.new.self in
    subst (λ (ls : List Line). Replayed s word c.args.recovered ls t c.of.result) (c.from_vec-lines.ensures.items ∙ c.into_lines.ensures)
    (replayed (λ q. q.items) s t word c.args.recovered c.from_vec-lines.result.items O.0 O.1 first.workers.items c.in-Ok.ensures.new en.layout en.workers.items en.boards.items en.backlogs.items en.answers.items c.replay-run.result
    (err_then c.replay-run.result (λ h. h O.0 O.1.is O.2) c.replay-run.ensures.failed)
    (ok_then c.replay-run.result (λ h. h O.0 O.1.is O.2) c.replay-run.ensures.ran)
    c.has_stopped.result
    (λ e f S H. c.has_stopped.ensures.stopped e t O.0 f S H)
    (λ e f S H. c.has_stopped.ensures.going e t O.0 f S H)
    c.into_report-report.result.0 c.into_report-report.ensures.kept (λ f S H. c.into_report-report.ensures.reports t O.0 f S H)
    c.of.result (c.of.ensures ∙ ap (outcome_by c.into_report-report.result.0) c.end_of-end.ensures))
