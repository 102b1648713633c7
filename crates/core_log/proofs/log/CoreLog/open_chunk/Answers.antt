use Rattle.std.proofs.Common.{◌≡◌, ◌+◌, ℕ, subst}
use Rattle.pm_region.specs.State.{State, During, IsTelling, cell_now}
use Rattle.pm_region.specs.Words.{KeepsOutside, EachIn}
use Rattle.chunk_map.specs.declared.heads.Head.TheVariants.{Log}
use Rattle.chunk_map.specs.Setting.{HeadTurns, SurelyHead}
use Rattle.core_log.specs.Log.{first_of}
use Rattle.core_log.proofs.OpenLaws.{free_or_empty, no_entries, opened_chunk}
use Rattle.core_log.proofs.log.CoreLog.open_chunk.Goals as goal

-- what the head was while it was set, in the words of the log
turns : (s t : State) (at at' : ℕ) → at ≡ at' → During s t (EachIn at (at + 2) (HeadTurns (cell_now s) at (Log 0))) → During s t (EachIn at' (at' + 2) (HeadTurns (cell_now s) at' (Log 0)))
turns s t at at' is run = subst (λ (n : ℕ). During s t (EachIn n (n + 2) (HeadTurns (cell_now s) n (Log 0)))) is run

pub returns-in_err-set_head-clause-moments : goal.returns-in_err-set_head-clause-moments
returns-in_err-set_head-clause-moments g c =
    let s = g.R.Region.state c.args.region.now in
    let t = g.R.Region.state c.set_head.new.region in
    free_or_empty s t c.args.self.now c.args.chunk c.requires.stands c.requires.part c.requires.free (turns s t _ _ c.first_of-at.ensures c.set_head.ensures.moments)

pub returns-in_err-set_head-clause-entries : goal.returns-in_err-set_head-clause-entries
returns-in_err-set_head-clause-entries g c =
    let s = g.R.Region.state c.args.region.now in
    let t = g.R.Region.state c.set_head.new.region in
    no_entries s t c.args.self.now c.args.chunk c.requires.stands c.requires.part c.requires.free (turns s t _ _ c.first_of-at.ensures c.set_head.ensures.moments)

pub returns-clause-moments : goal.returns-clause-moments
returns-clause-moments g c =
    let s = g.R.Region.state c.args.region.now in
    let t = g.R.Region.state c.set_head.new.region in
    free_or_empty s t c.args.self.now c.args.chunk c.requires.stands c.requires.part c.requires.free (turns s t _ _ c.first_of-at.ensures c.set_head.ensures.moments)

pub returns-clause-entries : goal.returns-clause-entries
returns-clause-entries g c =
    let s = g.R.Region.state c.args.region.now in
    let t = g.R.Region.state c.set_head.new.region in
    no_entries s t c.args.self.now c.args.chunk c.requires.stands c.requires.part c.requires.free (turns s t _ _ c.first_of-at.ensures c.set_head.ensures.moments)

pub returns-clause-ok : goal.returns-clause-ok
returns-clause-ok g c =
    let log = c.args.self.now in
    let s = g.R.Region.state c.args.region.now in
    let t = g.R.Region.state c.set_head.new.region in
    let at = c.first_of-at.ensures in
    let outside : During s t (KeepsOutside (cell_now s) (first_of log c.args.chunk) (first_of log c.args.chunk + 8)) = subst (λ (n : ℕ). During s t (KeepsOutside (cell_now s) n (n + 8))) at c.set_head.ensures.outside in
    let sure : IsTelling t → SurelyHead (cell_now t) (first_of log c.args.chunk) (Log 0) = subst (λ (n : ℕ). IsTelling t → SurelyHead (cell_now t) n (Log 0)) at c.in_ok-set_head.ensures.ok in
    opened_chunk s t log c.args.chunk c.requires.stands c.requires.part c.begin_chunk.new.self c.begin_chunk.ensures outside sure
