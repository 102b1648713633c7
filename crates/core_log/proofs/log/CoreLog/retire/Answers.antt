use Rattle.std.proofs.Common.{◌≡◌, ◌+◌, ℕ, sym, subst, arith}
use Rattle.pm_region.specs.State.{State, During, IsTelling, cell_now}
use Rattle.pm_region.specs.Words.{KeepsOutside, EachIn, Surely}
use Rattle.chunk_map.specs.declared.heads.Head.TheVariants.{Free}
use Rattle.chunk_map.specs.Setting.{HeadLies, HeadTurns}
use Rattle.core_log.specs.Log.{first_of}
use Rattle.core_log.proofs.RetireLaws.{retiring_lies, free_or_log, same_or_none, retired_chunk}
use Rattle.core_log.proofs.log.CoreLog.retire.Goals as goal

-- what the head was while it was set, in the words of the log
turns : (s t : State) (at at' : ℕ) → at ≡ at' → During s t (EachIn at (at + 2) (HeadTurns (cell_now s) at Free)) → During s t (EachIn at' (at' + 2) (HeadTurns (cell_now s) at' Free))
turns s t at at' is run = subst (λ (n : ℕ). During s t (EachIn n (n + 2) (HeadTurns (cell_now s) n Free))) is run

kept : (s t : State) (at at' : ℕ) → at ≡ at' → During s t (KeepsOutside (cell_now s) at (at + 8)) → During s t (KeepsOutside (cell_now s) at' (at' + 8))
kept s t at at' is run = subst (λ (n : ℕ). During s t (KeepsOutside (cell_now s) n (n + 8))) is run

pub set_head-requires : goal.set_head-requires
set_head-requires g c =
    let s = g.R.Region.state c.args.region.now in
    let is = retiring_lies s s c.args.self.now c.args.chunk c.requires.stands c.requires.has in
    let low = is.low in
    let high = is.high in
    let room = is.tail_in in
    subst (HeadLies s.frame) (sym c.first_of-at.ensures) (record { low = low; high = omega (arith, high, room); line = is.line })

pub returns-in_err-set_head-clause-moments : goal.returns-in_err-set_head-clause-moments
returns-in_err-set_head-clause-moments g c =
    let s = g.R.Region.state c.args.region.now in
    let t = g.R.Region.state c.set_head.new.region in
    free_or_log s t c.args.self.now c.args.chunk c.requires.stands c.requires.has (turns s t _ _ c.first_of-at.ensures c.set_head.ensures.moments) (kept s t _ _ c.first_of-at.ensures c.set_head.ensures.outside)

pub returns-in_err-set_head-clause-entries : goal.returns-in_err-set_head-clause-entries
returns-in_err-set_head-clause-entries g c =
    let s = g.R.Region.state c.args.region.now in
    let t = g.R.Region.state c.set_head.new.region in
    same_or_none s t c.args.self.now c.args.chunk c.requires.stands c.requires.has (turns s t _ _ c.first_of-at.ensures c.set_head.ensures.moments) (kept s t _ _ c.first_of-at.ensures c.set_head.ensures.outside)

pub returns-clause-moments : goal.returns-clause-moments
returns-clause-moments g c =
    let s = g.R.Region.state c.args.region.now in
    let t = g.R.Region.state c.set_head.new.region in
    free_or_log s t c.args.self.now c.args.chunk c.requires.stands c.requires.has (turns s t _ _ c.first_of-at.ensures c.set_head.ensures.moments) (kept s t _ _ c.first_of-at.ensures c.set_head.ensures.outside)

pub returns-clause-entries : goal.returns-clause-entries
returns-clause-entries g c =
    let s = g.R.Region.state c.args.region.now in
    let t = g.R.Region.state c.set_head.new.region in
    same_or_none s t c.args.self.now c.args.chunk c.requires.stands c.requires.has (turns s t _ _ c.first_of-at.ensures c.set_head.ensures.moments) (kept s t _ _ c.first_of-at.ensures c.set_head.ensures.outside)

pub returns-clause-ok : goal.returns-clause-ok
returns-clause-ok g c =
    let log = c.args.self.now in
    let s = g.R.Region.state c.args.region.now in
    let t = g.R.Region.state c.set_head.new.region in
    let sure : IsTelling t → Surely (cell_now t (first_of log c.args.chunk)) 0 = subst (λ (n : ℕ). IsTelling t → Surely (cell_now t n) 0) c.first_of-at.ensures c.in_ok-set_head.ensures.ok in
    retired_chunk s t log c.args.chunk c.requires.stands c.requires.has c.requires.closed (kept s t _ _ c.first_of-at.ensures c.set_head.ensures.outside) c.lose_chunk.new.self c.lose_chunk.ensures sure
