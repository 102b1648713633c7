-- A cleaning under way is gone on with, or the lock is tried.
use Rattle.std.proofs.Common.{sym, ◌∙◌}
use Rattle.core_worker.proofs.worker.Worker.serve_cleaning.Goals as goal

pub serve_begin-requires-clause-clean : goal.serve_begin-requires-clause-clean
serve_begin-requires-clause-clean g c = sym c.under_way.ensures ∙ c.in-Nothing.is

pub doom-requires-clause-copied : goal.doom-requires-clause-copied
doom-requires-clause-copied g c = (_, sym c.under_way.ensures ∙ c.in-Copying.is, c.if-victim-eq0.true)

pub end_clean-requires-clause-dooms : goal.end_clean-requires-clause-dooms
end_clean-requires-clause-dooms g c = (_, sym c.under_way.ensures ∙ c.in-Doomed.is)

pub returns-in-Nothing-clause-turned : goal.returns-in-Nothing-clause-turned
returns-in-Nothing-clause-turned g c refused before v w passed tells mail sending = c.serve_begin.ensures.turned refused before v w passed tells mail sending

pub returns-in-Doomed-clause-turned : goal.returns-in-Doomed-clause-turned
returns-in-Doomed-clause-turned g c refused before v w passed tells mail sending = c.end_clean.ensures.did refused before v w passed tells.0 mail sending

pub returns-in-Doomed-clause-less : goal.returns-in-Doomed-clause-less
returns-in-Doomed-clause-less g c offer = c.end_clean.ensures.less

pub copy-requires-clause-way : goal.copy-requires-clause-way
copy-requires-clause-way g c = sym c.under_way.ensures ∙ c.in-Copying.is

pub returns-then-victim-eq0-clause-turned : goal.returns-then-victim-eq0-clause-turned
returns-then-victim-eq0-clause-turned g c refused before v w passed tells mail sending = c.doom.ensures.did refused before v w passed tells.0 mail sending

pub returns-then-victim-eq0-clause-less : goal.returns-then-victim-eq0-clause-less
returns-then-victim-eq0-clause-less g c offer = c.doom.ensures.less

pub returns-in-Copying-clause-turned : goal.returns-in-Copying-clause-turned
returns-in-Copying-clause-turned g c refused before v w passed tells mail sending = c.copy.ensures.did refused before v w passed tells.0 mail sending

pub returns-in-Copying-clause-less : goal.returns-in-Copying-clause-less
returns-in-Copying-clause-less g c offer = c.copy.ensures.less

pub returns-in-Nothing-clause-serves : goal.returns-in-Nothing-clause-serves
returns-in-Nothing-clause-serves g c passes = c.serve_begin.ensures.serves passes

pub returns-then-victim-eq0-clause-serves : goal.returns-then-victim-eq0-clause-serves
returns-then-victim-eq0-clause-serves g c passes = let e = c.doom.ensures in record { seat = e.seat; keeps = e.keeps; memory = tt; awake = tt; starts = e.starts; works = e.works; steps = e.steps passes }

pub returns-in-Copying-clause-serves : goal.returns-in-Copying-clause-serves
returns-in-Copying-clause-serves g c passes = let e = c.copy.ensures in record { seat = e.seat; keeps = e.keeps; memory = tt; awake = tt; starts = e.starts; works = e.works; steps = e.steps passes }

pub returns-in-Doomed-clause-serves : goal.returns-in-Doomed-clause-serves
returns-in-Doomed-clause-serves g c passes = let e = c.end_clean.ensures in record { seat = e.seat; keeps = e.keeps; memory = tt; awake = tt; starts = e.starts; works = e.works; steps = e.steps passes }
