use Rattle.std.proofs.Common.{}
use Rattle.core_log.proofs.Append.{on_ok, lacks, has_or_lacks, appended}
use Rattle.core_log.proofs.chunk.append_at.Goals as goal

pub returns-in_err-write_lines-clause-moments : goal.returns-in_err-write_lines-clause-moments
returns-in_err-write_lines-clause-moments g c =
    let st = g.R.Region.state in
    lacks (st c.args.region.now) (st c.write_lines.new.region) c.args.at c.args.words c.args.tail c.args.batch.now c.requires.lies c.requires.log c.requires.room c.write_lines.ensures.run

pub returns-clause-moments : goal.returns-clause-moments
returns-clause-moments g c =
    let st = g.R.Region.state in
    has_or_lacks (st c.args.region.now) (st c.write_lines.new.region) c.args.at c.args.words c.args.tail c.args.batch.now c.requires.lies c.requires.log c.requires.room c.write_lines.ensures.run
    c.in_ok-write_lines.ensures.ok (st c.set_word.new.region) c.set_word.ensures.run

pub returns-clause-ok : goal.returns-clause-ok
returns-clause-ok g c =
    let st = g.R.Region.state in
    on_ok c.set_word.result _ _ (appended (st c.args.region.now) (st c.write_lines.new.region) c.args.at c.args.words c.args.tail c.args.batch.now c.requires.lies c.requires.log c.requires.room c.write_lines.ensures.run
    c.in_ok-write_lines.ensures.ok (st c.set_word.new.region) c.set_word.ensures.run) c.set_word.ensures.ok
