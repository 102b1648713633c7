-- A region that is recovered, and lines that were read for so many cores.
use Rattle.std.proofs.Common.{◌≡◌, Bool, true, false, inr, sym, ◌∙◌, subst}
use Rattle.fs_text.specs.Bounds.{IsWithin}
use Rattle.flatstore_commands.specs.Ends.{source_use}
use Rattle.flatstore_commands.specs.Ordering.{is_of_region}
use Rattle.flatstore_commands.specs.Reads.{IsRead}
use Rattle.flatstore_commands.proofs.Refused.{unread_apart}
use Rattle.flatstore_commands.proofs.Standing.{counted_by}
use Rattle.flatstore_commands.proofs.replay.prepared.Goals as goal

pub returns-in-Ok-read-clause-ready : goal.returns-in-Ok-read-clause-ready
returns-in-Ok-read-clause-ready g c = record {
  stands = c.in-Ok.ensures.ok;
  read = subst (λ n. IsRead (source_use g.S.Source.coming g.S.Source.fault_count c.args.source.now c.read.new.source) n c.in-Ok-read.input) c.cores.ensures c.in-Ok-read.ensures.ok;
  within = subst (λ n. IsWithin n c.in-Ok-read.input) c.cores.ensures c.in-Ok-read.ensures.within;
}

pub returns-in-Err-read-clause-refused : goal.returns-in-Err-read-clause-refused
returns-in-Err-read-clause-refused g c =
    let s = g.R.Region.state c.args.region.now in
    let word = g.R.ReadRegion.word c.args.region.now in
    inr (c.cores.result, counted_by s word (λ w telling. g.met.R.ReadRegion.tells c.args.region.now w telling) c.in-Ok.recovered c.in-Ok.ensures.ok c.cores.result c.cores.ensures, c.in-Err-read.ensures.err)

pub returns-in-Err-read-clause-unread : goal.returns-in-Err-read-clause-unread
returns-in-Err-read-clause-unread g c = λ broken. both (is_of_region c.in-Err-read.status) broken
    (unread_apart (source_use g.S.Source.coming g.S.Source.fault_count c.args.source.now c.read.new.source) c.cores.result c.in-Err-read.status c.in-Err-read.ensures.err)
  where
    both : (b : Bool) {P : Type 0} → b ≡ true → b ≡ false → P
    both b t f = cc (sym t ∙ f)
