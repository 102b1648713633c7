use Rattle.std.proofs.Common.{◌/◌, ◌∙◌, subst, Bool}
use Rattle.pm_region.specs.Words.{lasts}
use Rattle.chunk_map.specs.Layouts.{total_bytes}
use Rattle.recover.specs.FoundEntries.{HasWords}
use Rattle.recover.proofs.StandsLaws.{stands_read, not_out, body_found}
use Rattle.recover.proofs.reading.read_in.Goals as goal

pub returns-then-not-branch-clause-told : goal.returns-then-not-branch-clause-told
returns-then-not-branch-clause-told g c = λ telling stands.
    let image = lasts (g.R.Region.state c.args.region.now) in
    let l = c.args.layout.now in
    let f = c.args.found.now in
    let ws = c.words_there.new.words.items in
    absurd (not_out l image f stands ws (subst (λ (b : Bool). HasWords image (total_bytes l / 8) f.at b ws) c.if-not-branch.true (c.in_ok-words_there.ensures.told telling)))

pub returns-clause-told : goal.returns-clause-told
returns-clause-told g c = λ telling stands.
    let image = lasts (g.R.Region.state c.args.region.now) in
    let l = c.args.layout.now in
    let f = c.args.found.now in
    let ws = c.words_there.new.words.items in
    let words = subst (λ (b : Bool). HasWords image (total_bytes l / 8) f.at b ws) c.if-not-branch.false (c.in_ok-words_there.ensures.told telling) in
    c.body_named.ensures ∙ body_found l image f stands c.in_ok-read.read
    (c.in_ok-read.ensures.value ∙ stands_read l image f stands c.as_slice.result.now (c.as_slice.ensures.value ∙ words))
