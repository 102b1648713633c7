use Rattle.std.proofs.Common.{sym, ◌∙◌, ap, arith}
use Rattle.pm_region.specs.Bytes.{word_at}
use Rattle.region_file.proofs.Paging.{count_is}
use Rattle.region_file.proofs.Storing.{own_word}
use Rattle.region_file.proofs.file_bytes.FileBytes.word.Goals as goal

pub returns-in-Some : goal.returns-in-Some
returns-in-Some c =
    let s = c.self.inside in
    let n = count_is _ s.own s.base s.len c.self.view_is in
    c.in-Some.ensures.word_is ∙ sym (own_word s.base s.len s.own c.args.place c.in-Some.ensures.stored (omega (arith, n, c.requires))) ∙ ap (λ v. word_at v.items c.args.place) c.self.view_is
