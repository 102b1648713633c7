use Rattle.std.proofs.Common.{◌≡◌, ◌==◌, ◌&&◌, List, Option, is_some, sym, ◌∙◌, ap, subst}
use Rattle.std.specs.List.{count_by}
use Rattle.std.proofs.lemmas.List.Sorted.{All-permutation}
use Rattle.core_log.specs.declared.types.LogChunk.{LogChunk}
use Rattle.log_standing.specs.declared.name_item.NameItem.{NameItem}
use Rattle.log_standing.specs.declared.types.Copies.{Copies}
use Rattle.log_standing.specs.NameCounts.{count_in, told_in}
use Rattle.log_standing.specs.NameItems.{Fits, copies_among}
use Rattle.log_standing.specs.Notes.{Noted, AreOfLog}
use Rattle.log_standing.proofs.KillLaws.{small_killed, count_killed, told_by}
use Rattle.log_standing.proofs.Noting.{notes_once, notes_counted}
use Rattle.log_standing.proofs.OrderLaws.{same_notes}
use Rattle.log_standing.proofs.log_names.LogNames.standing.Goals as goal

pub of-table-requires : goal.of-table-requires
of-table-requires g c = All-permutation Fits c.self.inside.items.items c.reverse.new.self.items c.reverse.ensures.permutation c.self.invariant

pub of-requires : goal.of-requires
of-requires g c = small_killed c.of-table.result c.kill_where.new.self c.kill_where.ensures.counts c.of-table.ensures.small

pub returns-clause-told : goal.returns-clause-told
returns-clause-told g c = λ f says k v.
    let now = copies_among c.kill_where.new.self k v in
    let told = told_by (copies_among c.of-table.result k v) now (f k v) (c.of-table.ensures.untold k v) (c.kill_where.ensures.killed f says k v) in
    ap told_in (c.of.ensures.copies k v) ∙ told ∙ sym (ap (λ (o : Option Copies). is_some o && f k v) (c.of.ensures.copies k v))

pub returns-clause-counts : goal.returns-clause-counts
returns-clause-counts g c = λ image log own of k v.
    let was = c.self.inside.items.items in
    let now = c.reverse.new.self.items in
    let are = subst (λ (ns : List Noted). AreOfLog image log ns) (sym c.self.view_is) of in
    ap count_in (c.of.ensures.copies k v)
    ∙ count_killed (copies_among c.kill_where.new.self k v) (copies_among c.of-table.result k v) (c.kill_where.ensures.counts k v)
    ∙ c.of-table.ensures.counts log.chunks (All-permutation (λ (x : NameItem). count_by (λ (j : LogChunk). j.chunk == x.chunk) log.chunks ≡ 1) was now c.reverse.ensures.permutation (notes_once image log own was are)) k v
    ∙ same_notes was now c.reverse.ensures.permutation log.chunks k v
    ∙ notes_counted image log own was are k v
