use Rattle.std.proofs.Common.{◌≡◌, ◌+◌, ◌∷◌, [], get_or, take, sym, ◌∙◌, ap, subst, arith}
use Rattle.std.specs.List.{AllByRecursion}
use Rattle.core_index.specs.Marks.{kept, marked}
use Rattle.core_index.specs.Noted.{NotedIfDead, count_dead_in}
use Rattle.core_index.specs.Records.{list_of}
use Rattle.core_index.proofs.MarkLaws.{kept_more}
use Rattle.core_index.proofs.IndexLaws.{noted_append, dead_append, dead_part}
use Rattle.core_index.proofs.key_slot.KeySlot.note_marks.Goals as goal

pub note-requires : goal.note-requires
note-requires c =
    let ms = c.args.marks.now in
    let k = c.args.self.now.known in
    let i = c.loop-mark.mark-index in
    let lt = c.loop-mark-test.true in
    let more = ap (count_dead_in k) (kept_more ms i (marked 0 0) lt) ∙ dead_append k (kept (take i ms)) (kept (get_or ms i (marked 0 0) ∷ [])) in
    let part = dead_part k ms (i + 1) in
    let one : list_of c.entry_of.result ≡ kept (get_or ms i (marked 0 0) ∷ []) = c.entry_of.ensures in
    let same = ap (count_dead_in k) one in
    let was = c.loop-mark.invariant.spare in
    let enough = c.requires in
    omega (arith, more, part, same, was, enough)

pub loop-mark-preserved : goal.loop-mark-preserved
loop-mark-preserved c =
    let ms = c.args.marks.now in
    let k = c.args.self.now.known in
    let i = c.loop-mark.mark-index in
    let lt = c.loop-mark-test.true in
    let one : list_of c.entry_of.result ≡ kept (get_or ms i (marked 0 0) ∷ []) = c.entry_of.ensures in
    let more = kept_more ms i (marked 0 0) lt in
    let was = c.loop-mark.invariant in
    let now = c.note.ensures in
    let b = c.note.new.notices in
    record {
      noted = subst (AllByRecursion (NotedIfDead b c.args.key k)) (sym more) (noted_append c.args.key c.loop-mark.notices b k (kept (take i ms)) (kept (get_or ms i (marked 0 0) ∷ [])) now.kept was.noted (subst (AllByRecursion (NotedIfDead b c.args.key k)) one now.noted));
      still = λ h n noted. now.kept h n (was.still h n noted);
      spare =
          let a = ap (count_dead_in k) more ∙ dead_append k (kept (take i ms)) (kept (get_or ms i (marked 0 0) ∷ [])) in
          let same = ap (count_dead_in k) one in
          let old = was.spare in
          let new = now.spare in
          omega (arith, a, same, old, new);
    }
