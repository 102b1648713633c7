use Rattle.std.proofs.Common.{◌≡◌, ◌++◌, sym, ◌∙◌, ap, subst}
use Rattle.std.specs.List.{AllByRecursion}
use Rattle.core_index.specs.Marks.{kept}
use Rattle.core_index.specs.Records.{list_of, standing_of}
use Rattle.core_index.specs.Pairs.{in_pair}
use Rattle.core_index.specs.Slots.{Place, change_in}
use Rattle.core_index.specs.Noted.{NotedIfDead}
use Rattle.core_index.proofs.SlotLaws.{standing_known}
use Rattle.core_index.proofs.IndexLaws.{all_noted, noted_append}
use Rattle.core_index.proofs.key_slot.KeySlot.note_dead.Goals as goal

pub returns-clause-noted : goal.returns-clause-noted
returns-clause-noted c = λ v h waits.
    let known = c.args.self.now.known in
    let ss = c.self.inside.standing.items in
    let p = c.parts.result.0 in
    let marks = kept c.parts.result.1.now in
    let pairs = noted_append c.args.key c.note.new.notices c.note-2.new.notices known (list_of p.first) (list_of p.second) c.note-2.ensures.kept c.note.ensures.noted c.note-2.ensures.noted in
    let all = noted_append c.args.key c.note-2.new.notices c.note_marks.new.notices known (in_pair p) marks c.note_marks.ensures.kept pairs c.note_marks.ensures.noted in
    let standing : standing_of known ≡ in_pair p ++ marks = ap (λ (q : Place). standing_of q.known) (sym c.self.view_is) ∙ standing_known (change_in c.self.inside.head) ss c.self.invariant.below ∙ c.parts.ensures in
    all_noted c.args.key c.note_marks.new.notices known (subst (AllByRecursion (NotedIfDead c.note_marks.new.notices c.args.key known)) (sym standing) all) v h waits
