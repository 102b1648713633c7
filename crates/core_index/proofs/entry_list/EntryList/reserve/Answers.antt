use Rattle.std.proofs.Common.{List, sym, subst}
use Rattle.core_index.specs.declared.types.Marked.{Marked}
use Rattle.core_index.specs.Marks.{AreMarks}
use Rattle.core_index.proofs.entry_list.EntryList.reserve.Goals as goal

pub invariant_of-self : goal.invariant_of-self
invariant_of-self c = subst (λ (ms : List Marked). AreMarks ms c.self.inside.left c.self.inside.top) (sym c.in_err-reserve.ensures.items) (c.close_up.ensures.marks c.self.inside.left c.self.inside.top c.self.invariant)

pub invariant_of-self-2 : goal.invariant_of-self-2
invariant_of-self-2 c = subst (λ (ms : List Marked). AreMarks ms c.self.inside.left c.self.inside.top) (sym c.in_ok-reserve.ensures.items) (c.close_up.ensures.marks c.self.inside.left c.self.inside.top c.self.invariant)
