use Rattle.std.proofs.Common.{◌≡◌, ◌<◌, length, get_or, sym, ◌∙◌, ap, subst, slice_set}
use Rattle.std.proofs.lemmas.List.{get_or_read}
use Rattle.core_index.specs.declared.types.Tombstone.{Tombstone}
use Rattle.core_index.specs.Tombs.{Tombs, with_fate, AreListed, bare_tombstone}
use Rattle.core_index.proofs.TombLaws.{turned_listed}
use Rattle.core_index.proofs.tombstone_list.TombstoneList.turn.Goals as goal

pub invariant_of-self : goal.invariant_of-self
invariant_of-self c =
    let ts = c.self.inside.items.items in
    let i = c.args.spot in
    let within : i < length ts = subst (λ (a : Tombs). i < length a.items) (sym c.self.view_is) c.requires in
    let read : c.index_mut.result.now ≡ get_or ts i bare_tombstone = get_or_read ts i c.index_mut.result.now within c.index_mut.ensures.value bare_tombstone in
    subst (λ (t : Tombstone). AreListed (slice_set ts i (with_fate c.args.fate t)) c.self.inside.passed) (sym read) (turned_listed ts c.self.inside.passed i c.args.fate bare_tombstone c.self.invariant within)

pub returns : goal.returns
returns c = λ d.
    let ts = c.self.inside.items.items in
    let i = c.args.spot in
    let within : i < length ts = subst (λ (a : Tombs). i < length a.items) (sym c.self.view_is) c.requires in
    let read : c.index_mut.result.now ≡ get_or ts i d = get_or_read ts i c.index_mut.result.now within c.index_mut.ensures.value d in
    ap (λ (t : Tombstone). record { items = slice_set ts i (with_fate c.args.fate t); passed = c.self.inside.passed }) read
    ∙ ap (λ (a : Tombs). record { items = slice_set a.items i (with_fate c.args.fate (get_or a.items i d)); passed = a.passed }) c.self.view_is
