use Rattle.std.proofs.Common.{◌≡◌, ◌==◌, ◌&&◌, ◌||◌, Option, true, false, sym, ◌∙◌, ap}
use Rattle.std.specs.Prelude.{is_some}
use Rattle.std.proofs.lemmas.Bool.{eq-eqb, ne_eqb}
use Rattle.core_index.specs.declared.types.StandingEntry.{StandingEntry}
use Rattle.core_index.specs.Records.{standing_at, stands_alone}
use Rattle.core_index.specs.Marks.{Marks, kept}
use Rattle.core_index.proofs.MarkLaws.{alone_from}
use Rattle.core_index.proofs.entry_list.EntryList.stands_alone.Goals as goal

pub returns-then-self-eq1 : goal.returns-then-self-eq1
returns-then-self-eq1 c =
    let ms = c.self.inside.marks.items in
    let v = c.args.version in
    let found : c.is_some.result ≡ is_some (standing_at (kept ms) v) = c.is_some.ensures ∙ ap (λ (o : Option StandingEntry). is_some o) c.find.ensures ∙ ap (λ (m : Marks). is_some (standing_at m.items v)) (sym c.self.view_is) in
    let zero : (c.self.inside.left == 0) ≡ false = ne_eqb c.self.inside.left 0 c.if-self-eq0.false in
    let one : (c.self.inside.left == 1) ≡ true = eq-eqb c.self.inside.left 1 c.if-self-eq1.true in
    alone_from ms c.self.inside.left c.self.inside.top v c.is_some.result c.self.invariant (found ∙ sym (λ i. zero i || (one i && is_some (standing_at (kept ms) v)))) ∙ ap (λ (m : Marks). stands_alone m.items v) c.self.view_is

pub returns-else-self-eq1 : goal.returns-else-self-eq1
returns-else-self-eq1 c =
    let ms = c.self.inside.marks.items in
    let v = c.args.version in
    let zero : (c.self.inside.left == 0) ≡ false = ne_eqb c.self.inside.left 0 c.if-self-eq0.false in
    let one : (c.self.inside.left == 1) ≡ false = ne_eqb c.self.inside.left 1 c.if-self-eq1.false in
    one ∙ alone_from ms c.self.inside.left c.self.inside.top v false c.self.invariant (sym (λ i. zero i || (one i && is_some (standing_at (kept ms) v)))) ∙ ap (λ (m : Marks). stands_alone m.items v) c.self.view_is
