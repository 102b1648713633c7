use Rattle.std.proofs.Common.{◌≡◌, false, true, sym, ◌∙◌, ap, refl}
use Rattle.std.specs.List.{list_all}
use Rattle.chunk_map.specs.Layouts.{is_of_group}
use Rattle.store_image.proofs.Names.{group_named}
use Rattle.store_image.proofs.log_rules.log_rule.Goals as goal

pub returns-then-not-in_group : goal.returns-then-not-in_group
returns-then-not-in_group c = λ found is.
    let l = c.args.layout.now in
    let part = c.args.part in
    let here = sym (group_named l part found.entries) ∙ ap (list_all (λ x. is_of_group l part x.name.key)) (sym is.0 ∙ sym c.deref.ensures.value) ∙ sym c.in_group.ensures ∙ c.if-not-in_group.true in
    rw here refl

pub returns-then-scanned : goal.returns-then-scanned
returns-then-scanned c = λ found is.
    let l = c.args.layout.now in
    let part = c.args.part in
    let here = sym (group_named l part found.entries) ∙ ap (list_all (λ x. is_of_group l part x.name.key)) (sym is.0 ∙ sym c.deref.ensures.value) ∙ sym c.in_group.ensures ∙ c.if-not-in_group.false in
    let whole : found.whole ≡ true = sym is.1 ∙ c.if-scanned.true in
    rw (here, whole) refl

pub returns-else-scanned : goal.returns-else-scanned
returns-else-scanned c = λ found is.
    let l = c.args.layout.now in
    let part = c.args.part in
    let here = sym (group_named l part found.entries) ∙ ap (list_all (λ x. is_of_group l part x.name.key)) (sym is.0 ∙ sym c.deref.ensures.value) ∙ sym c.in_group.ensures ∙ c.if-not-in_group.false in
    let whole : found.whole ≡ false = sym is.1 ∙ c.if-scanned.false in
    rw (here, whole) refl
