use Rattle.std.proofs.Common.{◌≡◌, Option, Some, None, refl, sym, ◌∙◌, ap, subst}
use Rattle.core_index.specs.Tombs.{tomb_version, tomb_home, left_of}
use Rattle.core_index.specs.Records.{KeyRecord, Shows}
use Rattle.core_index.specs.Tombs.{left_by}
use Rattle.core_index.specs.declared.types.Fate.{Fate}
use Rattle.core_index.specs.declared.types.Look.TheVariants as looks
use Rattle.core_index.proofs.TombLaws.{known_found, shows_deleted}
use Rattle.core_index.proofs.tombstones.Tombstones.look.Goals as goal

pub returns-in-None : goal.returns-in-None
returns-in-None c = subst (λ (o : Option KeyRecord). Shows o looks.Unknown) (sym (known_found c.args.self.now.items c.args.key None c.in-None.ensures.found)) refl

pub returns-in-Moved : goal.returns-in-Moved
returns-in-Moved c =
    let t = c.in-Some.tombstone in
    let none : left_of t ≡ None = ap (λ (f : Fate). left_by f (tomb_version t) (tomb_home t)) c.in-Moved.is in
    subst (λ (o : Option KeyRecord). Shows o looks.Unknown) (sym (known_found c.args.self.now.items c.args.key (Some t) c.in-Some.ensures.found ∙ none)) refl

pub returns-in_default : goal.returns-in_default
returns-in_default c =
    let t = c.in-Some.tombstone in
    subst (λ (o : Option KeyRecord). Shows o looks.Deleted) (sym (known_found c.args.self.now.items c.args.key (Some t) c.in-Some.ensures.found)) (shows_deleted t.fate (tomb_version t) (tomb_home t) c.in_default.not-Moved)
