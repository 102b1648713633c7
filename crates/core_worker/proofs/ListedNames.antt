-- What two lists name together.
use Rattle.std.proofs.Common.{◌≡◌, ℕ, Bool, true, false, ◌&&◌, ◌||◌, eqb, List, [], ◌∷◌, ◌++◌, refl, sym, ap, ◌∙◌}
use Rattle.log_entry.specs.declared.entry.EntryName.{EntryName}
use Rattle.group_laws.specs.Updates.{has}

or_assoc : (a b c : Bool) → ((a || b) || c) ≡ (a || (b || c))
or_assoc true b c = refl
or_assoc false b c = refl

pub has_append : (xs ys : List EntryName) (k n : ℕ) → has (xs ++ ys) k n ≡ (has xs k n || has ys k n)
has_append [] ys k n = refl
has_append (x ∷ xs) ys k n = ap (λ (b : Bool). (eqb x.key k && eqb x.version n) || b) (has_append xs ys k n) ∙ sym (or_assoc (eqb x.key k && eqb x.version n) (has xs k n) (has ys k n))
