-- What an entry's body points at.
use Rattle.std.proofs.Common.{◌≡◌, ℕ, true, sym, ap}
use Rattle.std.proofs.lemmas.Bool.{eqb-true, eq-eqb}
use Rattle.log_entry.specs.declared.entry.Body.{Body}
use Rattle.log_entry.specs.declared.entry.Body.TheVariants.{Pointer, Embedded, Tombstone}
use Rattle.group_laws.specs.Steps.{points_at}

pub points : (body : Body) (p : ℕ) → points_at body p ≡ true → body ≡ Pointer p
points (Pointer q) p t = ap Pointer (sym (eqb-true p q t))
points (Embedded v) p t = absurd (cc t)
points Tombstone p t = absurd (cc t)

pub pointed : (body : Body) (p : ℕ) → body ≡ Pointer p → points_at body p ≡ true
pointed (Pointer q) p t = eq-eqb p q (cc t)
pointed (Embedded v) p t = absurd (cc t)
pointed Tombstone p t = absurd (cc t)
