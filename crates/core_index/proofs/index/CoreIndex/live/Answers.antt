use Rattle.std.proofs.Common.{◌≡◌, ℕ, List, Some, subst}
use Rattle.std.specs.Prelude.{◌↔◌, IfOk}
use Rattle.std.specs.List.{Contains}
use Rattle.core_index.specs.Records.{live_version}
use Rattle.core_index.specs.Slots.{Place}
use Rattle.core_index.specs.Noted.{name_with}
use Rattle.core_index.specs.Index.{known_at}
use Rattle.core_index.proofs.index.CoreIndex.live.Goals as goal

pub returns-clause-each : goal.returns-clause-each
returns-clause-each c = subst (λ (xs : List (ℕ × Place)). IfOk c.live_in.result (λ names. (k v : ℕ) → Contains names.items (name_with k v) ↔ (live_version (known_at xs k) ≡ Some v))) c.self.view_is c.live_in.ensures.each
