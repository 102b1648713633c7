use Rattle.std.proofs.Common.{◌≡◌, ℕ, ◌&&◌, cond, Some, sym, ◌∙◌, arith}
use Rattle.std.specs.Prelude.{is_some}
use Rattle.core_index.specs.Records.{live_version}
use Rattle.core_index.specs.Slots.{alive_at}
use Rattle.core_index.proofs.IndexLaws.{is_spared, names_known}
use Rattle.core_index.proofs.key_slot.KeySlot.names.Goals as goal

pub returns-in-Some-Some : goal.returns-in-Some-Some
returns-in-Some-Some c =
    let k = c.args.self.now.known in
    let alive : alive_at k ≡ Some c.in-Some-Some.field-0-0 = sym c.alive.ensures ∙ c.in-Some-Some.is-0 in
    let live : live_version k ≡ Some c.in-Some-Some.field-0-1 = sym c.live_version.ensures ∙ c.in-Some-Some.is-1 in
    let one : ◌≡◌ {A = ℕ} (cond (is_spared k) 1 0) 1 = λ i. cond (is_some (alive i) && is_some (live i)) 1 0 in
    let names = names_known k in
    let len = c.len.ensures in
    omega (arith, one, names, len)

pub returns-in_default : goal.returns-in_default
returns-in_default c =
    let names = names_known c.args.self.now.known in
    let len = c.len-in_default.ensures in
    omega (arith, names, len)
