-- The view that a step writes, and that there is still one for each member.
use Rattle.std.proofs.Common.{◌≡◌, ℕ, ◌<◌, length, get_or, Some, sym, ap, ◌∙◌, arith, length-set}
use Rattle.std.specs.Prelude.{slice_get, slice_set}
use Rattle.std.proofs.lemmas.Option.{slice_get-get_or}
use Rattle.group_machine.specs.declared.state.MemberView.{MemberView}
use Rattle.group_machine.specs.declared.state.GroupState.{GroupState}

pub view_at : (g : GroupState) (m : ℕ) (v : MemberView) → m < g.layout.group → v ≡ get_or g.views.items m v → slice_get g.views.items m ≡ Some v
view_at g m v low is = let whole = g.whole in slice_get-get_or g.views.items m v (omega (arith, whole, low)) ∙ ap Some (sym is)

pub still_whole : (g : GroupState) (m : ℕ) (w : MemberView) → length (slice_set g.views.items m w) ≡ g.layout.group
still_whole g m w = length-set g.views.items m w ∙ g.whole
