-- A change with a block gives the view that block once it is posted.
use Rattle.std.proofs.Common.{◌≡◌, ℕ, List, refl, sym, ◌∙◌, ap}
use Rattle.log_entry.specs.declared.entry.Entry.{Entry}
use Rattle.log_entry.specs.declared.entry.Body.{Body}
use Rattle.log_entry.specs.declared.entry.Body.TheVariants.{Pointer}
use Rattle.group_laws.specs.Steps.{with_block}
use Rattle.group_laws.specs.MemberViews.{View}
use Rattle.group_board.specs.Views.{after_post}
use Rattle.licence.specs.ViewChanges.{GainsBlock}

pub posted_gains : (v : View) (slot q : ℕ) (e : Entry) (value : List ℕ) → e.body ≡ Pointer q → GainsBlock q (record { key = e.key; bytes = value }) v (after_post slot e value v)
posted_gains v slot q e value points = record {
  kept = refl;
  flying = refl;
  doomed = λ k n e. e;
  blocks = λ r d is. ap (λ (b : Body). with_block e.key value b v.blocks r) (sym points) ∙ is;
}
