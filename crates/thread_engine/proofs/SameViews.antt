-- Views that are the same in what a licence and a key's promises read.
use Rattle.std.proofs.Common.{◌≡◌, inl, inr, ℕ, Bool, Option, refl, sym, ◌∙◌, ap, subst}
use Rattle.pm_region.specs.Cell.{Cell}
use Rattle.log_entry.specs.declared.entry.Body.{Body}
use Rattle.log_entry.specs.declared.entry.Body.TheVariants as bodies
use Rattle.store_image.specs.Facts.{In}
use Rattle.group_laws.specs.declared.types.Block.{Block}
use Rattle.group_laws.specs.Places.{Place, owner}
use Rattle.group_laws.specs.State.{Group}
use Rattle.group_laws.specs.Steps.{left_by}
use Rattle.group_laws.specs.MemberViews.{View, view_of}
use Rattle.group_board.specs.Views.{left_in}
use Rattle.licence.specs.Licence.{Licensed}
use Rattle.engine_laws.specs.KeyLaw.{key_view, key_in}
use Rattle.thread_engine.specs.CoreRuns.{HasView}

-- the first is the second but for what was looked at
abbrev pub IsLike : View → View → Type 0
IsLike u v = u ≡ record v { looked = u.looked }

pub like_same : (u v : View) → u ≡ v → IsLike u v
like_same u v e = subst (λ (z : View). z ≡ record v { looked = z.looked }) (sym e) refl

pub like_more : (u v w : View) → IsLike u v → IsLike v w → IsLike u w
like_more u v w a b = a ∙ ap (λ (z : View). record z { looked = u.looked }) b

pub like_licence : (p : Place) (m : ℕ) (u v : View) (cells : ℕ → Cell) → IsLike u v → Licensed p m v cells → Licensed p m u cells
like_licence p m u v cells e L = subst (λ (z : View). Licensed p m z cells) (sym e) (λ image may. let is = L image may in record { well = is.well; has = is.has; only = is.only; whole = is.whole; blocks = is.blocks })

pub like_key : (u v : View) (k : ℕ) → IsLike u v → key_view u k ≡ key_view v k
like_key u v k e = ap (λ (z : View). key_view z k) e

-- an own key by its owner's view, and in the state of the group
by_blocks : (w : Group) (m : ℕ) (v : View) → w.blocks m ≡ v.blocks → (body : Body) → left_in v.blocks body ≡ left_by w m body
by_blocks w m v same (bodies.Pointer q) = ap (λ f. left_in f (bodies.Pointer q)) (sym same)
by_blocks w m v same (bodies.Embedded u) = refl
by_blocks w m v same bodies.Tombstone = refl

pub key_shown : (w : Group) (m k : ℕ) (v : View) → HasView w m v → owner w.place k ≡ m → key_view v k ≡ key_in w k
key_shown w m k v H own i = record {
  cell = sym (H.cell k own) i;
  pending = sym (H.pending k own) i;
  left = λ body. (by_blocks w m v H.blocks body ∙ ap (λ h. left_by w h body) (sym own)) i;
}

-- what the view licenses, the state's view does
pub shown_licence : (w : Group) (p : Place) (m : ℕ) (v : View) (cells : ℕ → Cell) → HasView w m v → Licensed p m v cells → Licensed p m (view_of w m) cells
shown_licence w p m v cells H L image may =
    let is = L image may in record {
      well = is.well;
      has = λ d i live. is.has d (subst (In d) H.kept i) (ap (λ (f : ℕ → ℕ → Bool). f d.key d.version) (sym H.doomed) ∙ live);
      only = λ d i. elim (is.only d i) [ inl k ↦ inl (subst (In d) (sym H.kept) k) | inr f ↦ inr (subst (In d) (sym H.flying) f) ];
      whole = elim is.whole [
        | inl yes_ ↦ inl (λ d i. yes_ d (subst (In d) H.flying i))
        | inr no_ ↦ inr (λ d i there. subst (In d) (sym H.kept) (no_ d (subst (In d) H.flying i) there))
      ];
      blocks = λ q b has. is.blocks q b (ap (λ (f : ℕ → Option Block). f q) (sym H.blocks) ∙ has);
    }
