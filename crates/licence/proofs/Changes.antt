-- Steps that say something new of the log and the blocks.
use Rattle.std.proofs.Common.{◌≡◌, ℕ, Bool, true, false, cond, ◌&&◌, eqb, List, [], ◌∷◌, ◌++◌, Option, refl, sym, ◌∙◌, ap, subst}
use Rattle.log_entry.specs.declared.entry.Entry.{Entry}
use Rattle.log_entry.specs.declared.entry.EntryName.{EntryName}
use Rattle.log_entry.specs.declared.entry.Body.{Body}
use Rattle.log_entry.specs.declared.entry.Body.TheVariants.{Pointer}
use Rattle.group_laws.specs.declared.types.Block.{Block}
use Rattle.group_laws.specs.Updates.{has, without}
use Rattle.group_laws.specs.State.{Group}
use Rattle.group_laws.specs.MemberViews.{view_of}
use Rattle.group_laws.specs.Steps.{with_block}
use Rattle.group_laws.specs.Runs.{IsStep}
use Rattle.group_laws.specs.Runs.Kind.{Take, Commit, Retire, Post}
use Rattle.licence.specs.ViewChanges.{TakesEntry, Commits, Forgets, GainsBlock}
use Rattle.licence.proofs.Quiet.{here}

pub taken : (w : Group) (m a s : ℕ) (u : Group) → IsStep w m (Take a s) u → (e : Entry) × TakesEntry e (view_of w m) (view_of u m)
taken w m a s u step = (
  step.0,
  subst (λ (x : Group). TakesEntry step.0 (view_of w m) (view_of x m)) (sym step.2) (record {
    kept = refl;
    flying = here m (w.flying m ++ step.0 ∷ []) (w.flying m);
    doomed = λ k n is. is;
    blocks = λ q b is. is;
  }),
)

pub committed : (w : Group) (m : ℕ) (u : Group) → IsStep w m Commit u → Commits (view_of w m) (view_of u m)
committed w m u step = subst (λ (x : Group). Commits (view_of w m) (view_of x m)) (sym step.1) (record {
  kept = here m (w.kept m ++ w.flying m) (w.kept m);
  flying = here m [] (w.flying m);
  doomed = λ k n is. is;
  blocks = λ q b is. is;
})

still : (a b c : Bool) → b ≡ false → c ≡ true → cond (a && b) false c ≡ true
still true b c none is = ap (λ x. cond x false c) none ∙ is
still false b c none is = is

pub retired : (w : Group) (m : ℕ) (ns : List EntryName) (u : Group) → IsStep w m (Retire ns) u → Forgets ns (view_of w m) (view_of u m)
retired w m ns u step = subst (λ (x : Group). Forgets ns (view_of w m) (view_of x m)) (sym step.1.4) (record {
  kept = here m (without ns (w.kept m)) (w.kept m);
  flying = refl;
  doomed = λ k n none is. still (eqb m m) (has ns k n) (w.doomed m k n) none is;
  blocks = λ q b is. is;
})

pub posted : (w : Group) (m s : ℕ) (e : Entry) (value : List ℕ) (u : Group) (at : ℕ) → IsStep w m (Post s e value) u → e.body ≡ Pointer at → GainsBlock at (record { key = e.key; bytes = value }) (view_of w m) (view_of u m)
posted w m s e value u at step points = subst (λ (x : Group). GainsBlock at (record { key = e.key; bytes = value }) (view_of w m) (view_of x m)) (sym step.1) (record {
  kept = refl;
  flying = refl;
  doomed = λ k n is. is;
  blocks = λ r d is. ap (λ (f : ℕ → Option Block). f r) (sym (here m (with_block e.key value e.body (w.blocks m)) (w.blocks m) ∙ ap (λ (y : Body). with_block e.key value y (w.blocks m)) points)) ∙ is;
})
