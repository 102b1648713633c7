-- Where a key is when its group opens.
use Rattle.std.proofs.Common.{◌≡◌, ℕ, Bool, true, false, cond, List, [], ◌∷◌, ◌++◌, map, Some, None, refl, sym, subst}
use Rattle.chunk_map.specs.Layouts.{layout_of}
use Rattle.group_laws.specs.declared.types.Pending.{Pending}
use Rattle.group_laws.specs.Places.{owner}
use Rattle.group_laws.specs.State.{Group}
use Rattle.group_laws.specs.OpeningImages.{opened}
use Rattle.group_laws.specs.Regions.{key_group, place_at}
use Rattle.group_laws.specs.MemberViews.{view_of}
use Rattle.group_board.specs.Seats.{SeatAt}
use Rattle.engine_laws.specs.Keys.{Served, KeyStands, History, pairs}
use Rattle.fs_model.specs.Lawful.{cell_of}
use Rattle.engine_laws.specs.KeyLaw.{KeyView, KeyIs, key_view}
use Rattle.engine_laws.specs.Stands.{Origin, Stands, start_of, opening}
use Rattle.thread_engine.specs.WorkLaws.{KeepsDoubts, in_doubt}
use Rattle.thread_engine.proofs.Doubts.{none_some}
use Rattle.thread_engine.proofs.KeyViews.{own_view}

none_served : {X Y : Type 0} (f : X → Y) (xs : List X) (ys : List Y) → [] ≡ map f xs ++ ys → xs ≡ []
none_served f [] ys e = refl
none_served f (x ∷ xs) ys e = absurd (cc e)

neither : {X : Type 0} (b : Bool) (x : X) → cond b None None ≡ Some x → ⊥
neither true x e = none_some x (sym e)
neither false x e = none_some x (sym e)

pub first_doubts : (seat : SeatAt) (image : ℕ → ℕ) → KeepsDoubts seat (view_of (opened seat.place image) seat.number)
first_doubts seat image k d own is = absurd (neither _ (in_doubt d) is)

module _ (o : Origin) (S : Stands o (opening o)) (k : ℕ) where
  abbrev group : Group
  group = opened (place_at (layout_of o.found) (key_group (layout_of o.found) k)) o.found

  abbrev keys : KeyStands (start_of o k) (opening o) k
  keys = S.keys k

  none_yet : keys.served ≡ []
  none_yet = none_served (λ (x : Served). (x.number, x.request)) keys.served _ keys.split

  no_pending : (p : Pending) → group.pending k ≡ Some p → ⊥
  no_pending p is = absurd (none_some p (sym is))

  pub first_key : (m : ℕ) → owner (place_at (layout_of o.found) (key_group (layout_of o.found) k)) k ≡ m → KeyIs (start_of o k) (key_view (view_of group m) k) None false []
  first_key m own = subst (λ (v : KeyView). KeyIs (start_of o k) v None false []) (sym (own_view group m k own)) (record {
    history = subst (λ (xs : List Served). History (start_of o k) (pairs xs)) none_yet keys.history;
    cell = subst (λ (xs : List Served). cell_of (start_of o k) (pairs xs) ≡ group.cell k) none_yet keys.cell;
    halted = λ q. absurd (cc q);
    holds = record { posted = λ x at posted. absurd (none_some x (sym at)); pending = λ p is. absurd (no_pending p is) };
    pending = λ p is. absurd (no_pending p is);
  })
