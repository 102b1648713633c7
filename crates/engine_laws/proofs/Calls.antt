-- A call of a worker in a state that stands.
use Rattle.std.proofs.Common.{◌≡◌, ◌≢◌, ℕ, zero, suc, ◌<◌, List, [], ◌∷◌, length, Bool, Some, ◌∙◌, subst, sym, arith}
use Rattle.std.specs.List.{slice_get}
use Rattle.store_image.specs.Facts.{In}
use Rattle.fs_model.specs.Cells.{key_of}
use Rattle.fs_model.specs.declared.model.Request.{Request}
use Rattle.pm_region.specs.State.{State}
use Rattle.chunk_map.specs.Layouts.{IsLayout}
use Rattle.store_image.proofs.Clients.{has_layout, superblock_facts}
use Rattle.group_laws.specs.State.{Group}
use Rattle.group_laws.specs.MemberViews.{View}
use Rattle.group_laws.specs.Regions.{place_at}
use Rattle.group_laws.proofs.Clients.{run_place}
use Rattle.engine_laws.specs.Parts.{group_of}
use Rattle.engine_laws.specs.WorkerMoves.{Hands, Fixed}
use Rattle.engine_laws.specs.Engine.{Engine}
use Rattle.engine_laws.specs.Moves.{Moves}
use Rattle.engine_laws.specs.Stands.{Origin, start_of, Stands}
use Rattle.engine_laws.specs.Workers.{Sits}
use Rattle.engine_laws.specs.Advance.{Calls, moved_to}
use Rattle.engine_laws.proofs.Cores.{group_low, of_core}
use Rattle.engine_laws.proofs.Stands.{stands_on}
use Rattle.engine_laws.proofs.Advance.{advances, sits_on, once, given, own_list}
use Rattle.engine_laws.proofs.Numbers.{in_requests}
use Rattle.engine_laws.proofs.Sits.{others_sit}

get_low : {X : Type 0} (xs : List X) (n : ℕ) (x : X) → slice_get xs n ≡ Some x → n < length xs
get_low [] n x e = absurd (cc e)
get_low (y ∷ ys) zero x e = omega arith
get_low (y ∷ ys) (suc n) x e = let low = get_low ys n x e in omega (arith, low)

module _ (o : Origin) (e : Engine) (c : ℕ) (t : State) (b : Group) (v u : View) (w x : Hands) (takes : Bool) (accepted rest : List (ℕ × Request)) (fixed : List Fixed) (S : Stands o e) (C : Calls e c t b v u w x accepted rest fixed) where
  is_layout : IsLayout e.layout
  is_layout = subst IsLayout (sym S.layout) (superblock_facts o.region.frame.bytes o.found (has_layout o.region.frame.bytes o.found S.sound)).1

  at : (e.group (group_of e.layout c)).place ≡ place_at e.layout (group_of e.layout c)
  at = S.groups.place (group_of e.layout c) (group_low e.layout is_layout c C.core)

  at' : b.place ≡ place_at e.layout (group_of e.layout c)
  at' = run_place (e.group (group_of e.layout c)) _ b C.moves.whole ∙ at

  pub call_move : Moves e (moved_to e c t b x takes rest fixed) c accepted fixed
  call_move = advances (start_of o) e c t b v u w x takes accepted rest fixed is_layout C.core at at' C.view C.sits C.backlog C.own S.keys C.moves

  pub call_stands : Stands o (moved_to e c t b x takes rest fixed)
  call_stands = stands_on o e (moved_to e c t b x takes rest fixed) c accepted fixed S call_move

  pub call_sits : Sits (moved_to e c t b x takes rest fixed) c u x
  call_sits = sits_on (start_of o) e c t b v u w x takes accepted rest fixed is_layout C.core at at' C.view C.sits C.backlog C.own S.keys C.moves

  pub call_others : (d : ℕ) (v' : View) (w' : Hands) → d ≢ c → Sits e d v' w' → Sits (moved_to e c t b x takes rest fixed) d v' w'
  call_others d v' w' ne T = others_sit e (moved_to e c t b x takes rest fixed) c d accepted fixed v' w' call_move ne T

  -- each number is answered once, and was given,
  pub call_once : (y z : Fixed) → In y fixed → In z fixed → y.number ≡ z.number → y ≡ z
  call_once y z i j q = once (start_of o) e c t b v u w x takes accepted rest fixed is_layout C.core at at' C.view C.sits C.backlog C.own S.keys C.moves y z i j q

  -- and is that of its request
  pub call_asked : (y : Fixed) → In y fixed → slice_get e.given y.number ≡ Some y.request
  call_asked y i =
      (in_requests (key_of y.request) e.given (y.number, y.request) (given (start_of o) e c t b v u w x takes accepted rest fixed is_layout C.core at at' C.view C.sits C.backlog C.own S.keys C.moves (key_of y.request) (of_core e.layout is_layout c (key_of y.request) (C.moves.own y i)) y (own_list (start_of o) e c t b v u w x takes accepted rest fixed is_layout C.core at at' C.view C.sits C.backlog C.own S.keys C.moves y i))).0

  pub call_given : (y : Fixed) → In y fixed → y.number < length e.given
  call_given y i = get_low e.given y.number y.request (call_asked y i)
