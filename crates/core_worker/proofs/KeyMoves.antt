-- What one call does for one key: nothing, a request held, answered or staged.
use Rattle.std.proofs.Common.{◌≡◌, ◌≢◌, inl, inr, ℕ, true, false, cond, List, [], ◌∷◌, ◌++◌, map, Option, Some, None, refl, sym, ◌∙◌, ap, subst, append-nil, append_assoc}
use Rattle.std.specs.Prelude.{IfSome, IsSomeAnd}
use Rattle.std.proofs.lemmas.Bool.{eq-eqb, ne_eqb}
use Rattle.fs_model.specs.declared.model.Request.{Request}
use Rattle.fs_model.specs.declared.model.Reply.{Reply}
use Rattle.fs_model.specs.declared.model.Reply.TheVariants.{Stopped}
use Rattle.fs_model.specs.Cells.{key_of}
use Rattle.fs_model.specs.Lawful.{MayReply, cell_left}
use Rattle.core_room.specs.declared.types.Shortage.{Shortage}
use Rattle.group_laws.specs.State.{Group}
use Rattle.group_laws.specs.Runs.{Kind, Runs}
use Rattle.group_laws.specs.MemberViews.{View}
use Rattle.pm_region.specs.State.{State, IsTelling, cell_now}
use Rattle.pm_region.proofs.Clients.{started, all_kept}
use Rattle.store_image.specs.Facts.{In}
use Rattle.group_laws.specs.Places as places
use Rattle.licence.specs.Licence.{Licensed, part_at, part_end}
use Rattle.engine_laws.specs.RefusalCauses.{Refuses}
use Rattle.core_worker.specs.declared.worker.Worker.{Worker}
use Rattle.core_worker.specs.Ties.{Holds}
use Rattle.core_worker.specs.WorkerMoves.{Hands, Fixed, replied, request_placed, line_in, fixed_of, requests_for, stock_of, hands_of, AnswersKey, SpendsIn, WorkerMoves}
use Rattle.core_worker.proofs.HandKeys.{holds_key}

-- what is held of the key is the same
pub still_key : (v : View) (w x : Hands) (k : ℕ) → x.place k ≡ w.place k → x.waits k ≡ w.waits k → AnswersKey v v w x k [] []
still_key v w x k place waits = record {
  order = append-nil (line_in w k) ∙ (λ i. request_placed (sym place i) ++ sym waits i);
  lawful = tt;
  cell = refl;
  after_stop = λ stopped none. (tt, place ∙ none);
  stops = λ y i. absurd i;
  posted = λ y e is. inl (refl, place ∙ e);
  doubt = λ d e. inl e;
}

-- a request came behind those of the key
pub held_key : (v : View) (w x : Hands) (k n : ℕ) (r : Request) → x.place k ≡ w.place k → x.waits k ≡ w.waits k ++ (n, r) ∷ [] → AnswersKey v v w x k ((n, r) ∷ []) []
held_key v w x k n r place waits = record {
  order = append_assoc (request_placed (w.place k)) (w.waits k) ((n, r) ∷ []) ∙ (λ i. request_placed (sym place i) ++ sym waits i);
  lawful = tt;
  cell = refl;
  after_stop = λ stopped none. (tt, place ∙ none);
  stops = λ y i. absurd i;
  posted = λ y e is. inl (refl, place ∙ e);
  doubt = λ d e. inl e;
}

no_line : (w : Hands) (k : ℕ) → w.place k ≡ None → w.waits k ≡ [] → line_in w k ≡ []
no_line w k place waits = (λ i. request_placed (place i) ++ waits i)

-- the one request of the key was answered, and the cell stays
pub answered_key : (v : View) (w x : Hands) (k n : ℕ) (r : Request) (a : Reply) (why : Option Shortage) → w.place k ≡ None → w.waits k ≡ [] → x.place k ≡ None → x.waits k ≡ []
    → MayReply r (v.cell k) false a → cell_left r a (v.cell k) ≡ v.cell k → (w.stopped ≡ true → a ≡ Stopped) → (a ≡ Stopped → x.stopped ≡ true)
    → AnswersKey v v w x k ((n, r) ∷ []) (record { number = n; request = r; reply = a; refusal = why } ∷ [])
answered_key v w x k n r a why place waits place_now waits_now may left stopped stops = record {
  order = ap (λ (l : List (ℕ × Request)). l ++ (n, r) ∷ []) (no_line w k place waits) ∙ ap (λ (l : List (ℕ × Request)). (n, r) ∷ l) (sym (no_line x k place_now waits_now));
  lawful = (may, tt);
  cell = left;
  after_stop = λ s none. ((stopped s, tt), place_now);
  stops = λ y i e. stops_by y i e;
  posted = λ y e is. absurd (let both : Some y ≡ None = sym e ∙ place in cc both);
  doubt = λ d e. inl e;
} where
  stops_by : (y : Fixed) → In y (record { number = n; request = r; reply = a; refusal = why } ∷ []) → y.reply ≡ Stopped → (x.stopped ≡ true) × (x.place k ≡ None)
  stops_by y (inl same) e = (stops (sym (ap (λ (z : Fixed). z.reply) same) ∙ e), place_now)
  stops_by y (inr none) e = absurd none

-- the one request of the key was staged
pub staged_key : (v : View) (w x : Hands) (k n : ℕ) (r : Request) → w.place k ≡ None → w.waits k ≡ [] → x.place k ≡ Some (record { number = n; request = r; posted = false }) → x.waits k ≡ [] → w.stopped ≡ false
    → AnswersKey v v w x k ((n, r) ∷ []) []
staged_key v w x k n r place waits place_now waits_now runs = record {
  order = ap (λ (l : List (ℕ × Request)). l ++ (n, r) ∷ []) (no_line w k place waits) ∙ (λ i. request_placed (sym place_now i) ++ sym waits_now i);
  lawful = tt;
  cell = refl;
  after_stop = λ s none. absurd (let both : true ≡ false = sym s ∙ runs in cc both);
  stops = λ y i. absurd i;
  posted = λ y e is. absurd (let both : Some y ≡ None = sym e ∙ place in cc both);
  doubt = λ d e. inl e;
}

-- the requests and answers of a key, of one
pub one_request : (n : ℕ) (r : Request) (k : ℕ) → key_of r ≡ k → requests_for k ((n, r) ∷ []) ≡ (n, r) ∷ []
one_request n r k e = ap (λ b. cond b ((n, r) ∷ []) []) (eq-eqb (key_of r) k e)

pub no_request : (n : ℕ) (r : Request) (k : ℕ) → key_of r ≢ k → requests_for k ((n, r) ∷ []) ≡ []
no_request n r k ne = ap (λ b. cond b ((n, r) ∷ []) []) (ne_eqb (key_of r) k ne)

pub one_fixed : (x : Fixed) (k : ℕ) → key_of x.request ≡ k → fixed_of k (x ∷ []) ≡ x ∷ []
one_fixed x k e = ap (λ b. cond b (x ∷ []) []) (eq-eqb (key_of x.request) k e)

pub no_fixed : (x : Fixed) (k : ℕ) → key_of x.request ≢ k → fixed_of k (x ∷ []) ≡ []
no_fixed x k ne = ap (λ b. cond b (x ∷ []) []) (ne_eqb (key_of x.request) k ne)

pub key_by : (v u : View) (w x : Hands) (k : ℕ) (a b : List (ℕ × Request)) (f g : List Fixed) → b ≡ a → g ≡ f → AnswersKey v u w x k a f → AnswersKey v u w x k b g
key_by v u w x k a b f g same also h = subst (λ (y : List (ℕ × Request)). AnswersKey v u w x k y g) (sym same) (subst (λ (y : List Fixed). AnswersKey v u w x k a y) (sym also) h)

pub no_steps : (a : Option Group) (m : ℕ) → IfSome a (λ b. IsSomeAnd a (λ d. Runs b (map {B = ℕ × Kind} (λ y. (m, y)) []) d))
no_steps None m = tt
no_steps (Some a) m = refl

-- a call that makes no step and writes nothing
pub moves_here : (p : places.Place) (m : ℕ) (s : State) (a : Option Group) (v : View) (w x : Worker) (accepted : List (ℕ × Request)) (fixed : List Fixed) → Holds p m v x → (IsTelling s → Licensed p m v (cell_now s)) → x.stopped ≡ w.stopped
    → ((y : Fixed) → In y fixed → places.owner p (key_of y.request) ≡ m)
    → ((k : ℕ) → places.owner p k ≡ m → AnswersKey v v (hands_of v w) (hands_of v x) k (requests_for k accepted) (fixed_of k fixed))
    → ((k : ℕ) → places.owner p k ≡ m → Refuses p.layout (stock_of w) (v.last k) (v.last k) (map replied (fixed_of k fixed)))
    → SpendsIn p m v v (hands_of v w) (hands_of v x) accepted fixed
    → WorkerMoves p m s s a a v v (hands_of v w) (hands_of v x) accepted fixed
moves_here p m s a v w x accepted fixed H licensed same own keys refuses spends = record {
  outside = all_kept s (part_at p m) (part_end p m);
  moments = started s (Licensed p m v) licensed;
  exit = licensed;
  steps = [];
  whole = no_steps a m;
  own = own;
  keys = keys;
  holds = λ k is. holds_key p m v x H k;
  refuses = refuses;
  spends = spends;
  stops = λ e. inl (sym same ∙ e);
  breaks = H.broken;
  stays_stopped = λ e. same ∙ e;
}
