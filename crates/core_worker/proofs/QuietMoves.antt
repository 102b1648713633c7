-- A leader's item is a whole move to whoever runs several workers.
use Rattle.engine_laws.specs.WorkerMoves.{HasDoubt}
use Rattle.std.proofs.Common.{false, ◌≡◌, ◌⊎◌, inl, ℕ, ◌≤◌, true, cond, List, [], ◌∷◌, ◌++◌, ◌==◌, map, Option, Some, None, refl, sym, ◌∙◌, ap, append-nil, arith}
use Rattle.std.specs.Prelude.{option_map, option_to_list, IfSome, IsSomeAnd}
use Rattle.std.specs.List.{filter}
use Rattle.fs_model.specs.Cells.{key_of}
use Rattle.pm_region.specs.State.{State, During, IsTelling, cell_now, Rose}
use Rattle.pm_region.specs.Words.{KeepsOutside}
use Rattle.log_entry.specs.declared.entry.Entry.{Entry}
use Rattle.conflict_queue.specs.Waiting.{waiting}
use Rattle.group_laws.specs.declared.types.Pending.{Pending}
use Rattle.group_laws.specs.declared.types.Slot.TheVariants.{Failed}
use Rattle.group_laws.specs.Places as places
use Rattle.group_laws.specs.State.{Group}
use Rattle.group_laws.specs.MemberViews.{View}
use Rattle.group_laws.specs.Runs.{Kind, Runs}
use Rattle.batch_leader.specs.Leading.{MakesAll}
use Rattle.licence.specs.Licence.{Licensed, part_at, part_end}
use Rattle.core_worker.specs.declared.types.Place.{Place}
use Rattle.core_worker.specs.declared.types.Place.TheVariants as kinds
use Rattle.core_worker.specs.declared.worker.Worker.{Worker}
use Rattle.core_worker.specs.OwnPlaces.{key_in, is_of, request_pending}
use Rattle.core_worker.specs.Ties.{Holds}
use Rattle.core_worker.specs.Turns.{Steps}
use Rattle.core_worker.specs.WorkerMoves.{Spends, placed_in, placed_for, request_placed, stock_of, hands_of, line_in, WorkerMoves, asked_by}
use Rattle.engine_laws.proofs.Clients.{quiet_refuses}
use Rattle.core_worker.proofs.StockFacts.{quiet_in}
use Rattle.core_worker.proofs.HandKeys.{holds_key}

pub request_same : (v u : View) (k : ℕ) (o : Option Pending) → u.blocks ≡ v.blocks → request_pending u k o ≡ request_pending v k o
request_same v u k None e = refl
request_same v u k (Some q) e = ap (λ bs. request_pending (record v { blocks = bs }) k (Some q)) e

in_same : (v u : View) (y : Place) → u.pending ≡ v.pending → u.blocks ≡ v.blocks → placed_in u y ≡ placed_in v y
in_same v u kinds.Free e f = refl
in_same v u (kinds.Staged n d x) e f = refl
in_same v u (kinds.Posted n k l) e f = ap (option_map (λ r. record { number = n; request = r; posted = true })) (request_same v u k (u.pending k) f ∙ ap (λ g. request_pending v k (g k)) e)

pub for_same : (v u : View) (ps : List Place) (k : ℕ) → u.pending ≡ v.pending → u.blocks ≡ v.blocks → placed_for u ps k ≡ placed_for v ps k
for_same v u [] k e f = refl
for_same v u (y ∷ ys) k e f = (λ i. cond (is_of k (key_in y)) (in_same v u y e f i) (for_same v u ys k e f i))

pub runs_in : (m : ℕ) (ks : List Kind) (v : View) (before after : Option Group) → MakesAll before (map {B = ℕ × Kind} (λ y. (m, y)) ks) after m v → IfSome before (λ a. IsSomeAnd after (λ b. Runs a (map {B = ℕ × Kind} (λ y. (m, y)) ks) b))
runs_in m ks v None after h = tt
runs_in m ks v (Some a) None h = h
runs_in m ks v (Some a) (Some b) h = h.0

pub quiet_moves_low : (p : places.Place) (m : ℕ) (s t : State) (before after : Option Group) (v u : View) (w x : Worker) → Holds p m u x
    → During s t (KeepsOutside (cell_now s) (part_at p m) (part_end p m)) → During s t (Licensed p m v) → (IsTelling t → Licensed p m u (cell_now t)) → Steps before after m u
    → u.cell ≡ v.cell → u.pending ≡ v.pending → u.blocks ≡ v.blocks → ((k : ℕ) → u.last k ≤ v.last k) → u.posted ≡ v.posted → (x.stopped ≡ false → Spends p.layout v.took v.flying u.took u.flying (stock_of w) (stock_of x) None) → ((k : ℕ) → placed_for v x.places.items k ≡ placed_for v w.places.items k) → x.queue ≡ w.queue → x.in_hand ≡ w.in_hand
    → (x.stopped ≡ true → (w.stopped ≡ true) ⊎ (Rose s.faults t.faults ⊎ (HasDoubt p m u × IfSome before (λ a. (n : ℕ) × (d : Entry) × (a.slot m n ≡ Failed d))))) → (w.stopped ≡ true → x.stopped ≡ true)
    → WorkerMoves p m s t before after v u (hands_of v w) (hands_of u x) [] []
quiet_moves_low p m s t before after v u w x H outside moments exit made cell pending blocks last posted spends places queue hand stops stays = record {
  outside = outside;
  moments = moments;
  exit = exit;
  steps = made.0;
  whole = runs_in m made.0 u before after made.1;
  own = λ y i. absurd i;
  keys = λ k own. record {
    order = append-nil (line_in (hands_of v w) k) ∙ (λ i. request_placed (sym (place_same k) i) ++ sym (waits_same k) i);
    lawful = tt;
    cell = (λ i. sym cell i k);
    after_stop = λ stopped none. (tt, place_same k ∙ none);
    stops = λ y i. absurd i;
    posted = λ y e is. inl (refl, place_same k ∙ e);
    doubt = λ d e. inl ((λ i. sym pending i k) ∙ e);
  };
  holds = λ k own. holds_key p m u x H k;
  refuses = λ k own. quiet_refuses p.layout (stock_of w) (v.last k) (u.last k) (last k);
  spends = quiet_in p m v u (hands_of v w) (hands_of u x) [] place_same posted spends;
  stops = stops;
  breaks = H.broken;
  stays_stopped = stays;
}
  where
    place_same : (k : ℕ) → (hands_of u x).place k ≡ (hands_of v w).place k
    place_same k = for_same v u x.places.items k pending blocks ∙ places k

    waits_same : (k : ℕ) → (hands_of u x).waits k ≡ (hands_of v w).waits k
    waits_same k = (λ i. map asked_by (filter (λ h. key_of h.request == k) (option_to_list (hand i)) ++ waiting (queue i) k))

-- where no last version is another
pub quiet_moves : (p : places.Place) (m : ℕ) (s t : State) (before after : Option Group) (v u : View) (w x : Worker) → Holds p m u x
    → During s t (KeepsOutside (cell_now s) (part_at p m) (part_end p m)) → During s t (Licensed p m v) → (IsTelling t → Licensed p m u (cell_now t)) → Steps before after m u
    → u.cell ≡ v.cell → u.pending ≡ v.pending → u.blocks ≡ v.blocks → u.last ≡ v.last → u.posted ≡ v.posted → (x.stopped ≡ false → Spends p.layout v.took v.flying u.took u.flying (stock_of w) (stock_of x) None) → ((k : ℕ) → placed_for v x.places.items k ≡ placed_for v w.places.items k) → x.queue ≡ w.queue → x.in_hand ≡ w.in_hand
    → (x.stopped ≡ true → (w.stopped ≡ true) ⊎ (Rose s.faults t.faults ⊎ (HasDoubt p m u × IfSome before (λ a. (n : ℕ) × (d : Entry) × (a.slot m n ≡ Failed d))))) → (w.stopped ≡ true → x.stopped ≡ true)
    → WorkerMoves p m s t before after v u (hands_of v w) (hands_of u x) [] []
quiet_moves p m s t before after v u w x H outside moments exit made cell pending blocks last posted spends places queue hand stops stays =
    quiet_moves_low p m s t before after v u w x H outside moments exit made cell pending blocks (λ k. let same = ap (λ (f : ℕ → ℕ). f k) last in omega (arith, same)) posted spends places queue hand stops stays
