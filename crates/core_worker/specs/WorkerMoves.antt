-- What a worker holds in the words of its calls: by key, what stands in a place and what waits. What one call says of it is `WorkerMoves` of `engine_laws`.
use Rattle.std.specs.Prelude.{ℕ, ◌==◌, List, [], ◌∷◌, ◌++◌, map, true, false, Option, Some, None, option_map, option_to_list, if◌then◌else◌, ◌&&◌, not, nat_lt, Bool}
use Rattle.std.specs.List.{filter}
use Rattle.fs_model.specs.declared.model.Request.{Request}
use Rattle.fs_model.specs.Cells.{key_of}
use Rattle.conflict_queue.specs.declared.types.Held.{Held}
use Rattle.conflict_queue.specs.Waiting.{waiting}
use Rattle.group_laws.specs.MemberViews.{View}
use Rattle.batch_leader.specs.Leading.{taken_by}
use Rattle.batch_leader.specs.Rounds.{is_first}
use Rattle.core_worker.specs.declared.types.Leading.{Leading}
use Rattle.core_worker.specs.declared.types.Leading.TheVariants as leads
use Rattle.core_worker.specs.declared.types.Place.{Place}
use Rattle.core_worker.specs.declared.types.Place.TheVariants as kinds
use Rattle.core_worker.specs.declared.worker.Worker.{Worker}
use Rattle.core_worker.specs.OwnPlaces.{key_in, is_of, request_by, request_pending}
use Rattle.core_log.specs.Log.{room_of}
use Rattle.lazy_alloc.specs.Sets.{free_chunk_count, free_block_count}
use Rattle.engine_laws.specs.FreeStock.{Stock, lines_left_over}
pub use Rattle.engine_laws.specs.StockChanges.{lines_in, Spends}
pub use Rattle.engine_laws.specs.WorkerMoves.{BeginsIn, PostsIn, SpendsIn, Placed, Hands, request_placed, line_in, Fixed, asked, replied, fixed_of, requests_for, HoldsKey, AnswersKey, WorkerMoves}

abbrev pub placed_in : View → Place → Option Placed
placed_in v kinds.Free = None
placed_in v (kinds.Staged n e value) = Some (record {
  number = n;
  request = request_by e.key value e.body;
  posted = false;
})
placed_in v (kinds.Posted n key lines) = option_map (λ r. record {
  number = n;
  request = r;
  posted = true;
}) (request_pending v key (v.pending key))

abbrev pub placed_for : View → List Place → ℕ → Option Placed
placed_for v [] k = None
placed_for v (x ∷ xs) k = if is_of k (key_in x) then placed_in v x else placed_for v xs k

abbrev pub asked_by : Held → ℕ × Request
asked_by h = (h.number, h.request)

-- what it has taken goes into a fresh chunk
abbrev pub awaits_chunk : Leading → Bool
awaits_chunk (leads.Nothing buffer) = false
awaits_chunk (leads.Collecting c) = not (is_first (taken_by c)) && c.fresh
awaits_chunk (leads.Batch b) = not (is_first b.changes.taken.items) && b.fresh
awaits_chunk (leads.Persisted x) = false
awaits_chunk (leads.Failed x) = false
awaits_chunk leads.Between = false

-- The free lines of the open chunk. Where a batch in hand goes into a fresh one, those left over count at most.
abbrev pub lines_free : Worker → ℕ
lines_free w = if awaits_chunk w.leading && nat_lt lines_left_over (room_of w.log)
    then lines_left_over else room_of w.log

-- what a worker has free
abbrev pub stock_of : Worker → Stock
stock_of w = record {
  chunks = free_chunk_count w.allocator;
  lines = lines_free w;
  blocks = free_block_count w.allocator;
}

-- of a worker with this view: a request in hand comes before those that wait
abbrev pub hands_of : View → Worker → Hands
hands_of v w = record {
  place = placed_for v w.places.items;
  waits = λ k. map asked_by (filter (λ h. key_of h.request == k) (option_to_list w.in_hand)
      ++ waiting w.queue k);
  stopped = w.stopped;
  stock = stock_of w;
}
