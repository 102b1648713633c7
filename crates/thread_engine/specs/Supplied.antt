-- What a run is supplied with before its region is split.
use Rattle.std.specs.Prelude.{◌≡◌, ℕ, ◌+◌, ◌/◌, ◌≤◌, List, [], length, slice_index}
use Rattle.chunk_map.specs.declared.layouts.Geometry.{Geometry}
use Rattle.chunk_map.specs.Layouts.{layout_of, part_first}
use Rattle.recover.specs.declared.types.Recovered.{Recovered}
use Rattle.engine_laws.specs.Origins.{Origin}
use Rattle.engine_core.specs.RunStarts.{AreNew}
use Rattle.engine_core.specs.Working.{SeatFirst}
use Rattle.thread_engine.specs.declared.run_apart.Supplies.{Supplies}
use Rattle.thread_engine.specs.Collected.{IsWindow}
use Rattle.thread_engine.specs.Desks.{IsCleared}
use Rattle.thread_engine.specs.Noted.{IsNoted, HasNoteRoom}
use Rattle.thread_engine.specs.TableTokens.{HaveTokens, AreTokenRooms}

-- where each part begins, and where the last one ends
pub record ArePartCuts (l : Geometry) (cuts : List ℕ) : Type 0 where
  pub count : length cuts ≡ l.cores + 1
  pub at : (c : ℕ) → c ≤ l.cores → slice_index cuts c ≡ part_first l c

-- Of a region found so, and for so many requests: each group's table with its tokens, each core's worker, and the room for what comes after the split.
pub record IsSupplied (o : Origin) (r : Recovered) (count : ℕ) (x : Supplies) : Type 0 where
  pub layout : x.layout ≡ layout_of o.found
  pub recovered : r.layout ≡ layout_of o.found
  pub tables : length x.tables.items ≡ x.layout.cores / x.layout.group
  pub have_tokens : HaveTokens o.found x.tables.items x.crew.tokens.items
  pub worker_count : length x.crew.workers.items ≡ x.layout.cores
  pub workers : AreNew r.starts.items r.layout x.crew.workers.items
  pub seated : SeatFirst r.starts.items r.layout x.crew.workers.items
  pub cleared : IsCleared x.answers.desk
  pub window : IsWindow x.answers.window.items
  pub blank : IsNoted [] x.answers.notes
  pub room : HasNoteRoom count x.answers.notes
  pub token_rooms : AreTokenRooms x.layout.group (length x.tables.items) x.token_rooms.items
  pub cuts : ArePartCuts x.layout x.cuts.items
