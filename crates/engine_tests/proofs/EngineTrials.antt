-- An engine that was opened on a region that was just attached.
use Rattle.std.proofs.Common.{◌≡◌, ℕ, ◌/◌, Bool, true, false, not, ◌&&◌, List, Some, refl, sym, ◌∙◌, ap, subst, cond, arith}
use Rattle.std.specs.List.{slice_get}
use Rattle.std.proofs.lemmas.Bool.{and_parts, not-true, le-leb}
use Rattle.std.proofs.lemmas.List.{nil_from_length}
use Rattle.pm_region.specs.State.{State}
use Rattle.pm_region.specs.Split.{words_in}
use Rattle.chunk_map.proofs.Clients.{numbers_of}
use Rattle.recover.specs.declared.types.Recovered.{Recovered}
use Rattle.recover.specs.Regions.{IsCertain}
use Rattle.recover.specs.Recovering.{IsMade, IsFound, AllStand}
use Rattle.core_worker.specs.declared.worker.Worker.{Worker}
use Rattle.core_worker.specs.Beginning.{answers_of}
use Rattle.core_worker.specs.Left.{fair}
use Rattle.core_worker.specs.Status.{has_room}
use Rattle.core_worker.specs.WorkerMoves.{hands_of}
use Rattle.engine_laws.specs.Stands.{Origin, opening}
use Rattle.engine_laws.proofs.Clients.{opens}
use Rattle.engine_core.specs.Calls.{is_open}
use Rattle.engine_core.specs.RunStarts.{StandsAsFound, BeginsAt}
use Rattle.engine_core.specs.Working.{IsMember, may_take, leads}
use Rattle.group_engine.specs.declared.engine.Engine.{Engine}
use Rattle.group_engine.specs.Runs.{first_state}
use Rattle.group_engine.specs.Shows.{Shows}
use Rattle.engine_tests.specs.EngineTrials.{IsOpenedOn}

pub stands_as_found : (s : State) (word : ℕ → ℕ) (r : Recovered) → s.frame.first ≡ 0 → s.frame.words ≡ words_in s.frame.bytes → IsCertain s → IsMade s.frame.bytes r → IsFound s.frame.bytes word r → AllStand s r → StandsAsFound s word r
stands_as_found s word r first words certain made found stand = record {
  first = first;
  words =
      let total = made.total in
      let most = (numbers_of r.layout made.layout).total in
      words ∙ ap (λ b. cond b (s.frame.bytes / 8) 0) (le-leb s.frame.bytes 268439552 (omega (arith, total, most)));
  certain = certain;
  made = made;
  found = found;
  stand = stand;
}

-- one that may be handed a request doesn't wind down
awake : (w : Worker) → is_open may_take leads w ≡ true → w.winds_down ≡ false
awake w e = not-true w.winds_down (and_parts (not w.winds_down) (has_room w) (and_parts (not (leads w)) (may_take w) e).1).0

pub is_opened : (s : State) (word : ℕ → ℕ) (x : Engine Worker) (o : Origin) → BeginsAt s word o
    → Shows hands_of answers_of IsMember fair may_take leads (λ q. q.items) s x.layout x.workers.items x.boards.items x.backlogs.items x.answers.items (opening o) → IsOpenedOn s x
is_opened s word x o B H = (
  first_state o x.workers.items,
  (
    o,
    opens o B.is.sound B.is.first B.is.words B.is.certain,
    record { shows = H; workers_are = refl; answers_are = sym (nil_from_length x.answers.items H.count) },
    λ c w at. awake w (sym (H.seats c w at).takes),
  ),
)
