use Rattle.std.proofs.Common.{◌≡◌, ◌+◌, ◌*◌, List, ◌++◌, length, map, take, Option}
use Rattle.std.specs.List.{AllByRecursion}
use Rattle.fs_model.specs.declared.model.Request.{Request}
use Rattle.fs_model.specs.declared.model.Reply.{Reply}
use Rattle.answer_queue.specs.declared.window_sizes.TheConstants.{WINDOW}
use Rattle.engine_core.specs.declared.types.Stamped.{Stamped}
use Rattle.engine_core.specs.Reports.{reply_in}
use Rattle.thread_engine.specs.Collected.{IsWindow, blanks}
use Rattle.thread_engine.specs.Desks.{IsCleared}
use Rattle.thread_engine.specs.Noted.{IsNoted, HasNoteRoom}
use Rattle.thread_engine.specs.Outlets.{IsAsked, all_replies, TakesAll}
use Rattle.core_worker.specs.declared.types.Answer.{Answer}
use Rattle.thread_engine.specs.Takings.{TakenAs}
use Rattle.thread_engine.specs.Windows.{AreAtRest, AllWentOn, AllRested}
use Rattle.thread_engine.specs.WorkStates.{sight_by}
use Rattle.thread_engine.proofs.windows.work_windows.Given as goal

abbrev pub invariant-loop : goal.invariant-loop
invariant-loop g l = (goal.iterator-loop g).can_next l.iterator'
    × (goal.iterator-loop g).is_finite l.iterator'
    × record {
      dealt : List Request;
      outs : List (List Answer);
      split : g.Q.Requests.left l.fn.requests ≡ dealt ++ g.Q.Requests.left l.requests;
      number : length dealt ≡ l.from;
      count : l.from + length (g.Q.Requests.left l.requests) ≡ l.count;
      all : l.count ≡ length (g.Q.Requests.left l.fn.requests);
      kept : List (Option Stamped);
      places : length kept ≡ l.count;
      went : AllWentOn g.B.Board.seat (sight_by g.B.Board.view g.B.Board.trail g.B.Board.at) g.P.Region.state (g.G.Gate.may_refuse l.gate) 0 dealt outs l.fn.jobs l.jobs;
      rest : AreAtRest g.B.Board.seat (sight_by g.B.Board.view g.B.Board.trail g.B.Board.at) g.P.Region.state l.jobs;
      taken : TakenAs 0 0 l.from outs (blanks l.count) kept;
      noted : IsNoted (take l.from kept) l.answers.notes;
      room : HasNoteRoom (length (g.Q.Requests.left l.requests)) l.answers.notes;
      cleared : IsCleared l.answers.desk;
      window : IsWindow l.answers.window.items;
      windows : List (List Reply);
      begun : l.from ≡ length windows * WINDOW;
      rested : AllRested g.B.Board.seat (sight_by g.B.Board.view g.B.Board.trail g.B.Board.at) g.P.Region.state (g.G.Gate.may_refuse l.gate) (length windows) dealt outs l.fn.jobs l.jobs went;
      full : AllByRecursion (λ w. length w ≡ WINDOW) windows;
      handed : map reply_in (take l.from kept) ≡ all_replies windows;
      heard : TakesAll g.O.Outlet.takes windows (g.R.Region.state l.fn.region) l.fn.outlet (g.R.Region.state l.region) l.outlet;
      asked : IsAsked (g.R.Region.state l.fn.region) (g.R.Region.state l.region);
    }
