-- What a command that was read asks for.
use Rattle.flatstore_commands.specs.Commands.{Form}
use Rattle.flatstore_commands.specs.Commands.Form.{Format, Replay, Run, Dump, Log, Scan, Audit, Load}
use Rattle.clap.specs.Words.{Text}
use Rattle.std.specs.Prelude.{ℕ, Option, Some, None}
use Rattle.flatstore_commands.specs.declared.command.Command.{Command}
use Rattle.flatstore_commands.specs.declared.command.Threaded.{Threaded}
use Rattle.flatstore_commands.specs.declared.command.Threaded.TheVariants as ways
use Rattle.flatstore_commands.specs.declared.command.Command.TheVariants as commands

abbrev pub asked : Command → Form
asked (commands.Format path layout) = Format path.now layout
asked (commands.Replay path) = Replay path.now
asked (commands.Run path) = Run path.now
asked (commands.Dump path) = Dump path.now
asked (commands.Log path) = Log path.now
asked (commands.Scan path) = Scan path.now
asked (commands.Audit path workers) = Audit path.now workers.count
asked (commands.Load path size) = Load path.now size.start size.count

abbrev pub path_of : Form → Text
path_of (Format path layout) = path
path_of (Replay path) = path
path_of (Run path) = path
path_of (Dump path) = path
path_of (Log path) = path
path_of (Scan path) = path
path_of (Audit path workers) = path
path_of (Load path start count) = path

-- What is asked for that is done in threads: a run, an audit by so many workers, or a load of so many requests from a
-- number on.
pub data Way : Type 0 where
  Runs : Way
  Audits : ℕ → Way
  Loads : ℕ → ℕ → Way

abbrev pub threaded : Option Form → Option Way
threaded None = None
threaded (Some (Format path layout)) = None
threaded (Some (Replay path)) = None
threaded (Some (Run path)) = Some Runs
threaded (Some (Dump path)) = None
threaded (Some (Log path)) = None
threaded (Some (Scan path)) = None
threaded (Some (Audit path workers)) = Some (Audits workers)
threaded (Some (Load path start count)) = Some (Loads start count)

abbrev pub way_of : Threaded → Way
way_of ways.Run = Runs
way_of (ways.Audit workers) = Audits workers.count
way_of (ways.Load size) = Loads size.start size.count
