-- The forms of a command line: what `clap` makes of the words of one command, with one level of subcommands.
use Rattle.std.specs.Prelude.{ℕ, ◌&&◌, nat_le, List, [], ◌∷◌, map, Bool, true, false, Option, Some, None, option_map, option_and_then, if◌then◌else◌, bytes_eq, codes, String, string_bytes}
use Rattle.std.specs.Global.{Global}
use Rattle.std.specs.Str.Parse.{digits_value, without_leading_plus}
use Rattle.clap.specs.Words.{App, Row, Rule, Text, new_app, new_rule, with_rule, with_subcommand, first_of, one_of, subcommand_of, Kinds, fault_of}
use Rattle.clap.specs.Simple.{on_top}
use Rattle.clap.specs.ValueTests.{accepts}
use Rattle.clap.specs.declared.builder.value_parser.ValueParser.{ValueParser}
use Rattle.clap.specs.declared.builder.value_parser.ValueParser.TheVariants as parsers
use Rattle.chunk_map.specs.declared.layouts.Geometry.{Geometry}
use Rattle.chunk_map.specs.Checked.{layout_by_rule}
use Rattle.flatstore_commands.specs.declared.load_size.TheConstants.{MOST_LOAD_REQUESTS}
use Rattle.flatstore_commands.specs.declared.workers.TheConstants.{MOST_WORKERS}

-- the bytes of each word
abbrev pub words_of : List (String Global) → List Text
words_of words = map string_bytes words

-- `clap`'s reader of numbers of 64 bits
abbrev pub u64_reader : ValueParser
u64_reader = parsers.Unsigned 0 18446744073709551615

-- a required word
abbrev pub word_rule : Text → Rule
word_rule name = record (new_rule name) { required = true }

-- a required option with a number of 64 bits
abbrev pub number_rule : Text → Rule
number_rule name = record (new_rule name) {
  long = Some name;
  parser = Some u64_reader;
  required = true;
}

-- a subcommand with the path of a region
abbrev pub region_command : Text → App
region_command name = with_rule (new_app name) (word_rule (codes "region"))

abbrev pub format_command : App
format_command =
    with_rule (with_rule (with_rule (with_rule (region_command (codes "format"))
    (number_rule (codes "cores"))) (number_rule (codes "group"))) (number_rule (codes "chunks")))
    (number_rule (codes "chunk-bytes"))

-- a required word that is a number of 64 bits
abbrev pub number_word_rule : Text → Rule
number_word_rule name = record (new_rule name) { parser = Some u64_reader; required = true }

abbrev pub audit_command : App
audit_command = with_rule (region_command (codes "audit")) (number_word_rule (codes "workers"))

abbrev pub load_command : App
load_command =
    with_rule (with_rule (region_command (codes "load")) (number_word_rule (codes "start")))
    (number_word_rule (codes "count"))

abbrev pub bare_program : App
bare_program = on_top (λ s. record s { subcommand_required = true }) (new_app (codes "flatstore"))

-- with what makes a region and replays a trace
abbrev pub writing_program : App
writing_program =
    with_subcommand (with_subcommand bare_program format_command.top)
    (region_command (codes "replay")).top

-- with what runs on threads
abbrev pub running_program : App
running_program =
    with_subcommand (with_subcommand writing_program (region_command (codes "run")).top)
    load_command.top

-- with what shows one
abbrev pub reading_program : App
reading_program =
    with_subcommand (with_subcommand running_program (region_command (codes "dump")).top)
    (region_command (codes "log")).top

-- the command of the program
abbrev pub program : App
program =
    with_subcommand (with_subcommand reading_program (region_command (codes "scan")).top)
    audit_command.top

-- no kind of error comes
abbrev pub is_good : Kinds → Bool
is_good [] = true
is_good (kind ∷ kinds) = false

-- the command takes the words: no step of reading them fails
abbrev pub is_taken : List Text → Bool
is_taken words = is_good (fault_of program words)

-- What words ask for: the path of a region, and the layout for a new one.
pub data Form : Type 0 where
  Format : Text → Geometry → Form
  Replay : Text → Form
  Run : Text → Form
  Dump : Text → Form
  Log : Text → Form
  Scan : Text → Form
  Audit : Text → ℕ → Form
  Load : Text → ℕ → ℕ → Form

-- the number that the reader makes of a text
abbrev pub number_of : Text → Option ℕ
number_of text = if accepts false u64_reader text then Some (digits_value 10
    (without_leading_plus text)) else None

abbrev pub number_in : Text → List Row → Option ℕ
number_in name rows = option_and_then number_of (one_of name rows)

-- the layout with the four numbers, where they keep its rules
abbrev pub layout_in : List Row → Option Geometry
layout_in rows =
    option_and_then (λ cores. option_and_then (λ group. option_and_then
    (λ chunks. option_and_then (λ chunk_bytes.
    layout_by_rule (record {
      cores = cores;
      group = group;
      chunks = chunks;
      chunk_bytes = chunk_bytes;
    }))
    (number_in (codes "chunk-bytes") rows)) (number_in (codes "chunks") rows))
    (number_in (codes "group") rows)) (number_in (codes "cores") rows)

-- how many workers an audit is to have
abbrev pub workers_within : ℕ → Option ℕ
workers_within n = if nat_le 1 n && nat_le n MOST_WORKERS then Some n else None

abbrev pub workers_in : List Row → Option ℕ
workers_in rows = option_and_then workers_within (number_in (codes "workers") rows)

-- from which number on a load makes its requests, and how many
abbrev pub load_within : ℕ → ℕ → Option (ℕ × ℕ)
load_within start count =
    if nat_le 1 count && nat_le count MOST_LOAD_REQUESTS then Some (start, count) else None

abbrev pub load_in : List Row → Option (ℕ × ℕ)
load_in rows =
    option_and_then (λ start. option_and_then (load_within start)
    (number_in (codes "count") rows)) (number_in (codes "start") rows)

abbrev pub form_named : Text → List Row → Text → Option Form
form_named name rows path =
    if bytes_eq name (codes "format") then option_map (λ l. Format path l) (layout_in rows)
    else (if bytes_eq name (codes "replay") then Some (Replay path)
    else (if bytes_eq name (codes "run") then Some (Run path)
    else (if bytes_eq name (codes "dump") then Some (Dump path)
    else (if bytes_eq name (codes "log") then Some (Log path)
    else (if bytes_eq name (codes "scan") then Some (Scan path)
    else (if bytes_eq name (codes "audit") then option_map (λ n. Audit path n) (workers_in rows)
    else (if bytes_eq name (codes "load") then option_map (λ l. Load path l.0 l.1) (load_in rows)
    else None)))))))

abbrev pub form_in : Option (Text × List Row) → Option Form
form_in subcommand =
    option_and_then (λ s. option_and_then (form_named s.0 s.1) (first_of (codes "region") s.1))
    subcommand

-- What the words ask for: none where the command doesn't take them, or where the numbers of a layout break a rule of it.
abbrev pub form_of : List Text → Option Form
form_of words = if is_taken words then form_in (subcommand_of program words) else None

-- the words are those of `run`, of `audit` or of `load`
abbrev pub needs_threads : Option Form → Bool
needs_threads None = false
needs_threads (Some (Format path l)) = false
needs_threads (Some (Replay path)) = false
needs_threads (Some (Run path)) = true
needs_threads (Some (Dump path)) = false
needs_threads (Some (Log path)) = false
needs_threads (Some (Scan path)) = false
needs_threads (Some (Audit path workers)) = true
needs_threads (Some (Load path start count)) = true

-- the words are those of `run`
abbrev pub is_run : Option Form → Bool
is_run None = false
is_run (Some (Format path l)) = false
is_run (Some (Replay path)) = false
is_run (Some (Run path)) = true
is_run (Some (Dump path)) = false
is_run (Some (Log path)) = false
is_run (Some (Scan path)) = false
is_run (Some (Audit path workers)) = false
is_run (Some (Load path start count)) = false

-- the words are those of `load`
abbrev pub is_load : Option Form → Bool
is_load None = false
is_load (Some (Format path l)) = false
is_load (Some (Replay path)) = false
is_load (Some (Run path)) = false
is_load (Some (Dump path)) = false
is_load (Some (Log path)) = false
is_load (Some (Scan path)) = false
is_load (Some (Audit path workers)) = false
is_load (Some (Load path start count)) = true

-- What the words ask of a call that starts no thread: those of `run`, `audit` and `load` count as no form.
abbrev pub alone_form_of : List Text → Option Form
alone_form_of words = if needs_threads (form_of words) then None else form_of words
