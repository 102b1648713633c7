-- What the sinks in memory tell.
use Rattle.std.specs.Prelude.{ℕ, List, Option, Bool}
use Rattle.fs_text.specs.declared.steady_sink.SteadySink.{SteadySink}
use Rattle.fs_text.specs.declared.mem_sink.MemSink.{MemSink}

-- the bytes taken, as long as there is room for all of them
abbrev pub steady_taken : SteadySink → Option (List ℕ)
steady_taken s = s.store.bytes

abbrev pub steady_room : SteadySink → ℕ
steady_room s = s.store.room

abbrev pub steady_flushed : SteadySink → Bool
steady_flushed s = s.flushed

abbrev pub mem_taken : MemSink → Option (List ℕ)
mem_taken s = s.store.bytes

abbrev pub mem_room : MemSink → ℕ
mem_room s = s.store.room

abbrev pub mem_flushed : MemSink → Bool
mem_flushed s = s.flushed

abbrev pub mem_sink_faults : MemSink → ℕ
mem_sink_faults s = s.faults
