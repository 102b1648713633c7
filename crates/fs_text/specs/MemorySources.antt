-- What the sources in memory tell.
use Rattle.std.specs.Prelude.{ℕ, List, Bool, Option, Some}
use Rattle.fs_text.specs.declared.steady_source.SteadySource.{SteadySource}
use Rattle.fs_text.specs.declared.mem_source.MemSource.{MemSource}

abbrev pub steady_coming : SteadySource → Option (List ℕ)
steady_coming s = Some s.feed

abbrev pub steady_ended : SteadySource → Bool
steady_ended s = s.ended

abbrev pub mem_coming : MemSource → Option (List ℕ)
mem_coming s = Some s.feed

abbrev pub mem_ended : MemSource → Bool
mem_ended s = s.ended

abbrev pub mem_source_faults : MemSource → ℕ
mem_source_faults s = s.faults
