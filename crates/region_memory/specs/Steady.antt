-- What a steady region says of itself.
use Rattle.std.specs.Prelude.{[]}
use Rattle.pm_region.specs.State.{State}
use Rattle.region_memory.specs.Plans.{Plan, no_faults}
use Rattle.region_memory.specs.MemoryRegions.{state_of}
use Rattle.region_memory.specs.declared.no_faults.NoFaults.{NoFaults}
use Rattle.region_memory.specs.declared.memory_region.MemoryRegion.{MemoryRegion}

-- its calls, of which none is to fail
abbrev pub steady_calls : NoFaults → Plan
steady_calls p = record {
  opens = record { made = p.opens; failing = [] };
  fences = record { made = p.fences; failing = [] };
  in_pieces = [];
}

abbrev pub steady_state : MemoryRegion NoFaults → State
steady_state = state_of (λ p. no_faults)
