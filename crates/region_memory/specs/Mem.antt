-- What a region with a plan of faults says of itself.
use Rattle.region_memory.specs.Plans.{numbers_in, FaultCounts, Plan}
use Rattle.region_memory.specs.declared.plan.Faults.{Faults}
use Rattle.region_memory.specs.declared.plan.PlannedFaults.{PlannedFaults}
use Rattle.pm_region.specs.State.{State}
use Rattle.region_memory.specs.MemoryRegions.{state_of, plan_of}
use Rattle.region_memory.specs.declared.memory_region.MemoryRegion.{MemoryRegion}

abbrev pub planned_counts : PlannedFaults → FaultCounts
planned_counts p = record { faults = p.faults; refusals = p.refusals }

abbrev pub planned_calls : PlannedFaults → Plan
planned_calls p = record {
  opens = record { made = p.opens; failing = p.plan.opens.items };
  fences = record { made = p.fences; failing = p.fails.items };
  in_pieces = p.plan.fences.items;
}

abbrev pub mem_state : MemoryRegion PlannedFaults → State
mem_state = state_of planned_counts

-- which of its calls are to fail, and how many it made
abbrev pub mem_plan : MemoryRegion PlannedFaults → Plan
mem_plan = plan_of planned_calls

-- the plan of a new region
abbrev pub planned : Faults → Plan
planned faults = record {
  opens = record { made = 0; failing = faults.opens.items };
  fences = record { made = 0; failing = numbers_in 0 faults.fences.items };
  in_pieces = faults.fences.items;
}
