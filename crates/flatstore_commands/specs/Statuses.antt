-- Exit statuses, and the lines on standard error.
use Rattle.std.specs.Prelude.{ℕ, List, [], ◌++◌, codes, decimal}
use Rattle.store_image.specs.declared.types.Fault.{Fault}
use Rattle.store_image.specs.declared.types.Fault.TheVariants as faults
use Rattle.flatstore_commands.specs.declared.report.Status.{Status}
use Rattle.flatstore_commands.specs.declared.report.Status.TheVariants.{Done, Usage, BadInput, SourceFault, SinkFault, RegionFault, Damaged, NotARegion, Memory}

-- a region that breaks a rule
abbrev pub fault_status : Fault → Status
fault_status (faults.NotARegion rule) = NotARegion rule
fault_status (faults.Damaged part chunk rule) = Damaged part chunk rule

abbrev pub exit_code : Status → ℕ
exit_code Done = 0
exit_code Usage = 1
exit_code (BadInput line rule) = 2
exit_code SourceFault = 3
exit_code SinkFault = 4
exit_code RegionFault = 5
exit_code (Damaged part chunk rule) = 6
exit_code (NotARegion rule) = 7
exit_code Memory = 8

abbrev pub damage_line : ℕ → ℕ → ℕ → List ℕ
damage_line part chunk rule =
    codes "flatstore: damaged region: part " ++ (decimal part
    ++ (codes " chunk " ++ (decimal chunk ++ (codes " rule " ++ decimal rule))))

abbrev pub fault_line : Status → List ℕ
fault_line Done = []
fault_line Usage = codes "flatstore: usage: flatstore format REGION --cores N --group N --chunks N --chunk-bytes N, replay REGION, run REGION, dump REGION, log REGION, load REGION START COUNT, scan REGION, audit REGION WORKERS"
fault_line (BadInput line rule) =
    codes "flatstore: line " ++ (decimal line ++ (codes " breaks input rule " ++ decimal rule))
fault_line SourceFault = codes "flatstore: reading the input failed"
fault_line SinkFault = codes "flatstore: writing the output failed"
fault_line RegionFault = codes "flatstore: the region failed"
fault_line (Damaged part chunk rule) = damage_line part chunk rule
fault_line (NotARegion rule) = codes "flatstore: not a region: rule " ++ decimal rule
fault_line Memory = codes "flatstore: out of memory"
