use Rattle.std.proofs.Common.{◌≡◌, ◌++◌, length}
use Rattle.region_file.specs.Reads.{reads_of}
use Rattle.region_file.proofs.read_pages.read_pages.Given as goal

abbrev pub invariant-loop-page : goal.invariant-loop-page
invariant-loop-page l = record {
  count : length l.bytes.items ≡ l.count;
  calls : l.device.calls.made ≡ reads_of l.bytes.items l.page ++ l.initial.device.calls.made;
}
