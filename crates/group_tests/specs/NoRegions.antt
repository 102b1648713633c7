-- A region of one line that keeps nothing.
use Rattle.std.specs.Prelude.{◌-◌, ◌^◌, false, []}
use Rattle.pm_region.specs.Cell.{certain}
use Rattle.pm_region.specs.State.{State}

-- It tells nothing at any moment, and its stamp stands at the type's end.
abbrev pub no_state : State
no_state = record {
  frame = record {
    first = 0;
    words = 8;
    since = 0;
    parted = false;
    cuts = [];
    bytes = 64;
    refusals = 0;
    opens = 0;
    validations = 0;
  };
  stamp = 2 ^ 64 - 1;
  faults = 0;
  told = λ t. false;
  cells = λ t w. certain 0;
}
