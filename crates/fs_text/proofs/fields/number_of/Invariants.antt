use Rattle.std.proofs.Common.{◌≡◌, true, ◌+◌, ◌*◌, ◌-◌, ◌^◌, ◌<◌, take}
use Rattle.std.specs.List.{list_all, fold}
use Rattle.fs_text.specs.Input.{is_digit}
use Rattle.fs_text.proofs.fields.number_of.Given as goal

abbrev pub invariant-loop-digit : goal.invariant-loop-digit
invariant-loop-digit l = record {
  digits : list_all is_digit (take l.digit-index l.bytes) ≡ true;
  value : l.number ≡ fold (λ n b. 10 * n + (b - 48)) 0 (take l.digit-index l.bytes);
  small : l.number < 2 ^ 64;
}
