use Rattle.std.proofs.Common.{length, arith}
use Rattle.std.proofs.lemmas.Bool.{leb-true, le-leb}
use Rattle.group_machine.proofs.Bytes.{each_byte}
use Rattle.group_machine.proofs.post_step.is_short.Goals as goal

pub returns : goal.returns
returns c = (
  λ t. (leb-true (length c.args.bytes.now) 255 t, each_byte c.args.bytes.now (λ k lt. let f = c.type_inv.bytes k in omega (arith, f))),
  λ p. le-leb (length c.args.bytes.now) 255 (let few = p.0 in omega (arith, few)),
)
