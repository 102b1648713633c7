use Rattle.std.proofs.Common.{◌≡◌, ◌-◌, ◌%◌, ℕ, ap, subst, arith}
use Rattle.chunk_map.specs.declared.layouts.Geometry.{Geometry}
use Rattle.core_worker.proofs.Filing.{FiledUpto, filed_all}
use Rattle.core_worker.proofs.gone_mail.file_gone.Goals as goal

pub returns : goal.returns
returns c =
    let l = c.args.layout.now in
    let group = ap (λ (g : Geometry). g.group) c.geometry-group.ensures.value in
    let end : c.loop-to.to ≡ l.group = (let a = c.loop-to-test.false in let b = c.loop-to.auto.to-end in omega (arith, a, b, group)) in
    record {
      files = filed_all l c.args.core c.args.names.now c.args.boxes.now.items c.loop-to.boxes.items c.requires.count
          (subst (λ (n : ℕ). FiledUpto l (c.args.core - c.args.core % n) c.args.core c.args.names.now l.group c.args.boxes.now.items c.loop-to.boxes.items) group
          (subst (λ (i : ℕ). FiledUpto l (c.args.core - c.args.core % c.geometry-group.result.group) c.args.core c.args.names.now i c.args.boxes.now.items c.loop-to.boxes.items) end c.loop-to.invariant));
    }
