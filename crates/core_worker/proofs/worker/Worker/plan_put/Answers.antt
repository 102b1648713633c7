-- The causes in their order, and the numbers that were found.
use Rattle.std.proofs.Common.{rules, ◌<◌, ◌≡◌, ◌⊎◌, ⊎_elim, true, None, length, refl, sym, ◌∙◌, ap, subst, arith}
use Rattle.std.specs.List.{AllByRecursion}
use Rattle.log_entry.specs.Words.{byte_range}
use Rattle.chunk_map.specs.declared.layouts.Geometry.{Geometry}
use Rattle.chunk_map.specs.Layouts.{is_class}
use Rattle.core_room.proofs.Clients.{class_in_layout}
use Rattle.core_room.specs.Lengths.{class_for, lines_needed}
use Rattle.core_room.specs.RoomRule.{may_cut}
use Rattle.fs_model.specs.declared.model.Request.TheVariants.{Put}
use Rattle.core_worker.specs.Supplies.{supply_of}
use Rattle.core_worker.specs.Plans.{IsCauseOf}
use Rattle.core_worker.proofs.RefusalLaws.{put_found}
use Rattle.core_worker.proofs.worker.Worker.plan_put.Goals as goal

pub supply_for-requires-clause-class : goal.supply_for-requires-clause-class
supply_for-requires-clause-class c =
    let short = c.if-length-longest_value.false in
    let longest = c.longest_value.ensures.value in
    let fits = class_in_layout c.args.self.now.layout c.longest_value.ensures.rules c.byte_count-length.result (omega (arith, short, longest)) in
    subst (λ (g : Geometry). (c.class_or_zero-class.result ≡ 0) ⊎ (is_class g c.class_or_zero-class.result ≡ true)) (sym c.requires.measured.layout)
    (subst (λ n. (n ≡ 0) ⊎ (is_class c.args.self.now.layout n ≡ true)) (sym c.class_or_zero-class.ensures) fits)

pub returns-in_err-supply-clause-cause : goal.returns-in_err-supply-clause-cause
returns-in_err-supply-clause-cause c =
    let short = c.if-length-longest_value.false in
    let longest = c.longest_value.ensures.value in
    let w = c.args.self.now in
    let count = c.byte_count-length.ensures.count ∙ ap length c.bytes.ensures in
    let found = put_found w c.args.key c.args.value c.byte_count-length.result c.lines_needed-lines.result c.class_or_zero-class.result count c.lines_needed-lines.ensures c.class_or_zero-class.ensures (omega (arith, short, longest)) (⊎_elim (λ bad. absurd (cc bad)) (λ left. left) c.in-Ok.ensures.left) _ c.in_err-supply.ensures.lacks in
    let cause : IsCauseOf w (Put c.args.key c.args.value) c.in_err-supply.field-0.0 = λ cell live. found in
    search (rules, cause)

pub returns-then-length-lt-SHORTEST_IN_BLOCK-clause-plan : goal.returns-then-length-lt-SHORTEST_IN_BLOCK-clause-plan
returns-then-length-lt-SHORTEST_IN_BLOCK-clause-plan c =
    let short = c.if-length-longest_value.false in
    let longest = c.longest_value.ensures.value in
    let w = c.args.self.now in
    let n = c.byte_count-length.result in
    let count = c.byte_count-length.ensures.count ∙ ap length c.bytes.ensures in
    let few = c.if-length-lt-SHORTEST_IN_BLOCK.true in (
      refl,
      record {
        unrefused = put_found w c.args.key c.args.value n c.lines_needed-lines.result c.class_or_zero-class.result count c.lines_needed-lines.ensures c.class_or_zero-class.ensures (omega (arith, short, longest)) (⊎_elim (λ bad. absurd (cc bad)) (λ left. left) c.in-Ok.ensures.left) None c.in_ok-supply.ensures.fits;
        version_is = c.in-Ok.ensures.next;
        short = omega (arith, few, count);
        bytes = subst (AllByRecursion (λ b. b < byte_range)) c.bytes.ensures c.byte_count-length.ensures.bytes;
      },
    )

pub returns-clause-plan : goal.returns-clause-plan
returns-clause-plan c =
    let short = c.if-length-longest_value.false in
    let longest = c.longest_value.ensures.value in
    let w = c.args.self.now in
    let n = c.byte_count-length.result in
    let count = c.byte_count-length.ensures.count ∙ ap length c.bytes.ensures in
    let long = c.if-length-lt-SHORTEST_IN_BLOCK.false in (
      refl,
      record {
        unrefused = put_found w c.args.key c.args.value n c.lines_needed-lines.result c.class_or_zero-class.result count c.lines_needed-lines.ensures c.class_or_zero-class.ensures (omega (arith, short, longest)) (⊎_elim (λ bad. absurd (cc bad)) (λ left. left) c.in-Ok.ensures.left) None c.in_ok-supply.ensures.fits;
        version_is = c.in-Ok.ensures.next;
        long = omega (arith, long, count);
        class_is = c.class_or_zero-class.ensures ∙ ap class_for count;
        cuts_is = c.may_cut-may_cut.ensures ∙ (λ i. may_cut (c.in_ok-supply.ensures.supply i) (c.lines_needed-lines.ensures i)) ∙ ap (λ k. may_cut (supply_of w) (lines_needed k)) count;
      },
    )
