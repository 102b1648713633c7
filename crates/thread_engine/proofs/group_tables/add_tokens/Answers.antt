use Rattle.std.proofs.Common.{[], ◌∷◌, ◌++◌, refl, sym, ◌∙◌, ap, subst, append_assoc, append-nil}
use Rattle.std.proofs.lemmas.List.{nil_from_length}
use Rattle.atomic_board.specs.declared.group_table.GroupTable.{GroupTable}
use Rattle.atomic_board.specs.GroupTables.{id_of, origin_of, group_place}
use Rattle.atomic_board.specs.Tokens.{AreTokens, AreFresh}
use Rattle.thread_engine.proofs.group_tables.add_tokens.Goals as goal

pub loop-seat-init : goal.loop-seat-init
loop-seat-init c = record { split = refl; tokens = sym (append-nil c.args.tokens.now.items) }

pub loop-seat-preserved : goal.loop-seat-preserved
loop-seat-preserved c =
    let I = c.loop-seat.invariant in record {
      split = I.split ∙ ap (λ xs. c.loop-seat.yielded ++ xs) c.in-Some.ensures.steps.0 ∙ sym (append_assoc c.loop-seat.yielded (c.in-Some.seat ∷ []) c.next.new.self.rest.items);
      tokens = c.in_ok-push.ensures.items ∙ ap (λ l. l ++ c.in-Some.seat ∷ []) I.tokens ∙ append_assoc c.args.tokens.now.items c.loop-seat.yielded (c.in-Some.seat ∷ []);
    }

pub returns-clause-have_tokens : goal.returns-clause-have_tokens
returns-clause-have_tokens c =
    let I = c.loop-seat.invariant in
    let over = nil_from_length c.loop-seat.seat-iterator.rest.items (sym c.loop-seat.seat-iterator.rest.ok.0 ∙ c.in-None.ensures.steps.0) in
    let all = sym c.into_iter-seat-iterator.ensures.into_iter_gives.0 ∙ I.split ∙ ap (λ xs. c.loop-seat.yielded ++ xs) over ∙ append-nil c.loop-seat.yielded in
    let same = c.in_ok-seats.ensures.same in record {
      own = c.in_ok-seats.seats.items;
      added = I.tokens ∙ ap (λ l. c.args.tokens.now.items ++ l) (sym all);
      count = c.in_ok-seats.ensures.count ∙ sym (ap (λ (t : GroupTable). t.members) same);
      tokens = subst (λ (t : GroupTable). AreTokens (id_of t) (group_place t) c.in_ok-seats.seats.items) (sym same) c.in_ok-seats.ensures.tokens;
      fresh = subst (λ (t : GroupTable). AreFresh (origin_of t) c.in_ok-seats.seats.items) (sym same) c.in_ok-seats.ensures.fresh;
      idle = c.in_ok-seats.ensures.idle;
    }
