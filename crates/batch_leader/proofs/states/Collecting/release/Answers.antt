use Rattle.std.proofs.Common.{◌≡◌, ◌≢◌, true, false, List, [], Bool, refl, ◌∙◌, ap, subst}
use Rattle.std.proofs.lemmas.Bool.{false_from_ne_true}
use Rattle.group_laws.specs.MemberViews.{View}
use Rattle.batch_leader.specs.declared.taken.Taken.{Taken}
use Rattle.batch_leader.specs.TakenChanges.{MatchBool}
use Rattle.batch_leader.proofs.CollectLaws.{unlogged_by}
use Rattle.batch_leader.proofs.states.Collecting.release.Goals as goal

pub returns-else-is_empty-clause-released : goal.returns-else-is_empty-clause-released
returns-else-is_empty-clause-released g c =
    let C = c.requires.collects in
    let v = g.B.Board.view c.args.board.now in
    let u = g.B.Board.view c.unlock.new.self in
    let ts : List Taken = c.args.self.changes.taken.items in
    let view = c.unlock.ensures.view in
    let some : ts ≢ [] = subst (λ (b : Bool). MatchBool b (ts ≡ []) (ts ≢ [])) c.if-is_empty.false c.is_empty.ensures in
    let whole : v.broken ≡ false = false_from_ne_true v.broken (λ e. some (C.broken e)) in (
      record {
        member = C.member;
        out = record { each = C.out.each; taken = λ a s. ap (λ (x : View). x.taken a s) view ∙ C.out.taken a s; apart = C.out.apart };
        flying = ap (λ (x : View). x.flying) view ∙ C.flying whole;
        whole = ap (λ (x : View). x.broken) view ∙ whole;
        own = C.own;
        unlogged = unlogged_by (g.B.Board.seat c.args.board.now).number v u ts (ap (λ (x : View). x.pending) view) (ap (λ (x : View). x.kept) view) C.unlogged;
        named = C.named;
      },
      refl,
      refl,
      refl,
    )
