use Rattle.std.proofs.Common.{◌≡◌, ◌-◌, length, [], ◌∷◌, sym, ap, ◌∙◌, subst, arith, refl}
use lib.ListN.{get_elem?}
use Rattle.atomic_table.proofs.Lists.{at_longer, at_last}
use Rattle.group_laws.specs.MemberViews.{view_of}
use Rattle.atomic_board.specs.declared.token.SeatToken.{SeatToken}
use Rattle.atomic_board.specs.Deeds.{began, place_of}
use Rattle.atomic_board.specs.MemberSeats.{seat_of, view_at, done_at}
use Rattle.atomic_board.specs.Tokens.{AreTokens, AreFresh, AreIdle, member_at}
use Rattle.atomic_board.proofs.EachElement.{each_snoc}
use Rattle.atomic_board.proofs.TableEnd.{at_member}
use Rattle.atomic_board.proofs.table.split_all.Goals as goal

pub split_next-own-requires-clause-held : goal.split_next-own-requires-clause-held
split_next-own-requires-clause-held c = let kept = c.loop-member.invariant in let items = c.in-Some.ensures.items in
    kept.1 (length c.pop.new.self.items) c.in-Some.held (ap (λ l. get_elem? l (length c.pop.new.self.items)) items ∙ at_last c.pop.new.self.items c.in-Some.held (length c.pop.new.self.items) refl)

pub invariant_of-push_reserved : goal.invariant_of-push_reserved
invariant_of-push_reserved c = let told = c.split_next-own.ensures.token in let less = c.loop-member-test.true in let many = c.requires.members in record {
  rides = λ last. absurd (let m = told.1 in let n = told.2 in let some = many.0 in omega (arith, m, n, less, some, last));
  here = tt;
  store = tt;
}

pub loop-member-preserved : goal.loop-member-preserved
loop-member-preserved c = let kept = c.loop-member.invariant in let items = c.in-Some.ensures.items in let pushed = c.push_reserved.ensures in let told = c.split_next-own.ensures in
    let z = c.args.shared.now.table_id in let b = c.args.shared.now.key.me.0 in let at = kept.2 in (
      (let a = kept.0 in let l = c.in-Some.ensures.len in omega (arith, a, l)),
      (λ k h e. kept.1 k h (ap (λ l. get_elem? l k) items ∙ at_longer c.pop.new.self.items (c.in-Some.held ∷ []) k h e)),
      (let a = kept.2 in let n = pushed.len in omega (arith, a, n)),
      (let a = kept.3 in let n = pushed.capacity in omega (arith, a, n)),
      subst (AreTokens z (place_of b)) (sym pushed.items) (each_snoc (λ k (t : SeatToken). seat_of t.own ≡ member_at z (place_of b) k) c.loop-member.tokens.items _ kept.4 (at_member c.split_next-own.result z b (length c.loop-member.tokens.items) told.token.0 told.token.3 (told.token.1 ∙ sym at))),
      subst (AreFresh b) (sym pushed.items) (each_snoc (λ k (t : SeatToken). view_at t.own ≡ view_of (began b) k) c.loop-member.tokens.items _ kept.5 (told.view ∙ ap (view_of (began b)) (sym at))),
      told.spare.0 ∙ kept.6,
      told.spare.1,
      subst AreIdle (sym pushed.items) (each_snoc (λ k (t : SeatToken). done_at t.own ≡ []) c.loop-member.tokens.items _ kept.8 told.idle),
    )

pub split_next-own-requires-2-clause-held : goal.split_next-own-requires-2-clause-held
split_next-own-requires-2-clause-held c = let kept = c.loop-member.invariant in let items = c.in-Some-pop.ensures.items in
    kept.1 (length c.pop-2.new.self.items) c.in-Some-pop.held (ap (λ l. get_elem? l (length c.pop-2.new.self.items)) items ∙ at_last c.pop-2.new.self.items c.in-Some-pop.held (length c.pop-2.new.self.items) refl)

pub returns-clause-tokens : goal.returns-clause-tokens
returns-clause-tokens c = let kept = c.loop-member.invariant in let pushed = c.push_reserved-2.ensures in let told = c.split_next-own-2.ensures.token in
    let z = c.args.shared.now.table_id in let b = c.args.shared.now.key.me.0 in let n = c.loop-member.auto.member-end in let stop = c.loop-member-test.false in let long = kept.2 in let some = c.requires.members.0 in let number = told.1 in
    subst (AreTokens z (place_of b)) (sym pushed.items) (each_snoc (λ k (t : SeatToken). seat_of t.own ≡ member_at z (place_of b) k) c.loop-member.tokens.items _ kept.4 (at_member c.split_next-own-2.result z b (length c.loop-member.tokens.items) told.0 told.3 (omega (arith, n, stop, long, some, number))))

pub returns-clause-fresh : goal.returns-clause-fresh
returns-clause-fresh c = let kept = c.loop-member.invariant in let pushed = c.push_reserved-2.ensures in let told = c.split_next-own-2.ensures in
    let b = c.args.shared.now.key.me.0 in let n = c.loop-member.auto.member-end in let stop = c.loop-member-test.false in let long = kept.2 in let some = c.requires.members.0 in
    let at : c.args.members - 1 ≡ length c.loop-member.tokens.items = omega (arith, n, stop, long, some) in
    subst (AreFresh b) (sym pushed.items) (each_snoc (λ k (t : SeatToken). view_at t.own ≡ view_of (began b) k) c.loop-member.tokens.items _ kept.5 (told.view ∙ ap (view_of (began b)) at))

pub returns-clause-idle : goal.returns-clause-idle
returns-clause-idle c = let kept = c.loop-member.invariant in subst AreIdle (sym c.push_reserved-2.ensures.items) (each_snoc (λ k (t : SeatToken). done_at t.own ≡ []) c.loop-member.tokens.items _ kept.8 c.split_next-own-2.ensures.idle)
