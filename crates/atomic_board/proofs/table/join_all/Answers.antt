use Rattle.std.proofs.Common.{◌≡◌, ◌++◌, length, [], ◌∷◌, sym, ap, ◌∙◌, subst, arith, append-nil, append_assoc}
use Rattle.group_board.specs.Seats.{SeatAt}
use Rattle.atomic_board.specs.declared.member_seat.MemberSeat.{MemberSeat}
use Rattle.atomic_board.specs.Deeds.{place_of}
use Rattle.atomic_board.specs.MemberSeats.{origin_at}
use Rattle.atomic_board.specs.StepTells.{SeatState, joined}
use Rattle.atomic_board.specs.Tokens.{HasFrom}
use Rattle.atomic_board.proofs.TableEnd.{token_there, last_member, has_none, has_more}
use Rattle.atomic_board.proofs.table.join_all.Goals as goal

pub apart-own-requires : goal.apart-own-requires
apart-own-requires c = let shared = c.args.shared.now in
    last_member shared.table_id shared.key.me.0 c.args.tokens.items c.pop.new.self.items c.in-Some.last c.requires.tokens c.in-Some.ensures.items c.requires.count.1

pub join_one-requires-clause-table : goal.join_one-requires-clause-table
join_one-requires-clause-table c = let shared = c.args.shared.now in
    let there = token_there shared.table_id (place_of shared.key.me.0) c.args.tokens.items c.pop.new.self.items [] c.in-Some.last c.requires.tokens (c.in-Some.ensures.items ∙ sym (append-nil (c.pop.new.self.items ++ c.in-Some.last ∷ []))) in
    let at = ap (λ (x : SeatAt). x.table) there in
    (c.apart-own.ensures.spare.0 ∙ at, ap (λ (x : MemberSeat). x.seat.table_id) c.apart-own.ensures.own ∙ at)

pub loop-token-init : goal.loop-token-init
loop-token-init c = let shared = c.args.shared.now in let left = c.pop.new.self.items in let last = c.in-Some.last in let ts = c.args.tokens.items in let key = shared.key.me.0 in
    let items : ts ≡ left ++ last ∷ [] = c.in-Some.ensures.items in
    let all : ts ≡ (left ++ last ∷ []) ++ [] = items ∙ sym (append-nil (left ++ last ∷ [])) in
    let there = token_there shared.table_id (place_of key) ts left [] last c.requires.tokens all in
    let own = c.apart-own.ensures.own in let spare = c.apart-own.ensures.spare in let told = c.join_one.ensures.spare in
    let has : HasFrom key ts (length left) (joined c.apart-own.result.1.me.0 last.own.seat.me.0) = has_more key ts [] left last c.apart-own.result.1.me.0 all (ap (λ (x : SeatAt). x.number) there)
    (sym (ap (λ (x : MemberSeat). origin_at x) own) ∙ c.join_one.ensures.origin) (subst (λ l. HasFrom key ts (length l) c.apart-own.result.1.me.0) items (has_none key ts c.apart-own.result.1.me.0 spare.2)) in (
      (last ∷ [], items),
      told.0 ∙ (spare.0 ∙ ap (λ (x : SeatAt). x.table) there),
      ap (λ (x : SeatState). x.1) told.1,
      subst (HasFrom key ts (length left)) (sym (ap (λ (x : SeatState). x.0) told.1 ∙ ap (λ (x : MemberSeat). joined c.apart-own.result.1.me.0 x.seat.me.0) own)) has,
    )

pub join_one-requires-in-Some-pop-clause-table : goal.join_one-requires-in-Some-pop-clause-table
join_one-requires-in-Some-pop-clause-table c = let shared = c.args.shared.now in let left = c.pop-in-loop-token.new.self.items in let token = c.in-Some-pop.token in
    let kept = c.loop-token.invariant in let all : c.args.tokens.items ≡ (left ++ token ∷ []) ++ kept.0.0 = kept.0.1 ∙ ap (λ l. l ++ kept.0.0) c.in-Some-pop.ensures.items in
    (kept.1, ap (λ (x : SeatAt). x.table) (token_there shared.table_id (place_of shared.key.me.0) c.args.tokens.items left kept.0.0 token c.requires.tokens all))

pub loop-token-preserved-in-Some-pop : goal.loop-token-preserved-in-Some-pop
loop-token-preserved-in-Some-pop c = let shared = c.args.shared.now in let left = c.pop-in-loop-token.new.self.items in let token = c.in-Some-pop.token in let ts = c.args.tokens.items in let key = shared.key.me.0 in
    let kept = c.loop-token.invariant in let rest = kept.0.0 in let items = c.in-Some-pop.ensures.items in let all : ts ≡ (left ++ token ∷ []) ++ rest = kept.0.1 ∙ ap (λ l. l ++ rest) items in
    let there = token_there shared.table_id (place_of key) ts left rest token c.requires.tokens all in let told = c.join_one-in-Some-pop.ensures.spare in
    let has = has_more key ts rest left token c.loop-token.spare.me.0 all (ap (λ (x : SeatAt). x.number) there) c.join_one-in-Some-pop.ensures.origin (subst (λ l. HasFrom key ts (length l) c.loop-token.spare.me.0) items kept.3) in (
      (token ∷ rest, all ∙ append_assoc left (token ∷ []) rest),
      told.0 ∙ kept.1,
      ap (λ (x : SeatState). x.1) told.1,
      subst (HasFrom key ts (length left)) (sym (ap (λ (x : SeatState). x.0) told.1)) has,
    )

pub loop-token-preserved : goal.loop-token-preserved
loop-token-preserved c = let shared = c.args.shared.now in let left = c.pop-in-loop-token.new.self.items in let token = c.in-Some-pop.token in let ts = c.args.tokens.items in let key = shared.key.me.0 in
    let kept = c.loop-token.invariant in let rest = kept.0.0 in let items = c.in-Some-pop.ensures.items in let all : ts ≡ (left ++ token ∷ []) ++ rest = kept.0.1 ∙ ap (λ l. l ++ rest) items in
    let there = token_there shared.table_id (place_of key) ts left rest token c.requires.tokens all in let told = c.join_one-in-Some-pop.ensures.spare in
    let has = has_more key ts rest left token c.loop-token.spare.me.0 all (ap (λ (x : SeatAt). x.number) there) c.join_one-in-Some-pop.ensures.origin (subst (λ l. HasFrom key ts (length l) c.loop-token.spare.me.0) items kept.3) in (
      (token ∷ rest, all ∙ append_assoc left (token ∷ []) rest),
      told.0 ∙ kept.1,
      ap (λ (x : SeatState). x.1) told.1,
      subst (HasFrom key ts (length left)) (sym (ap (λ (x : SeatState). x.0) told.1)) has,
    )

pub returns-clause-has : goal.returns-clause-has
returns-clause-has c = let kept = c.loop-token.invariant in let none = c.in_default-pop.ensures.cases in
    subst (λ j. HasFrom c.args.shared.now.key.me.0 c.args.tokens.items j c.loop-token.spare.me.0) (let ok = c.loop-token.tokens.ok in let n = none.0 in let z : length c.loop-token.tokens.items ≡ 0 = omega (arith, ok, n) in z) kept.3
