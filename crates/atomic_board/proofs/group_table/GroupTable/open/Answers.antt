use Rattle.std.proofs.Common.{◌≡◌, ℕ, ◌+◌, ◌*◌, ◌<◌, ◌≤◌, length, [], replicate, get_or, sym, ap, ◌∙◌, subst, arith, None}
use Rattle.atomic_table.specs.Table.{opening}
use Rattle.group_laws.specs.Invariant.{Lawful}
use Rattle.group_laws.specs.Places.{members}
use Rattle.group_board.proofs.Clients.{opened_few, opened_lawful}
use Rattle.atomic_board.specs.declared.seat_data.Origin.{Origin}
use Rattle.atomic_board.specs.declared.seat_data.SeatData.TheVariants.{Store}
use Rattle.atomic_board.specs.TableWords.{word_count}
use Rattle.atomic_board.specs.Deeds.{began, size}
use Rattle.atomic_board.specs.ShownState.{ShowsLawful}
use Rattle.atomic_board.proofs.RuleOpened.{opens}
use Rattle.atomic_board.proofs.NewSeats.{began_is, begun_covers, square_low, zeros, many, opened_some}
use Rattle.atomic_board.proofs.group_table.GroupTable.open.Goals as goal

pub overflow_add-word_count : goal.overflow_add-word_count
overflow_add-word_count g c = let few = subst (λ (n : ℕ). n ≤ 8) c.requires.members (opened_few g.O.Opening.bytes g.O.Opening.group g.O.Opening.words c.requires.sound c.requires.group) in
    let low = square_low c.args.members few in omega (arith, low, few)

pub vacant-requires : goal.vacant-requires
vacant-requires g c =
    let b : Origin = record { group = g.O.Opening.group; words = g.O.Opening.words } in
    let few = subst (λ (n : ℕ). n ≤ 8) c.requires.members (opened_few g.O.Opening.bytes g.O.Opening.group g.O.Opening.words c.requires.sound c.requires.group) in
    let is : size b ≡ c.args.members = ap (λ w. members w.place) (began_is b) ∙ c.requires.members in
    let z : ℕ = 0 in let plan = c.in_ok-plan.ensures in let items = c.in_ok-words.ensures.items_if_clones_equal in let deref = c.deref.ensures.value in let all = deref ∙ items (λ y e. e) in
    subst (λ (x : Origin). ShowsLawful x (opening c.deref.result.now (replicate (16 * c.args.members) None) (Store 0 x []))) (sym plan)
    (subst (λ (k : ℕ). ShowsLawful b (opening c.deref.result.now (replicate (16 * k) None) (Store 0 b []))) is
    (opens b c.deref.result.now (subst (λ (k : ℕ). k ≤ 8) (sym is) few) (ap length all ∙ (many z (1 + 9 * c.args.members + c.args.members * c.args.members) ∙ ap word_count (sym is))) (λ i. ap (λ l. get_or l i 0) all ∙ zeros z i (1 + 9 * c.args.members + c.args.members * c.args.members)) (begun_covers g.O.Opening.bytes b c.requires.sound c.requires.group) (subst Lawful (sym (began_is b)) (opened_lawful g.O.Opening.bytes g.O.Opening.group g.O.Opening.words c.requires.sound c.requires.group))))

pub invariant_of-result : goal.invariant_of-result
invariant_of-result g c =
    let b : Origin = record { group = g.O.Opening.group; words = g.O.Opening.words } in
    let few = subst (λ (n : ℕ). n ≤ 8) c.requires.members (opened_few g.O.Opening.bytes g.O.Opening.group g.O.Opening.words c.requires.sound c.requires.group) in
    let is : size b ≡ c.args.members = ap (λ w. members w.place) (began_is b) ∙ c.requires.members in
    let some = subst (λ (n : ℕ). 0 < n) c.requires.members (opened_some g.O.Opening.bytes g.O.Opening.words c.requires.sound) in
    let z : ℕ = 0 in let items = c.in_ok-words.ensures.items_if_clones_equal in let deref = c.deref.ensures.value in let all = deref ∙ items (λ y e. e) in
    let made = c.in_ok-table.ensures in let key = ap (λ x. x.me.0) made.5 ∙ c.in_ok-plan.ensures in record {
      few = (some, few);
      room = (c.in_ok-report.ensures.items, c.in_ok-report.ensures.capacity);
      wide = made.0 ∙ (ap length all ∙ many z (1 + 9 * c.args.members + c.args.members * c.args.members));
      sized = ap size key ∙ is;
      rest_here = c.new-rest.ensures.0 ∙ made.2;
      store = c.new-rest.ensures.1 ∙ (ap (λ x. x.0) made.4 ∙ ap (λ x. Store 0 x.me.0 []) (sym made.5));
    }

pub returns-clause-opened : goal.returns-clause-opened
returns-clause-opened g c =
    let b : Origin = record { group = g.O.Opening.group; words = g.O.Opening.words } in
    ap (λ x. began x.me.0) c.in_ok-table.ensures.5 ∙ (ap began c.in_ok-plan.ensures ∙ began_is b)
