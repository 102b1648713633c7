use Rattle.std.proofs.Common.{◌≡◌, ◌≤◌, ◌∷◌, [], List, length, sym, ◌∙◌, ap, subst, arith, length-append}
use Rattle.log_entry.specs.declared.entry.EntryName.{EntryName}
use Rattle.log_standing.specs.NameCounts.{count_of, times_in}
use Rattle.log_cleaner.proofs.GatherLaws.{noted_seen, noted_once, pushed_long}
use Rattle.log_cleaner.proofs.clearing.Clearing.note.Goals as goal

pub invariant_of-self : goal.invariant_of-self
invariant_of-self c =
    let was = c.self.invariant in
    let old = c.self.inside in
    let items = c.push_if.ensures.items in
    let long = ap (λ (l : List EntryName). length l) items ∙ length-append old.names.items (c.args.name ∷ []) in
    let more = ap (λ (l : List EntryName). length l) c.push_if-2.ensures.items in
    let most = pushed_long c.if-is_dead.doomed old.doomed.items c.args.name in
    let room = c.add.ensures.room in
    let a = was.names_fit in
    let b = was.doomed_fit in
    let d = was.fewer in
    let cap = c.push_if.ensures.capacity in
    let cap_2 = c.push_if-2.ensures.capacity in
    let none : count_of old.seen c.args.name.key c.args.name.version ≡ 0 = omega (arith, c.copies.ensures) in
    record {
      names_fit = omega (arith, long, room, a, cap);
      doomed_fit = omega (arith, long, room, b, cap_2);
      fewer = omega (arith, long, more, most, d);
      seen = λ k v. noted_seen old.seen c.add.new.self old.names.items c.args.name was.seen c.add.ensures.added k v ∙ sym (ap (λ (l : List EntryName). times_in l k v) items);
      once = λ k v. subst (λ (l : List EntryName). times_in l k v ≤ 1) (sym items) (noted_once old.names.items c.args.name (sym (was.seen c.args.name.key c.args.name.version) ∙ none) was.once k v);
    }
