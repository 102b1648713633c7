use Rattle.std.proofs.Common.{ℕ, List, sym, ◌∙◌, subst}
use Rattle.core_index.specs.declared.start_keys.StartKeys.{StartKeys}
use Rattle.core_index.specs.Slots.{Place}
use Rattle.core_index.specs.Index.{IsIndex}
use Rattle.core_index.specs.Noted.{Book, Noted}
use Rattle.core_index.proofs.IndexLaws.{told_index, takes_noted, passed_index}
use Rattle.core_index.proofs.death_notes.next_dead.Goals as goal

pub returns-then-tell_in-clause-index : goal.returns-then-tell_in-clause-index
returns-then-tell_in-clause-index c =
    let es = c.loop-name.slots.entries in
    let a = c.loop-name.start in
    let e = c.tell_in.new.start in
    told_index es c.tell_in.new.slots.entries a e c.loop-name.notices c.take.new.self c.args.home c.in-Some.name c.loop-name.invariant.index (takes_noted a e c.loop-name.notices c.take.new.self c.args.home c.in-Some.name c.in-Some.ensures.others c.tell_in.ensures.ahead) c.take.ensures.spare (c.tell_in.ensures.told c.if-tell_in.true) (c.tell_in.ensures.mortal c.if-tell_in.true)

pub next_deleted-requires-clause-none : goal.next_deleted-requires-clause-none
next_deleted-requires-clause-none c = λ name noted. c.in_default.ensures.none name (subst (λ (b : Book). Noted b c.args.home name) c.in_default.ensures.unchanged noted)

pub loop-name-preserved : goal.loop-name-preserved
loop-name-preserved c =
    let es = c.loop-name.slots.entries in
    let a = c.loop-name.start in
    let is = c.loop-name.invariant in
    let slots = c.tell_in.ensures.unchanged c.if-tell_in.false in
    let start = c.tell_in.ensures.unchanged_left c.if-tell_in.false in
    let index = passed_index es a c.loop-name.notices c.take.new.self c.args.home c.in-Some.name is.index c.in-Some.ensures.others c.take.ensures.spare (c.tell_in.ensures.none c.if-tell_in.false) in
    record {
      same = slots ∙ is.same;
      left = start ∙ is.left;
      index = subst (λ (xs : List (ℕ × Place)). IsIndex xs c.tell_in.new.start c.take.new.self) (sym slots) (subst (λ (x : StartKeys). IsIndex es x c.take.new.self) (sym start) index);
    }
