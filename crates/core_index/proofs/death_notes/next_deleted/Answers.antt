use Rattle.std.proofs.Common.{◌≡◌, ◌++◌, ℕ, List, refl, sym, ◌∙◌, ap, subst}
use Rattle.core_index.specs.Records.{Awaits}
use Rattle.core_index.specs.Slots.{Place}
use Rattle.core_index.specs.Tombs.{name_of}
use Rattle.core_index.specs.Index.{IsIndex, ToldAt, all_places, known_at}
use Rattle.core_index.specs.Starts.{started}
use Rattle.core_index.specs.declared.start_keys.StartKeys.{StartKeys}
use Rattle.core_index.proofs.IndexLaws.{told_index, takes_passed, none_awaits, skipped_index}
use Rattle.core_index.proofs.death_notes.next_deleted.Goals as goal

pub returns-then-tell_passed-clause-index : goal.returns-then-tell_passed-clause-index
returns-then-tell_passed-clause-index c =
    let es = c.loop-tombstone.slots.entries in
    let fs = c.tell_passed.new.slots.entries in
    let a = c.loop-tombstone.start in
    let d = c.pass.new.self in
    let e = c.tell_passed.new.start in
    let b = c.args.notices.now in
    let t = c.in-Some.tombstone in
    let same : all_places es d ≡ all_places es a = ap (λ (ps : List (ℕ × Place)). es ++ ps) c.pass.ensures.same in
    let told : ToldAt (all_places es a) (all_places fs e) c.args.home (name_of t) = subst (λ (xs : List (ℕ × Place)). ToldAt xs (all_places fs e) c.args.home (name_of t)) same (c.tell_passed.ensures.told c.if-tell_passed.true) in
    told_index es fs a e b b c.args.home (name_of t) c.loop-tombstone.invariant.index (takes_passed a d e b c.args.home t c.in-Some.ensures.others c.tell_passed.ensures.ahead) refl told (c.tell_passed.ensures.mortal c.if-tell_passed.true)

pub returns-clause-none : goal.returns-clause-none
returns-clause-none c = λ name waits.
    let es = c.loop-tombstone.slots.entries in
    let a = c.loop-tombstone.start in
    let is = c.loop-tombstone.invariant in
    let same : all_places c.args.slots.now.entries c.args.start.now ≡ all_places es a = λ i. sym is.same i ++ sym is.places i in
    none_awaits es a c.args.notices.now c.args.home is.index c.requires.none c.in_default.ensures.none name (subst (λ (xs : List (ℕ × Place)). Awaits (known_at xs name.key) c.args.home name.version) same waits)

pub loop-tombstone-preserved : goal.loop-tombstone-preserved
loop-tombstone-preserved c =
    let es = c.loop-tombstone.slots.entries in
    let a = c.loop-tombstone.start in
    let d = c.pass.new.self in
    let b = c.args.notices.now in
    let t = c.in-Some.tombstone in
    let is = c.loop-tombstone.invariant in
    let slots = c.tell_passed.ensures.unchanged c.if-tell_passed.false in
    let start = c.tell_passed.ensures.unchanged_left c.if-tell_passed.false in
    let index = skipped_index es a d b c.args.home t is.index c.in-Some.ensures.others c.pass.ensures.same (c.tell_passed.ensures.none c.if-tell_passed.false) in
    record {
      same = slots ∙ is.same;
      places = ap started start ∙ c.pass.ensures.same ∙ is.places;
      index = subst (λ (xs : List (ℕ × Place)). IsIndex xs c.tell_passed.new.start b) (sym slots) (subst (λ (x : StartKeys). IsIndex es x b) (sym start) index);
    }
