use Rattle.std.proofs.Common.{◌∷◌, [], refl, sym, subst, arith}
use Rattle.core_index.specs.Records.{opened_with, untold}
use Rattle.core_index.specs.Index.{KeepsWaiting}
use Rattle.core_index.proofs.IndexLaws.{EntersTwin, entry_name, lone_waiting, twin_enters, twin_waiting}
use Rattle.core_index.proofs.entering.enter_twin.Goals as goal

pub returns-in_err-add_older-clause-waits : goal.returns-in_err-add_older-clause-waits
returns-in_err-add_older-clause-waits c =
    let es = c.args.slots.now.entries in
    let known = opened_with c.args.last.version c.args.body.now (c.args.last ∷ []) in
    subst (KeepsWaiting es c.args.start.now) (sym c.in_err-add_older.ensures.err) (lone_waiting es c.args.start.now c.enter_lone.new.start c.args.key known (c.in_ok-enter_lone.ensures.enters c.if-not-branch.false))

abbrev twin : (c : goal.In_ok-add_older) → EntersTwin c.args.slots.now.entries c.args.start.now c.enter_lone.new.start c.add_older.new.self c.args.key (opened_with c.args.last.version c.args.body.now (c.args.last ∷ [])) c.in-Some.older
twin c =
    let version = c.in-Some.ensures.version in
    let lt = c.requires in
    record {
      lone = c.in_ok-enter_lone.ensures.enters c.if-not-branch.false;
      key = c.in-Some.ensures.key;
      added = c.in_ok-add_older.ensures.ok;
      entry = untold c.args.older;
      entry_is = c.in-Some.ensures.standing;
      name = entry_name c.in-Some.older (untold c.args.older) c.in-Some.ensures.standing refl;
      below = omega (arith, version, lt);
    }

pub returns-clause-enters : goal.returns-clause-enters
returns-clause-enters c = λ _. twin_enters c.args.slots.now.entries c.args.start.now c.enter_lone.new.start c.add_older.new.self c.args.key (opened_with c.args.last.version c.args.body.now (c.args.last ∷ [])) c.in-Some.older (twin c)

pub returns-clause-waits : goal.returns-clause-waits
returns-clause-waits c = twin_waiting c.args.slots.now.entries c.args.start.now c.enter_lone.new.start c.add_older.new.self c.args.key (opened_with c.args.last.version c.args.body.now (c.args.last ∷ [])) c.in-Some.older ((refl, tt), omega arith) (twin c)
