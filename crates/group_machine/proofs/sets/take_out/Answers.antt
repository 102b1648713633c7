use Rattle.std.proofs.Common.{◌≡◌, ℕ, Bool, true, false, cond, ◌&&◌, ◌||◌, eqb, None, Option, List, take, get_or, refl, sym, ap, ◌∙◌}
use Rattle.std.proofs.lemmas.List.{take_all}
use Rattle.std.specs.BTreeMap.{get}
use Rattle.log_entry.specs.declared.entry.EntryName.{EntryName}
use Rattle.group_laws.specs.Updates.{has}
use Rattle.group_machine.specs.Shows.{pair_cmp}
use Rattle.group_machine.proofs.Pairs.{pair_put, swapped}
use Rattle.group_machine.proofs.NameLists.{has_more}
use Rattle.group_machine.proofs.sets.take_out.Goals as goal

both_out : (a b : Bool) (o : Option ℕ) → cond a None (cond b None o) ≡ cond (b || (a || false)) None o
both_out true true o = refl
both_out true false o = refl
both_out false true o = refl
both_out false false o = refl

pub loop-name-preserved : goal.loop-name-preserved
loop-name-preserved c = λ k n.
    let d : EntryName = record { key = 0; version = 0 } in
    let xs = c.args.names.now in
    let i = c.loop-name.name-index in
    let x = get_or xs i d in
    let o = get pair_cmp c.args.present.now (k, n) in
    pair_put (λ (o : Option ℕ). o) c.loop-name.present c.remove.new.self x.key x.version None c.remove.ensures.updates k n
    ∙ ap (cond (eqb k x.key && eqb n x.version) None) (c.loop-name.invariant k n)
    ∙ ap (λ (b : Bool). cond b None (cond (has (take i xs) k n) None o)) (λ j. swapped k x.key j && swapped n x.version j)
    ∙ both_out (eqb x.key k && eqb x.version n) (has (take i xs) k n) o
    ∙ ap (λ (b : Bool). cond b None o) (sym (has_more xs i d k n c.loop-name-test.true))

pub returns : goal.returns
returns c = λ k n. c.loop-name.invariant k n ∙ ap (λ (xs : List EntryName). cond (has xs k n) None (get pair_cmp c.args.present.now (k, n))) (take_all c.loop-name.name-index c.args.names.now c.loop-name-test.false)
