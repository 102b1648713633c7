use Rattle.std.proofs.Common.{◌≡◌, ℕ, true, Some, Option, ◌&&◌, not, refl, sym, inl, inr, subst}
use Rattle.std.specs.Ordering.{nat_cmp}
use Rattle.std.specs.BTreeMap.{get, is_at}
use Rattle.std.specs.Map.Iter.{deref_pair}
use Rattle.std.proofs.lemmas.Map.Views.{All-turn}
use Rattle.store_image.specs.Facts.{In}
use Rattle.group_laws.specs.declared.types.Block.{Block}
use Rattle.group_laws.specs.Steps.{is_of, points_at}
use Rattle.group_machine.proofs.Entries.{number_key, met}
use Rattle.group_machine.proofs.finishing.replaced.Goals as goal

pub loop-pointer-preserved : goal.loop-pointer-preserved
loop-pointer-preserved c =
    let given = c.into_iter-pointer-iterator.ensures.into_iter_gives in
    let m = c.args.blocks.now in
    let k = c.args.key in
    let body = c.args.body.now in
    let p = c.in-Some.pointer.now in
    let d = c.in-Some.block.now in
    let found = All-turn deref_pair (λ (e : ℕ × Block). get nat_cmp m e.0 ≡ Some e.1) _ _ _ _ _ _ _ given.6 given.0 c.loop-pointer.yielded_by c.in-Some.is c.next.ensures.steps in
    let added = c.in_ok-add_replaced.ensures in
    record {
      only = λ q i. elim ((added q).0 i) [
        | inl j ↦ c.loop-pointer.invariant.only q j
        | inr j ↦ subst (λ (o : Option Block). (is_of k o && not (points_at body q)) ≡ true) (sym (subst (λ (p : ℕ). get nat_cmp m p ≡ Some d) (sym j.0) found)) j.1
      ];
      all = λ q b at. elim (c.loop-pointer.invariant.all q b at) [
        | inl a ↦ inl (λ t. (added q).1 (inl (a t)))
        | inr l ↦ met (λ (q : ℕ). is_at (nat_cmp q)) number_key (λ (q : ℕ) (b : Block). (is_of k (Some b) && not (points_at body q)) ≡ true → In q c.add_replaced.new.pointers.items) p d c.next.new.self c.loop-pointer.pointer-iterator q b c.in-Some.ensures.steps (λ t. (added p).1 (inr (refl, t))) l
      ];
    }
