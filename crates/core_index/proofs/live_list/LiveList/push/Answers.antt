use Rattle.std.proofs.Common.{◌≡◌, ◌++◌, ◌∷◌, [], ℕ, List, Some, ap, ◌∙◌, sym, subst, rules}
use Rattle.core_index.specs.declared.types.LiveKey.{LiveKey}
use Rattle.core_index.specs.Index.{TurnsAt}
use Rattle.core_index.specs.Lives.{live_place, Lives, AreLives, live_key, bytes_in, IsWithin, places_of, placed_lives, AllLess}
use Rattle.core_index.proofs.StepLaws.{err_is}
use Rattle.core_index.proofs.LiveLaws.{pushed_lives, pushed_turns, places_more}
use Rattle.core_index.proofs.live_list.LiveList.push.Goals as goal

pub invariant_of-self-2 : goal.invariant_of-self-2
invariant_of-self-2 c =
    let xs = c.self.inside.items.items in
    let b = c.self.inside.bytes.items in
    let m = bytes_in c.args.body.now in
    let items : c.push.new.self.items ≡ xs ++ c.args.live ∷ [] = search rules in
    let bytes : c.add_bytes.new.bytes.items ≡ b ++ m = search rules in
    let above : AllLess xs (live_key c.args.live) = subst (λ (a : Lives). AllLess a.items (live_key c.args.live)) (sym c.self.view_is) c.requires.above in
    let within : IsWithin (b ++ m) c.args.live.held = subst (λ (a : Lives). IsWithin (a.bytes ++ m) c.args.live.held) (sym c.self.view_is) c.requires.within in
    subst (λ (ys : List LiveKey). AreLives ys c.add_bytes.new.bytes.items) (sym items) (subst (λ (d : List ℕ). AreLives (xs ++ c.args.live ∷ []) d) (sym bytes) (pushed_lives xs b m c.args.live c.self.invariant above within))

pub returns-clause-ok : goal.returns-clause-ok
returns-clause-ok c =
    let xs = c.self.inside.items.items in
    let b = c.self.inside.bytes.items in
    let m = bytes_in c.args.body.now in
    let x = c.args.live in
    let items : c.push.new.self.items ≡ xs ++ x ∷ [] = search rules in
    let bytes : c.add_bytes.new.bytes.items ≡ b ++ m = search rules in
    let above : AllLess xs (live_key x) = subst (λ (a : Lives). AllLess a.items (live_key x)) (sym c.self.view_is) c.requires.above in
    let turns : TurnsAt (places_of b xs) (places_of (b ++ m) (xs ++ x ∷ [])) (live_key x) (Some (live_place (b ++ m) x)) = pushed_turns xs b m x c.self.invariant above in
    let wrote : TurnsAt (places_of b xs) (places_of c.add_bytes.new.bytes.items c.push.new.self.items) (live_key x) (Some (live_place (b ++ m) x)) = subst (λ (ys : List LiveKey). TurnsAt (places_of b xs) (places_of c.add_bytes.new.bytes.items ys) (live_key x) (Some (live_place (b ++ m) x))) (sym items) (subst (λ (d : List ℕ). TurnsAt (places_of b xs) (places_of d (xs ++ x ∷ [])) (live_key x) (Some (live_place (b ++ m) x))) (sym bytes) turns) in
    subst (λ (a : Lives). TurnsAt (placed_lives a) (places_of c.add_bytes.new.bytes.items c.push.new.self.items) (live_key x) (Some (live_place (a.bytes ++ m) x))) c.self.view_is wrote

pub returns-in_err-push-clause-err : goal.returns-in_err-push-clause-err
returns-in_err-push-clause-err c =
    let xs = c.self.inside.items.items in
    let b = c.self.inside.bytes.items in
    let m = bytes_in c.args.body.now in
    let items : c.push.new.self.items ≡ xs = search rules in
    let bytes : c.add_bytes.new.bytes.items ≡ b ++ m = search rules in
    err_is c.from_residual-in_err-push.result ((λ i. places_of (bytes i) (items i)) ∙ places_more b m xs c.self.invariant.within ∙ ap placed_lives c.self.view_is)
