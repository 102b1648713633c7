use Rattle.std.proofs.Common.{◌≡◌, ◌+◌, ◌-◌, ◌<◌, ◌++◌, ◌∷◌, [], ℕ, List, length, take, drop, get_or, refl, sym, ◌∙◌, ap, subst, arith, rules, vec_len}
use Rattle.std.proofs.lemmas.List.{take_more, take_all, drop-drop, get_or-drop}
use Rattle.std.proofs.lemmas.List.Elements.{All-take}
use Rattle.std.proofs.lemmas.List.Sorted.{IsNonDecreasingBy-take}
use Rattle.log_standing.specs.declared.name_item.NameItem.{NameItem}
use Rattle.log_standing.specs.NameItems.{Fits, IsMerged, InOrder, order_of}
use Rattle.log_standing.proofs.MergeLaws.{merged_none}
use Rattle.log_standing.proofs.merging.merge.Goals as goal

pub loop-i-init : goal.loop-i-init
loop-i-init c = record { kept = omega arith; length = refl; merged = merged_none; later = refl }

pub take_in-kept-requires-clause-within : goal.take_in-kept-requires-clause-within
take_in-kept-requires-clause-within c =
    let kept = c.loop-i.invariant.kept in
    let same = c.loop-i.invariant.length in
    let len : vec_len c.args.items.now ≡ length c.args.items.now.items = search rules in
    let lt = c.loop-i-test.true in
    let end = c.len-i-end.ensures in
    omega (arith, kept, same, len, lt, end)

pub take_in-kept-requires-clause-counted : goal.take_in-kept-requires-clause-counted
take_in-kept-requires-clause-counted c = c.loop-i.invariant.merged.each

-- what lies behind a place is the same
same_at : (xs ys : List NameItem) (i : ℕ) (d : NameItem) → drop i xs ≡ drop i ys → get_or xs i d ≡ get_or ys i d
same_at xs ys i d same =
    let i0 : i + 0 ≡ i = omega arith in
    sym (get_or-drop i xs 0 d ∙ ap (λ (n : ℕ). get_or xs n d) i0) ∙ ap (λ (l : List NameItem). get_or l 0 d) same ∙ get_or-drop i ys 0 d ∙ ap (λ (n : ℕ). get_or ys n d) i0

drop_further : (xs : List NameItem) (m n k : ℕ) → m + k ≡ n → drop n xs ≡ drop k (drop m xs)
drop_further xs m n k sum = sym (drop-drop k m xs ∙ ap (λ (j : ℕ). drop j xs) sum)

pub loop-i-preserved : goal.loop-i-preserved
loop-i-preserved c =
    let was = c.args.items.now.items in
    let now = c.loop-i.items.items in
    let new = c.take_in-kept.new.items.items in
    let i = c.loop-i.i in
    let kept = c.loop-i.kept in
    let x = c.index-item.result.now in
    let inv = c.loop-i.invariant in
    let le = inv.kept in
    let same = inv.length in
    let len : vec_len c.args.items.now ≡ length was = search rules in
    let lt = c.loop-i-test.true in
    let end = c.len-i-end.ensures in
    let in' : i < length was = omega (arith, len, lt, end) in
    let read : x ≡ get_or was i x = c.index-item.ensures ∙ same_at now was i x inv.later in
    let more : take (i + 1) was ≡ take i was ++ x ∷ [] = take_more was i x in' ∙ ap (λ (z : NameItem). take i was ++ z ∷ []) (sym read) in
    let ordered : InOrder (take (i + 1) was) = record { rising = IsNonDecreasingBy-take order_of (i + 1) was c.requires.rising; fits = All-take Fits (i + 1) was c.requires.fits } in
    let fewer = c.take_in-kept.ensures.kept in
    let step : kept + 1 + (i - kept) ≡ i + 1 = omega (arith, le) in
    record {
      kept = omega (arith, fewer, le);
      length = c.take_in-kept.ensures.length ∙ same;
      merged = subst (λ (l : List NameItem). IsMerged l (take c.take_in-kept.result new)) (sym more) (c.take_in-kept.ensures.merged (take i was) inv.merged (subst InOrder more ordered));
      later = drop_further new (kept + 1) (i + 1) (i - kept) step ∙ ap (λ (l : List NameItem). drop (i - kept) l) c.take_in-kept.ensures.later ∙ sym (drop_further now (kept + 1) (i + 1) (i - kept) step)
          ∙ drop_further now i (i + 1) 1 refl ∙ ap (λ (l : List NameItem). drop 1 l) inv.later ∙ sym (drop_further was i (i + 1) 1 refl);
    }

pub returns : goal.returns
returns c =
    let was = c.args.items.now.items in
    let now = c.loop-i.items.items in
    let len : vec_len c.args.items.now ≡ length was = search rules in
    let past = c.loop-i-test.false in
    let end = c.len-i-end.ensures in
    let all : take c.loop-i.i was ≡ was = take_all c.loop-i.i was (omega (arith, len, past, end)) in
    subst (λ (l : List NameItem). IsMerged l c.truncate.new.self.items) all (subst (λ (l : List NameItem). IsMerged (take c.loop-i.i was) l) (sym c.truncate.ensures.items) c.loop-i.invariant.merged)
