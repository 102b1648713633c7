-- The queue's invariant: at its opening, and through each call.
use Rattle.std.proofs.Common.{◌≡◌, ℕ, suc, ◌+◌, ◌-◌, ◌≤◌, List, [], ◌∷◌, ◌++◌, length, get_or, Option, Some, None, refl, sym, ◌∙◌, ap, subst, arith}
use Rattle.std.specs.List.{AllByRecursion}
use Rattle.std.proofs.lemmas.List.{length-append, get_or_append_left, get_or_push}
use Rattle.conflict_queue.specs.declared.types.Held.{Held}
use Rattle.conflict_queue.specs.declared.nodes.Node.{Node}
use Rattle.conflict_queue.specs.declared.key_chains.Chain.{Chain}
use Rattle.conflict_queue.specs.Chains.{IsChain, held_at, next_of, key_held, node_with, held_by, all_held, bare, IsNotIn, IsKeyChain, IsTable, AllFree, Extends, Shortens}
use Rattle.conflict_queue.specs.Queue.{IsQueue}
use Rattle.conflict_queue.proofs.ChainLaws.{not_in_tail, held_length}
use Rattle.conflict_queue.proofs.TableLaws.{held_by_is}
use Rattle.conflict_queue.proofs.CoverLaws.{chains_once, chains_all}

-- a chain stays where a place is added behind the others
pushed : (ns : List Node) (n : Node) (k at : Option ℕ) (xs : List ℕ) → IsChain ns k at xs → IsChain (ns ++ n ∷ []) k at xs
pushed ns n k at [] is = is
pushed ns n k at (x ∷ xs) is =
    let ms = ns ++ n ∷ [] in
    let e : get_or ms x bare ≡ get_or ns x bare = get_or_append_left ns (n ∷ []) bare x is.1 in
    let l = length-append ns (n ∷ []) in
    (is.0, omega (arith, l, is.1), ap (λ (m : Node). key_held m.held) e ∙ is.2, subst (λ (o : Option ℕ). IsChain ms k o xs) (ap (λ (m : Node). m.next) (sym e)) (pushed ns n k (next_of ns x) xs is.3))

pub one_more_free : (ns : List Node) (at : Option ℕ) → AllFree ns at → AllFree (ns ++ node_with None at ∷ []) (Some (length ns))
one_more_free ns at is =
    let n = node_with None at in
    let ms = ns ++ n ∷ [] in
    let here : get_or ms (length ns) bare ≡ n = get_or_push ns n bare (length ns) refl in
    let l = length-append ns (n ∷ []) in
    record {
      numbers = length ns ∷ is.numbers;
      chain = (refl, omega (arith, l), ap (λ (m : Node). key_held m.held) here, subst (λ (o : Option ℕ). IsChain ms None o is.numbers) (ap (λ (m : Node). m.next) (sym here)) (pushed ns n None at is.numbers is.chain));
      all = let a = is.all in omega (arith, l, a);
    }

-- that no place is in two chains, and every place in one, follows from the rest
queue_of : (ns : List Node) (cs : List Chain) (first : Option ℕ) (count places : ℕ) (unused : List ℕ) → IsChain ns None first unused → length unused ≡ count → IsTable ns cs → length ns ≡ 64 → length (all_held ns cs) + count ≡ 64 → 64 ≤ places → IsQueue ns cs first count places
queue_of ns cs first count places unused chain counted table nodes together room = record {
  unused = unused;
  chain = chain;
  free_nodes = counted;
  table = table;
  nodes = nodes;
  disjoint = chains_once ns cs first unused table chain;
  all = λ i lt. chains_all ns cs first unused table chain (omega (arith, counted, nodes, together)) i (omega (arith, lt, nodes));
  together = together;
  room = room;
}

pub opened : (ns : List Node) (cs : List Chain) (first : Option ℕ) (places : ℕ) → AllFree ns first → length ns ≡ 64 → cs ≡ [] → 64 ≤ places → IsQueue ns cs first 64 places
opened ns cs first places free nodes none room =
    queue_of ns cs first 64 places free.numbers free.chain (free.all ∙ nodes) (subst (IsTable ns) (sym none) (record { chains = tt; keys = tt })) nodes (ap (λ (xs : List Chain). length (all_held ns xs) + 64) none) room

-- each chain holds something
pub chains_short : (ns : List Node) (cs : List Chain) → AllByRecursion (IsKeyChain ns) cs → length cs ≤ length (all_held ns cs)
chains_short ns [] all = omega arith
chains_short ns (c ∷ cs) all =
    let is = all.0 in
    let one : length (held_by ns c) ≡ suc (length is.rest) = ap length (held_by_is ns c is) ∙ held_length ns c.key (Some c.first) (c.first ∷ is.rest) is.chain in
    let rest = chains_short ns cs all.1 in
    let l = length-append (held_by ns c) (all_held ns cs) in
    omega (arith, one, rest, l)

pub record Front (ns : List Node) (i : ℕ) (xs : List ℕ) : Type 0 where
  pub rest : List ℕ
  pub numbers : length xs ≡ suc (length rest)
  pub chain : IsChain ns None (Some i) (i ∷ rest)

-- the first of the free places
pub front : (ns : List Node) (at : Option ℕ) (i : ℕ) (xs : List ℕ) → at ≡ Some i → IsChain ns None at xs → Front ns i xs
front ns at i [] first is = absurd (cc (first, is))
front ns at i (x ∷ xs) first is =
    let a = is.0 in
    let e : x ≡ i = cc (a, first) in
    record { rest = xs; numbers = refl; chain = subst (λ (n : ℕ). IsChain ns None (Some n) (n ∷ xs)) e (subst (λ (o : Option ℕ). IsChain ns None o (x ∷ xs)) is.0 is) }

nothing_held : (o : Option Held) → key_held o ≡ None → o ≡ None
nothing_held None is = refl
nothing_held (Some h) is = absurd (cc is)

pub front_free : (ns : List Node) (i : ℕ) (xs : List ℕ) → Front ns i xs → held_at ns i ≡ None
front_free ns i xs is = nothing_held (held_at ns i) is.chain.2

pub none_free : (ns : List Node) (at : Option ℕ) (xs : List ℕ) → at ≡ None → IsChain ns None at xs → length xs ≡ 0
none_free ns at [] none is = refl
none_free ns at (x ∷ xs) none is = let a = is.0 in absurd (cc (a, none))

pub held_queue : (ns ms : List Node) (cs ds : List Chain) (first next : Option ℕ) (count places more i : ℕ) (h : Held) → IsQueue ns cs first count places → first ≡ Some i → Extends ns cs ms ds i h → next ≡ next_of ns i → places ≤ more → IsQueue ms ds next (count - 1) more
held_queue ns ms cs ds first next count places more i h is at extends goes le =
    let f = front ns first i is.unused at is.chain in
    let out : IsNotIn i f.rest = not_in_tail ns None (next_of ns i) f.rest (i ∷ f.rest) i f.chain (omega arith) f.chain.3 in
    let added = extends.added.together in
    let n = f.numbers in
    let counted = is.free_nodes in
    let all = is.together in
    let room = is.room in
    queue_of ms ds next (count - 1) more f.rest (subst (λ (o : Option ℕ). IsChain ms None o f.rest) (sym goes) (extends.rest (next_of ns i) f.rest f.chain.3 out)) (omega (arith, n, counted)) extends.table (extends.nodes ∙ is.nodes)
    (omega (arith, added, n, counted, all)) (omega (arith, room, le))

pub released_queue : (ns ms : List Node) (cs ds : List Chain) (first now : Option ℕ) (count places more : ℕ) (c : Chain) (h : Held) → IsQueue ns cs first count places → Shortens ns cs ms ds first c h → now ≡ Some c.first → places ≤ more → IsQueue ms ds now (count + 1) more
released_queue ns ms cs ds first now count places more c h is shortens at le =
    let taken = shortens.taken.together in
    let counted = is.free_nodes in
    let all = is.together in
    let room = is.room in
    queue_of ms ds now (count + 1) more (c.first ∷ is.unused) (subst (λ (o : Option ℕ). IsChain ms None o (c.first ∷ is.unused)) (sym at) (shortens.free is.unused is.chain)) (omega (arith, counted)) shortens.table (shortens.nodes ∙ is.nodes)
    (omega (arith, taken, all)) (omega (arith, room, le))
