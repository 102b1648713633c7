-- The same for the chain at a place of the table.
use Rattle.std.proofs.Common.{◌≡◌, ℕ, suc, ◌<◌, List, [], ◌∷◌, ◌++◌, length, get_or, take, drop, Option, Some, None, sym, ◌∙◌, ap, subst, slice_set}
use Rattle.std.specs.List.{remove, AllByRecursion}
use Rattle.std.proofs.lemmas.List.{set_split}
use Rattle.fs_model.specs.Cells.{key_of}
use Rattle.conflict_queue.specs.declared.types.Held.{Held}
use Rattle.conflict_queue.specs.declared.nodes.Node.{Node}
use Rattle.conflict_queue.specs.declared.key_chains.Chain.{Chain}
use Rattle.conflict_queue.specs.Chains.{held_at, next_of, node_with, all_held, chain_with, none, IsKeyChain, IsTable, Lacks, Extends, Shortens}
use Rattle.conflict_queue.proofs.ChainLaws.{last_within}
use Rattle.conflict_queue.proofs.TableLaws.{all_back, split_at}
use Rattle.conflict_queue.proofs.WriteLaws.{extended, begun, shortened, ended}

-- the chain at a place
pub chain_at : (ns : List Node) (cs : List Chain) (i : ℕ) (c : Chain) → IsTable ns cs → i < length cs → c ≡ get_or cs i none → IsKeyChain ns c
chain_at ns cs i c table lt is =
    let split = subst (λ (xs : List Chain). AllByRecursion (IsKeyChain ns) xs) (split_at cs i lt) table.chains in
    subst (IsKeyChain ns) (sym is) (all_back (IsKeyChain ns) (take i cs) (get_or cs i none ∷ drop (suc i) cs) split).0

pub last_in : (ns : List Node) (c : Chain) → IsKeyChain ns c → c.last < length ns
last_in ns c is = subst (λ (n : ℕ). n < length ns) is.last (last_within ns (Some c.key) (Some c.first) c.first is.rest is.chain)

pub extended_at : (ns ms : List Node) (cs ds : List Chain) (at : ℕ) (c : Chain) (i : ℕ) (h : Held) → IsTable ns cs → at < length cs → c ≡ get_or cs at none → c.key ≡ key_of h.request → i < length ns → held_at ns i ≡ None → length (all_held ns cs) < length ns
    → ms ≡ slice_set (slice_set ns c.last (node_with (held_at ns c.last) (Some i))) i (node_with (Some h) None) → ds ≡ slice_set cs at (record c { last = i }) → Extends ns cs ms ds i h
extended_at ns ms cs ds at c i h table lt is key within free below nodes chains =
    let p = take at cs in
    let q = drop (suc at) cs in
    let split : cs ≡ p ++ c ∷ q = split_at cs at lt ∙ ap (λ (d : Chain). p ++ d ∷ q) (sym is) in
    let now : ds ≡ p ++ record c { last = i } ∷ q = chains ∙ set_split cs at (record c { last = i }) lt in
    let e = extended ns p q c i h (subst (IsTable ns) split table) key within free (subst (λ (xs : List Chain). length (all_held ns xs) < length ns) split below) in
    subst (λ (xs : List Chain). Extends ns xs ms ds i h) (sym split) (subst (λ (xs : List Chain). Extends ns (p ++ c ∷ q) ms xs i h) (sym now) (subst (λ (xs : List Node). Extends ns (p ++ c ∷ q) xs (p ++ record c { last = i } ∷ q) i h) (sym nodes) e))

pub begun_at : (ns ms : List Node) (cs ds : List Chain) (i : ℕ) (h : Held) → IsTable ns cs → Lacks cs (key_of h.request) → i < length ns → held_at ns i ≡ None
    → ms ≡ slice_set ns i (node_with (Some h) None) → ds ≡ cs ++ chain_with (key_of h.request) i i ∷ [] → Extends ns cs ms ds i h
begun_at ns ms cs ds i h table lacks within free nodes chains =
    subst (λ (xs : List Chain). Extends ns cs ms xs i h) (sym chains) (subst (λ (xs : List Node). Extends ns cs xs (cs ++ chain_with (key_of h.request) i i ∷ []) i h) (sym nodes) (begun ns cs i h table lacks within free))

pub shortened_at : (ns ms : List Node) (cs ds : List Chain) (i : ℕ) (c : Chain) (at : Option ℕ) (y : ℕ) (h : Held) → IsTable ns cs → i < length cs → c ≡ get_or cs i none → next_of ns c.first ≡ Some y → held_at ns c.first ≡ Some h
    → ms ≡ slice_set ns c.first (node_with None at) → ds ≡ slice_set cs i (record c { first = y }) → Shortens ns cs ms ds at c h
shortened_at ns ms cs ds i c at y h table lt is next held nodes chains =
    let p = take i cs in
    let q = drop (suc i) cs in
    let split : cs ≡ p ++ c ∷ q = split_at cs i lt ∙ ap (λ (d : Chain). p ++ d ∷ q) (sym is) in
    let now : ds ≡ p ++ record c { first = y } ∷ q = chains ∙ set_split cs i (record c { first = y }) lt in
    let e = shortened ns p q c at y h (subst (IsTable ns) split table) next held in
    subst (λ (xs : List Chain). Shortens ns xs ms ds at c h) (sym split) (subst (λ (xs : List Chain). Shortens ns (p ++ c ∷ q) ms xs at c h) (sym now) (subst (λ (xs : List Node). Shortens ns (p ++ c ∷ q) xs (p ++ record c { first = y } ∷ q) at c h) (sym nodes) e))

pub ended_at : (ns ms : List Node) (cs ds : List Chain) (i : ℕ) (c : Chain) (at : Option ℕ) (h : Held) → IsTable ns cs → i < length cs → c ≡ get_or cs i none → next_of ns c.first ≡ None → held_at ns c.first ≡ Some h
    → ms ≡ slice_set ns c.first (node_with None at) → ds ≡ remove cs i → Shortens ns cs ms ds at c h
ended_at ns ms cs ds i c at h table lt is next held nodes chains =
    let p = take i cs in
    let q = drop (suc i) cs in
    let split : cs ≡ p ++ c ∷ q = split_at cs i lt ∙ ap (λ (d : Chain). p ++ d ∷ q) (sym is) in
    let e = ended ns p q c at h (subst (IsTable ns) split table) next held in
    subst (λ (xs : List Chain). Shortens ns xs ms ds at c h) (sym split) (subst (λ (xs : List Chain). Shortens ns (p ++ c ∷ q) ms xs at c h) (sym chains) (subst (λ (xs : List Node). Shortens ns (p ++ c ∷ q) xs (p ++ q) at c h) (sym nodes) e))
