-- What a scan finds.
use Rattle.std.proofs.Common.{◌≡◌, ℕ, ◌<◌, ◌≤◌, List, [], ◌∷◌, length, map, Bool, true, false, cond, refl, sym, ◌∙◌, ap, subst, arith}
use Rattle.std.specs.Prelude.{Option, Some, None, Result, Ok, option_map}
use Rattle.std.specs.List.{list_all, AllByRecursion}
use Rattle.chunk_map.specs.declared.layouts.Geometry.{Geometry}
use Rattle.chunk_map.specs.declared.heads.Head.{Head}
use Rattle.chunk_map.specs.declared.heads.Head.TheVariants.{Log}
use Rattle.chunk_map.specs.Layouts.{chunk_first, head_at, is_of_group}
use Rattle.store_image.specs.declared.scanning.AtPlace.{AtPlace}
use Rattle.store_image.specs.Scanned.{name_at}
use Rattle.store_image.proofs.Clients.{places_lie}
use Rattle.store_image.specs.Soundness.{rule_of, damaged}
use Rattle.core_log.specs.Log as log
use Rattle.recover.specs.Logs.{tail_behind}
use Rattle.log_entry.specs.declared.entry.Entry.{Entry}
use Rattle.log_entry.specs.Batches.{Scan, scan_of}
use Rattle.store_image.specs.Parts.{payload}
use Rattle.recover.specs.FoundEntries.{LieBelow}

-- each name that a scan finds begins in the words
named_below : (n : ℕ) (xs : List (ℕ × Entry)) → AllByRecursion (λ (x : ℕ × Entry). x.0 < n) xs → LieBelow n (map name_at xs)
named_below n [] all = tt
named_below n (x ∷ xs) all = (all.0, named_below n xs all.1)

pub names_lie : (ws : List ℕ) (names : List AtPlace) → names ≡ map name_at (scan_of ws).entries → LieBelow (length ws) names
names_lie ws names is = subst (LieBelow (length ws)) (sym is) (named_below (length ws) (scan_of ws).entries (places_lie ws))

pub lie_lower : (m n : ℕ) (xs : List AtPlace) → m ≤ n → LieBelow m xs → LieBelow n xs
lie_lower m n [] le all = tt
lie_lower m n (x ∷ xs) le all = (let l = all.0 in omega (arith, l, le), lie_lower m n xs le all.1)

-- a log that keeps rules 6 and 7 was read to its end
rule_none : (a whole : Bool) → cond {A = Option ℕ} a (cond whole None (Some 6)) (Some 7) ≡ None → whole ≡ true
rule_none true true e = refl
rule_none true false e = absurd (cc e)
rule_none false whole e = absurd (cc e)

pub whole_of : (l : Geometry) (part : ℕ) (found : Scan) (rule : Option ℕ) → rule ≡ rule_of l part found → rule ≡ None → found.whole ≡ true
whole_of l part found rule is none = rule_none (list_all (λ x. is_of_group l part x.1.key) found.entries) found.whole (sym is ∙ none)

-- and its words are batches
pub log_spelled : (l : Geometry) (image : ℕ → ℕ) (c j at t tail : ℕ) (ws : List ℕ) → at ≡ chunk_first l c j → head_at l image at ≡ Ok (Log t) → head_at l image (chunk_first l c j) ≡ Ok (Log tail) → ws ≡ payload image at t → log.Spelled ws
    → log.Spelled (payload image (chunk_first l c j) tail)
log_spelled l image c j at t tail ws first here head words spelled =
    let same : t ≡ tail = cc (sym here ∙ ap (head_at l image) first ∙ head) in
    subst log.Spelled (words ∙ (λ i. payload image (first i) (same i))) spelled

pub no_log : (l : Geometry) (image : ℕ → ℕ) (c j tail : ℕ) (h : Result Head ℕ) → head_at l image (chunk_first l c j) ≡ h → tail_behind h ≡ None → head_at l image (chunk_first l c j) ≡ Ok (Log tail) → ⊥
no_log l image c j tail h is none head = cc (sym none ∙ ap tail_behind (sym is ∙ head))

pub rule_here : (o : Option ℕ) (c j : ℕ) → option_map (damaged c j) o ≡ None → o ≡ None
rule_here None c j e = refl
rule_here (Some rule) c j e = absurd (cc e)
