-- Lawful replies, a part at a time.
use Rattle.std.proofs.Common.{◌≡◌, inr, ℕ, List, [], ◌∷◌, ◌++◌, map, refl, ap, ◌==◌, ◌||◌, true, false, Bool, cond, Option}
use Rattle.fs_model.specs.declared.model.Request.{Request}
use Rattle.fs_model.specs.declared.model.Reply.{Reply}
use Rattle.fs_model.specs.declared.model.Reply.TheVariants.{Stopped}
use Rattle.fs_model.specs.Cells.{key_of, cell_after}
use Rattle.fs_model.specs.Lawful.{MayReply, IsLawfulFor, cell_left, cell_of, stopped_of, asked, is_stopped}
use Rattle.fs_model.specs.Changes.{cell_after_all}

-- replies so far, and those to what comes after
pub lawful-append : (c : Option (List ℕ)) (s : Bool) (xs ys : List (Request × Reply)) → IsLawfulFor c s xs → IsLawfulFor (cell_of c xs) (stopped_of s xs) ys → IsLawfulFor c s (xs ++ ys)
lawful-append c s [] ys h g = g
lawful-append c s (x ∷ xs) ys h g = (h.0, lawful-append (cell_left x.0 x.1 c) (s || is_stopped x.1) xs ys h.1 g)

pub lawful_front : (c : Option (List ℕ)) (s : Bool) (xs ys : List (Request × Reply)) → IsLawfulFor c s (xs ++ ys) → IsLawfulFor c s xs × IsLawfulFor (cell_of c xs) (stopped_of s xs) ys
lawful_front c s [] ys h = (tt, h)
lawful_front c s (x ∷ xs) ys h = let r = lawful_front (cell_left x.0 x.1 c) (s || is_stopped x.1) xs ys h.1 in ((h.0, r.0), r.1)

pub asked-append : (k : ℕ) (xs ys : List (Request × Reply)) → asked k (xs ++ ys) ≡ asked k xs ++ asked k ys
asked-append k [] ys = refl
asked-append k (x ∷ xs) ys = elim (key_of x.0 == k) as (λ b. cond b (x ∷ asked k (xs ++ ys)) (asked k (xs ++ ys)) ≡ cond b (x ∷ asked k xs) (asked k xs) ++ asked k ys) [
  | true ↦ ap (λ l. x ∷ l) (asked-append k xs ys)
  | false ↦ asked-append k xs ys
]

-- one request answered more
pub lawful-more : (c : Option (List ℕ)) (s : Bool) (xs : List (Request × Reply)) (q : Request) (r : Reply) → IsLawfulFor c s xs → MayReply q (cell_of c xs) (stopped_of s xs) r → IsLawfulFor c s (xs ++ (q, r) ∷ [])
lawful-more c s xs q r h g = lawful-append c s xs ((q, r) ∷ []) h (g, tt)

pub changes-append : (c : Option (List ℕ)) (qs ps : List Request) → cell_after_all (qs ++ ps) c ≡ cell_after_all ps (cell_after_all qs c)
changes-append c [] ps = refl
changes-append c (q ∷ qs) ps = changes-append (cell_after q c) qs ps

-- Replies that are all Stopped are lawful.
pub all_stopped : (c : Option (List ℕ)) (s : Bool) (qs : List Request) → IsLawfulFor c s (map (λ q. (q, Stopped)) qs)
all_stopped c s [] = tt
all_stopped c true (q ∷ qs) = (refl, all_stopped c true qs)
all_stopped c false (q ∷ qs) = (inr refl, all_stopped c true qs)
