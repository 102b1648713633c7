-- An image is sound exactly where it keeps all rules, in whatever order they are looked at.
use Rattle.std.proofs.Common.{◌≡◌, ◌⊎◌, inl, inr, ℕ, zero, suc, ◌+◌, ◌*◌, ◌<◌, ◌≤◌, List, [], ◌∷◌, ◌++◌, refl, sym, ◌∙◌, ap, subst, arith, append_assoc, ◌==◌, ◌&&◌, ◌||◌, not, true, false, Bool, cond, Option, Some, None, ltb, Ok, Err, Result}
use Rattle.std.specs.Prelude.{option_map, ◌↔◌}
use Rattle.std.specs.Option.{option_or}
use Rattle.std.specs.List.{list_any, list_all}
use Rattle.std.proofs.lemmas.Bool.{and_parts, eqb-true, eq-eqb, ltb-true}
use Rattle.std.proofs.lemmas.Slice.Eq.{bytes_eq-Decides}
use Rattle.log_entry.specs.declared.entry.Body.{Body}
use Rattle.log_entry.specs.declared.entry.Body.TheVariants.{Pointer, Embedded, Tombstone}
use Rattle.log_entry.specs.declared.entry.Entry.{Entry}
use Rattle.log_entry.specs.Batches.{Scan}
use Rattle.chunk_map.specs.declared.layouts.Geometry.{Geometry}
use Rattle.chunk_map.specs.declared.heads.Head.{Head}
use Rattle.store_image.specs.declared.types.PlacedEntry.{PlacedEntry}
use Rattle.store_image.specs.declared.types.Fault.{Fault}
use Rattle.chunk_map.specs.Layouts.{numbers, layout_of, superblock_rule, chunk_first, head_at, owner, is_of_group, has_class}
use Rattle.store_image.specs.Parts.{placed_in_chunk, chunk_entries, all_entries, scan_at, head_reads, chunk_reads, block_class, block_bytes, value_by_class}
use Rattle.store_image.specs.Winners.{better, winner_in, keys_of}
use Rattle.store_image.specs.Soundness.{first_some, damaged, rule_behind, chunk_fault, same_body, contradicts, clash_after, clash_fault, points_to, pointer_rule, body_rule, winner_fault, block_fault, damage, fault_by, first_fault, IsSound}
use Rattle.store_image.specs.Facts.{In, Agree, KeepsRules, IsStore}
use Rattle.store_image.proofs.SoundLaws.{has_layout, chunk_sound, one_body, winner_held, own_blocks, same_bodies}

-- lists and what is in them
pub in_front : {X : Type 0} (x : X) (a b : List X) → In x a → In x (a ++ b)
in_front x [] b h = absurd h
in_front x (y ∷ a) b (inl e) = inl e
in_front x (y ∷ a) b (inr h) = inr (in_front x a b h)

pub in_back : {X : Type 0} (x : X) (a b : List X) → In x b → In x (a ++ b)
in_back x [] b h = h
in_back x (y ∷ a) b h = inr (in_back x a b h)

pub in_either : {X : Type 0} (x : X) (a b : List X) → In x (a ++ b) → In x a ⊎ In x b
in_either x [] b h = inr h
in_either x (y ∷ a) b (inl e) = inl (inl e)
in_either x (y ∷ a) b (inr h) = elim (in_either x a b h) [
  | inl p ↦ inl (inr p)
  | inr p ↦ inr p
]

-- x itself, or one of the others
pub in_inserted : {X : Type 0} (x y : X) (a b : List X) → In x (a ++ (y ∷ b)) → (x ≡ y) ⊎ In x (a ++ b)
in_inserted x y a b h = elim (in_either x a (y ∷ b) h) [
  | inl p ↦ inr (in_front x a b p)
  | inr (inl p) ↦ inl p
  | inr (inr p) ↦ inr (in_back x a b p)
]

pub none_first : {X Y : Type 0} (f : X → Option Y) (xs : List X) → ((x : X) → In x xs → f x ≡ None) → first_some f xs ≡ None
none_first f [] h = refl
none_first f (x ∷ xs) h = (λ t. option_or (h x (inl refl) t) (first_some f xs)) ∙ none_first f xs (λ y is. h y (inr is))

pub number_in : (from n k : ℕ) → In k (numbers from n) → (from ≤ k) × (k < from + n)
number_in from zero k h = absurd h
number_in from (suc n) k (inl e) = (omega (arith, e), omega (arith, e))
number_in from (suc n) k (inr h) = let r = number_in (suc from) n k h in (omega (arith, r.0), omega (arith, r.1))

none_in : {X : Type 0} (p : X → Bool) (xs : List X) → ((x : X) → In x xs → p x ≡ false) → list_any p xs ≡ false
none_in p [] h = refl
none_in p (x ∷ xs) h = (λ t. h x (inl refl) t || list_any p xs) ∙ none_in p xs (λ y is. h y (inr is))

-- a winner is one of the entries, and has the key
better_is : (k : ℕ) (y x : PlacedEntry) (ys : List PlacedEntry) (o : Option PlacedEntry) → ((z : PlacedEntry) → o ≡ Some z → In z ys × (z.entry.key ≡ k)) → y.entry.key ≡ k → Some (better y o) ≡ Some x → In x (y ∷ ys) × (x.entry.key ≡ k)
better_is k y x ys None rest own is = let e : y ≡ x = cc is in (inl (sym e), ap (λ (z : PlacedEntry). z.entry.key) (sym e) ∙ own)
better_is k y x ys (Some z) rest own is = elim (ltb y.entry.version z.entry.version) as (λ b. Some (cond b z y) ≡ Some x → In x (y ∷ ys) × (x.entry.key ≡ k)) [
  | true ↦ λ q. (let e : z ≡ x = cc q in let r = rest z refl in (inr (subst (λ w. In w ys) e r.0), ap (λ (w : PlacedEntry). w.entry.key) (sym e) ∙ r.1))
  | false ↦ λ q. (let e : y ≡ x = cc q in (inl (sym e), ap (λ (w : PlacedEntry). w.entry.key) (sym e) ∙ own))
] is

pub winner_is : (k : ℕ) (es : List PlacedEntry) (x : PlacedEntry) → winner_in k es ≡ Some x → In x es × (x.entry.key ≡ k)
winner_is k [] x e = cc e
winner_is k (y ∷ ys) x e = elim (y.entry.key == k) as (λ b. (y.entry.key == k) ≡ b → cond b (Some (better y (winner_in k ys))) (winner_in k ys) ≡ Some x → In x (y ∷ ys) × (x.entry.key ≡ k)) [
  | true ↦ λ own is. better_is k y x ys (winner_in k ys) (winner_is k ys) (eqb-true y.entry.key k own) is
  | false ↦ λ own is. (let r = winner_is k ys x is in (inr r.0, r.1))
] refl e

-- equal bodies are found equal
same_itself : (b : Body) → same_body b b ≡ true
same_itself (Pointer p) = eq-eqb p p refl
same_itself (Embedded v) = (bytes_eq-Decides v v).1 refl
same_itself Tombstone = refl

body_same : (a b : Body) → a ≡ b → same_body a b ≡ true
body_same a b e = ap (same_body a) (sym e) ∙ same_itself a

-- entries that agree don't contradict each other
agreeing : (x y : PlacedEntry) → (x.entry.key ≡ y.entry.key → x.entry.version ≡ y.entry.version → (x.entry.body ≡ y.entry.body) × (x.core ≡ y.core)) → contradicts x y ≡ false
agreeing x y h = elim (x.entry.key == y.entry.key) as (λ b. (x.entry.key == y.entry.key) ≡ b → (b && x.entry.version == y.entry.version && not (same_body x.entry.body y.entry.body && x.core == y.core)) ≡ false) [
  | false ↦ λ e. refl
  | true ↦ λ e. elim (x.entry.version == y.entry.version) as (λ b. (x.entry.version == y.entry.version) ≡ b → (b && not (same_body x.entry.body y.entry.body && x.core == y.core)) ≡ false) [
    | false ↦ λ f. refl
    | true ↦ λ f. (let r = h (eqb-true x.entry.key y.entry.key e) (eqb-true x.entry.version y.entry.version f) in let b = body_same x.entry.body y.entry.body r.0 in let c = eq-eqb x.core y.core r.1 in (λ t. not (b t && c t)))
  ] refl
] refl

pub no_clash_after : (before xs : List PlacedEntry) → Agree (before ++ xs) → clash_after before xs ≡ None
no_clash_after before [] h = refl
no_clash_after before (x ∷ xs) h =
    let none : list_any (contradicts x) before ≡ false = none_in (contradicts x) before (λ y is. agreeing x y (h x y (in_back x before (x ∷ xs) (inl refl)) (in_front y before (x ∷ xs) is))) in
    let again = no_clash_after (before ++ x ∷ []) xs (subst Agree (sym (append_assoc before (x ∷ []) xs)) h) in
    (λ t. cond (none t) (Some x) (clash_after (before ++ x ∷ []) xs)) ∙ again

-- One more entry, of a name that none has, agrees with all.
pub agree_inserted : (a b : List PlacedEntry) (e : PlacedEntry) → Agree (a ++ b) → ((y : PlacedEntry) → In y (a ++ b) → y.entry.key ≡ e.entry.key → y.entry.version ≡ e.entry.version → ⊥) → Agree (a ++ (e ∷ b))
agree_inserted a b e old new x y hx hy k v = by_place (in_inserted x e a b hx) (in_inserted y e a b hy) where
  by_place : (x ≡ e) ⊎ In x (a ++ b) → (y ≡ e) ⊎ In y (a ++ b) → (x.entry.body ≡ y.entry.body) × (x.core ≡ y.core)
  by_place (inl p) (inl q) = let s = p ∙ sym q in (ap (λ (z : PlacedEntry). z.entry.body) s, ap (λ (z : PlacedEntry). z.core) s)
  by_place (inl p) (inr q) = absurd (new y q (sym k ∙ ap (λ (z : PlacedEntry). z.entry.key) p) (sym v ∙ ap (λ (z : PlacedEntry). z.entry.version) p))
  by_place (inr p) (inl q) = absurd (new x p (k ∙ ap (λ (z : PlacedEntry). z.entry.key) q) (v ∙ ap (λ (z : PlacedEntry). z.entry.version) q))
  by_place (inr p) (inr q) = old x y p q k v

-- The same of an entry that one has already, as a copy: its body, in its part.
pub agree_copied : (a b : List PlacedEntry) (e z : PlacedEntry) → Agree (a ++ b) → In z (a ++ b) → e.entry ≡ z.entry → e.core ≡ z.core → Agree (a ++ (e ∷ b))
agree_copied a b e z old there same part x y hx hy k v = by_place (in_inserted x e a b hx) (in_inserted y e a b hy) where
  by_place : (x ≡ e) ⊎ In x (a ++ b) → (y ≡ e) ⊎ In y (a ++ b) → (x.entry.body ≡ y.entry.body) × (x.core ≡ y.core)
  by_place (inl p) (inl q) = let s = p ∙ sym q in (ap (λ (w : PlacedEntry). w.entry.body) s, ap (λ (w : PlacedEntry). w.core) s)
  by_place (inl p) (inr q) =
      let entry : x.entry ≡ z.entry = ap (λ (w : PlacedEntry). w.entry) p ∙ same in
      let r = old z y there q (sym (ap (λ (w : Entry). w.key) entry) ∙ k) (sym (ap (λ (w : Entry). w.version) entry) ∙ v) in
      (ap (λ (w : Entry). w.body) entry ∙ r.0, ap (λ (w : PlacedEntry). w.core) p ∙ part ∙ r.1)
  by_place (inr p) (inl q) =
      let entry : y.entry ≡ z.entry = ap (λ (w : PlacedEntry). w.entry) q ∙ same in
      let r = old x z p there (k ∙ ap (λ (w : Entry). w.key) entry) (v ∙ ap (λ (w : Entry). w.version) entry) in
      (r.0 ∙ sym (ap (λ (w : Entry). w.body) entry), r.1 ∙ sym (ap (λ (w : PlacedEntry). w.core) q ∙ part))
  by_place (inr p) (inr q) = old x y p q k v

-- rules 4 to 7 of a chunk, both ways
entries_grouped : (l : Geometry) (c j : ℕ) (xs : List (ℕ × Entry)) → ((x : PlacedEntry) → In x (placed_in_chunk c j xs) → is_of_group l c x.entry.key ≡ true) → list_all (λ x. is_of_group l c x.1.key) xs ≡ true
entries_grouped l c j [] h = refl
entries_grouped l c j (x ∷ xs) h = (λ t. h (record { core = c; chunk = j; place = x.0; entry = x.1 }) (inl refl) t && list_all (λ x. is_of_group l c x.1.key) xs) ∙ entries_grouped l c j xs (λ y is. h y (inr is))

grouped_entries : (l : Geometry) (c j : ℕ) (xs : List (ℕ × Entry)) → list_all (λ x. is_of_group l c x.1.key) xs ≡ true → (x : PlacedEntry) → In x (placed_in_chunk c j xs) → is_of_group l c x.entry.key ≡ true
grouped_entries l c j [] all x h = absurd h
grouped_entries l c j (y ∷ ys) all x (inl e) = ap (λ (z : PlacedEntry). is_of_group l c z.entry.key) e ∙ (and_parts (is_of_group l c y.1.key) (list_all (λ x. is_of_group l c x.1.key) ys) all).0
grouped_entries l c j (y ∷ ys) all x (inr h) = grouped_entries l c j ys (and_parts (is_of_group l c y.1.key) (list_all (λ x. is_of_group l c x.1.key) ys) all).1 x h

rule_kept : (l : Geometry) (c : ℕ) (h : Result Head ℕ) (s : Scan) → head_reads h s ≡ true → list_all (λ x. is_of_group l c x.1.key) s.entries ≡ true → rule_behind l c h s ≡ None
rule_kept l c (Ok head) s reads all = (λ t. cond {A = Option ℕ} (all t) (cond (reads t) None (Some 6)) (Some 7))
rule_kept l c (Err r) s reads all = cc reads

no_rule : (b d : Bool) → cond {A = Option ℕ} b (cond d None (Some 6)) (Some 7) ≡ None → (b ≡ true) × (d ≡ true)
no_rule true true e = (refl, refl)
no_rule true false e = cc e
no_rule false d e = cc e

kept_rule : (l : Geometry) (c : ℕ) (h : Result Head ℕ) (s : Scan) → rule_behind l c h s ≡ None → (head_reads h s ≡ true) × (list_all (λ x. is_of_group l c x.1.key) s.entries ≡ true)
kept_rule l c (Ok head) s none = let r = no_rule (list_all (λ x. is_of_group l c x.1.key) s.entries) s.whole none in (r.1, r.0)
kept_rule l c (Err r) s none = cc none

-- rules 9 to 11 of a pointer
held_class : (image : ℕ → ℕ) (p : ℕ) (o : Option ℕ) (v : List ℕ) → value_by_class image p o ≡ Some v → (class : ℕ) × (o ≡ Some class) × (has_class (image (32 * p)) class ≡ true)
held_class image p None v e = cc e
held_class image p (Some class) v e = elim (has_class (image (32 * p)) class) as (λ b. has_class (image (32 * p)) class ≡ b → cond b (Some (block_bytes image p)) None ≡ Some v → (c : ℕ) × (Some class ≡ Some c) × (has_class (image (32 * p)) c ≡ true)) [
  | true ↦ λ has q. (class, refl, has)
  | false ↦ λ has q. cc q
] refl e

points : (p : ℕ) (o : Option PlacedEntry) → points_to p o ≡ true → (x : PlacedEntry) × (o ≡ Some x) × (x.entry.body ≡ Pointer p)
points p None e = cc e
points p (Some x) e = (x, refl, sym (same_bodies (Pointer p) x.entry.body e))

pointer_free : (image : ℕ → ℕ) (es : List PlacedEntry) (k p class : ℕ) → has_class (image (32 * p)) class ≡ true → list_any (λ j. ltb j k && points_to p (winner_in j es)) (keys_of es) ≡ false → pointer_rule image es k p (Some class) ≡ None
pointer_free image es k p class has free = (λ t. cond {A = Option ℕ} (has t) (cond (free t) (Some 11) None) (Some 10))

module _ (l : Geometry) (image : ℕ → ℕ) (kept : KeepsRules l image) where
  abbrev es : List PlacedEntry
  es = all_entries l image

  chunks_kept : chunk_fault l image ≡ None
  chunks_kept = none_first _ (numbers 0 l.cores) (λ c h.
      none_first _ (numbers 0 l.chunks) (λ j g.
      let low : c < l.cores = (let r = number_in 0 l.cores c h in omega (arith, r.1)) in
      let high : j < l.chunks = (let r = number_in 0 l.chunks j g in omega (arith, r.1)) in
      ap (option_map (damaged c j)) (rule_kept l c (head_at l image (chunk_first l c j)) (scan_at l image (chunk_first l c j)) (kept.reads c j low high) (entries_grouped l c j (scan_at l image (chunk_first l c j)).entries (λ x is. kept.grouped c j x low high is)))))

  not_taken : (j k p : ℕ) (y : PlacedEntry) → winner_in k es ≡ Some y → y.entry.body ≡ Pointer p → (ltb j k && points_to p (winner_in j es)) ≡ false
  not_taken j k p y wins body = elim (ltb j k) as (λ b. ltb j k ≡ b → (b && points_to p (winner_in j es)) ≡ false) [
    | false ↦ λ e. refl
    | true ↦ λ e. elim (points_to p (winner_in j es)) as (λ b. points_to p (winner_in j es) ≡ b → b ≡ false) [
      | false ↦ λ q. refl
      | true ↦ λ q.
          let x = points p (winner_in j es) q in
          let same = kept.own j k p x.0 y x.1 wins x.2 body in
          let less = ltb-true j k e in
          absurd (omega (arith, same, less))
    ] refl
  ] refl

  body_kept : (k : ℕ) (x : PlacedEntry) (b : Body) → winner_in k es ≡ Some x → x.entry.body ≡ b → body_rule l image es k b ≡ None
  body_kept k x (Pointer p) wins body =
      let class = held_class image p (block_class l image (owner l k) p) (block_bytes image p) (kept.holds k p x wins body) in
      ap (pointer_rule image es k p) class.1 ∙ pointer_free image es k p class.0 class.2 (none_in _ (keys_of es) (λ j is. not_taken j k p x wins body))
  body_kept k x (Embedded v) wins body = refl
  body_kept k x Tombstone wins body = refl

  winner_kept : (k : ℕ) (o : Option PlacedEntry) → winner_in k es ≡ o → winner_fault l image es k o ≡ None
  winner_kept k None e = refl
  winner_kept k (Some x) e = ap (option_map (damaged x.core x.chunk)) (body_kept k x x.entry.body e refl)

  pub no_damage : damage l image ≡ None
  no_damage =
      let clash : clash_fault es ≡ None = ap (option_map (λ (x : PlacedEntry). damaged x.core x.chunk 8)) (no_clash_after [] es kept.agree) in
      let blocks : block_fault l image es ≡ None = none_first _ (keys_of es) (λ k h. winner_kept k (winner_in k es) refl) in
      let chunks = chunks_kept in
      (λ t. option_or (chunks t) (option_or (clash t) (blocks t)))

-- What keeps all rules is sound,
pub store_sound : (bytes : ℕ) (image : ℕ → ℕ) → IsStore bytes image → IsSound bytes image
unfolding first_fault
store_sound bytes image is = ap (fault_by image) is.superblock ∙ no_damage (layout_of image) image is.rules

-- and what is sound keeps them.
pub sound_store : (bytes : ℕ) (image : ℕ → ℕ) → IsSound bytes image → IsStore bytes image
sound_store bytes image sound =
    let l = layout_of image in
    record {
      superblock = has_layout bytes image sound;
      rules = record {
        reads = λ c j low high. (kept_rule l c (head_at l image (chunk_first l c j)) (scan_at l image (chunk_first l c j)) (chunk_sound bytes image sound c j low high)).0;
        grouped = λ c j x low high h. grouped_entries l c j (scan_at l image (chunk_first l c j)).entries (kept_rule l c (head_at l image (chunk_first l c j)) (scan_at l image (chunk_first l c j)) (chunk_sound bytes image sound c j low high)).1 x h;
        agree = one_body bytes image sound;
        holds = winner_held bytes image sound;
        own = own_blocks bytes image sound;
      };
    }

-- An image without pointers among its winners is sound by its chunks and entries alone.
pub sound_without_blocks : (bytes : ℕ) (image : ℕ → ℕ) → superblock_rule bytes image ≡ None
    → ((c j : ℕ) → c < (layout_of image).cores → j < (layout_of image).chunks → chunk_reads (layout_of image) image (chunk_first (layout_of image) c j) ≡ true)
    → ((c j : ℕ) (x : PlacedEntry) → c < (layout_of image).cores → j < (layout_of image).chunks → In x (chunk_entries (layout_of image) image c j) → is_of_group (layout_of image) c x.entry.key ≡ true)
    → Agree (all_entries (layout_of image) image)
    → ((k p : ℕ) (x : PlacedEntry) → winner_in k (all_entries (layout_of image) image) ≡ Some x → x.entry.body ≡ Pointer p → ⊥)
    → IsSound bytes image
sound_without_blocks bytes image superblock reads grouped agree none = store_sound bytes image (record {
  superblock = superblock;
  rules = record {
    reads = reads;
    grouped = grouped;
    agree = agree;
    holds = λ k p x wins body. absurd (none k p x wins body);
    own = λ j k p x y wins other body same. absurd (none j p x wins body);
  };
})

-- so an answer that is the first fault tells it
pub none_tells : (bytes : ℕ) (image : ℕ → ℕ) (f : Option Fault) → f ≡ first_fault bytes image → (f ≡ None) ↔ IsStore bytes image
none_tells bytes image f is = (λ e. sound_store bytes image (sym is ∙ e), λ s. is ∙ store_sound bytes image s)
