-- A pass in which nothing moved leaves nothing under way.
use Rattle.std.proofs.Common.{◌≡◌, inl, inr, ℕ, zero, suc, ◌+◌, ◌<◌, List, [], ◌∷◌, ◌++◌, map, length, Bool, false, Option, Some, None, refl, sym, ◌∙◌, ap, subst, arith}
use Rattle.std.specs.List.{slice_get}
use Rattle.std.proofs.lemmas.Bool.{cases_eq}
use Rattle.fs_model.specs.declared.model.Request.{Request}
use Rattle.fs_model.specs.Cells.{key_of}
use Rattle.fs_model.specs.Changes.{requests_of}
use Rattle.chunk_map.specs.declared.layouts.Geometry.{Geometry}
use Rattle.chunk_map.specs.Layouts.{owner, IsLayout}
use Rattle.store_image.specs.Facts.{In}
use Rattle.store_image.proofs.Clients.{in_either, has_layout, superblock_facts}
use Rattle.group_laws.specs.declared.types.Seen.{Seen}
use Rattle.group_laws.specs.State.{Group}
use Rattle.group_laws.specs.Regions.{key_group}
use Rattle.group_laws.proofs.Clients.{of_map}
use Rattle.engine_laws.specs.Parts.{group_of, member_of}
use Rattle.engine_laws.specs.WorkerMoves.{Placed, request_placed, requests_for}
use Rattle.engine_laws.specs.Engine.{Engine, Answer, group_for, line}
use Rattle.engine_laws.specs.Keys.{Served}
use Rattle.engine_laws.specs.Reports.{AllAnswered}
use Rattle.engine_laws.specs.Stands.{Origin, Stands}
use Rattle.engine_laws.specs.Idle.{IsIdle, Idles, IsDrained}
use Rattle.engine_laws.specs.Ceasing.{IsResting, HasCeased}
use Rattle.engine_laws.proofs.Ceasing.{ceased}
use Rattle.engine_laws.specs.Ran.{Pass, Until}
use Rattle.engine_laws.proofs.Numbers.{all_in}
use Rattle.engine_laws.proofs.Cores.{owner_low}
use Rattle.engine_laws.proofs.Promises.{in_from}

-- A core that was idle stays so while others are idle too.
module _ (e f : Engine) (c d : ℕ) (I : Idles e f c) (J : IsIdle e d) where
  abbrev l : Geometry
  l = e.layout

  -- a field of a group but what its members loaded
  same_field : {X : Type 0} (get : Group → X) → ((w : Group) (xs : ℕ → List Seen) → get (record w { looked = xs }) ≡ get w) → (g : ℕ) → get (f.group g) ≡ get (e.group g)
  same_field get blind g = ap get (I.groups g).1 ∙ blind (e.group g) (I.groups g).0

  owner_back : (k : ℕ) → owner f.layout k ≡ d → owner l k ≡ d
  owner_back k own = sym (ap (λ (n : Geometry). owner n k) I.layout) ∙ own

  slot_same : (s : ℕ) → (f.group (group_of f.layout d)).slot (member_of f.layout d) s ≡ (e.group (group_of l d)).slot (member_of l d) s
  slot_same s = (λ i. (f.group (group_of (I.layout i) d)).slot (member_of (I.layout i) d) s) ∙ same_field (λ (w : Group). w.slot (member_of l d) s) (λ w xs. refl) (group_of l d)

  holder_same : (f.group (group_of f.layout d)).holder ≡ (e.group (group_of l d)).holder
  holder_same = (λ i. (f.group (group_of (I.layout i) d)).holder) ∙ same_field (λ (w : Group). w.holder) (λ w xs. refl) (group_of l d)

  pending_same : (k : ℕ) → (group_for f k).pending k ≡ (group_for e k).pending k
  pending_same k = (λ i. (f.group (key_group (I.layout i) k)).pending k) ∙ same_field (λ (w : Group). w.pending k) (λ w xs. refl) (key_group l k)

  pub stays_idle : IsIdle f d
  stays_idle = record {
    holds = (λ i. (f.group (group_of (I.layout i) d)).holds (member_of (I.layout i) d)) ∙ same_field (λ (w : Group). w.holds (member_of l d)) (λ w xs. refl) (group_of l d) ∙ J.holds;
    taken = λ a s. (λ i. (f.group (group_of (I.layout i) d)).taken (member_of (I.layout i) d) a s) ∙ same_field (λ (w : Group). w.taken (member_of l d) a s) (λ w xs. refl) (group_of l d) ∙ J.taken a s;
    placed = λ k x own at.
        let was = J.placed k x (owner_back k own) (sym (λ i. I.place i k) ∙ at) in (
          was.0,
          λ p s pend slot. elim (was.1 p s (sym (pending_same k) ∙ pend) slot) [
            | inl taken ↦ inl (slot_same s ∙ taken)
            | inr posted ↦ inr (posted.0, posted.1, slot_same s ∙ posted.2, holder_same ∙ posted.3)
          ],
        );
    waits = λ k own idle. (λ i. I.waits i k) ∙ J.waits k (owner_back k own) (sym (λ i. I.place i k) ∙ idle);
    backlog = λ none. (λ i. I.backlog i d) ∙ J.backlog (λ k own. sym (λ i. I.place i k) ∙ none k (ap (λ (n : Geometry). owner n k) I.layout ∙ own));
  }

-- A pass in which nothing moved leaves every core idle.
pub still_pass : (Move : Engine → ℕ → Bool → Engine → Type 0) → ((e f : Engine) (c : ℕ) → Move e c false f → Idles e f c)
    → (c cores : ℕ) (e f : Engine) → ((d : ℕ) → d < c → IsIdle e d) → Pass Move c cores 0 e f → (d : ℕ) → d < c + cores → IsIdle f d
still_pass Move idles c zero e f before r d lt = subst (λ (x : Engine). IsIdle x d) (sym r.1) (before d (omega (arith, lt)))
still_pass Move idles c (suc cores) e f before r d lt = still_pass Move idles (c + 1) cores r.3 f (next r.3 (none r.0 (let sum = r.2 in omega (arith, sum)) e r.3 r.4)) (subst (λ n. Pass Move (c + 1) cores n r.3 f) (let sum = r.2 in omega (arith, sum)) r.5) d (omega (arith, lt)) where
  none : (n : ℕ) → n ≡ 0 → (e mid : Engine) → Until Move c n e mid → Move e c false mid
  none zero q e mid u = u
  none (suc n) q e mid u = absurd (omega (arith, q))

  next : (mid : Engine) → Move e c false mid → (d : ℕ) → d < c + 1 → IsIdle mid d
  next mid move d lt = elim (cases_eq d c) [
    | inl same ↦ subst (IsIdle mid) (sym same) (idles e mid c move).idle
    | inr other ↦ stays_idle e mid c d (idles e mid c move) (before d (omega (arith, lt, other)))
  ]

-- An idle core rests.
resting : (e : Engine) (c : ℕ) → IsIdle e c → IsResting e c
resting e c I = record { holds = I.holds; taken = I.taken; posted = λ k x own at posted. (I.placed k x own at).1 }

-- Where each core is idle, nothing is under way.
module _ (o : Origin) (e : Engine) (S : Stands o e) (idle : (c : ℕ) → c < e.layout.cores → IsIdle e c) where
  is_layout : IsLayout e.layout
  is_layout = subst IsLayout (sym S.layout) (superblock_facts o.region.frame.bytes o.found (has_layout o.region.frame.bytes o.found S.sound)).1

  has_ceased : HasCeased e
  has_ceased = ceased o e S (λ c low. resting e c (idle c low))

  no_place : (k : ℕ) → e.place k ≡ None
  no_place k = by (e.place k) refl where
    by : (x : Option Placed) → e.place k ≡ x → x ≡ None
    by None q = refl
    by (Some x) q = absurd (
        let on = ((idle (owner e.layout k) (owner_low e.layout is_layout k)).placed k x refl q).0 in
        let off = has_ceased.posted k x q in
        cc (on, off))

  pub drained : IsDrained e
  drained = record {
    place = no_place;
    waits = λ k. (idle (owner e.layout k) (owner_low e.layout is_layout k)).waits k refl (no_place k);
    backlog = λ c low. (idle c low).backlog (λ k own. no_place k);
    slots = has_ceased.slots;
  }

-- Then every request that was given is answered.
pub drained_answered : (o : Origin) (e : Engine) → Stands o e → IsDrained e → AllAnswered e
drained_answered o e S D n lt = by (slice_get e.given n) refl where
  is_layout : IsLayout e.layout
  is_layout = subst IsLayout (sym S.layout) (superblock_facts o.region.frame.bytes o.found (has_layout o.region.frame.bytes o.found S.sound)).1

  slice_some : (xs : List Request) (i : ℕ) → i < length xs → slice_get xs i ≡ None → ⊥
  slice_some [] i lt e = omega (arith, lt)
  slice_some (x ∷ xs) zero lt e = cc e
  slice_some (x ∷ xs) (suc i) lt e = slice_some xs i (omega (arith, lt)) e

  by : (q : Option Request) → slice_get e.given n ≡ q → (a : Answer) × (e.answer n ≡ Some a)
  by None none = absurd (slice_some e.given n lt none)
  by (Some q) is =
      let k = key_of q in
      let K = S.keys k in
      let z : 0 + n ≡ n = omega arith in
      let empty : line e k ++ requests_for k (e.backlog (owner e.layout k)) ≡ [] = (λ i. (request_placed (D.place k i) ++ D.waits k i) ++ requests_for k (D.backlog (owner e.layout k) (owner_low e.layout is_layout k) i)) in
      let there : In (n, q) (map (λ (x : Served). (x.number, x.request)) K.served ++ (line e k ++ requests_for k (e.backlog (owner e.layout k)))) = subst (λ (l : List (ℕ × Request)). In (n, q) l) K.split (subst (λ (m : ℕ). In (m, q) (requests_of k e.given)) z (in_from 0 e.given n q is)) in
      elim (in_either (n, q) (map (λ (x : Served). (x.number, x.request)) K.served) (line e k ++ requests_for k (e.backlog (owner e.layout k))) there) [
        | inr left ↦ absurd (subst (λ (l : List (ℕ × Request)). In (n, q) l) empty left)
        | inl served ↦
            let found = of_map (λ (x : Served). (x.number, x.request)) (n, q) K.served served in
            let its = all_in (λ (x : Served). e.answer x.number ≡ Some x.answer) K.served found.0 K.answers found.1 in
            (found.0.answer, ap (λ (x : ℕ × Request). e.answer x.0) found.2 ∙ its)
      ]
