-- What the tests' helpers need.
use Rattle.std.proofs.Common.{◌≡◌, inr, ℕ, ◌+◌, ◌≤◌, ◌<◌, Bool, true, false, cond, eqb, List, [], map, Option, Some, None, refl, sym, ◌∙◌, ap, subst, arith}
use Rattle.std.proofs.Math.ListN.{get_or-eq_default}
use Rattle.pm_region.specs.Words.{lines_for}
use Rattle.pm_region.specs.Cell.{certain}
use Rattle.pm_region.specs.State.{State, IsTelling, cell_now, InRange}
use Rattle.pm_region.proofs.Clients.{certain_may_be}
use Rattle.chunk_map.specs.declared.layouts.Geometry.{Geometry}
use Rattle.chunk_map.specs.Layouts.{chunk_first, head_by, part_first, chunk_words, payload_lines}
use Rattle.chunk_map.proofs.Clients.{chunk_in_part}
use Rattle.log_entry.specs.declared.entry.Entry.{Entry}
use Rattle.store_image.specs.declared.types.PlacedEntry.{PlacedEntry}
use Rattle.store_image.specs.Facts.{In}
use Rattle.core_log.specs.Log.{LogState, IsOwn, tail_of, first_of}
use Rattle.core_log.proofs.Clients.{free_reads_well, free_has_none, InPart, part_of, part_reads_by}
use Rattle.group_laws.specs.Places.{Place, IsPlace, owner, core_of}
use Rattle.group_laws.specs.State.{Group}
use Rattle.group_laws.specs.MemberViews.{View, view_of, of_own}
use Rattle.group_laws.specs.Images.{IsLicensedBy}
use Rattle.group_laws.specs.OpeningImages.{IsBlank}
use Rattle.group_laws.specs.declared.types.Pending.{Pending}
use Rattle.group_board.specs.declared.change.Change.{Change}
use Rattle.group_laws.proofs.Clients.{no_block, no_last, no_log}
use Rattle.group_board.specs.Journals.{image_of, place_in}
use Rattle.group_board.specs.Conditions.{MayPost}
use Rattle.group_tests.specs.BoardTrials.{small_words, fresh}
use Rattle.licence.specs.Licence.{part_at, part_end}
use Rattle.licence.specs.Writes.{Begins}
use Rattle.batch_leader.specs.Persisting.{HasRoom}
use Rattle.group_tests.specs.LeadTrials.{put_of, IsUnwritten}

abbrev pub small : Place
small = place_in 0 small_words

pub small_place : IsPlace small
small_place = record { layout = refl; group = omega arith }

small_blank : IsBlank small.layout (image_of small_words)
small_blank c j low less =
    let zero_at : (i : ℕ) → 6 ≤ i → image_of small_words i ≡ 0 = λ i h. get_or-eq_default small_words 0 {n = i} h in
    let at = chunk_first small.layout c j in
    ap (λ (n : ℕ). head_by small.layout n (image_of small_words (at + 1))) (zero_at at (omega arith)) ∙ refl

none_own : {X : Type 0} (b : Bool) (d : X) → cond b d d ≡ d
none_own true d = refl
none_own false d = refl

-- a member may post the first put of a key of its own
pub fresh_post : (m k : ℕ) → m < 3 → k < 8 → owner small k ≡ m → MayPost fresh.place m (view_of fresh m) 0 (put_of k) []
fresh_post m k low small_key own = record {
  member = low;
  slot = omega arith;
  free = λ j e p. (let q : None ≡ Some (record { entry = e; slot = Some 0 }) = sym (none_own {X = Option Pending} (eqb (owner fresh.place j) m) None) ∙ p in absurd (cc q));
  home = refl;
  spelled = record { key = omega (arith, small_key); fits = (omega arith, omega arith, omega arith, (omega arith, tt)) };
  own = own;
  idle = none_own (eqb (owner fresh.place k) m) None;
  whole = refl;
  next = sym (ap (λ (x : ℕ). x + 1) (ap (λ (x : ℕ). of_own small m k x 0) (no_last small small_place (image_of small_words) small_blank k) ∙ none_own (eqb (owner small k) m) 0));
  live = λ t. absurd (cc t);
  block = λ at t. absurd (cc t);
}

pub key_1 : owner small 1 ≡ 1
unfolding owner
key_1 = refl

pub fresh_unwritten : (m : ℕ) → IsUnwritten (view_of fresh m)
fresh_unwritten m = record {
  kept = no_log small small_place (image_of small_words) small_blank m;
  blocks = λ q. no_block small small_place (image_of small_words) small_blank m q;
}

-- an image of zeros is licensed where nothing is certain
pub zero_licensed : (p : Place) (m : ℕ) (v : View) (image : ℕ → ℕ) → IsUnwritten v → ((w : ℕ) → part_at p m ≤ w → w < part_end p m → image w ≡ 0) → 0 < chunk_words p.layout → IsLicensedBy p m v image
zero_licensed p m v image none zero size = record {
  well = part_reads_by p.layout image (core_of p m) (λ j lt. free_reads_well p.layout image (chunk_first p.layout (core_of p m) j) (head j lt));
  has = λ e k live. absurd (subst (In e) none.kept k);
  only = λ e i. absurd (nothing e i);
  whole = inr (λ e f i. absurd (nothing e i));
  blocks = λ q b h. (let both = sym (none.blocks q) ∙ h in absurd (cc both));
}
  where
    head : (j : ℕ) → j < p.layout.chunks → image (chunk_first p.layout (core_of p m) j) ≡ 0
    head j lt = let lies = chunk_in_part p.layout (core_of p m) j lt in zero (chunk_first p.layout (core_of p m) j) lies.0 (omega (arith, lies.1, size))

    nothing : (e : Entry) → InPart p.layout image (core_of p m) e → ⊥
    nothing e i =
        let at = part_of p.layout image (core_of p m) e i in
        subst (λ (xs : List PlacedEntry). In e (map (λ (x : PlacedEntry). x.entry) xs)) (free_has_none p.layout image (core_of p m) at.0 (head at.0 at.1)) at.2

chunk_words_small : chunk_words small.layout ≡ 512
chunk_words_small = refl

part_1 : (part_at small 1 ≡ 2560) × (part_end small 1 ≡ 4608)
unfolding core_of
part_1 = (refl, refl)

core_1 : core_of small 1 ≡ 1
unfolding core_of
core_1 = refl

-- a log with no chunks stands in a region of zeros, and where nothing is certain each image is licensed
pub begins_small : (s : State) (p : Place) (m : ℕ) (v : View) (log : LogState) → s.frame.first ≡ 0 → s.frame.words ≡ 6656 → ((w : ℕ) → InRange s.frame w → IsTelling s → cell_now s w ≡ certain 0)
    → p ≡ small → m ≡ 1 → IsOwn log → log.layout ≡ small.layout → log.part ≡ 1 → ((j : ℕ) → tail_of log.chunks j ≡ None) → IsUnwritten v → Begins s p m v log
begins_small s p m v log first words zeros p_is m_is own layout part none unwritten =
    subst (λ (x : Place). Begins s x m v log) (sym p_is) (subst (λ (n : ℕ). Begins s small n v log) (sym m_is) (record {
      own = record { layout = layout; part = part ∙ sym core_1 };
      stands = record {
        own = own;
        low = omega (arith, first);
        high = (let end : part_first log.layout (log.part + 1) ≡ 4608 = (λ i. part_first (layout i) (part i + 1)) in omega (arith, first, words, end));
        logs = λ telling j tail is. (let both : None ≡ Some tail = sym (none j) ∙ is in absurd (cc both));
        spelled = λ telling j tail is. (let both : None ≡ Some tail = sym (none j) ∙ is in absurd (cc both));
      };
      licensed = λ telling image may. zero_licensed small 1 v image unwritten
          (λ w lo hi. certain_may_be (cell_now s w) 0 (image w) (zeros w (record { low = omega (arith, first); high = (let end = part_1.1 in omega (arith, first, words, end, hi)) }) telling) (may w lo hi))
          (let size = chunk_words_small in omega (arith, size));
    }))

pub room_small : (s : State) (log : LogState) (n : ℕ) → s.frame.first ≡ 0 → s.frame.words ≡ 6656 → ((w : ℕ) → InRange s.frame w → IsTelling s → cell_now s w ≡ certain 0)
    → log.layout ≡ small.layout → log.part ≡ 1 → lines_for n ≤ 60 → HasRoom s log n (Some 2)
room_small s log n first words zeros layout part fits =
    let payload : payload_lines log.layout ≡ 60 = ap payload_lines layout in
    let chunks : log.layout.chunks ≡ 4 = ap (λ (l : Geometry). l.chunks) layout in
    let at : first_of log 2 ≡ 3584 = (λ i. chunk_first (layout i) (part i) 2) in
    (omega (arith, payload, fits), omega (arith, chunks), λ telling x may. certain_may_be (cell_now s (first_of log 2)) 0 x (zeros (first_of log 2) (record { low = omega (arith, first); high = omega (arith, first, words, at) }) telling) may)

pub unwritten_by : (w : Group) → w ≡ fresh → IsUnwritten (view_of w 1)
unwritten_by w is = subst (λ (g : Group). IsUnwritten (view_of g 1)) (sym is) (fresh_unwritten 1)

pub may_post : (w : Group) (c : Change) → w ≡ fresh → c ≡ put_of 1 → MayPost w.place 1 (view_of w 1) 0 c []
may_post w c is change = subst (λ (x : Change). MayPost w.place 1 (view_of w 1) 0 x []) (sym change) (subst (λ (g : Group). MayPost g.place 1 (view_of g 1) 0 (put_of 1) []) (sym is) (fresh_post 1 1 (omega arith) (omega arith) key_1))
