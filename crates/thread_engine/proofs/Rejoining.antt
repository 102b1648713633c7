-- A region that was split at the parts and joined again.
use Rattle.std.proofs.Common.{◌≡◌, inl, ℕ, ◌+◌, ◌*◌, ◌/◌, ◌%◌, ◌<◌, ◌≤◌, List, length, Some, false, cond, IsTrue, sym, ◌∙◌, ap, subst, arith}
use Rattle.std.specs.List.{slice_get, slice_index, slice_index_or}
use Rattle.std.proofs.lemmas.Bool.{le-leb}
use Rattle.pm_region.specs.Cell.{Cell}
use Rattle.pm_region.specs.State.{State, IsTelling, InRange, cell_now, counted, Rose}
use Rattle.pm_region.specs.Words.{Surely}
use Rattle.pm_region.specs.Split.{AreCuts, Parted, Joined, ComesNext, TellsFrom, words_in}
use Rattle.pm_region.specs.declared.region_sizes.TheConstants.{MOST_BYTES}
use Rattle.chunk_map.specs.declared.layouts.Geometry.{Geometry}
use Rattle.chunk_map.specs.Layouts.{layout_of, part_first, chunk_words, total_bytes, IsLayout}
use Rattle.chunk_map.proofs.Clients.{numbers_of, chunk_words_whole, part_below, parts_end}
use Rattle.store_image.proofs.Clients.{layout_numbers}
use Rattle.recover.specs.declared.types.Recovered.{Recovered}
use Rattle.engine_laws.specs.Parts.{HasSuperblock}
use Rattle.engine_laws.specs.Origins.{Origin}
use Rattle.engine_core.specs.RunStarts.{StandsAsFound, BeginsAt}
use Rattle.thread_engine.specs.Outlets.{IsAsked}
use Rattle.thread_engine.specs.RanApart.{Rejoined}
use Rattle.thread_engine.specs.Supplied.{ArePartCuts}
use Rattle.thread_engine.proofs.Places.{get_there}
use Rattle.thread_engine.proofs.Supplying.{layout_found, surely_found}

-- the parts begin at whole lines, one behind the other
pub part_lines : (l : Geometry) → IsLayout l → (c : ℕ) → part_first l c % 8 ≡ 0
part_lines l is c =
    let whole = (chunk_words_whole l (numbers_of l is).size).1 in
    let n : ℕ = l.chunk_bytes / 64 in
    let a : l.chunks * chunk_words l ≡ l.chunks * (8 * n) = ap (λ m. l.chunks * m) whole in
    let b : l.chunks * (8 * n) ≡ 8 * (l.chunks * n) = omega arith in
    let d : c * (l.chunks * chunk_words l) ≡ c * (8 * (l.chunks * n)) = ap (λ m. c * m) (a ∙ b) in
    let e : c * (8 * (l.chunks * n)) ≡ 8 * (c * (l.chunks * n)) = omega arith in
    by (c * (l.chunks * chunk_words l)) (c * (l.chunks * n)) (d ∙ e)
  where
    by : (m k : ℕ) → m ≡ 8 * k → (512 + m) % 8 ≡ 0
    by m k is = omega (arith, is)

pub part_cuts : (l : Geometry) (words : ℕ) (cuts : List ℕ) → IsLayout l → 8 * words ≡ total_bytes l → ArePartCuts l cuts → AreCuts words cuts
part_cuts l words cuts is total P = record {
  whole = λ i lt. ap (λ n. n % 8) (P.at i (let many = P.count in omega (arith, lt, many))) ∙ part_lines l is i;
  rising = λ i lt.
      let many = P.count in
      let low = P.at i (omega (arith, lt, many)) in
      let high = P.at (i + 1) (omega (arith, lt, many)) in
      let le = part_below l i (i + 1) (omega arith) in
      omega (arith, low, high, le);
  within = λ i lt.
      let many = P.count in
      let at = P.at i (omega (arith, lt, many)) in
      let le = part_below l i l.cores (omega (arith, lt, many)) in
      let end = parts_end l (numbers_of l is).size in
      omega (arith, at, le, end, total);
}

-- a layout's region has so many words
pub words_of_layout : (l : Geometry) (bytes : ℕ) → IsLayout l → total_bytes l ≡ bytes → words_in bytes ≡ bytes / 8
words_of_layout l bytes is total = ap (λ b. cond {A = ℕ} b (bytes / 8) 0) (le-leb bytes MOST_BYTES (let most = (layout_numbers l is).total in omega (arith, most, total)))

-- A region that was split, and maybe asked since: it says what it said before, but for its counts.
pub record StillParted (old new : State) (cuts : List ℕ) : Type 0 where
  pub bytes : new.frame.bytes ≡ old.frame.bytes
  pub cuts_are : new.frame.cuts ≡ cuts
  pub faults : old.faults ≤ new.faults
  pub stamp : new.stamp ≡ old.stamp
  pub since : new.frame.since ≡ old.frame.since
  pub told : (t : ℕ) → new.told t ≡ old.told t
  pub cells : (t w : ℕ) → new.cells t w ≡ old.cells t w

pub still_parted : (s p t : State) (cuts : List ℕ) → Parted s p cuts → IsAsked p t → StillParted s t cuts
still_parted s p t cuts P A = record {
  bytes = A.stays.bytes ∙ P.bytes;
  cuts_are = A.stays.cuts ∙ P.cuts_are;
  faults = (let same = P.faults in let later = A.later in omega (arith, same, later));
  stamp = A.stays.stamp ∙ P.stamp;
  since = A.stays.since ∙ P.since;
  told = λ n. A.stays.told n ∙ P.told n;
  cells = λ n w. A.stays.cells n w ∙ P.cells n w;
}

module _ (s mid t : State) (cuts : List ℕ) (P : StillParted s mid cuts) (J : Joined mid t) where
  told_before : IsTelling t → IsTelling s
  told_before telling =
      let at = J.tells telling in
      let stamp = P.stamp in
      let since = P.since in
      let from = at.since in
      let below = at.below in
      record {
        says = subst (λ n. IsTrue (s.told n)) stamp (subst IsTrue (P.told mid.stamp) at.says);
        since = omega (arith, stamp, since, from);
        seen = omega arith;
        below = omega (arith, stamp, below);
      }

  pub rejoined : s.frame.first ≡ 0 → s.frame.words ≡ words_in s.frame.bytes → s.frame.parted ≡ false → mid.frame.opens ≡ s.frame.opens → mid.frame.refusals ≡ s.frame.refusals → t.frame.opens ≡ mid.frame.opens → Rejoined s t
  rejoined first words whole opens refusals opens' = record {
    first = J.first ∙ sym first;
    words = J.words ∙ ap words_in P.bytes ∙ sym words;
    bytes = J.bytes ∙ P.bytes;
    parted = J.parted ∙ sym whole;
    opens = opens' ∙ opens;
    refusals = J.refusals ∙ refusals;
    faults = (let up = J.faults in let same = P.faults in omega (arith, up, same));
    later = (let up = J.later in let same = P.stamp in omega (arith, up, same));
    rose = subst (λ n. Rose n t.stamp) P.stamp J.rose;
    since = J.since;
    tells = told_before;
  }

  -- the superblock lies before all parts
  pub superblock_joined : (l : Geometry) (found : ℕ → ℕ) → ArePartCuts l cuts → s.frame.first ≡ 0 → 512 ≤ s.frame.words → (IsTelling s → (w : ℕ) → InRange s.frame w → Surely (cell_now s w) (found w)) → IsTelling t → HasSuperblock found (cell_now t)
  superblock_joined l found C first many sure telling w low =
      subst (λ (x : Cell). Surely x (found w)) (sym (kept ∙ stays)) (sure (told_before telling) w (record { low = omega (arith, first); high = omega (arith, first, many, low) })) where
        stays : cell_now mid w ≡ cell_now s w
        stays = P.cells mid.stamp w ∙ ap (λ n. s.cells n w) P.stamp

        before : (i : ℕ) → i + 1 < length mid.frame.cuts → w < slice_index mid.frame.cuts i
        before i lt =
            let long = ap length P.cuts_are in
            let count = C.count in
            let at = ap (λ xs. slice_index xs i) P.cuts_are ∙ C.at i (omega (arith, lt, long, count)) in
            omega (arith, at, low)

        kept : cell_now t w ≡ cell_now mid w
        kept = J.others w (λ i lt. inl (before i lt)) telling

  -- what the pieces told, the region tells at the next stamp
  pub next_joined : {Q : Type 0} (said : Q → State) (qs : List Q) (cores : ℕ) (last : (c : ℕ) → c < cores → State) → ComesNext said mid t qs → length qs ≡ cores → ((c : ℕ) (low : c < cores) (q : Q) → slice_get qs c ≡ Some q → said q ≡ last c low)
      → IsTelling s → ((c : ℕ) (low : c < cores) → TellsFrom s (last c low)) → (latest : ℕ) → s.stamp ≤ latest → ((c : ℕ) (low : c < cores) → (last c low).stamp ≤ latest) → t.stamp ≤ counted latest
  next_joined {Q} said qs cores last N count is telling tell latest low few = N told_mid (λ i p lt. each i p lt) latest (let same = P.stamp in omega (arith, same, low)) (λ i p lt. below i p lt) where
    told_mid : IsTelling mid
    told_mid =
        let stamp = P.stamp in
        let since = P.since in
        let from = telling.since in
        let small = telling.below in
        record {
          says = subst IsTrue (sym (P.told mid.stamp)) (subst (λ n. IsTrue (s.told n)) (sym stamp) telling.says);
          since = omega (arith, stamp, since, from);
          seen = omega arith;
          below = omega (arith, stamp, small);
        }

    within : (i : ℕ) → i < length qs → i < cores
    within i lt = let many = count in omega (arith, lt, many)

    at : (i : ℕ) (p : Q) (lt : i < length qs) → said (slice_index_or qs i p) ≡ last i (within i lt)
    at i p lt = is i (within i lt) (slice_index_or qs i p) (get_there qs i p lt)

    each : (i : ℕ) (p : Q) → i < length qs → TellsFrom mid (said (slice_index_or qs i p))
    each i p lt = (let from = tell i (within i lt) in subst (λ (x : State). TellsFrom mid x) (sym (at i p lt)) (from.0, from.1 ∙ sym P.stamp))

    below : (i : ℕ) (p : Q) → i < length qs → (said (slice_index_or qs i p)).stamp ≤ latest
    below i p lt = (let few_there = few i (within i lt) in let same = ap (λ (x : State). x.stamp) (at i p lt) in omega (arith, few_there, same))

-- The same of a region that stands as recovery found it.
module _ (s : State) (word : ℕ → ℕ) (r : Recovered) (o : Origin) (F : StandsAsFound s word r) (B : BeginsAt s word o) (cuts : List ℕ) (C : ArePartCuts (layout_of o.found) cuts) where
  layout_is : IsLayout (layout_of o.found)
  layout_is = subst IsLayout (layout_found s word r o F B) F.made.layout

  total_is : total_bytes (layout_of o.found) ≡ s.frame.bytes
  total_is = ap total_bytes (sym (layout_found s word r o F B)) ∙ F.made.total

  pub region_cuts : AreCuts s.frame.words cuts
  region_cuts = part_cuts (layout_of o.found) s.frame.words cuts layout_is (let words = F.words in let total = total_is in let end = parts_end (layout_of o.found) (numbers_of (layout_of o.found) layout_is).size in omega (arith, words, total, end)) C

  module _ (mid t : State) (P : StillParted s mid cuts) (J : Joined mid t) where
    pub region_rejoined : s.frame.parted ≡ false → mid.frame.opens ≡ s.frame.opens → mid.frame.refusals ≡ s.frame.refusals → t.frame.opens ≡ mid.frame.opens → Rejoined s t
    region_rejoined whole opens refusals opens' = rejoined s mid t cuts P J F.first (F.words ∙ sym (words_of_layout (layout_of o.found) s.frame.bytes layout_is total_is)) whole opens refusals opens'

    pub region_superblock : IsTelling t → HasSuperblock o.found (cell_now t)
    region_superblock = superblock_joined s mid t cuts P J (layout_of o.found) o.found C F.first (let words = F.words in let total = total_is in let end = parts_end (layout_of o.found) (numbers_of (layout_of o.found) layout_is).size in omega (arith, words, total, end)) (surely_found s word r o F B)
