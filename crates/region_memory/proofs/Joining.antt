-- A region takes its pieces back.
use Rattle.std.proofs.Common.{◌≡◌, ◌⊎◌, inl, inr, ⊎_elim, ℕ, zero, suc, ◌+◌, ◌-◌, ◌^◌, ◌≤◌, ◌<◌, Bool, true, false, List, length, get_or, take, drop, length-drop, refl, sym, ◌∙◌, ap, subst, arith}
use Rattle.std.proofs.Math.Nat.{mul-le-mul_left, mul-suc, mul_comm}
use Rattle.std.proofs.lemmas.Bool.{cases_lt}
use Rattle.pm_region.specs.Cell.{certain}
use Rattle.pm_region.specs.State.{IsTold, IsTelling, InRange, cell_now, counted}
use Rattle.pm_region.specs.Split.{words_in, CameFrom, TakesPiece, Joined, TellsFrom, ComesNext}
use Rattle.region_memory.specs.Journals.{cell_after, IsComplete, Closed, Reopens}
use Rattle.region_memory.specs.Histories.{Outside}
use Rattle.region_memory.specs.Moves.{cell_of, SaysAgain}
use Rattle.region_memory.specs.Volumes.{frame_of, state_with, part_frame, part_state}
use Rattle.region_memory.specs.Join.{at, IsIn, Fits, HasTaken, IsShort}
use Rattle.region_memory.specs.declared.history.History.{History}
use Rattle.region_memory.specs.declared.step.Step.{Step}
use Rattle.region_memory.proofs.Journals.{told_from}
use Rattle.region_memory.proofs.Now.{now_cell, telling_complete, complete_telling}

-- a history with the same words and steps has the same cells
pub same_cells : (old new : History) (w : ℕ) → SaysAgain old new → new.journal.steps.items ≡ old.journal.steps.items → cell_of new w ≡ cell_of old w
same_cells old new w again journal =
    ap (λ (l : List Step). cell_after l w (certain (get_or new.start.items (w - new.first) 0))) journal
    ∙ ap (λ (s : List ℕ). cell_after old.journal.steps.items w (certain (get_or s (w - new.first) 0))) again.start
    ∙ ap (λ (f : ℕ). cell_after old.journal.steps.items w (certain (get_or old.start.items (w - f) 0))) again.first

module _ {P : Type 0} (part : P → History) (h : History) (attached parted : Bool) (cuts : List ℕ) (bytes o a : ℕ) (pieces : List P) (zero_is : h.first ≡ 0)
    (within : (i : ℕ) → i < length cuts → get_or cuts i 0 ≤ length h.words.items)
    (count : length pieces ≡ length cuts - 1)
    (came : (i : ℕ) (p : P) → i < length pieces → CameFrom (state_with h attached parted cuts bytes o a 0 0) i (part_state (at part pieces i p) 0)) where
  from : (i : ℕ) (p : P) → i < length pieces → (at part pieces i p).first ≡ get_or cuts i 0
  from i p lt = (came i p lt).between.first

  to : (i : ℕ) (p : P) → i < length pieces → (at part pieces i p).first + length (at part pieces i p).words.items ≡ get_or cuts (i + 1) 0
  to i p lt = (came i p lt).between.end

  rising : (p : P) (i : ℕ) → i < length pieces → get_or cuts i 0 ≤ get_or cuts (i + 1) 0
  rising p i lt = let a = from i p lt in let b = to i p lt in omega arith

  climbs : (p : P) (i k : ℕ) → i + k ≤ length pieces → get_or cuts i 0 ≤ get_or cuts (i + k) 0
  climbs p i zero le = let e : i + 0 ≡ i = omega arith in subst (λ (n : ℕ). get_or cuts i 0 ≤ get_or cuts n 0) (sym e) (omega arith)
  climbs p i (suc k) le =
      let e : i + suc k ≡ i + k + 1 = omega arith in
      let so_far = climbs p i k (omega arith) in
      let more = rising p (i + k) (omega arith) in
      subst (λ (n : ℕ). get_or cuts i 0 ≤ get_or cuts n 0) (sym e) (omega arith)

  pub fits : (silent : History) → SaysAgain h silent → silent.journal.steps.items ≡ h.journal.steps.items → Fits part silent pieces
  fits silent again journal = record {
    low = λ j p lt. let z = zero_is in let f = again.first in omega arith;
    high = λ j p lt.
        let e = to j p lt in
        let l : get_or cuts (j + 1) 0 ≤ length h.words.items = within (j + 1) (omega arith) in
        let f = again.first in
        let same : length silent.words.items ≡ length h.words.items = ap length again.words in
        omega arith;
    apart = λ i j p lt within_j.
        let a = to i p (omega arith) in
        let b = from j p within_j in
        let c = climbs p (i + 1) (j - (i + 1)) (omega arith) in
        let e : i + 1 + (j - (i + 1)) ≡ j = omega arith in
        let d : get_or cuts (i + 1) 0 ≤ get_or cuts j 0 = subst (λ (n : ℕ). get_or cuts (i + 1) 0 ≤ get_or cuts n 0) e c in
        omega arith;
    began = λ j p w lt whole here. began j p w lt whole here ∙ sym (same_cells h silent w again journal);
  }
    where
      began : (j : ℕ) (p : P) (w : ℕ) → j < length pieces → IsComplete (at part pieces j p).journal → IsIn (at part pieces j p) w
          → cell_after (take (at part pieces j p).journal.base (at part pieces j p).journal.steps.items) w (certain (get_or (at part pieces j p).start.items (w - (at part pieces j p).first) 0)) ≡ cell_of h w
      began j p w lt whole here =
          let piece = at part pieces j p in
          let own = piece.journal in
          let below = whole.below in
          let kept = whole.kept in
          let told : IsTold (part_state (at part pieces j p) 0) own.since = record {
            says = told_from own own.since (record { since = omega arith; kept = omega (arith, own.ordered) });
            since = omega arith;
            seen = own.ordered;
            below = omega (arith, own.ordered);
          } in
          let inside : InRange (part_frame (at part pieces j p)) w = record { low = here.low; high = here.high } in
          let e : own.base + (own.since - own.since) ≡ own.base = omega arith in
          ap (λ (n : ℕ). cell_after (take n own.steps.items) w (certain (get_or piece.start.items (w - piece.first) 0))) (sym e)
          ∙ (came j p lt).began told w inside ∙ now_cell (frame_of h attached parted cuts bytes o a 0) 0 h w

  module _ (silent taken new : History) (again : SaysAgain h silent) (closed : Closed h.journal silent.journal)
      (before complete : Bool) (before_is : before ≡ true → IsComplete h.journal) (has : HasTaken part silent taken pieces (length pieces) before complete)
      (latest : ℕ) (from_own : h.journal.stamp ≤ latest) (from_pieces : (i : ℕ) (p : P) → i < length pieces → (at part pieces i p).journal.stamp ≤ latest)
      (reopens : Reopens taken.journal new.journal latest complete) (says : SaysAgain taken new) (cuts' : List ℕ) where
    yes : (r n : ℕ) → IsTelling (state_with new true false cuts' bytes o a r n) → complete ≡ true
    yes r n telling = reopens.told (telling_complete (frame_of new true false cuts' bytes o a r) n new telling)

    cells : (r n w : ℕ) → cell_now (state_with new true false cuts' bytes o a r n) w ≡ cell_of taken w
    cells r n w = now_cell (frame_of new true false cuts' bytes o a r) n new w ∙ same_cells taken new w says reopens.steps

    long : length new.words.items ≡ length h.words.items
    long = ap length says.words ∙ has.same_length ∙ ap length again.words

    -- a stamp rises, or stands at the last one
    later : (s : ℕ) → s ≤ latest → s < 2 ^ 64 → s ≤ new.journal.stamp
    later s le lt = let b = reopens.later in omega arith

    pub takes : (r n m : ℕ) → m ≤ n → (i : ℕ) (p : P) → i < length pieces → (at part pieces i p).journal.stamp < 2 ^ 64 → TakesPiece (state_with new true false cuts' bytes o a r n) (part_state (at part pieces i p) m)
    takes r n m le i p lt fits_in = record {
      stamp = later (at part pieces i p).journal.stamp (from_pieces i p lt) fits_in;
      faults = le;
      tells = λ telling. complete_telling (part_frame (at part pieces i p)) m (at part pieces i p) refl ((has.knows (yes r n telling)).complete i p lt);
      cells = λ w within telling. cells r n w ∙ (has.knows (yes r n telling)).taken i p w lt (record { low = within.low; high = within.high }) ∙ sym (now_cell (part_frame (at part pieces i p)) m (at part pieces i p) w);
    }

    -- the steps of a piece that has gone on from the region's stamp
    taken_steps : (r n m i : ℕ) (p : P) → i < length pieces → TellsFrom (state_with h attached parted cuts bytes o a r n) (part_state (at part pieces i p) m) → (at part pieces i p).journal.stamp ≤ h.journal.limit
        → length (drop (at part pieces i p).journal.base (at part pieces i p).journal.steps.items) ≤ h.journal.limit - h.journal.stamp
    taken_steps r n m i p lt tells low =
        let own = (at part pieces i p).journal in
        let long = length-drop own.base own.steps.items in
        let from_there = tells.1 in
        let kept = own.kept in
        omega arith

    pub comes : length pieces < h.journal.shares → (IsComplete h.journal → before ≡ true)
        → ((n : ℕ) → h.journal.stamp ≤ n → ((i : ℕ) (p : P) → i < length pieces → (at part pieces i p).journal.stamp ≤ n) → latest ≤ n)
        → (r n r' n' : ℕ) (m : P → ℕ) → ComesNext (λ p. part_state (part p) (m p)) (state_with h attached parted cuts bytes o a r n) (state_with new true false cuts' bytes o a r' n') pieces
    comes roomy whole least r n r' n' m telling all top low high = ⊎_elim near far (cases_lt h.journal.limit (counted latest))
      where
        below : latest ≤ top
        below = least top low high

        near : h.journal.limit < counted latest → new.journal.stamp ≤ counted top
        near lt =
            let same : taken.journal.limit ≡ h.journal.limit = has.limit ∙ closed.limit in
            let is = reopens.past (omega arith) in
            omega (arith, below)

        far : counted latest ≤ h.journal.limit → new.journal.stamp ≤ counted top
        far le =
            let d = h.journal.limit - h.journal.stamp in
            let same : taken.journal.limit ≡ h.journal.limit = has.limit ∙ closed.limit in
            let short : IsShort part pieces (length pieces) d = record {
              complete = λ j p lt. telling_complete (part_frame (at part pieces j p)) (m (get_or pieces j p)) (at part pieces j p) (all j p lt).0;
              steps = λ j p lt. taken_steps r n (m (get_or pieces j p)) j p lt (all j p lt) (let a = from_pieces j p lt in let b = (all j p lt).0.below in let c = h.journal.last_limit in omega arith);
            } in
            let room = h.journal.room in
            let shared = mul-le-mul_left d roomy in
            let split = mul-suc d (length pieces) in
            let turned = mul_comm d (length pieces) in
            let steps = ap length closed.steps in
            let capacity = closed.capacity in
            let full = has.fits d (whole (telling_complete (frame_of h attached parted cuts bytes o a r) n h telling)) short (omega arith) in
            let fill = full.1.steps in
            let wide = full.1.capacity in
            let is = reopens.next full.0 (omega arith) in
            omega (arith, below)

    pub joined : length h.words.items ≡ words_in bytes → h.journal.stamp < 2 ^ 64 → (r n n' : ℕ) → n ≤ n' → Joined (state_with h attached parted cuts bytes o a r n) (state_with new true false cuts' bytes o a r n')
    joined words_are fits_in r n n' le = record {
      first = refl;
      words = long ∙ words_are;
      bytes = refl;
      parted = refl;
      refusals = refl;
      faults = le;
      later = later h.journal.stamp from_own fits_in;
      rose = let b = reopens.later in omega (arith, from_own);
      since = reopens.since;
      tells = λ telling. complete_telling (frame_of h attached parted cuts bytes o a r) n h refl (before_is (has.was (yes r n' telling)));
      others = λ w out telling. cells r n' w ∙ (has.knows (yes r n' telling)).others w (λ j p lt. away w out j p lt) ∙ same_cells h silent w again closed.steps ∙ sym (now_cell (frame_of h attached parted cuts bytes o a r) n h w);
    }
      where
        away : (w : ℕ) → ((i : ℕ) → i + 1 < length cuts → (w < get_or cuts i 0) ⊎ (get_or cuts (i + 1) 0 ≤ w)) → (j : ℕ) (p : P) → j < length pieces → Outside (at part pieces j p).first (length (at part pieces j p).words.items) w
        away w out j p lt =
            let a = from j p lt in
            let b = to j p lt in
            ⊎_elim (λ low. inl (omega arith)) (λ high. inr (omega arith)) (out j (omega arith))
