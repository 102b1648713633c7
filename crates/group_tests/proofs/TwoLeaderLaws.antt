-- What two leaders need of one another.
use Rattle.std.proofs.Common.{◌≡◌, ◌≢◌, inl, inr, ℕ, ◌+◌, ◌*◌, ◌≤◌, ◌<◌, Some, None, refl, sym, ◌∙◌, ap, subst, arith}
use Rattle.pm_region.specs.Cell.{Cell, certain, fenced}
use Rattle.pm_region.specs.State.{State, IsTelling, cell_now}
use Rattle.pm_region.specs.Words.{Kept}
use Rattle.pm_region.proofs.Clients.{certain_may_be}
use Rattle.chunk_map.specs.declared.layouts.Geometry.{Geometry}
use Rattle.chunk_map.specs.Layouts.{chunk_first, part_first, payload_lines}
use Rattle.core_log.specs.Log.{LogState, first_of}
use Rattle.group_laws.specs.Places.{Place, members, owner, core_of}
use Rattle.group_laws.specs.State.{Group}
use Rattle.group_laws.specs.MemberViews.{View, view_of}
use Rattle.group_board.specs.declared.change.Change.{Change}
use Rattle.group_tests.specs.BoardTrials.{fresh}
use Rattle.licence.specs.Licence.{part_at, part_end}
use Rattle.licence.specs.Writes.{Begins}
use Rattle.batch_leader.specs.declared.states.Batch.{Batch}
use Rattle.batch_leader.specs.Leading.{IsBatchAt}
use Rattle.group_tests.specs.LeadTrials.{put_of, small_place, IsUnwritten, FitsFresh, IsBlankRegion, IsEmptyLog, MayGather, Gathered, MayWrite, Wrote, HaveBatches}
use Rattle.group_tests.proofs.LeadTrialLaws.{fresh_post, fresh_unwritten, zero_licensed}

pub owner_0 : owner small_place 0 ≡ 0
unfolding owner
owner_0 = refl

pub owner_1 : owner small_place 1 ≡ 1
unfolding owner
owner_1 = refl

fresh_gather : (m k : ℕ) → m < 3 → k < 8 → owner small_place k ≡ m → MayGather fresh.place m (view_of fresh m) (put_of k)
fresh_gather m k low small_key own = record {
  post = fresh_post m k low small_key own;
  lock = record { member = low; not_held = refl; gave_back = λ a s. refl };
  idle = refl;
  group = omega arith;
  put = (k, refl);
}

-- a member may do so at the beginning
pub first_gather : (w : Group) (m k : ℕ) (c : Change) → w ≡ fresh → c ≡ put_of k → m < 3 → k < 8 → owner small_place k ≡ m → MayGather w.place m (view_of w m) c
first_gather w m k c is change low small_key own =
    subst (λ (x : Change). MayGather w.place m (view_of w m) x) (sym change) (subst (λ (g : Group). MayGather g.place m (view_of g m) (put_of k)) (sym is) (fresh_gather m k low small_key own))

-- and after another did
pub next_gather : (w u : Group) (m k n : ℕ) (c : Change) (b : Batch) → w ≡ fresh → c ≡ put_of k → m < 3 → k < 8 → owner small_place k ≡ m → m ≢ n → Gathered w u n b → MayGather u.place m (view_of u m) c
next_gather w u m k n c b is change low small_key own ne did =
    subst (λ (p : Place). MayGather p m (view_of u m) c) (sym did.place) (subst (λ (v : View). MayGather w.place m v c) (sym (did.others m ne)) (first_gather w m k c is change low small_key own))

abbrev zero : ℕ
zero = 0

abbrev one : ℕ
one = 1

pub other_than : (zero ≢ one) × (one ≢ zero)
other_than = (λ e. absurd (omega (arith, e)), λ e. absurd (omega (arith, e)))

unwritten_at : (w : Group) (m : ℕ) → w ≡ fresh → IsUnwritten (view_of w m)
unwritten_at w m is = subst (λ (g : Group). IsUnwritten (view_of g m)) (sym is) (fresh_unwritten m)

batch_by : (t u : Group) (m : ℕ) (b : Batch) → u.place ≡ t.place → view_of u m ≡ view_of t m → IsBatchAt t.place m (view_of t m) b → IsBatchAt u.place m (view_of u m) b
batch_by t u m b place view is = subst (λ (v : View). IsBatchAt u.place m v b) (sym view) (subst (λ (p : Place). IsBatchAt p m (view_of t m) b) (sym place) is)

pub have_batches : (w t u : Group) (a b : Batch) → w ≡ fresh → Gathered w t 0 a → Gathered t u 1 b → HaveBatches u a b
have_batches w t u a b is one two = record {
  place = two.place ∙ one.place ∙ ap (λ (g : Group). g.place) is;
  zero = batch_by t u 0 a two.place (two.others 0 other_than.0) one.batch;
  one = two.batch;
  fits = (one.fits, two.fits);
  unwritten = (
    subst IsUnwritten (sym (two.others 0 other_than.0)) (one.unwritten (unwritten_at w 0 is)),
    two.unwritten (subst IsUnwritten (sym (one.others 1 other_than.1)) (unwritten_at w 1 is)),
  );
}

core_small : (m : ℕ) → core_of small_place m ≡ m
unfolding core_of
core_small m = omega arith

part_small : (m : ℕ) → (part_at small_place m ≡ 512 + m * 2048) × (part_end small_place m ≡ 512 + m * 2048 + 2048)
part_small m =
    let here = core_small m in
    (ap (part_first small_place.layout) here, ap (λ (n : ℕ). part_first small_place.layout (n + 1)) here ∙ omega arith)

-- the words of a part of zeros
abbrev AreZeros : State → ℕ → Type 0
AreZeros s m = (w : ℕ) → 512 + m * 2048 ≤ w → w < 512 + m * 2048 + 2048 → IsTelling s → cell_now s w ≡ certain 0

chunk_2 : (log : LogState) (m : ℕ) → IsEmptyLog log m → first_of log 2 ≡ 512 + (m * 4 + 2) * 512
chunk_2 log m empty = λ i. chunk_first (empty.layout i) (empty.part i) 2

-- a member may write its first batch
may_write : (s : State) (u : Group) (m : ℕ) (log : LogState) (b : Batch) → s.frame.first ≡ 0 → s.frame.words ≡ 6656 → AreZeros s m → m < 3 → u.place ≡ small_place → IsEmptyLog log m
    → IsBatchAt u.place m (view_of u m) b → FitsFresh b → IsUnwritten (view_of u m) → MayWrite u.place m (view_of u m) s log b
may_write s u m log b first words zeros low place empty batch fits unwritten = record {
  batch = batch;
  begins = subst (λ (p : Place). Begins s p m (view_of u m) log) (sym place) (record {
    own = record { layout = empty.layout; part = empty.part ∙ sym (core_small m) };
    stands = record {
      own = empty.own;
      low = omega (arith, first);
      high = (let end : part_first log.layout (log.part + 1) ≡ 512 + (m + 1) * 2048 = (λ i. part_first (empty.layout i) (empty.part i + 1)) in omega (arith, first, words, end, low));
      logs = λ telling j tail is. (let both : None ≡ Some tail = sym (empty.none j) ∙ is in absurd (cc both));
      spelled = λ telling j tail is. (let both : None ≡ Some tail = sym (empty.none j) ∙ is in absurd (cc both));
    };
    licensed = λ telling image may. zero_licensed small_place m (view_of u m) image unwritten
        (λ w lo hi.
        let at = part_small m in
        certain_may_be (cell_now s w) 0 (image w) (zeros w (let a = at.0 in omega (arith, lo, a)) (let a = at.1 in omega (arith, hi, a)) telling) (may w lo hi))
        (omega arith);
  });
  room =
      let payload : payload_lines log.layout ≡ 60 = ap payload_lines empty.layout in
      let chunks : log.layout.chunks ≡ 4 = ap (λ (l : Geometry). l.chunks) empty.layout in
      let at = chunk_2 log m empty in
      (omega (arith, payload, fits), omega (arith, chunks), λ telling x may. certain_may_be (cell_now s (first_of log 2)) 0 x (zeros (first_of log 2) (omega (arith, at)) (omega (arith, at)) telling) may);
}

blank_zeros : (s : State) (m : ℕ) → IsBlankRegion s → m < 3 → AreZeros s m
blank_zeros s m blank low w from end telling = (let first = blank.first in let words = blank.words in blank.zeros w (record { low = omega (arith, first); high = omega (arith, first, words, low, end) }) telling)

kept_zero : (c d : Cell) → c ≡ certain 0 → Kept c d → d ≡ certain 0
kept_zero c d is (inl same) = same ∙ is
kept_zero c d is (inr same) = same ∙ ap fenced is

zeros_after : (s t : State) (w u : Group) → AreZeros s 0 → w.place ≡ small_place → Wrote w u 1 s t → AreZeros t 0
zeros_after s t w u zeros place wrote x from end telling =
    let during = wrote.outside in
    let was = during.was t.stamp telling during.later in
    let begin : part_at w.place 1 ≡ 512 + 1 * 2048 = ap (λ (p : Place). part_at p 1) place ∙ (part_small 1).0 in
    kept_zero (cell_now s x) (cell_now t x) (zeros x from end was) (during.each t.stamp telling during.later x (inl (omega (arith, end, begin))))

pub one_may_write : (s : State) (u : Group) (log : LogState) (a b : Batch) → IsBlankRegion s → IsEmptyLog log 1 → HaveBatches u a b → MayWrite u.place 1 (view_of u 1) s log b
one_may_write s u log a b blank empty have = may_write s u 1 log b blank.first blank.words (blank_zeros s 1 blank (omega arith)) (omega arith) have.place empty have.one have.fits.1 have.unwritten.1

pub zero_may_write : (s t : State) (w u : Group) (log : LogState) (a b : Batch) → IsBlankRegion s → IsEmptyLog log 0 → HaveBatches w a b → Wrote w u 1 s t → MayWrite u.place 0 (view_of u 0) t log a
zero_may_write s t w u log a b blank empty have wrote =
    let frame = wrote.outside.frame in
    let view = wrote.others 0 other_than.0 in
    may_write t u 0 log a (ap (λ f. f.first) frame ∙ blank.first) (ap (λ f. f.words) frame ∙ blank.words) (zeros_after s t w u (blank_zeros s 0 blank (omega arith)) have.place wrote) (omega arith) (wrote.place ∙ have.place) empty
    (batch_by w u 0 a wrote.place view have.zero) have.fits.0 (subst IsUnwritten (sym view) have.unwritten.0)

pub three_members : (w t u : Group) (a b : Batch) (s r q : State) → HaveBatches w a b → Wrote w t 1 s r → Wrote t u 0 r q → members u.place ≡ 3
three_members w t u a b s r q have one two = ap members (two.place ∙ one.place ∙ have.place)
