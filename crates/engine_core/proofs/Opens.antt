-- Where a region stands as recovery found it, a run may begin there, and the workers of the starts are seated in its first state.
use Rattle.std.proofs.Common.{◌≡◌, inl, inr, ℕ, zero, suc, ◌+◌, ◌/◌, ◌^◌, ◌<◌, List, [], ◌∷◌, ◌++◌, length, length-append, Some, refl, sym, ◌∙◌, ap, subst, arith}
use Rattle.std.specs.Prelude.{slice_index_or}
use Rattle.std.specs.List.{slice_get}
use Rattle.pm_region.specs.State.{State, IsTelling, InRange, cell_now}
use Rattle.pm_region.specs.Words.{Surely, lasts}
use Rattle.chunk_map.specs.declared.layouts.Geometry.{Geometry}
use Rattle.chunk_map.specs.Layouts.{layout_of}
use Rattle.store_image.specs.Soundness.{IsSound}
use Rattle.store_image.proofs.Clients.{layout_numbers, store_sound}
use Rattle.core_log.specs.Log.{StandsIn}
use Rattle.recover.specs.declared.types.CoreStart.{CoreStart}
use Rattle.recover.specs.declared.types.Recovered.{Recovered}
use Rattle.recover.specs.Recovering.{IsFound}
use Rattle.group_laws.specs.Regions.{place_at}
use Rattle.group_board.specs.Journals.{image_of}
use Rattle.engine_laws.specs.Parts.{group_of, member_of}
use Rattle.engine_laws.specs.Stands.{Origin, opening}
use Rattle.core_worker.specs.declared.worker.Worker.{Worker}
use Rattle.core_worker.specs.Beginning.{answers_of}
use Rattle.core_worker.specs.Left.{fair}
use Rattle.core_worker.specs.Openings.{IsNew, IsStartAt, IsCertainAt}
use Rattle.core_worker.specs.WorkerMoves.{hands_of}
use Rattle.core_worker.proofs.Clients.{start_at, certain_at}
use Rattle.engine_core.specs.RunStarts.{StandsAsFound, BeginsAt, AreNew}
use Rattle.engine_core.specs.Seated.{AreSeated}
use Rattle.engine_core.specs.Working.{IsMember, may_take, leads, SeatsFirst, SeatFirst}
use Rattle.engine_core.proofs.Kept.{get_there, get_more, some_there}
use Rattle.engine_core.proofs.Ranged.{words_in, in_words, found_agrees}

get_low : {X : Type 0} (xs : List X) (n : ℕ) (x : X) → slice_get xs n ≡ Some x → n < length xs
get_low [] n x e = absurd (cc e)
get_low (y ∷ ys) zero x e = omega arith
get_low (y ∷ ys) (suc n) x e = let r = get_low ys n x e in omega (arith, r)

-- one worker more
pub seat_more : (starts : List CoreStart) (start : CoreStart) (l : Geometry) (ws : List Worker) (w : Worker) → length ws ≡ length starts → SeatFirst starts l ws → SeatsFirst start l w → SeatFirst (starts ++ start ∷ []) l (ws ++ w ∷ [])
seat_more starts start l ws w count all one c x y at from = elim (get_more ws w x c at) [
  | inl h ↦ elim (get_more starts start y c from) [
    | inl k ↦ all c x y h k
    | inr k ↦ absurd (let lt = get_low ws c x h in let e = k.0 in omega (arith, lt, e, count))
  ]
  | inr h ↦ elim (get_more starts start y c from) [
    | inl k ↦ absurd (let lt = get_low starts c y k in let e = h.0 in omega (arith, lt, e, count))
    | inr k ↦ subst (λ z. SeatsFirst y l z) (sym h.1) (subst (λ z. SeatsFirst z l w) (sym k.1) one)
  ]
]

pub new_more : (starts : List CoreStart) (start : CoreStart) (l : Geometry) (ws : List Worker) (w : Worker) → AreNew starts l ws → IsNew start l w → AreNew (starts ++ start ∷ []) l (ws ++ w ∷ [])
new_more starts start l ws w all one = record {
  count = length-append ws (w ∷ []) ∙ ap (λ n. n + 1) all.count ∙ sym (length-append starts (start ∷ []));
  each = λ c x y at from. elim (get_more ws w x c at) [
    | inl h ↦ elim (get_more starts start y c from) [
      | inl k ↦ all.each c x y h k
      | inr k ↦ absurd (let lt = get_low ws c x h in let e = k.0 in let count = all.count in omega (arith, lt, e, count))
    ]
    | inr h ↦ elim (get_more starts start y c from) [
      | inl k ↦ absurd (let lt = get_low starts c y k in let e = h.0 in let count = all.count in omega (arith, lt, e, count))
      | inr k ↦ subst (λ z. IsNew y l z) (sym h.1) (subst (λ z. IsNew z l w) (sym k.1) one)
    ]
  ];
}

pub none_new : (l : Geometry) (ws : List Worker) → ws ≡ [] → AreNew [] l ws
none_new l ws blank = subst (λ xs. AreNew [] l xs) (sym blank) (record { count = refl; each = λ c w start at from. absurd (cc at) })

-- A run begins at the region's state, on its words.
abbrev pub origin_at : State → (ℕ → ℕ) → Origin
origin_at s word = record { region = s; found = image_of (words_in word (s.frame.bytes / 8)) }

module _ (s : State) (word : ℕ → ℕ) (tells : (w : ℕ) → IsTelling s → lasts s w ≡ word w) (r : Recovered) (F : StandsAsFound s word r) where
  abbrev o : Origin
  o = origin_at s word

  abbrev n : ℕ
  n = s.frame.bytes / 8

  reads : (w : ℕ) → w < n → o.found w ≡ word w
  reads w low = in_words word n w low

  is_found : IsFound s.frame.bytes o.found r
  is_found = found_agrees s.frame.bytes o.found word reads r F.made F.found

  pub sound : IsSound s.frame.bytes o.found
  sound = store_sound s.frame.bytes o.found is_found.sound

  pub layout_is : r.layout ≡ layout_of o.found
  layout_is = is_found.is_of.layout_is

  certain : IsTelling s → (w : ℕ) → InRange s.frame w → Surely (cell_now s w) (o.found w)
  certain telling w at =
      let first = F.first in
      let words = F.words in
      let high = at.high in
      let low : w < n = omega (arith, first, words, high) in
      subst (λ v. Surely (cell_now s w) v) (tells w telling ∙ sym (reads w low)) (F.certain telling w at)

  pub begins : BeginsAt s word o
  begins = record {
    is = record {
      sound = sound;
      first = F.first;
      words = F.words;
      certain = λ telling w low. certain telling w (record { low = (let z = F.first in omega (arith, z)); high = (let z = F.first in let k = F.words in omega (arith, z, k, low)) });
    };
    region = refl;
    reads = reads;
    tells = λ telling w low. reads w low ∙ sym (tells w telling);
  }

  small : s.frame.first + s.frame.words < 2 ^ 64
  small =
      let first = F.first in
      let words = F.words in
      let total = F.made.total in
      let most = (layout_numbers r.layout F.made.layout).total in
      omega (arith, first, words, total, most)

  -- the worker of core c
  seated : (c : ℕ) (w : Worker) (start : CoreStart) → c < r.layout.cores → slice_index_or r.starts.items c start ≡ start → SeatsFirst start r.layout w
      → IsStartAt (place_at r.layout (group_of r.layout c)) (member_of r.layout c) o.found start × IsCertainAt s (place_at r.layout (group_of r.layout c)) (member_of r.layout c) o.found start
  seated c w start low same first =
      let l = r.layout in
      let at : IsStartAt (place_at l (group_of l c)) (member_of l c) o.found start = subst (λ x. IsStartAt (place_at l (group_of l c)) (member_of l c) o.found x) same (start_at s.frame.bytes o.found r F.made is_found c start low) in
      let stand : StandsIn s start.log = subst (λ (x : CoreStart). StandsIn s x.log) same (F.stand c start low) in
      (at, certain_at s (place_at l (group_of l c)) (member_of l c) o.found start at stand small certain)

  pub are_seated : (ws : List Worker) → length ws ≡ length r.starts.items → SeatFirst r.starts.items r.layout ws → AreSeated hands_of answers_of IsMember fair may_take leads ws (opening o)
  are_seated ws count all c w at =
      let lt = get_low ws c w at in
      let many = F.made.count in
      let from = some_there r.starts.items c (let z = count in omega (arith, lt, z)) in
      let start = from.0 in
      let low : c < r.layout.cores = omega (arith, lt, count, many) in
      let there : Some (slice_index_or r.starts.items c start) ≡ Some start = sym (get_there r.starts.items c start (omega (arith, lt, count))) ∙ from.1 in
      let same : slice_index_or r.starts.items c start ≡ start = cc there in
      let first = all c w start at from.1 in
      let both = seated c w start low same first in
      first o c layout_is
      (subst (λ (l : Geometry). IsStartAt (place_at l (group_of l c)) (member_of l c) o.found start) layout_is both.0)
      (subst (λ (l : Geometry). IsCertainAt s (place_at l (group_of l c)) (member_of l c) o.found start) layout_is both.1)

pub no_seats : (starts : List CoreStart) (l : Geometry) (ws : List Worker) → ws ≡ [] → SeatFirst starts l ws
no_seats starts l ws blank c w start at from = let no : slice_get {X = Worker} [] c ≡ Some w = subst (λ (xs : List Worker). slice_get xs c ≡ Some w) blank at in absurd (cc no)
