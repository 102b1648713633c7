-- What recovery finds in a region's words depends on those in its range alone, so a list of them says the same.
use Rattle.std.proofs.Common.{◌≡◌, ℕ, zero, suc, ◌+◌, ◌*◌, ◌/◌, ◌<◌, ◌≤◌, ◌==◌, List, [], ◌∷◌, map, Bool, true, false, cond, Some, None, Ok, refl, sym, ◌∙◌, ap, subst, arith}
use Rattle.std.specs.Prelude.{get_or, option_map, unwrap_or, slice_index_or, nat_lt, fold}
use Rattle.std.specs.List.{AllByRecursion, count_by}
use Rattle.std.proofs.lemmas.Bool.{ltb-true}
use Rattle.chunk_map.specs.declared.layouts.Geometry.{Geometry}
use Rattle.chunk_map.specs.declared.heads.Head.TheVariants.{Log}
use Rattle.chunk_map.specs.Layouts.{numbers, layout_of, total_bytes, chunk_words, payload_words, chunk_first, head_at}
use Rattle.log_entry.specs.Batches.{scan_of}
use Rattle.log_entry.proofs.Clients.{words_same}
use Rattle.store_image.specs.Parts.{payload, all_entries}
use Rattle.store_image.specs.Winners.{winner_in}
use Rattle.store_image.specs.Soundness.{IsSound}
use Rattle.store_image.proofs.Clients.{entries_agree, fault_agrees, head_same, tail_within, Numbers, layout_numbers, in_region, chunk_number, superblock_facts, store_sound, sound_store}
use Rattle.core_log.specs.declared.types.LogChunk.{LogChunk}
use Rattle.core_log.specs.Log.{LogState, IsChunkOf, Spelled, first_of, tail_in, tail_of}
use Rattle.core_index.specs.Records.{standing_with}
use Rattle.core_index.specs.Index.{known_at}
use Rattle.lazy_alloc.specs.Heads.{is_free, class_in}
use Rattle.lazy_alloc.specs.Sets.{Sets}
use Rattle.log_standing.specs.NameCounts.{StandingState}
use Rattle.log_standing.specs.ChunkCounts.{has_name}
use Rattle.recover.specs.declared.types.CoreStart.{CoreStart}
use Rattle.recover.specs.declared.types.Recovered.{Recovered}
use Rattle.recover.specs.Logs.{HasLogsOf, IsStart, tail_behind, SpellsLog}
use Rattle.recover.specs.Recovering.{IsMade, IsOf, IsFound}
use Rattle.recover.specs.Starts.{IsWon, IsAllocatorOf, HasCopiesOf, KnownAs, named_in}
use Rattle.group_board.specs.Journals.{image_of}

-- the first n words
abbrev pub words_in : (ℕ → ℕ) → ℕ → List ℕ
words_in word n = map word (numbers 0 n)

in_list : (word : ℕ → ℕ) (from n w : ℕ) → w < n → get_or (map word (numbers from n)) w 0 ≡ word (from + w)
in_list word from zero w low = absurd (omega (arith, low))
in_list word from (suc n) zero low = let z : from ≡ from + 0 = omega arith in ap word z
in_list word from (suc n) (suc w) low = let z : suc from + w ≡ from + suc w = omega arith in in_list word (suc from) n w (omega (arith, low)) ∙ ap word z

-- below n the list has them
pub in_words : (word : ℕ → ℕ) (n w : ℕ) → w < n → image_of (words_in word n) w ≡ word w
in_words word n w low = let z : 0 + w ≡ w = omega arith in in_list word 0 n w low ∙ ap word z

-- a tail lies in the payload
tail_low : (l : Geometry) (cs : List LogChunk) (j : ℕ) → AllByRecursion (IsChunkOf l) cs → unwrap_or (tail_of cs j) 0 ≤ payload_words l
tail_low l [] j all = omega arith
tail_low l (c ∷ cs) j all = by (c.chunk == j) (tail_low l cs j all.1) where
  by : (b : Bool) → unwrap_or (tail_of cs j) 0 ≤ payload_words l → unwrap_or (cond b (Some c.tail) (tail_of cs j)) 0 ≤ payload_words l
  by true rest = all.0.fits
  by false rest = rest

-- sums of two functions that agree on the items, and counts of two tests that do
sum_same : {X : Type 0} (P : X → Type 0) (f g : X → ℕ) → ((x : X) → P x → f x ≡ g x) → (xs : List X) → AllByRecursion P xs → (a : ℕ) → fold (λ b x. b + f x) a xs ≡ fold (λ b x. b + g x) a xs
sum_same P f g same [] all a = refl
sum_same P f g same (x ∷ xs) all a = ap (λ n. fold (λ b y. b + f y) (a + n) xs) (same x all.0) ∙ sum_same P f g same xs all.1 (a + g x)

count_same : {X : Type 0} (P : X → Type 0) (f g : X → Bool) → ((x : X) → P x → f x ≡ g x) → (xs : List X) → AllByRecursion P xs → count_by f xs ≡ count_by g xs
count_same P f g same xs all = sum_same P (λ x. cond (f x) 1 0) (λ x. cond (g x) 1 0) (λ x p. ap (λ b. cond {A = ℕ} b 1 0) (same x p)) xs all 0

module _ (l : Geometry) (is : Numbers l) (i j : ℕ → ℕ) (same : (w : ℕ) → w < total_bytes l / 8 → i w ≡ j w) where
  room : 32 ≤ chunk_words l
  room = let s = is.size in omega (arith, s)

  module _ (c n : ℕ) (low : c < l.cores) (less : n < l.chunks) where
    in_chunk : (k : ℕ) → k < chunk_words l → i (chunk_first l c n + k) ≡ j (chunk_first l c n + k)
    in_chunk k lt = same (chunk_first l c n + k) (in_region l is (c * l.chunks + n) k (chunk_number l is c n low less) lt)

    head : head_at l i (chunk_first l c n) ≡ head_at l j (chunk_first l c n)
    head = head_same l i j (chunk_first l c n) room in_chunk

    payloads : (t : ℕ) → t ≤ payload_words l → payload i (chunk_first l c n) t ≡ payload j (chunk_first l c n) t
    payloads t fits = words_same i j (chunk_first l c n + 32) t (λ k lt.
        let q : chunk_first l c n + 32 + k ≡ chunk_first l c n + (32 + k) = omega arith in
        ap i q ∙ in_chunk (32 + k) (omega (arith, fits, lt)) ∙ ap j (sym q))

    spells : SpellsLog l j c n → SpellsLog l i c n
    spells h tail e =
        let there : head_at l j (chunk_first l c n) ≡ Ok (Log tail) = sym head ∙ e in
        let within = tail_within l (j (chunk_first l c n)) (j (chunk_first l c n + 1)) tail there in
        subst (λ ws. Spelled ws) (sym (payloads tail within.3)) (h tail there)

  entries : all_entries l j ≡ all_entries l i
  entries = sym (entries_agree l is i j same)

  logs : (c : ℕ) (log : LogState) → c < l.cores → HasLogsOf l j c log → HasLogsOf l i c log
  logs c log low h n = h n ∙ by (nat_lt n l.chunks) refl where
    by : (b : Bool) → nat_lt n l.chunks ≡ b → cond b (tail_behind (head_at l j (chunk_first l c n))) None ≡ cond b (tail_behind (head_at l i (chunk_first l c n))) None
    by true e = ap tail_behind (sym (head c n low (ltb-true n l.chunks e)))
    by false e = refl

  won : (c p : ℕ) → IsWon l j c p → IsWon l i c p
  won c p W = record { key = W.key; winner_is = W.winner_is; wins = ap (winner_in W.key) (sym entries) ∙ W.wins; owned = W.owned; points = W.points }

  lost : (c p : ℕ) → IsWon l i c p → IsWon l j c p
  lost c p W = record { key = W.key; winner_is = W.winner_is; wins = ap (winner_in W.key) entries ∙ W.wins; owned = W.owned; points = W.points }

  allocator : (c : ℕ) (a : Sets) → c < l.cores → IsAllocatorOf l j c a → IsAllocatorOf l i c a
  allocator c a low A = record {
    free = λ n less. A.free n less ∙ ap is_free (sym (head c n low less));
    class = λ n less. A.class n less ∙ ap class_in (sym (head c n low less));
    due = A.due;
    won = λ p used. won c p (A.won p used);
    all = λ p W. A.all p (lost c p W);
  }

  copies : (c : ℕ) (log : LogState) (st : StandingState) → c < l.cores → log.layout ≡ l → log.part ≡ c → AllByRecursion (IsChunkOf log.layout) log.chunks → HasCopiesOf j log st → HasCopiesOf i log st
  copies c log st low layout part each h k v = h k v ∙ sym (count_same (IsChunkOf log.layout)
      (λ x. has_name (scan_of (payload i (first_of log x.chunk) (tail_in log x.chunk))).entries k v)
      (λ x. has_name (scan_of (payload j (first_of log x.chunk) (tail_in log x.chunk))).entries k v) one log.chunks each)
    where
      one : (x : LogChunk) → IsChunkOf log.layout x → has_name (scan_of (payload i (first_of log x.chunk) (tail_in log x.chunk))).entries k v ≡ has_name (scan_of (payload j (first_of log x.chunk) (tail_in log x.chunk))).entries k v
      one x C =
          let at : first_of log x.chunk ≡ chunk_first l c x.chunk = λ t. chunk_first (layout t) (part t) x.chunk in
          let less : x.chunk < l.chunks = subst (λ (g : Geometry). x.chunk < g.chunks) layout C.within in
          let fits : tail_in log x.chunk ≤ payload_words l = subst (λ (g : Geometry). tail_in log x.chunk ≤ payload_words g) layout (tail_low log.layout log.chunks x.chunk each) in
          let words : payload i (first_of log x.chunk) (tail_in log x.chunk) ≡ payload j (first_of log x.chunk) (tail_in log x.chunk)
          = ap (λ n. payload i n (tail_in log x.chunk)) at ∙ payloads c x.chunk low less (tail_in log x.chunk) fits ∙ sym (ap (λ n. payload j n (tail_in log x.chunk)) at) in
          ap (λ ws. has_name (scan_of ws).entries k v) words

  -- what is found in the one is found in the other
  pub of_agrees : (r : Recovered) → ((c : ℕ) (d : CoreStart) → c < l.cores → IsStart l c (slice_index_or r.starts.items c d)) → IsOf l j r → IsOf l i r
  of_agrees r starts F = record {
    layout_is = F.layout_is;
    logs = λ c d low. logs c (slice_index_or r.starts.items c d).log low (F.logs c d low);
    spells = λ c n low less. spells c n low less (F.spells c n low less);
    allocators = λ c d low. allocator c (slice_index_or r.starts.items c d).allocator low (F.allocators c d low);
    indexes = λ c d low. (let I = F.indexes c d low in record {
      others = I.others;
      known = λ k own. subst (λ es. KnownAs (winner_in k es) (known_at (slice_index_or r.starts.items c d).index k)) entries (I.known k own);
      standing = λ k v own. I.standing k v own ∙ ap (λ es. option_map (λ x. standing_with v x.core false) (named_in k v es)) entries;
      room = I.room;
    });
    standings = λ c d low. (let S = starts c d low in copies c (slice_index_or r.starts.items c d).log (slice_index_or r.starts.items c d).standing low S.layout_is S.part_is S.own.each (F.standings c d low));
  }

pub found_agrees : (bytes : ℕ) (i j : ℕ → ℕ) → ((w : ℕ) → w < bytes / 8 → i w ≡ j w) → (r : Recovered) → IsMade bytes r → IsFound bytes j r → IsFound bytes i r
found_agrees bytes i j same r made F =
    let sound : IsSound bytes i = fault_agrees bytes i j same ∙ store_sound bytes j F.sound in
    let store = sound_store bytes i sound in
    let facts = superblock_facts bytes i store.superblock in
    let total = facts.2 in
    let layout : layout_of j ≡ layout_of i = layouts in
    let is = layout_numbers (layout_of i) facts.1 in
    record {
      sound = store;
      is_of = of_agrees (layout_of i) is i j (λ w low. same w (omega (arith, total, low))) r
          (subst (λ (l : Geometry). (c : ℕ) (d : CoreStart) → c < l.cores → IsStart l c (slice_index_or r.starts.items c d)) (F.is_of.layout_is ∙ layout) made.starts)
          (subst (λ (l : Geometry). IsOf l j r) layout F.is_of);
    }
  where
    least : 4096 ≤ bytes
    least = (superblock_facts bytes j F.sound.superblock).0

    layouts : layout_of j ≡ layout_of i
    layouts =
        let c = same 2 (let b = least in omega (arith, b)) in
        let g = same 3 (let b = least in omega (arith, b)) in
        let n = same 4 (let b = least in omega (arith, b)) in
        let z = same 5 (let b = least in omega (arith, b)) in
        sym (λ t. record { cores = c t; group = g t; chunks = n t; chunk_bytes = z t })
