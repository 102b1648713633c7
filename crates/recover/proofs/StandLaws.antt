-- Where each word is certain, the logs stand in the region.
use Rattle.std.proofs.Common.{◌≡◌, ℕ, ◌+◌, ◌<◌, ltb, true, false, cond, Some, None, refl, sym, ◌∙◌, ap, subst, arith}
use Rattle.std.specs.Prelude.{Result, Ok, Err, slice_index_or}
use Rattle.std.proofs.lemmas.Bool.{ltb-true}
use Rattle.pm_region.specs.State.{State, IsTelling, cell_now}
use Rattle.pm_region.specs.Words.{lasts}
use Rattle.chunk_map.specs.declared.layouts.Geometry.{Geometry}
use Rattle.chunk_map.specs.declared.heads.Head.{Head}
use Rattle.chunk_map.specs.declared.heads.Head.TheVariants.{Free, Log, Data}
use Rattle.chunk_map.specs.Layouts.{chunk_first, head_at}
use Rattle.chunk_map.proofs.Clients.{part_within}
use Rattle.store_image.proofs.Clients.{tail_within}
use Rattle.core_log.specs.Chunk.{IsLog}
use Rattle.core_log.specs.Log.{LogState, IsOwn, StandsIn, tail_of, first_of}
use Rattle.recover.specs.declared.types.CoreStart.{CoreStart}
use Rattle.recover.specs.declared.types.Recovered.{Recovered}
use Rattle.recover.specs.Recovering.{IsMade, IsOf, AllStand}
use Rattle.recover.specs.Regions.{Covers, IsCertain}
use Rattle.recover.specs.Logs.{tail_behind, log_tail, HasLogsOf, IsStart}
use Rattle.recover.specs.Gathering.{AllSpell}
use Rattle.recover.proofs.RegionLaws.{payload_lies}

-- a chunk with a tail is a Log chunk of the part
behind : (tail : ℕ) (h : Result Head ℕ) → tail_behind h ≡ Some tail → h ≡ Ok (Log tail)
behind tail (Ok Free) e = absurd (cc e)
behind tail (Ok (Log t)) e = let same : t ≡ tail = cc e in ap (λ n. Ok (Log n)) same
behind tail (Ok (Data class)) e = absurd (cc e)
behind tail (Err rule) e = absurd (cc e)

log_there : (l : Geometry) (image : ℕ → ℕ) (c j tail : ℕ) → log_tail l image c j ≡ Some tail → (j < l.chunks) × (head_at l image (chunk_first l c j) ≡ Ok (Log tail))
log_there l image c j tail is = elim (ltb j l.chunks) as (λ b. ltb j l.chunks ≡ b → cond b (tail_behind (head_at l image (chunk_first l c j))) None ≡ Some tail → (j < l.chunks) × (head_at l image (chunk_first l c j) ≡ Ok (Log tail))) [
  | true ↦ λ e q. (ltb-true j l.chunks e, behind tail (head_at l image (chunk_first l c j)) q)
  | false ↦ λ e q. absurd (cc q)
] refl is

module _ (s : State) (log : LogState) (covers : Covers s.frame log.layout) (own : IsOwn log) (has : IsTelling s → HasLogsOf log.layout (lasts s) log.part log) (spell : IsTelling s → AllSpell log.layout (lasts s)) (certain : IsCertain s) where
  there : IsTelling s → (j tail : ℕ) → tail_of log.chunks j ≡ Some tail → (j < log.layout.chunks) × (head_at log.layout (lasts s) (first_of log j) ≡ Ok (Log tail))
  there telling j tail is = log_there log.layout (lasts s) log.part j tail (sym (has telling j) ∙ is)

  is_log : IsTelling s → (j tail : ℕ) → tail_of log.chunks j ≡ Some tail → IsLog (cell_now s) (first_of log j) tail
  is_log telling j tail is =
      let at = first_of log j in
      let at_log = there telling j tail is in
      let parts = tail_within log.layout (lasts s at) (lasts s (at + 1)) tail at_log.1 in
      let lies = (payload_lies s.frame log.layout covers log.part j tail own.part at_log.0 parts.3).0 in
      let first = covers.first in
      record {
        kind = λ x may. certain telling at (record { low = omega (arith, first); high = omega (arith, lies) }) x may ∙ parts.0;
        tail_is = λ x may. certain telling (at + 1) (record { low = omega (arith, first); high = omega (arith, lies) }) x may ∙ parts.1;
        words = λ k lt. certain telling (at + 32 + k) (record { low = omega (arith, first); high = omega (arith, lies, lt) });
      }

  pub stands_log : StandsIn s log
  stands_log =
      let first = covers.first in
      let words = covers.words in
      let within = part_within log.layout log.part own.layout own.part in
      record {
        own = own;
        low = omega (arith, first);
        high = omega (arith, first, words, within);
        logs = is_log;
        spelled = λ telling j tail is. (let at_log = there telling j tail is in spell telling log.part j own.part at_log.0 tail at_log.1);
      }

-- the same of a start
pub stands_start : (s : State) (l : Geometry) (c : ℕ) (start : CoreStart) → Covers s.frame l → IsStart l c start → (IsTelling s → HasLogsOf l (lasts s) c start.log) → (IsTelling s → AllSpell l (lasts s)) → IsCertain s → StandsIn s start.log
stands_start s l c start covers is has spell certain =
    stands_log s start.log (subst (Covers s.frame) (sym is.layout_is) covers) is.own
    (λ telling. subst (λ (k : Geometry). HasLogsOf k (lasts s) start.log.part start.log) (sym is.layout_is) (subst (λ (n : ℕ). HasLogsOf l (lasts s) n start.log) (sym is.part_is) (has telling)))
    (λ telling. subst (λ (k : Geometry). AllSpell k (lasts s)) (sym is.layout_is) (spell telling)) certain

-- all starts of what was recovered
pub all_stand : (s : State) (l : Geometry) (bytes : ℕ) (r : Recovered) → Covers s.frame r.layout → IsMade bytes r → (IsTelling s → IsOf l (lasts s) r) → IsCertain s → AllStand s r
all_stand s l bytes r covers made is certain c d lt =
    stands_start s r.layout c (slice_index_or r.starts.items c d) covers (made.starts c d lt)
    (λ telling. let of = is telling in subst (λ (k : Geometry). HasLogsOf k (lasts s) c (slice_index_or r.starts.items c d).log) (sym of.layout_is) (of.logs c d (subst (λ (k : Geometry). c < k.cores) of.layout_is lt)))
    (λ telling. let of = is telling in subst (λ (k : Geometry). AllSpell k (lasts s)) (sym of.layout_is) of.spells)
    certain
