-- An image beside one that is licensed: it has entries more, or less.
use Rattle.std.proofs.Common.{◌≡◌, ◌⊎◌, inl, inr, ⊎_elim, ℕ, ◌+◌, Bool, true, false, List, [], ◌++◌, Some, refl, sym, ◌∙◌, subst}
use Rattle.pm_region.specs.Cell.{Cell}
use Rattle.pm_region.specs.State.{State}
use Rattle.pm_region.specs.Words.{EachIn}
use Rattle.log_entry.specs.declared.entry.Entry.{Entry}
use Rattle.chunk_map.specs.declared.layouts.Geometry.{Geometry}
use Rattle.chunk_map.specs.Layouts.{part_first}
use Rattle.store_image.specs.Parts.{reads, value_in_block}
use Rattle.store_image.specs.Facts.{In}
use Rattle.core_log.specs.Log.{LogState}
use Rattle.core_log.specs.PartImages.{KeepsPart, Gains, Loses, EachInPart, entries_of}
use Rattle.core_log.proofs.Clients.{InPart}
use Rattle.group_laws.specs.declared.types.Block.{Block}
use Rattle.group_laws.specs.Places.{Place, core_of}
use Rattle.group_laws.specs.MemberViews.{View}
use Rattle.group_laws.specs.Images.{IsLicensedBy, block_of}
use Rattle.group_laws.proofs.Clients.{In-append, In-append_left, In-append_right}
use Rattle.licence.specs.Licence.{IsLogOf, part_at, part_end}
use Rattle.licence.specs.ViewChanges.{Commits}
use Rattle.licence.specs.Writes.{StandsElsewhere}

-- what implies what is not so is not so
pub not_true : (a b : Bool) → (a ≡ true → b ≡ true) → b ≡ false → a ≡ false
not_true false b implies is = refl
not_true true b implies is = absurd (let both : true ≡ false = sym (implies refl) ∙ is in cc both)

-- what is said of the log's numbers is said of the member's, and the other way round
module _ (p : Place) (m : ℕ) (log : LogState) (own : IsLogOf p m log) where
  pub to_place : (P : Geometry → ℕ → Type 0) → P log.layout log.part → P p.layout (core_of p m)
  to_place P h = subst (λ c. P p.layout c) own.part (subst (λ l. P l log.part) own.layout h)

  pub to_log : (P : Geometry → ℕ → Type 0) → P p.layout (core_of p m) → P log.layout log.part
  to_log P h = subst (λ l. P l log.part) (sym own.layout) (subst (λ c. P p.layout c) (sym own.part) h)

  pub part_each : (P : (ℕ → ℕ) → Type 0) (cells : ℕ → Cell) → EachInPart log P cells → EachIn (part_at p m) (part_end p m) P cells
  part_each P cells = to_place (λ l c. EachInPart log P cells → EachIn (part_first l c) (part_first l (c + 1)) P cells) (λ each. each)

  pub log_each : (P : (ℕ → ℕ) → Type 0) (cells : ℕ → Cell) → EachIn (part_at p m) (part_end p m) P cells → EachInPart log P cells
  log_each P cells = to_place (λ l c. EachIn (part_first l c) (part_first l (c + 1)) P cells → EachInPart log P cells) (λ each. each)

  module _ (v : View) (before image : ℕ → ℕ) (was : IsLicensedBy p m v before) where
    well_after : KeepsPart log before image → reads p.layout image (core_of p m) ≡ true
    well_after keeps = to_place (λ l c. reads l before c ≡ true → reads l image c ≡ true) keeps.well was.well

    blocks_after : KeepsPart log before image → (q : ℕ) (b : Block) → v.blocks q ≡ Some b → block_of p image m q ≡ Some b.bytes
    blocks_after keeps q b has = to_place (λ l c. value_in_block l before c q ≡ Some b.bytes → value_in_block l image c q ≡ Some b.bytes) (keeps.blocks q b.bytes) (was.blocks q b has)

    -- it has entries more
    module _ (es : List Entry) (gains : Gains log es before image) where
      has_at : (e : Entry) → InPart p.layout before (core_of p m) e → InPart p.layout image (core_of p m) e
      has_at e = to_place (λ l c. InPart l before c e → InPart l image c e) (gains.has e)

      only_at : (e : Entry) → InPart p.layout image (core_of p m) e → InPart p.layout before (core_of p m) e ⊎ In e es
      only_at e = to_place (λ l c. InPart l image c e → InPart l before c e ⊎ In e es) (gains.only e)

      all_at : (e : Entry) → In e es → InPart p.layout image (core_of p m) e
      all_at e i = to_place (λ l c. InPart l image c e) (gains.all e i)

      -- all of these are certain
      pub gained_kept : ((e : Entry) → In e es → In e v.kept) → IsLicensedBy p m v image
      gained_kept certain = record {
        well = well_after gains.keeps;
        has = λ e k live. has_at e (was.has e k live);
        only = λ e i. ⊎_elim (λ old. was.only e old) (λ new. inl (certain e new)) (only_at e i);
        whole = ⊎_elim (λ all. inl (λ e f. has_at e (all e f))) (λ none. inr (λ e f i. ⊎_elim (λ old. none e f old) (λ new. certain e new) (only_at e i))) was.whole;
        blocks = blocks_after gains.keeps;
      }

    -- all that is in flight
    module _ (gains : Gains log v.flying before image) where
      pub gained_flying : IsLicensedBy p m v image
      gained_flying = record {
        well = well_after gains.keeps;
        has = λ e k live. has_at v.flying gains e (was.has e k live);
        only = λ e i. ⊎_elim (λ old. was.only e old) (λ new. inr new) (only_at v.flying gains e i);
        whole = inl (λ e f. all_at v.flying gains e f);
        blocks = blocks_after gains.keeps;
      }

      pub gained_committed : (u : View) → Commits v u → IsLicensedBy p m u image
      gained_committed u commits = record {
        well = well_after gains.keeps;
        has = λ e k live. ⊎_elim (λ old. has_at v.flying gains e (was.has e old (spared e live))) (λ new. all_at v.flying gains e new) (In-append e v.kept v.flying (subst (In e) commits.kept k));
        only = λ e i. inl (subst (In e) (sym commits.kept) (⊎_elim (λ old. either e (was.only e old)) (λ new. In-append_right e v.kept v.flying new) (only_at v.flying gains e i)));
        whole = inl (λ e f. absurd (subst (In e) commits.flying f));
        blocks = λ q b has. blocks_after gains.keeps q b (commits.blocks q b has);
      }
        where
          either : (e : Entry) → In e v.kept ⊎ In e v.flying → In e (v.kept ++ v.flying)
          either e (inl k) = In-append_left e v.kept v.flying k
          either e (inr f) = In-append_right e v.kept v.flying f

          spared : (e : Entry) → u.doomed e.key e.version ≡ false → v.doomed e.key e.version ≡ false
          spared e live = not_true (v.doomed e.key e.version) (u.doomed e.key e.version) (commits.doomed e.key e.version) live

    -- it has less: the entries of a chunk, each of which may vanish or stands in another one
    pub lost : (s : State) (j : ℕ) → Loses s log j before image → v.flying ≡ [] → ((e : Entry) → In e (entries_of s log j) → (v.doomed e.key e.version ≡ true) ⊎ StandsElsewhere s log j e) → IsLicensedBy p m v image
    lost s j loses idle spares = record {
      well = well_after loses.keeps;
      has = λ e k live. ⊎_elim (λ stays. to_place (λ l c. InPart l image c e) stays)
          (λ here. ⊎_elim (λ doomed. absurd (let both : true ≡ false = sym doomed ∙ live in cc both)) (λ copy. to_place (λ l c. InPart l image c e) (loses.others copy.0 e copy.1 copy.2 copy.3)) (spares e here))
          (loses.has e (to_log (λ l c. InPart l before c e) (was.has e k live)));
      only = λ e i. was.only e (to_place (λ l c. InPart l before c e) (loses.only e (to_log (λ l c. InPart l image c e) i)));
      whole = inl (λ e f. absurd (subst (In e) idle f));
      blocks = blocks_after loses.keeps;
    }
