-- While copies are made, and while a chunk is made Free, each image stays licensed.
use Rattle.std.proofs.Common.{◌≡◌, ◌≢◌, inl, inr, ⊎_elim, ℕ, ◌+◌, ◌≤◌, ◌<◌, ◌||◌, true, false, Bool, cond, List, [], ◌∷◌, Option, Some, None, is_some, unwrap_or, refl, sym, ◌∙◌, ap, subst, arith}
use Rattle.std.proofs.lemmas.Bool.{cases_eq}
use Rattle.std.proofs.lemmas.List.Sums.{sum_by-cons}
use Rattle.pm_region.specs.State.{State, IsTelling, cell_now, During}
use Rattle.pm_region.specs.Words.{KeepsOutside}
use Rattle.pm_region.proofs.Clients.{weaken, at_exit, told_at_entry, kept_narrows, wider}
use Rattle.chunk_map.specs.Layouts.{chunk_words, part_first}
use Rattle.chunk_map.proofs.Clients.{numbers_of, chunk_words_whole, chunks_apart, chunk_in_part}
use Rattle.log_entry.specs.declared.entry.Entry.{Entry}
use Rattle.log_entry.specs.declared.entry.EntryName.{EntryName}
use Rattle.store_image.specs.Parts.{reads, value_in_block}
use Rattle.store_image.specs.Facts.{In}
use Rattle.core_log.specs.Log.{LogState, StandsIn, tail_of, first_of, open_number, open_first}
use Rattle.core_log.specs.Opening.{EachInChunk, HasNoEntries}
use Rattle.core_log.specs.PartImages.{EachInPart, entries_of}
use Rattle.core_log.specs.Retiring.{RetiredChunk}
use Rattle.core_log.specs.Walking.{entries_in}
use Rattle.core_log.proofs.Clients.{InPart, without_other}
use Rattle.group_laws.specs.Places.{Place}
use Rattle.group_laws.specs.Updates.{has}
use Rattle.group_laws.specs.MemberViews.{View}
use Rattle.group_laws.specs.Images.{IsLicensedBy}
use Rattle.licence.specs.Licence.{Licensed, IsLogOf, part_at, part_end}
use Rattle.licence.specs.ViewChanges.{Forgets, HaveVanished}
use Rattle.licence.specs.Writes.{Begins}
use Rattle.licence.proofs.Clients.{to_place, part_each, log_each, gained_kept, forgotten}
use Rattle.log_standing.specs.NameCounts.{times_in, name_eq}
use Rattle.log_standing.specs.ChunkCounts.{has_name}
use Rattle.log_cleaner.specs.ImagesBeside.{HasSame, LosesOnly, MakesCopies, GivesUp, Vanish}
use Rattle.log_cleaner.specs.Vanishing.{MayGo, NoneElse}
use Rattle.log_cleaner.proofs.Parts.{chunk_of, count_has, in_named}
use Rattle.log_cleaner.proofs.CopyLaws.{in_entries}

-- a name of the list is counted
some_times : (ns : List EntryName) (k v : ℕ) → has ns k v ≡ true → 0 < times_in ns k v
some_times [] k v none = absurd (cc none)
some_times (n ∷ ns) k v is =
    let a = sum_by-cons (λ (x : EntryName). cond (name_eq (x.key, x.version) (k, v)) 1 0) n ns in
    elim (name_eq (n.key, n.version) (k, v)) as (λ b. name_eq (n.key, n.version) (k, v) ≡ b → (b || has ns k v) ≡ true → 0 < times_in (n ∷ ns) k v) [
      | true ↦ λ here any. let one = ap {B = ℕ} (λ (b : Bool). cond b 1 0) here in omega (arith, a, one)
      | false ↦ λ other later. let rest = some_times ns k v later in omega (arith, a, rest)
    ] refl is

counted_has : (ns : List EntryName) (k v : ℕ) → 0 < times_in ns k v → has ns k v ≡ true
counted_has [] k v some = absurd (omega (arith, some))
counted_has (n ∷ ns) k v some =
    let a = sum_by-cons (λ (x : EntryName). cond (name_eq (x.key, x.version) (k, v)) 1 0) n ns in
    elim (name_eq (n.key, n.version) (k, v)) as (λ b. name_eq (n.key, n.version) (k, v) ≡ b → (b || has ns k v) ≡ true) [
      | true ↦ λ here. refl
      | false ↦ λ other. let none = ap {B = ℕ} (λ (b : Bool). cond b 1 0) other in counted_has ns k v (omega (arith, a, none, some))
    ] refl

module _ (s : State) (log : LogState) (stands : StandsIn s log) where
  pub open_within : open_number log < log.layout.chunks
  open_within = by log.opened refl
    where
      by : (o : Option ℕ) → log.opened ≡ o → unwrap_or log.opened 0 < log.layout.chunks
      by None is = let n = (numbers_of log.layout stands.own.layout).chunks_low in subst (λ (o : Option ℕ). unwrap_or o 0 < log.layout.chunks) (sym is) (omega (arith, n))
      by (Some j) is = subst (λ (o : Option ℕ). unwrap_or o 0 < log.layout.chunks) (sym is) (chunk_of s log stands j (stands.own.opened j is)).within

module _ (s t : State) (p : Place) (m : ℕ) (v : View) (log : LogState) (b : Begins s p m v log) where
  -- an image of the beginning
  licensed_then : IsTelling s → EachInPart log (IsLicensedBy p m v) (cell_now s)
  licensed_then telling = log_each p m log b.own (IsLicensedBy p m v) (cell_now s) (b.licensed telling)

  each_image : (Q : (ℕ → ℕ) → Type 0) → (IsTelling s → (image : ℕ → ℕ) → Q image → IsLicensedBy p m v image) → During s t (EachInPart log Q) → During s t (Licensed p m v)
  each_image Q implies run = weaken s t (EachInPart log Q) (Licensed p m v) (λ telling cells each. part_each p m log b.own (IsLicensedBy p m v) cells (λ image may. implies telling image (each image may))) run

  in_part : (j from end : ℕ) → j < log.layout.chunks → first_of log j ≤ from → end ≤ first_of log j + chunk_words log.layout → During s t (KeepsOutside (cell_now s) from end) → During s t (KeepsOutside (cell_now s) (part_at p m) (part_end p m))
  in_part j from end lt low high run =
      let lies = chunk_in_part log.layout log.part j lt in
      to_place p m log b.own (λ l c. During s t (KeepsOutside (cell_now s) (part_first l c) (part_first l (c + 1))))
      (wider s t from end (part_first log.layout log.part) (part_first log.layout (log.part + 1)) (omega (arith, lies.0, low)) (omega (arith, lies.1, high)) run)

  same_licensed : (j : ℕ) → IsTelling s → (image : ℕ → ℕ) → HasSame s log j image → IsLicensedBy p m v image
  same_licensed j telling image h =
      gained_kept p m log b.own v h.before image (licensed_then telling h.before h.beside.may) []
      (record { keeps = record { well = h.beside.reads; blocks = h.beside.blocks }; has = h.has; only = λ e i. inl (h.beside.only e i); all = λ e i. absurd i })
      (λ e i. absurd i)

  loses_licensed : (j : ℕ) (names : List EntryName) → MayGo v names → IsTelling s → (image : ℕ → ℕ) → LosesOnly s log j names image → IsLicensedBy p m v image
  loses_licensed j names may telling image h =
      let was = licensed_then telling h.before h.beside.may in
      record {
        well = to_place p m log b.own (λ l c. reads l h.before c ≡ true → reads l image c ≡ true) h.beside.reads was.well;
        has = λ e kept living. to_place p m log b.own (λ l c. InPart l h.before c e → InPart l image c e) (λ i. h.has e i (stays e living)) (was.has e kept living);
        only = λ e i. was.only e (to_place p m log b.own (λ l c. InPart l image c e → InPart l h.before c e) (h.beside.only e) i);
        whole = inl (λ e f. absurd (subst (In e) may.idle f));
        blocks = λ q d is. to_place p m log b.own (λ l c. value_in_block l h.before c q ≡ Some d.bytes → value_in_block l image c q ≡ Some d.bytes) (h.beside.blocks q d.bytes) (was.blocks q d is);
      }
    where
      stays : (e : Entry) → v.doomed e.key e.version ≡ false → times_in names e.key e.version ≡ 0
      stays e living = ⊎_elim (λ (none : times_in names e.key e.version ≡ 0). none)
          (λ (some : times_in names e.key e.version ≢ 0). absurd (let both : true ≡ false = sym (may.doomed e.key e.version (counted_has names e.key e.version (omega (arith, some)))) ∙ living in cc both))
          (cases_eq (times_in names e.key e.version) 0)

  module _ (es : List Entry) (copies : MakesCopies s t log es) where
    pub copies_licensed : During s t (Licensed p m v)
    copies_licensed = each_image (HasSame s log (open_number log)) (same_licensed (open_number log)) copies.parts

    pub copies_outside : During s t (KeepsOutside (cell_now s) (part_at p m) (part_end p m))
    copies_outside = in_part (open_number log) (open_first log) (open_first log + chunk_words log.layout) (open_within s log b.stands) (omega arith) (omega arith) copies.outside

  module _ (j : ℕ) (names : List EntryName) (gives : GivesUp s t log j names) where
    pub clear_licensed : MayGo v names → During s t (Licensed p m v)
    clear_licensed may = each_image (LosesOnly s log j names) (loses_licensed j names may) gives.parts

    pub clear_outside : is_some (tail_of log.chunks j) ≡ true → During s t (KeepsOutside (cell_now s) (part_at p m) (part_end p m))
    clear_outside there =
        let size = chunk_words_whole log.layout (numbers_of log.layout b.stands.own.layout).size in
        let big = size.2 in
        in_part j (first_of log j) (first_of log j + 8) (chunk_of s log b.stands j there).within (omega arith) (omega (arith, big)) gives.outside

-- Once the chunk is Free, the names that vanished stand nowhere.
module _ (s t : State) (log log' : LogState) (j : ℕ) (names : List EntryName) (stands : StandsIn s log) (gives : GivesUp s t log j names) (retired : RetiredChunk t log log' j) where
  same_layout : log'.layout ≡ log.layout
  same_layout = ap (λ (l : LogState). l.layout) retired.log_is

  none_at : (i : ℕ) → IsTelling t → EachInChunk log i (HasNoEntries log i) (cell_now t) → EachInChunk log' i (HasNoEntries log' i) (cell_now t)
  none_at i telling each = subst (λ (l : LogState). EachInChunk l i (HasNoEntries l i) (cell_now t)) (sym retired.log_is) each

  pub none_else : NoneElse s log → NoneElse t log'
  none_else others telling i lt none =
      let before = told_at_entry s t (KeepsOutside (cell_now s) (first_of log j) (first_of log j + 8)) gives.outside telling in
      let kept = at_exit s t (KeepsOutside (cell_now s) (first_of log j) (first_of log j + 8)) gives.outside telling in
      let size = chunk_words_whole log.layout (numbers_of log.layout stands.own.layout).size in
      let big = size.2 in
      none_at i telling (⊎_elim
      (λ (here : i ≡ j). subst (λ (k : ℕ). EachInChunk log k (HasNoEntries log k) (cell_now t)) (sym here) (retired.none telling))
      (λ (ne : i ≢ j).
      let was_none : tail_of log.chunks i ≡ None = sym (ap (λ (l : LogState). tail_of l.chunks i) retired.log_is ∙ without_other log.chunks j i ne) ∙ none in
      λ image may. others before i (subst (λ (l : LogState). i < l.layout.chunks) retired.log_is lt) was_none image (λ w low high.
      kept_narrows (cell_now s w) (cell_now t w) (kept w (⊎_elim (λ a. inl (omega (arith, a, high))) (λ c. inr (omega (arith, c, low, big))) (chunks_apart log.layout log.part i j ne))) (image w) (may w low high)))
      (cases_eq i j))

  pub vanished : NoneElse s log → (IsTelling t → Vanish s t log log' names) → HaveVanished t log' names
  vanished others vanish = record { stands = retired.stands; gone = gone; others = none_else others }
    where
      gone : IsTelling t → (i : ℕ) (e : Entry) → is_some (tail_of log'.chunks i) ≡ true → In e (entries_of t log' i) → has names e.key e.version ≡ false
      gone telling i e there here = elim (has names e.key e.version) as (λ h. has names e.key e.version ≡ h → h ≡ false) [
        | true ↦ λ is.
            let a = in_entries (entries_in t log' i) e here in
            let none = (vanish telling).gone e.key e.version (some_times names e.key e.version is) in
            let named : has_name (entries_in t log' i) e.key e.version ≡ true = ap (λ (x : Entry). has_name (entries_in t log' i) x.key x.version) a.is ∙ in_named (entries_in t log' i) a.found a.here in
            let some = count_has (λ (k : ℕ). has_name (entries_in t log' k) e.key e.version) log'.chunks i there named in
            absurd (omega (arith, none, some))
        | false ↦ λ isnt. refl
      ] refl

pub clear_forgets : (s t : State) (p : Place) (m : ℕ) (v u : View) (log log' : LogState) (j : ℕ) (names : List EntryName) → Begins s p m v log → MayGo v names → NoneElse s log → GivesUp s t log j names
    → RetiredChunk t log log' j → (IsTelling t → Vanish s t log log' names) → Forgets names v u → IsTelling t → Licensed p m u (cell_now t)
clear_forgets s t p m v u log log' j names begins may others gives retired vanish forgets telling =
    let own : IsLogOf p m log' = subst (IsLogOf p m) (sym retired.log_is) (record { layout = begins.own.layout; part = begins.own.part }) in
    forgotten t p m v u log' names own (vanished s t log log' j names begins.stands gives retired others vanish) forgets telling
    (at_exit s t (Licensed p m v) (clear_licensed s t p m v log begins j names gives may) telling)
