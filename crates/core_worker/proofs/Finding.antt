-- What a get finds is what the view has of the key.
use Rattle.std.proofs.Common.{◌≡◌, ◌≢◌, inl, ℕ, ◌+◌, ◌*◌, List, [], length, length-take, Option, Some, None, Bool, true, false, cond, refl, sym, ◌∙◌, ap, subst, arith}
use Rattle.std.specs.Prelude.{is_some}
use Rattle.fs_model.specs.declared.model.Request.TheVariants.{Get}
use Rattle.fs_model.specs.Cells.{answer_to}
use Rattle.core_worker.specs.Answering.{is_read}
use Rattle.pm_region.specs.State.{State, IsTelling, cell_now}
use Rattle.pm_region.specs.Words.{lasts, MayLeaveIn}
use Rattle.pm_region.proofs.Clients.{may_be_last}
use Rattle.log_entry.specs.Words.{words_for, unpacked, words_from}
use Rattle.log_entry.proofs.Clients.{length-unpacked, length-words}
use Rattle.log_entry.specs.declared.entry.Body.{Body}
use Rattle.log_entry.specs.declared.entry.Body.TheVariants as bodies
use Rattle.chunk_map.specs.Layouts.{has_class}
use Rattle.store_image.specs.Parts.{block_bytes, block_class, value_by_class}
use Rattle.core_index.specs.Records.{KeyRecord, Shows, ShowsBody, live_version}
use Rattle.core_index.specs.Index.{known_at}
use Rattle.core_index.specs.declared.types.Look.TheVariants.{Block as ShowsBlock}
use Rattle.lazy_alloc.specs.Sets.{class_at}
use Rattle.group_laws.specs.Places.{Place, owner, core_of}
use Rattle.group_laws.specs.MemberViews.{View}
use Rattle.licence.specs.Licence.{part_at, part_end}
use Rattle.core_worker.specs.declared.worker.Worker.{Worker}
use Rattle.core_worker.specs.KeyTies.{LeftIn}
use Rattle.core_worker.specs.Ties.{Stands}
use Rattle.core_worker.specs.Beginning.{HoldsAside}

length_block : (image : ℕ → ℕ) (p : ℕ) → length (block_bytes image p) ≡ image (32 * p)
length_block image p =
    let n = image (32 * p) in
    let long = length-unpacked (words_from image (32 * p + 1) (words_for n)) in
    let words = length-words image (32 * p + 1) (words_for n) in
    length-take n (unpacked (words_from image (32 * p + 1) (words_for n))) ∙ omega (arith, long, words)

shown_body : (b : Body) (q : ℕ) → ShowsBody b (ShowsBlock q) → b ≡ bodies.Pointer q
shown_body (bodies.Pointer r) q h = (let same : q ≡ r = cc h in ap bodies.Pointer (sym same))
shown_body (bodies.Embedded u) q h = absurd h
shown_body bodies.Tombstone q h = absurd (cc h)

shown_record : (o : Option KeyRecord) (q : ℕ) → Shows o (ShowsBlock q) → (r : KeyRecord) × (o ≡ Some r) × (r.body ≡ bodies.Pointer q)
shown_record None q h = absurd (cc h)
shown_record (Some r) q h = (r, refl, shown_body r.body q h)

bytes_held : (image : ℕ → ℕ) (q : ℕ) (o : Option ℕ) (u : List ℕ) → value_by_class image q o ≡ Some u → block_bytes image q ≡ u
bytes_held image q None u e = absurd (cc e)
bytes_held image q (Some c) u e = by (has_class (image (32 * q)) c) e where
  by : (b : Bool) → cond b (Some (block_bytes image q)) None ≡ Some u → block_bytes image q ≡ u
  by true e = cc e
  by false e = absurd (cc e)

module _ (s : State) (p : Place) (m : ℕ) (v : View) (w : Worker) (H : HoldsAside p m v w) (S : Stands s p m v w) (runs : w.stopped ≡ false) (k q : ℕ) (mine : owner p k ≡ m) (shown : Shows (known_at w.index k) (ShowsBlock q)) where
  abbrev Value_is : Type 0
  Value_is = (u : List ℕ) × (v.cell k ≡ Some u) × (v.blocks q ≡ Some (record { key = k; bytes = u }))

  pub left : Value_is
  left =
      let r = shown_record (known_at w.index k) q shown in
      let l : LeftIn v k (Some r.0) (v.cell k) = subst (λ o. LeftIn v k o (v.cell k)) r.1 (H.keys k mine (inl runs)).cell in
      by r.0.body r.2 l where
        by : (b : Body) → b ≡ bodies.Pointer q → LeftIn v k (Some (record { version = 0; body = b; standing = [] })) (v.cell k) → Value_is
        by (bodies.Pointer x) e l = subst (λ (y : ℕ). (u : List ℕ) × (v.cell k ≡ Some u) × (v.blocks y ≡ Some (record { key = k; bytes = u }))) (cc e) l
        by (bodies.Embedded u) e l = absurd (cc e)
        by bodies.Tombstone e l = absurd (cc e)

  pub bytes_are : IsTelling s → block_bytes (lasts s) q ≡ left.0
  bytes_are telling =
      let may : MayLeaveIn (cell_now s) (part_at p m) (part_end p m) (lasts s) = λ w low high. may_be_last (cell_now s w) (lasts s w) refl in
      bytes_held (lasts s) q (block_class p.layout (lasts s) (core_of p m) q) left.0 ((S.licensed telling (lasts s) may).blocks q (record { key = k; bytes = left.0 }) left.2)

  pub read_ready : IsTelling s → (class : ℕ) × (class_at w.allocator q ≡ Some class) × (has_class (lasts s (32 * q)) class ≡ true)
  read_ready telling =
      let b = H.blocks.held q (record { key = k; bytes = left.0 }) left.2 in
      (b.class, b.class_is, subst (λ (n : ℕ). has_class n b.class ≡ true) (sym (ap length (bytes_are telling)) ∙ length_block (lasts s) q) b.fits)

  pub cell_found : IsTelling s → v.cell k ≡ Some (block_bytes (lasts s) q)
  cell_found telling = left.1 ∙ ap Some (sym (bytes_are telling))

  -- whatever the region tells, the key has a value
  pub read_block : is_read (Get k) (answer_to (Get k) (v.cell k)) ≡ true
  read_block = ap (λ (o : Option (List ℕ)). is_read (Get k) (answer_to (Get k) o)) left.1

-- a key has a value where its record says so
live_body : (v : View) (k : ℕ) (o : Option KeyRecord) (cell : Option (List ℕ)) → LeftIn v k o cell → is_some cell ≡ is_some (live_version o)
live_body v k None cell e = ap is_some e
live_body v k (Some r) cell e = by r.body e where
  by : (b : Body) → LeftIn v k (Some (record { version = r.version; body = b; standing = r.standing })) cell → is_some cell ≡ is_some (live_version (Some (record { version = r.version; body = b; standing = r.standing })))
  by (bodies.Pointer q) l = ap is_some l.1
  by (bodies.Embedded u) l = ap is_some l
  by bodies.Tombstone l = ap is_some l

pub live_is : (p : Place) (m : ℕ) (v : View) (w : Worker) → HoldsAside p m v w → w.stopped ≡ false → (k : ℕ) → owner p k ≡ m → is_some (v.cell k) ≡ is_some (live_version (known_at w.index k))
live_is p m v w H runs k mine = live_body v k (known_at w.index k) (v.cell k) (H.keys k mine (inl runs)).cell

pub is_live : (c : Option (List ℕ)) → is_some c ≡ true → c ≢ None
is_live None e n = absurd (cc e)
is_live (Some u) e n = cc n

pub is_gone : (c : Option (List ℕ)) → is_some c ≡ false → c ≡ None
is_gone None e = refl
is_gone (Some u) e = absurd (cc e)
