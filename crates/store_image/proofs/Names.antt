-- What was read of an entry by its name alone.
use Rattle.std.proofs.Common.{◌≡◌, ℕ, ◌&&◌, List, [], ◌∷◌, map, sym, ap, refl}
use Rattle.std.specs.List.{list_all}
use Rattle.log_entry.specs.declared.entry.Entry.{Entry}
use Rattle.log_entry.specs.declared.entry.EntryName.{EntryName}
use Rattle.log_entry.specs.declared.entry.NameRead.TheVariants as names
use Rattle.log_entry.specs.declared.entry.Read.{Read}
use Rattle.log_entry.specs.declared.entry.Read.TheVariants as reads
use Rattle.log_entry.specs.Reading.{name_of, without_body}
use Rattle.chunk_map.specs.declared.layouts.Geometry.{Geometry}
use Rattle.chunk_map.specs.Layouts.{is_of_group}
use Rattle.store_image.specs.Scanned.{name_at}

-- an entry was read whose name it is
pub record IsNamed (r : Read) (name : EntryName) (n : ℕ) : Type 0 where
  pub entry : Entry
  pub named : name_of entry ≡ name
  pub is : reads.Entry entry n ≡ r

pub named_entry : (r : Read) (name : EntryName) (n : ℕ) → names.Entry name n ≡ without_body r → IsNamed r name n
named_entry (reads.Entry e m) name n is = record { entry = e; named = (let same : name ≡ name_of e = cc is in sym same); is = (let same : n ≡ m = cc is in ap (reads.Entry e) same) }
named_entry reads.Padding name n is = absurd (cc is)
named_entry (reads.BadEntry rule) name n is = absurd (cc is)

pub named_padding : (r : Read) → names.Padding ≡ without_body r → reads.Padding ≡ r
named_padding (reads.Entry e n) is = absurd (cc is)
named_padding reads.Padding is = refl
named_padding (reads.BadEntry rule) is = absurd (cc is)

pub named_bad : (r : Read) (rule : ℕ) → names.BadEntry rule ≡ without_body r → reads.BadEntry rule ≡ r
named_bad (reads.Entry e n) rule is = absurd (cc is)
named_bad reads.Padding rule is = absurd (cc is)
named_bad (reads.BadEntry other) rule is = (let same : rule ≡ other = cc is in ap reads.BadEntry same)

-- whose the keys are is told by the names
pub group_named : (l : Geometry) (c : ℕ) (xs : List (ℕ × Entry)) → list_all (λ x. is_of_group l c x.name.key) (map name_at xs) ≡ list_all (λ x. is_of_group l c x.1.key) xs
group_named l c [] = refl
group_named l c (x ∷ xs) = ap (λ b. is_of_group l c x.1.key && b) (group_named l c xs)
