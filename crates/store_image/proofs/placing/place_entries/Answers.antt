use Rattle.std.proofs.Common.{◌∙◌, sym}
use Rattle.store_image.specs.declared.scanning.AtPlace.{AtPlace}
use Rattle.store_image.proofs.ScanReads.{place_within, more_placed, no_other}
use Rattle.store_image.proofs.placing.place_entries.Goals.{in-Entry+in_ok-push, in_default}
use Rattle.store_image.proofs.placing.place_entries.Goals as goal

abbrev nothing : AtPlace
nothing = record { place = 0; name = record { key = 0; version = 0 } }

pub read_entry-requires : goal.read_entry-requires
read_entry-requires c = place_within c.args.payload.now c.args.found.now c.requires c.loop-x.x-index nothing c.loop-x-test.true

pub loop-x-preserved : goal.loop-x-preserved
loop-x-preserved c = elim c.match-branch-2.branch [
  | in-Entry+in_ok-push w ↦ more_placed c.args.payload.now c.args.found.now c.requires c.loop-x.x-index nothing c.loop-x-test.true c.args.part c.args.chunk c.args.entries.now.items c.loop-x.entries.items c.match-branch-2.entries.items w.in-Entry.entry w.in-Entry.length
      (sym w.in-Entry.is ∙ c.in_ok-entry.ensures.value) c.loop-x.invariant ((λ i. (w.entries-is i).items) ∙ w.in_ok-push.ensures.items)
  | in_default w ↦ absurd (no_other c.args.payload.now c.args.found.now c.requires c.loop-x.x-index nothing c.loop-x-test.true _ c.in_ok-entry.ensures.value w.in_default.not-Entry)
]
