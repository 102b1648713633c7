use Rattle.std.proofs.Common.{sym, ◌∙◌, ap, append-nil, arith, map, ◌++◌}
use Rattle.std.proofs.lemmas.List.{take_all}
use Rattle.store_image.specs.declared.scanning.AtPlace.{AtPlace}
use Rattle.recover.specs.FoundEntries.{found_in}
use Rattle.recover.proofs.GatherLaws.{place_lies, more_noted}
use Rattle.recover.proofs.gather_region.note_entries.Goals as goal

abbrev nothing : AtPlace
nothing = record { place = 0; name = record { key = 0; version = 0 } }

pub loop-x-init : goal.loop-x-init
loop-x-init c = sym (append-nil c.args.found.now.items)

pub overflow_add-first : goal.overflow_add-first
overflow_add-first c = let low = place_lies c.args.entries.now c.loop-x.x-index nothing c.loop-x-test.true _ c.requires in omega (arith, low)

pub overflow_cast-first : goal.overflow_cast-first
overflow_cast-first c = let low = place_lies c.args.entries.now c.loop-x.x-index nothing c.loop-x-test.true _ c.requires in omega (arith, low)

pub loop-x-preserved : goal.loop-x-preserved
loop-x-preserved c = more_noted c.args.entries.now c.loop-x.x-index nothing c.loop-x-test.true c.args.first c.args.found.now.items c.loop-x.found.items c.push.new.self.items c.loop-x.invariant c.in_ok-push.ensures.items

pub returns : goal.returns
returns c = c.loop-x.invariant ∙ ap (λ es. c.args.found.now.items ++ map (found_in c.args.first) es) (take_all c.loop-x.x-index c.args.entries.now c.loop-x-test.false)
