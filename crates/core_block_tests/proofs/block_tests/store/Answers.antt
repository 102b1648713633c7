use Rattle.std.proofs.Common.{true, length, refl, sym, ◌∙◌, ap, subst, inr, arith}
use Rattle.chunk_map.specs.declared.layouts.Geometry.{Geometry}
use Rattle.chunk_map.specs.Layouts.{IsLayout, has_class}
use Rattle.lazy_alloc.specs.Sets.{class_at}
use Rattle.lazy_alloc.proofs.Clients.{fits_class}
use Rattle.lazy_alloc.proofs.Clients.{some_of}
use Rattle.core_block_tests.proofs.BlockTrials.{part_still, first_taken, taken_used, taken_class, may_write, may_read, takes_same}
use Rattle.core_block_tests.proofs.block_tests.store.Goals as goal

pub write_value-requires-clause-used : goal.write_value-requires-clause-used
write_value-requires-clause-used g c =
    let first = first_taken c.args.a.now c.take.new.self c.args.class c.in-Some.pointer c.requires.sets c.requires.uncut c.in-Some.ensures.takes in
    taken_used c.args.a.now c.take.new.self c.args.class first.0 c.in-Some.pointer c.requires.sets c.in-Some.ensures.sets first.1

pub write_value-requires-clause-lies : goal.write_value-requires-clause-lies
write_value-requires-clause-lies g c =
    let same = takes_same c.args.a.now c.take.new.self c.args.class true c.take.result c.take.ensures.takes in
    part_still (g.R.Region.state c.args.region.now).frame (g.R.Region.state c.args.region.now).frame c.args.a.now c.take.new.self refl same.layout_is same.part_is c.requires.lies

pub write_value-requires-clause-class : goal.write_value-requires-clause-class
write_value-requires-clause-class g c =
    let s = g.R.Region.state c.args.region.now in
    let same = takes_same c.args.a.now c.take.new.self c.args.class true c.take.result c.take.ensures.takes in
    let first = first_taken c.args.a.now c.take.new.self c.args.class c.in-Some.pointer c.requires.sets c.requires.uncut c.in-Some.ensures.takes in
    let rules = subst (λ (l : Geometry). IsLayout l) (sym same.layout_is) c.requires.rules in
    let n = length c.args.value.now in
    may_write c.args.a.now c.take.new.self c.args.class first.0 c.in-Some.pointer c.requires.sets c.in-Some.ensures.sets first.1 s n rules (fits_class (length c.args.value.now) c.args.class c.requires.long c.requires.fits (inr c.requires.least)) (write_value-requires-clause-lies g c) c.requires.zero

pub read_value-requires-clause-lies : goal.read_value-requires-clause-lies
read_value-requires-clause-lies g c =
    let new = c.take.new.self in
    let first = first_taken c.args.a.now new c.args.class c.in-Some.pointer c.requires.sets c.requires.uncut c.in-Some.ensures.takes in
    let used = taken_used c.args.a.now new c.args.class first.0 c.in-Some.pointer c.requires.sets c.in-Some.ensures.sets first.1 in
    let some = some_of (class_at new c.in-Some.pointer) (c.in-Some.ensures.sets.used_in c.in-Some.pointer used) in
    let wrote = c.in_ok-write_value.ensures.ok some.0 some.1 in
    part_still (g.R.Region.state c.args.region.now).frame (g.R.Region.state c.write_value.new.region).frame new c.write_value.new.self (c.write_value.ensures.outside some.0 some.1).frame wrote.layout_is wrote.part_is (let same = takes_same c.args.a.now new c.args.class true c.take.result c.take.ensures.takes in
    part_still (g.R.Region.state c.args.region.now).frame (g.R.Region.state c.args.region.now).frame c.args.a.now new refl same.layout_is same.part_is c.requires.lies)

pub read_value-requires-clause-holds : goal.read_value-requires-clause-holds
read_value-requires-clause-holds g c = λ telling.
    let new = c.take.new.self in
    let first = first_taken c.args.a.now new c.args.class c.in-Some.pointer c.requires.sets c.requires.uncut c.in-Some.ensures.takes in
    let used = taken_used c.args.a.now new c.args.class first.0 c.in-Some.pointer c.requires.sets c.in-Some.ensures.sets first.1 in
    let some = some_of (class_at new c.in-Some.pointer) (c.in-Some.ensures.sets.used_in c.in-Some.pointer used) in
    let n = length c.args.value.now in
    let own = (taken_class c.args.a.now new c.args.class first.0 c.in-Some.pointer c.requires.sets c.in-Some.ensures.sets first.1 some.0 some.1).1 in
    let room = ap (has_class n) (sym own) ∙ (fits_class (length c.args.value.now) c.args.class c.requires.long c.requires.fits (inr c.requires.least)) in
    may_read (g.R.Region.state c.write_value.new.region) new c.write_value.new.self c.in-Some.pointer some.0 c.args.value.now some.1 room (c.in_ok-write_value.ensures.ok some.0 some.1) telling
