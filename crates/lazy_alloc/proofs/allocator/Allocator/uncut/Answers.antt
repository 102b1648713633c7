use Rattle.std.proofs.Common.{◌≡◌, ◌*◌, ap}
use Rattle.chunk_map.specs.declared.layouts.Geometry.{Geometry}
use Rattle.lazy_alloc.specs.Form.{room_words}
use Rattle.lazy_alloc.proofs.FormLaws.{are_sets, empty_free, empty_class, empty_due, empty_used}
use Rattle.lazy_alloc.proofs.KeptLaws.{kept_empty}
use Rattle.lazy_alloc.proofs.allocator.Allocator.uncut.Goals as goal

pub returns-clause-free : goal.returns-clause-free
returns-clause-free c =
    let l = c.args.layout in
    let long : c.geometry.result.chunks * c.room.result ≡ l.chunks * room_words l = (λ i. (c.geometry.ensures.value i).chunks * c.room.ensures.value i) in
    empty_free l c.args.part c.geometry.result.chunks (c.geometry.result.chunks * c.room.result) c.in_ok-no_links.field-0.items c.in_ok-no_bits.field-0.items c.geometry.ensures.rules c.requires c.in_ok-no_links.ensures c.in_ok-no_bits.ensures (ap (λ (g : Geometry). g.chunks) c.geometry.ensures.value) long

pub returns-clause-class : goal.returns-clause-class
returns-clause-class c =
    let l = c.args.layout in
    let long : c.geometry.result.chunks * c.room.result ≡ l.chunks * room_words l = (λ i. (c.geometry.ensures.value i).chunks * c.room.ensures.value i) in
    empty_class l c.args.part c.geometry.result.chunks (c.geometry.result.chunks * c.room.result) c.in_ok-no_links.field-0.items c.in_ok-no_bits.field-0.items c.geometry.ensures.rules c.requires c.in_ok-no_links.ensures c.in_ok-no_bits.ensures (ap (λ (g : Geometry). g.chunks) c.geometry.ensures.value) long

pub returns-clause-due : goal.returns-clause-due
returns-clause-due c =
    let l = c.args.layout in
    let long : c.geometry.result.chunks * c.room.result ≡ l.chunks * room_words l = (λ i. (c.geometry.ensures.value i).chunks * c.room.ensures.value i) in
    empty_due l c.args.part c.geometry.result.chunks (c.geometry.result.chunks * c.room.result) c.in_ok-no_links.field-0.items c.in_ok-no_bits.field-0.items c.geometry.ensures.rules c.requires c.in_ok-no_links.ensures c.in_ok-no_bits.ensures (ap (λ (g : Geometry). g.chunks) c.geometry.ensures.value) long

pub returns-clause-used : goal.returns-clause-used
returns-clause-used c =
    let l = c.args.layout in
    let long : c.geometry.result.chunks * c.room.result ≡ l.chunks * room_words l = (λ i. (c.geometry.ensures.value i).chunks * c.room.ensures.value i) in
    empty_used l c.args.part c.geometry.result.chunks (c.geometry.result.chunks * c.room.result) c.in_ok-no_links.field-0.items c.in_ok-no_bits.field-0.items c.geometry.ensures.rules c.requires c.in_ok-no_links.ensures c.in_ok-no_bits.ensures (ap (λ (g : Geometry). g.chunks) c.geometry.ensures.value) long

pub invariant_of-result : goal.invariant_of-result
invariant_of-result c =
    let l = c.args.layout in
    let long : c.geometry.result.chunks * c.room.result ≡ l.chunks * room_words l = (λ i. (c.geometry.ensures.value i).chunks * c.room.ensures.value i) in
    kept_empty l c.args.part c.geometry.result.chunks (c.geometry.result.chunks * c.room.result) c.in_ok-no_links.field-0.items c.in_ok-no_bits.field-0.items c.in_ok-no_counts.field-0.items c.in_ok-empty.field-0.firsts.items c.in_ok-empty.field-0.nexts.items c.geometry.ensures.rules c.requires c.in_ok-no_links.ensures c.in_ok-no_bits.ensures (ap (λ (g : Geometry). g.chunks) c.geometry.ensures.value) long c.in_ok-no_counts.ensures c.in_ok-empty.ensures.firsts c.in_ok-empty.ensures.nexts

pub returns-clause-sets : goal.returns-clause-sets
returns-clause-sets c = are_sets c.args.layout c.args.part 0 0 c.in_ok-no_links.field-0.items c.in_ok-no_bits.field-0.items (invariant_of-result c).form
