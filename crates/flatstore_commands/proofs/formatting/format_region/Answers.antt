-- Once the region is created, its images are those of a superblock that is written over zeros.
use Rattle.std.proofs.Common.{rules, ◌*◌, ◌/◌, subst}
use Rattle.pm_region.specs.Split.{Attached}
use Rattle.chunk_map.specs.Layouts.{IsLayout}
use Rattle.flatstore_commands.proofs.Emptiness.{made_stops, made_ends, made_once}
use Rattle.flatstore_commands.proofs.formatting.format_region.Goals as goal

pub returns-in-Err-clause-promise : goal.returns-in-Err-clause-promise
returns-in-Err-clause-promise g c =
    let is : IsLayout c.args.layout = search rules in
    let old = g.R.Region.state c.args.region.now in
    let mid = g.R.Region.state c.create.new.self in
    let new = g.R.Region.state c.write_superblock.new.region in
    let created = subst (λ n. Attached old mid (8 * (n / 8)) (λ w. 0)) c.total_bytes.ensures c.in-Ok.ensures.ok in
    made_stops old mid new c.args.layout is created c.write_superblock.ensures.fresh c.write_superblock.ensures.others
    c.create.ensures.cause.later c.in-Err.ensures.cause c.of-in-Err.result c.of-in-Err.ensures.status
    (made_once old mid new c.args.layout is created c.write_superblock.ensures.fresh c.write_superblock.ensures.others
    c.create.result _ c.in-Ok.is c.create.ensures.cause c.create.ensures.opens c.of-in-Err.result c.of-in-Err.ensures.attached)

pub returns-in-Ok-write_superblock-clause-promise : goal.returns-in-Ok-write_superblock-clause-promise
returns-in-Ok-write_superblock-clause-promise g c =
    let is : IsLayout c.args.layout = search rules in
    let old = g.R.Region.state c.args.region.now in
    let mid = g.R.Region.state c.create.new.self in
    let new = g.R.Region.state c.write_superblock.new.region in
    let created = subst (λ n. Attached old mid (8 * (n / 8)) (λ w. 0)) c.total_bytes.ensures c.in-Ok.ensures.ok in
    made_ends old mid new c.args.layout is created c.write_superblock.ensures.fresh c.write_superblock.ensures.others
    c.in-Ok-write_superblock.ensures.ok c.of-in-Ok-write_superblock.result c.of-in-Ok-write_superblock.ensures.status
    (made_once old mid new c.args.layout is created c.write_superblock.ensures.fresh c.write_superblock.ensures.others
    c.create.result _ c.in-Ok.is c.create.ensures.cause c.create.ensures.opens c.of-in-Ok-write_superblock.result c.of-in-Ok-write_superblock.ensures.attached)
