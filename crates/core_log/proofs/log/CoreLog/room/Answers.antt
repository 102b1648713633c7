use Rattle.std.proofs.Common.{◌≡◌, unwrap_or, arith, rules}
use Rattle.core_log.specs.Log.{LogState, tail_of}
use Rattle.core_log.proofs.LogLaws.{room_in}
use Rattle.core_log.proofs.log.CoreLog.room.Goals as goal

pub overflow_sub-result : goal.overflow_sub-result
overflow_sub-result c =
    let log : LogState = record { layout = c.self.inside.layout; part = c.self.inside.part; chunks = c.self.inside.chunks.items; opened = c.self.inside.opened } in
    let room = room_in log c.self.invariant.0 c.in-Some.chunk in
    let same : c.unwrap_or.result ≡ unwrap_or (tail_of log.chunks c.in-Some.chunk) 0 = search rules in
    let lines = c.payload_lines.ensures in
    omega (arith, room, same, lines)
