use Rattle.std.proofs.Common.{length}
use Rattle.thread_engine.specs.TableTokens.{AllEnded, AreTokensOf, AreTokenRooms}
use Rattle.thread_engine.proofs.closing.close_tables.Given as goal

abbrev pub invariant-loop-table : goal.invariant-loop-table
invariant-loop-table l = record {
  ready : AreTokensOf l.members l.table-iterator.rest.items l.tokens.items;
  room : AreTokenRooms l.members (length l.table-iterator.rest.items) l.rooms.items;
  ended : AllEnded l.table-iterator.rest.items l.tokens.items → AllEnded l.fn.tables.items l.fn.tokens.items;
}
