use Rattle.std.proofs.Common.{◌≡◌, ◌≤◌, vec_len, vec_capacity}
use Rattle.thread_engine.specs.TableTokens.{AreTokenRooms}
use Rattle.thread_engine.proofs.closing.token_rooms.Given as goal

abbrev pub invariant-loop : goal.invariant-loop
invariant-loop l = record {
  made : AreTokenRooms l.members l.counter l.rooms.items;
  count : vec_len l.rooms ≡ l.counter;
  within : l.counter ≤ l.groups;
  room : vec_capacity l.rooms ≡ l.groups;
}
