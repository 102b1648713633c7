use Rattle.std.proofs.Common.{length, sym, ◌∙◌, subst}
use Rattle.thread_engine.specs.TableTokens.{AllEnded, AreTokensOf, AreTokenRooms}
use Rattle.thread_engine.proofs.OwnTokens.{first_tokens, rooms_left}
use Rattle.thread_engine.proofs.closing.close_tables.Goals as goal

pub close-requires-clause-tokens : goal.close-requires-clause-tokens
close-requires-clause-tokens c =
    let steps = c.in-Some.ensures.steps.0 in
    let own = c.first_of-own.ensures in
    let all = subst (λ ts. AreTokensOf c.args.members ts c.loop-table.tokens.items) steps c.loop-table.invariant.ready in
    let r = first_tokens c.args.members c.in-Some.table c.next.new.self.rest.items c.loop-table.tokens.items c.first_of-own.result.items c.first_of-own.new.tokens.items all own.split own.count in
    r.1

pub loop-table-preserved : goal.loop-table-preserved
loop-table-preserved c =
    let I = c.loop-table.invariant in
    let steps = c.in-Some.ensures.steps.0 in
    let own = c.first_of-own.ensures in
    let all = subst (λ ts. AreTokensOf c.args.members ts c.loop-table.tokens.items) steps I.ready in
    let r = first_tokens c.args.members c.in-Some.table c.next.new.self.rest.items c.loop-table.tokens.items c.first_of-own.result.items c.first_of-own.new.tokens.items all own.split own.count in
    let rooms = subst (λ ts. AreTokenRooms c.args.members (length ts) c.loop-table.rooms.items) steps I.room in
    record {
      ready = r.2;
      room = rooms_left c.args.members (length c.next.new.self.rest.items) c.loop-table.rooms.items c.pop.new.self.items c.in-Some-pop.room c.in-Some-pop.ensures.items rooms;
      ended = λ more. I.ended (subst (λ ts. AllEnded ts c.loop-table.tokens.items) (sym steps) (c.first_of-own.result.items, c.first_of-own.new.tokens.items, own.split, own.count ∙ sym r.0, c.close.result.items, c.close.ensures, more));
    }
