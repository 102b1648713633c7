-- The staged change is put away.
use Rattle.std.proofs.Common.{◌≡◌, ℕ, true, Option, sym, ◌∙◌, ap, subst}
use Rattle.std.specs.Prelude.{IfSome}
use Rattle.lazy_alloc.specs.Sets.{block_is_used}
use Rattle.core_worker.specs.Stopping.{PutsAway, staged_block}
use Rattle.core_worker.specs.OwnPlaces.{key_in}
use Rattle.core_worker.proofs.TakingBack.{one_room}
use Rattle.core_worker.proofs.Dropping.{drops_by_sight, drop_used, staged_at}
use Rattle.core_worker.proofs.worker.Worker.drop_out.Goals as goal

pub put_away-requires-clause-room : goal.put_away-requires-clause-room
put_away-requires-clause-room c =
    let t = c.requires.tied.0 in
    let w = c.args.self.now in
    one_room t.place t.number t.view w c.args.slot (staged_at w c.args.slot c.requires.staged).entry.key c.requires.tied.2 (ap key_in (staged_at w c.args.slot c.requires.staged).place)

pub put_away-requires-clause-used : goal.put_away-requires-clause-used
put_away-requires-clause-used c =
    let t = c.requires.tied.0 in
    let w = c.args.self.now in
    subst (λ (o : Option ℕ). IfSome o (λ q. block_is_used w.allocator q ≡ true)) (sym (c.block_in-block.ensures ∙ ap staged_block c.place_in-2.ensures))
    (drop_used w c.args.slot c.requires.slot c.requires.staged t.place t.number t.view c.requires.tied.1 c.requires.tied.2 c.requires.stopped)

pub returns-clause-freed : goal.returns-clause-freed
returns-clause-freed c t H O =
    let w = c.args.self.now in
    let key = ap key_in (sym c.place_in.ensures) ∙ sym c.key_in.ensures ∙ c.unwrap-key.ensures in
    let block = c.block_in-block.ensures ∙ ap staged_block c.place_in-2.ensures in
    drops_by_sight w c.put_away.new.self c.args.slot c.unwrap-key.result c.requires.stopped c.requires.slot c.requires.staged key (subst (λ (o : Option ℕ). PutsAway w c.put_away.new.self c.args.slot o) block c.put_away.ensures) t.place t.number t.view H O
