use Rattle.std.proofs.Common.{◌≡◌, ℕ, ◌<◌, List, ◌∷◌, sym, ◌∙◌, subst}
use Rattle.pm_region.proofs.Clients.{at_exit}
use Rattle.log_entry.specs.declared.entry.EntryName.{EntryName}
use Rattle.chunk_map.specs.declared.layouts.Geometry.{Geometry}
use Rattle.lazy_alloc.specs.Sets.{GivesChunk}
use Rattle.licence.specs.Licence.{Licensed}
use Rattle.group_laws.specs.Runs as runs
use Rattle.group_board.specs.Trails.{step_with}
use Rattle.group_board.specs.Views.{after_retire, TidiedIn}
use Rattle.log_cleaner.proofs.Licences.{clear_licensed, clear_outside, clear_forgets, none_else}
use Rattle.core_worker.proofs.ChunkGivenUp.{forgets_by, chunk_within}
use Rattle.core_worker.proofs.giving_up.give_up.Goals as goal

pub give_chunk-requires-clause-within : goal.give_chunk-requires-clause-within
give_chunk-requires-clause-within g c =
    let low = chunk_within c.args.log.now c.requires.begins.stands.own c.args.clearing.chunk c.requires.has in
    subst (λ (l : Geometry). c.in-Ok.cleared.chunk < l.chunks) (sym c.requires.layout) (subst (λ (j : ℕ). j < c.args.log.now.layout.chunks) (sym c.in-Ok.ensures.chunk) low)

pub returns-in-Ok-clause-moments : goal.returns-in-Ok-clause-moments
returns-in-Ok-clause-moments g c = clear_licensed (g.R.Region.state c.args.region.now) (g.R.Region.state c.clear.new.region) (g.B.Board.seat c.args.board.now).place (g.B.Board.seat c.args.board.now).number (g.B.Board.view c.args.board.now) c.args.log.now
    c.requires.begins c.args.clearing.chunk c.args.clearing.doomed c.clear.ensures.moments c.requires.may

pub returns-in-Ok-clause-outside : goal.returns-in-Ok-clause-outside
returns-in-Ok-clause-outside g c = clear_outside (g.R.Region.state c.args.region.now) (g.R.Region.state c.clear.new.region) (g.B.Board.seat c.args.board.now).place (g.B.Board.seat c.args.board.now).number (g.B.Board.view c.args.board.now) c.args.log.now
    c.requires.begins c.args.clearing.chunk c.args.clearing.doomed c.clear.ensures.moments c.requires.has

tidied : goal.returns-in-Ok-clause-ok
tidied g c =
    let names : c.as_slice.result.now ≡ c.args.clearing.doomed = c.as_slice.ensures.value ∙ c.in-Ok.ensures.gone in
    let p = (g.B.Board.seat c.args.board.now).place in
    let m = (g.B.Board.seat c.args.board.now).number in
    record {
      cleared = c.in-Ok.ensures.ok;
      gives = subst (GivesChunk c.args.allocator.now c.give_chunk.new.self) c.in-Ok.ensures.chunk c.give_chunk.ensures.gives;
      tidied = subst (λ (ns : List EntryName). TidiedIn p m (after_retire p m ns (g.B.Board.view c.args.board.now)) (g.B.Board.view c.retire.new.self)) names c.retire.ensures.view;
      others = none_else (g.R.Region.state c.args.region.now) (g.R.Region.state c.clear.new.region) c.args.log.now c.clear.new.log c.args.clearing.chunk c.args.clearing.doomed c.requires.begins.stands c.clear.ensures.moments c.in-Ok.ensures.ok.retired c.requires.others;
    }

pub returns-in-Ok-clause-ok : goal.returns-in-Ok-clause-ok
returns-in-Ok-clause-ok g c = tidied g c

pub returns-in-Ok-clause-exit : goal.returns-in-Ok-clause-exit
returns-in-Ok-clause-exit g c telling =
    let p = (g.B.Board.seat c.args.board.now).place in
    let m = (g.B.Board.seat c.args.board.now).number in
    let v = g.B.Board.view c.args.board.now in
    let names : c.as_slice.result.now ≡ c.args.clearing.doomed = c.as_slice.ensures.value ∙ c.in-Ok.ensures.gone in
    let t = subst (λ (ns : List EntryName). TidiedIn p m (after_retire p m ns v) (g.B.Board.view c.retire.new.self)) names c.retire.ensures.view in
    clear_forgets (g.R.Region.state c.args.region.now) (g.R.Region.state c.clear.new.region) p m v (g.B.Board.view c.retire.new.self) c.args.log.now c.clear.new.log c.args.clearing.chunk c.args.clearing.doomed
    c.requires.begins c.requires.may c.requires.others c.clear.ensures.moments c.in-Ok.ensures.ok.retired c.in-Ok.ensures.ok.vanish (forgets_by p m c.args.clearing.doomed v (g.B.Board.view c.retire.new.self) t) telling

pub returns-in-Err-clause-moments : goal.returns-in-Err-clause-moments
returns-in-Err-clause-moments g c = clear_licensed (g.R.Region.state c.args.region.now) (g.R.Region.state c.clear.new.region) (g.B.Board.seat c.args.board.now).place (g.B.Board.seat c.args.board.now).number (g.B.Board.view c.args.board.now) c.args.log.now
    c.requires.begins c.args.clearing.chunk c.args.clearing.doomed c.clear.ensures.moments c.requires.may

pub returns-in-Err-clause-outside : goal.returns-in-Err-clause-outside
returns-in-Err-clause-outside g c = clear_outside (g.R.Region.state c.args.region.now) (g.R.Region.state c.clear.new.region) (g.B.Board.seat c.args.board.now).place (g.B.Board.seat c.args.board.now).number (g.B.Board.view c.args.board.now) c.args.log.now
    c.requires.begins c.args.clearing.chunk c.args.clearing.doomed c.clear.ensures.moments c.requires.has

pub returns-in-Err-clause-exit : goal.returns-in-Err-clause-exit
returns-in-Err-clause-exit g c telling =
    let p = (g.B.Board.seat c.args.board.now).place in
    let m = (g.B.Board.seat c.args.board.now).number in
    at_exit (g.R.Region.state c.args.region.now) (g.R.Region.state c.clear.new.region) (Licensed p m (g.B.Board.view c.args.board.now))
    (clear_licensed (g.R.Region.state c.args.region.now) (g.R.Region.state c.clear.new.region) p m (g.B.Board.view c.args.board.now) c.args.log.now c.requires.begins c.args.clearing.chunk c.args.clearing.doomed c.clear.ensures.moments c.requires.may) telling

pub returns-in-Ok-clause-head : goal.returns-in-Ok-clause-head
returns-in-Ok-clause-head g c = c.clear.ensures.moments.outside

pub returns-in-Err-clause-head : goal.returns-in-Err-clause-head
returns-in-Err-clause-head g c = c.clear.ensures.moments.outside

pub returns-in-Ok-clause-steps : goal.returns-in-Ok-clause-steps
returns-in-Ok-clause-steps g c =
    let names : c.as_slice.result.now ≡ c.args.clearing.doomed = c.as_slice.ensures.value ∙ c.in-Ok.ensures.gone in (
      subst (λ (ns : List EntryName). g.B.Board.trail c.retire.new.self ≡ step_with (runs.Kind.Retire ns) (g.B.Board.view c.retire.new.self) ∷ g.B.Board.trail c.args.board.now) names c.retire.ensures.made,
      c.retire.ensures.at,
    )
