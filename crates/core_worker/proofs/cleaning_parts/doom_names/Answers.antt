use Rattle.std.proofs.Common.{◌≡◌, List, sym, ◌∙◌, ap, subst}
use Rattle.log_entry.specs.declared.entry.EntryName.{EntryName}
use Rattle.group_laws.specs.MemberViews.{View}
use Rattle.group_board.specs.Views.{after_doom}
use Rattle.log_cleaner.specs.Clearing.{AreLone}
use Rattle.log_cleaner.specs.Vanishing.{MayGo}
use Rattle.core_worker.proofs.Receiving.{lone_dead, may_go}
use Rattle.core_worker.proofs.cleaning_parts.doom_names.Goals as goal

pub doom-requires : goal.doom-requires
doom-requires g c = record {
  member = c.requires.member;
  dead = lone_dead (g.B.Board.view c.args.board.now) c.args.standing.now _ (subst (AreLone c.args.standing.now) (sym c.doomed_of.ensures) c.gather.ensures.lone) c.requires.told;
}

pub returns-clause-may : goal.returns-clause-may
returns-clause-may g c =
    let names : c.doomed_of.result.now ≡ c.gather.new.self.doomed = c.doomed_of.ensures in
    subst (λ (x : View). MayGo x c.gather.new.self.doomed) (sym (c.doom.ensures.view ∙ ap (λ (ns : List EntryName). after_doom ns (g.B.Board.view c.args.board.now)) names))
    (may_go (g.B.Board.view c.args.board.now) c.gather.new.self.doomed c.requires.idle)

pub returns-clause-doomed : goal.returns-clause-doomed
returns-clause-doomed g c =
    let names : c.doomed_of.result.now ≡ c.gather.new.self.doomed = c.doomed_of.ensures in
    record {
      view = c.doom.ensures.view ∙ ap (λ (ns : List EntryName). after_doom ns (g.B.Board.view c.args.board.now)) names;
      gathered = c.gather.ensures.gathered;
      lone = c.gather.ensures.lone;
      noted = c.gather.ensures.noted;
      few = c.gather.ensures.few;
      chunk = c.gather.ensures.chunk;
    }
