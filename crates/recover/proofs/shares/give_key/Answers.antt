use Rattle.std.proofs.Common.{◌≤◌, sym, ◌∙◌, subst}
use Rattle.std.specs.Prelude.{IfSome}
use Rattle.std.specs.List.{AllByRecursion}
use Rattle.log_entry.specs.declared.entry.Body.{Body}
use Rattle.log_entry.specs.Spelling.{HasSpelling}
use Rattle.core_index.specs.declared.types.Standee.{Standee}
use Rattle.recover.proofs.ShareLaws.{below_map, spelled_more}
use Rattle.recover.proofs.shares.give_key.Goals as goal

pub give-requires-clause-below : goal.give-requires-clause-below
give-requires-clause-below g c = subst (AllByRecursion (λ (s : Standee). s.version ≤ c.args.winner.now.version)) (sym (c.deref.ensures.value ∙ c.in_ok-list_standees.ensures))
    (below_map c.args.layout.now c.args.winner.now.version c.args.run.now c.requires.below)

pub returns-clause-spelled : goal.returns-clause-spelled
returns-clause-spelled g c = λ are.
    let f = c.args.winner.now in
    spelled_more c.args.layout.now c.args.shares.now.items c.give.new.shares.items f c.in-Some.body c.deref.result.now
    (subst (λ o. IfSome o (λ (b : Body). HasSpelling (record { key = f.key; version = f.version; body = b }))) c.in-Some.is c.in_ok-body.ensures.spelled)
    c.in_ok-give.ensures.gives are
