use Rattle.std.proofs.Common.{◌≡◌, ℕ, ◌+◌, List, Option, Some, None, is_some, sym, ◌∙◌, ap, subst}
use Rattle.std.specs.Prelude.{IfSome, IfNone}
use Rattle.std.specs.Map.{remove_entry}
use Rattle.std.specs.BTreeMap.{is_at}
use Rattle.std.specs.Ordering.{nat_cmp}
use Rattle.core_index.specs.Starts.{started}
use Rattle.core_index.specs.Slots.{Place}
use Rattle.core_index.specs.Index.{place_at, known_at, room_at, known_in, all_places}
use Rattle.core_index.proofs.StepLaws.{step_over}
use Rattle.core_index.proofs.SlabLaws.{taken_back}
use Rattle.core_index.proofs.OverLaws.{some_of, none_of}
use Rattle.core_index.proofs.PlaceLaws.{known_there, known_else, admits_there, admits_moved}
use Rattle.core_index.proofs.compact.admit_at.Goals as goal

pub returns-then-branch-clause-ok : goal.returns-then-branch-clause-ok
returns-then-branch-clause-ok c =
    let es = c.args.slots.now.entries in
    let a = c.args.start.now in
    let k = c.args.key in
    let there = some_of (place_at es k) (sym c.in_ok-reserve_at.ensures.there ∙ c.if-branch.true) in
    admits_there es c.reserve_at.new.slots.entries a k (known_there es a k there.0 there.1) c.in_ok-reserve_at.ensures.step

pub replace_at-requires : goal.replace_at-requires
replace_at-requires c = ap (λ (o : Option Place). is_some o) (let step = c.in_ok-reserve_at.ensures.step in step.here)

pub returns-in-Ok-None-clause-ok : goal.returns-in-Ok-None-clause-ok
returns-in-Ok-None-clause-ok c =
    let es = c.args.slots.now.entries in
    let a = c.args.start.now in
    let k = c.args.key in
    let none = none_of (place_at es k) (sym c.in_ok-reserve_at.ensures.there ∙ c.if-branch.false) in
    let known : known_at (all_places es a) k ≡ None = known_else es a k none ∙ subst (λ (o : Option Place). IfNone o (known_at (started a) k ≡ None)) c.in-Ok-None.field-0-is c.in-Ok-None.ensures.none in
    let old : known_at es k ≡ None = ap known_in none in
    admits_there es c.reserve_at.new.slots.entries a k (known ∙ sym old) c.in_ok-reserve_at.ensures.step

pub returns-in-Ok-Some-clause-ok : goal.returns-in-Ok-Some-clause-ok
returns-in-Ok-Some-clause-ok c =
    let es = c.args.slots.now.entries in
    let fs = c.reserve_at.new.slots.entries in
    let gs = c.replace_at.new.slots.entries in
    let a = c.args.start.now in
    let k = c.args.key in
    let slot = c.in-Ok-Some.slot in
    let none = none_of (place_at es k) (sym c.in_ok-reserve_at.ensures.there ∙ c.if-branch.false) in
    let step = step_over es fs gs k (record { known = known_at es k; room = room_at es k + 1 }) (Some slot) c.in_ok-reserve_at.ensures.step c.replace_at.ensures in
    admits_moved es gs a c.clear.new.self k slot none (subst (λ (o : Option Place). IfSome o (λ p. p ≡ record { known = known_at (started a) k; room = 1 })) c.in-Ok-Some.field-0-is c.in-Ok-Some.ensures.slot) step c.clear.ensures.turns c.clear.ensures.untold

pub returns-in-Err-clause-err : goal.returns-in-Err-clause-err
returns-in-Err-clause-err c =
    let es = c.args.slots.now.entries in
    let k = c.args.key in
    let none = none_of (place_at es k) (sym c.in_ok-reserve_at.ensures.there ∙ c.if-branch.false) in
    c.take_back.ensures ∙ ap (λ (s : List (ℕ × Place)). remove_entry (is_at (nat_cmp k)) s) (c.in_ok-reserve_at.ensures.added c.if-branch.false) ∙ taken_back es k (record { known = None; room = 1 }) none
