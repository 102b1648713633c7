use Rattle.std.proofs.Common.{◌≡◌, Option, None, sym, ◌∙◌, ap, subst}
use Rattle.std.specs.Prelude.{IfSome, IfNone}
use Rattle.core_index.specs.Records.{KeyRecord}
use Rattle.core_index.specs.Slots.{Place}
use Rattle.core_index.specs.Index.{known_at}
use Rattle.core_index.specs.Lones.{lones}
use Rattle.core_index.specs.Starts.{OfLast, beside}
use Rattle.core_index.proofs.StartLaws.{start_keeps, lone_last, known_lone, slot_below, slot_beside}
use Rattle.core_index.proofs.start_keys.StartKeys.slot.Goals as goal

pub returns-in_default-clause-none : goal.returns-in_default-clause-none
returns-in_default-clause-none c =
    let a = c.args.self.now in
    let k = c.args.key in
    start_keeps (λ (o : Option KeyRecord). o ≡ None) a k (λ t o none. ap (beside t) none) (subst (λ (o : Option Place). IfNone o (known_at (lones a.lone) k ≡ None)) c.in_default.is c.in_ok-slot.ensures.none)

pub beside-requires-clause-lone : goal.beside-requires-clause-lone
beside-requires-clause-lone c =
    let a = c.args.self.now in
    let k = c.args.key in
    let is = subst (λ (o : Option Place). IfSome o (λ p. p ≡ record { known = known_at (lones a.lone) k; room = 1 })) c.in-Some.is c.in_ok-slot.ensures.slot in
    subst (λ (p : Place). OfLast p.known) (sym is) (lone_last a.lone k)

pub beside-requires-clause-below : goal.beside-requires-clause-below
beside-requires-clause-below c =
    let a = c.args.self.now in
    let k = c.args.key in
    let is = subst (λ (o : Option Place). IfSome o (λ p. p ≡ record { known = known_at (lones a.lone) k; room = 1 })) c.in-Some.is c.in_ok-slot.ensures.slot in
    slot_below a k c.in-Some-older_of.older c.in-Some.slot c.standing_entry.result c.in-Some-older_of.ensures.twin is c.standing_entry.ensures

pub returns-in-None-clause-slot : goal.returns-in-None-clause-slot
returns-in-None-clause-slot c =
    let a = c.args.self.now in
    let k = c.args.key in
    let is = subst (λ (o : Option Place). IfSome o (λ p. p ≡ record { known = known_at (lones a.lone) k; room = 1 })) c.in-Some.is c.in_ok-slot.ensures.slot in
    is ∙ ap (λ (o : Option KeyRecord). record { known = o; room = 1 }) (sym (known_lone a k c.in-None.ensures.rising c.in-None.ensures.lone))

pub returns-in_ok-beside-in-Some-older_of-clause-slot : goal.returns-in_ok-beside-in-Some-older_of-clause-slot
returns-in_ok-beside-in-Some-older_of-clause-slot c =
    let a = c.args.self.now in
    let k = c.args.key in
    let t = c.in-Some-older_of.older in
    let is = subst (λ (o : Option Place). IfSome o (λ p. p ≡ record { known = known_at (lones a.lone) k; room = 1 })) c.in-Some.is c.in_ok-slot.ensures.slot in
    c.in_ok-beside-in-Some-older_of.ensures ∙ slot_beside a k t c.in-Some.slot c.standing_entry.result c.in-Some-older_of.ensures.rising c.in-Some-older_of.ensures.twin is c.standing_entry.ensures
