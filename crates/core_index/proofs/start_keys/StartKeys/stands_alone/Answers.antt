use Rattle.std.proofs.Common.{sym, subst, inl, inr, ⊎_elim, ◌⊎◌}
use Rattle.core_index.specs.Tombs.{Tombs, tomb_home, name_of, Ahead}
use Rattle.core_index.specs.Lones.{LoneAhead}
use Rattle.core_index.proofs.TombLaws.{more_ahead, own_ahead}
use Rattle.core_index.proofs.StartLaws.{asks_none, asks_one}
use Rattle.core_index.proofs.start_keys.StartKeys.stands_alone.Goals as goal

pub returns-in_default-clause-own : goal.returns-in_default-clause-own
returns-in_default-clause-own c = asks_none c.args.self.now c.args.self.now.lone c.args.key (sym c.in_default.ensures.found)

pub returns-in-Ok-clause-ahead : goal.returns-in-Ok-clause-ahead
returns-in-Ok-clause-ahead c = λ h n far.
    let a = c.args.self.now in
    ⊎_elim (λ (x : LoneAhead a.lone h n). inl x) (λ (y : Ahead a.late h n ⊎ Ahead a.older h n). inr (⊎_elim (λ (z : Ahead a.late h n). inl (subst (λ (b : Tombs). Ahead b h n) (sym c.in-Ok.ensures.ok) (more_ahead a.late c.in-Some.tombstone h n z))) (λ (z : Ahead a.older h n). inr z) y)) far

pub returns-in-Ok-clause-own : goal.returns-in-Ok-clause-own
returns-in-Ok-clause-own c =
    let a = c.args.self.now in
    let t = c.in-Some.tombstone in
    asks_one (record { lone = a.lone; older = a.older; late = c.push.new.self }) a.lone c.args.key t (sym c.in-Some.ensures.found) (inr (inl (subst (λ (b : Tombs). Ahead b (tomb_home t) (name_of t)) (sym c.in-Ok.ensures.ok) (own_ahead a.late t (c.push.ensures.room (tomb_home t))))))

pub returns-in-Err-clause-ahead : goal.returns-in-Err-clause-ahead
returns-in-Err-clause-ahead c = λ h n far.
    let a = c.args.self.now in
    ⊎_elim (λ (x : LoneAhead a.lone h n). inl (c.rewind.ensures.ahead h n x)) (λ (y : Ahead a.late h n ⊎ Ahead a.older h n). inr (⊎_elim (λ (z : Ahead a.late h n). inl (subst (λ (b : Tombs). Ahead b h n) (sym c.in-Err.ensures.err) z)) (λ (z : Ahead a.older h n). inr z) y)) far

pub returns-in-Err-clause-own : goal.returns-in-Err-clause-own
returns-in-Err-clause-own c =
    let a = c.args.self.now in
    asks_one (record { lone = record { live = a.lone.live; deleted = c.rewind.new.self }; older = a.older; late = c.push.new.self }) a.lone c.args.key c.in-Some.tombstone (sym c.in-Some.ensures.found) (inl (c.rewind.ensures.own c.args.key c.in-Some.tombstone (sym c.in-Some.ensures.found)))
