use Rattle.std.proofs.Common.{inl, inr, sym, ◌∙◌, ap, subst}
use Rattle.core_index.specs.declared.types.Fate.TheVariants as fates
use Rattle.core_index.specs.Tombs.{Tombs}
use Rattle.core_index.specs.Starts.{IsAhead}
use Rattle.core_index.proofs.StartLaws.{gone_lone, gone_lone_waits, gone_beside, gone_beside_waits, gone_untold, OlderGone, gone_older, gone_older_untold, gone_older_waits, older_ahead}
use Rattle.core_index.proofs.start_keys.StartKeys.gone.Goals as goal

pub returns-in_default-clause-gone : goal.returns-in_default-clause-gone
returns-in_default-clause-gone c = gone_lone c.args.self.now c.gone.new.self c.args.name.key c.args.name.version c.in_default.ensures.rising c.in_default.ensures.lone c.gone.ensures.gone

pub returns-in_default-clause-untold : goal.returns-in_default-clause-untold
returns-in_default-clause-untold c = gone_untold c.args.self.now c.gone.new.self c.args.name.key c.args.name.version c.gone.ensures.gone c.gone.ensures.untold

pub returns-in_default-clause-waits : goal.returns-in_default-clause-waits
returns-in_default-clause-waits c = λ home v waits. inl (gone_lone_waits c.args.self.now c.gone.new.self c.args.name.key c.args.name.version home v c.in_default.ensures.rising c.in_default.ensures.lone c.gone.ensures.gone (c.gone.ensures.none home v) waits)

pub returns-then-version_of-name-clause-gone : goal.returns-then-version_of-name-clause-gone
returns-then-version_of-name-clause-gone c =
    let version = c.version_of.ensures in
    gone_beside c.args.self.now c.gone-then-version_of-name.new.self c.args.name.key c.args.name.version c.in-Some.older c.older_of.ensures.rising c.in-Some.ensures.twin (λ e. c.if-version_of-name.true (version ∙ e)) c.gone-then-version_of-name.ensures.gone

pub returns-then-version_of-name-clause-untold : goal.returns-then-version_of-name-clause-untold
returns-then-version_of-name-clause-untold c = gone_untold c.args.self.now c.gone-then-version_of-name.new.self c.args.name.key c.args.name.version c.gone-then-version_of-name.ensures.gone c.gone-then-version_of-name.ensures.untold

pub returns-then-version_of-name-clause-waits : goal.returns-then-version_of-name-clause-waits
returns-then-version_of-name-clause-waits c = λ home v waits. inl (gone_beside_waits c.args.self.now c.gone-then-version_of-name.new.self c.args.name.key c.args.name.version home v c.in-Some.older c.older_of.ensures.rising c.in-Some.ensures.twin c.gone-then-version_of-name.ensures.gone waits)

went : (c : goal.After-stands_alone) → OlderGone c.args.self.now c.stands_alone.new.self c.args.name.key
went c =
    let a = c.args.self.now in
    let k = c.args.name.key in
    record {
      same = c.stands_alone.ensures.lones;
      items = ap (λ (d : Tombs). d.items) (c.stands_alone.ensures.older ∙ c.set.ensures);
      ahead = λ h n far. c.stands_alone.ensures.ahead h n (subst (λ (d : Tombs). IsAhead (record { lone = a.lone; older = d; late = a.late }) h n) (sym c.set.ensures) (older_ahead a k fates.Gone h n far));
    }

pub returns-clause-gone : goal.returns-clause-gone
returns-clause-gone c = gone_older c.args.self.now c.stands_alone.new.self c.args.name.key c.args.name.version c.in-Some.older c.older_of.ensures.rising c.in-Some.ensures.twin (sym c.version_of.ensures ∙ c.if-version_of-name.false) (went c)

pub returns-clause-untold : goal.returns-clause-untold
returns-clause-untold c = gone_older_untold c.args.self.now c.stands_alone.new.self c.args.name.key (went c)

pub returns-clause-waits : goal.returns-clause-waits
returns-clause-waits c = λ home v waits. inr (gone_older_waits c.args.self.now c.stands_alone.new.self c.args.name.key home v c.in-Some.older c.older_of.ensures.rising c.in-Some.ensures.twin (went c) (c.stands_alone.ensures.own home v) waits)
