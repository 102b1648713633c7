use Rattle.std.proofs.Common.{ℕ, ◌-◌, refl, subst, arith, length-set}
use Rattle.region_memory.specs.Histories.{Outside}
use Rattle.region_memory.specs.declared.step.Step.TheVariants.{Store}
use Rattle.region_memory.proofs.OutsideCells.{store_outside}
use Rattle.region_memory.proofs.Journals.{matches_on, inside_on, store_effect, recorded}
use Rattle.region_memory.proofs.Wide.{wide_set}
use Rattle.region_memory.proofs.history.History.store.Goals as goal

pub invariant_of-self-clause-matches : goal.invariant_of-self-clause-matches
invariant_of-self-clause-matches c =
    let h = c.args.self.now in
    λ complete k lt. matches_on h.journal c.record.new.self (Store c.args.at c.args.value) c.record.ensures h.first h.start.items h.words.items _ h.matches
    (store_effect h.first c.args.at c.args.value h.words.items c.requires.low c.requires.high) complete k (omega (arith, lt, length-set h.words.items (c.args.at - h.first) c.args.value))

pub invariant_of-self-clause-inside : goal.invariant_of-self-clause-inside
invariant_of-self-clause-inside c =
    let h = c.args.self.now in
    λ w d out. inside_on h.journal c.record.new.self (Store c.args.at c.args.value) c.record.ensures h.first _ h.inside
    (λ x e. store_outside h.first _ c.args.at c.args.value x e c.requires.low c.requires.high) w d
    (subst (λ (n : ℕ). Outside h.first n w) (length-set h.words.items (c.args.at - h.first) c.args.value) out)

pub returns : goal.returns
returns c =
    let h = c.args.self.now in
    record {
      first = refl;
      length = length-set h.words.items (c.args.at - h.first) c.args.value;
      since = c.record.ensures.since;
      limit = c.record.ensures.limit;
      shares = c.record.ensures.shares;
      goes = λ f n n' from le. recorded h.journal c.record.new.self (Store c.args.at c.args.value) c.record.ensures f n n' h.first h.start.items from le;
    }

pub invariant_of-self-clause-fits : goal.invariant_of-self-clause-fits
invariant_of-self-clause-fits c = let h = c.args.self.now in omega (arith, h.fits, length-set h.words.items (c.args.at - h.first) c.args.value)

pub invariant_of-self-clause-wide : goal.invariant_of-self-clause-wide
invariant_of-self-clause-wide c =
    let h = c.args.self.now in
    let low = c.requires.low in
    let high = c.requires.high in
    let fits = c.ranges.value in
    wide_set h.words.items (c.args.at - h.first) c.args.value (omega arith) (omega arith) h.wide
