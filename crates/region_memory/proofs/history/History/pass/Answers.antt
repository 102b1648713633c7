use Rattle.std.proofs.Common.{refl, sym, ◌∙◌}
use Rattle.region_memory.proofs.Journals.{matches_on, inside_on, recorded}
use Rattle.region_memory.proofs.history.History.pass.Goals as goal

pub invariant_of-self-clause-matches : goal.invariant_of-self-clause-matches
invariant_of-self-clause-matches c =
    let h = c.args.self.now in
    λ complete k lt. matches_on h.journal c.record.new.self c.args.step c.record.ensures h.first h.start.items h.words.items h.words.items h.matches
    (λ k d lt is. is ∙ sym (c.requires.lasts _ d)) complete k lt

pub invariant_of-self-clause-inside : goal.invariant_of-self-clause-inside
invariant_of-self-clause-inside c =
    let h = c.args.self.now in
    inside_on h.journal c.record.new.self c.args.step c.record.ensures h.first _ h.inside c.requires.inside

pub returns : goal.returns
returns c =
    let h = c.args.self.now in
    record {
      first = refl;
      length = refl;
      since = c.record.ensures.since;
      limit = c.record.ensures.limit;
      shares = c.record.ensures.shares;
      goes = λ f n n' from le. recorded h.journal c.record.new.self c.args.step c.record.ensures f n n' h.first h.start.items from le;
    }
