-- What a core keeps where names that awaited are taken out of its index.
use Rattle.std.proofs.Common.{ℕ, true, false, sym, ◌≡◌, ◌∙◌, subst}
use Rattle.core_worker.specs.Sending.{TakesAt}
use Rattle.core_worker.proofs.ReadiedMail.{readied}
use Rattle.core_worker.proofs.worker.Worker.ready_for.Goals as goal

pub returns-in-Ok-clause-keeps : goal.returns-in-Ok-clause-keeps
returns-in-Ok-clause-keeps c p m v H O runs nothing other home =
    let R = c.in-Ok.ensures.ready in
    readied p m c.args.to v c.args.self.now H O runs nothing other c.take_for.new.self (subst (λ (h : ℕ). TakesAt h c.args.to c.args.self.now c.take_for.new.self) home c.take_for.ensures.takes) (λ on. sym R.works ∙ on) (λ on n is. R.spare n is)

pub returns-in-Err-clause-keeps : goal.returns-in-Err-clause-keeps
returns-in-Err-clause-keeps c p m v H O runs nothing other home =
    let winds = c.in-Err.ensures.memory in
    readied p m c.args.to v c.args.self.now H O runs nothing other c.take_for.new.self (subst (λ (h : ℕ). TakesAt h c.args.to c.args.self.now c.take_for.new.self) home c.take_for.ensures.takes)
    (λ on. absurd (let both : true ≡ false = sym winds ∙ on in cc both)) (λ on. absurd (let both : true ≡ false = sym winds ∙ on in cc both))
