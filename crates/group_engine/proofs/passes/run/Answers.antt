use Rattle.std.proofs.Common.{rules, ◌≡◌, ◌∙◌, ℕ, List, [], ◌∷◌, length, refl, sym, subst, arith, Result, Ok, Err, OnOk, OnErr}
use Rattle.fs_text.specs.declared.line.Line.{Line}
use Rattle.fs_text.specs.declared.line.Line.TheVariants.{Ask, Go}
use Rattle.group_engine.specs.Passes.{NameCores}
use Rattle.group_engine.specs.Runs.{with_request}
use Rattle.engine_laws.specs.Ran.{Ran, Drains}
use Rattle.engine_core.proofs.Clients.{on_err}
use Rattle.group_engine.proofs.Ending.{ends_in, ends_here, begun_ask, begun_go, ran_ask, ran_go, keeps_all, keeps_goes}
use Rattle.group_engine.proofs.passes.run.Goals as goal

ok_then : {T E A B : Type 0} (r : Result T E) → (A → B) → OnOk r A → OnOk r B
ok_then (Ok x) f a = f a
ok_then (Err x) f a = tt

err_then : {T E A B : Type 0} (r : Result T E) → (A → B) → OnErr r A → OnErr r B
err_then (Ok x) f a = tt
err_then (Err x) f a = f a

none_left : {X : Type 0} (xs : List X) → length xs ≡ 0 → xs ≡ []
none_left [] e = refl
none_left (x ∷ xs) e = absurd (omega (arith, e))

pub returns-in-None : goal.returns-in-None
returns-in-None g c =
    let I = c.loop-request.invariant in
    let zero : length c.loop-request.lines.items ≡ 0 = (let z = c.in-None.ensures.cases in search rules) in
    let empty : c.loop-request.lines.items ≡ [] = none_left c.loop-request.lines.items zero in
    record {
      cores = c.drain.ensures.cores ∙ I.cores;
      failed = err_then c.drain.result (λ D e h. let r = I.shown e h in let f = D r.0 r.1 in (f.0, f.1, ends_in _ c.args.lines.items c.loop-request.lines.items e.engine r.0.engine f.0 r.3 f.2)) c.drain.ensures.failed;
      ran = ok_then c.drain.result (λ D e h.
          let r = I.shown e h in
          let n = D r.0 r.1 in
          (n.0, n.1, r.2 n.0 (subst (λ (ls : List Line). Ran g.C.Cores.moves with_request (g.C.Cores.cores c.args.cores.now) ls r.0 n.0) (sym empty) (subst (λ k. (passes : ℕ) × Drains g.C.Cores.moves k passes r.0 n.0) I.cores n.2)))) c.drain.ensures.drained;
    }

pub loop-request-preserved-in-Continue-1 : goal.loop-request-preserved-in-Continue-1
loop-request-preserved-in-Continue-1 g c =
    let I = c.loop-request.invariant in
    let cores : ℕ = g.C.Cores.cores c.args.cores.now in
    let is : c.loop-request.lines.items ≡ Ask c.in-Some-Ask.request ∷ c.pop_front.new.self.items = (let i = c.in-Some-Ask.ensures.items in let f = c.in-Some-Ask.field-0-is in cc (i, f)) in
    let named : NameCores cores (Ask c.in-Some-Ask.request ∷ c.pop_front.new.self.items) = subst (NameCores cores) is I.named in
    record {
      shown = λ e h. (let r = I.shown e h in (with_request r.0 c.in-Some-Ask.request, c.in_ok-give-in-Some-Ask.ensures.gave (g.R.Region.state c.loop-request.region) r.0 r.1, ran_ask g.C.Cores.moves with_request cores c.args.lines.items c.loop-request.lines.items c.pop_front.new.self.items c.in-Some-Ask.request e r.0 is r.2, begun_ask c.args.lines.items c.loop-request.lines.items c.pop_front.new.self.items c.in-Some-Ask.request e.engine r.0.engine is r.3));
      cores = c.in_ok-give-in-Some-Ask.ensures.cores ∙ I.cores;
      named = named;
    }

pub loop-request-preserved : goal.loop-request-preserved
loop-request-preserved g c =
    let I = c.loop-request.invariant in
    let cores : ℕ = g.C.Cores.cores c.args.cores.now in
    let is : c.loop-request.lines.items ≡ Go c.in-Some-Go.core c.in-Some-Go.turns ∷ c.pop_front.new.self.items = (let i = c.in-Some-Go.ensures.items in let f = c.in-Some-Go.field-0-is in cc (i, f)) in
    let named : NameCores cores (Go c.in-Some-Go.core c.in-Some-Go.turns ∷ c.pop_front.new.self.items) = subst (NameCores cores) is I.named in
    record {
      shown = λ e h. (let r = I.shown e h in let n = c.in_ok-go-in-Some-Go.ensures.went r.0 r.1 in (n.0, n.1, ran_go g.C.Cores.moves with_request cores c.args.lines.items c.loop-request.lines.items c.pop_front.new.self.items c.in-Some-Go.core c.in-Some-Go.turns e r.0 n.0 is r.2 n.2, begun_go c.args.lines.items c.loop-request.lines.items c.pop_front.new.self.items c.in-Some-Go.core c.in-Some-Go.turns e.engine r.0.engine n.0.engine is r.3 (keeps_goes g.C.Cores.moves g.met.C.Cores.turns r.0.engine c.in-Some-Go.core c.in-Some-Go.turns r.0 n.0 (keeps_all r.0.engine) n.2)));
      cores = c.in_ok-go-in-Some-Go.ensures.cores ∙ I.cores;
      named = named.1;
    }

pub returns-in_err-go-in-Some-Go-clause-failed : goal.returns-in_err-go-in-Some-Go-clause-failed
returns-in_err-go-in-Some-Go-clause-failed g c = on_err c.from_residual-in_err-go-in-Some-Go.result (λ e h. let r = c.loop-request.invariant.shown e h in let f = c.in_err-go-in-Some-Go.ensures.failed r.0 r.1 in (f.0, f.1, ends_in _ c.args.lines.items c.loop-request.lines.items e.engine r.0.engine f.0 r.3 f.2))

pub returns-in_err-give-in-Some-Ask-clause-failed : goal.returns-in_err-give-in-Some-Ask-clause-failed
returns-in_err-give-in-Some-Ask-clause-failed g c = on_err c.from_residual.result (λ e h.
    let s = g.R.Region.state c.loop-request.region in
    let r = c.loop-request.invariant.shown e h in
    let k = g.met.C.Cores.awake s c.give.new.self r.0 (c.in_err-give-in-Some-Ask.ensures.kept s r.0 r.1) in
    (r.0.engine, k, ends_here s c.args.lines.items c.loop-request.lines.items e.engine r.0.engine r.3 (g.met.C.Cores.placed s c.give.new.self r.0.engine k)))
