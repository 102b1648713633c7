-- A step of the laws, as a step of the data.
use Rattle.std.proofs.Common.{◌≡◌, Bool, true, false, Result, Ok, Err, Option, Some, None, refl, sym, subst}
use Rattle.std.specs.Option.{is_some}
use Rattle.std.specs.Prelude.{IfOk}
use Rattle.group_laws.specs.State.{Group}
use Rattle.group_laws.specs.Runs.{IsStep, Kind as Law}
use Rattle.group_machine.specs.declared.kinds.Kind.{Kind}
use Rattle.group_machine.specs.declared.kinds.MemberStep.{MemberStep}
use Rattle.group_machine.specs.declared.state.GroupState.{GroupState}
use Rattle.group_machine.specs.Shows.{group_of}
use Rattle.group_machine.specs.Makes.{Makes}
use Rattle.group_machine.specs.Steps.{IsMade, MakesStep}

pub along : {E : Type 0} (r : Result Bool E) (P Q : Bool → Type 0) → ((b : Bool) → P b → Q b) → IfOk r P → IfOk r Q
along (Ok b) P Q f p = f b p
along (Err e) P Q f p = p

-- where the law's step is the step of the data
pub as_data : (g h : GroupState) (s : MemberStep) (law : Law) → ((u : Group) → IsStep (group_of g) s.member law u → IsMade (group_of g) s.member s.kind u) → ((u : Group) → IsMade (group_of g) s.member s.kind u → IsStep (group_of g) s.member law u)
    → (made : Bool) → Makes made g s.member law h → MakesStep made g s h
as_data g h s law to from true p = to (group_of h) p
as_data g h s law to from false p = (p.0, λ u q. p.1 u (from u q))

pub as_kind : {E : Type 0} (r : Result Bool E) (g h : GroupState) (s : MemberStep) (law : Law) (kind : Kind) → s.kind ≡ kind → ((u : Group) → IsStep (group_of g) s.member law u → IsMade (group_of g) s.member kind u) → ((u : Group) → IsMade (group_of g) s.member kind u → IsStep (group_of g) s.member law u)
    → IfOk r (λ made. Makes made g s.member law h) → IfOk r (λ made. MakesStep made g s h)
as_kind r g h s law kind is to from p =
    along r (λ made. Makes made g s.member law h) (λ made. MakesStep made g s h)
    (as_data g h s law (λ u q. subst (λ (k : Kind). IsMade (group_of g) s.member k u) (sym is) (to u q)) (λ u q. from u (subst (λ (k : Kind). IsMade (group_of g) s.member k u) is q))) p

-- the same step under another record of it
pub same_step : {E : Type 0} (r : Result Bool E) (g h : GroupState) (s : MemberStep) (kind : Kind) → s.kind ≡ kind → IfOk r (λ made. MakesStep made g (record { member = s.member; kind = kind }) h) → IfOk r (λ made. MakesStep made g s h)
same_step r g h s kind is p = subst (λ (k : Kind). IfOk r (λ made. MakesStep made g (record { member = s.member; kind = k }) h)) (sym is) p

pub not_some : {X : Type 0} (o : Option X) → is_some o ≡ false → o ≡ None
not_some None e = refl
not_some (Some x) e = cc e
