-- What moves keep, also where they end for want of memory.
use Rattle.std.proofs.Common.{◌+◌, ◌<◌, true, false, cond, ⊎_elim, arith, ◌≡◌, ◌∙◌, sym, ap, subst, append_assoc, ℕ, List, [], ◌∷◌, ◌++◌, Bool, refl}
use Rattle.pm_region.specs.State.{State}
use Rattle.engine_laws.specs.Engine.{Engine}
use Rattle.engine_laws.specs.Ran.{Goes, Ran, asked_in}
use Rattle.engine_laws.specs.Stands.{given_to}
use Rattle.engine_laws.specs.Promises.{AnyMove, AnyTurn}
use Rattle.group_engine.specs.Runs.{RunState}
use Rattle.group_engine.specs.Passes.{Settles, Passes, Keeps, Ends, Begun, EndsIn, RanSoFar, Ceases, CeasesSoFar, CeasePasses, CeasesOut, CeasesIn}
use Rattle.std.proofs.lemmas.Bool.{cases_lt}
use Rattle.engine_laws.specs.Ceasing.{IsResting, Halts}
use Rattle.engine_laws.proofs.Clients.{stays_resting, stands_on, until, pass, goes, gives as begins_gives}
use Rattle.fs_model.specs.declared.model.Request.{Request}
use Rattle.fs_text.specs.declared.line.Line.{Line}
use Rattle.fs_text.specs.declared.line.Line.TheVariants.{Ask, Go}

pub keeps_all : (e : Engine) → Keeps e e
keeps_all e = record { given = refl; stands = λ o S. S }

pub keeps_on : (e now next : Engine) → Keeps e now → Keeps now next → Keeps e next
keeps_on e now next K L = record { given = L.given ∙ K.given; stands = λ o S. L.stands o (K.stands o S) }

pub keeps_any : (e f : Engine) (c : ℕ) (b : Bool) → AnyMove e c b f → Keeps e f
keeps_any e f c b m = record { given = m.2.given; stands = λ o S. stands_on o e f c m.0 m.1 S m.2 }

pub keeps_move : (e now next : Engine) (c : ℕ) (b : Bool) → Keeps e now → AnyTurn now c b next → Keeps e next
keeps_move e now next c b K m = keeps_on e now next K (keeps_any now next c b m.0)

-- along moves of a run, which are moves of the engine's states
module _ {W : Type 0} (Move : RunState W → ℕ → Bool → RunState W → Type 0) (turns : (e f : RunState W) (c : ℕ) (b : Bool) → Move e c b f → AnyTurn e.engine c b f.engine) (e : Engine) where
  on : (a : RunState W) (c : ℕ) (b : Bool) (z : RunState W) → Keeps e a.engine → Move a c b z → Keeps e z.engine
  on a c b z K m = keeps_move e a.engine z.engine c b K (turns a z c b m)

  pub keeps_settles : (now next : RunState W) (c : ℕ) (b : Bool) → Keeps e now.engine → Settles Move c b now next → Keeps e next.engine
  keeps_settles now next c b K S = until Move (λ x. Keeps e x.engine) on c S.0 now next K S.2

  pub keeps_passes : (cores : ℕ) (now next : RunState W) (b : Bool) → Keeps e now.engine → Passes Move cores b now next → Keeps e next.engine
  keeps_passes cores now next b K P = pass Move (λ x. Keeps e x.engine) on 0 cores P.0 now next K P.2

  pub keeps_goes : (c count : ℕ) (now next : RunState W) → Keeps e now.engine → Goes Move c count now next → Keeps e next.engine
  keeps_goes c count now next K G = goes Move (λ x. Keeps e x.engine) on c count now next K G

pub ends_on : (t : State) (e now f : Engine) → Keeps e now → Ends t now f → Ends t e f
ends_on t e now f K E = record { region = E.region; keeps = keeps_on e now f K E.keeps }

pub begun_ask : (ls rest now_rest : List Line) (q : Request) (e now : Engine) → rest ≡ Ask q ∷ now_rest → Begun ls rest e now → Begun ls now_rest e (given_to now q)
begun_ask ls rest more q e now is B = record {
  stands = λ o S. begins_gives o now q (B.stands o S);
  given = B.given ∙ ap (λ (zs : List Line). now.given ++ asked_in zs) is ∙ sym (append_assoc now.given (q ∷ []) (asked_in more));
}

pub begun_go : (ls rest now_rest : List Line) (c turns : ℕ) (e now next : Engine) → rest ≡ Go c turns ∷ now_rest → Begun ls rest e now → Keeps now next → Begun ls now_rest e next
begun_go ls rest more c turns e now next is B K = record {
  stands = λ o S. K.stands o (B.stands o S);
  given = B.given ∙ ap (λ (zs : List Line). now.given ++ asked_in zs) is ∙ ap (λ xs. xs ++ asked_in more) (sym K.given);
}

pub ends_in : (t : State) (ls rest : List Line) (e now f : Engine) → Begun ls rest e now → Ends t now f → EndsIn t ls e f
ends_in t ls rest e now f B E = record { region = E.region; stands = λ o S. E.keeps.stands o (B.stands o S); given = (asked_in rest, B.given ∙ ap (λ xs. xs ++ asked_in rest) (sym E.keeps.given)) }

-- where a request could not be given
pub ends_here : (t : State) (ls rest : List Line) (e now : Engine) → Begun ls rest e now → now.region ≡ t → EndsIn t ls e now
ends_here t ls rest e now B at = record { region = at; stands = B.stands; given = (asked_in rest, B.given) }

module _ {S : Type 0} (Move : S → ℕ → Bool → S → Type 0) (gives : S → Request → S) (cores : ℕ) (ls rest more : List Line) where
  pub ran_ask : (q : Request) (e now : S) → rest ≡ Ask q ∷ more → RanSoFar Move gives cores ls rest e now → RanSoFar Move gives cores ls more e (gives now q)
  ran_ask q e now is S = λ f r. S f (subst (λ (zs : List Line). Ran Move gives cores zs now f) (sym is) r)

  pub ran_go : (c turns : ℕ) (e now next : S) → rest ≡ Go c turns ∷ more → RanSoFar Move gives cores ls rest e now → Goes Move c turns now next → RanSoFar Move gives cores ls more e next
  ran_go c turns e now next is S G = λ f r. S f (subst (λ (zs : List Line). Ran Move gives cores zs now f) (sym is) (next, G, r))

-- while all wind down
pub ends_first : (t : State) (e : Engine) → e.region ≡ t → Ends t e e
ends_first t e at = record { region = at; keeps = keeps_all e }

pub ends_then : (s t : State) (e now next : Engine) → Ends s e now → Ends t now next → Ends t e next
ends_then s t e now next E F = record { region = F.region; keeps = keeps_on e now next E.keeps F.keeps }

pub ceases_first : (t : State) (e : Engine) → e.region ≡ t → CeasesSoFar t false e e
ceases_first t e at = record { ends = ends_first t e at; same = λ q. refl }

pub ceases_more : (s t : State) (b d : Bool) (c : ℕ) (e now next : Engine) → CeasesSoFar s b e now → Ceases t d c now next → CeasesSoFar t true e next
ceases_more s t b d c e now next S N = record { ends = ends_then s t e now next S.ends N.ends; same = λ q. absurd (cc q) }

pub ceases_last : (s t : State) (b : Bool) (c : ℕ) (e now next : Engine) → CeasesSoFar s b e now → Ceases t false c now next → Ceases t b c e next
ceases_last s t b c e now next S N = record { ends = ends_then s t e now next S.ends N.ends; halts = λ off. subst (λ (x : Engine). Halts x next c) (S.same off) (N.halts refl) }

pub cease_none : (t : State) (e : Engine) → e.region ≡ t → CeasePasses t 0 false e e
cease_none t e at = record { ends = ends_first t e at; rest = λ off c low. absurd (omega (arith, low)) }

pub cease_one : (s t : State) (at : ℕ) (a b m : Bool) (e now next : Engine) → CeasePasses s at a e now → Ceases t b at now next → cond b true a ≡ m → CeasePasses t (at + 1) m e next
cease_one s t at a b m e now next S N is = record {
  ends = ends_then s t e now next S.ends N.ends;
  rest = λ off c low. by b refl a refl off c low;
} where
  by : (d : Bool) → b ≡ d → (z : Bool) → a ≡ z → m ≡ false → (c : ℕ) → c < at + 1 → IsResting next c
  by true q z r off c low = absurd (let on : true ≡ m = sym (ap (λ x. cond x true a) q) ∙ is in let both : true ≡ false = on ∙ off in cc both)
  by false q true r off c low = absurd (let on : true ≡ m = sym (ap (λ x. cond x true a) q ∙ r) ∙ is in let both : true ≡ false = on ∙ off in cc both)
  by false q false r off c low = ⊎_elim
      (λ below. stays_resting now next at c (N.halts q) (S.rest r c below))
      (λ above. let same : at ≡ c = omega (arith, low, above) in subst (IsResting next) same (N.halts q).rests)
      (cases_lt c at)

pub ceased_out : (s t : State) (cores : ℕ) (e now next : Engine) → Ends s e now → CeasePasses t cores false now next → CeasesOut t cores e next
ceased_out s t cores e now next E P = record { ends = ends_then s t e now next E P.ends; rest = P.rest refl }

-- a run that found no memory, and then ceased
pub ceases_in : (s t : State) (cores : ℕ) (ls : List Line) (e now mid next : Engine) → EndsIn s ls e now → Ends s now mid → CeasesOut t cores mid next → CeasesIn t cores ls e next
ceases_in s t cores ls e now mid next E W C = record {
  ends = record {
    region = C.ends.region;
    stands = λ o S. C.ends.keeps.stands o (W.keeps.stands o (E.stands o S));
    given = (E.given.0, E.given.1 ∙ ap (λ xs. xs ++ E.given.0) (sym (C.ends.keeps.given ∙ W.keeps.given)));
  };
  rest = C.rest;
}
