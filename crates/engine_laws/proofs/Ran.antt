-- What each move and each request keep, a run keeps.
use Rattle.std.proofs.Common.{◌≡◌, ℕ, zero, suc, ◌+◌, List, [], ◌∷◌, ◌++◌, Bool, true, false, refl, sym, ◌∙◌, ap, subst, append_assoc, append-nil}
use Rattle.fs_model.specs.declared.model.Request.{Request}
use Rattle.fs_text.specs.declared.line.Line.{Line}
use Rattle.fs_text.specs.declared.line.Line.TheVariants.{Ask, Go}
use Rattle.engine_laws.specs.Engine.{Engine}
use Rattle.engine_laws.specs.WorkerMoves.{Fixed}
use Rattle.engine_laws.specs.Moves.{Moves}
use Rattle.engine_laws.specs.Stands.{Origin, Stands, given_to}
use Rattle.engine_laws.specs.Ran.{Goes, Until, Pass, Drains, Ran, asked_in}
use Rattle.engine_laws.proofs.Stands.{stands_on}
use Rattle.engine_laws.proofs.Begins.{gives}

module _ {S : Type 0} (Move : S → ℕ → Bool → S → Type 0) (P : S → Type 0) (moves : (e : S) (c : ℕ) (b : Bool) (f : S) → P e → Move e c b f → P f) where
  pub goes : (c n : ℕ) (e f : S) → P e → Goes Move c n e f → P f
  goes c zero e f p r = subst P (sym r) p
  goes c (suc n) e f p r = goes c n r.1 f (moves e c r.0 r.1 p r.2) r.3

  pub until : (c n : ℕ) (e f : S) → P e → Until Move c n e f → P f
  until c zero e f p r = moves e c false f p r
  until c (suc n) e f p r = until c n r.0 f (moves e c true r.0 p r.1) r.2

  pub pass : (c cores moved : ℕ) (e f : S) → P e → Pass Move c cores moved e f → P f
  pass c zero moved e f p r = subst P (sym r.1) p
  pass c (suc cores) moved e f p r = pass (c + 1) cores r.1 r.3 f (until c r.0 e r.3 p r.4) r.5

  pub drains : (cores passes : ℕ) (e f : S) → P e → Drains Move cores passes e f → P f
  drains cores zero e f p r = pass 0 cores 0 e f p r
  drains cores (suc passes) e f p r = drains cores passes r.2 f (pass 0 cores r.0 e r.2 p r.3) r.4

  pub ran : (give : S → Request → S) → ((e : S) (q : Request) → P e → P (give e q)) → (cores : ℕ) (ls : List Line) (e f : S) → P e → Ran Move give cores ls e f → P f
  ran give asks cores [] e f p r = drains cores r.0 e f p r.1
  ran give asks cores (Ask q ∷ ls) e f p r = ran give asks cores ls (give e q) f (asks e q p) r
  ran give asks cores (Go c turns ∷ ls) e f p r = ran give asks cores ls r.0 f (goes c turns e r.0 p r.1) r.2

-- A run whose states say more is one of what they say less: along a view of its states, whose moves and requests are those of the other run.
module _ {S T : Type 0} (view : S → T) (Move : S → ℕ → Bool → S → Type 0) (Seen : T → ℕ → Bool → T → Type 0) (shows : (e : S) (c : ℕ) (b : Bool) (f : S) → Move e c b f → Seen (view e) c b (view f)) where
  pub goes_seen : (c n : ℕ) (e f : S) → Goes Move c n e f → Goes Seen c n (view e) (view f)
  goes_seen c zero e f r = ap view r
  goes_seen c (suc n) e f r = (r.0, view r.1, shows e c r.0 r.1 r.2, goes_seen c n r.1 f r.3)

  pub until_seen : (c n : ℕ) (e f : S) → Until Move c n e f → Until Seen c n (view e) (view f)
  until_seen c zero e f r = shows e c false f r
  until_seen c (suc n) e f r = (view r.0, shows e c true r.0 r.1, until_seen c n r.0 f r.2)

  pub pass_seen : (c cores moved : ℕ) (e f : S) → Pass Move c cores moved e f → Pass Seen c cores moved (view e) (view f)
  pass_seen c zero moved e f r = (r.0, ap view r.1)
  pass_seen c (suc cores) moved e f r = (r.0, r.1, r.2, view r.3, until_seen c r.0 e r.3 r.4, pass_seen (c + 1) cores r.1 r.3 f r.5)

  pub drains_seen : (cores passes : ℕ) (e f : S) → Drains Move cores passes e f → Drains Seen cores passes (view e) (view f)
  drains_seen cores zero e f r = pass_seen 0 cores 0 e f r
  drains_seen cores (suc passes) e f r = (r.0, r.1, view r.2, pass_seen 0 cores r.0 e r.2 r.3, drains_seen cores passes r.2 f r.4)

  pub ran_seen : (give : S → Request → S) (give_seen : T → Request → T) → ((e : S) (q : Request) → view (give e q) ≡ give_seen (view e) q) → (cores : ℕ) (ls : List Line) (e f : S) → Ran Move give cores ls e f → Ran Seen give_seen cores ls (view e) (view f)
  ran_seen give give_seen same cores [] e f r = (r.0, drains_seen cores r.0 e f r.1)
  ran_seen give give_seen same cores (Ask q ∷ ls) e f r = subst (λ x. Ran Seen give_seen cores ls x (view f)) (same e q) (ran_seen give give_seen same cores ls (give e q) f r)
  ran_seen give give_seen same cores (Go c turns ∷ ls) e f r = (view r.0, goes_seen c turns e r.0 r.1, ran_seen give give_seen same cores ls r.0 f r.2)

-- A relation whose moves deliver their facts.
abbrev pub Delivers : (Engine → ℕ → Bool → Engine → Type 0) → Type 0
Delivers Move = (e f : Engine) (c : ℕ) (b : Bool) → Move e c b f → (accepted : List (ℕ × Request)) × (fixed : List Fixed) × Moves e f c accepted fixed

pub ran_stands : (Move : Engine → ℕ → Bool → Engine → Type 0) → Delivers Move → (o : Origin) (cores : ℕ) (ls : List Line) (e f : Engine) → Stands o e → Ran Move given_to cores ls e f → Stands o f
ran_stands Move delivers o cores ls e f S r = ran Move (Stands o) (λ e c b f S m. (let d = delivers e f c b m in stands_on o e f c d.0 d.1 S d.2)) given_to (λ e q S. gives o e q S) cores ls e f S r

-- the requests given so far
abbrev Given : List Request → Engine → Type 0
Given qs e = e.given ≡ qs

keeps_given : (Move : Engine → ℕ → Bool → Engine → Type 0) → Delivers Move → (qs : List Request) (e : Engine) (c : ℕ) (b : Bool) (f : Engine) → Given qs e → Move e c b f → Given qs f
keeps_given Move delivers qs e c b f p m = (delivers e f c b m).2.given ∙ p

pub ran_given : (Move : Engine → ℕ → Bool → Engine → Type 0) → Delivers Move → (cores : ℕ) (ls : List Line) (e f : Engine) → Ran Move given_to cores ls e f → f.given ≡ e.given ++ asked_in ls
ran_given Move delivers cores [] e f r = drains Move (Given e.given) (keeps_given Move delivers e.given) cores r.0 e f refl r.1 ∙ sym (append-nil e.given)
ran_given Move delivers cores (Ask q ∷ ls) e f r = ran_given Move delivers cores ls (given_to e q) f r ∙ append_assoc e.given (q ∷ []) (asked_in ls)
ran_given Move delivers cores (Go c turns ∷ ls) e f r = ran_given Move delivers cores ls r.0 f r.2 ∙ ap (λ l. l ++ asked_in ls) (goes Move (Given e.given) (keeps_given Move delivers e.given) c turns e r.0 refl r.1)
