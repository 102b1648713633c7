-- The first state stands, and so does a state to which a request is given.
use Rattle.std.proofs.Common.{◌≡◌, inl, inr, ℕ, ◌/◌, ◌<◌, ◌≤◌, ◌==◌, List, [], ◌∷◌, ◌++◌, map, length, refl, sym, ◌∙◌, ap, subst, arith, true, false, Bool, cond, None, append_assoc, append-nil, length-append}
use Rattle.std.specs.List.{AllByRecursion}
use Rattle.std.proofs.lemmas.Bool.{cases_eq, eq-eqb, ne_eqb}
use Rattle.std.proofs.lemmas.List.Elements.{filter-append}
use Rattle.fs_model.specs.declared.model.Request.{Request}
use Rattle.fs_model.specs.Cells.{key_of}
use Rattle.fs_model.specs.Changes.{requests_of}
use Rattle.pm_region.specs.State.{IsTold, IsTelling, MayLeave, cell_now}
use Rattle.pm_region.specs.Cell.{Cell}
use Rattle.pm_region.specs.Words.{Surely}
use Rattle.pm_region.proofs.Clients.{started}
use Rattle.chunk_map.specs.Layouts.{layout_of, owner}
use Rattle.store_image.specs.Soundness.{IsSound}
use Rattle.store_image.proofs.Clients.{has_layout}
use Rattle.headline.proofs.Clients.{requests-append}
use Rattle.headline.specs.Limits.{version_of}
use Rattle.engine_laws.specs.RefusalCauses.{HaveCauses, raised_by}
use Rattle.engine_laws.specs.Engine.{Engine, group_for, line}
use Rattle.engine_laws.specs.WorkerMoves.{requests_for}
use Rattle.engine_laws.specs.Keys.{Served, pairs, KeyStands}
use Rattle.engine_laws.specs.Stands.{Origin, start_of, ShowsPrefix, Stands, given_to, opening}
use Rattle.engine_laws.proofs.RoomsKept.{rooms_opened, rooms_given}
use Rattle.engine_laws.proofs.Numbers.{all_append}
use Rattle.engine_laws.proofs.Histories.{nothing}
use Rattle.engine_laws.proofs.Opens.{opens_lawful, opens_licensed, opens_superblock, opens_cells, opens_idle, opens_own, opens_last}
use Rattle.engine_laws.proofs.Licences.{shows_groups}
use Rattle.engine_laws.proofs.Stands.{shows_key}

module _ (o : Origin) (sound : IsSound o.region.frame.bytes o.found) (first : o.region.frame.first ≡ 0) (words : o.region.frame.words ≡ o.region.frame.bytes / 8)
    (certain : IsTelling o.region → (w : ℕ) → w < o.region.frame.bytes / 8 → Surely (cell_now o.region w) (o.found w)) where
  abbrev e : Engine
  e = opening o

  opens_key : (k : ℕ) → KeyStands (start_of o k) e k
  opens_key k = record {
    served = [];
    split = refl;
    answers = tt;
    waiting = tt;
    stamps = tt;
    history = nothing (start_of o k);
    cell = sym (opens_cells o.region.frame.bytes o.found sound k);
    halted = λ q. absurd (cc q);
    holds = record { posted = λ x at posted. absurd (cc at); pending = λ p is. absurd (let none = opens_idle o.region.frame.bytes o.found sound k in let both = sym none ∙ is in cc both) };
    pending = λ p is. absurd (let none = opens_idle o.region.frame.bytes o.found sound k in let both = sym none ∙ is in cc both);
  }

  opens_crash : (t : ℕ) → IsTold o.region t → o.region.stamp ≤ t → (image : ℕ → ℕ) → MayLeave o.region.frame (o.region.cells t) image → ShowsPrefix o e opens_key t image
  unfolding opens_key
  opens_crash t told from image may =
      let now : t ≡ o.region.stamp = (let seen = told.seen in omega (arith, seen, from)) in
      let telling : IsTelling o.region = subst (λ (n : ℕ). IsTold o.region n) now told in
      let same : o.region.cells t ≡ cell_now o.region = ap o.region.cells now in
      let is = shows_groups o.region.frame.bytes o.found o.region.frame e.group (cell_now o.region) image (has_layout o.region.frame.bytes o.found sound) first words (opens_lawful o.region.frame.bytes o.found sound)
      (opens_superblock o.region.frame.bytes o.found sound (cell_now o.region) (certain telling)) (opens_licensed o.region.frame.bytes o.found sound (cell_now o.region) (certain telling)) (subst (λ (m : ℕ → Cell). MayLeave o.region.frame m image) same may) in
      record { sound = is.sound; layout = is.layout; cells = λ k. shows_key (start_of o k) e k t o.region.frame.bytes image (opens_key k) (none_late k) is } where
        none_late : (k : ℕ) → AllByRecursion (λ (x : Served). x.answer.stamp ≤ t) (opens_key k).served
        none_late k = tt

  opens_causes : (k : ℕ) → HaveCauses (layout_of o.found) (version_of o.found k) (pairs (opens_key k).served)
  unfolding opens_key
  opens_causes k = tt

  opens_versions : (k : ℕ) → (group_for e k).last k ≤ raised_by (version_of o.found k) (pairs (opens_key k).served)
  unfolding opens_key
  opens_versions k = let same = opens_last o.found k (opens_own o.region.frame.bytes o.found sound k) in omega (arith, same)

  pub opens : Stands o e
  opens = record {
    sound = sound;
    first = first;
    words = words;
    layout = refl;
    groups = opens_lawful o.region.frame.bytes o.found sound;
    run = started o.region (λ cells. Unit) (λ t. tt);
    superblock = λ telling. opens_superblock o.region.frame.bytes o.found sound (cell_now o.region) (certain telling);
    licensed = λ telling. opens_licensed o.region.frame.bytes o.found sound (cell_now o.region) (certain telling);
    keys = opens_key;
    unasked = λ n past. refl;
    crash = opens_crash;
    causes = opens_causes;
    versions = opens_versions;
    rooms = rooms_opened o;
    stopped = λ c low stop. absurd (cc stop);
    broken = λ c low b. b;
  }

module _ (o : Origin) (e : Engine) (q : Request) (S : Stands o e) where
  abbrev f : Engine
  f = given_to e q

  abbrev n : ℕ
  n = length e.given

  one : ℕ → List (ℕ × Request)
  one k = cond (key_of q == k) ((n, q) ∷ []) []

  given_more : (k : ℕ) → requests_of k f.given ≡ requests_of k e.given ++ cond (key_of q == k) ((n, q) ∷ []) []
  given_more k = requests-append k e.given (q ∷ [])

  backlog_more : (k : ℕ) → requests_for k (f.backlog (owner e.layout k)) ≡ requests_for k (e.backlog (owner e.layout k)) ++ cond (key_of q == k) ((n, q) ∷ []) []
  backlog_more k = elim (cases_eq (owner e.layout k) (owner e.layout (key_of q))) [
    | inl same ↦
        ap (λ (b : Bool). requests_for k (cond b (e.backlog (owner e.layout k) ++ (n, q) ∷ []) (e.backlog (owner e.layout k)))) (eq-eqb (owner e.layout k) (owner e.layout (key_of q)) same)
        ∙ filter-append (λ (x : ℕ × Request). key_of x.1 == k) (e.backlog (owner e.layout k)) ((n, q) ∷ [])
    | inr other ↦
        ap (λ (b : Bool). requests_for k (cond b (e.backlog (owner e.layout k) ++ (n, q) ∷ []) (e.backlog (owner e.layout k)))) (ne_eqb (owner e.layout k) (owner e.layout (key_of q)) other)
        ∙ sym (append-nil (requests_for k (e.backlog (owner e.layout k))))
        ∙ ap (λ (b : Bool). requests_for k (e.backlog (owner e.layout k)) ++ cond b ((n, q) ∷ []) []) (sym (ne_eqb (key_of q) k (λ key. other (ap (owner e.layout) (sym key)))))
  ]

  given_key : (k : ℕ) → KeyStands (start_of o k) f k
  given_key k =
      let T = S.keys k in
      let hand : line f k ++ requests_for k (f.backlog (owner e.layout k)) ≡ (line e k ++ requests_for k (e.backlog (owner e.layout k))) ++ cond (key_of q == k) ((n, q) ∷ []) [] =
      ap (λ l. line e k ++ l) (backlog_more k) ∙ sym (append_assoc (line e k) (requests_for k (e.backlog (owner e.layout k))) (cond (key_of q == k) ((n, q) ∷ []) [])) in
      record {
        served = T.served;
        split = given_more k ∙ ap (λ l. l ++ cond (key_of q == k) ((n, q) ∷ []) []) T.split
            ∙ append_assoc (map (λ (x : Served). (x.number, x.request)) T.served) (line e k ++ requests_for k (e.backlog (owner e.layout k))) (cond (key_of q == k) ((n, q) ∷ []) [])
            ∙ ap (λ l. map (λ (x : Served). (x.number, x.request)) T.served ++ l) (sym hand);
        answers = T.answers;
        waiting = subst (AllByRecursion (λ (x : ℕ × Request). e.answer x.0 ≡ None)) (sym hand) (all_append (λ (x : ℕ × Request). e.answer x.0 ≡ None) (line e k ++ requests_for k (e.backlog (owner e.layout k))) (cond (key_of q == k) ((n, q) ∷ []) []) T.waiting (fresh (key_of q == k)));
        stamps = T.stamps;
        history = T.history;
        cell = T.cell;
        halted = T.halted;
        holds = record { posted = T.holds.posted; pending = T.holds.pending };
        pending = T.pending;
      } where
        fresh : (b : Bool) → AllByRecursion (λ (x : ℕ × Request). e.answer x.0 ≡ None) (cond b ((n, q) ∷ []) [])
        fresh true = (S.unasked n (omega arith), tt)
        fresh false = tt

  given_crash : (t : ℕ) → IsTold e.region t → o.region.stamp ≤ t → (image : ℕ → ℕ) → MayLeave o.region.frame (e.region.cells t) image → ShowsPrefix o f given_key t image
  unfolding given_key
  given_crash t told from image may = let is = S.crash t told from image may in record { sound = is.sound; layout = is.layout; cells = is.cells }

  given_causes : (k : ℕ) → HaveCauses (layout_of o.found) (version_of o.found k) (pairs (given_key k).served)
  unfolding given_key
  given_causes k = S.causes k

  given_versions : (k : ℕ) → (group_for f k).last k ≤ raised_by (version_of o.found k) (pairs (given_key k).served)
  unfolding given_key
  given_versions k = S.versions k

  pub gives : Stands o f
  gives = record {
    sound = S.sound;
    first = S.first;
    words = S.words;
    layout = S.layout;
    groups = S.groups;
    run = S.run;
    superblock = S.superblock;
    licensed = S.licensed;
    keys = given_key;
    unasked = λ m past. S.unasked m (let long = length-append e.given (q ∷ []) in omega (arith, long, past));
    crash = given_crash;
    causes = given_causes;
    versions = given_versions;
    rooms = rooms_given o e q S S.rooms;
    stopped = S.stopped;
    broken = S.broken;
  }
