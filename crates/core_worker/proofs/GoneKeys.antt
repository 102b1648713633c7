-- What a core's index has of its keys once names are gone and keys forgotten is what its view has then.
use Rattle.std.proofs.Common.{◌≡◌, ◌≢◌, inl, inr, ⊎_elim, ℕ, suc, ◌+◌, ◌==◌, ◌&&◌, ◌||◌, not, eqb, Bool, true, false, cond, List, [], ◌∷◌, length, Option, Some, None, option_map, refl, sym, ◌∙◌, ap, subst, arith}
use Rattle.std.specs.List.{filter}
use Rattle.std.proofs.lemmas.Bool.{eqb-true, eq-eqb, and_parts, and_from, or_cases, or_right}
use Rattle.log_entry.specs.declared.entry.EntryName.{EntryName}
use Rattle.core_index.specs.declared.types.StandingEntry.{StandingEntry}
use Rattle.core_index.specs.Index.{known_at}
use Rattle.core_index.specs.Records.{KeyRecord, is_tombstone, is_empty, is_forgettable, last_of, standing_at, standing_of}
use Rattle.core_index.specs.Slots as slots
use Rattle.group_laws.specs.Updates.{has}
use Rattle.group_laws.specs.Places.{Place, core_of, owner}
use Rattle.group_laws.specs.MemberViews.{View}
use Rattle.group_board.specs.Views.{IsDeadIn, IsSpentIn, TellsItselfIn, IsTidyIn}
use Rattle.core_worker.specs.declared.types.Place as places
use Rattle.core_worker.specs.KeyTies.{Left, LeftIn, KnowsKey}
use Rattle.log_entry.specs.declared.entry.Body.{Body}
use Rattle.log_entry.specs.declared.entry.Body.TheVariants as bodies
use Rattle.pm_region.specs.Words.{lines_for}
use Rattle.log_entry.specs.declared.entry.Entry.{Entry}
use Rattle.log_entry.specs.Spelling.{words_of, HasSpelling, Fits}
use Rattle.group_board.specs.Conditions.{IsFree}
use Rattle.core_worker.specs.declared.types.Place.TheVariants.{Free, Staged, Posted}
use Rattle.core_worker.specs.OwnPlaces.{place_at, lines_in, own}
use Rattle.core_worker.specs.KeyTies.{Offers, IsPlaced}
use Rattle.core_worker.specs.Hearing.{heard_at, HearsAll}
use Rattle.core_worker.specs.GoneNames.{is_out, lacking, names_key, first_of, restarted_by, is_forgotten, Lacks, Forgets, LosesNames, LosesIn, KnowsAll, LetsNamesGo, SparesPosted}
use Rattle.core_worker.proofs.GoneLaws.{out_by}
use Rattle.core_worker.proofs.Settling.{forget_by}
use Rattle.core_worker.proofs.Tidied.{left_none, present_of, spent_last, tidied_knows}

-- whether a name stands among some
abbrev gone : List EntryName → ℕ → StandingEntry → Bool
gone ns k s = not (has ns k s.version)

abbrev rest_then : List EntryName → ℕ → ℕ → StandingEntry → List StandingEntry → Bool → Option StandingEntry
rest_then ns k n s ss b = standing_at (cond (not b) (s ∷ filter (gone ns k) ss) (filter (gone ns k) ss)) n

lacking_step : (ns : List EntryName) (k n : ℕ) (s : StandingEntry) (ss : List StandingEntry) (b : Bool) → has ns k s.version ≡ b → (c : Bool) → (s.version == n) ≡ c → standing_at (filter (gone ns k) ss) n ≡ cond (has ns k n) None (standing_at ss n)
    → standing_at (filter (gone ns k) (s ∷ ss)) n ≡ cond (has ns k n) None (standing_at (s ∷ ss) n)
lacking_step ns k n s ss true e true f rest =
    let same : has ns k n ≡ true = ap (has ns k) (sym (eqb-true s.version n f)) ∙ e in
    ap (rest_then ns k n s ss) e ∙ rest ∙ ap (λ (b : Bool). cond b None (standing_at ss n)) same ∙ sym (ap (λ (b : Bool). cond b None (standing_at (s ∷ ss) n)) same)
lacking_step ns k n s ss true e false f rest = ap (rest_then ns k n s ss) e ∙ rest ∙ sym (ap (λ (c : Bool). cond (has ns k n) None (cond c (Some s) (standing_at ss n))) f)
lacking_step ns k n s ss false e true f rest =
    let same : has ns k n ≡ false = ap (has ns k) (sym (eqb-true s.version n f)) ∙ e in
    ap (rest_then ns k n s ss) e ∙ ap (λ (c : Bool). cond c (Some s) (standing_at (filter (gone ns k) ss) n)) f ∙ sym ((λ i. cond (same i) None (cond (f i) (Some s) (standing_at ss n))))
lacking_step ns k n s ss false e false f rest = ap (rest_then ns k n s ss) e ∙ ap (λ (c : Bool). cond c (Some s) (standing_at (filter (gone ns k) ss) n)) f ∙ rest ∙ sym (ap (λ (c : Bool). cond (has ns k n) None (cond c (Some s) (standing_at ss n))) f)

-- what stands at a version, without these names
pub at_lacking : (ns : List EntryName) (k n : ℕ) (ss : List StandingEntry) → standing_at (filter (gone ns k) ss) n ≡ cond (has ns k n) None (standing_at ss n)
at_lacking ns k n [] = by (has ns k n) where
  by : (b : Bool) → ◌≡◌ {A = Option StandingEntry} None (cond b None None)
  by true = refl
  by false = refl
at_lacking ns k n (s ∷ ss) = lacking_step ns k n s ss (has ns k s.version) refl (s.version == n) refl (at_lacking ns k n ss)

-- a key of which no name is gone has its record as it was
has_key : (ns : List EntryName) (k v : ℕ) → names_key ns k ≡ false → has ns k v ≡ false
has_key [] k v e = refl
has_key (x ∷ xs) k v e = by (x.key == k) refl (λ rest. has_key xs k v rest) e where
  by : (b : Bool) → (x.key == k) ≡ b → (names_key xs k ≡ false → has xs k v ≡ false) → (x.key == k || names_key xs k) ≡ false → ((eqb x.key k && eqb x.version v) || has xs k v) ≡ false
  by true t again whole = absurd (let no : true ≡ false = sym (ap (λ (b : Bool). b || names_key xs k) t) ∙ whole in cc no)
  by false t again whole = ap (λ (b : Bool). (b && eqb x.version v) || has xs k v) t ∙ again (sym (ap (λ (b : Bool). b || names_key xs k) t) ∙ whole)

key_has : (ns : List EntryName) (k : ℕ) → names_key ns k ≡ true → (v : ℕ) × (has ns k v ≡ true)
key_has [] k e = absurd (cc e)
key_has (x ∷ xs) k e = ⊎_elim
    (λ here. (x.version, ap (λ (b : Bool). b || has xs k x.version) (and_from (eqb x.key k) (eqb x.version x.version) here (eq-eqb x.version x.version refl))))
    (λ more. let rest = key_has xs k more in (rest.0, or_right (eqb x.key k && eqb x.version rest.0) (has xs k rest.0) rest.1))
    (or_cases (x.key == k) (names_key xs k) e)

filter_all : (q : StandingEntry → Bool) (ss : List StandingEntry) → ((s : StandingEntry) → q s ≡ true) → filter q ss ≡ ss
filter_all q [] e = refl
filter_all q (s ∷ ss) e = ap (λ (b : Bool). cond b (s ∷ filter q ss) (filter q ss)) (e s) ∙ ap (λ (ts : List StandingEntry). s ∷ ts) (filter_all q ss e)

lacking_other : (ns : List EntryName) (k : ℕ) → names_key ns k ≡ false → (o : Option KeyRecord) → option_map (lacking ns k) o ≡ o
lacking_other ns k e None = refl
lacking_other ns k e (Some r) = ap (λ (ss : List StandingEntry). Some (record { version = r.version; body = r.body; standing = ss })) (filter_all (gone ns k) r.standing (λ s. ap not (has_key ns k s.version e)))

pub lacking_last : (ns : List EntryName) (k : ℕ) (o : Option KeyRecord) → last_of (option_map (lacking ns k) o) ≡ last_of o
lacking_last ns k None = refl
lacking_last ns k (Some r) = refl

pub lacking_at : (ns : List EntryName) (k n : ℕ) (o : Option KeyRecord) → standing_at (standing_of (option_map (lacking ns k) o)) n ≡ cond (has ns k n) None (standing_at (standing_of o) n)
lacking_at ns k n None = by (has ns k n) where
  by : (b : Bool) → ◌≡◌ {A = Option StandingEntry} None (cond b None None)
  by true = refl
  by false = refl
lacking_at ns k n (Some r) = at_lacking ns k n r.standing

-- what the last change left
left_same : (v u : View) (k : ℕ) (b : Body) (c : Option (List ℕ)) → u.blocks ≡ v.blocks → Left v k b c → Left u k b c
left_same v u k (bodies.Pointer q) c e l = (l.0, l.1, ap (λ (f : ℕ → _). f q) e ∙ l.2)
left_same v u k (bodies.Embedded y) c e l = l
left_same v u k bodies.Tombstone c e l = l

lacking_left : (ns : List EntryName) (v u : View) (k : ℕ) (o : Option KeyRecord) (c : Option (List ℕ)) → u.blocks ≡ v.blocks → LeftIn v k o c → LeftIn u k (option_map (lacking ns k) o) c
lacking_left ns v u k None c e l = l
lacking_left ns v u k (Some r) c e l = left_same v u k r.body c e l

-- a record that is to be forgotten says that nothing is left
module _ (p : Place) (m : ℕ) (v : View) (k : ℕ) (o : Option KeyRecord) (K : KnowsKey p v k o) (f : is_forgettable o ≡ true) where
  none_at : (x : Option KeyRecord) → is_forgettable x ≡ true → (n : ℕ) → standing_at (standing_of x) n ≡ None
  none_at None g n = refl
  none_at (Some r) g n = by r.standing (and_parts (is_tombstone r.body) (is_empty r.standing) g).1 where
    by : (ss : List StandingEntry) → is_empty ss ≡ true → standing_at ss n ≡ None
    by [] e = refl
    by (s ∷ ss) e = absurd (cc e)

  pub cell_gone : v.cell k ≡ None
  cell_gone = by o f K.cell where
    by : (x : Option KeyRecord) → is_forgettable x ≡ true → LeftIn v k x (v.cell k) → v.cell k ≡ None
    by None g l = absurd (cc g)
    by (Some r) g l = left_none v k r.body (and_parts (is_tombstone r.body) (is_empty r.standing) g).0 l

  pub none_present : (n : ℕ) → v.present k n ≡ None
  none_present n = by (v.present k n) refl where
    by : (x : Option ℕ) → v.present k n ≡ x → x ≡ None
    by None e = refl
    by (Some h) e = absurd (let s = present_of p m v k o K n h e in let both : None ≡ Some s.0 = sym (none_at o f n) ∙ s.1 in cc both)

module _ (p : Place) (m : ℕ) (v v' : View) (ns : List EntryName) (L : LosesIn p m ns v v') (last : ℕ → ℕ) (told dead : ℕ → ℕ → Bool) (T : IsTidyIn p m v' last told dead)
    (ps qs : List places.Place) (es mid new : List (ℕ × slots.Place)) (X : Lacks ns es mid) (F : Forgets ns ps qs mid new)
    (knows : (k : ℕ) → owner p k ≡ m → KnowsKey p v k (known_at es k))
    (quiet : (k : ℕ) → owner p k ≡ m → v.pending k ≡ None → is_out ps k ≡ false)
    (posted : (k : ℕ) → owner p k ≡ m → is_out ps k ≡ false → v.pending k ≡ None)
    (remembers : (k : ℕ) → owner p k ≡ m → v.pending k ≡ None → is_forgettable (known_at es k) ≡ false) where
  -- the view once its keys are forgotten, before own dead names are told
  abbrev pub settled : View
  settled = record v' { last = last }

  knows_mid : (k : ℕ) → owner p k ≡ m → KnowsKey p v' k (known_at mid k)
  knows_mid k own = let K = knows k own in subst (KnowsKey p v' k) (sym (X.known k)) (record {
    last = L.last k ∙ K.last ∙ sym (lacking_last ns k (known_at es k));
    cell = subst (LeftIn v' k (option_map (lacking ns k) (known_at es k))) (sym (L.cell k)) (lacking_left ns v v' k (known_at es k) (v.cell k) L.blocks K.cell);
    present = λ n. ap (option_map (core_of p)) (L.present k n own) ∙ by (v.present k n) (standing_at (standing_of (known_at es k)) n) (has ns k n) (K.present n) ∙ sym (ap (option_map (λ (s : StandingEntry). s.home)) (lacking_at ns k n (known_at es k)));
    told = λ n s is. L.told k n own ∙ told_by n s (has ns k n) (sym (lacking_at ns k n (known_at es k)) ∙ is);
  }) where
    by : (x : Option ℕ) (y : Option StandingEntry) (b : Bool) → option_map (core_of p) x ≡ option_map (λ (s : StandingEntry). s.home) y → option_map (core_of p) (cond b None x) ≡ option_map (λ (s : StandingEntry). s.home) (cond b None y)
    by x y true e = refl
    by x y false e = e

    told_by : (n : ℕ) (s : StandingEntry) (b : Bool) → cond b None (standing_at (standing_of (known_at es k)) n) ≡ Some s → cond b false (v.told k n) ≡ s.told
    told_by n s true is = absurd (cc is)
    told_by n s false is = (knows k own).told n s is

  -- a key that is kept has its last version
  forgets_none : (k : ℕ) → owner p k ≡ m → is_forgotten ns ps mid k ≡ false → v'.pending k ≡ None → is_forgettable (known_at mid k) ≡ false
  forgets_none k own kept none = by (is_forgettable (known_at mid k)) refl (names_key ns k) refl where
    still : v.pending k ≡ None
    still = sym (L.pending k) ∙ none

    by : (b : Bool) → is_forgettable (known_at mid k) ≡ b → (c : Bool) → names_key ns k ≡ c → is_forgettable (known_at mid k) ≡ false
    by false e c f = e
    by true e true f = absurd (let whole : is_forgotten ns ps mid k ≡ true = (λ i. f i && (e i && not (quiet k own still i))) in let no : true ≡ false = sym whole ∙ kept in cc no)
    by true e false f = ap is_forgettable (X.known k ∙ lacking_other ns k f (known_at es k)) ∙ remembers k own still

  pub kept_last : (k : ℕ) → owner p k ≡ m → is_forgotten ns ps mid k ≡ false → last k ≡ v'.last k
  kept_last k own kept = ⊎_elim
      (λ x. x.1 ∙ sym (spent_last p m v' k (known_at mid k) (knows_mid k own) (forgets_none k own kept x.0.3) x.0))
      (λ e. e)
      (T.keeps k)

  -- a key that is forgotten is spent
  pub spent_by : (k : ℕ) → owner p k ≡ m → is_forgotten ns ps mid k ≡ true → IsSpentIn p m v' k
  spent_by k own e =
      let both = and_parts (names_key ns k) (is_forgettable (known_at mid k) && not (is_out ps k)) e in
      let more = and_parts (is_forgettable (known_at mid k)) (not (is_out ps k)) both.1 in
      (own, cell_gone p m v' k (known_at mid k) (knows_mid k own) more.0, none_present p m v' k (known_at mid k) (knows_mid k own) more.0, L.pending k ∙ posted k own (off (is_out ps k) more.1))
    where
      off : (b : Bool) → not b ≡ true → b ≡ false
      off true x = absurd (cc x)
      off false x = refl

  -- so the index knows what the view has before own dead names are told
  pub knows_settled : (k : ℕ) → owner p k ≡ m → KnowsKey p settled k (known_at new k)
  knows_settled k own = subst (KnowsKey p settled k) (sym (F.known k)) (by (is_forgotten ns ps mid k) refl) where
    by : (b : Bool) → is_forgotten ns ps mid k ≡ b → KnowsKey p settled k (cond b None (known_at mid k))
    by true e = let spent = spent_by k own e in record {
      last = T.forgets k spent;
      cell = spent.1;
      present = λ n. ap (option_map (core_of p)) (spent.2 n);
      told = λ n s is. absurd (let no : None ≡ Some s = is in cc no);
    }
    by false e = let K = knows_mid k own in record {
      last = kept_last k own e ∙ K.last;
      cell = same_left (known_at mid k) K.cell;
      present = K.present;
      told = K.told;
    } where
      same_left : (o : Option KeyRecord) → LeftIn v' k o (v'.cell k) → LeftIn settled k o (v'.cell k)
      same_left None l = l
      same_left (Some r) l = left_same v' settled k r.body (v'.cell k) refl l

  -- no key without a change under way is to be forgotten any more
  pub remembers_settled : (k : ℕ) → owner p k ≡ m → v'.pending k ≡ None → is_forgettable (known_at new k) ≡ false
  remembers_settled k own none = ap is_forgettable (F.known k) ∙ by (is_forgotten ns ps mid k) refl where
    by : (b : Bool) → is_forgotten ns ps mid k ≡ b → is_forgettable (cond b None (known_at mid k)) ≡ false
    by true e = refl
    by false e = forgets_none k own e none

  -- the two rules on the view with its keys forgotten: the rest is to tell own dead names
  same_dead : (k n : ℕ) (h : ℕ) → v'.present k n ≡ Some h → (IsDeadIn v' k n → IsDeadIn settled k n) × (IsDeadIn settled k n → IsDeadIn v' k n)
  same_dead k n h is = (λ d. over (sym equal) d, λ d. back equal d) where
    equal : last k ≡ v'.last k
    equal = ⊎_elim (λ x. absurd (let no : None ≡ Some h = sym (x.0.2 n) ∙ is in cc no)) (λ e. e) (T.keeps k)

    over : v'.last k ≡ last k → IsDeadIn v' k n → IsDeadIn settled k n
    over e (inl lt) = inl (omega (arith, lt, e))
    over e (inr d) = inr (d.0 ∙ e, d.1, d.2)

    back : last k ≡ v'.last k → IsDeadIn settled k n → IsDeadIn v' k n
    back e (inl lt) = inl (omega (arith, lt, e))
    back e (inr d) = inr (d.0 ∙ e, d.1, d.2)

  tells_over : (k n : ℕ) → TellsItselfIn p m v' k n → TellsItselfIn p m settled k n
  tells_over k n t = (t.0, t.1, (same_dead k n m t.1).0 t.2)

  tells_back : (k n : ℕ) → TellsItselfIn p m settled k n → TellsItselfIn p m v' k n
  tells_back k n t = (t.0, t.1, (same_dead k n m t.1).1 t.2)

  pub tidy_settled : IsTidyIn p m settled last told dead
  tidy_settled = record {
    forgets = T.forgets;
    keeps = λ k. inr refl;
    tells = λ k n. (λ t. ⊎_elim (λ a. inl a) (λ b. inr (tells_over k n b)) ((T.tells k n).0 t), λ x. (T.tells k n).1 (⊎_elim (λ a. inl a) (λ b. inr (tells_back k n b)) x));
    learns = λ k n. (λ t. ⊎_elim (λ a. inl a) (λ b. inr (tells_over k n b)) ((T.learns k n).0 t), λ x. (T.learns k n).1 (⊎_elim (λ a. inl a) (λ b. inr (tells_back k n b)) x));
  }

  pub spent_settled : (k : ℕ) → IsSpentIn p m settled k → settled.last k ≡ 0
  spent_settled k spent = T.forgets k spent

-- a view that is tidied, the index that heard
change_forget : (home : ℕ) (old new : List (ℕ × slots.Place)) → HearsAll home old new → (k : ℕ) → is_forgettable (known_at new k) ≡ is_forgettable (known_at old k)
change_forget home old new A k = forget_by (known_at old k) (known_at new k) (heard_at home (known_at old k)) (A.changes k) (A.standing k)

module _ (p : Place) (m : ℕ) (ns : List EntryName) (v v' u : View) (ps qs : List places.Place) (es ix : List (ℕ × slots.Place)) (Q : KnowsAll p m v ps es) (G : LetsNamesGo p m ns v v' u ps qs es ix) where
  abbrev T : IsTidyIn p m v' G.tidied.0 G.tidied.1 G.tidied.2
  T = G.tidied.3

  abbrev last : ℕ → ℕ
  last = G.tidied.0

  view_is : u ≡ record v' { last = G.tidied.0; told = G.tidied.1; dead = G.tidied.2 }
  view_is = G.tidied.4

  abbrev N : LosesNames ns ps qs es G.mid
  N = G.names

  pending_is : (k : ℕ) → u.pending k ≡ v.pending k
  pending_is k = ap (λ (x : View). x.pending k) view_is ∙ G.loses.pending k

  out_is : (k : ℕ) → is_out qs k ≡ is_out ps k
  out_is k = out_by (is_forgotten ns ps N.mid) ps qs k N.forgets.count N.forgets.places

  pub knows_after : KnowsAll p m u qs ix
  knows_after = record {
    keys = λ k own. subst (λ (x : View). KnowsKey p x k (known_at ix k)) (sym view_is)
        (tidied_knows p m (settled p m v v' ns G.loses last G.tidied.1 G.tidied.2 T ps qs es N.mid G.mid N.lacks N.forgets Q.keys Q.quiet Q.posted Q.remembers) last G.tidied.1 G.tidied.2
        (tidy_settled p m v v' ns G.loses last G.tidied.1 G.tidied.2 T ps qs es N.mid G.mid N.lacks N.forgets Q.keys Q.quiet Q.posted Q.remembers) G.mid ix G.heard k own
        (spent_settled p m v v' ns G.loses last G.tidied.1 G.tidied.2 T ps qs es N.mid G.mid N.lacks N.forgets Q.keys Q.quiet Q.posted Q.remembers k)
        (knows_settled p m v v' ns G.loses last G.tidied.1 G.tidied.2 T ps qs es N.mid G.mid N.lacks N.forgets Q.keys Q.quiet Q.posted Q.remembers k own));
    quiet = λ k own none. out_is k ∙ Q.quiet k own (sym (pending_is k) ∙ none);
    posted = λ k own off. pending_is k ∙ Q.posted k own (sym (out_is k) ∙ off);
    mine = λ k n h is. Q.mine k n h (G.loses.was k n h (sym (ap (λ (x : View). x.present k n) view_is) ∙ is));
    heard = G.heard.none;
    remembers = λ k own none. change_forget (core_of p m) G.mid ix G.heard k
        ∙ remembers_settled p m v v' ns G.loses last G.tidied.1 G.tidied.2 T ps qs es N.mid G.mid N.lacks N.forgets Q.keys Q.quiet Q.posted Q.remembers k own (sym (ap (λ (x : View). x.pending k) view_is) ∙ none);
  }

  -- of other members' keys nothing is known that was not
  pub known_other : (k : ℕ) → owner p k ≢ m → known_at G.mid k ≡ known_at es k
  known_other k ne = N.forgets.known k ∙ ap (λ (b : Bool). cond b None (known_at N.mid k)) (ap (λ (b : Bool). b && (is_forgettable (known_at N.mid k) && not (is_out ps k))) untouched) ∙ N.lacks.known k ∙ lacking_other ns k untouched (known_at es k) where
    untouched : names_key ns k ≡ false
    untouched = by (names_key ns k) refl where
      by : (b : Bool) → names_key ns k ≡ b → b ≡ false
      by false e = refl
      by true e = absurd (let x = key_has ns k e in ne (G.loses.own k x.0 x.1))

  -- a first change is spelled in as many words, and has a spelling where it is a put
  first_spelled : (e : Entry) → HasSpelling e → (e.body ≡ bodies.Tombstone → ⊥) → HasSpelling (first_of e)
  first_spelled e h never = record { key = h.key; fits = by e.body h.fits never } where
    by : (b : Body) → Fits e.version b → (b ≡ bodies.Tombstone → ⊥) → Fits 1 b
    by (bodies.Pointer q) f never = (omega arith, omega arith, f.2)
    by (bodies.Embedded x) f never = (omega arith, omega arith, f.2, f.3)
    by bodies.Tombstone f never = absurd (never refl)

  placed_staged : (s number : ℕ) (e : Entry) (value : List ℕ) (b : Bool) → is_forgotten ns ps N.mid e.key ≡ b → IsPlaced p m v s (Staged number e value) → IsPlaced p m u s (cond b (Staged number (first_of e) value) (Staged number e value))
  placed_staged s number e value true is P =
      let own : owner p e.key ≡ m = P.1 in
      let spent = spent_by p m v v' ns G.loses last G.tidied.1 G.tidied.2 T ps qs es N.mid G.mid N.lacks N.forgets Q.keys Q.quiet Q.posted Q.remembers e.key own is in
      let zero_last : u.last e.key ≡ 0 = ap (λ (x : View). x.last e.key) view_is ∙ T.forgets e.key spent in
      let none : v.cell e.key ≡ None = sym (G.loses.cell e.key) ∙ spent.1 in (
        free P.0,
        own,
        pending_is e.key ∙ P.2,
        first_spelled e P.3 (λ t. P.5 t none),
        omega (arith, zero_last),
        λ t same. P.5 t none,
      )
    where
      free : IsFree v s → IsFree u s
      free f k x is = f k x (sym (pending_is k) ∙ is)
  placed_staged s number e value false is P =
      let own : owner p e.key ≡ m = P.1 in
      let kept = kept_last p m v v' ns G.loses last G.tidied.1 G.tidied.2 T ps qs es N.mid G.mid N.lacks N.forgets Q.keys Q.quiet Q.posted Q.remembers e.key own is in
      let same : u.last e.key ≡ v.last e.key = ap (λ (x : View). x.last e.key) view_is ∙ kept ∙ G.loses.last e.key in
      let version : e.version ≡ v.last e.key + 1 = P.4 in (
        (λ k x is. P.0 k x (sym (pending_is k) ∙ is)),
        own,
        pending_is e.key ∙ P.2,
        P.3,
        omega (arith, same, version),
        λ t none. P.5 t (sym (ap (λ (x : View). x.cell e.key) view_is ∙ G.loses.cell e.key) ∙ none),
      )

  offers_still : (k : ℕ) (b : Body) → Offers v k b → Offers u k b
  offers_still k (bodies.Pointer q) o = (o.0, ap (λ (x : View). x.blocks q) view_is ∙ ap (λ (f : ℕ → _). f q) G.loses.blocks ∙ o.1)
  offers_still k (bodies.Embedded y) o = tt
  offers_still k bodies.Tombstone o = λ none. o (sym (ap (λ (x : View). x.cell k) view_is ∙ G.loses.cell k) ∙ none)

  placed_by : SparesPosted p m v u → (s : ℕ) (x : places.Place) → IsPlaced p m v s x → IsPlaced p m u s (restarted_by (is_forgotten ns ps N.mid) x)
  placed_by spares s Free P = λ k x is. P k x (sym (pending_is k) ∙ is)
  placed_by spares s (Staged number e value) P = placed_staged s number e value (is_forgotten ns ps N.mid e.key) refl P
  placed_by spares s (Posted number key lines) P = (
    P.0,
    pending_is key ∙ P.1,
    P.2,
    P.3,
    offers_still key P.0.body P.4,
    ⊎_elim (λ full. inl full) (λ none. inr (none.0, spares key s P.0 P.3 P.1 none.1)) P.5,
    P.6,
  )

  pub placed_after : SparesPosted p m v u → (s : ℕ) → IsPlaced p m v s (place_at ps s) → IsPlaced p m u s (place_at qs s)
  placed_after spares s P = subst (IsPlaced p m u s) (sym (N.forgets.places s)) (placed_by spares s (place_at ps s) P)

  -- and pledge as much
  pub own_after : own qs ≡ own ps
  own_after = same_own ps qs N.forgets.count N.forgets.places where
    line_same : (b : Bool) (number : ℕ) (e : Entry) (value : List ℕ) → lines_in (cond b (Staged number (first_of e) value) (Staged number e value)) ≡ lines_in (Staged number e value)
    line_same false number e value = refl
    line_same true number e value = by e.body where
      by : (b : Body) → lines_for (length (words_of (record { key = e.key; version = 1; body = b }))) ≡ lines_for (length (words_of (record { key = e.key; version = e.version; body = b })))
      by (bodies.Pointer q) = refl
      by (bodies.Embedded y) = refl
      by bodies.Tombstone = refl

    lines_same : (x : places.Place) → lines_in (restarted_by (is_forgotten ns ps N.mid) x) ≡ lines_in x
    lines_same Free = refl
    lines_same (Staged number e value) = line_same (is_forgotten ns ps N.mid e.key) number e value
    lines_same (Posted number key lines) = refl

    same_own : (xs ys : List places.Place) → length ys ≡ length xs → ((s : ℕ) → place_at ys s ≡ restarted_by (is_forgotten ns ps N.mid) (place_at xs s)) → own ys ≡ own xs
    same_own [] [] e at = refl
    same_own [] (y ∷ ys) e at = absurd (omega (arith, e))
    same_own (x ∷ xs) [] e at = absurd (omega (arith, e))
    same_own (x ∷ xs) (y ∷ ys) e at = let rest = same_own xs ys (omega (arith, e)) (λ s. at (suc s)) in let here = ap lines_in (at 0) ∙ lines_same x in omega (arith, rest, here)
