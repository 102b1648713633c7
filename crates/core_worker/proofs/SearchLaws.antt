-- A load more of an own slot, where none was found given back so far.
use Rattle.std.proofs.Common.{◌≡◌, ◌≢◌, inl, ⊎_elim, ℕ, ◌+◌, ◌<◌, Bool, true, false, cond, ◌||◌, List, [], ◌∷◌, ◌++◌, Option, Some, None, refl, sym, ◌∙◌, ap, subst, arith, append-nil, append_assoc}
use Rattle.std.specs.Prelude.{IfSome}
use Rattle.std.proofs.lemmas.Bool.{cases_lt, eq-eqb, ne_eqb}
use Rattle.std.proofs.lemmas.List.{map-append}
use Rattle.store_image.specs.Facts.{In}
use Rattle.group_laws.specs.declared.types.Seen.{Seen}
use Rattle.group_laws.specs.declared.types.Seen.TheVariants.{Slot}
use Rattle.group_laws.specs.declared.types.SlotWord.{SlotWord}
use Rattle.group_laws.specs.declared.types.SlotWord.TheVariants as words
use Rattle.group_laws.specs.Places as at
use Rattle.group_laws.specs.State.{Group}
use Rattle.group_laws.specs.Updates.{put}
use Rattle.group_laws.specs.Runs.{Kind}
use Rattle.group_laws.specs.Runs.Kind.{Look}
use Rattle.group_laws.specs.MemberViews.{View, view_of}
use Rattle.group_laws.proofs.Clients.{In-append_left, In-append_right}
use Rattle.group_board.specs.declared.board.SlotState.{SlotState}
use Rattle.group_board.specs.Told.{Makes, state_of}
use Rattle.group_board.specs.Views.{after_find}
use Rattle.batch_leader.specs.Leading.{MakesAll}
use Rattle.batch_leader.specs.TakenChanges.{MatchBool}
use Rattle.batch_leader.proofs.Clients.{no_steps, one_step, makes_then}
use Rattle.core_worker.specs.declared.types.Place.{Place}
use Rattle.core_worker.specs.declared.worker.Worker.{Worker}
use Rattle.core_worker.specs.OwnPlaces.{place_at, is_posted}
use Rattle.core_worker.specs.Ties.{LeadsNothing}
use Rattle.core_worker.specs.Turns.{PassesItems, IsBack, FoundBack, FindsPosted}
use Rattle.core_worker.specs.Loads.{Load, load_kind, looks_at, LooksMade}
use Rattle.core_worker.specs.Loads.Load.{Own}
use Rattle.core_worker.specs.Searching.{Sees, is_given_back, is_posted_or_taken, shows_back, shows_out, Searched, Finds}
use Rattle.core_worker.specs.declared.search_places.Search.TheVariants.{Out}

pub searched_none : (before : Option Group) (m : ℕ) (p : at.Place) (ps : List Place) (v : View) → IfSome before (λ u. (p ≡ u.place) × (v ≡ view_of u m)) → Searched before before m ps v 0 false v
searched_none before m p ps v agrees = record {
  found = λ s. words.Empty;
  looks = [];
  view = ap (λ (xs : List Seen). record v { looked = xs }) (sym (append-nil v.looked));
  seen = λ s lt. absurd (omega (arith, lt));
  none = λ s lt. absurd (omega (arith, lt));
  flag = λ f. absurd (let lt = f.2 in omega (arith, lt));
  loads = [];
  made = no_steps before m p v agrees;
}

or_false : (b : Bool) → (b || false) ≡ b
or_false true = refl
or_false false = refl

back_word : (w : SlotWord) → IsBack w → is_given_back (state_of w) ≡ true
back_word words.Empty b = absurd b
back_word (words.Posted n) b = absurd b
back_word words.Taken b = absurd b
back_word (words.Done h) b = refl
back_word words.Failed b = refl

pub back_of : (w : SlotWord) → is_given_back (state_of w) ≡ true → IsBack w
back_of words.Empty b = absurd (cc b)
back_of (words.Posted n) b = absurd (cc b)
back_of words.Taken b = absurd (cc b)
back_of (words.Done h) b = tt
back_of words.Failed b = tt

out_word : (w : SlotWord) → is_posted_or_taken (state_of w) ≡ true → (n : ℕ) × (w ≡ words.Posted n)
out_word words.Empty b = absurd (cc b)
out_word (words.Posted n) b = (n, refl)
out_word words.Taken b = absurd (cc b)
out_word (words.Done h) b = absurd (cc b)
out_word words.Failed b = absurd (cc b)

looks_end : (m : ℕ) (l : Load) (ss : List Load) → looks_at m (ss ++ l ∷ []) ≡ looks_at m ss ++ (m, load_kind m l) ∷ []
looks_end m l ss = map-append {B = ℕ × Kind} (λ y. (m, load_kind m y)) ss (l ∷ [])

pub made_more : (before mid after : Option Group) (m : ℕ) (l : Load) (ss : List Load) (u t : View) → MakesAll before (looks_at m ss) mid m u → Makes mid m (load_kind m l) after t → MakesAll before (looks_at m (ss ++ l ∷ [])) after m t
made_more before mid after m l ss u t made step =
    subst (λ (xs : List (ℕ × Kind)). MakesAll before xs after m t) (sym (looks_end m l ss))
    (makes_then before mid after (looks_at m ss) ((m, load_kind m l) ∷ []) m u t made (one_step mid after m (load_kind m l) t step))

module _ (before mid after : Option Group) (m : ℕ) (ps : List Place) (v : View) (slot : ℕ) (posted : Bool) (u t : View) (S : Searched before mid m ps v slot posted u) where
  -- the place isn't posted
  beside : is_posted (place_at ps slot) ≡ false → t ≡ u → after ≡ mid → Searched before after m ps v (slot + 1) posted t
  beside free same group = record {
    found = S.found;
    looks = S.looks;
    view = same ∙ S.view;
    seen = λ s lt is. S.seen s (below s lt is) is;
    none = λ s lt is. S.none s (below s lt is) is;
    flag = by posted S.flag;
    loads = S.loads;
    made = subst (λ (g : Option Group). MakesAll before (looks_at m S.loads) g m t) (sym group) (subst (λ (x : View). MakesAll before (looks_at m S.loads) mid m x) (sym same) S.made);
  } where
    below : (s : ℕ) → s < slot + 1 → is_posted (place_at ps s) ≡ true → s < slot
    below s lt is = ⊎_elim (λ low. low)
        (λ high. absurd (let here : s ≡ slot = omega (arith, lt, high) in let both : true ≡ false = sym is ∙ ap (λ n. is_posted (place_at ps n)) here ∙ free in cc both))
        (cases_lt s slot)

    by : (b : Bool) → MatchBool b (FindsPosted ps S.found slot) (FindsPosted ps S.found slot → ⊥) → MatchBool b (FindsPosted ps S.found (slot + 1)) (FindsPosted ps S.found (slot + 1) → ⊥)
    by true f = (f.0, f.1, (let lt = f.2 in omega (arith, lt)), f.3, f.4)
    by false f = λ x. f (x.0, x.1, below x.0 x.2 x.3, x.3, x.4)

  -- its slot was loaded
  module _ (word : SlotWord) (is : is_posted (place_at ps slot) ≡ true) (view : t ≡ after_find (Slot m slot word) u) (step : Makes mid m (Look m slot) after t) where
    abbrev now : ℕ → SlotWord
    now = put S.found slot word

    here : (s : ℕ) → s ≡ slot → now s ≡ word
    here s e = ap (λ b. cond b word (S.found s)) (eq-eqb s slot e)

    other : (s : ℕ) → s ≢ slot → now s ≡ S.found s
    other s ne = ap (λ b. cond b word (S.found s)) (ne_eqb s slot ne)

    low : (s : ℕ) → s < slot → now s ≡ S.found s
    low s lt = other s (λ e. omega (arith, lt, e))

    pub look_is : t ≡ record v { looked = v.looked ++ (S.looks ++ Slot m slot word ∷ []) }
    look_is = view ∙ ap (after_find (Slot m slot word)) S.view ∙ ap (λ (xs : List Seen). record v { looked = xs }) (append_assoc v.looked S.looks (Slot m slot word ∷ []))

    seen_below : (s : ℕ) → s < slot → is_posted (place_at ps s) ≡ true → In (Slot m s (S.found s)) (S.looks ++ Slot m slot word ∷ [])
    seen_below s lt p = In-append_left (Slot m s (S.found s)) S.looks (Slot m slot word ∷ []) (S.seen s lt p)

    -- a change that is given back: what was found below stays
    pub seen_here : In (Slot m slot word) t.looked
    seen_here = subst (λ (x : View). In (Slot m slot word) x.looked) (sym view) (In-append_right (Slot m slot word) u.looked (Slot m slot word ∷ []) (inl refl))

    pub looked_below : (w : Worker) → w.places.items ≡ ps → LeadsNothing w → PassesItems m (record { worker = w; view = v }) slot t
    looked_below w same nothing = record {
      free = nothing;
      looked = record {
        found = S.found;
        looks = S.looks ++ Slot m slot word ∷ [];
        view = look_is;
        seen = λ s lt p. seen_below s lt (ap (λ qs. is_posted (place_at qs s)) (sym same) ∙ p);
      };
      none = λ s lt p. S.none s lt (ap (λ qs. is_posted (place_at qs s)) (sym same) ∙ p);
    }

    loaded : is_given_back (state_of word) ≡ false → Searched before after m ps v (slot + 1) (posted || is_posted_or_taken (state_of word)) t
    loaded back = record {
      found = now;
      looks = S.looks ++ Slot m slot word ∷ [];
      view = look_is;
      seen = λ s lt p. ⊎_elim (λ l. subst (λ (x : SlotWord). In (Slot m s x) (S.looks ++ Slot m slot word ∷ [])) (sym (low s l)) (seen_below s l p))
          (λ high. let e : s ≡ slot = omega (arith, lt, high) in
          subst (λ (x : SlotWord). In (Slot m s x) (S.looks ++ Slot m slot word ∷ [])) (sym (here s e)) (subst (λ n. In (Slot m n word) (S.looks ++ Slot m slot word ∷ [])) (sym e) (In-append_right (Slot m slot word) S.looks (Slot m slot word ∷ []) (inl refl))))
          (cases_lt s slot);
      none = λ s lt p b. ⊎_elim (λ l. S.none s l p (subst IsBack (low s l) b))
          (λ high. let e : s ≡ slot = omega (arith, lt, high) in let both : true ≡ false = sym (back_word word (subst IsBack (here s e) b)) ∙ back in absurd (cc both))
          (cases_lt s slot);
      flag = by posted (is_posted_or_taken (state_of word)) refl S.flag;
      loads = S.loads ++ Own slot ∷ [];
      made = made_more before mid after m (Own slot) S.loads u t S.made step;
    } where
      by : (b d : Bool) → is_posted_or_taken (state_of word) ≡ d → MatchBool b (FindsPosted ps S.found slot) (FindsPosted ps S.found slot → ⊥) → MatchBool (b || d) (FindsPosted ps now (slot + 1)) (FindsPosted ps now (slot + 1) → ⊥)
      by true d e f = (f.0, f.1, (let lt = f.2 in omega (arith, lt)), f.3, low f.0 f.2 ∙ f.4)
      by false true e f = let o = out_word word e in (slot, o.0, omega arith, is, here slot refl ∙ o.1)
      by false false e f = λ x. ⊎_elim (λ l. f (x.0, x.1, l, x.3, sym (low x.0 l) ∙ x.4))
          (λ high. let lt = x.2 in let same : x.0 ≡ slot = omega (arith, lt, high) in
          let posted_word : word ≡ words.Posted x.1 = sym (here x.0 same) ∙ x.4 in
          let both : true ≡ false = sym (ap (λ (y : SlotWord). is_posted_or_taken (state_of y)) posted_word) ∙ e in cc both)
          (cases_lt x.0 slot)

-- one place further
pub searched_on : (before mid after : Option Group) (m : ℕ) (ps : List Place) (v : View) (slot : ℕ) (posted : Bool) (u t : View) → Searched before mid m ps v slot posted u → (x : Option SlotState) → Sees m slot mid after u t (place_at ps slot) x → shows_back x ≡ false → Searched before after m ps v (slot + 1) (posted || shows_out x) t
searched_on before mid after m ps v slot posted u t S None sees back =
    subst (λ b. Searched before after m ps v (slot + 1) b t) (sym (or_false posted)) (beside before mid after m ps v slot posted u t S sees.0 sees.1 sees.2)
searched_on before mid after m ps v slot posted u t S (Some state) sees back =
    subst (λ (y : SlotState). Searched before after m ps v (slot + 1) (posted || is_posted_or_taken y) t) sees.1.1
    (loaded before mid after m ps v slot posted u t S sees.1.0 sees.0 sees.1.2 sees.2 (ap is_given_back sees.1.1 ∙ back))

-- one was found given back, and none below it
pub found_below : (before mid after : Option Group) (m : ℕ) (w : Worker) (v : View) (slot : ℕ) (posted : Bool) (u t : View) → LeadsNothing w → Searched before mid m w.places.items v slot posted u → (x : Option SlotState) → Sees m slot mid after u t (place_at w.places.items slot) x → shows_back x ≡ true
    → (is_posted (place_at w.places.items slot) ≡ true) × (before : PassesItems m (record { worker = w; view = v }) slot t) × FoundBack m slot before.looked.looks
unfolding looked_below
found_below before mid after m w v slot posted u t nothing S None sees back = absurd (cc back)
found_below before mid after m w v slot posted u t nothing S (Some state) sees back = (
  sees.0,
  looked_below before mid after m w.places.items v slot posted u t S sees.1.0 sees.0 sees.1.2 sees.2 w refl nothing,
  (sees.1.0, back_of sees.1.0 (ap is_given_back sees.1.1 ∙ back), In-append_right (Slot m slot sees.1.0) S.looks (Slot m slot sees.1.0 ∷ []) (inl refl)),
)

pub found_made : (before mid after : Option Group) (m : ℕ) (w : Worker) (v : View) (slot : ℕ) (posted : Bool) (u t : View) → LeadsNothing w → Searched before mid m w.places.items v slot posted u → (x : Option SlotState) → Sees m slot mid after u t (place_at w.places.items slot) x → shows_back x ≡ true → LooksMade before after m t
found_made before mid after m w v slot posted u t nothing S None sees back = absurd (cc back)
found_made before mid after m w v slot posted u t nothing S (Some state) sees back = (S.loads ++ Own slot ∷ [], made_more before mid after m (Own slot) S.loads u t S.made sees.2)

-- no place was found given back
pub searched_all : (before after : Option Group) (m : ℕ) (w : Worker) (v : View) (posted : Bool) (u : View) → LeadsNothing w → Searched before after m w.places.items v 8 posted u → Finds (Out posted) m (record { worker = w; view = v }) u
searched_all before after m w v posted u nothing S = (
  record {
    free = nothing;
    looked = record { found = S.found; looks = S.looks; view = S.view; seen = S.seen };
    none = S.none;
  },
  S.flag,
)
