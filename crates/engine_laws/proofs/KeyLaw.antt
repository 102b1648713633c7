-- One key by itself: a call after another.
use Rattle.std.proofs.Common.{◌≡◌, inl, inr, ◌⊎◌, ℕ, ◌+◌, ◌≤◌, List, [], ◌∷◌, ◌++◌, map, length, take, arith, length-append, refl, sym, ◌∙◌, ap, subst, ◌||◌, true, false, Bool, cond, Option, Some, None, append_assoc, append-nil}
use Rattle.std.specs.List.{AllByRecursion}
use Rattle.fs_model.specs.declared.model.Request.{Request}
use Rattle.fs_model.specs.declared.model.Reply.{Reply}
use Rattle.fs_model.specs.declared.model.Reply.TheVariants.{Stopped}
use Rattle.fs_model.specs.Cells.{cell_after, is_change}
use Rattle.fs_model.specs.Changes.{cell_after_all, IsPrefixCell}
use Rattle.fs_model.proofs.Clients.{changes-append}
use Rattle.fs_model.specs.Lawful.{IsLawfulFor, MayReply, cell_of, cell_left, stopped_of, is_finish, is_stopped}
use Rattle.group_laws.specs.declared.types.Pending.{Pending}
use Rattle.engine_laws.specs.WorkerMoves.{Placed, Fixed, replied}
use Rattle.engine_laws.specs.Keys.{finished, changes_on, posted_in, History}
use Rattle.engine_laws.specs.KeyLaw.{KeyView, Holds, Does, KeyIs}
use Rattle.engine_laws.proofs.Numbers.{all_map}
use Rattle.engine_laws.proofs.Histories.{cell_of-append, stopped_of-append, many, stopped_lawful, finishes_open, finished-append, open_end}
use Rattle.engine_laws.proofs.Histories as histories
use Rattle.engine_laws.proofs.Stands.{front_of, posted_unfinished, take_front}
use Rattle.engine_laws.proofs.KeyMoves.{stop_all, stopped_cell, stopped_none, stop_found, posted_stopped, chain}

module _ (start : Option (List ℕ)) (v u : KeyView) (place place' : Option Placed) (stopped stopped' : Bool) (xs : List (Request × Reply)) (fixed : List Fixed) (S : KeyIs start v place stopped xs) (K : Does v u place place' stopped stopped' fixed) (after : Holds u place' stopped') where
  abbrev ys : List (Request × Reply)
  ys = map replied fixed

  all_stop : stopped ≡ true → place ≡ None → AllByRecursion (λ (y : Request × Reply). y.1 ≡ Stopped) ys
  all_stop stop idle = all_map (λ (y : Request × Reply). y.1 ≡ Stopped) replied fixed (K.after_stop stop idle).0

  lawful : IsLawfulFor (cell_of start xs) (stopped_of false xs) ys
  lawful = by (stopped_of false xs) refl where
    by : (b : Bool) → stopped_of false xs ≡ b → IsLawfulFor (cell_of start xs) b ys
    by false q = subst (λ d. IsLawfulFor d false ys) (sym S.cell) K.lawful
    by true q = let h = S.halted q in stopped_lawful (cell_of start xs) true ys (all_stop h.0 h.1)

  grown : History start (xs ++ ys) × ((zs : List Request) × (changes_on start (xs ++ ys) ≡ changes_on start xs ++ zs))
  grown = many start xs ys S.history lawful

  cell_is : cell_of start (xs ++ ys) ≡ u.cell
  cell_is = cell_of-append start xs ys ∙ ap (λ d. cell_of d ys) S.cell ∙ K.cell

  halted' : stopped_of false (xs ++ ys) ≡ true → (stopped' ≡ true) × (place' ≡ None)
  halted' q = by (stopped_of false xs) refl (sym (stopped_of-append false xs ys) ∙ q) where
    by : (b : Bool) → stopped_of false xs ≡ b → stopped_of (stopped_of false xs) ys ≡ true → (stopped' ≡ true) × (place' ≡ None)
    by true h r = let before = S.halted h in (K.stays before.0, (K.after_stop before.0 before.1).1)
    by false h r = let found = stop_found fixed (ap (λ b. stopped_of b ys) (sym h) ∙ r) in K.stops found.0 found.1 found.2

  abbrev before : List (Request × Reply)
  before = xs ++ posted_in place

  to_end : (zs : List Request) × (changes_on start ((xs ++ ys) ++ posted_in place') ≡ changes_on start (xs ++ ys) ++ zs)
  to_end = (many start (xs ++ ys) (posted_in place') grown.0 (stopped_lawful (cell_of start (xs ++ ys)) (stopped_of false (xs ++ ys)) (posted_in place') (posted_stopped place'))).1

  from_none : posted_in place ≡ [] → (zs : List Request) × (changes_on start ((xs ++ ys) ++ posted_in place') ≡ changes_on start before ++ zs)
  from_none none =
      let same : changes_on start before ≡ changes_on start xs = ap (λ l. changes_on start (xs ++ l)) none ∙ ap (changes_on start) (append-nil xs) in
      chain (changes_on start before) (changes_on start (xs ++ ys)) _ grown.1.0 to_end.0 (grown.1.1 ∙ ap (λ l. l ++ grown.1.0) (sym same)) to_end.1

  from_posted : (x : Placed) → place ≡ Some x → x.posted ≡ true → (zs : List Request) × (changes_on start ((xs ++ ys) ++ posted_in place') ≡ changes_on start before ++ zs)
  from_posted x at posted = elim (K.posted x at posted) [
    | inl stays ↦
        let none : ys ≡ [] = ap (map replied) stays.0 in
        ([], ap (λ l. changes_on start ((xs ++ l) ++ posted_in place')) none ∙ ap (λ l. changes_on start (l ++ posted_in place')) (append-nil xs) ∙ ap (λ o. changes_on start (xs ++ posted_in o)) (stays.1 ∙ sym at) ∙ sym (append-nil (changes_on start before)))
    | inr first ↦ answered first.0 first.1 first.2 first.3
  ] where
    here : posted_in place ≡ (x.request, Stopped) ∷ []
    here = ap posted_in at ∙ ap (λ b. cond b ((x.request, Stopped) ∷ []) []) posted

    changes : is_change x.request (cell_of start xs) ≡ true
    changes = ap (is_change x.request) S.cell ∙ (S.holds.posted x at posted).0

    answered : (r : Reply) (more : List Fixed) → fixed ≡ record { number = x.number; request = x.request; reply = r; refusal = None } ∷ more → (is_finish r ≡ true) ⊎ (r ≡ Stopped) → (zs : List Request) × (changes_on start ((xs ++ ys) ++ posted_in place') ≡ changes_on start before ++ zs)
    answered r more is how =
        let split : ys ≡ (x.request, r) ∷ map replied more = ap (map replied) is in
        let law : IsLawfulFor (cell_of start xs) (stopped_of false xs) ((x.request, r) ∷ map replied more) = subst (λ l. IsLawfulFor (cell_of start xs) (stopped_of false xs) l) split lawful in
        let one : changes_on start (xs ++ (x.request, r) ∷ []) ≡ changes_on start before = by_reply how law.0 ∙ sym (ap (λ l. changes_on start (xs ++ l)) here) in
        let cell : cell_of start (xs ++ (x.request, r) ∷ []) ≡ cell_left x.request r (cell_of start xs) = cell_of-append start xs ((x.request, r) ∷ []) in
        let stop : stopped_of false (xs ++ (x.request, r) ∷ []) ≡ (stopped_of false xs || is_stopped r) = stopped_of-append false xs ((x.request, r) ∷ []) in
        let law' : IsLawfulFor (cell_of start (xs ++ (x.request, r) ∷ [])) (stopped_of false (xs ++ (x.request, r) ∷ [])) (map replied more) =
        subst (λ d. IsLawfulFor d (stopped_of false (xs ++ (x.request, r) ∷ [])) (map replied more)) (sym cell) (subst (λ s. IsLawfulFor (cell_left x.request r (cell_of start xs)) s (map replied more)) (sym stop) law.1) in
        let rest' = (many start (xs ++ (x.request, r) ∷ []) (map replied more) (histories.more start xs x.request r S.history law.0) law').1 in
        let all : changes_on start (xs ++ ys) ≡ changes_on start (xs ++ (x.request, r) ∷ []) ++ rest'.0 =
        ap (λ l. changes_on start (xs ++ l)) split ∙ ap (changes_on start) (sym (append_assoc xs ((x.request, r) ∷ []) (map replied more))) ∙ rest'.1 in
        chain (changes_on start before) (changes_on start (xs ++ ys)) _ rest'.0 to_end.0 (all ∙ ap (λ l. l ++ rest'.0) one) to_end.1 where
          by_reply : (is_finish r ≡ true) ⊎ (r ≡ Stopped) → MayReply x.request (cell_of start xs) (stopped_of false xs) r → changes_on start (xs ++ (x.request, r) ∷ []) ≡ changes_on start (xs ++ (x.request, Stopped) ∷ [])
          by_reply (inl finish) may = finishes_open start xs x.request r S.history may finish changes
          by_reply (inr stop) may = ap (λ s. changes_on start (xs ++ (x.request, s) ∷ [])) stop

  pub key_grows : (zs : List Request) × (changes_on start ((xs ++ ys) ++ posted_in place') ≡ changes_on start before ++ zs)
  key_grows = by place refl where
    by : (o : Option Placed) → place ≡ o → (zs : List Request) × (changes_on start ((xs ++ ys) ++ posted_in place') ≡ changes_on start before ++ zs)
    by None q = from_none (ap posted_in q)
    by (Some x) q = elim x.posted as (λ b. x.posted ≡ b → (zs : List Request) × (changes_on start ((xs ++ ys) ++ posted_in place') ≡ changes_on start before ++ zs)) [
      | true ↦ λ is. from_posted x q is
      | false ↦ λ is. from_none (ap posted_in q ∙ ap (λ b. cond b ((x.request, Stopped) ∷ []) []) is)
    ] refl

  abbrev Next : Pending → Type 0
  Next p = (q : Request) × (rest : List Request) × (changes_on start ((xs ++ ys) ++ posted_in place') ≡ finished (xs ++ ys) ++ q ∷ rest) × (u.left p.entry.body ≡ cell_after q u.cell)

  next_posted : (p : Pending) (x : Placed) → u.pending ≡ Some p → place' ≡ Some x → x.posted ≡ true → Next p
  next_posted p x is at posted =
      let h = after.posted x at posted in
      let same : h.1.0 ≡ p = (let both = sym h.1.2 ∙ is in cc both) in (
        x.request,
        [],
        ap (λ l. changes_on start ((xs ++ ys) ++ l)) (ap posted_in at ∙ ap (λ b. cond b ((x.request, Stopped) ∷ []) []) posted) ∙ open_end start (xs ++ ys) x.request grown.0 (going at) (ap (is_change x.request) cell_is ∙ h.0),
        ap (λ (y : Pending). u.left y.entry.body) (sym same) ∙ h.1.4,
      ) where
        going : place' ≡ Some x → stopped_of false (xs ++ ys) ≡ false
        going at = elim (stopped_of false (xs ++ ys)) as (λ b. stopped_of false (xs ++ ys) ≡ b → b ≡ false) [
          | false ↦ λ q. refl
          | true ↦ λ q. (let none = (halted' q).1 in absurd (let both = sym none ∙ at in cc both))
        ] refl

  next_doubt : (p : Pending) (o : Option ℕ) → v.pending ≡ Some (record { entry = p.entry; slot = o }) → AllByRecursion (λ (y : Request × Reply). y.1 ≡ Stopped) ys → u.left p.entry.body ≡ v.left p.entry.body → Next p
  next_doubt p o was stop left =
      let old = S.pending (record { entry = p.entry; slot = o }) was in
      let fin : finished (xs ++ ys) ≡ finished xs = finished-append xs ys ∙ ap (λ l. finished xs ++ l) (stopped_none ys stop) ∙ append-nil (finished xs) in
      let cell : u.cell ≡ v.cell = sym K.cell ∙ stopped_cell v.cell ys stop in (
        old.0,
        old.1 ++ key_grows.0,
        key_grows.1 ∙ ap (λ l. l ++ key_grows.0) old.2 ∙ append_assoc (finished xs) (old.0 ∷ old.1) key_grows.0 ∙ ap (λ l. l ++ old.0 ∷ (old.1 ++ key_grows.0)) (sym fin),
        left ∙ old.3 ∙ ap (cell_after old.0) (sym cell),
      )

  next : (p : Pending) → u.pending ≡ Some p → Next p
  next p is = elim (after.pending p is) [
    | inl at ↦ next_posted p at.0 is at.1 at.2
    | inr doubt ↦ (let d = K.doubt p.entry (is ∙ ap (λ (o : Option ℕ). Some (record { entry = p.entry; slot = o })) doubt.0) in by_doubt d.0 d.1)
  ] where
    idle : v.pending ≡ Some (record { entry = p.entry; slot = None }) → (stopped ≡ true) × (place ≡ None)
    idle was = elim (S.holds.pending (record { entry = p.entry; slot = None }) was) [
      | inl at ↦ absurd (let h = (S.holds.posted at.0 at.1 at.2).1 in let both : Some h.0 ≡ Some (record { entry = p.entry; slot = None }) = sym h.2 ∙ was in let same : h.0 ≡ record { entry = p.entry; slot = None } = cc both in let none = ap (λ (x : Pending). x.slot) same in let some = h.3 in cc (none, some))
      | inr so ↦ (so.2, so.1)
    ]

    by_doubt : u.left p.entry.body ≡ v.left p.entry.body → (v.pending ≡ Some (record { entry = p.entry; slot = None }))
        ⊎ ((x : Placed) × (rest : List Fixed) × (s : ℕ) × (place ≡ Some x) × (x.posted ≡ true) × (v.pending ≡ Some (record { entry = p.entry; slot = Some s }))
        × (fixed ≡ record { number = x.number; request = x.request; reply = Stopped; refusal = None } ∷ rest)) → Next p
    by_doubt left (inl was) = let so = idle was in next_doubt p None was (all_stop so.0 so.1) left
    by_doubt left (inr new) =
        let split : ys ≡ (new.0.request, Stopped) ∷ map replied new.1 = ap (map replied) new.6 in
        let law : IsLawfulFor v.cell false ((new.0.request, Stopped) ∷ map replied new.1) = subst (λ l. IsLawfulFor v.cell false l) split K.lawful in
        let stop : AllByRecursion (λ (y : Request × Reply). y.1 ≡ Stopped) ((new.0.request, Stopped) ∷ map replied new.1) = (refl, stop_all v.cell (map replied new.1) law.1) in
        next_doubt p (Some new.2) new.5 (subst (AllByRecursion (λ (y : Request × Reply). y.1 ≡ Stopped)) (sym split) stop) left

  pub key_goes : KeyIs start u place' stopped' (xs ++ ys)
  key_goes = record { history = grown.0; cell = cell_is; halted = halted'; holds = after; pending = next }

-- What a view shows of a key is its cell after the finished changes, or after the pending one too.
pub key_shows : (start : Option (List ℕ)) (v : KeyView) (place : Option Placed) (stopped : Bool) (xs : List (Request × Reply)) (c : Option (List ℕ)) → KeyIs start v place stopped xs
    → (c ≡ v.cell) ⊎ ((p : Pending) × (v.pending ≡ Some p) × (c ≡ v.left p.entry.body))
    → (length (finished xs) ≤ length (changes_on start (xs ++ posted_in place))) × IsPrefixCell start (changes_on start (xs ++ posted_in place)) (length (finished xs)) c
key_shows start v place stopped xs c S shown = (
  (let long = ap length front.1 ∙ length-append (finished xs) front.0 in omega (arith, long)),
  elim shown [
    | inl is ↦ inl (is ∙ cell_now ∙ ap (λ l. cell_after_all l start) (sym (ap (take (length (finished xs))) front.1 ∙ take_front (finished xs) front.0 (length (finished xs)) refl)))
    | inr next ↦
        let n = S.pending next.0 next.1 in
        let cut : take (length (finished xs) + 1) (changes_on start (xs ++ posted_in place)) ≡ finished xs ++ n.0 ∷ [] =
        ap (take (length (finished xs) + 1)) (n.2 ∙ sym (append_assoc (finished xs) (n.0 ∷ []) n.1))
        ∙ take_front (finished xs ++ n.0 ∷ []) n.1 (length (finished xs) + 1) (let long = length-append (finished xs) (n.0 ∷ []) in omega (arith, long)) in
        inr (next.2 ∙ n.3 ∙ ap (cell_after n.0) cell_now ∙ sym (changes-append start (finished xs) (n.0 ∷ [])) ∙ ap (λ l. cell_after_all l start) (sym cut))
  ],
) where
  front : (zs : List Request) × (changes_on start (xs ++ posted_in place) ≡ finished xs ++ zs)
  front = front_of start xs (posted_in place) (posted_unfinished place)

  cell_now : v.cell ≡ cell_after_all (finished xs) start
  cell_now = sym S.cell ∙ sym S.history.left
