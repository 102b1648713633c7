-- Why what a report refuses was refused.
use Rattle.std.proofs.Common.{◌≡◌, ℕ, zero, suc, ◌+◌, ◌%◌, ◌<◌, ◌≤◌, List, [], ◌∷◌, ◌++◌, map, length, take, refl, sym, ◌∙◌, ap, subst, arith, true, false, Bool, Option, Some, None}
use Rattle.std.specs.Prelude.{slice_get, option_map}
use Rattle.std.specs.List.{AllByRecursion}
use Rattle.fs_model.specs.declared.model.Request.{Request}
use Rattle.fs_model.specs.declared.model.Request.TheVariants.{Put, Get, Delete}
use Rattle.fs_model.specs.declared.model.Reply.TheVariants.{Full, VersionsSpent, TooLong}
use Rattle.fs_model.specs.Cells.{key_of}
use Rattle.fs_model.specs.Lawful.{is_told}
use Rattle.log_entry.specs.declared.entry_limits.TheConstants.{LAST_PUT_VERSION}
use Rattle.chunk_map.specs.declared.layouts.Geometry.{Geometry}
use Rattle.chunk_map.specs.Layouts.{layout_of, owner}
use Rattle.core_room.specs.declared.types.Shortage.{Shortage}
use Rattle.core_room.specs.declared.types.Shortage.TheVariants as causes
use Rattle.headline.specs.Ample.{IsAmpleFor}
use Rattle.headline.specs.Limits.{IsAsked, version_of, changes_asked, is_too_long, IsWithinLimits}
use Rattle.engine_laws.specs.Engine.{Answer}
use Rattle.headline.specs.Kinds.{AreReplies, is_reply_to}
use Rattle.engine_laws.specs.Reports.{named_from, reply_of, replies_from}
use Rattle.engine_core.specs.declared.run_report.Refusal.{Refusal}
use Rattle.engine_core.specs.Answers.{reply_to}
use Rattle.flatstore_commands.proofs.Numbering.{all_map, all_mapped, IsNamed, all_named}

-- what is known of each answer: why it is a refusal
pub record HasCauses (image : ℕ → ℕ) (trace : List Request) (ans : ℕ → Option Answer) : Type 0 where
  pub full : (n k : ℕ) (a : Answer) → ans n ≡ Some a → a.reply ≡ Full → IsAsked trace n k → IsAmpleFor (layout_of image) image trace (owner (layout_of image) k) → ⊥
  pub spent : (n : ℕ) (a : Answer) → ans n ≡ Some a → a.reply ≡ VersionsSpent → (k : ℕ) → IsAsked trace n k → LAST_PUT_VERSION ≤ version_of image k + changes_asked k (take n trace)
  pub kinds : AreReplies trace (replies_from ans 0 (length trace))
  pub long : (n : ℕ) (a : Answer) → ans n ≡ Some a → a.reply ≡ TooLong → (q : Request) → slice_get trace n ≡ Some q → is_too_long (layout_of image) q ≡ true

get_some : {A : Type 0} (xs : List A) (n : ℕ) → n < length xs → (x : A) × (slice_get xs n ≡ Some x)
get_some [] n lt = absurd (omega (arith, lt))
get_some (x ∷ xs) zero lt = (x, refl)
get_some (x ∷ xs) (suc n) lt = get_some xs n (omega (arith, lt))

-- the list before a place, and behind it
split_at : {A : Type 0} (xs : List A) (n : ℕ) (x : A) → slice_get xs n ≡ Some x → (rest : List A) × (xs ≡ take n xs ++ x ∷ rest)
split_at [] n x e = absurd (none e) where
  none : {A : Type 0} {x : A} → None ≡ Some x → ⊥
  none q = cc q
split_at (y ∷ ys) zero x e = (ys, ap (λ z. z ∷ ys) (same e)) where
  same : {A : Type 0} {y x : A} → Some y ≡ Some x → y ≡ x
  same q = cc q
split_at (y ∷ ys) (suc n) x e = let h = split_at ys n x e in (h.0, ap (λ zs. y ∷ zs) h.1)

get_all : {A : Type 0} (P : A → Type 0) (xs : List A) (n : ℕ) (x : A) → AllByRecursion P xs → slice_get xs n ≡ Some x → P x
get_all P [] n x h e = absurd (none e) where
  none : {A : Type 0} {x : A} → None ≡ Some x → ⊥
  none q = cc q
get_all P (y ∷ ys) zero x h e = subst P (same e) h.0 where
  same : {A : Type 0} {y x : A} → Some y ≡ Some x → y ≡ x
  same q = cc q
get_all P (y ∷ ys) (suc n) x h e = get_all P ys n x h.1 e

both : (b : Bool) {P : Type 0} → b ≡ true → b ≡ false → P
both b t f = cc (sym t ∙ f)

-- a reply of the request with a number is of a kind that the request can have
kind_at : (ans : ℕ → Option Answer) (qs : List Request) (m n : ℕ) (q : Request) → AreReplies qs (replies_from ans m (length qs)) → slice_get qs n ≡ Some q → is_reply_to q (reply_of (ans (m + n))) ≡ true
kind_at ans [] m n q h e = absurd (none e) where
  none : {A : Type 0} {x : A} → None ≡ Some x → ⊥
  none r = cc r
kind_at ans (p ∷ qs) m zero q h e = subst (λ x. is_reply_to x (reply_of (ans (m + 0))) ≡ true) (same e) (subst (λ k. is_reply_to p (reply_of (ans k)) ≡ true) (let z : m ≡ m + 0 = omega arith in z) h.0) where
  same : {A : Type 0} {y x : A} → Some y ≡ Some x → y ≡ x
  same r = cc r
kind_at ans (p ∷ qs) m (suc n) q h e = subst (λ k. is_reply_to q (reply_of (ans k)) ≡ true) (let z : m + 1 + n ≡ m + suc n = omega arith in z) (kind_at ans qs (m + 1) n q h.1 e)

-- only a put finds no version
put_of : (q : Request) → is_reply_to q VersionsSpent ≡ true → (k : ℕ) × (v : List ℕ) × (q ≡ Put k v)
put_of (Put k v) e = (k, v, refl)
put_of (Get k) e = cc e
put_of (Delete k) e = cc e

-- Of refusals that are those of the answers to the first `count` requests of a trace.
module _ (image : ℕ → ℕ) (trace : List Request) (ans : ℕ → Option Answer) (C : HasCauses image trace ans) (count : ℕ) (within : count ≤ length trace) (refusals : List Refusal)
    (told : map (λ (x : Refusal). (x.request, reply_to x.why)) refusals ≡ named_from is_told (λ a. a.reply) ans 0 count) (some : 1 ≤ (layout_of image).cores) where
  abbrev l : Geometry
  l = layout_of image

  -- each refusal is an answer
  abbrev Is : Refusal → Type 0
  Is x = IsNamed is_told (λ (a : Answer). a.reply) ans 0 count (x.request, reply_to x.why)

  each : AllByRecursion Is refusals
  each =
      let all : AllByRecursion (IsNamed is_told (λ (a : Answer). a.reply) ans 0 count) (named_from is_told (λ a. a.reply) ans 0 count) =
      subst (λ m. AllByRecursion (IsNamed is_told (λ (a : Answer). a.reply) ans 0 m) (named_from is_told (λ a. a.reply) ans 0 count)) (let z : 0 + count ≡ count = omega arith in z) (all_named is_told (λ (a : Answer). a.reply) ans 0 count) in
      all_mapped (λ (x : Refusal). (x.request, reply_to x.why)) (IsNamed is_told (λ (a : Answer). a.reply) ans 0 count) refusals (subst (AllByRecursion (IsNamed is_told (λ (a : Answer). a.reply) ans 0 count)) (sym told) all)

  pub full_of : AllByRecursion (λ (x : Refusal). reply_to x.why ≡ Full → (k : ℕ) → IsAsked trace x.request k → IsAmpleFor l image trace (owner l k) → ⊥) refusals
  full_of = all_map Is (λ (x : Refusal). reply_to x.why ≡ Full → (k : ℕ) → IsAsked trace x.request k → IsAmpleFor l image trace (owner l k) → ⊥)
      (λ x h full k asked. C.full x.request k h.answer h.is (h.what_is ∙ full) asked) refusals each

  pub spent_of : AllByRecursion (λ (x : Refusal). (last : ℕ) → x.why ≡ causes.Versions last → (k : ℕ) → IsAsked trace x.request k → 1048574 ≤ version_of image k + changes_asked k (take x.request trace)) refusals
  spent_of = all_map Is (λ (x : Refusal). (last : ℕ) → x.why ≡ causes.Versions last → (k : ℕ) → IsAsked trace x.request k → 1048574 ≤ version_of image k + changes_asked k (take x.request trace))
      (λ x h last why k asked. C.spent x.request h.answer h.is (h.what_is ∙ ap reply_to why) k asked) refusals each

  pub long_of : AllByRecursion (λ (x : Refusal). (n : ℕ) → x.why ≡ causes.Length n → (q : Request) → slice_get trace x.request ≡ Some q → is_too_long l q ≡ true) refusals
  long_of = all_map Is (λ (x : Refusal). (n : ℕ) → x.why ≡ causes.Length n → (q : Request) → slice_get trace x.request ≡ Some q → is_too_long l q ≡ true)
      (λ x h n why q asked. C.long x.request h.answer h.is (h.what_is ∙ ap reply_to why) q asked) refusals each

  -- nothing is refused within all limits
  module _ (W : IsWithinLimits image trace) where
    no_room : (x : Refusal) → Is x → reply_to x.why ≡ Full → ⊥
    no_room x h is =
        let high = h.high in
        let q = get_some trace x.request (omega (arith, high, within)) in
        C.full x.request (key_of q.0) h.answer h.is (h.what_is ∙ is) (ap (option_map key_of) q.1) (W.room (owner l (key_of q.0)) (below (key_of q.0)))
      where
        below : (k : ℕ) → k % l.cores < l.cores
        below k = let s = some in omega (arith, s)

    no_version : (x : Refusal) → Is x → reply_to x.why ≡ VersionsSpent → ⊥
    no_version x h is =
        let high = h.high in
        let q = get_some trace x.request (omega (arith, high, within)) in
        let reply : reply_of (ans x.request) ≡ VersionsSpent = ap reply_of h.is ∙ (h.what_is ∙ is) in
        let put = put_of q.0 (subst (λ r. is_reply_to q.0 r ≡ true) reply (subst (λ m. is_reply_to q.0 (reply_of (ans m)) ≡ true) (let z : 0 + x.request ≡ x.request = omega arith in z) (kind_at ans trace 0 x.request q.0 C.kinds q.1))) in
        let found : slice_get trace x.request ≡ Some (Put put.0 put.1) = q.1 ∙ ap (λ p. Some p) put.2 in
        let more = C.spent x.request h.answer h.is (h.what_is ∙ is) put.0 (ap (option_map key_of) found) in
        let s = split_at trace x.request (Put put.0 put.1) found in
        let less = W.versions (take x.request trace) s.0 put.0 put.1 s.1 in
        omega (arith, less, more)

    no_length : (x : Refusal) → Is x → reply_to x.why ≡ TooLong → ⊥
    no_length x h is =
        let high = h.high in
        let q = get_some trace x.request (omega (arith, high, within)) in
        both (is_too_long l q.0) (C.long x.request h.answer h.is (h.what_is ∙ is) q.0 q.1) (get_all (λ p. is_too_long l p ≡ false) trace x.request q.0 W.lengths q.1)

    none_by : (x : Refusal) → Is x → (why : Shortage) → x.why ≡ why → ⊥
    none_by x h (causes.Room c) e = no_room x h (ap reply_to e)
    none_by x h (causes.Block c) e = no_room x h (ap reply_to e)
    none_by x h (causes.Versions last) e = no_version x h (ap reply_to e)
    none_by x h (causes.Length n) e = no_length x h (ap reply_to e)

    none : (xs : List Refusal) → AllByRecursion Is xs → xs ≡ []
    none [] h = refl
    none (x ∷ xs) h = absurd (none_by x h.0 x.why refl)

    pub unrefused_of : refusals ≡ []
    unrefused_of = none refusals each
