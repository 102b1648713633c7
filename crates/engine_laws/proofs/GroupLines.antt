-- What the logs of a group took fits in the lines that the requests of its keys need.
use Rattle.std.proofs.Common.{◌≡◌, ◌≢◌, ◌⊎◌, inl, inr, ⊎_elim, ℕ, zero, suc, ◌+◌, ◌*◌, ◌/◌, ◌<◌, ◌≤◌, ◌==◌, ◌&&◌, List, [], ◌∷◌, ◌++◌, refl, sym, ◌∙◌, ap, subst, arith, true, false, Bool, cond}
use Rattle.std.specs.List.{sum_by, enumerate_from}
use Rattle.std.proofs.lemmas.Nat.{div-mul-add, mod-mul-add}
use Rattle.std.proofs.lemmas.Bool.{cases_eq, cases_lt, eq-eqb, ne_eqb}
use Rattle.std.proofs.lemmas.List.Sums.{sum_by-append}
use Rattle.fs_model.specs.declared.model.Request.{Request}
use Rattle.fs_model.specs.Cells.{key_of}
use Rattle.log_entry.specs.declared.entry.Entry.{Entry}
use Rattle.chunk_map.specs.declared.layouts.Geometry.{Geometry}
use Rattle.chunk_map.specs.Layouts.{owner, is_of_group, IsLayout}
use Rattle.group_laws.specs.Places.{Place, members}
use Rattle.group_laws.specs.Places as places
use Rattle.group_laws.specs.State.{Group}
use Rattle.group_laws.specs.Updates.{times, sum_below}
use Rattle.group_laws.specs.Invariant.{Lawful}
use Rattle.group_laws.specs.Regions.{groups_in, key_group}
use Rattle.headline.specs.Ample.{lines_of, log_bytes}
use Rattle.engine_laws.specs.Parts.{Groups, group_of, member_of}
use Rattle.engine_laws.specs.Engine.{Engine}
use Rattle.engine_laws.specs.Spending.{lines_in}
use Rattle.engine_laws.specs.Rooms.{is_out, out_lines}
use Rattle.engine_laws.proofs.Cores.{group_low, member_low, member_core}
use Rattle.engine_laws.proofs.RoomSums.{sum_cons, sum_up, sum_numbered, sum_times, lines_among}

-- the lines that the requests of core c's keys need
abbrev pub own_lines : Geometry → ℕ → List Request → ℕ
own_lines l c trace = sum_by (λ x. cond {A = ℕ} (owner l (key_of x) == c) (lines_of l x) 0) trace

-- those of a group's keys
abbrev pub group_lines : Geometry → ℕ → List Request → ℕ
group_lines l g trace = sum_by (λ x. cond {A = ℕ} (key_group l (key_of x) == g) (lines_of l x) 0) trace

fewer : (a b : Bool) (m : ℕ) → cond {A = ℕ} (a && b) m 0 ≤ cond {A = ℕ} a m 0
fewer true true m = omega arith
fewer true false m = omega arith
fewer false b m = omega arith

-- what is out of the requests so far is of the trace
pub out_within : (l : Geometry) (e : Engine) (c : ℕ) (more : List Request) → out_lines l e c ≤ own_lines l c (e.given ++ more)
out_within l e c more =
    let le = sum_up (λ (x : ℕ × Request). cond {A = ℕ} (owner l (key_of x.1) == c && is_out e x) (lines_of l x.1) 0) (λ (x : ℕ × Request). cond {A = ℕ} (owner l (key_of x.1) == c) (lines_of l x.1) 0) (enumerate_from 0 e.given) (λ x i. fewer (owner l (key_of x.1) == c) (is_out e x) (lines_of l x.1)) in
    let all = sum_numbered (λ x. cond {A = ℕ} (owner l (key_of x) == c) (lines_of l x) 0) 0 e.given in
    let split = sum_by-append (λ x. cond {A = ℕ} (owner l (key_of x) == c) (lines_of l x) 0) e.given more in
    omega (arith, le, all, split)

-- of one number, by the numbers from a base on: it is one of them at most
none_at : (o base k v : ℕ) → ((m : ℕ) → m < k → o ≢ base + m) → sum_below k (λ m. cond {A = ℕ} (o == base + m) v 0) ≡ 0
none_at o base zero v none = refl
none_at o base (suc k) v none =
    let rest = none_at o base k v (λ m lt. none m (omega (arith, lt))) in
    let here = ap (λ b. cond {A = ℕ} b v 0) (ne_eqb o (base + k) (none k (omega arith))) in
    omega (arith, rest, here)

once_at : (o base k v : ℕ) → sum_below k (λ m. cond {A = ℕ} (o == base + m) v 0) ≤ v
once_at o base zero v = omega arith
once_at o base (suc k) v = ⊎_elim
    (λ same.
    let rest = none_at o base k v (λ m lt other. absurd (omega (arith, same, other, lt))) in
    let here = ap (λ b. cond {A = ℕ} b v 0) (eq-eqb o (base + k) same) in
    omega (arith, rest, here))
    (λ ne.
    let rest = once_at o base k v in
    let here = ap (λ b. cond {A = ℕ} b v 0) (ne_eqb o (base + k) ne) in
    omega (arith, rest, here))
    (cases_eq o (base + k))

below_sum : (n : ℕ) (f g : ℕ → ℕ) → sum_below n (λ m. f m + g m) ≡ sum_below n f + sum_below n g
below_sum zero f g = refl
below_sum (suc n) f g = let rest = below_sum n f g in omega (arith, rest)

below_zero : (n : ℕ) → sum_below n (λ m. 0) ≡ 0
below_zero zero = refl
below_zero (suc n) = let rest = below_zero n in omega (arith, rest)

below_le : (n : ℕ) (f g : ℕ → ℕ) → ((m : ℕ) → m < n → f m ≤ g m) → sum_below n f ≤ sum_below n g
below_le zero f g le = omega arith
below_le (suc n) f g le = let rest = below_le n f g (λ m lt. le m (omega (arith, lt))) in let one = le n (omega arith) in omega (arith, rest, one)

below_same : (n : ℕ) (f g : ℕ → ℕ) → ((m : ℕ) → f m ≡ g m) → sum_below n f ≡ sum_below n g
below_same n f g is = (λ i. sum_below n (λ m. is m i))

-- each request of a group is one of its members'
members_lines : (l : Geometry) (g : ℕ) (trace : List Request) → sum_below l.group (λ m. own_lines l (g * l.group + m) trace) ≤ group_lines l g trace
members_lines l g [] = let none = below_zero l.group in omega (arith, none)
members_lines l g (x ∷ xs) =
    let rest = members_lines l g xs in
    let split = below_same l.group (λ m. own_lines l (g * l.group + m) (x ∷ xs)) (λ m. cond {A = ℕ} (owner l (key_of x) == g * l.group + m) (lines_of l x) 0 + own_lines l (g * l.group + m) xs)
    (λ m. sum_cons (λ (y : Request). cond {A = ℕ} (owner l (key_of y) == g * l.group + m) (lines_of l y) 0) x xs) in
    let two = below_sum l.group (λ m. cond {A = ℕ} (owner l (key_of x) == g * l.group + m) (lines_of l x) 0) (λ m. own_lines l (g * l.group + m) xs) in
    let all = sum_cons (λ (y : Request). cond {A = ℕ} (key_group l (key_of y) == g) (lines_of l y) 0) x xs in
    let one = by (cases_eq (key_group l (key_of x)) g) in
    omega (arith, rest, split, two, all, one)
  where
    by : (key_group l (key_of x) ≡ g) ⊎ (key_group l (key_of x) ≢ g) → sum_below l.group (λ m. cond {A = ℕ} (owner l (key_of x) == g * l.group + m) (lines_of l x) 0) ≤ cond {A = ℕ} (key_group l (key_of x) == g) (lines_of l x) 0
    by (inl same) =
        let once = once_at (owner l (key_of x)) (g * l.group) l.group (lines_of l x) in
        let here = ap (λ b. cond {A = ℕ} b (lines_of l x) 0) (eq-eqb (key_group l (key_of x)) g same) in
        omega (arith, once, here)
    by (inr ne) =
        let none = none_at (owner l (key_of x)) (g * l.group) l.group (lines_of l x) (λ m lt at. ne (ap (λ d. d / l.group) at ∙ div-mul-add g l.group m lt)) in
        omega (arith, none)

-- the bytes of the log are those lines
log_is : (l : Geometry) (c : ℕ) (trace : List Request) → 64 * group_lines l (group_of l c) trace ≡ log_bytes l c trace
log_is l c trace = sym (sum_times 64 (λ x. cond {A = ℕ} (key_group l (key_of x) == group_of l c) (lines_of l x) 0) trace) ∙ sum_same (λ x. factor (is_of_group l c (key_of x)) (lines_of l x)) where
  factor : (b : Bool) (m : ℕ) → 64 * cond {A = ℕ} b m 0 ≡ cond {A = ℕ} b (64 * m) 0
  factor true m = refl
  factor false m = omega arith

  sum_same : ((x : Request) → 64 * cond {A = ℕ} (is_of_group l c (key_of x)) (lines_of l x) 0 ≡ cond {A = ℕ} (is_of_group l c (key_of x)) (64 * lines_of l x) 0) → sum_by (λ x. 64 * cond {A = ℕ} (is_of_group l c (key_of x)) (lines_of l x) 0) trace ≡ sum_by (λ x. cond {A = ℕ} (is_of_group l c (key_of x)) (64 * lines_of l x) 0) trace
  sum_same is = (λ i. sum_by (λ x. is x i) trace)

-- in a lawful group what a member took stands in what all posted
group_took : (l : Geometry) (w : Group) (m : ℕ) → Lawful w → w.place.layout ≡ l → m < l.group → ((h : ℕ) → l.group ≤ h → w.posted h ≡ []) → lines_in (w.took m) ≤ sum_below l.group (λ h. lines_in (w.posted h))
group_took l w m lawful layout low strangers = lines_among l.group (w.took m) w.posted (λ d. (places.owner w.place d.key, among d, cases d)) where
  term_below : (k h : ℕ) (f : ℕ → ℕ) → h < k → f h ≤ sum_below k f
  term_below zero h f lt = absurd (omega (arith, lt))
  term_below (suc k) h f lt = ⊎_elim (λ at. let is = ap f at in omega (arith, is)) (λ ne. let rest = term_below k h f (omega (arith, lt, ne)) in omega (arith, rest)) (cases_eq h k)

  among : (d : Entry) → times d (w.took m) ≤ times d (w.posted (places.owner w.place d.key))
  among d =
      let all = lawful.counts.taken d in
      let one = term_below (members w.place) m (λ h. times d (w.took h)) (subst (λ (n : Geometry). m < n.group) (sym layout) low) in
      omega (arith, all, one)

  cases : (d : Entry) → (places.owner w.place d.key < l.group) ⊎ (w.posted (places.owner w.place d.key) ≡ [])
  cases d = ⊎_elim (λ lt. inl lt) (λ ge. inr (strangers (places.owner w.place d.key) ge)) (cases_lt (places.owner w.place d.key) l.group)

-- Where each core posted no more than its requests of the trace need, no log took more than those of its group.
module _ (l : Geometry) (is : IsLayout l) (w : ℕ → Group) (G : Groups l w) (strangers : (g m : ℕ) → g < groups_in l → l.group ≤ m → (w g).posted m ≡ []) (trace : List Request)
    (posted : (d : ℕ) → d < l.cores → lines_in ((w (group_of l d)).posted (member_of l d)) ≤ own_lines l d trace) where
  pub taken_within : (c : ℕ) → c < l.cores → 64 * lines_in ((w (group_of l c)).took (member_of l c)) ≤ log_bytes l c trace
  taken_within c low =
      let g : ℕ = group_of l c in
      let took = group_took l (w g) (member_of l c) (G.lawful g group_is) (ap (λ (p : Place). p.layout) (G.place g group_is)) (member_low l is c) (λ m high. strangers g m group_is high) in
      let each = below_le l.group (λ m. lines_in ((w g).posted m)) (λ m. own_lines l (g * l.group + m) trace) (one g group_is) in
      let all = members_lines l g trace in
      let bytes = log_is l c trace in
      omega (arith, took, each, all, bytes)
    where
      group_is : group_of l c < groups_in l
      group_is = group_low l is c low

      one : (g : ℕ) → g < groups_in l → (m : ℕ) → m < l.group → lines_in ((w g).posted m) ≤ own_lines l (g * l.group + m) trace
      one g there m lt =
          let here : lines_in ((w (group_of l (g * l.group + m))).posted (member_of l (g * l.group + m))) ≡ lines_in ((w g).posted m) = (λ i. lines_in ((w (div-mul-add g l.group m lt i)).posted (mod-mul-add g l.group m lt i))) in
          let le = posted (g * l.group + m) (member_core l is g m there lt) in
          omega (arith, here, le)
