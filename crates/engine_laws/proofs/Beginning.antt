-- What a call does for a key, and then begins the key's waiting requests.
use Rattle.std.proofs.Common.{◌≡◌, ◌≢◌, ◌⊎◌, inl, inr, ℕ, List, ◌++◌, map, Bool, true, false, refl, sym, ◌∙◌, ap, subst, append_assoc}
use Rattle.std.specs.List.{AllByRecursion}
use Rattle.std.proofs.lemmas.List.{map-append}
use Rattle.fs_model.specs.declared.model.Request.{Request}
use Rattle.fs_model.specs.declared.model.Reply.{Reply}
use Rattle.fs_model.specs.declared.model.Reply.TheVariants.{Stopped}
use Rattle.fs_model.specs.Lawful.{IsLawfulFor, cell_of, stopped_of}
use Rattle.fs_model.proofs.Clients.{lawful-append}
use Rattle.store_image.proofs.Clients.{in_either}
use Rattle.group_laws.specs.MemberViews.{View}
use Rattle.engine_laws.specs.WorkerMoves.{Hands, Fixed, request_placed, line_in, asked, replied, HoldsKey, AnswersKey}
use Rattle.engine_laws.specs.Beginning.{BeginsKey}
use Rattle.engine_laws.proofs.Numbers.{all_in, all_append, all_map}
use Rattle.engine_laws.proofs.Histories.{cell_of-append, stopped_lawful}
use Rattle.engine_laws.proofs.KeyMoves.{stopped_cell, stop_found}

module _ (v u : View) (w y x : Hands) (k : ℕ) (accepted : List (ℕ × Request)) (first more : List Fixed) (A : AnswersKey v u w y k accepted first) (B : BeginsKey u y x k more) (stays : w.stopped ≡ true → y.stopped ≡ true) where
  cases : (b : Bool) → (b ≡ true) ⊎ (b ≡ false)
  cases true = inl refl
  cases false = inr refl

  all_stopped : y.stopped ≡ true → AllByRecursion (λ (z : Request × Reply). z.1 ≡ Stopped) (map replied more)
  all_stopped on = all_map (λ (z : Request × Reply). z.1 ≡ Stopped) replied more (B.ends on).0

  -- the further answers, from what the first ones left
  further : IsLawfulFor (cell_of (v.cell k) (map replied first)) (stopped_of false (map replied first)) (map replied more)
  further = by (stopped_of false (map replied first)) refl where
    by : (b : Bool) → stopped_of false (map replied first) ≡ b → IsLawfulFor (cell_of (v.cell k) (map replied first)) b (map replied more)
    by true q = let found = stop_found first q in stopped_lawful _ true (map replied more) (all_stopped (A.stops found.0 found.1 found.2).0)
    by false q = elim (cases y.stopped) [
      | inl on ↦ stopped_lawful _ false (map replied more) (all_stopped on)
      | inr off ↦ subst (λ d. IsLawfulFor d false (map replied more)) (sym A.cell) (B.runs off).0
    ]

  same_cell : cell_of (u.cell k) (map replied more) ≡ u.cell k
  same_cell = elim (cases y.stopped) [
    | inl on ↦ stopped_cell (u.cell k) (map replied more) (all_stopped on)
    | inr off ↦ (B.runs off).1
  ]

  pairs : map replied (first ++ more) ≡ map replied first ++ map replied more
  pairs = map-append replied first more

  pub answers_then_begins : AnswersKey v u w x k accepted (first ++ more)
  answers_then_begins = record {
    order = A.order ∙ ap (λ l. map asked first ++ l) ((λ i. request_placed (B.idle i) ++ y.waits k) ∙ B.order) ∙ sym (append_assoc (map asked first) (map asked more) (line_in x k)) ∙ ap (λ l. l ++ line_in x k) (sym (map-append asked first more));
    lawful = subst (IsLawfulFor (v.cell k) false) (sym pairs) (lawful-append (v.cell k) false (map replied first) (map replied more) A.lawful further);
    cell = ap (cell_of (v.cell k)) pairs ∙ cell_of-append (v.cell k) (map replied first) (map replied more) ∙ ap (λ d. cell_of d (map replied more)) A.cell ∙ same_cell;
    after_stop = λ stop idle. (
        let a = A.after_stop stop idle in
        let b = B.ends (stays stop) in
        (all_append (λ (z : Fixed). z.reply ≡ Stopped) first more a.0 b.0, b.1));
    stops = λ z i is. elim (in_either z first more i) [
      | inl j ↦ (let a = A.stops z j is in (B.stopped ∙ a.0, (B.ends a.0).1))
      | inr j ↦ elim (cases y.stopped) [
        | inl on ↦ (B.stopped ∙ on, (B.ends on).1)
        | inr off ↦ absurd (all_in (λ (z : Fixed). z.reply ≢ Stopped) more z (B.runs off).2 j is)
      ]
    ];
    posted = λ z at posted. elim (A.posted z at posted) [
      | inl same ↦ absurd (let some = same.1 in let none = B.idle in cc (some, none))
      | inr head ↦ inr (head.0, head.1 ++ more, ap (λ l. l ++ more) head.2, head.3)
    ];
    doubt = λ d is. elim (A.doubt d is) [
      | inl was ↦ inl was
      | inr new ↦ inr (new.0, new.1 ++ more, new.2, new.3, new.4, new.5, ap (λ l. l ++ more) new.6, new.7)
    ];
  }

pub holds_then_begins : (u : View) (y x : Hands) (k : ℕ) (more : List Fixed) → BeginsKey u y x k more → HoldsKey u y k → HoldsKey u x k
holds_then_begins u y x k more B H = record {
  posted = λ z at posted. absurd (let off = B.staged z at in cc (posted, off));
  pending = λ p is. elim (H.pending p is) [
    | inl held ↦ absurd (let some = held.1 in let none = B.idle in cc (some, none))
    | inr doubt ↦ inr (doubt.0, (B.ends doubt.2).1, B.stopped ∙ doubt.2)
  ];
}
