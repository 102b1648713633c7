-- The notes of a run's answers, an answer more and many more.
use Rattle.std.proofs.Common.{◌≡◌, ℕ, zero, suc, ◌+◌, ◌≤◌, List, [], ◌∷◌, ◌++◌, length, map, Option, Some, None, refl, sym, ◌∙◌, ap, arith, append_assoc, append-nil}
use Rattle.std.proofs.lemmas.List.{map-append}
use Rattle.engine_core.specs.declared.types.Stamped.{Stamped}
use Rattle.engine_core.specs.Reports.{refusal_in, refusals_in}
use Rattle.thread_engine.specs.Collected.{with_stamp, restamped, blanks}
use Rattle.thread_engine.specs.Noted.{IsNoted, HasNoteRoom, NotesOne, is_finished}
use Rattle.thread_engine.specs.declared.run_notes.RunNotes.{RunNotes}
use Rattle.thread_engine.proofs.Places.{map_long}

refusals_more : (n : ℕ) (xs : List (Option Stamped)) (x : Option Stamped) → refusals_in n (xs ++ x ∷ []) ≡ refusals_in n xs ++ refusal_in (n + length xs) x
refusals_more n [] x =
    let z : n ≡ n + 0 = omega arith in
    append-nil (refusal_in n x) ∙ ap (λ m. refusal_in m x) z
refusals_more n (y ∷ ys) x =
    let z : n + 1 + length ys ≡ n + length (y ∷ ys) = omega arith in
    ap (λ zs. refusal_in n y ++ zs) (refusals_more (n + 1) ys x ∙ ap (λ m. refusals_in (n + 1) ys ++ refusal_in m x) z)
    ∙ sym (append_assoc (refusal_in n y) (refusals_in (n + 1) ys) (refusal_in (n + length (y ∷ ys)) x))

-- an answer more
pub noted_more : (ks : List (Option Stamped)) (x : Option Stamped) (old new : RunNotes) → IsNoted ks old → NotesOne x old new → IsNoted (ks ++ x ∷ []) new
noted_more ks x old new I N =
    let count : length old.finished.items ≡ 0 + length ks = ap length I.finished ∙ map_long is_finished ks ∙ omega arith in
    record {
      finished = N.finished ∙ ap (λ l. l ++ is_finished x ∷ []) I.finished ∙ sym (map-append is_finished ks (x ∷ []));
      refusals = N.refusals ∙ (λ i. I.refusals i ++ refusal_in (count i) x) ∙ sym (refusals_more 0 ks x);
    }

-- room for more is room for fewer
pub fewer_room : (n m : ℕ) (x : RunNotes) → n ≤ m → HasNoteRoom m x → HasNoteRoom n x
fewer_room n m x low H = record {
  finished = (let h = H.finished in omega (arith, h, low));
  refusals = (let h = H.refusals in omega (arith, h, low));
}

-- the room that is left behind an answer
pub room_left : (n : ℕ) (x : Option Stamped) (old new : RunNotes) → NotesOne x old new → HasNoteRoom (suc n) old → HasNoteRoom n new
room_left n x old new N H = record {
  finished = (let h = H.finished in let m = N.more in let r = N.room in omega (arith, h, m, r));
  refusals = (let h = H.refusals in let m = N.as_many in let r = N.same_room in omega (arith, h, m, r));
}

-- places without an answer
pub blanks_more : (n : ℕ) → blanks n ++ None ∷ [] ≡ blanks (n + 1)
blanks_more zero = refl
blanks_more (suc n) = (let z : suc (n + 1) ≡ suc n + 1 = omega arith in ap (λ l. None ∷ l) (blanks_more n) ∙ ap blanks z)

-- a stamp is not noted
same_finished : (t : ℕ) (ks : List (Option Stamped)) → map is_finished (restamped t ks) ≡ map is_finished ks
same_finished t [] = refl
same_finished t (None ∷ ks) = ap (λ l. is_finished None ∷ l) (same_finished t ks)
same_finished t (Some x ∷ ks) = ap (λ l. is_finished (Some x) ∷ l) (same_finished t ks)

same_refusals : (t n : ℕ) (ks : List (Option Stamped)) → refusals_in n (restamped t ks) ≡ refusals_in n ks
same_refusals t n [] = refl
same_refusals t n (None ∷ ks) = same_refusals t (n + 1) ks
same_refusals t n (Some x ∷ ks) = ap (λ l. refusal_in n (Some x) ++ l) (same_refusals t (n + 1) ks)

pub noted_restamped : (t : ℕ) (ks : List (Option Stamped)) (x : RunNotes) → IsNoted ks x → IsNoted (restamped t ks) x
noted_restamped t ks x I = record {
  finished = I.finished ∙ sym (same_finished t ks);
  refusals = I.refusals ∙ sym (same_refusals t 0 ks);
}

-- a stamp is set once
pub twice_restamped : (t : ℕ) (ks : List (Option Stamped)) → restamped t (restamped t ks) ≡ restamped t ks
twice_restamped t [] = refl
twice_restamped t (None ∷ ks) = ap (λ l. None ∷ l) (twice_restamped t ks)
twice_restamped t (Some x ∷ ks) = ap (λ l. with_stamp t (Some x) ∷ l) (twice_restamped t ks)
