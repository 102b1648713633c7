-- The parts of a region in a file.
use Rattle.std.proofs.Common.{◌≡◌, ◌⊎◌, inl, ⊎_elim, ℕ, zero, suc, ◌+◌, ◌-◌, ◌/◌, ◌≤◌, ◌<◌, true, refl, List, [], ◌∷◌, ◌++◌, length, get_or, sym, ◌∙◌, ap, subst, arith, length-append}
use Rattle.std.proofs.lemmas.Bool.{cases_eq}
use Rattle.std.proofs.lemmas.List.{get_or_push, get_or_append_left}
use Rattle.pm_region.specs.Split.{words_in, AreCuts, IsBetween}
use Rattle.region_file.specs.Filed.{word_of, flushes, TakesPart}
use Rattle.region_file.specs.Files.{IsFilePart, AreFileParts, ArePlaced, HaveTaken, end_of, file_piece_state}
use Rattle.region_file.specs.declared.file_words.FileWords.{FileWords}
use Rattle.region_file.specs.declared.file_piece.FilePiece.{FilePiece}

pub file_parts_more : (path : List ℕ) (w : FileWords) (cuts : List ℕ) (stamp faults : ℕ) (pieces pieces' : List FilePiece) (i : ℕ) (q : FilePiece) → AreFileParts path w cuts stamp faults pieces i → IsFilePart path w cuts stamp faults i q
    → pieces' ≡ pieces ++ q ∷ [] → AreFileParts path w cuts stamp faults pieces' (i + 1)
file_parts_more path w cuts stamp faults pieces pieces' i q are part is = record {
  count = ap length is ∙ (omega (arith, are.count, length-append pieces (q ∷ [])));
  each = λ j p lt. ⊎_elim (λ e. here j p e) (λ ne. there j p (omega arith)) (cases_eq j i);
}
  where
    here : (j : ℕ) (p : FilePiece) → j ≡ i → IsFilePart path w cuts stamp faults j (get_or pieces' j p)
    here j p e =
        let there : get_or pieces' i p ≡ q = ap (λ (l : List FilePiece). get_or l i p) is ∙ get_or_push pieces q p i are.count in
        subst (λ (n : ℕ). IsFilePart path w cuts stamp faults n (get_or pieces' n p)) (sym e) (subst (λ (s : FilePiece). IsFilePart path w cuts stamp faults i s) (sym there) part)

    there : (j : ℕ) (p : FilePiece) → j < i → IsFilePart path w cuts stamp faults j (get_or pieces' j p)
    there j p lt =
        let count = are.count in
        let same : get_or pieces' j p ≡ get_or pieces j p = ap (λ (l : List FilePiece). get_or l j p) is ∙ get_or_append_left pieces (q ∷ []) p j (omega arith) in
        subst (λ (s : FilePiece). IsFilePart path w cuts stamp faults j s) (sym same) (are.each j p lt)

-- an item of a list, whatever stands for those that aren't there
same_item : (pieces : List FilePiece) (i : ℕ) (p q : FilePiece) → i < length pieces → get_or pieces i p ≡ get_or pieces i q
same_item (x ∷ pieces) zero p q lt = refl
same_item (x ∷ pieces) (suc i) p q lt = same_item pieces i p q (omega arith)
same_item [] i p q lt = absurd (omega arith)

-- nothing was taken yet
pub none_taken : (w : FileWords) (pieces : List FilePiece) → HaveTaken w w pieces 0
none_taken w pieces = record {
  size = refl;
  inner = λ i p k lt in_piece. absurd (omega arith);
  outer = λ k none. refl;
  keeps = λ line yes. yes;
  takes = λ i p line lt yes. absurd (omega arith);
}

-- one piece more is taken
pub taken_more : (old now new : FileWords) (words i : ℕ) (pieces : List FilePiece) (q : FilePiece) → i < length pieces → ArePlaced words pieces → q ≡ get_or pieces i q
    → HaveTaken old now pieces i → TakesPart now new q.words q.first → HaveTaken old new pieces (i + 1)
taken_more old now new words i pieces q lt placed is have takes = record {
  size = takes.size ∙ have.size;
  inner = λ j p k below in_piece. ⊎_elim (λ e. here j p k e in_piece) (λ ne. before j p k (omega arith) in_piece) (cases_eq j i);
  outer = λ k none. takes.outer k (subst (λ (s : FilePiece). (k < s.first) ⊎ (end_of s ≤ k)) (sym is) (none i q (omega arith))) ∙ have.outer k (λ j p below. none j p (omega arith));
  keeps = λ line yes. takes.keeps line (have.keeps line yes);
  takes = λ j p line below yes. ⊎_elim (λ e. line_here j p line e yes) (λ ne. takes.keeps _ (have.takes j p line (omega arith) yes)) (cases_eq j i);
}
  where
    at : (j : ℕ) (p : FilePiece) → j ≡ i → get_or pieces j p ≡ q
    at j p e = ap (λ (n : ℕ). get_or pieces n p) e ∙ same_item pieces i p q lt ∙ sym is

    here : (j : ℕ) (p : FilePiece) (k : ℕ) → j ≡ i → k < words_in (get_or pieces j p).words.size → word_of new ((get_or pieces j p).first + k) ≡ word_of (get_or pieces j p).words k
    here j p k e = subst (λ (s : FilePiece). k < words_in s.words.size → word_of new (s.first + k) ≡ word_of s.words k) (sym (at j p e)) (takes.inner k)

    before : (j : ℕ) (p : FilePiece) (k : ℕ) → j < i → k < words_in (get_or pieces j p).words.size → word_of new ((get_or pieces j p).first + k) ≡ word_of (get_or pieces j p).words k
    before j p k below in_piece =
        let s = get_or pieces j p in
        let apart : end_of s ≤ q.first = subst (λ (r : FilePiece). end_of s ≤ r.first) (sym (is_at p)) (placed.apart j i p below lt) in
        takes.outer (s.first + k) (inl (omega arith)) ∙ have.inner j p k below in_piece
      where
        is_at : (p : FilePiece) → q ≡ get_or pieces i p
        is_at p = is ∙ same_item pieces i q p lt

    line_here : (j : ℕ) (p : FilePiece) (line : ℕ) → j ≡ i → flushes (get_or pieces j p).words line ≡ true → flushes new ((get_or pieces j p).first / 8 + line) ≡ true
    line_here j p line e = subst (λ (s : FilePiece). flushes s.words line ≡ true → flushes new (s.first / 8 + line) ≡ true) (sym (at j p e)) (takes.takes line)

-- the cuts rise from any to any later one
pub cuts_rise : (words : ℕ) (cuts : List ℕ) (n j : ℕ) → AreCuts words cuts → j + n < length cuts → get_or cuts j 0 ≤ get_or cuts (j + n) 0
cuts_rise words cuts zero j are lt =
    let e : j ≡ j + zero = omega arith in
    let same : get_or cuts j 0 ≤ get_or cuts j 0 = omega arith in
    subst (λ (m : ℕ). get_or cuts j 0 ≤ get_or cuts m 0) e same
cuts_rise words cuts (suc n) j are lt =
    let before = cuts_rise words cuts n j are (omega arith) in
    let step = are.rising (j + n) (omega arith) in
    let e : j + suc n ≡ j + n + 1 = omega arith in
    subst (λ (m : ℕ). get_or cuts j 0 ≤ get_or cuts m 0) (sym e) (omega (arith, before, step))

-- the pieces of a region lie one behind the other
pub pieces_placed : (words : ℕ) (cuts : List ℕ) (pieces : List FilePiece) → AreCuts words cuts → length pieces ≡ length cuts - 1
    → ((i : ℕ) (p : FilePiece) → i < length pieces → IsBetween (file_piece_state (get_or pieces i p)).frame cuts i) → ArePlaced words pieces
pieces_placed words cuts pieces are count between = record {
  within = λ i p lt. let b = (between i p lt).end in let w = are.within (i + 1) (omega arith) in omega (arith, b, w);
  apart = λ j i p below lt.
      let b = (between j p (omega arith)).end in
      let f = (between i p lt).first in
      let far = cuts_rise words cuts (i - (j + 1)) (j + 1) are (omega arith) in
      let e : j + 1 + (i - (j + 1)) ≡ i = omega arith in
      let far' : get_or cuts (j + 1) 0 ≤ get_or cuts i 0 = subst (λ (m : ℕ). get_or cuts (j + 1) 0 ≤ get_or cuts m 0) e far in
      omega (arith, b, f, far');
}
