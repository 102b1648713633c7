-- What one step more in a journal makes of the state.
use Rattle.std.proofs.Common.{◌≡◌, ℕ, List, ◌∷◌, cond, eqb, eq-eqb, Option, Some, None, refl, sym, ap, ◌∙◌}
use Rattle.log_entry.specs.declared.entry.Entry.{Entry}
use Rattle.group_laws.specs.Runs.{Kind}
use Rattle.group_laws.specs.OpeningImages.{opened}
use Rattle.group_laws.specs.MemberViews.{view_of}
use Rattle.group_board.specs.Trails.{step_with}
use Rattle.group_board.specs.declared.board_journal.Act.{Act}
use Rattle.group_board.specs.declared.board_journal.Note.{Note}
use Rattle.group_board.specs.declared.board_journal.BoardJournal.{BoardJournal}
use Rattle.group_board.specs.Journals.{image_of, place_in, begun, note_of, noted, effect, with_finished, names_in, names, state, lock_act, finish_act, kind_of, trail_in, at_or, at_in}

state_noted : (n : Note) (j : BoardJournal) → state (noted n j) ≡ effect (names (noted n j)) (state j) n.member n.act
unfolding state names
state_noted n j = refl

names_noted : (n : Note) (j : BoardJournal) → names (noted n j) ≡ with_finished n.act (names j)
unfolding names
names_noted n j = refl

pub state_begun : (g : ℕ) (ws : List ℕ) → state (begun g ws) ≡ opened (place_in g ws) (image_of ws)
unfolding state
state_begun g ws = refl

pub names_begun : (g : ℕ) (ws : List ℕ) → names (begun g ws) ≡ names_in g ws
unfolding names
names_begun g ws = refl

pub state_is : (i j : BoardJournal) (m : ℕ) (a : Act) → i ≡ noted (note_of m a) j → state i ≡ effect (names i) (state j) m a
state_is i j m a e = ap state e ∙ (state_noted (note_of m a) j ∙ ap (λ x. effect (names x) (state j) m a) (sym e))

pub names_are : (i j : BoardJournal) (m : ℕ) (a : Act) → i ≡ noted (note_of m a) j → names i ≡ with_finished a (names j)
names_are i j m a e = ap names e ∙ names_noted (note_of m a) j

-- the member's trail has the step of its act in front
pub trail_is : (i j : BoardJournal) (m : ℕ) (a : Act) → i ≡ noted (note_of m a) j → trail_in m i ≡ step_with (kind_of a) (view_of (state i) m) ∷ trail_in m j
unfolding state
trail_is i j m a e = ap (trail_in m) e ∙ ap (λ c. cond c (step_with (kind_of a) (view_of (state (noted (note_of m a) j)) m) ∷ trail_in m j) (trail_in m j)) (eq-eqb m m refl) ∙ ap (λ (x : BoardJournal). step_with (kind_of a) (view_of (state x) m) ∷ trail_in m j) (sym e)

pub lock_kind : (h : Option ℕ) → kind_of (lock_act h) ≡ Kind.Lock
lock_kind None = refl
lock_kind (Some h) = refl

pub finish_kind : (s : ℕ) (e : Entry) (home : Option ℕ) → kind_of (finish_act s e home) ≡ Kind.Finish s
finish_kind s e None = refl
finish_kind s e (Some h) = refl

pub at_is : (i j : BoardJournal) (m : ℕ) (a : Act) → i ≡ noted (note_of m a) j → at_in m i ≡ at_or (at_in m j) a
at_is i j m a e = ap (at_in m) e ∙ ap (λ c. cond c (at_or (at_in m j) a) (at_in m j)) (eq-eqb m m refl)
