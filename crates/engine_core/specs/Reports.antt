-- The replies and the report that are made of the answers kept by number.
use Rattle.std.specs.Prelude.{◌≡◌, ℕ, ◌+◌, ◌≤◌, ◌<◌, List, [], ◌∷◌, ◌++◌, length, map, Option, Some, None, Vec, vec_len, vec_capacity, if◌then◌else◌}
use Rattle.std.specs.Global.{Global}
use Rattle.std.specs.List.{AllByRecursion, slice_get}
use Rattle.fs_model.specs.declared.model.Request.{Request}
use Rattle.fs_model.specs.declared.model.Reply.{Reply}
use Rattle.fs_model.specs.declared.model.Reply.TheVariants.{Stopped}
use Rattle.fs_model.specs.Lawful.{is_finish}
use Rattle.core_room.specs.declared.types.Shortage.{Shortage}
use Rattle.pm_region.specs.State.{State, IsTelling}
use Rattle.headline.specs.Headline.{Told, Answers}
use Rattle.engine_laws.specs.Engine.{Engine}
use Rattle.engine_laws.specs.Stands.{Origin, start_of}
use Rattle.engine_laws.specs.Reports.{told_of, replies_of, AllAnswered}
use Rattle.engine_laws.specs.Promises.{HasStopped}
use Rattle.engine_core.specs.declared.types.Stamped.{Stamped}
use Rattle.engine_core.specs.declared.run_report.Finish.{Finish}
use Rattle.engine_core.specs.declared.run_report.Refusal.{Refusal}
use Rattle.engine_core.specs.declared.run_report.Report.{Report}
use Rattle.engine_core.specs.Answers.{reply_to, ShowsCause}

-- The numbers of a refusal show why its request was refused, whatever the region tells.
abbrev pub ShowsWhy : List Request → Refusal → Type 0
ShowsWhy asked x = (q : Request) × (slice_get asked x.request ≡ Some q) × ShowsCause q (Some x.why)

-- what a request's answer adds
abbrev pub finish_of : ℕ → Reply → ℕ → List Finish
finish_of n r t = if is_finish r then record { request = n; stamp = t } ∷ [] else []

abbrev pub refusal_of : ℕ → Option Shortage → List Refusal
refusal_of n None = []
refusal_of n (Some s) = record { request = n; why = s } ∷ []

abbrev pub reply_in : Option Stamped → Reply
reply_in None = Stopped
reply_in (Some x) = x.reply

abbrev pub finish_in : ℕ → Option Stamped → List Finish
finish_in n None = []
finish_in n (Some x) = finish_of n x.reply x.stamp

abbrev pub refusal_in : ℕ → Option Stamped → List Refusal
refusal_in n None = []
refusal_in n (Some x) = refusal_of n x.refusal

-- of those from number n on
abbrev pub finishes_in : ℕ → List (Option Stamped) → List Finish
finishes_in n [] = []
finishes_in n (x ∷ xs) = finish_in n x ++ finishes_in (n + 1) xs

abbrev pub refusals_in : ℕ → List (Option Stamped) → List Refusal
refusals_in n [] = []
refusals_in n (x ∷ xs) = refusal_in n x ++ refusals_in (n + 1) xs

pub record Adds (old new : Report) (answer : Option Stamped) : Type 0 where
  pub replies : new.replies.items ≡ old.replies.items ++ reply_in answer ∷ []
  pub finishes : new.finishes.items ≡ old.finishes.items
      ++ finish_in (length old.replies.items) answer
  pub refusals : new.refusals.items ≡ old.refusals.items
      ++ refusal_in (length old.replies.items) answer

-- what a report lists
pub record Listed : Type 0 where
  pub replies : List Reply
  pub finishes : List Finish
  pub refusals : List Refusal

abbrev pub listed : Report → Listed
listed r = record {
  replies = r.replies.items;
  finishes = r.finishes.items;
  refusals = r.refusals.items;
}

-- the same of answers that are kept by number
abbrev pub listed_of : List (Option Stamped) → Listed
listed_of answers = record {
  replies = map reply_in answers;
  finishes = finishes_in 0 answers;
  refusals = refusals_in 0 answers;
}

pub record IsReport (answers : List (Option Stamped)) (x : Listed) : Type 0 where
  pub replies : x.replies ≡ map reply_in answers
  pub finishes : x.finishes ≡ finishes_in 0 answers
  pub refusals : x.refusals ≡ refusals_in 0 answers

-- nothing is in it
pub record IsBlank (r : Report) : Type 0 where
  pub replies : r.replies.items ≡ []
  pub finishes : r.finishes.items ≡ []
  pub refusals : r.refusals.items ≡ []

-- Each list has room for so many items in all.
pub record HasRoomFor (n : ℕ) (r : Report) : Type 0 where
  pub replies : n ≤ vec_capacity r.replies
  pub finishes : n ≤ vec_capacity r.finishes
  pub refusals : n ≤ vec_capacity r.refusals

-- each list has room for an item more
pub record HasRoom (r : Report) : Type 0 where
  pub replies : vec_len r.replies < vec_capacity r.replies
  pub finishes : vec_len r.finishes < vec_capacity r.finishes
  pub refusals : vec_len r.refusals < vec_capacity r.refusals

-- a list has at most one item more, and as much room in all
abbrev pub Fills : {X : Type 0} → Vec X Global → Vec X Global → Type 0
Fills old new = (vec_len new ≤ vec_len old + 1) × (vec_capacity new ≡ vec_capacity old)

pub record FillsAll (old new : Report) : Type 0 where
  pub replies : Fills old.replies new.replies
  pub finishes : Fills old.finishes new.finishes
  pub refusals : Fills old.refusals new.refusals

-- each list has at most so many items
pub record IsWithin (n : ℕ) (r : Report) : Type 0 where
  pub replies : vec_len r.replies ≤ n
  pub finishes : vec_len r.finishes ≤ n
  pub refusals : vec_len r.refusals ≤ n

-- finishes and refusals in the words of the headline
abbrev pub as_told : List Finish → List Refusal → Told
as_told finishes refusals = record {
  finishes = map (λ f. (f.request, f.stamp)) finishes;
  refusals = map (λ x. (x.request, reply_to x.why)) refusals;
}

abbrev pub told_by : Listed → Told
told_by x = as_told x.finishes x.refusals

-- The report is that of a state, and its replies are some that the state may give: those that it has, where the region tells.
pub record ReportsOn (s : State) (o : Origin) (e : Engine) (x : Listed) : Type 0 where
  pub told_is : told_by x ≡ told_of e
  pub known : IsTelling s → x.replies ≡ replies_of e
  pub answers : Answers (IsTelling s) (start_of o) e.given (told_of e)
      (AllAnswered e → HasStopped e) x.replies
  pub counts : AllByRecursion (ShowsWhy e.given) x.refusals
