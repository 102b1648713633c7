-- Where a run stands after the first requests of its trace.
use Rattle.std.specs.Prelude.{◌≡◌, ℕ, ◌<◌, ◌≤◌, List, [], length, true, false, Option}
use Rattle.std.specs.List.{zip}
use Rattle.fs_model.specs.declared.model.Request.{Request}
use Rattle.fs_model.specs.declared.model.Reply.{Reply}
use Rattle.fs_model.specs.Lawful.{IsLawful, Fits, asked, cell_of, stopped_of}
use Rattle.fs_model.specs.Changes.{names, finished_changes, unfinished_change, cell_after_all, finished_by}
use Rattle.store_image.specs.Soundness.{IsSound}
use Rattle.headline.specs.Headline.{Told, finished_in, refused_in, cells_of}

-- The requests so far are answered, each change is finished, and the cells are what the finished changes leave.
-- No stamp of a finish is past `now`. That the replies are lawful is said where `Known` holds: where the region told what was read.
pub record Answered (Known : Type 0) (start : ℕ → Option (List ℕ)) (done : List Request)
    (replies : List Reply) (r : Told) (now : ℕ) (cell : ℕ → Option (List ℕ)) : Type 0 where
  pub count : length replies ≡ length done
  pub lawful : Known → IsLawful start done replies
  pub fits : Fits (finished_in r) r.refusals replies
  pub cells : (k : ℕ) → cell_of (start k) (asked k (zip done replies)) ≡ cell k
  pub going : (k : ℕ) → stopped_of false (asked k (zip done replies)) ≡ false
  pub left : (k : ℕ) → cell_after_all (finished_changes k done (finished_in r)) (start k) ≡ cell k
  pub settled : (k : ℕ) → unfinished_change (start k) k done (finished_in r) (refused_in r) ≡ []
  pub finishes : (i : ℕ) → names (finished_in r) i ≡ true → i < length done
  pub refusals : (i : ℕ) → names (refused_in r) i ≡ true → i < length done
  pub counted : (k t : ℕ) → finished_by k done r.finishes t
      ≤ length (finished_changes k done (finished_in r))
  pub whole : (k t : ℕ) → now ≤ t → finished_by k done r.finishes t
      ≡ length (finished_changes k done (finished_in r))

-- What stays true when the store has stopped: the replies are lawful, where that is known, and fit the report, and the report names none but the requests so far.
pub record Recorded (Known : Type 0) (start : ℕ → Option (List ℕ)) (done : List Request)
    (replies : List Reply) (r : Told) : Type 0 where
  pub count : length replies ≡ length done
  pub lawful : Known → IsLawful start done replies
  pub fits : Fits (finished_in r) r.refusals replies
  pub finishes : (i : ℕ) → names (finished_in r) i ≡ true → i < length done
  pub refusals : (i : ℕ) → names (refused_in r) i ≡ true → i < length done
  pub counted : (k t : ℕ) → finished_by k done r.finishes t
      ≤ length (finished_changes k done (finished_in r))

-- the image is sound and recovers these cells
pub record HoldsCells (bytes : ℕ) (cell : ℕ → Option (List ℕ)) (image : ℕ → ℕ) : Type 0 where
  pub sound : IsSound bytes image
  pub cells : (k : ℕ) → cells_of image k ≡ cell k
