-- One reply more, and what holds of replies whatever the region tells.
use Rattle.std.proofs.Common.{◌≡◌, List, [], ◌∷◌, ◌++◌, true}
use Rattle.std.specs.List.{AllByRecursion}
use Rattle.fs_model.specs.declared.model.Request.{Request}
use Rattle.fs_model.specs.declared.model.Request.TheVariants.{Put, Get, Delete}
use Rattle.fs_model.specs.declared.model.Reply.{Reply}
use Rattle.fs_model.specs.declared.model.Reply.TheVariants.{Stopped}
use Rattle.headline.specs.Kinds.{AreReplies, is_reply_to}

pub are_more : (qs : List Request) (rs : List Reply) (q : Request) (r : Reply) → AreReplies qs rs → is_reply_to q r ≡ true → AreReplies (qs ++ q ∷ []) (rs ++ r ∷ [])
are_more [] [] q r a is = (is, tt)
are_more [] (x ∷ rs) q r a is = absurd a
are_more (y ∷ qs) [] q r a is = absurd a
are_more (y ∷ qs) (x ∷ rs) q r a is = (a.0, are_more qs rs q r a.1 is)

pub all_more : {A : Type 0} (P : A → Type 0) (xs : List A) (x : A) → AllByRecursion P xs → P x → AllByRecursion P (xs ++ x ∷ [])
all_more P [] x h p = (p, tt)
all_more P (y ∷ xs) x h p = (h.0, all_more P xs x h.1 p)

pub stopped_to : (q : Request) → is_reply_to q Stopped ≡ true
stopped_to (Put k v) = cc
stopped_to (Get k) = cc
stopped_to (Delete k) = cc
