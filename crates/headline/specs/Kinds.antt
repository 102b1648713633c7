-- Which kinds of reply a request can have, whatever its cell.
use Rattle.std.specs.Prelude.{◌≡◌, List, [], ◌∷◌, Bool, true, false}
use Rattle.fs_model.specs.declared.model.Request.{Request}
use Rattle.fs_model.specs.declared.model.Request.TheVariants.{Put, Get, Delete}
use Rattle.fs_model.specs.declared.model.Reply.{Reply}
use Rattle.fs_model.specs.declared.model.Reply.TheVariants.{Stored, Value, Absent, Deleted, Full, VersionsSpent, TooLong, Stopped}

abbrev pub is_put_reply : Reply → Bool
is_put_reply Stored = true
is_put_reply (Value v) = false
is_put_reply Absent = false
is_put_reply Deleted = false
is_put_reply Full = true
is_put_reply VersionsSpent = true
is_put_reply TooLong = true
is_put_reply Stopped = true

abbrev pub is_get_reply : Reply → Bool
is_get_reply Stored = false
is_get_reply (Value v) = true
is_get_reply Absent = true
is_get_reply Deleted = false
is_get_reply Full = false
is_get_reply VersionsSpent = false
is_get_reply TooLong = false
is_get_reply Stopped = true

abbrev pub is_delete_reply : Reply → Bool
is_delete_reply Stored = false
is_delete_reply (Value v) = false
is_delete_reply Absent = true
is_delete_reply Deleted = true
is_delete_reply Full = true
is_delete_reply VersionsSpent = false
is_delete_reply TooLong = false
is_delete_reply Stopped = true

abbrev pub is_reply_to : Request → Reply → Bool
is_reply_to (Put k v) r = is_put_reply r
is_reply_to (Get k) r = is_get_reply r
is_reply_to (Delete k) r = is_delete_reply r

-- One reply for each request, in their order, each of a kind that its request can have.
abbrev pub AreReplies : List Request → List Reply → Type 0
AreReplies [] [] = Unit {0}
AreReplies [] (r ∷ rs) = ⊥
AreReplies (q ∷ qs) [] = ⊥
AreReplies (q ∷ qs) (r ∷ rs) = (is_reply_to q r ≡ true) × AreReplies qs rs
