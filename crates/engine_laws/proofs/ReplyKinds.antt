-- Lawful replies are of the kinds that their requests can have.
use Rattle.std.proofs.Common.{◌≡◌, inl, inr, ℕ, ◌==◌, ◌||◌, List, [], ◌∷◌, length, true, false, Bool, Option, Some, None, refl, ap, ◌∙◌, arith}
use Rattle.std.specs.List.{AllByRecursion, zip}
use Rattle.std.proofs.lemmas.Bool.{eq-eqb}
use Rattle.fs_model.specs.declared.model.Request.{Request}
use Rattle.fs_model.specs.declared.model.Request.TheVariants.{Put, Get, Delete}
use Rattle.fs_model.specs.declared.model.Reply.{Reply}
use Rattle.fs_model.specs.declared.model.Reply.TheVariants.{Stored, Value, Absent, Deleted, Full, VersionsSpent, TooLong, Stopped}
use Rattle.fs_model.specs.Cells.{key_of, answer_to}
use Rattle.fs_model.specs.Lawful.{IsLawful, IsLawfulFor, MayReply, asked, cell_left, is_stopped, may_refuse}
use Rattle.store_image.specs.Facts.{In}
use Rattle.headline.specs.Kinds.{AreReplies, is_reply_to}
use Rattle.headline.proofs.Clients.{stopped_to}
use Rattle.engine_laws.proofs.Numbers.{all_in, filter_in}

given_kind : (q : Request) (c : Option (List ℕ)) → is_reply_to q (answer_to q c) ≡ true
given_kind (Put k v) c = refl
given_kind (Get k) None = refl
given_kind (Get k) (Some v) = refl
given_kind (Delete k) None = refl
given_kind (Delete k) (Some v) = refl

refused_kind : (q : Request) (c : Option (List ℕ)) (r : Reply) → may_refuse q c r ≡ true → is_reply_to q r ≡ true
refused_kind q c Stopped h = stopped_to q
refused_kind q c Stored h = cc h
refused_kind q c (Value v) h = cc h
refused_kind q c Absent h = cc h
refused_kind q c Deleted h = cc h
refused_kind (Put k v) c Full h = refl
refused_kind (Put k v) c VersionsSpent h = refl
refused_kind (Put k v) c TooLong h = refl
refused_kind (Get k) c Full h = cc h
refused_kind (Get k) c VersionsSpent h = cc h
refused_kind (Get k) c TooLong h = cc h
refused_kind (Delete k) c Full h = refl
refused_kind (Delete k) c VersionsSpent h = cc h
refused_kind (Delete k) c TooLong h = cc h

kind_of : (q : Request) (c : Option (List ℕ)) (s : Bool) (r : Reply) → MayReply q c s r → is_reply_to q r ≡ true
kind_of q c true r h = ap (is_reply_to q) h ∙ stopped_to q
kind_of q c false r (inl h) = ap (is_reply_to q) h ∙ given_kind q c
kind_of q c false r (inr h) = refused_kind q c r h

kinds_of : (c : Option (List ℕ)) (s : Bool) (xs : List (Request × Reply)) → IsLawfulFor c s xs → AllByRecursion (λ (x : Request × Reply). is_reply_to x.0 x.1 ≡ true) xs
kinds_of c s [] h = tt
kinds_of c s (x ∷ xs) h = (kind_of x.0 c s x.1 h.0, kinds_of (cell_left x.0 x.1 c) (s || is_stopped x.1) xs h.1)

zipped : (qs : List Request) (rs : List Reply) → length rs ≡ length qs → ((x : Request × Reply) → In x (zip qs rs) → is_reply_to x.0 x.1 ≡ true) → AreReplies qs rs
zipped [] [] e h = tt
zipped [] (r ∷ rs) e h = absurd (omega (arith, e))
zipped (q ∷ qs) [] e h = absurd (omega (arith, e))
zipped (q ∷ qs) (r ∷ rs) e h = (h (q, r) (inl refl), zipped qs rs (omega (arith, e)) (λ x i. h x (inr i)))

pub are_replies : (start : ℕ → Option (List ℕ)) (trace : List Request) (replies : List Reply) → IsLawful start trace replies → AreReplies trace replies
are_replies start trace replies L = zipped trace replies L.count (λ x i.
    all_in (λ (y : Request × Reply). is_reply_to y.0 y.1 ≡ true) (asked (key_of x.0) (zip trace replies)) x (kinds_of (start (key_of x.0)) false (asked (key_of x.0) (zip trace replies)) (L.each (key_of x.0)))
    (filter_in (λ (y : Request × Reply). key_of y.0 == key_of x.0) (zip trace replies) x i (eq-eqb (key_of x.0) (key_of x.0) refl)))
