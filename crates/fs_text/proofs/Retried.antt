-- Calls of a reader or a writer of std that fail and are tried again.
use Rattle.std.proofs.Common.{ℕ, List, [], ◌++◌, Option, Some, None, refl, sym, ◌∙◌, ap, append-nil}
use Rattle.std.specs.Io.KnownBytes.{Keeps, Appends, Consumes}
use Rattle.fs_text.specs.Streams.{Gives}

pub keeps_none : (a : Option (List ℕ)) → Keeps a a
keeps_none None = tt
keeps_none (Some xs) = refl

pub keeps_more : (a b c : Option (List ℕ)) → Keeps a b → Keeps b c → Keeps a c
keeps_more None b c h k = tt
keeps_more (Some xs) (Some ys) (Some zs) h k = k ∙ h
keeps_more (Some xs) None c h k = absurd h
keeps_more (Some xs) (Some ys) None h k = absurd k

pub keeps_gives : (a b : Option (List ℕ)) → Keeps a b → Gives a b []
keeps_gives None b h = tt
keeps_gives (Some xs) (Some ys) h = sym h
keeps_gives (Some xs) None h = absurd h

pub consumes_gives : (a b c : Option (List ℕ)) (bytes : List ℕ) → Keeps a b → Consumes b c bytes → Gives a c bytes
consumes_gives None b c bytes h k = tt
consumes_gives (Some xs) (Some ys) (Some zs) bytes h k = sym h ∙ k
consumes_gives (Some xs) None c bytes h k = absurd h
consumes_gives (Some xs) (Some ys) None bytes h k = absurd k

pub keeps_appends : (a b : Option (List ℕ)) → Keeps a b → Appends a b []
keeps_appends None b h = tt
keeps_appends (Some xs) (Some ys) h = h ∙ sym (append-nil xs)
keeps_appends (Some xs) None h = absurd h

pub appends_more : (a b c : Option (List ℕ)) (bytes : List ℕ) → Keeps a b → Appends b c bytes → Appends a c bytes
appends_more None b c bytes h k = tt
appends_more (Some xs) (Some ys) (Some zs) bytes h k = k ∙ ap (λ us. us ++ bytes) h
appends_more (Some xs) None c bytes h k = absurd h
appends_more (Some xs) (Some ys) None bytes h k = absurd k
