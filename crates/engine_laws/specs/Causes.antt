-- Why requests were refused, by what was found, the requests given so far, and any that are still to come.
use Rattle.std.specs.Prelude.{◌≡◌, ℕ, ◌+◌, ◌≤◌, List, ◌++◌, take, true, Some, slice_get}
use Rattle.fs_model.specs.declared.model.Request.{Request}
use Rattle.fs_model.specs.declared.model.Reply.TheVariants.{Full, VersionsSpent, TooLong}
use Rattle.log_entry.specs.declared.entry_limits.TheConstants.{LAST_PUT_VERSION}
use Rattle.chunk_map.specs.Layouts.{layout_of, owner}
use Rattle.headline.specs.Ample.{IsAmpleFor}
use Rattle.headline.specs.Limits.{IsAsked, version_of, changes_asked, is_too_long}
use Rattle.engine_laws.specs.Engine.{Engine, Answer}
use Rattle.engine_laws.specs.Stands.{Origin}

pub record Causes (o : Origin) (e : Engine) : Type 0 where
  -- for want of room only where the input is not ample for the part of its key's owner
  pub full : (more : List Request) (n k : ℕ) (a : Answer) → e.answer n ≡ Some a → a.reply ≡ Full
      → IsAsked (e.given ++ more) n k
      → IsAmpleFor (layout_of o.found) o.found (e.given ++ more) (owner (layout_of o.found) k) → ⊥
  -- for its version only where the version found and the key's earlier changes use the versions up
  pub spent : (more : List Request) (n k : ℕ) (a : Answer) → e.answer n ≡ Some a
      → a.reply ≡ VersionsSpent → IsAsked (e.given ++ more) n k
      → LAST_PUT_VERSION ≤ version_of o.found k + changes_asked k (take n (e.given ++ more))
  -- for its length only where the value is too long
  pub long : (more : List Request) (n : ℕ) (q : Request) (a : Answer) → e.answer n ≡ Some a
      → a.reply ≡ TooLong → slice_get (e.given ++ more) n ≡ Some q
      → is_too_long (layout_of o.found) q ≡ true
