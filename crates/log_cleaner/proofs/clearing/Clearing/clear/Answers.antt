use Rattle.std.proofs.Common.{cond, ◌==◌, ◌≡◌, ◌≤◌, ◌+◌, ℕ, List, length, None, subst, sym, ◌∙◌, ap, arith}
use Rattle.pm_region.specs.State.{State, During, IsTelling, cell_now}
use Rattle.pm_region.specs.Words.{KeepsOutside}
use Rattle.log_entry.specs.declared.entry.EntryName.{EntryName}
use Rattle.core_log.specs.Log.{LogState, first_of, tail_in}
use Rattle.core_log.specs.Chunk.{words_now, FreeOrLog}
use Rattle.core_log.specs.Opening.{EachInChunk}
use Rattle.core_log.specs.Retiring.{HasSameOrNone, RetiredChunk}
use Rattle.log_standing.specs.NameCounts.{StandingState, SameCopies, floor_at, floor_in, times_in}
use Rattle.log_cleaner.specs.Dropping.{lone_in, Drops}
use Rattle.log_cleaner.specs.Clearing.{ClearingState}
use Rattle.log_cleaner.specs.Copying.{IsSettledIn}
use Rattle.log_cleaner.proofs.ClearLaws.{clear_floors, clear_parts, clear_standing, clear_vanish}
use Rattle.log_cleaner.proofs.clearing.Clearing.clear.Goals as goal

pub drop_all-requires : goal.drop_all-requires
drop_all-requires g c = λ k v. subst (λ (l : List EntryName). times_in l k v ≤ 1) (sym c.deref.ensures.value) (c.self.invariant.once k v)

entries_at : (s t : State) (log : LogState) (i j : ℕ) → i ≡ j → During s t (EachInChunk log i (HasSameOrNone s log i)) → During s t (EachInChunk log j (HasSameOrNone s log j))
entries_at s t log i j e run = subst (λ (k : ℕ). During s t (EachInChunk log k (HasSameOrNone s log k))) e run

moments_at : (s t : State) (log : LogState) (i j : ℕ) → i ≡ j → During s t (EachInChunk log i (FreeOrLog (first_of log i) (tail_in log i) (words_now s (first_of log i) (tail_in log i))))
    → During s t (EachInChunk log j (FreeOrLog (first_of log j) (tail_in log j) (words_now s (first_of log j) (tail_in log j))))
moments_at s t log i j e run = subst (λ (k : ℕ). During s t (EachInChunk log k (FreeOrLog (first_of log k) (tail_in log k) (words_now s (first_of log k) (tail_in log k))))) e run

outside_at : (s t : State) (log : LogState) (i j : ℕ) → i ≡ j → During s t (KeepsOutside (cell_now s) (first_of log i) (first_of log i + 8)) → During s t (KeepsOutside (cell_now s) (first_of log j) (first_of log j + 8))
outside_at s t log i j e run = subst (λ (k : ℕ). During s t (KeepsOutside (cell_now s) (first_of log k) (first_of log k + 8))) e run

pub returns-in_err-retire-clause-moments : goal.returns-in_err-retire-clause-moments
returns-in_err-retire-clause-moments g c =
    let s = g.R.Region.state c.args.region.now in
    let t = g.R.Region.state c.retire.new.region in
    let log = c.args.log.now in
    let e = ap (λ (x : ClearingState). x.chunk) c.self.view_is in
    let gathered = λ (telling : IsTelling (g.R.Region.state c.args.region.now)). (c.requires.ready telling).gathered in
    let copied = λ (telling : IsTelling (g.R.Region.state c.args.region.now)). (c.requires.ready telling).copied in
    let counts = λ (telling : IsTelling (g.R.Region.state c.args.region.now)). (c.requires.standing telling).counts in
    let entries = entries_at s t log c.self.inside.chunk c.args.self.chunk e c.retire.ensures.entries in
    let outside = outside_at s t log c.self.inside.chunk c.args.self.chunk e c.retire.ensures.outside in
    record {
      entries = entries;
      outside = outside;
      parts = clear_parts s log c.args.standing.now c.args.self c.requires.stands c.requires.has gathered copied counts c.requires.agrees t
          entries (moments_at s t log c.self.inside.chunk c.args.self.chunk e c.retire.ensures.moments) outside;
    }

pub returns-clause-moments : goal.returns-clause-moments
returns-clause-moments g c =
    let s = g.R.Region.state c.args.region.now in
    let t = g.R.Region.state c.retire.new.region in
    let log = c.args.log.now in
    let e = ap (λ (x : ClearingState). x.chunk) c.self.view_is in
    let gathered = λ (telling : IsTelling (g.R.Region.state c.args.region.now)). (c.requires.ready telling).gathered in
    let copied = λ (telling : IsTelling (g.R.Region.state c.args.region.now)). (c.requires.ready telling).copied in
    let counts = λ (telling : IsTelling (g.R.Region.state c.args.region.now)). (c.requires.standing telling).counts in
    let entries = entries_at s t log c.self.inside.chunk c.args.self.chunk e c.retire.ensures.entries in
    let outside = outside_at s t log c.self.inside.chunk c.args.self.chunk e c.retire.ensures.outside in
    record {
      entries = entries;
      outside = outside;
      parts = clear_parts s log c.args.standing.now c.args.self c.requires.stands c.requires.has gathered copied counts c.requires.agrees t
          entries (moments_at s t log c.self.inside.chunk c.args.self.chunk e c.retire.ensures.moments) outside;
    }

dropped_at : (old mid new : StandingState) (ns : List EntryName) → SameCopies mid new → Drops old mid ns → Drops old new ns
dropped_at old mid new ns same drops k v = same k v ∙ drops k v

none_settled : (s : State) (log : LogState) (st : StandingState) → st.settled ≡ None → IsSettledIn s log st
none_settled s log st none h at = absurd (cc (sym none ∙ at))

forgot_at : (old mid new : StandingState) (i j : ℕ) → i ≡ j → mid.floors ≡ old.floors → ((k : ℕ) → floor_at new k ≡ cond (i == k) None (floor_at mid k)) → (k : ℕ) → floor_at new k ≡ cond (j == k) None (floor_at old k)
forgot_at old mid new i j e same forgot k = forgot k ∙ (λ t. cond (e t == k) None (floor_in (same t) k))

pub returns-clause-ok : goal.returns-clause-ok
returns-clause-ok g c =
    let s = g.R.Region.state c.args.region.now in
    let t = g.R.Region.state c.retire.new.region in
    let log = c.args.log.now in
    let st = c.args.standing.now in
    let e = ap (λ (x : ClearingState). x.chunk) c.self.view_is in
    let gathered = λ (telling : IsTelling (g.R.Region.state c.args.region.now)). (c.requires.ready telling).gathered in
    let copied = λ (telling : IsTelling (g.R.Region.state c.args.region.now)). (c.requires.ready telling).copied in
    let counts = λ (telling : IsTelling (g.R.Region.state c.args.region.now)). (c.requires.standing telling).counts in
    let retired = subst (RetiredChunk t log c.retire.new.self) e c.in_ok-retire.ensures.ok in
    let outside = outside_at s t log c.self.inside.chunk c.args.self.chunk e c.retire.ensures.outside in
    let dropped : Drops c.args.standing.now c.forget.new.self c.args.self.names = dropped_at c.args.standing.now c.drop_all.new.standing c.forget.new.self c.args.self.names c.forget.ensures.copies
    (subst (Drops c.args.standing.now c.drop_all.new.standing) (c.deref.ensures.value ∙ ap (λ (x : ClearingState). x.names) c.self.view_is) c.drop_all.ensures.drops) in
    record {
      retired = retired;
      dropped = dropped;
      standing = λ telling. record {
        counts = clear_standing s log st c.args.self c.requires.stands c.requires.has gathered copied counts c.requires.agrees t c.retire.new.self c.forget.new.self retired outside dropped telling;
        settled = none_settled t c.retire.new.self c.forget.new.self c.forget.ensures.settled;
      };
      vanish = λ telling. clear_vanish s log st c.args.self c.requires.stands c.requires.has gathered copied counts c.requires.agrees t c.retire.new.self c.forget.new.self retired outside dropped telling;
      floors = λ telling had. clear_floors s log st c.args.self c.requires.stands c.requires.has gathered copied counts c.requires.agrees t c.retire.new.self c.forget.new.self retired outside dropped telling (forgot_at st c.drop_all.new.standing c.forget.new.self c.self.inside.chunk c.args.self.chunk e c.drop_all.ensures.floors c.forget.ensures.floors) had;
    }

pub returns-clause-count : goal.returns-clause-count
returns-clause-count g c = (let less = c.drop_all.ensures.count in let same = ap length c.forget.ensures.count in let lone = ap (lone_in c.args.standing.now) (c.deref.ensures.value ∙ ap (λ (x : ClearingState). x.names) c.self.view_is) in omega (arith, less, same, lone))

pub returns-clause-room : goal.returns-clause-room
returns-clause-room g c = c.forget.ensures.room ∙ c.drop_all.ensures.room
