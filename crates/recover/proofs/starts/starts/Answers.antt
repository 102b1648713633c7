use Rattle.std.proofs.Common.{◌≡◌, ℕ, List, ◌<◌, ◌≤◌, ◌+◌, ◌++◌, ◌∷◌, [], length, length-append, sym, ◌∙◌, ap, subst, append_assoc, arith}
use Rattle.std.specs.Prelude.{slice_index_or}
use Rattle.pm_region.specs.Words.{lasts}
use Rattle.chunk_map.specs.declared.layouts.Geometry.{Geometry}
use Rattle.store_image.specs.Parts.{all_entries}
use Rattle.log_standing.specs.Notes.{Noted}
use Rattle.recover.specs.declared.types.CoreStart.{CoreStart}
use Rattle.recover.specs.declared.shares.Share.{Share}
use Rattle.recover.specs.Shares.{IsShare}
use Rattle.recover.specs.LogNames.{AreNamesOf, AreNames}
use Rattle.recover.specs.Logs.{IsStart}
use Rattle.recover.specs.Starts.{IsSpelledIndex}
use Rattle.recover.specs.Heads.{AllStart, IsStartOf}
use Rattle.recover.proofs.CauseLaws.{handed_on}
use Rattle.recover.proofs.ListLaws.{behind}
use Rattle.recover.proofs.LogLaws.{each_more}
use Rattle.recover.proofs.starts.starts.Goals as goal

-- a share stands in the list at the number of its core
at_core : (all done rest : List Share) (share : Share) (n cores : ℕ) → all ≡ done ++ (share ∷ rest) → length done ≡ n → length all ≡ cores → (n < cores) × (slice_index_or all n share ≡ share)
at_core all done rest share n cores split passed count =
    let long = ap length split ∙ length-append done (share ∷ rest) in
    (omega (arith, long, passed, count), ap (λ xs. slice_index_or xs n share) split ∙ behind done share rest n share passed)

-- the names that are taken are those of the core
taken_names : (l : Geometry) (image : ℕ → ℕ) (all left : List (List Noted)) (own : List Noted) (n : ℕ) → n < l.cores → AreNames l image all → ((c : ℕ) (d : List Noted) → n ≤ c → slice_index_or left c d ≡ slice_index_or all c d)
    → ((d : List Noted) → own ≡ slice_index_or left n d) → AreNamesOf l image n own
taken_names l image all left own n lt are untaken taken = subst (AreNamesOf l image n) (sym (taken [] ∙ untaken n [] (omega arith))) (are n [] lt)

pub start-requires-clause-index : goal.start-requires-clause-index
start-requires-clause-index g c =
    let inv = c.loop-share.invariant in
    let share = c.in-Some.share in
    let at = at_core c.args.shares.items c.loop-share.yielded c.next.new.self.rest.items share c.loop-share.core c.args.layout.now.cores (inv.split ∙ ap (λ xs. c.loop-share.yielded ++ xs) c.in-Some.ensures.steps.0) inv.passed c.requires.count in
    subst (λ (s : Share). IsSpelledIndex s.index) at.1 (c.requires.shares c.loop-share.core share at.0)

pub returns-in_err-start-clause-told : goal.returns-in_err-start-clause-told
returns-in_err-start-clause-told g c = λ telling kept shares names.
    let image = lasts (g.R.Region.state c.args.region.now) in
    let l = c.args.layout.now in
    let inv = c.loop-share.invariant in
    let share = c.in-Some.share in
    let n = c.loop-share.core in
    let at = at_core c.args.shares.items c.loop-share.yielded c.next.new.self.rest.items share n l.cores (inv.split ∙ ap (λ xs. c.loop-share.yielded ++ xs) c.in-Some.ensures.steps.0) inv.passed c.requires.count in
    handed_on (AllStart l image) c.from_residual-in_err-start.result c.in_err-start.field-0.0 c.from_residual-in_err-start.ensures.1
    (c.in_err-start.ensures.told telling kept (subst (λ (s : Share). IsShare l (all_entries l image) n s) at.1 (shares n share at.0))
    (taken_names l image c.args.names.items c.loop-share.left.items c.take_names-own.result n at.0 names inv.untaken c.take_names-own.ensures.taken))

pub loop-share-preserved : goal.loop-share-preserved
loop-share-preserved g c =
    let image = lasts (g.R.Region.state c.args.region.now) in
    let l = c.args.layout.now in
    let inv = c.loop-share.invariant in
    let done = c.loop-share.yielded in
    let share = c.in-Some.share in
    let rest = c.next.new.self.rest.items in
    let old = c.loop-share.starts.items in
    let new = c.push.new.self.items in
    let x = c.in_ok-start.start in
    let n = c.loop-share.core in
    let split : c.args.shares.items ≡ done ++ (share ∷ rest) = inv.split ∙ ap (λ xs. done ++ xs) c.in-Some.ensures.steps.0 in
    let there : slice_index_or c.args.shares.items n share ≡ share = ap (λ xs. slice_index_or xs n share) split ∙ behind done share rest n share inv.passed in
    let long = ap length split ∙ length-append done (share ∷ rest) in
    let lt : n < l.cores = omega (arith, long, inv.passed, c.requires.count) in
    record {
      split = split ∙ sym (append_assoc done (share ∷ []) rest);
      passed = length-append done (share ∷ []) ∙ ap (λ k. k + 1) inv.passed;
      count = ap length c.in_ok-push.ensures.items ∙ length-append old (x ∷ []) ∙ ap (λ k. k + 1) inv.count;
      length_left = c.take_names-own.ensures.count ∙ inv.length_left;
      untaken = λ m d le. c.take_names-own.ensures.others m d (λ e. omega (arith, e, le)) ∙ inv.untaken m d (omega (arith, le));
      made = each_more CoreStart (IsStart l) old new x n inv.count c.in_ok-push.ensures.items inv.made c.in_ok-start.ensures.made;
      told = λ telling kept shares names. each_more CoreStart (IsStartOf l image) old new x n inv.count c.in_ok-push.ensures.items (inv.told telling kept shares names)
          (c.in_ok-start.ensures.told telling kept (subst (λ (s : Share). IsShare l (all_entries l image) n s) there (shares n share lt))
          (taken_names l image c.args.names.items c.loop-share.left.items c.take_names-own.result n lt names inv.untaken c.take_names-own.ensures.taken));
    }
