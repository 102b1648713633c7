use Rattle.std.proofs.Common.{◌≡◌, ◌≢◌, ◌++◌, ◌∷◌, [], ℕ, List, subst}
use Rattle.std.specs.Prelude.{slice_index_or, IfOk, Result, Ok, Err}
use Rattle.log_standing.specs.Notes.{Noted, noted_as}
use Rattle.recover.specs.FoundEntries.{core_at, chunk_there}
use Rattle.recover.proofs.LogNameLaws.{noted_once}
use Rattle.recover.proofs.core_names.note_found.Goals as goal

ok_by : {X E : Type 0} (P Q : X → Type 0) (r : Result X E) → ((x : X) → P x → Q x) → IfOk r P → IfOk r Q
ok_by P Q (Ok x) by is = by x is
ok_by P Q (Err e) by is = tt

pub returns-clause-noted : goal.returns-clause-noted
returns-clause-noted c =
    let l = c.args.layout.now in
    let f = c.args.found.now in
    let old = c.args.names.now.items in
    let new = c.note_for.new.names.items in
    let core : c.core_of-core.result ≡ core_at l f.at = c.core_of-core.ensures in
    ok_by _ _ c.note_for.result
    (λ _ noted. noted_once l f old new
    (subst (λ (n : ℕ). (d : List Noted) → slice_index_or new n d ≡ slice_index_or old n d ++ noted_as (record { key = f.key; version = f.version }) (chunk_there l f.at) ∷ []) core noted)
    (subst (λ (n : ℕ). (m : ℕ) (d : List Noted) → m ≢ n → slice_index_or new m d ≡ slice_index_or old m d) core c.note_for.ensures.others))
    c.note_for.ensures.noted
