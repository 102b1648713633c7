use Rattle.std.proofs.Common.{ℕ, ◌%◌, List, [], ◌∷◌, ◌++◌, sym, ◌∙◌, ap, subst}
use Rattle.fs_model.specs.declared.model.Request.{Request}
use Rattle.fs_model.specs.Cells.{key_of}
use Rattle.engine_core.specs.Calls.{AreOwn}
use Rattle.engine_tests.proofs.counted_worker_tests.one_put.Goals as goal

pub returns : goal.returns
returns c p own =
    let r = c.in_ok-request.request in
    let one = c.in_ok-append.ensures.appended ∙ ap (λ (xs : List (ℕ × Request)). xs ++ (7, r) ∷ []) c.new-backlog.ensures.items in
    subst (AreOwn p 1) (sym one) (own (key_of r) (ap (λ (k : ℕ). k % 8) c.in_ok-request.ensures), tt)
