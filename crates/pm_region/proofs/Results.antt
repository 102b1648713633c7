-- Clauses on a result, from what holds anyway.
use Rattle.std.proofs.Common.{Result, Ok, Err, OnOk, OnErr, IsErrOf, ap}

pub on_err : {A E : Type 0} (r : Result A E) (P : Type 0) → P → OnErr r P
on_err (Ok a) P holds = tt
on_err (Err e) P holds = holds

pub on_ok : {A E : Type 0} {P Q : Type 0} (r : Result A E) → (P → Q) → OnOk r P → OnOk r Q
on_ok (Ok a) so holds = so holds
on_ok (Err e) so holds = tt

pub err_so : {A E : Type 0} {P Q : Type 0} (r : Result A E) → (P → Q) → OnErr r P → OnErr r Q
err_so (Ok a) so holds = tt
err_so (Err e) so holds = so holds

error_or : {A E : Type 0} → E → Result A E → E
error_or d (Ok a) = d
error_or d (Err e) = e

as_result : (B : Type 0) {E : Type 0} → E → Result B E
as_result B e = Err e

-- the same error, whatever the other type
pub same_err : {A B E : Type 0} (e x : E) → IsErrOf {T = A} {E = E} (Err e) x → IsErrOf {T = B} {E = E} (Err e) x
unfolding as_result error_or
same_err {B = B} {E = E} e x is = ap (as_result B) (ap (error_or e) is)
