-- The tokens that came back, table by table.
use Rattle.std.proofs.Common.{◌≡◌, ℕ, zero, suc, ◌+◌, ◌*◌, ◌<◌, ◌≤◌, List, [], ◌∷◌, ◌++◌, length, length-append, Some, refl, ◌∙◌, ap, arith}
use Rattle.std.specs.List.{slice_get}
use Rattle.std.proofs.lemmas.List.{nil_from_length}
use Rattle.atomic_board.specs.declared.group_table.GroupTable.{GroupTable}
use Rattle.atomic_board.specs.declared.token.SeatToken.{SeatToken}
use Rattle.atomic_board.specs.GroupTables.{id_of, group_place}
use Rattle.atomic_board.specs.MemberSeats.{seat_of}
use Rattle.atomic_board.specs.Tokens.{member_at}
use Rattle.thread_engine.specs.TableTokens.{AreTokensOf}
use Rattle.thread_engine.proofs.Places.{get_low, get_front, get_behind, as_get}

-- the first so many
split_at : {X : Type 0} (n : ℕ) (xs : List X) → n ≤ length xs → (a : List X) × (b : List X) × (xs ≡ a ++ b) × (length a ≡ n)
split_at zero xs low = ([], xs, refl, refl)
split_at (suc n) [] low = absurd (omega (arith, low))
split_at (suc n) (x ∷ xs) low = (let r = split_at n xs (omega (arith, low)) in (x ∷ r.0, r.1, ap (λ l. x ∷ l) r.2, (let e = r.3 in omega (arith, e))))

pub tokens_of : (n : ℕ) (ts : List GroupTable) (tokens : List SeatToken) → length tokens ≡ length ts * n → ((g : ℕ) (b : GroupTable) → slice_get ts g ≡ Some b → b.members ≡ n)
    → ((g m : ℕ) (b : GroupTable) (u : SeatToken) → slice_get ts g ≡ Some b → m < n → slice_get tokens (g * n + m) ≡ Some u → seat_of u.own ≡ member_at (id_of b) (group_place b) m) → AreTokensOf n ts tokens
tokens_of n [] tokens count sizes seats = nil_from_length tokens (let z : 0 * n ≡ 0 = omega arith in count ∙ z)
tokens_of n (t ∷ ts) tokens count sizes seats =
    let many : length (t ∷ ts) * n ≡ n + length ts * n = omega arith in
    let r = split_at n tokens (omega (arith, count, many)) in
    let own = r.0 in
    let rest = r.1 in
    let long = ap length r.2 ∙ length-append own rest in
    let of_n = r.3 in (
      own,
      rest,
      r.2,
      sizes 0 t refl,
      r.3,
      λ k u at. (let here = as_get own k u at in let low = get_low own k u here in
          seats 0 k t u refl (omega (arith, low, of_n)) (let z : 0 * n + k ≡ k = omega arith in ap (slice_get tokens) z ∙ ap (λ l. slice_get l k) r.2 ∙ get_front own rest k low ∙ here)),
      tokens_of n ts rest (omega (arith, long, of_n, count, many)) (λ g b at. sizes (suc g) b at)
          (λ g m b u at low there. seats (suc g) m b u at low
          (let z : suc g * n + m ≡ length own + (g * n + m) = omega (arith, of_n) in ap (slice_get tokens) z ∙ ap (λ l. slice_get l (length own + (g * n + m))) r.2 ∙ get_behind own rest (g * n + m) ∙ there)),
    )
