-- One more table, with tokens for its members.
use Rattle.std.proofs.Common.{◌≡◌, inl, inr, ℕ, ◌+◌, ◌*◌, ◌<◌, List, [], ◌∷◌, ◌++◌, length, length-append, Some, sym, ◌∙◌, ap, arith}
use Rattle.std.specs.List.{slice_get}
use Rattle.chunk_map.specs.Layouts.{layout_of}
use Rattle.group_laws.specs.State.{Group}
use Rattle.group_laws.specs.Regions.{place_at}
use Rattle.group_laws.specs.MemberViews.{view_of}
use Rattle.group_laws.specs.OpeningImages.{opened}
use Rattle.atomic_board.specs.declared.group_table.GroupTable.{GroupTable}
use Rattle.atomic_board.specs.declared.token.SeatToken.{SeatToken}
use Rattle.atomic_board.specs.Deeds.{began}
use Rattle.atomic_board.specs.GroupTables.{id_of, origin_of, group_place}
use Rattle.atomic_board.specs.Tokens.{member_at}
use Rattle.thread_engine.specs.TableTokens.{AddsTokens, HaveTokens}
use Rattle.thread_engine.proofs.Places.{get_more, get_low, get_front, get_behind, as_elem, in_block}

-- no table, and no token
pub no_tokens : (image : ℕ → ℕ) → HaveTokens image [] []
no_tokens image = record {
  count = omega arith;
  sizes = λ g t at. absurd (cc at);
  opened_on = λ g t at. absurd (cc at);
  seats = λ g m t x at low here. absurd (cc at);
  views = λ g m t x at low here. absurd (cc at);
  idle = λ g m t x at low here. absurd (cc at);
}

module _ (image : ℕ → ℕ) (ts : List GroupTable) (old new : List SeatToken) (t : GroupTable) (A : HaveTokens image ts old) (M : AddsTokens t old new) (size : t.members ≡ (layout_of image).group) (opens : began (origin_of t) ≡ opened (place_at (layout_of image) (length ts)) image) where
  abbrev n : ℕ
  n = (layout_of image).group

  place_is : group_place t ≡ place_at (layout_of image) (length ts)
  place_is = ap (λ (w : Group). w.place) opens

  -- a token of an earlier table, or one of this one's
  earlier : (g m : ℕ) (u : GroupTable) (x : SeatToken) → slice_get ts g ≡ Some u → m < n → slice_get new (g * n + m) ≡ Some x → slice_get old (g * n + m) ≡ Some x
  earlier g m u x at low here =
      let count = A.count in
      let within : g * n + m < length ts * n = in_block g m n (length ts) (get_low ts g u at) low in
      sym (get_front old M.own (g * n + m) (omega (arith, within, count))) ∙ ap (λ l. slice_get l (g * n + m)) (sym M.added) ∙ here

  own : (g m : ℕ) (x : SeatToken) → g ≡ length ts → slice_get new (g * n + m) ≡ Some x → slice_get M.own m ≡ Some x
  own g m x last here =
      let at : g * n + m ≡ length old + m = ap (λ i. i * n + m) last ∙ ap (λ i. i + m) (sym A.count) in
      sym (get_behind old M.own m) ∙ ap (slice_get (old ++ M.own)) (sym at) ∙ ap (λ l. slice_get l (g * n + m)) (sym M.added) ∙ here

  pub tokens_more : HaveTokens image (ts ++ t ∷ []) new
  tokens_more = record {
    count = (let a = ap length M.added ∙ length-append old M.own in let b = M.count in let c = A.count in let d = length-append ts (t ∷ []) in
        let e : (length ts + 1) * n ≡ length ts * n + n = omega arith in
        let f : length new ≡ length ts * n + n = omega (arith, a, b, c, size) in
        f ∙ sym e ∙ ap (λ i. i * n) (sym d));
    sizes = λ g u at. elim (get_more ts t u g at) [
      | inl h ↦ A.sizes g u h
      | inr h ↦ ap (λ (z : GroupTable). z.members) h.1 ∙ size
    ];
    opened_on = λ g u at. elim (get_more ts t u g at) [
      | inl h ↦ A.opened_on g u h
      | inr h ↦ ap (λ (z : GroupTable). began (origin_of z)) h.1 ∙ opens ∙ ap (λ i. opened (place_at (layout_of image) i) image) (sym h.0)
    ];
    seats = λ g m u x at low here. elim (get_more ts t u g at) [
      | inl h ↦ A.seats g m u x h low (earlier g m u x h low here)
      | inr h ↦ M.tokens m x (as_elem M.own m x (own g m x h.0 here)) ∙ (λ i. member_at (id_of (sym h.1 i)) ((place_is ∙ ap (place_at (layout_of image)) (sym h.0)) i) m)
    ];
    views = λ g m u x at low here. elim (get_more ts t u g at) [
      | inl h ↦ A.views g m u x h low (earlier g m u x h low here)
      | inr h ↦ M.fresh m x (as_elem M.own m x (own g m x h.0 here)) ∙ ap (λ (w : Group). view_of w m) (opens ∙ ap (λ i. opened (place_at (layout_of image) i) image) (sym h.0))
    ];
    idle = λ g m u x at low here. elim (get_more ts t u g at) [
      | inl h ↦ A.idle g m u x h low (earlier g m u x h low here)
      | inr h ↦ M.idle m x (as_elem M.own m x (own g m x h.0 here))
    ];
  }
