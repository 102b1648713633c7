-- What the state says of a change that comes back and of notices that are heard, in the words of the member's own view.
use Rattle.std.proofs.Common.{◌≡◌, ℕ, suc, ◌<◌, true, List, Some, inl, inr, sym, ap, ◌∙◌, subst}
use mathlib.Core.Option.{some}
use lib.ListN.{get_elem?}
use Rattle.log_entry.specs.declared.entry.Entry.{Entry}
use Rattle.store_image.specs.Facts.{In}
use Rattle.group_laws.specs.declared.types.Slot.TheVariants.{Done, Posted}
use Rattle.group_laws.specs.Places.{owner}
use Rattle.group_laws.specs.Updates.{has}
use Rattle.group_laws.specs.State.{Notices}
use Rattle.group_laws.specs.MemberViews.{View}
use Rattle.group_laws.proofs.Clients.{has_In, posted_unnamed}
use Rattle.group_board.specs.Assurances.{IsHome, IsHeard, IsOwnEntry, IsUnlogged}
use Rattle.atomic_board.specs.declared.seat_data.Origin.{Origin}
use Rattle.atomic_board.specs.declared.seat_data.Holding.{Holding}
use Rattle.atomic_board.specs.declared.seat_data.Deed.{Deed}
use Rattle.atomic_board.specs.declared.seat_data.SeatData.TheVariants.{Own}
use Rattle.atomic_board.specs.Deeds.{place_of, size, view_by}
use Rattle.atomic_board.specs.ShownState.{TableState, views_of, ShowsLawful, state_shown}
use Rattle.atomic_board.proofs.RuleKept.{known, own_by}

module _ (b : Origin) (s : TableState) (o : ShowsLawful b s) (m : ℕ) (q : Holding) (ds : List Deed) (me : get_elem? s.views (suc m) ≡ some (Own m q b ds)) (near : m < size b) where
  abbrev same : views_of b s.views m ≡ view_by b m ds
  same = known b s o m q ds me near

  pub home_of : (t h : ℕ) (e : Entry) → o.slot m t ≡ Done e h → IsHome (place_of b) m (view_by b m ds) e h
  home_of t h e is = let kept = o.reached.lawful.logs.done_kept h m t e is in record {
    member = (o.reached.lawful.logs.group h e (inl kept.0)).0;
    kept = λ mine. subst (λ (u : View). In e u.kept) same (subst (λ (j : ℕ). In e (views_of b s.views j).kept) mine kept.0);
    spared = λ mine. ap (λ (u : View). u.doomed e.key e.version) (sym same) ∙ (ap (λ (j : ℕ). (views_of b s.views j).doomed e.key e.version) (sym mine) ∙ kept.1);
  }

  -- what is taken out of a slot is in no log yet
  pub taken_unlogged : (a t : ℕ) (e : Entry) → o.slot a t ≡ Posted e → IsUnlogged m a t (view_by b m ds) e
  taken_unlogged a t e is = record {
    new = λ f i. posted_unnamed (state_shown b s o) o.reached.lawful a t e is m f (inl (subst (λ (u : View). In f u.kept) (sym same) i));
    alone = λ f i. posted_unnamed (state_shown b s o) o.reached.lawful a t e is m f (inr (subst (λ (u : View). In f u.flying) (sym same) i));
    own = λ mine.
        let named = o.reached.lawful.slots.posted_named a t e is in
        sym (own_by b s o m q ds me near e.key (λ (u : View). u.pending e.key) (named.1 ∙ mine)) ∙ named.0;
  }

  module _ (from : ℕ) (n : Notices) (is : o.mail from m ≡ Some n) where
    gone_own : (k i : ℕ) → has n.gone k i ≡ true → owner (place_of b) k ≡ m
    gone_own k i t = o.reached.lawful.standing.gone_home from m n (record { key = k; version = i }) is (has_In n.gone k i t)

    gone_mail : (k i : ℕ) → has n.gone k i ≡ true → o.mail from (owner (place_of b) k) ≡ Some n
    gone_mail k i t = ap (o.mail from) (gone_own k i t) ∙ is

    pub heard : IsHeard (place_of b) m from (view_by b m ds) n
    heard = record {
      other = λ self. let none = o.reached.lawful.standing.no_self m in let full : o.mail m m ≡ Some n = subst (λ (h : ℕ). o.mail h m ≡ Some n) self is in cc (none, full);
      theirs = λ k i t. (o.reached.lawful.deaths.mail_from from m n (record { key = k; version = i }) is (has_In n.dead k i t)).0;
      dead = λ k i t. subst (λ (u : View). IsOwnEntry u k i) same (o.reached.lawful.deaths.mail_from from m n (record { key = k; version = i }) is (has_In n.dead k i t)).2;
      own = gone_own;
      told = λ k i t. sym (own_by b s o m q ds me near k (λ (u : View). u.told k i) (gone_own k i t)) ∙ (o.reached.lawful.standing.away from k i (inr (n, gone_mail k i t, has_In n.gone k i t))).1;
      stood = λ k i t. sym (own_by b s o m q ds me near k (λ (u : View). u.present k i) (gone_own k i t)) ∙ (o.reached.lawful.standing.away from k i (inr (n, gone_mail k i t, has_In n.gone k i t))).0;
    }
