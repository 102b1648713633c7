-- That a request was accepted is noted, and nothing else differs.
use Rattle.std.proofs.Common.{ℕ, true, [], ◌∷◌, refl}
use Rattle.pm_region.specs.State.{State}
use Rattle.fs_model.specs.declared.model.Request.{Request}
use Rattle.group_laws.specs.Places.{Place}
use Rattle.group_laws.specs.MemberViews.{View}
use Rattle.core_worker.specs.declared.worker.Worker.{Worker}
use Rattle.core_worker.specs.Ties.{Holds, Stands}
use Rattle.core_worker.specs.Order.{InOrder}
use Rattle.core_worker.specs.Accepting.{StaysTied, HoldsOrBeginsByEachView, AcceptsByEachView, AcceptMoves}

abbrev noted : Worker → Worker
noted w = record w { accepted = true }

holds_noted : (p : Place) (m : ℕ) (v : View) (w : Worker) → Holds p m v w → Holds p m v (noted w)
holds_noted p m v w H = record {
  place = H.place;
  member = H.member;
  core = H.core;
  layout = H.layout;
  log_layout = H.log_layout;
  log_part = H.log_part;
  sets = H.sets;
  allocator_layout = H.allocator_layout;
  allocator_part = H.allocator_part;
  spelled = H.spelled;
  eight = H.eight;
  placed = H.placed;
  apart = H.apart;
  pending = H.pending;
  admitted = H.admitted;
  keys = H.keys;
  mail = H.mail;
  blocks = H.blocks;
  waits = H.waits;
  leads = H.leads;
  space = H.space;
  broken = H.broken;
  lost = H.lost;
  flight = H.flight;
  cleaning = H.cleaning;
  remembers = H.remembers;
  chunks = H.chunks;
}

stands_noted : (s : State) (p : Place) (m : ℕ) (v : View) (w : Worker) → Stands s p m v w → Stands s p m v (noted w)
stands_noted s p m v w S = record { lies = S.lies; licensed = S.licensed; landed = S.landed; log = S.log; free = S.free; due = S.due; cut = S.cut; names = S.names }

order_noted : (p : Place) (m : ℕ) (v : View) (w : Worker) → InOrder p m v w → InOrder p m v (noted w)
order_noted p m v w O = record {
  owned = O.owned;
  single = O.single;
  distinct = O.distinct;
  heard = O.heard;
  told = O.told;
  versions = O.versions;
  mine = O.mine;
  next = O.next;
  spelled = O.spelled;
  recalls = O.recalls;
  answers = O.answers;
  hand = O.hand;
  stops = O.stops;
  agrees = O.agrees;
  log = O.log;
  names = O.names;
}

pub tied_noted : (s : State) (w b : Worker) (k : ℕ) → StaysTied s w b k → StaysTied s w (noted b) k
tied_noted s w b k ties x T = let N = ties x T in record {
  holds = holds_noted x.place x.number x.view b N.holds;
  stands = stands_noted s x.place x.number x.view b N.stands;
  own = N.own;
  order = order_noted x.place x.number x.view b N.order;
}

pub accepts_noted : (s : State) (w b : Worker) (n : ℕ) (r : Request) → HoldsOrBeginsByEachView s w b n r → AcceptsByEachView s w (noted b) n r
accepts_noted s w b n r A x T = (b, A x T, refl)

pub moves_noted : (s : State) (w b : Worker) (k n : ℕ) (r : Request) → AcceptMoves s w b k ((n, r) ∷ []) → AcceptMoves s w (noted b) k ((n, r) ∷ [])
moves_noted s w b k n r A x T = let a = A x T in record { fixed = a.fixed; answers = a.answers; moves = a.moves }
