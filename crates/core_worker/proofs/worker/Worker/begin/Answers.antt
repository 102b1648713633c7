-- A request that is begun is answered, or it is staged.
use Rattle.std.proofs.Common.{◌≡◌, ◌⊎◌, inl, inr, ℕ, ◌+◌, ◌<◌, ◌≤◌, true, false, List, [], ◌∷◌, ◌++◌, length, Option, Some, None, refl, sym, ◌∙◌, ap, subst, arith}
use Rattle.std.specs.Prelude.{is_some}
use Rattle.pm_region.specs.State.{State, IsTelling}
use Rattle.fs_model.specs.declared.model.Request.{Request}
use Rattle.fs_model.specs.declared.model.Request.TheVariants as requests
use Rattle.fs_model.specs.declared.model.Reply.{Reply}
use Rattle.fs_model.specs.declared.model.Reply.TheVariants as replies
use Rattle.fs_model.specs.Cells.{key_of, answer_to}
use Rattle.core_index.specs.Index.{room_at, LessRoom}
use Rattle.core_room.specs.declared.types.Shortage.{Shortage}
use Rattle.core_worker.specs.declared.worker.Worker.{Worker}
use Rattle.core_worker.specs.OwnPlaces.{is_busy}
use Rattle.core_worker.specs.Plans.{IsPlanOf, Deletes, may_stage, has_value, last_version}
use Rattle.core_worker.specs.Supplies.{HasKeptRoom, supply_of, why_put, lacks}
use Rattle.core_worker.specs.Refusals.{HasAnswerRoom, reply_to}
use Rattle.core_worker.specs.Answering.{IsSaid}
use Rattle.core_worker.specs.Beginning.{answer_with, StandsAside, HasFree, KeepsTies, ByEachView, OnlyAnswers, OnlyStages, OnlyBegins, IsAnswered, IsStaged, TakesChange, Begins, UsesRoom}
use Rattle.core_worker.specs.Ties.{LeadsNothing}
use Rattle.core_worker.specs.Serving.{KeepsLine}
use Rattle.core_worker.specs.Left.{left, staged_left}
use Rattle.core_worker.proofs.RoomKept.{answered_room}
use Rattle.core_worker.proofs.Beginnings.{begins_stopped, begins_refused, begins_answered, begins_staged, answered, answered_aside, answered_standing, answered_busy, answered_uses, staged_busy, staged_keeps, staged_uses}
use Rattle.core_worker.proofs.Given.{said_same}
use Rattle.core_worker.proofs.Finding.{live_is, is_live, is_gone}
use Rattle.core_worker.proofs.LeftWorkers.{answered_way, staged_way}
use Rattle.core_worker.proofs.Pointers.{measured, live_last}
use Rattle.core_worker.proofs.Serving.{line_answered, line_staged}
use Rattle.core_worker.proofs.worker.Worker.begin.Goals as goal
use Rattle.core_worker.proofs.worker.Worker.begin.Goals.{in-Get+in-Ok-found, in-Absent, in-PutBeside, in-PutInBlock, in-Delete}

-- by each view
abbrev BeginsSo : State → Worker → Worker → ℕ → Request → Type 0
BeginsSo s w u n r = ByEachView s w (key_of r) (λ v. Begins (IsTelling s) w u (v.cell (key_of r)) n r)

-- what is so of a request that does not come back
record Began (s : State) (w u : Worker) (n : ℕ) (r : Request) : Type 0 where
  keeps : KeepsTies w u (key_of r)
  begins : BeginsSo s w u n r
  room : (m : ℕ) → HasAnswerRoom (m + 1) w → HasAnswerRoom m u
  rule : HasKeptRoom w → HasKeptRoom u
  rest : OnlyBegins w u
  uses : UsesRoom w u (key_of r)
  places : (u.places ≡ w.places) ⊎ (is_busy u.places.items (key_of r) ≡ true)
  busy : (k : ℕ) → is_busy w.places.items k ≡ true → is_busy u.places.items k ≡ true
  line : KeepsLine w u (key_of r)
  most : left u ≤ left w + staged_left

module _ (s : State) (w u : Worker) (n : ℕ) (r : Request) where
  abbrev key : ℕ
  key = key_of r

  began_answered : (reply : Reply) (refusal : Option Shortage) → is_busy w.places.items key ≡ false → OnlyAnswers w u → LessRoom w.index u.index key → u.answers.items ≡ w.answers.items ++ answer_with n reply refusal ∷ [] → ((m : ℕ) → HasAnswerRoom (m + 1) w → HasAnswerRoom m u) → (IsAnswered w u (answer_with n reply refusal) → BeginsSo s w u n r) → Began s w u n r
  began_answered reply refusal idle only less adds room begins = record {
    keeps = λ x h. record { holds = answered_aside x.place x.number x.view w u key only less idle h.holds; stands = λ t S. answered_standing t x.place x.number x.view w u only S };
    begins = begins (answered w u key (answer_with n reply refusal) only less adds);
    room = room;
    rule = answered_room w u only;
    rest = only ∙ (λ i. record w { allocator = sym (ap (λ (x : Worker). x.allocator) only) i; places = sym (ap (λ (x : Worker). x.places) only) i; answers = u.answers; index = u.index });
    uses = answered_uses w u key only less idle;
    places = inl (ap (λ (x : Worker). x.places) only);
    busy = answered_busy w u only;
    line = line_answered w u key only room;
    most = (let way = answered_way w u key only less in omega (arith, way));
  }

  began_staged : w.stopped ≡ false → OnlyStages w u → HasKeptRoom u → KeepsTies w u key → IsStaged w u n r → BeginsSo s w u n r → Began s w u n r
  began_staged runs only rule keeps S begins = record {
    keeps = keeps;
    begins = begins;
    room = λ m had. (let less : HasAnswerRoom (m + 1) u = subst (λ (x : Worker). HasAnswerRoom (m + 1) x) (sym only) had in omega (arith, less));
    rule = λ had. rule;
    rest = only ∙ (λ i. record w { allocator = u.allocator; places = u.places; answers = sym (ap (λ (x : Worker). x.answers) only) i; index = sym (ap (λ (x : Worker). x.index) only) i });
    uses = staged_uses w u n key r only S refl;
    places = inr (staged_busy w u n key r refl S);
    busy = staged_keeps w u n r S;
    line = line_staged w u n key r runs only refl S;
    most = staged_way w u n r only S;
  }

-- a plan is carried out
module _ (s : State) (w u : Worker) (n : ℕ) (runs : w.stopped ≡ false) where
  get_begins : (k : ℕ) (r : Request) (reply : Reply) → r ≡ requests.Get k → ByEachView s w k (λ v. IsSaid (IsTelling s) (requests.Get k) (answer_to (requests.Get k) (v.cell k)) reply) → IsAnswered w u (answer_with n reply None) → BeginsSo s w u n r
  get_begins k r reply is said a = subst (λ (q : Request). BeginsSo s w u n q) (sym is)
      (λ x h S. begins_answered (IsTelling s) w u (x.view.cell k) n (requests.Get k) runs reply refl refl (said x h S) a)

  absent_begins : (k : ℕ) (r : Request) → r ≡ requests.Delete k → has_value w k ≡ false → IsAnswered w u (answer_with n replies.Absent None) → BeginsSo s w u n r
  absent_begins k r is none a = subst (λ (q : Request). BeginsSo s w u n q) (sym is)
      (λ x h S. let gone = is_gone (x.view.cell k) (live_is x.place x.number x.view w h.holds runs k h.own ∙ none) in
      subst (λ (cell : Option (List ℕ)). Begins (IsTelling s) w u cell n (requests.Delete k)) (sym gone)
      (begins_answered (IsTelling s) w u None n (requests.Delete k) runs replies.Absent refl refl (said_same (IsTelling s) (requests.Delete k) replies.Absent) a))

  put_began : (k : ℕ) (v : List ℕ) (r : Request) → r ≡ requests.Put k v → why_put w.layout (supply_of w) w.allocator (last_version w k) (length v) ≡ None → OnlyStages w u → HasKeptRoom u → KeepsTies w u k → IsStaged w u n (requests.Put k v) → Began s w u n r
  put_began k v r is unrefused only rule keeps staged = subst (λ (q : Request). Began s w u n q) (sym is)
      (began_staged s w u n (requests.Put k v) runs only rule keeps staged (λ x h S. begins_staged (IsTelling s) w u (x.view.cell k) n (requests.Put k v) runs unrefused refl staged))

  delete_begins : (k : ℕ) (cell : Option (List ℕ)) → is_some cell ≡ true → lacks (supply_of w) w.allocator 1 0 ≡ None → IsStaged w u n (requests.Delete k) → Begins (IsTelling s) w u cell n (requests.Delete k)
  delete_begins k None live unrefused staged = absurd (cc live)
  delete_begins k (Some v) live unrefused staged = begins_staged (IsTelling s) w u (Some v) n (requests.Delete k) runs unrefused refl staged

  delete_began : (k version : ℕ) (r : Request) → r ≡ requests.Delete k → Deletes w k version → OnlyStages w u → HasKeptRoom u → KeepsTies w u k → IsStaged w u n (requests.Delete k) → Began s w u n r
  delete_began k version r is D only rule keeps staged = subst (λ (q : Request). Began s w u n q) (sym is)
      (began_staged s w u n (requests.Delete k) runs only rule keeps staged (λ x h S. delete_begins k (x.view.cell k) (live_is x.place x.number x.view w h.holds runs k h.own ∙ D.live) D.unrefused staged))

takes : (s : State) (w : Worker) (r : Request) → StandsAside s w (key_of r) → w.stopped ≡ false → LeadsNothing w → is_busy w.places.items (key_of r) ≡ false → 0 < room_at w.index (key_of r) → HasFree w.places.items → TakesChange w (key_of r)
takes s w r tied runs nothing idle room place = record { held = (tied.0, tied.1); runs = runs; nothing = nothing; idle = idle; room = room; place = place }

pub plan-requires : goal.plan-requires
plan-requires g c =
    let t = c.requires.tied.0 in
    let h = c.requires.tied.1 in
    let k = key_of c.args.request in
    let w = c.args.self.now in
    let live = live_is t.place t.number t.view w h.holds c.if-self.false k h.own in
    record {
      measured = measured t.place t.number t.view w h.holds;
      left = λ has. (let last = (live_last t.place t.number t.view w h.holds c.if-self.false k h.own (is_live (t.view.cell k) (live ∙ has))).1 in omega (arith, last));
    }

pub stage_beside-requires-clause-may : goal.stage_beside-requires-clause-may
stage_beside-requires-clause-may g c =
    let w = c.args.self.now in
    let plan = subst (IsPlanOf w c.args.request) c.in-PutBeside.is c.in-Ok.ensures.plan in
    subst (λ (r : Request). may_stage w r ≡ true → TakesChange w (key_of r)) plan.0
    (λ may. takes (g.R.Region.state c.args.region.now) w c.args.request c.requires.tied c.if-self.false (c.requires.nothing c.if-self.false) c.requires.idle (c.requires.room may) c.requires.place) refl

pub stage_block-requires-clause-may : goal.stage_block-requires-clause-may
stage_block-requires-clause-may g c =
    let w = c.args.self.now in
    let plan = subst (IsPlanOf w c.args.request) c.in-PutInBlock.is c.in-Ok.ensures.plan in
    subst (λ (r : Request). may_stage w r ≡ true → TakesChange w (key_of r)) plan.0
    (λ may. takes (g.R.Region.state c.args.region.now) w c.args.request c.requires.tied c.if-self.false (c.requires.nothing c.if-self.false) c.requires.idle (c.requires.room may) c.requires.place) refl

pub stage_delete-requires-clause-may : goal.stage_delete-requires-clause-may
stage_delete-requires-clause-may g c =
    let w = c.args.self.now in
    let plan = subst (IsPlanOf w c.args.request) c.in-Delete.is c.in-Ok.ensures.plan in
    subst (λ (r : Request). may_stage w r ≡ true → TakesChange w (key_of r)) plan.0
    (λ may. takes (g.R.Region.state c.args.region.now) w c.args.request c.requires.tied c.if-self.false (c.requires.nothing c.if-self.false) c.requires.idle (c.requires.room may) c.requires.place) plan.1.live

pub returns-then-self : goal.returns-then-self
returns-then-self g c =
    let s = g.R.Region.state c.args.region.now in
    let w = c.args.self.now in
    let u = c.answer_at_once.new.self in
    let r = c.args.request in
    let n = c.args.number in
    let less = subst (LessRoom w.index u.index) c.key-asked.ensures c.answer_at_once.ensures.less in
    let B = began_answered s w u n r replies.Stopped None c.requires.idle c.answer_at_once.ensures.rest less c.answer_at_once.ensures.answers c.answer_at_once.ensures.room
    (λ a x h S. begins_stopped (IsTelling s) w u (x.view.cell (key_of r)) n r c.if-self.true a) in
    record { keeps = B.keeps; begins = B.begins; room = B.room; rule = B.rule; rest = B.rest; uses = B.uses; places = B.places; busy = B.busy; line = B.line; most = B.most; given_back = tt; unchanged = tt; gets = tt }

pub returns-in-Err : goal.returns-in-Err
returns-in-Err g c =
    let s = g.R.Region.state c.args.region.now in
    let w = c.args.self.now in
    let u = c.answer_at_once-in-Err.new.self in
    let r = c.args.request in
    let n = c.args.number in
    let why = c.in-Err.shortage in
    let less = subst (LessRoom w.index u.index) c.key-asked.ensures c.answer_at_once-in-Err.ensures.less in
    let adds = subst (λ (y : Reply). u.answers.items ≡ w.answers.items ++ answer_with n y (Some why) ∷ []) c.reply_for.ensures c.answer_at_once-in-Err.ensures.answers in
    let B = began_answered s w u n r (reply_to why) (Some why) c.requires.idle c.answer_at_once-in-Err.ensures.rest less adds c.answer_at_once-in-Err.ensures.room
    (λ a x h S. begins_refused (IsTelling s) w u (x.view.cell (key_of r)) n r c.if-self.false why (c.in-Err.ensures.cause (x.view.cell (key_of r)) (live_is x.place x.number x.view w h.holds c.if-self.false (key_of r) h.own)) a) in
    record { keeps = B.keeps; begins = B.begins; room = B.room; rule = B.rule; rest = B.rest; uses = B.uses; places = B.places; busy = B.busy; line = B.line; most = B.most; given_back = tt; unchanged = tt; gets = tt }

pub returns : goal.returns
returns g c =
    let s = g.R.Region.state c.args.region.now in
    let w = c.args.self.now in
    let r = c.args.request in
    let n = c.args.number in
    let runs = c.if-self.false in
    let B : Began s w c.match-plan-2.self n r = elim c.match-plan-2.branch [
      | in-Get+in-Ok-found way ↦ subst (λ (y : Worker). Began s w y n r) (sym way.self-is)
          (let u = way.answer_at_once-in-Get.new.self in
          let done = way.answer_at_once-in-Get.ensures in
          let is = subst (IsPlanOf w r) way.in-Get.is c.in-Ok.ensures.plan in
          began_answered s w u n r way.in-Ok-found.reply None c.requires.idle done.rest (subst (LessRoom w.index u.index) c.key-asked.ensures done.less) done.answers done.room
          (get_begins s w u n runs way.in-Get.key r way.in-Ok-found.reply is way.in-Ok-found.ensures))
      | in-Absent way ↦ subst (λ (y : Worker). Began s w y n r) (sym way.self-is)
          (let u = way.answer_at_once-in-Absent.new.self in
          let done = way.answer_at_once-in-Absent.ensures in
          let is = subst (IsPlanOf w r) way.in-Absent.is c.in-Ok.ensures.plan in
          began_answered s w u n r replies.Absent None c.requires.idle done.rest (subst (LessRoom w.index u.index) c.key-asked.ensures done.less) done.answers done.room
          (absent_begins s w u n runs (key_of r) r is.0 is.1))
      | in-PutBeside way ↦ subst (λ (y : Worker). Began s w y n r) (sym way.self-is)
          (let p = subst (IsPlanOf w r) way.in-PutBeside.is c.in-Ok.ensures.plan in
          put_began s w way.stage_beside.new.self n runs way.in-PutBeside.key way.in-PutBeside.value r p.0 p.1.unrefused way.stage_beside.ensures.rest way.stage_beside.ensures.rule way.stage_beside.ensures.keeps way.stage_beside.ensures.staged)
      | in-PutInBlock way ↦ subst (λ (y : Worker). Began s w y n r) (sym way.self-is)
          (let p = subst (IsPlanOf w r) way.in-PutInBlock.is c.in-Ok.ensures.plan in
          put_began s w way.stage_block.new.self n runs way.in-PutInBlock.key way.in-PutInBlock.value r p.0 p.1.unrefused way.stage_block.ensures.rest way.stage_block.ensures.rule way.stage_block.ensures.keeps way.stage_block.ensures.staged)
      | in-Delete way ↦ subst (λ (y : Worker). Began s w y n r) (sym way.self-is)
          (let p = subst (IsPlanOf w r) way.in-Delete.is c.in-Ok.ensures.plan in
          delete_began s w way.stage_delete.new.self n runs way.in-Delete.key way.in-Delete.version r p.0 p.1 way.stage_delete.ensures.rest way.stage_delete.ensures.rule way.stage_delete.ensures.keeps way.stage_delete.ensures.staged)
    ] in
    record { keeps = B.keeps; begins = B.begins; room = B.room; rule = B.rule; rest = B.rest; uses = B.uses; places = B.places; busy = B.busy; line = B.line; most = B.most; given_back = tt; unchanged = tt; gets = tt }
