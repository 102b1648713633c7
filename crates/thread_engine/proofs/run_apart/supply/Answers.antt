use Rattle.std.proofs.Common.{◌/◌, sym, ◌∙◌, ap, subst}
use Rattle.chunk_map.specs.declared.layouts.Geometry.{Geometry}
use Rattle.thread_engine.specs.TableTokens.{AreTokenRooms}
use Rattle.thread_engine.specs.Supplied.{ArePartCuts}
use Rattle.thread_engine.proofs.Supplying.{layout_found}
use Rattle.thread_engine.proofs.run_apart.supply.Goals as goal

pub returns : goal.returns
returns g c =
    let M = c.in_ok-opened.ensures.have_tokens in
    let value = c.geometry-layout.ensures.value in
    let layout = layout_found (g.R.Region.state c.args.region.now) (g.R.ReadRegion.word c.args.region.now) c.args.recovered M.0 c.requires.region M.1 in
    let tables = c.in_ok-opened.opened.tables in (
      M.0,
      M.1,
      record {
        layout = value ∙ layout;
        recovered = layout;
        tables = c.in_ok-opened.ensures.length ∙ sym (ap (λ (l : Geometry). l.cores / l.group) value);
        have_tokens = M.2;
        worker_count = c.in_ok-workers.ensures.count ∙ c.requires.region.made.count ∙ sym (ap (λ (l : Geometry). l.cores) value);
        workers = c.in_ok-workers.ensures.new;
        seated = c.in_ok-workers.ensures.seat;
        cleared = c.in_ok-answers.ensures.cleared;
        window = c.in_ok-answers.ensures.window;
        blank = c.in_ok-answers.ensures.blank;
        room = c.in_ok-answers.ensures.room;
        token_rooms = subst (λ n. AreTokenRooms c.geometry-layout.result.group n c.in_ok-rooms.rooms.items) (c.len.ensures ∙ tables.ok.0) c.in_ok-rooms.ensures;
        cuts = subst (λ (l : Geometry). ArePartCuts l c.in_ok-cuts.cuts.items) (sym value) c.in_ok-cuts.ensures;
      },
    )
