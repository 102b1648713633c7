-- Words that need no thread ask the same of the call that starts none, and those of an audit are not those of a run.
use Rattle.std.proofs.Common.{◌≡◌, ◌∙◌, ap, refl, subst, sym, false, Some}
use Rattle.std.specs.Prelude.{option_map}
use Rattle.std.specs.Option.{is_some}
use Rattle.flatstore_commands.specs.Asked.{way_of}
use Rattle.flatstore_commands.specs.Commands.{form_of, is_load, is_run, needs_threads, words_of}
use Rattle.flatstore_commands.specs.Ends.{sink_use}
use Rattle.flatstore_commands.specs.Loads.{LoadsOnThreads}
use Rattle.flatstore_commands.proofs.Forms.{alone_form, audit_way, load_way, load_is, load_numbers}
use Rattle.flatstore_commands.proofs.Texts.{both}
use Rattle.flatstore_commands.proofs.top.flatstore.Goals as goal

pub returns-in-Ok-None-clause-format : goal.returns-in-Ok-None-clause-format
returns-in-Ok-None-clause-format g c = λ path l is.
    let alone : needs_threads (form_of (words_of c.args.words.now.items)) ≡ false = sym c.in-Ok-None.ensures.alone ∙ ap is_some c.in-Ok-None.field-0-is in
    c.flatstore_alone.ensures.format path l (alone_form (words_of c.args.words.now.items) alone ∙ is)

pub returns-in-Ok-Some-Audit-clause-run_unbegun : goal.returns-in-Ok-Some-Audit-clause-run_unbegun
returns-in-Ok-Some-Audit-clause-run_unbegun g c = λ run unbegun.
    let form = form_of (words_of c.args.words.now.items) in
    let way = sym c.in-Ok-Some-Audit.ensures.asked ∙ ap (λ t. option_map way_of t) c.in-Ok-Some-Audit.field-0-is
    ∙ ap (λ t. option_map way_of (Some t)) c.in-Ok-Some-Audit.field-0-0-is in
    both (is_run form) run (audit_way form c.in-Ok-Some-Audit.workers.count way)

pub returns-in-Ok-Some-Load-clause-run_unbegun : goal.returns-in-Ok-Some-Load-clause-run_unbegun
returns-in-Ok-Some-Load-clause-run_unbegun g c = λ run unbegun.
    let form = form_of (words_of c.args.words.now.items) in
    let way = sym c.in-Ok-Some-Load.ensures.asked ∙ ap (λ t. option_map way_of t) c.in-Ok-Some-Load.field-0-is
    ∙ ap (λ t. option_map way_of (Some t)) c.in-Ok-Some-Load.field-0-0-is in
    both (is_run form) run (load_way form c.in-Ok-Some-Load.size.start c.in-Ok-Some-Load.size.count way)

pub returns-in-Ok-Some-Load-clause-run_unsplit : goal.returns-in-Ok-Some-Load-clause-run_unsplit
returns-in-Ok-Some-Load-clause-run_unsplit g c = λ run failed cut.
    let form = form_of (words_of c.args.words.now.items) in
    let way = sym c.in-Ok-Some-Load.ensures.asked ∙ ap (λ t. option_map way_of t) c.in-Ok-Some-Load.field-0-is
    ∙ ap (λ t. option_map way_of (Some t)) c.in-Ok-Some-Load.field-0-0-is in
    both (is_run form) run (load_way form c.in-Ok-Some-Load.size.start c.in-Ok-Some-Load.size.count way)

pub returns-in-Ok-Some-Load-clause-quiet_unbegun : goal.returns-in-Ok-Some-Load-clause-quiet_unbegun
returns-in-Ok-Some-Load-clause-quiet_unbegun g c = λ other quiet.
    let form = form_of (words_of c.args.words.now.items) in
    let way = sym c.in-Ok-Some-Load.ensures.asked ∙ ap (λ t. option_map way_of t) c.in-Ok-Some-Load.field-0-is
    ∙ ap (λ t. option_map way_of (Some t)) c.in-Ok-Some-Load.field-0-0-is in
    both (is_load form) (load_is form c.in-Ok-Some-Load.size.start c.in-Ok-Some-Load.size.count way) other

-- the load is the one that was asked for
pub returns-in-Ok-Some-Load-clause-load : goal.returns-in-Ok-Some-Load-clause-load
returns-in-Ok-Some-Load-clause-load g c = λ path start count is.
    let form = form_of (words_of c.args.words.now.items) in
    let way = sym c.in-Ok-Some-Load.ensures.asked ∙ ap (λ t. option_map way_of t) c.in-Ok-Some-Load.field-0-is
    ∙ ap (λ t. option_map way_of (Some t)) c.in-Ok-Some-Load.field-0-0-is in
    let size = c.in-Ok-Some-Load.size in
    let same = load_numbers form path start count size.start size.count is way in
    let old = g.R.Region.state c.args.region.now in
    let new = g.R.Region.state c.load_region.new.region in
    let found = g.R.SplitRegion.found c.args.region.now in
    let word = g.R.ReadRegion.word c.load_region.new.region in
    let refused = g.G.Gate.may_refuse c.args.gate.now in
    let sink = sink_use g.O.Sink.taken g.O.Sink.flushed g.O.Sink.fault_count c.args.sink.now c.load_region.new.sink in
    let r = c.load_region.result in (
      (λ attached. subst (λ m. LoadsOnThreads old new found word refused m count sink r) (sym same.0)
          (subst (λ n. LoadsOnThreads old new found word refused size.start n sink r) (sym same.1) (c.load_region.ensures.load attached))),
      refl,
    )
