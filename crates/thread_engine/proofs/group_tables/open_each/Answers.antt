use Rattle.std.proofs.Common.{◌≡◌, ◌+◌, [], ◌∷◌, length, length-append, sym, ◌∙◌, ap, subst, arith}
use Rattle.chunk_map.specs.Layouts.{layout_of}
use Rattle.group_laws.specs.OpeningImages.{opened}
use Rattle.group_board.specs.Journals.{place_in}
use Rattle.atomic_board.specs.declared.group_table.GroupTable.{GroupTable}
use Rattle.atomic_board.specs.Deeds.{began}
use Rattle.atomic_board.specs.GroupTables.{origin_of}
use Rattle.group_board.specs.Journals.{image_of}
use Rattle.thread_engine.specs.TableTokens.{HaveTokens}
use Rattle.thread_engine.proofs.TokensGiven.{no_tokens, tokens_more}
use Rattle.thread_engine.proofs.group_tables.open_each.Goals as goal

pub loop-group-init : goal.loop-group-init
loop-group-init g c =
    let image = image_of g.O.Opening.words in record {
      count = ap length c.new-tables.ensures.items;
      within = omega arith;
      have_tokens = subst (λ ts. HaveTokens image ts c.new-tokens.result.items) (sym c.new-tables.ensures.items) (subst (λ us. HaveTokens image _ us) (sym c.new-tokens.ensures.items) (no_tokens image));
    }

pub loop-group-preserved : goal.loop-group-preserved
loop-group-preserved g c =
    let words = g.O.Opening.words in
    let image = image_of words in
    let I = c.loop-group.invariant in
    let t = c.in_ok-table-2.table in
    let same = c.in_ok-table-2.ensures.same in
    let size : t.members ≡ (layout_of image).group = ap (λ (z : GroupTable). z.members) same ∙ c.in_ok-table.ensures.members ∙ sym c.requires.members in
    let opens = ap (λ (z : GroupTable). began (origin_of z)) same ∙ c.in_ok-table.ensures.opened ∙ ap (λ n. opened (place_in n words) image) (sym I.count) in
    record {
      count = ap length c.in_ok-push.ensures.items ∙ length-append c.loop-group.tables.items (t ∷ []) ∙ ap (λ n. n + 1) I.count;
      within = (let lt = c.loop-group-test.true in omega (arith, lt));
      have_tokens = subst (λ ts. HaveTokens image ts c.add_tokens.new.tokens.items) (sym c.in_ok-push.ensures.items)
          (tokens_more image c.loop-group.tables.items c.loop-group.tokens.items c.add_tokens.new.tokens.items t I.have_tokens c.in_ok-table-2.ensures.have_tokens size opens);
    }
