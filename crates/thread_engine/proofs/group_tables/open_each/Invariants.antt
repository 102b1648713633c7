use Rattle.std.proofs.Common.{◌≡◌, ◌≤◌, length}
use Rattle.group_board.specs.Journals.{image_of}
use Rattle.thread_engine.specs.TableTokens.{HaveTokens}
use Rattle.thread_engine.proofs.group_tables.open_each.Given as goal

abbrev pub ghosts-open_one : goal.ghosts-open_one
ghosts-open_one g a = record { number = a.group }

abbrev pub invariant-loop-group : goal.invariant-loop-group
invariant-loop-group g l = record {
  count : length l.tables.items ≡ l.group;
  within : l.group ≤ l.groups;
  have_tokens : HaveTokens (image_of g.O.Opening.words) l.tables.items l.tokens.items;
}
