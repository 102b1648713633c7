-- The name and the matches of the subcommand are those of one that was met, and the path is its first word.
use Rattle.std.proofs.Common.{◌≡◌, ◌∙◌, sym, ap, Some, None, option_map}
use Rattle.std.specs.Prelude.{option_and_then, codes}
use Rattle.clap.specs.Words.{found_of, rows_of, first_of, subcommand_rows_of}
use Rattle.clap.specs.declared.parser.matches.ArgMatches.TheViews.{out-ArgMatches}
use Rattle.clap.proofs.WalkLemmas.{first_value-rows}
use Rattle.flatstore_commands.specs.Commands.{form_in, form_named}
use Rattle.flatstore_commands.proofs.Forms.{named_rows, name_of}
use Rattle.flatstore_commands.proofs.command.command_in.Goals as goal

pub returns-in_err-path : goal.returns-in_err-path
returns-in_err-path c =
    let own = found_of c.in_ok-name.own.now in
    let met = named_rows (subcommand_rows_of c.args.matches.now) c.in_ok-name.name.now (rows_of own)
    (sym (ap (option_map (λ p. p.0.now)) c.in_ok-name.was) ∙ c.subcommand.ensures.name ∙ name_of (out-ArgMatches c.args.matches.now).subcommand)
    (sym (ap (option_map (λ p. rows_of (found_of p.1.now))) c.in_ok-name.was) ∙ c.subcommand.ensures.rows) in
    let path : None ≡ first_of (codes "region") (rows_of own) = sym (ap (option_map (λ s. s.now)) c.in_err-path.was) ∙ c.get_str.ensures ∙ first_value-rows own (codes "region") in
    ap (option_map _) c.from_residual-in_err-path.ensures ∙ ap (option_and_then (form_named c.in_ok-name.name.now (rows_of own))) path ∙ sym (ap form_in met)

pub returns : goal.returns
returns c =
    let own = found_of c.in_ok-name.own.now in
    let met = named_rows (subcommand_rows_of c.args.matches.now) c.in_ok-name.name.now (rows_of own)
    (sym (ap (option_map (λ p. p.0.now)) c.in_ok-name.was) ∙ c.subcommand.ensures.name ∙ name_of (out-ArgMatches c.args.matches.now).subcommand)
    (sym (ap (option_map (λ p. rows_of (found_of p.1.now))) c.in_ok-name.was) ∙ c.subcommand.ensures.rows) in
    let path : Some c.in_ok-path.path.now ≡ first_of (codes "region") (rows_of own) = sym (ap (option_map (λ s. s.now)) c.in_ok-path.was) ∙ c.get_str.ensures ∙ first_value-rows own (codes "region") in
    c.command_named.ensures ∙ ap (option_and_then (form_named c.in_ok-name.name.now (rows_of own))) path ∙ sym (ap form_in met)
