-- What `clap` answers, in the terms of the forms.
use Rattle.std.proofs.Common.{◌≡◌, ℕ, List, [], ◌∷◌, refl, sym, ◌∙◌, ap, arith, true, false, Bool, Option, Some, None, Result, Ok, Err, option_map, Box}
use Rattle.std.specs.Prelude.{if◌then◌else◌, option_and_then}
use Rattle.std.specs.Str.Parse.{ParsesUnsigned, digits_value, without_leading_plus}
use Rattle.clap.specs.Words.{Row, Text, ReadsOne, one_text, rows_of, IsAmong, Kinds, fault_of, is_simple, is_simple_and_free, subcommand_of}
use Rattle.clap.specs.ValueTests.{accepts}
use Rattle.clap.specs.declared.error.kind.ErrorKind.{ErrorKind}
use Rattle.clap.specs.declared.parser.matches.Found.{Found}
use Rattle.clap.specs.declared.parser.matches.SubCommand.{SubCommand}
use Rattle.clap.specs.declared.parser.matches.ArgMatches.TheViews.{out-SubCommand}
use Rattle.clap.specs.Simple.{subcommand_rows}
use Rattle.std.specs.Box.{box_value}
use Rattle.clap.proofs.ValueTestLemmas.{accepts-Accepts, Accepts-accepts}
use Rattle.clap.proofs.WalkLemmas.{one_text-rows}
use Rattle.clap.proofs.OnLiterals.{clap_on_literals}
use Rattle.flatstore_commands.specs.Commands.{Form, program, u64_reader, number_of, number_in, is_good, form_in, form_of, needs_threads, is_load, is_run, alone_form_of}
use Rattle.flatstore_commands.specs.Commands.Form.{Format, Replay, Run, Dump, Log, Scan, Audit, Load}
use Rattle.flatstore_commands.specs.Asked.{threaded, Way}
use Rattle.flatstore_commands.specs.Asked.Way.{Runs, Audits, Loads}

refuse : (b : Bool) (x : Option ℕ) → (b ≡ true → ⊥) → None ≡ (if b then x else None)
refuse true x never = absurd (never refl)
refuse false x never = refl

-- the reading of a number of 64 bits is what `number_of` says
pub read_number : {E : Type 0} (gives : List ℕ → Result ℕ E → Type 0) (t : List ℕ) → ((r : Result ℕ E) → gives t r → ParsesUnsigned 64 10 t r)
    → (r : Option ℕ) → ReadsOne gives t r → r ≡ number_of t
read_number gives t parses (Some v) g =
    let p = parses (Ok v) g in
    let most = p.0.1 in
    let yes : accepts false u64_reader t ≡ true = Accepts-accepts false u64_reader t (p.0.0, p.0.1, omega arith, omega (arith, most)) in
    ap Some p.1 ∙ sym (ap (λ b. if b then Some (digits_value 10 (without_leading_plus t)) else None) yes)
read_number gives t parses None g =
    let never = parses (Err g.0) g.1 in
    refuse (accepts false u64_reader t) (Some (digits_value 10 (without_leading_plus t))) (λ yes. let a = accepts-Accepts false u64_reader t yes in never (a.0, a.1))

-- and so is that of an option's number
pub read_option : {E : Type 0} (gives : List ℕ → Result ℕ E → Type 0) → ((t : List ℕ) (r : Result ℕ E) → gives t r → ParsesUnsigned 64 10 t r)
    → (f : Found) (name : List ℕ) (r : Option ℕ) → (one_text f name ≡ None → r ≡ None) → ((t : List ℕ) → one_text f name ≡ Some t → ReadsOne gives t r)
    → r ≡ number_in name (rows_of f)
read_option gives parses f name r none some = by_text (one_text f name) refl ∙ ap (option_and_then number_of) (one_text-rows f name) where
  by_text : (o : Option Text) → one_text f name ≡ o → r ≡ option_and_then number_of (one_text f name)
  by_text None is = none is ∙ sym (ap (option_and_then number_of) is)
  by_text (Some t) is = read_number gives t (parses t) r (some t is) ∙ sym (ap (option_and_then number_of) is)

pub program_is_simple : is_simple program ≡ true
unfolding clap_on_literals
program_is_simple = refl

pub program_is_free : is_simple_and_free program ≡ true
unfolding clap_on_literals
program_is_free = refl

pub taken : (words : List Text) → fault_of program words ≡ [] → form_in (subcommand_of program words) ≡ form_of words
taken words none = sym (ap (λ kinds. if is_good kinds then form_in (subcommand_of program words) else None) none)

no_form : (kinds : Kinds) (k : ErrorKind) (x : Option Form) → IsAmong k kinds → None ≡ (if is_good kinds then x else None)
no_form [] k x h = absurd h
no_form (kind ∷ kinds) k x h = refl

pub refused : (words : List Text) (k : ErrorKind) → IsAmong k (fault_of program words) → None ≡ form_of words
refused words k h = no_form (fault_of program words) k (form_in (subcommand_of program words)) h

-- a subcommand with its matches, where its name and its matches are told one by one
pub named_rows : (o : Option (Text × List Row)) (name : Text) (rows : List Row) → Some name ≡ option_map (λ p. p.0) o → Some rows ≡ option_map (λ p. p.1) o → o ≡ Some (name, rows)
named_rows None name rows a b = cc
named_rows (Some (n, rs)) name rows a b = cc

pub name_of : {Z : Type 0} (o : Option (Box SubCommand Z)) → option_map (λ b. (out-SubCommand (box_value b)).name.now) o ≡ option_map (λ p. p.0) (subcommand_rows o)
name_of None = refl
name_of (Some b) = refl

-- words that aren't those of `run` ask the same of a call that starts no thread
pub alone_form : (words : List Text) → needs_threads (form_of words) ≡ false → alone_form_of words ≡ form_of words
alone_form words alone = ap (λ b. if b then None else form_of words) alone

-- which words are those of `run`, by what is done in threads
pub run_way : (f : Option Form) → threaded f ≡ Some Runs → is_run f ≡ true
run_way None is = cc is
run_way (Some (Format path l)) is = cc is
run_way (Some (Replay path)) is = cc is
run_way (Some (Run path)) is = refl
run_way (Some (Dump path)) is = cc is
run_way (Some (Log path)) is = cc is
run_way (Some (Scan path)) is = cc is
run_way (Some (Audit path workers)) is = cc is
run_way (Some (Load path start count)) is = cc is

pub audit_way : (f : Option Form) (n : ℕ) → threaded f ≡ Some (Audits n) → is_run f ≡ false
audit_way None n is = refl
audit_way (Some (Format path l)) n is = refl
audit_way (Some (Replay path)) n is = refl
audit_way (Some (Run path)) n is = cc is
audit_way (Some (Dump path)) n is = refl
audit_way (Some (Log path)) n is = refl
audit_way (Some (Scan path)) n is = refl
audit_way (Some (Audit path workers)) n is = refl
audit_way (Some (Load path start count)) n is = cc is

pub no_way : (f : Option Form) → needs_threads f ≡ false → is_run f ≡ false
no_way None alone = refl
no_way (Some (Format path l)) alone = refl
no_way (Some (Replay path)) alone = refl
no_way (Some (Run path)) alone = cc alone
no_way (Some (Dump path)) alone = refl
no_way (Some (Log path)) alone = refl
no_way (Some (Scan path)) alone = refl
no_way (Some (Audit path workers)) alone = refl
no_way (Some (Load path start count)) alone = cc alone

pub load_way : (f : Option Form) (start count : ℕ) → threaded f ≡ Some (Loads start count) → is_run f ≡ false
load_way None start count is = cc is
load_way (Some (Format path l)) start count is = cc is
load_way (Some (Replay path)) start count is = cc is
load_way (Some (Run path)) start count is = cc is
load_way (Some (Dump path)) start count is = cc is
load_way (Some (Log path)) start count is = cc is
load_way (Some (Scan path)) start count is = cc is
load_way (Some (Audit path workers)) start count is = cc is
load_way (Some (Load path first number)) start count is = refl

pub load_is : (f : Option Form) (start count : ℕ) → threaded f ≡ Some (Loads start count) → is_load f ≡ true
load_is None start count is = cc is
load_is (Some (Format path l)) start count is = cc is
load_is (Some (Replay path)) start count is = cc is
load_is (Some (Run path)) start count is = cc is
load_is (Some (Dump path)) start count is = cc is
load_is (Some (Log path)) start count is = cc is
load_is (Some (Scan path)) start count is = cc is
load_is (Some (Audit path workers)) start count is = cc is
load_is (Some (Load path first number)) start count is = refl

-- the numbers that are asked for are those of the words
pub load_numbers : (f : Option Form) (path : Text) (a b m n : ℕ) → f ≡ Some (Load path a b) → threaded f ≡ Some (Loads m n) → (a ≡ m) × (b ≡ n)
load_numbers f path a b m n is way = (let same : Some (Loads a b) ≡ Some (Loads m n) = sym (ap threaded is) ∙ way in cc, let same : Some (Loads a b) ≡ Some (Loads m n) = sym (ap threaded is) ∙ way in cc)
