use Rattle.std.proofs.Common.{◌≡◌, ℕ, ◌<◌, ◌≤◌, List, [], ◌∷◌, ◌++◌, sym, ◌∙◌, ap, subst, arith, lit<, lit≤}
use Rattle.log_entry.specs.declared.entry.Body.TheVariants.{Embedded}
use Rattle.log_entry.specs.Spelling.{HasSpelling}
use Rattle.core_log_tests.proofs.cleaning_tests.write_version.Goals as goal

spells : (v : ℕ) (bytes : List ℕ) → 1 ≤ v → v < 100 → bytes ≡ 97 ∷ [] → HasSpelling (record { key = 1; version = v; body = Embedded bytes })
spells v bytes low high is = subst (λ (b : List ℕ). HasSpelling (record { key = 1; version = v; body = Embedded b })) (sym is) (record { key = lit< tt; fits = (low, omega (arith, high), lit≤ tt, (lit< tt, tt)) })

pub entry_words-requires : goal.entry_words-requires
entry_words-requires c =
    let is : c.of.result ≡ 97 ∷ [] = c.of.ensures ∙ c.in_ok-push.ensures.items ∙ ap (λ (l : List ℕ). l ++ 97 ∷ []) c.new-bytes.ensures.items in
    spells c.args.version c.of.result c.requires.version.0 c.requires.version.1 is

pub write_entry-requires-clause-spelling : goal.write_entry-requires-clause-spelling
write_entry-requires-clause-spelling c =
    let is : c.of.result ≡ 97 ∷ [] = c.of.ensures ∙ c.in_ok-push.ensures.items ∙ ap (λ (l : List ℕ). l ++ 97 ∷ []) c.new-bytes.ensures.items in
    spells c.args.version c.of.result c.requires.version.0 c.requires.version.1 is
