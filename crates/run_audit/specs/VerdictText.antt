-- The text of a verdict.
use Rattle.std.specs.Prelude.{ℕ, List, ◌++◌, decimal, codes}
use Rattle.fs_text.specs.Output.{ended}
use Rattle.run_audit.specs.declared.verdict.Verdict.{Verdict}
use Rattle.run_audit.specs.declared.verdict.Verdict.TheVariants.{Lawful, Unlawful}

abbrev pub verdict_line : Verdict → List ℕ
verdict_line Lawful = codes "lawful"
verdict_line (Unlawful n) = codes "unlawful " ++ decimal n

abbrev pub verdict_text : Verdict → List ℕ
verdict_text verdict = ended (verdict_line verdict)
