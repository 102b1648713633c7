use Rattle.std.proofs.Common.{List, [], refl, sym, subst, inl, inr, string_bytes}
use Rattle.region_file.specs.Calls.{Call, AreReads}
use Rattle.region_file.specs.Filed.{calls_on, IsNotSplit}
use Rattle.pm_region.proofs.Clients.{on_err}
use Rattle.region_file.proofs.file.FileRegionSplitRegion.split.Goals as goal

pub returns-in_err-kept-clause-refused : goal.returns-in_err-kept-clause-refused
returns-in_err-kept-clause-refused g c =
    let r = c.args.self.now in
    on_err _ (IsNotSplit (string_bytes r.path) r.words r.words (calls_on r.device) (calls_on r.device)) (record { ways = inr (inl ([], refl, tt)) })

pub returns-in_err-kept-clause-tried : goal.returns-in_err-kept-clause-tried
returns-in_err-kept-clause-tried g c =
    let none : AreReads [] = tt in
    on_err _ (AreReads c.none-self.result.made) (subst (λ (l : List Call). AreReads l) (sym c.none-self.ensures) none)
