use Rattle.std.proofs.Common.{◌≡◌, ℕ, ◌+◌, ◌*◌, ◌/◌, List, ◌∷◌, length, get_or, take, drop, sym, ◌∙◌, ap, subst, arith, rules}
use Rattle.region_file.specs.Calls.{Call, wrote}
use Rattle.region_file.specs.LineRuns.{AreRuns}
use Rattle.region_file.proofs.Writing.{one_run}
use Rattle.region_file.proofs.line_runs.write_runs.Goals as goal

pub loop-from-preserved : goal.loop-from-preserved
loop-from-preserved c =
    let from = c.loop-from.from in
    let start = c.args.start in
    let lines = c.args.lines.now in
    let bytes = c.args.bytes.now.items in
    let before = c.args.device.now.calls.made in
    let run = c.run_bytes-run.ensures.run in
    let n = run.count in
    let more = one_run start lines bytes from n before c.loop-from.device.calls.made c.loop-from.invariant.runs run.fits run.neighbours in
    let size = run.size in
    let next : from + n ≡ from + length c.run_bytes-run.result.now / 64 = omega (arith, size) in
    let index : c.from.result ≡ get_or lines from 0 = search rules in
    let calls : c.write.new.self.calls.made ≡ wrote (start + 64 * get_or lines from 0) (take (64 * n) (drop (64 * get_or lines from 0) bytes)) ∷ c.loop-from.device.calls.made =
    c.in_ok-write.ensures.ok ∙ ap (λ (a : ℕ). wrote (start + 64 * a) c.run_bytes-run.result.now ∷ c.loop-from.device.calls.made) index
    ∙ ap (λ (l : List ℕ). wrote (start + 64 * get_or lines from 0) l ∷ c.loop-from.device.calls.made) run.bytes_are in
    record {
      low = omega (arith, run.within, size);
      runs = subst (λ (made : List Call). AreRuns start lines bytes (from + length c.run_bytes-run.result.now / 64) before made) (sym calls)
          (subst (λ (m : ℕ). AreRuns start lines bytes m before (wrote (start + 64 * get_or lines from 0) (take (64 * n) (drop (64 * get_or lines from 0) bytes)) ∷ c.loop-from.device.calls.made)) next more);
    }
