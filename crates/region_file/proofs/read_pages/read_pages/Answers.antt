use Rattle.std.proofs.Common.{◌≡◌, ℕ, ◌+◌, ◌*◌, List, ◌∷◌, ◌++◌, length, take, drop, sym, ◌∙◌, ap, arith, min, length-drop, length-take}
use Rattle.pm_region.proofs.Clients.{on_err}
use Rattle.region_file.specs.Calls.{Call, gave, refused, OnlyReads}
use Rattle.region_file.specs.Reads.{reads_of}
use Rattle.region_file.proofs.Reading.{reads_are, reads_same, take_left, next_read}
use Rattle.region_file.proofs.read_pages.read_pages.Goals as goal

pub returns-in_err-read_page-clause-err : goal.returns-in_err-read_page-clause-err
returns-in_err-read_page-clause-err c =
    let n = c.loop-page.page in
    let bytes = c.loop-page.bytes.items in
    on_err _ (OnlyReads c.args.device.now.calls.made c.read_page.new.device.calls.made)
    (refused ∷ reads_of bytes n, c.in_err-read_page.ensures.err ∙ ap (λ (l : List Call). refused ∷ l) c.loop-page.invariant.calls, reads_are bytes n)

pub loop-page-preserved : goal.loop-page-preserved
loop-page-preserved c =
    let n = c.loop-page.page in
    let was = c.loop-page.bytes.items in
    let now = c.read_page.new.bytes.items in
    let before = c.args.device.now.calls.made in
    let long : length now ≡ c.args.count = c.in_ok-read_page.ensures.count ∙ c.loop-page.invariant.count in
    let same : reads_of was n ≡ reads_of now n = reads_same was now n (sym c.in_ok-read_page.ensures.count) (λ k lt. sym (c.in_ok-read_page.ensures.others k (omega (arith, lt)))) in
    let left = length-drop (32768 * n) now in
    let size = length-take c.min.result c.loop-page.room in
    let room : length (take c.min.result c.loop-page.room) ≡ min 32768 (length (drop (32768 * n) now)) = omega (arith, left, long, size, c.min.ensures, c.min.array_long) in
    record {
      count = long;
      calls = c.in_ok-read_page.ensures.ok ∙ ap (λ (l : List ℕ). gave (32768 * n) l ∷ c.loop-page.device.calls.made) (take_left _ 32768 (drop (32768 * n) now) room)
          ∙ ap (λ (l : List Call). gave (32768 * n) (take 32768 (drop (32768 * n) now)) ∷ l) (c.loop-page.invariant.calls ∙ ap (λ (r : List Call). r ++ before) same)
          ∙ ap (λ (r : List Call). r ++ before) (next_read now n (n + 1) (omega arith));
    }
