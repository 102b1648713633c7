use Rattle.std.proofs.Common.{◌≡◌, ℕ, ◌*◌, List, [], ◌∷◌, ◌∙◌, ap, subst}
use Rattle.region_file.specs.Calls.{Call, settled, measured, refused, OnlyReads}
use Rattle.region_file.specs.Reads.{pages_in, reads_of}
use Rattle.pm_region.proofs.Clients.{on_err}
use Rattle.region_file.proofs.Noting.{one_before}
use Rattle.region_file.proofs.Reading.{reads_are}
use Rattle.region_file.proofs.file_open.read_words.Goals as goal

-- reads behind the two calls that come first
behind : (n : ℕ) (before middle after : List Call) → middle ≡ measured n ∷ settled ∷ before → OnlyReads middle after → OnlyReads before after
behind n before middle after is reads = one_before settled before after tt (one_before (measured n) (settled ∷ before) after tt (subst (λ (l : List Call). OnlyReads l after) is reads))

pub returns-in_err-settle-clause-err : goal.returns-in_err-settle-clause-err
returns-in_err-settle-clause-err g c = on_err _ (OnlyReads c.args.device.now.calls.made c.settle.new.self.calls.made) (refused ∷ [], c.in_err-settle.ensures.err, tt)

pub returns-in_err-size-clause-err : goal.returns-in_err-size-clause-err
returns-in_err-size-clause-err g c = on_err _ (OnlyReads c.args.device.now.calls.made c.size.new.self.calls.made) (refused ∷ settled ∷ [], c.in_err-size.ensures.err ∙ ap (λ (l : List Call). refused ∷ l) c.in_ok-settle.ensures.ok, tt)

pub returns-in_err-bytes-clause-err : goal.returns-in_err-bytes-clause-err
returns-in_err-bytes-clause-err g c =
    on_err _ (OnlyReads c.args.device.now.calls.made c.read_pages.new.device.calls.made)
    (behind c.in_ok-size.size c.args.device.now.calls.made c.size.new.self.calls.made c.read_pages.new.device.calls.made (c.in_ok-size.ensures.ok ∙ ap (λ (l : List Call). measured c.in_ok-size.size ∷ l) c.in_ok-settle.ensures.ok) c.in_err-bytes.ensures.err)

pub returns-in_err-words-clause-err : goal.returns-in_err-words-clause-err
returns-in_err-words-clause-err g c =
    let bytes = c.in_ok-bytes.bytes.items in
    on_err _ (OnlyReads c.args.device.now.calls.made c.read_pages.new.device.calls.made)
    (behind c.in_ok-size.size c.args.device.now.calls.made c.size.new.self.calls.made c.read_pages.new.device.calls.made (c.in_ok-size.ensures.ok ∙ ap (λ (l : List Call). measured c.in_ok-size.size ∷ l) c.in_ok-settle.ensures.ok)
    (reads_of bytes (pages_in (8 * c.word_count.result)), c.in_ok-bytes.ensures.ok, reads_are bytes (pages_in (8 * c.word_count.result))))
