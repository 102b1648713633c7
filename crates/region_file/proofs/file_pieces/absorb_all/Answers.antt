use Rattle.std.proofs.Common.{ℕ, ◌≤◌, sym, subst}
use Rattle.pm_region.specs.Split.{words_in}
use Rattle.region_file.specs.Files.{end_of}
use Rattle.region_file.specs.declared.file_piece.FilePiece.{FilePiece}
use Rattle.region_file.proofs.Filing.{none_taken, taken_more}
use Rattle.region_file.proofs.file_pieces.absorb_all.Goals as goal

pub loop-piece-init : goal.loop-piece-init
loop-piece-init c = none_taken c.args.words.now c.args.pieces.now

pub loop-piece-preserved : goal.loop-piece-preserved
loop-piece-preserved c =
    taken_more c.args.words.now c.loop-piece.words c.absorb.new.self (words_in c.args.words.now.size) c.loop-piece.piece-index c.args.pieces.now c.piece-item.result
    c.loop-piece-test.true c.requires c.piece-item.is c.loop-piece.invariant c.absorb.ensures

pub absorb-requires : goal.absorb-requires
absorb-requires c =
    let within = c.requires.within c.loop-piece.piece-index c.piece-item.result c.loop-piece-test.true in
    let here = subst (λ (p : FilePiece). end_of p ≤ words_in c.args.words.now.size) (sym c.piece-item.is) within in
    record {
      whole = c.piece-item.result.whole;
      within = subst (λ (n : ℕ). end_of c.piece-item.result ≤ words_in n) (sym c.loop-piece.invariant.size) here;
    }
