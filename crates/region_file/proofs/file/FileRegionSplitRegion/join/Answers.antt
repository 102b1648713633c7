use Rattle.std.proofs.Common.{List, sym, subst}
use Rattle.pm_region.specs.Split.{words_in}
use Rattle.region_file.specs.Files.{ArePlaced}
use Rattle.region_file.specs.declared.file_piece.FilePiece.{FilePiece}
use Rattle.region_file.proofs.Filing.{pieces_placed}
use Rattle.region_file.proofs.file.FileRegionSplitRegion.join.Goals as goal

pub absorb_all-requires : goal.absorb_all-requires
absorb_all-requires g c =
    let s = c.args.self.now in
    subst (λ (l : List FilePiece). ArePlaced (words_in s.words.size) l) (sym c.deref-3.ensures.value)
    (pieces_placed (words_in s.words.size) s.cuts.items c.args.pieces.items s.cuts_fit c.requires.count (λ i p lt. (c.requires.pieces i p lt).between))
