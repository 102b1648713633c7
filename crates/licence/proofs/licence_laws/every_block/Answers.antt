use Rattle.licence.proofs.BlockEvents.{block_licensed, block_outside, block_gained}
use Rattle.licence.proofs.licence_laws.every_block.Goals as goal

pub returns : goal.returns
returns c = record {
  throughout = λ s t p m v a q class block writes. block_licensed s t p m v a q class block writes;
  outside = λ s t p m v a q class block writes. block_outside s t p m v a q class block writes;
  after = λ s t p m v u a b q class d block writes long wrote gains telling. block_gained s t p m v a q class block writes u b d long wrote gains telling;
}
