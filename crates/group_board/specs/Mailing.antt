-- What members tell each other, as the laws have it.
use Rattle.group_laws.specs.State as laws
use Rattle.group_board.specs.declared.names.Notices.{Notices}

abbrev pub notices_of : Notices → laws.Notices
notices_of n = record { dead = n.dead.names; gone = n.gone.names }
