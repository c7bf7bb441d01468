-- What the code's turns are in the definitions.
use Rattle.html_encodings.specs.Prescan as prescan
use Rattle.html_encodings.specs.declared.declarations.Turn.{Turn}

abbrev pub turn_view : Turn → prescan.Turn
turn_view turn = record { found = turn.found; rest = turn.rest.now }
