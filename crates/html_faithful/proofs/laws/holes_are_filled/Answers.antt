use Rattle.html_faithful.proofs.Holes.{documents-filled, holes-filled}
use Rattle.html_faithful.proofs.laws.holes_are_filled.Goals as goal

pub returns : goal.returns
returns c = record {
  trees = λ scripting parent after_text drops raw holed p hole a b e alike.
      holes-filled scripting hole a b alike parent after_text drops raw holed p e;
  documents = λ rules scripting holed hole a b e alike. documents-filled scripting hole a b alike rules holed e;
}
