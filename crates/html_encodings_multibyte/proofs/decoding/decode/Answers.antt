use Rattle.html_encodings_multibyte.proofs.Whole.{texts_of}
use Rattle.html_encodings_multibyte.proofs.decoding.decode.Goals as goal

pub returns : goal.returns
returns c = texts_of _ _ _ _ c.new.ensures c.decode.ensures
