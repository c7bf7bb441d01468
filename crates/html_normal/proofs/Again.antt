-- Plain documents are read again, and normal bytes are kept.
use Rattle.std.proofs.Common.{◌≡◌, ◌∙◌, ℕ, true, false, List, refl, sym, ap, Result, Ok, Err}
use Rattle.markup.specs.Forest.{Forest}
use Rattle.html_round_trip.specs.ReadBack.States.{Around}
use Rattle.html_round_trip.proofs.ReadBack.Document.{bytes-again}
use Rattle.html_rules.specs.State.{State}
use Rattle.html_tokens.specs.Sink.{Refusal}
use Rattle.html_tokens.specs.Table.{Row}
use Rattle.html_normal.specs.Document.{IsDocument, forest_answers}
use Rattle.html_normal.specs.Laws.{ArePlainForestsNormal}

abbrev around : Around
around = record { scripting = true; answers = forest_answers }

-- the bytes that a plain document is written as are normal
pub plain-normal : ArePlainForestsNormal
plain-normal table reads f plain = let r = bytes-again table reads true around false f plain in record {
  document = r.read.left.forest;
  input = record { text = r.utf8; state = r.read.left; read = r.read.gives; tree = refl };
  trees = r.read.shows;
  plain = r.plain;
  no_quirks = r.read.told_no_quirks;
  same = r.written;
  quiet = r.read.noted_quiet;
}

abbrev state-in : State → Result State Refusal → State
state-in other (Ok s) = s
state-in other (Err refusal) = other

-- bytes have one document at most
pub same-document : (table : List Row) (bytes : List ℕ) (f g : Forest) → IsDocument table bytes f → IsDocument table bytes g → f ≡ g
same-document table bytes f g a b = a.tree
    ∙ (ap (λ (r : Result State Refusal). (state-in a.state r).forest) (sym a.read ∙ b.read) ∙ sym b.tree)
