-- How much is left of trees, and what is written of them within bounds.
use Rattle.std.specs.Prelude.{◌≡◌, ℕ, ◌-◌, max, nat_lt, cond, List, [], ◌∷◌, length, Option, Some, None, Result, Ok, Err, IfOk}
use Rattle.std.specs.Prelude.{encode_utf8_all}
use Rattle.markup.specs.Calls.{Call, Refuses, Step, calls_of}
use Rattle.markup.specs.Calls.Call.{StartElem, EndElem}
use Rattle.markup.specs.Trees.{Trees}
use Rattle.html_serialize.specs.Puts.{Broke, WriterView, with_bytes}
use Rattle.html_clean.specs.Cleaned.{cleaned, pieces_of}
use Rattle.html_clean.specs.Counts.{counted_up, counts_of}
use Rattle.html_clean.specs.Pieces.{Piece, written_pieces}
use Rattle.html_clean.specs.Written.{IsLeft}
use Rattle.html_clean.specs.declared.bounding.Bound.{Bound}
use Rattle.html_clean.specs.declared.bounding.Bound.TheVariants.{Depth, Elements, Bytes}
use Rattle.html_clean.specs.declared.bounding.BoundedFault.{BoundedFault}
use Rattle.html_clean.specs.declared.bounding.BoundedFault.TheVariants.{Beyond, Memory, Write}
use Rattle.html_clean.specs.declared.bounding.Bounds.{Bounds}
use Rattle.html_clean.specs.declared.bounding.Measurer.{Measurer}
use Rattle.html_clean.specs.declared.counts.Cleaned.{Cleaned}
use Rattle.html_clean.specs.declared.policy.Policy.{Policy}

-- THE MEASURE

-- after the start of an element, and after the end: how many have begun and not ended, how many did so at most, and how many have begun
abbrev pub started : Measurer → Measurer
started m = record {
  begun = counted_up m.begun 1;
  depth = max m.depth (counted_up m.begun 1);
  elements = counted_up m.elements 1;
}

abbrev pub ended : Measurer → Measurer
ended m = record m { begun = m.begun - 1 }

abbrev pub measured : Measurer → Call → Measurer
measured m (StartElem name attributes) = started m
measured m (EndElem name) = ended m
measured m _ = m

-- after calls, one after the other
abbrev pub all_measured : Measurer → List Call → Measurer
all_measured m [] = m
all_measured m (call ∷ calls) = all_measured (measured m call) calls

abbrev pub nothing_measured : Measurer
nothing_measured = record { begun = 0; depth = 0; elements = 0 }

-- the elements of what is left of trees
abbrev pub measure_of : Policy → Trees → Measurer
measure_of policy trees = all_measured nothing_measured (calls_of (cleaned policy trees))

-- the bytes that are written of it
abbrev pub bytes_of : Policy → Trees → List ℕ
bytes_of policy trees = encode_utf8_all (written_pieces (pieces_of (cleaned policy trees)))

-- as a serializer: each call is taken
abbrev pub measuring : Step Measurer
measuring m call = Ok (measured m call)

abbrev pub never_refuses : Refuses Measurer
never_refuses old call fault new = ⊥

-- THE BOUNDS

-- the bound that elements pass, by a measure
abbrev pub beyond_measure : Bounds → Measurer → Option Bound
beyond_measure bounds m = cond (nat_lt bounds.depth m.depth) (Some Depth) (cond (nat_lt bounds.elements m.elements) (Some Elements) None)

-- the first bound that is passed, or else that of the bytes if it is
abbrev pub or_bytes : Option Bound → ℕ → ℕ → Option Bound
or_bytes None most count = cond (nat_lt most count) (Some Bytes) None
or_bytes (Some bound) most count = Some bound

-- the first bound that what is left of trees passes
unfoldable pub beyond : Bounds → Policy → Trees → Option Bound
beyond bounds policy trees = or_bytes (beyond_measure bounds (measure_of policy trees)) bounds.bytes (length (bytes_of policy trees))

-- what an answer says of the first bound that is passed: it is the one that is named, and where anything was written there is none
abbrev pub NamesBound : Option Bound → Result Cleaned BoundedFault → Type 0
NamesBound first (Ok counts) = first ≡ None
NamesBound first (Err (Beyond bound)) = first ≡ Some bound
NamesBound first (Err Memory) = Unit {0}
NamesBound first (Err Write) = first ≡ None

-- all of the bytes were written; or a beginning of them, and then a write failed; or nothing
abbrev pub PutsOrNot : WriterView → List ℕ → Result Cleaned BoundedFault → WriterView → Type 0
PutsOrNot old bytes (Ok counts) new = new ≡ with_bytes old bytes
PutsOrNot old bytes (Err (Beyond bound)) new = new ≡ old
PutsOrNot old bytes (Err Memory) new = new ≡ old
PutsOrNot old bytes (Err Write) new = Broke old bytes new

-- These tags and texts are what is left of the trees. They were written, and what was taken away is counted; or a beginning of them, and
-- then a write failed; or nothing, since they pass a bound or memory was wanted.
pub record WritesWithin (bounds : Bounds) (policy : Policy) (trees : Trees) (old : WriterView) (result : Result Cleaned BoundedFault)
    (new : WriterView) : Type 0 where
  pub pieces : List Piece
  pub left : IsLeft policy trees pieces
  pub bound : NamesBound (beyond bounds policy trees) result
  pub writes : PutsOrNot old (encode_utf8_all (written_pieces pieces)) result new
  pub counts : IfOk result (λ counts. counts ≡ counts_of policy trees)
