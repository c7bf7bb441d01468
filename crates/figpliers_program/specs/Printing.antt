-- What is written to standard output, and what it says of a write that failed.
use Rattle.std.specs.Prelude.{◌≡◌, ◌⊎◌, List, ℕ, Result, Ok, Err}
use Rattle.figpliers.specs.Puts.{Broke, WriterView, with_bytes}
use Rattle.figpliers.specs.Serializing.{Began}
use Rattle.figpliers_program.specs.declared.faults.PageFault.{PageFault}
use Rattle.figpliers_program.specs.declared.faults.PageFault.TheVariants.{Memory, Write}

-- a beginning of the text was written, and then a write failed or memory ran out
abbrev pub IsCut : List ℕ → WriterView → PageFault → WriterView → Type 0
IsCut text old Write new = Broke old text new
IsCut text old Memory new = Began old text new
IsCut text old fault new = ⊥

-- the text was written, or a beginning of it
abbrev pub Prints : {R : Type 0} → List ℕ → WriterView → Result R PageFault → WriterView → Type 0
Prints text old (Ok _) new = new ≡ with_bytes old text
Prints text old (Err fault) new = IsCut text old fault new

-- A text that P describes, with its answer, was written; or, after an error, a prefix of such a text; or nothing, when out of memory.
abbrev pub PrintsSome : {R : Type 0} → (List ℕ → R → Type 0) → WriterView → Result R PageFault → WriterView → Type 0
PrintsSome P old (Ok answer) new = (text : List ℕ) × P text answer × (new ≡ with_bytes old text)
PrintsSome {R} P old (Err fault) new = ((fault ≡ Memory) × (new ≡ old))
    ⊎ ((text : List ℕ) × (answer : R) × P text answer × IsCut text old fault new)
