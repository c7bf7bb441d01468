-- Texts written one after another.
use Rattle.std.proofs.Common.{◌≡◌, ◌∙◌, ℕ, ◌+◌, List, ◌++◌, Result, Ok, Err, inl, inr, sym, ap, arith}
use Rattle.std.proofs.Common.{length, length-append, take}
use Rattle.std.proofs.lemmas.List.{take-append-le}
use Rattle.std.proofs.Math.Seq.{take-append-add}
use Rattle.html_serialize.proofs.Putting.{Broke-behind, Broke-longer, with_bytes-append, with_bytes-none, with_bytes-then}
use Rattle.figpliers.specs.Puts.{WriterView, with_bytes}
use Rattle.figpliers.specs.Serializing.{Began, Writes}
use Rattle.figpliers.specs.SerializeFault.{SerializeFault}
use Rattle.figpliers.specs.SerializeFault.TheVariants as writing
use Rattle.figpliers_program.specs.Faults.{serialize_fault_of}
use Rattle.figpliers_program.specs.Printing.{IsCut, Prints, PrintsSome}
use Rattle.figpliers_program.specs.declared.faults.PageFault.{PageFault}
use Rattle.figpliers_program.specs.declared.faults.PageFault.TheVariants.{Memory, NotUtf8, Open, Read, Write}

-- out of memory before anything was written
pub began-nothing : (old : WriterView) (text : List ℕ) → Began old text old
began-nothing old text = record { count = 0; within = omega arith; told = with_bytes-none old }

-- of what is longer a beginning was written too
pub cut-longer : (old new : WriterView) (first second : List ℕ) (fault : PageFault) → IsCut first old fault new
    → IsCut (first ++ second) old fault new
cut-longer old new first second Write cut = Broke-longer old new first second cut
cut-longer old new first second Memory cut = record {
  count = cut.count;
  within = let k = cut.within in omega (arith, length-append first second);
  told = cut.told ∙ ap (with_bytes old) (sym (take-append-le cut.count first second cut.within));
}
cut-longer old new first second (NotUtf8 at) cut = cut
cut-longer old new first second (Open why) cut = cut
cut-longer old new first second Read cut = cut

-- what came first was written, and what came after it, or a beginning of that
pub prints-behind : {R : Type 0} (old mid new : WriterView) (first second : List ℕ) (answer : Result R PageFault)
    → mid ≡ with_bytes old first → Prints second mid answer new → Prints (first ++ second) old answer new
prints-behind old mid new first second (Ok value) put prints = with_bytes-then old mid new first second put prints
prints-behind old mid new first second (Err Write) put prints = Broke-behind old mid new first second put prints
prints-behind old mid new first second (Err Memory) put prints = record {
  count = length first + prints.count;
  within = let k = prints.within in omega (arith, length-append first second);
  told =
      prints.told ∙ ap (λ (told : WriterView). with_bytes told (take prints.count second)) put
      ∙ with_bytes-append old first (take prints.count second)
      ∙ ap (with_bytes old) (sym (take-append-add first second prints.count));
}
prints-behind old mid new first second (Err (NotUtf8 at)) put prints = prints
prints-behind old mid new first second (Err (Open why)) put prints = prints
prints-behind old mid new first second (Err Read) put prints = prints

-- an error of the serializer, as an error of the page
pub cut-as : (R : Type 0) (text : List ℕ) (old new : WriterView) (fault : SerializeFault) → Writes {R = R} text old (Err fault) new
    → IsCut text old (serialize_fault_of fault) new
cut-as R text old new writing.Write wrote = wrote
cut-as R text old new writing.Memory wrote = wrote
cut-as R text old new writing.NoParent wrote = absurd wrote
cut-as R text old new writing.NoElemInfo wrote = absurd wrote
cut-as R text old new writing.Failed wrote = absurd wrote

-- a text that P describes, where each such text is one that Q does
pub prints-as : {R : Type 0} (P Q : List ℕ → R → Type 0) (old new : WriterView) (result : Result R PageFault)
    → ((text : List ℕ) (answer : R) → P text answer → Q text answer) → PrintsSome P old result new → PrintsSome Q old result new
prints-as P Q old new (Ok answer) gives (text, is, put) = (text, gives text answer is, put)
prints-as P Q old new (Err fault) gives (inl nothing) = inl nothing
prints-as P Q old new (Err fault) gives (inr (text, answer, is, cut)) = inr (text, answer, gives text answer is, cut)
