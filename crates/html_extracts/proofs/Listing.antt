-- Who writes the lines of each call has written those of a walk, or a beginning of them.
use Rattle.std.proofs.Common.{◌≡◌, ◌∙◌, ℕ, ◌+◌, List, [], ◌∷◌, ◌++◌, Result, Ok, Err, inl, inr, sym, ap, subst, arith}
use Rattle.std.proofs.Common.{append_assoc, length, length-append, take}
use Rattle.std.proofs.lemmas.List.{take-append-le}
use Rattle.std.proofs.Math.Seq.{take-append-add, take-length}
use Rattle.markup.specs.Calls.{Answers, Call, StopsBefore, Walks, run}
use Rattle.markup.specs.declared.serializer.SerializeFault.{SerializeFault}
use Rattle.markup.specs.declared.serializer.SerializeFault.TheVariants.{Failed, Memory, NoElemInfo, NoParent, Write}
use Rattle.html_serialize.proofs.Putting.{Broke-behind, Broke-longer, with_bytes-append, with_bytes-none}
use Rattle.html_serialize.specs.Puts.{WriterView, with_bytes}
use Rattle.html_serialize.specs.Serializing.{Began, Writes}
use Rattle.html_extracts.specs.Lines.{Lines, call_lines, indent_after, listed, refuses, walk_lines}

-- BEGINNINGS

-- bytes were written, or a beginning of them
abbrev pub Written : List ℕ → WriterView → Result (Unit {0}) SerializeFault → WriterView → Type 0
Written bytes old answer new = Writes bytes old answer new

-- out of memory before anything was written
pub begun-nothing : (old : WriterView) (bytes : List ℕ) → Began old bytes old
begun-nothing old bytes = record { count = 0; within = omega arith; told = with_bytes-none old }

-- all was written, and then memory was wanted
pub begun-all : (old new : WriterView) (bytes : List ℕ) → new ≡ with_bytes old bytes → Began old bytes new
begun-all old new bytes put = record {
  count = length bytes;
  within = omega arith;
  told = put ∙ ap (with_bytes old) (sym (take-length bytes));
}

-- a beginning of what is longer
pub cut-longer : (old new : WriterView) (first second : List ℕ) (fault : SerializeFault)
    → Written first old (Err fault) new → Written (first ++ second) old (Err fault) new
cut-longer old new first second Write cut = Broke-longer old new first second cut
cut-longer old new first second Memory cut = record {
  count = cut.count;
  within = let k = cut.within in omega (arith, length-append first second);
  told = cut.told ∙ ap (with_bytes old) (sym (take-append-le cut.count first second cut.within));
}
cut-longer old new first second NoParent cut = cut
cut-longer old new first second NoElemInfo cut = cut
cut-longer old new first second Failed cut = cut

-- what came first was written, and of what came after it a beginning, or all
pub written-behind : (old mid new : WriterView) (first second : List ℕ) (answer : Result (Unit {0}) SerializeFault)
    → mid ≡ with_bytes old first → Written second mid answer new → Written (first ++ second) old answer new
written-behind old mid new first second (Ok value) put writes =
    writes ∙ ap (λ (told : WriterView). with_bytes told second) put ∙ with_bytes-append old first second
written-behind old mid new first second (Err Write) put writes = Broke-behind old mid new first second put writes
written-behind old mid new first second (Err Memory) put writes = record {
  count = length first + writes.count;
  within = let k = writes.within in omega (arith, length-append first second);
  told =
      writes.told ∙ ap (λ (told : WriterView). with_bytes told (take writes.count second)) put
      ∙ with_bytes-append old first (take writes.count second)
      ∙ ap (with_bytes old) (sym (take-append-add first second writes.count));
}
written-behind old mid new first second (Err NoParent) put writes = writes
written-behind old mid new first second (Err NoElemInfo) put writes = writes
written-behind old mid new first second (Err Failed) put writes = writes

-- a part of the whole, after another that was written, was not
pub written-until : (old mid new : WriterView) (done part rest whole : List ℕ) (fault : SerializeFault) → mid ≡ with_bytes old done
    → whole ≡ done ++ (part ++ rest) → Written part mid (Err fault) new → Written whole old (Err fault) new
written-until old mid new done part rest whole fault put is cut =
    subst (λ b. Written b old (Err fault) new) (sym is)
    (written-behind old mid new done (part ++ rest) (Err fault) put (cut-longer mid new part rest fault cut))

-- WALKS

-- what a call answers whose lines were written, or a beginning of them
pub answered : (call : Call) (indent now_indent : List ℕ) (told now_told : WriterView) (bytes : List ℕ)
    (answer : Result (Unit {0}) SerializeFault) → bytes ≡ call_lines indent call → now_indent ≡ indent_after indent call
    → Written bytes told answer now_told
    → Answers listed refuses (record { indent = indent; told = told }) call answer (record { indent = now_indent; told = now_told })
answered call indent now_indent told now_told bytes (Ok value) lines moved writes =
    let words = writes ∙ ap (with_bytes told) lines in
    λ i. Ok (record { indent = sym moved i; told = sym words i })
answered call indent now_indent told now_told bytes (Err fault) lines moved writes =
    subst (λ b. Written b told (Err fault) now_told) lines writes

-- calls that were all made, and what the lines of more are
record Made (old : Lines) (made left : List Call) (reached : Lines) : Type 0 where
  told : reached.told ≡ with_bytes old.told (walk_lines old.indent made)
  lines : walk_lines old.indent (made ++ left) ≡ walk_lines old.indent made ++ walk_lines reached.indent left

made-calls : (old : Lines) (made left : List Call) (reached : Lines) → run listed old made ≡ Ok reached → Made old made left reached
made-calls old [] left reached ran =
    let same : old ≡ reached = cc in
    record {
      told = ap (λ (x : Lines). x.told) (sym same) ∙ with_bytes-none old.told;
      lines = ap (λ (x : Lines). walk_lines x.indent left) same;
    }
made-calls old (call ∷ made) left reached ran =
    let next : Lines = record {
      indent = indent_after old.indent call;
      told = with_bytes old.told (call_lines old.indent call);
    } in
    let rest = made-calls next made left reached ran in
    record {
      told = rest.told ∙ with_bytes-append old.told (call_lines old.indent call) (walk_lines next.indent made);
      lines = ap (λ bytes. call_lines old.indent call ++ bytes) rest.lines
          ∙ sym (append_assoc (call_lines old.indent call) (walk_lines next.indent made) (walk_lines reached.indent left));
    }

wanted-memory : (reached new : Lines) (bytes : List ℕ) (fault : SerializeFault) → fault ≡ Memory → new ≡ reached
    → Written bytes reached.told (Err fault) new.told
wanted-memory reached new bytes fault is same =
    subst (λ f. Written bytes reached.told (Err f) new.told) (sym is)
    (subst (λ (x : Lines). Began reached.told bytes x.told) (sym same) (begun-nothing reached.told bytes))

-- a walk stopped before some calls
stopped-before : (reached new : Lines) (left : List Call) (fault : SerializeFault) → StopsBefore refuses reached left fault new
    → Written (walk_lines reached.indent left) reached.told (Err fault) new.told
stopped-before reached new [] fault stopped = wanted-memory reached new [] fault stopped.0 stopped.1
stopped-before reached new (call ∷ left) fault stopped = elim stopped [
  | inl wanted ↦ wanted-memory reached new (walk_lines reached.indent (call ∷ left)) fault wanted.0 wanted.1
  | inr refused ↦ cut-longer reached.told new.told (call_lines reached.indent call)
      (walk_lines (indent_after reached.indent call) left) fault refused
]

-- the same, whatever the margin
walked : (old new : Lines) (calls : List Call) (answer : Result (Unit {0}) SerializeFault)
    → Walks listed refuses old calls answer new → Written (walk_lines old.indent calls) old.told answer new.told
walked old new calls (Ok value) walks = (made-calls old calls [] new walks).told
walked old new calls (Err fault) stops =
    let made = made-calls old stops.made stops.left stops.reached stops.ran in
    let lines : walk_lines old.indent stops.made ++ walk_lines stops.reached.indent stops.left ≡ walk_lines old.indent calls =
    sym (ap (walk_lines old.indent) stops.parts ∙ made.lines) in
    subst (λ b. Written b old.told (Err fault) new.told) lines
    (written-behind old.told stops.reached.told new.told (walk_lines old.indent stops.made)
    (walk_lines stops.reached.indent stops.left) (Err fault) made.told
    (stopped-before stops.reached new stops.left fault stops.stopped))

-- a walk from the left margin on
pub walk-writes : (old new : Lines) (calls : List Call) (answer : Result (Unit {0}) SerializeFault)
    → old.indent ≡ [] → Walks listed refuses old calls answer new → Written (walk_lines [] calls) old.told answer new.told
walk-writes old new calls answer margin walks =
    subst (λ (indent : List ℕ). Written (walk_lines indent calls) old.told answer new.told) margin (walked old new calls answer walks)
