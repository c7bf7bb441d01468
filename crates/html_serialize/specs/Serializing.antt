-- The serializer as a state, and what each call makes of it (HTML Standard, section 13.3).
use Rattle.std.specs.Prelude.{◌≡◌, ℕ, ◌≤◌, Bool, true, false, cond, List, [], ◌∷◌, Option, Some, None, Result, Ok, Err, IsOk}
use Rattle.std.specs.Prelude.{length, take, encode_utf8_all}
use Rattle.markup.specs.Calls.{Call, Walks}
use Rattle.markup.specs.Calls.Call.{StartElem, EndElem, WriteText, WriteComment, WriteDoctype, WriteProcessingInstruction}
use Rattle.markup.specs.Escape.{written_comment, written_doctype, written_instruction}
use Rattle.markup.specs.Trees.{Entry, Trees, default_entry, end_of, entry_under, first_entry, start_under, text_under, written}
use Rattle.markup.specs.declared.serializer.SerializeFault.{SerializeFault}
use Rattle.markup.specs.declared.serializer.SerializeFault.TheVariants.{Write, NoParent, NoElemInfo, Memory, Failed}
use Rattle.markup.specs.declared.serializer.TraversalScope.{TraversalScope}
use Rattle.markup.specs.declared.serializer.TraversalScope.TheVariants.{IncludeNode, ChildrenOnly}
use Rattle.html_serialize.specs.Puts.{Broke, WriterView, told_by, with_bytes}

pub record Serializing : Type 0 where
  -- whether scripts run
  pub scripting : Bool
  -- whether a missing entry is made
  pub creates : Bool
  -- an entry for each element that has begun and not ended, the last one first, and one for what stands around them
  pub stack : List Entry
  -- what the writer tells
  pub told : WriterView
  -- whether a write failed or memory was wanted
  pub failed : Bool

-- by the parts of a serializer
abbrev pub serializing_by : {W : Type 0} → (W → Option (List ℕ)) → (W → Option ℕ) → W → Bool → Bool → List Entry → Bool → Serializing
serializing_by written failures writer scripting creates stack failed =
    record { scripting = scripting; creates = creates; stack = stack; told = told_by written failures writer; failed = failed }

-- a function of what went well
abbrev pub map_ok : {A B : Type 0} → (A → B) → Result A SerializeFault → Result B SerializeFault
map_ok f (Ok x) = Ok (f x)
map_ok f (Err fault) = Err fault

-- the entry around all
abbrev pub entry_for : Bool → TraversalScope → Entry
entry_for scripting IncludeNode = default_entry
entry_for scripting (ChildrenOnly name) = first_entry scripting name

abbrev pub started : Bool → Bool → TraversalScope → WriterView → Serializing
started scripting creates scope told = record {
  scripting = scripting;
  creates = creates;
  stack = entry_for scripting scope ∷ [];
  told = told;
  failed = false;
}

abbrev pub first_of : List Entry → Option Entry
first_of [] = None
first_of (entry ∷ stack) = Some entry

abbrev pub rest_of : List Entry → List Entry
rest_of [] = []
rest_of (entry ∷ stack) = stack

abbrev pub top_of : List Entry → Entry
top_of [] = default_entry
top_of (entry ∷ stack) = entry

-- the stack, with an entry where there was none and one may be made
abbrev pub with_parent : Bool → List Entry → Result (List Entry) SerializeFault
with_parent creates (entry ∷ stack) = Ok (entry ∷ stack)
with_parent true [] = Ok (default_entry ∷ [])
with_parent false [] = Err NoParent

abbrev pub without_last : Bool → List Entry → Result (List Entry) SerializeFault
without_last creates (entry ∷ stack) = Ok stack
without_last true [] = Ok []
without_last false [] = Err NoElemInfo

-- the stack after a call
abbrev pub stack_after : Serializing → Call → Result (List Entry) SerializeFault
stack_after s (StartElem name attributes) = map_ok (λ stack. entry_under s.scripting (top_of stack) name ∷ stack)
    (with_parent s.creates s.stack)
stack_after s (EndElem name) = without_last s.creates s.stack
stack_after s (WriteText text) = with_parent s.creates s.stack
stack_after s _ = Ok s.stack

-- the text that a call writes
abbrev pub text_of : Serializing → Call → List ℕ
text_of s (StartElem name attributes) = start_under (top_of s.stack) name attributes
text_of s (EndElem name) = end_of (top_of s.stack) name
text_of s (WriteText text) = text_under (top_of s.stack) text
text_of s (WriteComment text) = written_comment text
text_of s (WriteDoctype name) = written_doctype name
text_of s (WriteProcessingInstruction target text) = written_instruction target text

abbrev pub bytes_of : Serializing → Call → List ℕ
bytes_of s call = encode_utf8_all (text_of s call)

abbrev pub with_stack_after : Serializing → Call → List Entry → Serializing
with_stack_after s call stack = record s { stack = stack; told = with_bytes s.told (bytes_of s call) }

-- what a call makes of a serializer, where memory is there and no write fails
unfoldable pub step : Serializing → Call → Result Serializing SerializeFault
step s call = cond s.failed (Err Failed) (map_ok (with_stack_after s call) (stack_after s call))

-- the stack after a part of a call, and the entry that stood on top; or why there is none
abbrev pub Takes : Result (List Entry) SerializeFault → List Entry → Result Entry SerializeFault → List Entry → Type 0
Takes behind old (Ok top) new = (behind ≡ Ok new) × (top ≡ top_of old)
Takes behind old (Err Memory) new = IsOk behind
Takes behind old (Err fault) new = (behind ≡ Err fault) × (new ≡ old)

-- what a call leaves of the stack and of what the writer tells, by the stack after it and its bytes
abbrev pub Does : {R : Type 0} → Result (List Entry) SerializeFault → List ℕ → List Entry → WriterView
    → Result R SerializeFault → List Entry → WriterView → Type 0
Does behind bytes stack told (Ok _) stack' told' = (behind ≡ Ok stack') × (told' ≡ with_bytes told bytes)
Does behind bytes stack told (Err Write) stack' told' = IsOk behind × Broke told bytes told'
Does behind bytes stack told (Err Memory) stack' told' = IsOk behind × (told' ≡ told)
Does behind bytes stack told (Err fault) stack' told' = (behind ≡ Err fault) × (stack' ≡ stack) × (told' ≡ told)

-- whether a fault fails the serializer
abbrev pub is_fatal : {R : Type 0} → Result R SerializeFault → Bool
is_fatal (Err Write) = true
is_fatal (Err Memory) = true
is_fatal _ = false

-- a call may want memory where the stack grows
abbrev pub may_grow : Call → Bool
may_grow (StartElem name attributes) = true
may_grow (WriteText text) = true
may_grow _ = false

-- a call that the serializer takes has failed it, with nothing written
pub record OutOfMemory (old : Serializing) (call : Call) (new : Serializing) : Type 0 where
  pub grows : may_grow call ≡ true
  pub behind : Serializing
  pub taken : step old call ≡ Ok behind
  pub same : new.told ≡ old.told
  pub failed : new.failed ≡ true

-- a write of a call that the serializer takes has failed it, with a beginning of the call's text written
pub record WriteFailed (old : Serializing) (call : Call) (new : Serializing) : Type 0 where
  pub behind : Serializing
  pub taken : step old call ≡ Ok behind
  pub broke : Broke old.told (bytes_of old call) new.told
  pub failed : new.failed ≡ true

-- a call that the serializer refuses, and which leaves it as it was
pub record Refused (old : Serializing) (call : Call) (fault : SerializeFault) (new : Serializing) : Type 0 where
  pub refused : step old call ≡ Err fault
  pub same : new ≡ old

unfoldable pub refuses : Serializing → Call → SerializeFault → Serializing → Type 0
refuses old call Write new = WriteFailed old call new
refuses old call Memory new = OutOfMemory old call new
refuses old call fault new = Refused old call fault new

-- what a walk of these calls makes of what the writer tells, from a new serializer on
abbrev pub Serializes : {R : Type 0} → Bool → Bool → TraversalScope → List Call → WriterView → Result R SerializeFault → WriterView → Type 0
Serializes scripting creates scope calls old result new =
    (left : Serializing) × ((left.told ≡ new) × Walks step refuses (started scripting creates scope old) calls result left)

-- a beginning of the bytes was written
pub record Began (old : WriterView) (bytes : List ℕ) (new : WriterView) : Type 0 where
  pub count : ℕ
  pub within : count ≤ length bytes
  pub told : new ≡ with_bytes old (take count bytes)

-- the bytes were written; or a beginning of them, and then a write failed or memory was wanted
abbrev pub Writes : {R : Type 0} → List ℕ → WriterView → Result R SerializeFault → WriterView → Type 0
Writes bytes old (Ok _) new = new ≡ with_bytes old bytes
Writes bytes old (Err Write) new = Broke old bytes new
Writes bytes old (Err Memory) new = Began old bytes new
Writes bytes old (Err fault) new = ⊥

-- the bytes of trees, in the scope of a walk
abbrev pub bytes_in : Bool → TraversalScope → Trees → List ℕ
bytes_in scripting scope trees = encode_utf8_all (written scripting (entry_for scripting scope) trees)
