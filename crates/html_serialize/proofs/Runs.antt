-- What calls in order write.
use Rattle.std.proofs.Common.{◌≡◌, ◌∙◌, ℕ, Bool, true, false, cond, List, [], ◌∷◌, ◌++◌, Result, Ok, Err, inl, inr, length}
use Rattle.std.proofs.Common.{take, refl, sym, ap, append_assoc, length-append, arith, encode_utf8_all}
use Rattle.std.proofs.lemmas.List.{append-nil}
use Rattle.std.proofs.lemmas.Str.{encodes-append}
use Rattle.std.proofs.Math.Seq.{take-append_seam}
use Rattle.markup.specs.Calls.{Call, StopsBefore, Walks, and_then, calls_before, calls_of, run}
use Rattle.markup.specs.Calls.Call.{EndElem}
use Rattle.markup.specs.Escape.{written_comment, written_doctype, written_instruction}
use Rattle.markup.specs.Trees.{Entry, Trees, Nothing, Text, Comment, ProcessingInstruction, Doctype, Element, end_of}
use Rattle.markup.specs.Trees.{entry_under, start_under, text_under, written}
use Rattle.markup.specs.declared.serializer.SerializeFault.{SerializeFault}
use Rattle.markup.specs.declared.serializer.SerializeFault.TheVariants.{Write, NoParent, NoElemInfo, Memory, Failed}
use Rattle.markup.specs.declared.serializer.TraversalScope.{TraversalScope}
use Rattle.html_serialize.specs.Puts.{WriterView, with_bytes}
use Rattle.html_serialize.specs.Serializing.{Began, Serializes, Serializing, Writes, bytes_in, bytes_of, with_stack_after}
use Rattle.html_serialize.specs.Serializing.{entry_for, map_ok, refuses, stack_after, started, step}
use Rattle.html_serialize.proofs.Putting.{Broke-behind, Broke-longer, with_bytes-append, with_bytes-none}

abbrev with_text : WriterView → List ℕ → WriterView
with_text told text = with_bytes told (encode_utf8_all text)

with_text-append : (told : WriterView) (first second : List ℕ) → with_text (with_text told first) second ≡ with_text told (first ++ second)
with_text-append told first second = with_bytes-append told (encode_utf8_all first) (encode_utf8_all second)
    ∙ ap (with_bytes told) (sym (encodes-append first second))

with_text-four : (told : WriterView) (a b c d : List ℕ) → with_text (with_text (with_text (with_text told a) b) c)
    d ≡ with_text told (a ++ (b ++ (c ++ d)))
with_text-four told a b c d = with_text-append (with_text (with_text told a) b) c d
    ∙ with_text-append (with_text told a) b (c ++ d) ∙ with_text-append told a (b ++ (c ++ d))

-- a serializer that has not failed
abbrev at : Bool → Bool → List Entry → WriterView → Serializing
at scripting creates stack told = record { scripting = scripting; creates = creates; stack = stack; told = told; failed = false }

-- the calls of trees write their text, and leave the stack as it was
pub run-trees : (trees : Trees) (scripting creates : Bool) (top : Entry) (stack : List Entry) (told : WriterView) (rest : List Call)
    → run step (at scripting creates (top ∷ stack) told) (calls_before trees rest) ≡ run step
    (at scripting creates (top ∷ stack) (with_text told (written scripting top trees))) rest
unfolding step written
run-trees Nothing sc cr top stack told rest = ap (λ (t : WriterView). run step (at sc cr (top ∷ stack) t) rest) (with_bytes-none told)
run-trees (Text text next) sc cr top stack told rest =
    run-trees next sc cr top stack (with_text told (text_under top text)) rest
    ∙ ap (λ (t : WriterView). run step (at sc cr (top ∷ stack) t) rest) (with_text-append told (text_under top text) (written sc top next))
run-trees (Comment text next) sc cr top stack told rest =
    run-trees next sc cr top stack (with_text told (written_comment text)) rest
    ∙ ap (λ (t : WriterView). run step (at sc cr (top ∷ stack) t) rest) (with_text-append told (written_comment text) (written sc top next))
run-trees (ProcessingInstruction target text next) sc cr top stack told rest =
    run-trees next sc cr top stack (with_text told (written_instruction target text)) rest
    ∙ ap (λ (t : WriterView). run step (at sc cr (top ∷ stack) t) rest)
    (with_text-append told (written_instruction target text) (written sc top next))
run-trees (Doctype name public_id system_id next) sc cr top stack told rest =
    run-trees next sc cr top stack (with_text told (written_doctype name)) rest
    ∙ ap (λ (t : WriterView). run step (at sc cr (top ∷ stack) t) rest) (with_text-append told (written_doctype name) (written sc top next))
run-trees (Element name attributes template kids next) sc cr top stack told rest =
    let own = entry_under sc top name in
    let begun = with_text told (start_under top name attributes) in
    let filled = with_text begun (written sc own kids) in
    let ended = with_text filled (end_of own name) in
    run-trees kids sc cr own (top ∷ stack) begun (EndElem name ∷ calls_before next rest)
    ∙ run-trees next sc cr top stack ended rest
    ∙ ap (λ (t : WriterView). run step (at sc cr (top ∷ stack) t) rest)
    (with_text-append filled (end_of own name) (written sc top next)
    ∙ with_text-append begun (written sc own kids) (end_of own name ++ written sc top next)
    ∙ with_text-append told (start_under top name attributes) (written sc own kids ++ (end_of own name ++ written sc top next)))

-- the bytes that calls write, up to the first that is refused
bytes_after : (Serializing → List ℕ) → Result Serializing SerializeFault → List ℕ
bytes_after more (Ok next) = more next
bytes_after more (Err fault) = []

bytes_run : Serializing → List Call → List ℕ
bytes_run s [] = []
bytes_run s (call ∷ calls) = bytes_of s call ++ bytes_after (λ next. bytes_run next calls) (step s call)

-- what is told after calls that were all made, and the bytes of those before others
record Ran (s : Serializing) (made left : List Call) (reached : Serializing) : Type 0 where
  told : reached.told ≡ with_bytes s.told (bytes_run s made)
  bytes : bytes_run s (made ++ left) ≡ bytes_run s made ++ bytes_run reached left
  goes : run step s (made ++ left) ≡ run step reached left

step-told : (s : Serializing) (call : Call) (next : Serializing) → step s call ≡ Ok next → next.told ≡ with_bytes s.told (bytes_of s call)
unfolding step
step-told s call next is = by_failed s.failed (stack_after s call) is
  where
    by_failed : (b : Bool) (behind : Result (List Entry) SerializeFault) → cond b (Err Failed)
        (map_ok (with_stack_after s call) behind) ≡ Ok next → next.told ≡ with_bytes s.told (bytes_of s call)
    by_failed true behind is = absurd cc
    by_failed false (Ok stack) is = let same : with_stack_after s call stack ≡ next = cc in ap (λ (x : Serializing). x.told) (sym same)
    by_failed false (Err fault) is = absurd cc

ran-step : (s : Serializing) (call : Call) (made left : List Call) (reached : Serializing)
    (r : Result Serializing SerializeFault) → step s call ≡ r
    → and_then r (λ next. run step next made) ≡ Ok reached → ((next : Serializing) → run step next made ≡ Ok reached
    → Ran next made left reached) → Ran s (call ∷ made) left reached
unfolding bytes_run bytes_after
ran-step s call made left reached (Err fault) first is rest = absurd cc
ran-step s call made left reached (Ok next) first is rest =
    let behind = rest next is in
    record {
      told =
          behind.told ∙ ap (λ (t : WriterView). with_bytes t (bytes_run next made)) (step-told s call next first)
          ∙ with_bytes-append s.told (bytes_of s call) (bytes_run next made)
          ∙ rw first refl;
      bytes = rw first (ap (λ (xs : List ℕ). bytes_of s call ++ xs) behind.bytes
          ∙ sym (append_assoc (bytes_of s call) (bytes_run next made) (bytes_run reached left)));
      goes = rw first behind.goes;
    }

ran : (made left : List Call) (s reached : Serializing) → run step s made ≡ Ok reached → Ran s made left reached
unfolding bytes_run bytes_after
ran [] left s reached is =
    let same : s ≡ reached = cc in
    record {
      told = ap (λ (x : Serializing). x.told) (sym same) ∙ with_bytes-none s.told;
      bytes = ap (λ (x : Serializing). bytes_run x left) same;
      goes = ap (λ (x : Serializing). run step x left) same;
    }
ran (call ∷ made) left s reached is = ran-step s call made left reached (step s call) refl is (λ next was. ran made left next reached was)

-- the bytes of one call, and of the trees after it
one : (sc cr : Bool) (top : Entry) (stack : List Entry) (told : WriterView) (rest : List Call) (text : List ℕ)
    (next : Trees) (more : List ℕ)
    → more ≡ encode_utf8_all (written sc top next)
    ++ bytes_run (at sc cr (top ∷ stack) (with_text (with_text told text) (written sc top next))) rest
    → encode_utf8_all text ++ more ≡ encode_utf8_all (text ++ written sc top next)
    ++ bytes_run (at sc cr (top ∷ stack) (with_text told (text ++ written sc top next))) rest
one sc cr top stack told rest text next more is =
    ap (λ (xs : List ℕ). encode_utf8_all text ++ xs) is
    ∙ sym (append_assoc (encode_utf8_all text) (encode_utf8_all (written sc top next))
    (bytes_run (at sc cr (top ∷ stack) (with_text (with_text told text) (written sc top next))) rest))
    ∙ ap (λ (xs : List ℕ). xs
    ++ bytes_run (at sc cr (top ∷ stack) (with_text (with_text told text) (written sc top next))) rest)
    (sym (encodes-append text (written sc top next)))
    ∙ ap (λ (t : WriterView). encode_utf8_all (text ++ written sc top next) ++ bytes_run (at sc cr (top ∷ stack) t)
    rest) (with_text-append told text (written sc top next))

regroup : (a b c d tail : List ℕ) → a ++ (b ++ (c ++ (d ++ tail))) ≡ (a ++ (b ++ (c ++ d))) ++ tail
regroup a b c d tail = sym (simp append_assoc)

encodes-four : (a b c d : List ℕ) → encode_utf8_all (a ++ (b ++ (c ++ d))) ≡ encode_utf8_all a
    ++ (encode_utf8_all b ++ (encode_utf8_all c ++ encode_utf8_all d))
encodes-four a b c d =
    encodes-append a (b ++ (c ++ d)) ∙ ap (λ (xs : List ℕ). encode_utf8_all a ++ xs)
    (encodes-append b (c ++ d) ∙ ap (λ (xs : List ℕ). encode_utf8_all b ++ xs) (encodes-append c d))

-- the bytes of trees
bytes-trees : (trees : Trees) (scripting creates : Bool) (top : Entry) (stack : List Entry) (told : WriterView) (rest : List Call)
    → bytes_run (at scripting creates (top ∷ stack) told) (calls_before trees rest)
    ≡ encode_utf8_all (written scripting top trees)
    ++ bytes_run (at scripting creates (top ∷ stack) (with_text told (written scripting top trees))) rest
unfolding step written bytes_run bytes_after
bytes-trees Nothing sc cr top stack told rest = ap (λ (t : WriterView). bytes_run (at sc cr (top ∷ stack) t) rest) (with_bytes-none told)
bytes-trees (Text text next) sc cr top stack told rest = one sc cr top stack told rest (text_under top text) next _
    (bytes-trees next sc cr top stack (with_text told (text_under top text)) rest)
bytes-trees (Comment text next) sc cr top stack told rest = one sc cr top stack told rest (written_comment text)
    next _ (bytes-trees next sc cr top stack (with_text told (written_comment text)) rest)
bytes-trees (ProcessingInstruction target text next) sc cr top stack told rest = one sc cr top stack told rest
    (written_instruction target text) next _ (bytes-trees next sc cr top stack (with_text told (written_instruction target text)) rest)
bytes-trees (Doctype name public_id system_id next) sc cr top stack told rest = one sc cr top stack told rest
    (written_doctype name) next _ (bytes-trees next sc cr top stack (with_text told (written_doctype name)) rest)
bytes-trees (Element name attributes template kids next) sc cr top stack told rest =
    let own = entry_under sc top name in
    let start = start_under top name attributes in
    let inner = written sc own kids in
    let end = end_of own name in
    let behind = written sc top next in
    let begun = with_text told start in
    let filled = with_text begun inner in
    let ended = with_text filled end in
    let tail = bytes_run (at sc cr (top ∷ stack) (with_text ended behind)) rest in
    ap (λ (xs : List ℕ). encode_utf8_all start ++ xs)
    (bytes-trees kids sc cr own (top ∷ stack) begun (EndElem name ∷ calls_before next rest)
    ∙ ap (λ (xs : List ℕ). encode_utf8_all inner ++ (encode_utf8_all end ++ xs)) (bytes-trees next sc cr top stack ended rest))
    ∙ regroup (encode_utf8_all start) (encode_utf8_all inner) (encode_utf8_all end) (encode_utf8_all behind) tail
    ∙ ap (λ (xs : List ℕ). xs ++ tail) (sym (encodes-four start inner end behind))
    ∙ ap (λ (t : WriterView). encode_utf8_all (start ++ (inner ++ (end ++ behind)))
    ++ bytes_run (at sc cr (top ∷ stack) t) rest) (with_text-four told start inner end behind)

abbrev err : {R : Type 0} → SerializeFault → Result R SerializeFault
err fault = Err fault

-- a beginning of bytes that are two parts
began : (old reached new : WriterView) (first second bytes : List ℕ) → reached ≡ with_bytes old first
    → new ≡ reached → bytes ≡ first ++ second → Began old bytes new
began old reached new first second bytes put same whole = record {
  count = length first;
  within = let n = ap length whole in omega (arith, length-append first second);
  told = same ∙ put ∙ ap (with_bytes old) (sym (take-append_seam first second) ∙ ap (take (length first)) (sym whole));
}

-- no call is refused where all are made
not_refused : (reached end : Serializing) (call : Call) (calls : List Call) (fault : SerializeFault)
    → run step reached (call ∷ calls) ≡ Ok end → step reached call ≡ Err fault → ⊥
not_refused reached end call calls fault all refused = let none : Err fault ≡ Ok end = rw refused at all in cc

refused_writes : (R : Type 0) (bytes : List ℕ) (s reached left end : Serializing) (made : List Call) (call : Call)
    (calls : List Call) (fault : SerializeFault) → Ran s made (call ∷ calls) reached
    → run step reached (call ∷ calls) ≡ Ok end → bytes ≡ bytes_run s made ++ bytes_run reached (call ∷ calls)
    → refuses reached call fault left → Writes bytes s.told (err {R = R} fault) left.told
unfolding refuses bytes_run
refused_writes R bytes s reached left end made call calls Write behind all whole failed =
    let more = bytes_after (λ next. bytes_run next calls) (step reached call) in
    rw whole (Broke-behind s.told reached.told left.told (bytes_run s made) (bytes_of reached call ++ more)
    behind.told (Broke-longer reached.told left.told (bytes_of reached call) more failed.broke))
refused_writes R bytes s reached left end made call calls Memory behind all whole failed =
    began s.told reached.told left.told (bytes_run s made) (bytes_run reached (call ∷ calls)) bytes behind.told failed.same whole
refused_writes R bytes s reached left end made call calls NoParent behind all whole failed =
    not_refused reached end call calls NoParent all failed.refused
refused_writes R bytes s reached left end made call calls NoElemInfo behind all whole failed =
    not_refused reached end call calls NoElemInfo all failed.refused
refused_writes R bytes s reached left end made call calls Failed behind all whole failed =
    not_refused reached end call calls Failed all failed.refused

memory_writes : (R : Type 0) (bytes : List ℕ) (s reached left : Serializing) (made rest : List Call)
    (fault : SerializeFault) → Ran s made rest reached
    → bytes ≡ bytes_run s made ++ bytes_run reached rest → (fault ≡ Memory) × (left ≡ reached) → Writes bytes s.told
    (err {R = R} fault) left.told
memory_writes R bytes s reached left made rest fault behind whole wanted =
    rw (wanted.0) (began s.told reached.told left.told (bytes_run s made) (bytes_run reached rest) bytes behind.told
    (ap (λ (x : Serializing). x.told) wanted.1) whole)

stopped_writes : (R : Type 0) (bytes : List ℕ) (s reached left end : Serializing) (made rest : List Call)
    (fault : SerializeFault) → Ran s made rest reached
    → run step reached rest ≡ Ok end → bytes ≡ bytes_run s made ++ bytes_run reached rest
    → StopsBefore refuses reached rest fault left → Writes bytes s.told (err {R = R} fault) left.told
stopped_writes R bytes s reached left end made [] fault behind all whole stopped =
    memory_writes R bytes s reached left made [] fault behind whole stopped
stopped_writes R bytes s reached left end made (call ∷ calls) fault behind all whole (inl wanted) =
    memory_writes R bytes s reached left made (call ∷ calls) fault behind whole wanted
stopped_writes R bytes s reached left end made (call ∷ calls) fault behind all whole (inr refused) =
    refused_writes R bytes s reached left end made call calls fault behind all whole refused

-- what a walk of trees writes, from a new serializer on
writes_of : {R : Type 0} (bytes : List ℕ) (s left : Serializing) (calls : List Call) (end : Serializing) (result : Result R SerializeFault)
    → run step s calls ≡ Ok end → bytes_run s calls ≡ bytes → end.told ≡ with_bytes s.told bytes
    → Walks step refuses s calls result left → Writes bytes s.told result left.told
writes_of bytes s left calls end (Ok answer) all is told walk = let same : left ≡ end = cc in ap (λ (x : Serializing). x.told) same ∙ told
writes_of {R} bytes s left calls end (Err fault) all is told walk =
    let behind = ran walk.made walk.left s walk.reached walk.ran in
    stopped_writes R bytes s walk.reached left end walk.made walk.left fault behind
    (sym behind.goes ∙ ap (run step s) (sym walk.parts) ∙ all)
    (sym is ∙ ap (bytes_run s) walk.parts ∙ behind.bytes) walk.stopped

pub writes : {R : Type 0} (scripting creates : Bool) (scope : TraversalScope) (calls : List Call)
    (old new : WriterView) (result : Result R SerializeFault) → Serializes scripting creates scope calls old result new
    → (trees : Trees) → calls ≡ calls_of trees → Writes (bytes_in scripting scope trees) old result new
unfolding bytes_run
writes sc cr scope calls old new result walks trees are =
    let text = written sc (entry_for sc scope) trees in
    let s = started sc cr scope old in
    let end = at sc cr (entry_for sc scope ∷ []) (with_text old text) in
    let all : run step s calls ≡ Ok end = ap (run step s) are ∙ run-trees trees sc cr (entry_for sc scope) [] old [] in
    let bytes : bytes_run s calls ≡ encode_utf8_all text = ap (bytes_run s) are ∙ bytes-trees trees sc cr
    (entry_for sc scope) [] old [] ∙ append-nil (encode_utf8_all text) in
    rw (← walks.1.0) (writes_of (encode_utf8_all text) s walks.0 calls end result all bytes refl walks.1.1)
