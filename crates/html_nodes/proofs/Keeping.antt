-- Who keeps each call has kept the calls of a walk.
use Rattle.std.proofs.Common.{◌≡◌, ◌∙◌, ◌==◌, Bool, cond, List, [], ◌∷◌, ◌++◌, Result, Ok, Err, refl, sym, ap, append_assoc, append-nil}
use Rattle.std.specs.Bool.{Decides}
use Rattle.std.specs.Cmp.Lexicographic.{pointwise}
use Rattle.std.proofs.lemmas.Slice.Eq.{slice_eq-Decides}
use Rattle.markup.specs.Calls.{Call, run}
use Rattle.markup.specs.Calls.Call.{StartElem, EndElem, WriteText, WriteComment, WriteDoctype, WriteProcessingInstruction}
use Rattle.markup.specs.declared.serializer.SerializeFault.{SerializeFault}
use Rattle.html_nodes.specs.Calls.{all_told, kept, same_told, told_by_value, told_of}
use Rattle.html_nodes.specs.declared.alike.SeenCall.{SeenCall}

run-kept : (told : List SeenCall) (calls : List Call) → run kept told calls ≡ Ok (told ++ all_told calls)
run-kept told [] = ap (λ (l : List SeenCall). Ok l) (sym (append-nil told))
run-kept told (call ∷ calls) = run-kept (told ++ told_of call ∷ []) calls ∙ ap (λ (l : List SeenCall). Ok l)
    (append_assoc told (told_of call ∷ []) (all_told calls))

value_of : Result (List SeenCall) SerializeFault → List SeenCall
value_of (Ok told) = told
value_of (Err fault) = []

-- what was kept of a whole walk, from nothing on
pub all-kept : (old new : List SeenCall) (calls : List Call) → old ≡ [] → run kept old calls ≡ Ok new → new ≡ all_told calls
unfolding value_of
all-kept old new calls none ran = ap value_of (sym ran ∙ (ap (λ (l : List SeenCall). run kept l calls) none ∙ run-kept [] calls))

-- calls are known by what is kept of them
abbrev call_of : SeenCall → Call
call_of t =
    cond (t.kind == 0) (StartElem t.name t.attributes) (cond (t.kind == 1) (EndElem t.name) (cond (t.kind == 2) (WriteText t.text)
    (cond (t.kind == 3) (WriteComment t.text) (cond (t.kind == 4) (WriteDoctype t.text) (WriteProcessingInstruction t.text t.more)))))

call-back : (call : Call) → call_of (told_of call) ≡ call
call-back (StartElem name attributes) = refl
call-back (EndElem name) = refl
call-back (WriteText text) = refl
call-back (WriteComment text) = refl
call-back (WriteDoctype name) = refl
call-back (WriteProcessingInstruction target text) = refl

abbrev calls_of_told : List SeenCall → List Call
calls_of_told [] = []
calls_of_told (t ∷ ts) = call_of t ∷ calls_of_told ts

calls-back : (calls : List Call) → calls_of_told (all_told calls) ≡ calls
calls-back [] = refl
calls-back (call ∷ calls) = ap (λ c. c ∷ calls_of_told (all_told calls)) (call-back call)
    ∙ ap (λ (cs : List Call). call ∷ cs) (calls-back calls)

-- the test of what is kept decides whether the calls are equal
pub calls_by_value : (first second : List Call) (a b : List SeenCall) (alike : Bool) → a ≡ all_told first
    → b ≡ all_told second → alike ≡ pointwise same_told a b → Decides alike (first ≡ second)
calls_by_value first second a b alike is_first is_second test =
    let d = slice_eq-Decides told_by_value a b alike test in (
      λ e. sym (calls-back first) ∙ (ap calls_of_told (sym is_first ∙ (d.0 e ∙ is_second)) ∙ calls-back second),
      λ e. d.1 (is_first ∙ (ap all_told e ∙ sym is_second)),
    )
