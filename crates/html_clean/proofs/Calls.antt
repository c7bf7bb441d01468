-- Filtering the calls of trees leaves the calls of the cleaned trees.
use Rattle.std.proofs.Common.{◌≡◌, ◌∙◌, ℕ, Bool, true, false, List, [], ◌∷◌, Option, Some, None, refl, ap}
use Rattle.markup.specs.Calls.{Call, calls_before, calls_of}
use Rattle.markup.specs.Calls.Call.{StartElem, EndElem, WriteText, WriteComment, WriteDoctype, WriteProcessingInstruction}
use Rattle.markup.specs.Trees.{Trees, Nothing, Text, Comment, ProcessingInstruction, Doctype, Element}
use Rattle.markup.specs.declared.attributes.Attribute.{Attribute}
use Rattle.markup.specs.declared.names.QualName.{QualName}
use Rattle.html_clean.specs.declared.filter.Opened.{Opened}
use Rattle.html_clean.specs.Calls.{call_before, filtered, front_after, hides, if_passed, open_after, opened, opened_by, passed}
use Rattle.html_clean.specs.Calls.{passes, text_passed}
use Rattle.html_clean.specs.Cleaned.{cleaned, cleaned_before, element_before, text_before, unmarked, unmarked_by}
use Rattle.html_clean.specs.Names.{is_void}
use Rattle.html_clean.specs.Policies.{fate, kept_attributes, plain_text, text_at, without_marks}
use Rattle.html_clean.specs.declared.elements.Fate.{Fate}
use Rattle.html_clean.specs.declared.elements.Fate.TheVariants.{Kept, Dropped, Unwrapped}
use Rattle.html_clean.specs.declared.policy.Policy.{Policy}

-- BEHIND SOMETHING

-- under an element that hides what stands in it nothing is passed on
hidden : (policy : Policy) (stack : List Opened) → hides stack ≡ true → (trees : Trees) (rest : List Call)
    → filtered policy stack false (calls_before trees rest) ≡ filtered policy stack false rest
hidden policy stack h Nothing rest = refl
hidden policy stack h (Text text next) rest = rw h (hidden policy stack h next rest)
hidden policy stack h (Comment text next) rest = hidden policy stack h next rest
hidden policy stack h (ProcessingInstruction target text next) rest = hidden policy stack h next rest
hidden policy stack h (Doctype name public_id system_id next) rest = hidden policy stack h next rest
hidden policy stack h (Element name attributes template kids next) rest =
    rw h (hidden policy (record { passes = false; hides = true } ∷ stack) refl kids
    (EndElem name ∷ calls_before next rest) ∙ hidden policy stack h next rest)

text-filtered : (text : List ℕ) (calls : List Call) (trees : Trees) (rest : List Call)
    → calls ≡ calls_before trees rest → call_before (text_passed false text) calls ≡ calls_before (text_before text trees) rest
text-filtered [] calls trees rest h = h
text-filtered (c ∷ cs) calls trees rest h = ap (λ calls. WriteText (c ∷ cs) ∷ calls) h

-- an element, by what is left of its children and of what follows it
element-filtered : (policy : Policy) (f : Fate) (v : Bool) (stack : List Opened) (name : QualName)
    (attributes : List Attribute) (kids : Trees) (more : List Call) (after : Trees) (rest : List Call)
    → is_void name.local ≡ v
    → ((stack : List Opened) → hides stack ≡ false → (calls : List Call) (after : Trees) (rest : List Call)
    → filtered policy stack false calls ≡ calls_before after rest → filtered policy stack false
    (calls_before kids calls) ≡ calls_before (cleaned_before policy kids after) rest)
    → filtered policy stack false more ≡ calls_before after rest
    → let own = opened_by false f v in
    call_before (if_passed own.passes (StartElem name attributes))
    (filtered policy (own ∷ stack) false (calls_before kids (EndElem name ∷ more)))
    ≡ calls_before (element_before f name attributes (cleaned_before policy kids) after) rest
element-filtered policy Kept true stack name attributes kids more after rest e inside h =
    let own : Opened = record { passes = true; hides = true } in
    rw e (ap (λ calls. StartElem name attributes ∷ calls)
    (hidden policy (own ∷ stack) refl kids (EndElem name ∷ more) ∙ ap (λ calls. EndElem name ∷ calls) h))
element-filtered policy Kept false stack name attributes kids more after rest e inside h =
    let own : Opened = record { passes = true; hides = false } in
    rw e (ap (λ calls. StartElem name attributes ∷ calls) (inside (own ∷ stack) refl (EndElem name ∷ more) Nothing
    (EndElem name ∷ calls_before after rest) (ap (λ calls. EndElem name ∷ calls) h)))
element-filtered policy Dropped v stack name attributes kids more after rest e inside h =
    let own : Opened = record { passes = false; hides = true } in
    hidden policy (own ∷ stack) refl kids (EndElem name ∷ more) ∙ h
element-filtered policy Unwrapped v stack name attributes kids more after rest e inside h =
    let own : Opened = record { passes = false; hides = false } in
    inside (own ∷ stack) refl (EndElem name ∷ more) after rest h

pub trees-filtered : (policy : Policy) (trees : Trees) (stack : List Opened) → hides stack ≡ false
    → (calls : List Call) (after : Trees) (rest : List Call)
    → filtered policy stack false calls ≡ calls_before after rest → filtered policy stack false
    (calls_before trees calls) ≡ calls_before (cleaned_before policy trees after) rest
trees-filtered policy Nothing stack s calls after rest h = h
trees-filtered policy (Text text next) stack s calls after rest h =
    rw s (text-filtered (plain_text text) _ _ rest (trees-filtered policy next stack s calls after rest h))
trees-filtered policy (Comment text next) stack s calls after rest h = trees-filtered policy next stack s calls after rest h
trees-filtered policy (ProcessingInstruction target text next) stack s calls after rest h =
    trees-filtered policy next stack s calls after rest h
trees-filtered policy (Doctype name public_id system_id next) stack s calls after rest h =
    trees-filtered policy next stack s calls after rest h
trees-filtered policy (Element name attributes template kids next) stack s calls after rest h =
    rw s (element-filtered policy (fate policy name) (is_void name.local) stack name
    (kept_attributes policy name.local attributes) kids (calls_before next calls) (cleaned_before policy next after) rest refl
    (trees-filtered policy kids) (trees-filtered policy next stack s calls after rest h))

-- IN FRONT OF ALL

-- what is passed on in front of all else, of a call that is passed on after something
abbrev front_call : Bool → Call → Option Call
front_call true (WriteText text) = text_passed false (without_marks text)
front_call front call = Some call

abbrev front_of : Bool → Option Call → Option Call
front_of front None = None
front_of front (Some call) = front_call front call

abbrev fronted : Bool → List Call → List Call
fronted front [] = []
fronted front (call ∷ calls) = let on = front_call front call in call_before on (fronted (front_after front on) calls)

fronted-behind : (calls : List Call) → fronted false calls ≡ calls
fronted-behind [] = refl
fronted-behind (call ∷ calls) = ap (λ calls. call ∷ calls) (fronted-behind calls)

text-first : (plain : List ℕ) → text_passed false (without_marks plain) ≡ front_of true (text_passed false plain)
text-first [] = refl
text-first (c ∷ cs) = refl

text-later : (plain : List ℕ) → text_passed false plain ≡ front_of false (text_passed false plain)
text-later [] = refl
text-later (c ∷ cs) = refl

text-front : (front hidden : Bool) (text : List ℕ) → text_passed hidden (text_at front text) ≡ front_of front
    (text_passed hidden (plain_text text))
text-front true true text = refl
text-front false true text = refl
text-front true false text = text-first (plain_text text)
text-front false false text = text-later (plain_text text)

if-front : (front b : Bool) (call : Call) → Some call ≡ front_call front call → if_passed b call ≡ front_of front (if_passed b call)
if-front front true call h = h
if-front front false call h = refl

start-front : (front : Bool) (name : QualName) (attributes : List Attribute)
    → Some (StartElem name attributes) ≡ front_call front (StartElem name attributes)
start-front true name attributes = refl
start-front false name attributes = refl

end-front : (front : Bool) (name : QualName) → Some (EndElem name) ≡ front_call front (EndElem name)
end-front true name = refl
end-front false name = refl

passed-front : (policy : Policy) (stack : List Opened) (front : Bool) (call : Call)
    → passed policy stack front call ≡ front_of front (passed policy stack false call)
passed-front policy stack front (StartElem name attributes) =
    if-front front (opened policy stack name).passes (StartElem name (kept_attributes policy name.local attributes))
    (start-front front name (kept_attributes policy name.local attributes))
passed-front policy stack front (EndElem name) = if-front front (passes stack) (EndElem name) (end-front front name)
passed-front policy stack front (WriteText text) = text-front front (hides stack) text
passed-front policy stack front (WriteComment text) = refl
passed-front policy stack front (WriteDoctype name) = refl
passed-front policy stack front (WriteProcessingInstruction target text) = refl

before-front : (front : Bool) (o on : Option Call) (rest : List Call) → on ≡ front_of front o
    → call_before on (fronted (front_after front on) rest) ≡ fronted front (call_before o rest)
before-front true None on rest h = rw h refl
before-front false None on rest h = rw h refl
before-front front (Some call) on rest h = rw h refl

filtered-front : (policy : Policy) (calls : List Call) (stack : List Opened) (front : Bool)
    → filtered policy stack front calls ≡ fronted front (filtered policy stack false calls)
filtered-front policy [] stack front = refl
filtered-front policy (call ∷ calls) stack front =
    let on = passed policy stack front call in
    ap (call_before on) (filtered-front policy calls (open_after policy stack call) (front_after front on))
    ∙ before-front front (passed policy stack false call) on
    (filtered policy (open_after policy stack call) false calls) (passed-front policy stack front call)

text-unmarked : (m : List ℕ) (calls : List Call) (front after : Trees) → fronted true calls ≡ calls_of front → calls ≡ calls_of after
    → call_before (text_passed false m) (fronted (front_after true (text_passed false m)) calls) ≡ calls_of (unmarked_by m front after)
text-unmarked [] calls front after h k = h
text-unmarked (c ∷ cs) calls front after h k = ap (λ calls. WriteText (c ∷ cs) ∷ calls) (fronted-behind calls ∙ k)

trees-fronted : (trees : Trees) → fronted true (calls_of trees) ≡ calls_of (unmarked trees)
trees-fronted Nothing = refl
trees-fronted (Text text rest) = text-unmarked (without_marks text) (calls_of rest) (unmarked rest) rest (trees-fronted rest) refl
trees-fronted (Comment text rest) = ap (λ calls. WriteComment text ∷ calls) (fronted-behind (calls_of rest))
trees-fronted (ProcessingInstruction target text rest) = ap (λ calls. WriteProcessingInstruction target text ∷
    calls) (fronted-behind (calls_of rest))
trees-fronted (Doctype name public_id system_id rest) = ap (λ calls. WriteDoctype name ∷ calls) (fronted-behind (calls_of rest))
trees-fronted (Element name attributes template kids rest) = ap (λ calls. StartElem name attributes ∷ calls)
    (fronted-behind (calls_before kids (EndElem name ∷ calls_of rest)))

-- filtering the calls of trees leaves the calls of the cleaned trees
pub all-filtered : (policy : Policy) (trees : Trees) → filtered policy [] true (calls_of trees) ≡ calls_of (cleaned policy trees)
all-filtered policy trees =
    filtered-front policy (calls_of trees) [] true
    ∙ (ap (fronted true) (trees-filtered policy trees [] refl [] Nothing [] refl) ∙ trees-fronted (cleaned_before policy trees Nothing))
