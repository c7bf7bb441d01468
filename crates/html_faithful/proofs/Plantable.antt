-- Trees that are faithful can be planted.
use Rattle.std.proofs.Common.{◌≡◌, ◌≢◌, ◌∙◌, ℕ, Bool, true, false, not, List, [], Option, Some, None, refl, sym, ap, true≢false}
use Rattle.std.proofs.lemmas.Bool.{and_parts}
use Rattle.std.specs.Prelude.{◌&&◌, IfSome, cond, map}
use Rattle.markup.specs.Trees.{Trees, Nothing, Text, Comment, ProcessingInstruction, Doctype, Element}
use Rattle.markup.specs.declared.attributes.Attribute.{Attribute}
use Rattle.markup.specs.declared.names.QualName.{QualName}
use Rattle.html_rules.specs.Choice.{choose}
use Rattle.html_rules.specs.Conditions.{is_nonempty}
use Rattle.html_rules.specs.Names.{element_name_of, namespace_of}
use Rattle.html_faithful.specs.Checks.{is_kept_so}
use Rattle.html_faithful.specs.Forms.{are_told, is_comment_text, is_kept, is_tag_name, lowered, told_attribute}
use Rattle.html_faithful.specs.Harmless.{Made, and_then, made_of}
use Rattle.html_faithful.specs.Planting.{ArePlantable}
use Rattle.html_faithful.specs.Spots.{Spot}
use Rattle.html_faithful.specs.Walk.{Parent, ends_there, begins_with_line_feed, below, comment_put, finished, fits_inside, is_current}
use Rattle.html_faithful.specs.Walk.{is_made}
use Rattle.html_faithful.specs.Walk.{is_template, is_text, is_void, is_written_so, is_written_tag, kids_walked, may_stay, start_tag}
use Rattle.html_faithful.specs.Walk.{started}
use Rattle.html_faithful.specs.Walk.{text_put, walk}
use Rattle.html_faithful.proofs.Tags.{choose-so, element-by, then-so}
use Rattle.html_faithful.proofs.Texts.{weaker}

not-no : (b : Bool) → not b ≡ true → b ≡ false
not-no true h = absurd (true≢false (sym h))
not-no false h = refl

pub any-so : {A : Type 0} (o : Option A) → IfSome o (λ _. Unit {0})
any-so None = tt
any-so (Some m) = tt

some-text : (text : List ℕ) → is_nonempty text ≡ true → text ≢ []
some-text text h e = true≢false (sym h ∙ ap is_nonempty e)

-- an element has a name of one of the three namespaces, and is a template where its name says so
abbrev IsOwn : QualName → Bool → Type 0
IsOwn name template = (element_name_of (namespace_of name.ns) name.local ≡ name) × (is_template name ≡ template)

template-by : (template is : Bool) → cond template is (not is) ≡ true → is ≡ template
template-by true is h = h
template-by false is h = not-no is h

own-name : (name : QualName) (attributes : List Attribute) (opened : Bool) (made : Made) → is_made name attributes opened made.put ≡ true
    → element_name_of (namespace_of name.ns) name.local ≡ name
own-name name attributes opened made h =
    let element = element-by name attributes opened made.put h in
    ap (λ ns. element_name_of ns name.local) element.known ∙ sym element.is_name

started-own : (name : QualName) (attributes : List Attribute) (template : Bool) (p : Spot)
    → IfSome (started name attributes template p) (λ made. IsOwn name template)
started-own name attributes template p =
    let f = λ (made : Made). choose
    (is_made name attributes (not (is_void name)) made.put && not made.closed && is_kept_so (lowered name.local) p made)
    (λ _. Some made) (λ _. None) in
    choose-so (is_written_tag name attributes template) (and_then (made_of (start_tag name attributes) p) f) (λ made. IsOwn name template)
    (λ b. let forms = and_parts (is_tag_name (lowered name.local) && are_told (map told_attribute attributes))
    (cond template (is_template name) (not (is_template name))) b in
    then-so (made_of (start_tag name attributes) p) f (λ made. Unit {0}) (λ made. IsOwn name template)
    (any-so (made_of (start_tag name attributes) p))
    (λ made h. choose-so (is_made name attributes (not (is_void name)) made.put && not made.closed
    && is_kept_so (lowered name.local) p made)
    (Some made) (λ made. IsOwn name template)
    (λ k. let parts = and_parts (is_made name attributes (not (is_void name)) made.put && not made.closed)
    (is_kept_so (lowered name.local) p made) k in (
      own-name name attributes (not (is_void name)) made (and_parts (is_made name attributes (not (is_void name)) made.put)
          (not made.closed) parts.0).0,
      template-by template (is_template name) forms.1,
    ))))

kids-so : (name : QualName) (kids : Trees) (inside : Bool → Spot → Option Spot) (made : Made)
    → ((drops : Bool) (p : Spot) → IfSome (inside drops p) (λ _. ArePlantable false kids)) → (v : Bool)
    → IfSome (choose v (λ _. choose (ends_there kids made) (λ _. Some made.spot) (λ _. None))
    (λ _. kids_walked name kids inside made)) (λ _. ArePlantable false kids)
kids-so name Nothing inside made law true = choose-so (ends_there Nothing made) (Some made.spot) (λ _. Unit {0}) (λ b. tt)
kids-so name kids inside made law true = tt
kids-so name kids inside made law false =
    choose-so (fits_inside name kids made.raw) (and_then (inside made.drops_line_feed made.spot) (λ p. finished name p))
    (λ _. ArePlantable false kids)
    (λ b. then-so (inside made.drops_line_feed made.spot) (λ p. finished name p) (λ _. ArePlantable false kids)
    (λ _. ArePlantable false kids)
    (law made.drops_line_feed made.spot)
    (λ q h. weaker (finished name q) (λ _. Unit {0}) (λ _. ArePlantable false kids) (any-so (finished name q)) (λ after u. h)))

pub walked-plantable : (scripting : Bool) (trees : Trees) (parent : Parent) (after_text drops : Bool) (p : Spot)
    → IfSome (walk scripting parent after_text drops trees p) (λ _. ArePlantable after_text trees)
unfolding walk
walked-plantable scripting Nothing parent after_text drops p = tt
walked-plantable scripting (Text text rest) parent after_text drops p =
    let on = λ (p : Spot). walk scripting parent true false rest p in
    let P = λ (after : Spot). ArePlantable after_text (Text text rest) in
    choose-so (is_text after_text drops text && is_current parent p) (and_then (text_put text p) on) P
    (λ b. let whole = and_parts (is_text after_text drops text) (is_current parent p) b in
    let parts = and_parts ((not after_text && is_nonempty text) && is_kept text) (not (drops && begins_with_line_feed text)) whole.0 in
    let first = and_parts (not after_text) (is_nonempty text) (and_parts (not after_text && is_nonempty text) (is_kept text) parts.0).0 in
    then-so (text_put text p) on (λ q. Unit {0}) P (any-so (text_put text p))
    (λ q u. weaker (on q) (λ after. ArePlantable true rest) P (walked-plantable scripting rest parent true false q)
    (λ after h. (not-no after_text first.0, some-text text first.1, h))))
walked-plantable scripting (Comment text rest) parent after_text drops p =
    let on = λ (p : Spot). walk scripting parent false false rest p in
    let P = λ (after : Spot). ArePlantable false rest in
    choose-so (is_comment_text text) (and_then (comment_put parent text p) on) P
    (λ b. then-so (comment_put parent text p) on (λ q. Unit {0}) P (any-so (comment_put parent text p))
    (λ q u. walked-plantable scripting rest parent false false q))
walked-plantable scripting (ProcessingInstruction target text rest) parent after_text drops p = tt
walked-plantable scripting (Doctype name public_id system_id rest) parent after_text drops p = tt
walked-plantable scripting (Element name attributes template kids rest) parent after_text drops p =
    let inside = λ (drops : Bool) (p : Spot). walk scripting (below parent) false drops kids p in
    let stand = λ (made : Made). choose (is_void name)
    (λ _. choose (ends_there kids made) (λ _. Some made.spot) (λ _. None))
    (λ _. kids_walked name kids inside made) in
    let on = λ (p : Spot). walk scripting parent false false rest p in
    let f = λ (made : Made). choose (is_written_so scripting name made.raw) (λ _. and_then (stand made) on) (λ _. None) in
    let P = λ (after : Spot). ArePlantable after_text (Element name attributes template kids rest) in
    choose-so (is_current parent p && may_stay parent name) (and_then (started name attributes template p) f) P
    (λ b. then-so (started name attributes template p) f (λ made. IsOwn name template) P (started-own name attributes template p)
    (λ made own. choose-so (is_written_so scripting name made.raw) (and_then (stand made) on) P
    (λ c. then-so (stand made) on (λ q. ArePlantable false kids) P
    (kids-so name kids inside made (λ drops p. walked-plantable scripting kids (below parent) false drops p) (is_void name))
    (λ q inner. weaker (on q) (λ after. ArePlantable false rest) P (walked-plantable scripting rest parent false false q)
    (λ after h. (own.0, own.1, inner, h))))))
