-- Faithful trees are written of forms that are read back.
use Rattle.std.proofs.Common.{◌≡◌, Bool, true, false, not, List, Option, Some, None}
use Rattle.std.proofs.lemmas.Bool.{and_parts}
use Rattle.std.specs.Prelude.{◌&&◌, IfSome, cond, map}
use Rattle.markup.specs.Trees.{Trees, Nothing, Text, Comment, ProcessingInstruction, Doctype, Element}
use Rattle.markup.specs.declared.attributes.Attribute.{Attribute}
use Rattle.markup.specs.declared.names.QualName.{QualName}
use Rattle.html_rules.specs.Choice.{choose}
use Rattle.html_rules.specs.Conditions.{is_nonempty}
use Rattle.html_faithful.specs.Checks.{is_kept_so}
use Rattle.html_faithful.specs.Forms.{are_told, is_comment_text, is_kept, is_tag_name, lowered, told_attribute}
use Rattle.html_faithful.specs.Harmless.{Made, and_then, made_of}
use Rattle.html_faithful.specs.Spots.{Spot}
use Rattle.html_faithful.specs.Walk.{Parent, begins_with_line_feed, below, comment_put, ends_there, finished, fits_inside, is_current}
use Rattle.html_faithful.specs.Walk.{is_made}
use Rattle.html_faithful.specs.Walk.{is_template, is_text, is_void, is_written_so, is_written_tag, kids_walked, may_stay, start_tag}
use Rattle.html_faithful.specs.Walk.{started}
use Rattle.html_faithful.specs.Walk.{text_put, walk}
use Rattle.html_faithful.proofs.Plantable.{any-so}
use Rattle.html_faithful.proofs.Tags.{choose-so, then-so}
use Rattle.html_faithful.proofs.Texts.{weaker}
use Rattle.html_faithful_documents.specs.Written.{AreForms}

abbrev pub AreTagForms : QualName → List Attribute → Type 0
AreTagForms name attributes = (is_tag_name (lowered name.local) ≡ true) × (are_told (map told_attribute attributes) ≡ true)

pub started-forms : (name : QualName) (attributes : List Attribute) (template : Bool) (p : Spot)
    → IfSome (started name attributes template p) (λ made. AreTagForms name attributes)
started-forms name attributes template p =
    let good = λ (made : Made). is_made name attributes (not (is_void name)) made.put && not made.closed
    && is_kept_so (lowered name.local) p made in
    let f = λ (made : Made). choose (good made) (λ _. Some made) (λ _. None) in
    let P = λ (made : Made). AreTagForms name attributes in
    choose-so (is_written_tag name attributes template) (and_then (made_of (start_tag name attributes) p) f) P
    (λ b. let forms = and_parts (is_tag_name (lowered name.local) && are_told (map told_attribute attributes))
    (cond template (is_template name) (not (is_template name))) b in
    then-so (made_of (start_tag name attributes) p) f (λ made. Unit {0}) P (any-so (made_of (start_tag name attributes) p))
    (λ made h. choose-so (good made) (Some made) P
    (λ k. and_parts (is_tag_name (lowered name.local)) (are_told (map told_attribute attributes)) forms.0)))

kids-so : (name : QualName) (kids : Trees) (inside : Bool → Spot → Option Spot) (made : Made)
    → ((drops : Bool) (p : Spot) → IfSome (inside drops p) (λ _. AreForms kids)) → (v : Bool)
    → IfSome (choose v (λ _. choose (ends_there kids made) (λ _. Some made.spot) (λ _. None)) (λ _. kids_walked name kids inside made))
    (λ _. AreForms kids)
kids-so name Nothing inside made law true = choose-so (ends_there Nothing made) (Some made.spot) (λ _. Unit {0}) (λ b. tt)
kids-so name kids inside made law true = tt
kids-so name kids inside made law false =
    choose-so (fits_inside name kids made.raw) (and_then (inside made.drops_line_feed made.spot) (λ p. finished name p))
    (λ _. AreForms kids)
    (λ b. then-so (inside made.drops_line_feed made.spot) (λ p. finished name p) (λ _. AreForms kids) (λ _. AreForms kids)
    (law made.drops_line_feed made.spot)
    (λ q h. weaker (finished name q) (λ _. Unit {0}) (λ _. AreForms kids) (any-so (finished name q)) (λ after u. h)))

pub walked-forms : (scripting : Bool) (trees : Trees) (parent : Parent) (after_text drops : Bool) (p : Spot)
    → IfSome (walk scripting parent after_text drops trees p) (λ _. AreForms trees)
unfolding walk
walked-forms scripting Nothing parent after_text drops p = tt
walked-forms scripting (Text text rest) parent after_text drops p =
    let on = λ (p : Spot). walk scripting parent true false rest p in
    let P = λ (after : Spot). AreForms (Text text rest) in
    choose-so (is_text after_text drops text && is_current parent p) (and_then (text_put text p) on) P
    (λ b. let whole = and_parts (is_text after_text drops text) (is_current parent p) b in
    let parts = and_parts ((not after_text && is_nonempty text) && is_kept text) (not (drops && begins_with_line_feed text)) whole.0 in
    let kept = and_parts (not after_text && is_nonempty text) (is_kept text) parts.0 in
    let some = and_parts (not after_text) (is_nonempty text) kept.0 in
    then-so (text_put text p) on (λ q. Unit {0}) P (any-so (text_put text p))
    (λ q u. weaker (on q) (λ after. AreForms rest) P (walked-forms scripting rest parent true false q) (λ after h. (some.1, kept.1, h))))
walked-forms scripting (Comment text rest) parent after_text drops p =
    let on = λ (p : Spot). walk scripting parent false false rest p in
    let P = λ (after : Spot). AreForms (Comment text rest) in
    choose-so (is_comment_text text) (and_then (comment_put parent text p) on) P
    (λ b. then-so (comment_put parent text p) on (λ q. Unit {0}) P (any-so (comment_put parent text p))
    (λ q u. weaker (on q) (λ after. AreForms rest) P (walked-forms scripting rest parent false false q) (λ after h. (b, h))))
walked-forms scripting (ProcessingInstruction target text rest) parent after_text drops p = tt
walked-forms scripting (Doctype name public_id system_id rest) parent after_text drops p = tt
walked-forms scripting (Element name attributes template kids rest) parent after_text drops p =
    let inside = λ (drops : Bool) (p : Spot). walk scripting (below parent) false drops kids p in
    let stand = λ (made : Made). choose (is_void name)
    (λ _. choose (ends_there kids made) (λ _. Some made.spot) (λ _. None))
    (λ _. kids_walked name kids inside made) in
    let on = λ (p : Spot). walk scripting parent false false rest p in
    let f = λ (made : Made). choose (is_written_so scripting name made.raw) (λ _. and_then (stand made) on) (λ _. None) in
    let P = λ (after : Spot). AreForms (Element name attributes template kids rest) in
    choose-so (is_current parent p && may_stay parent name) (and_then (started name attributes template p) f) P
    (λ b. then-so (started name attributes template p) f (λ made. AreTagForms name attributes) P (started-forms name attributes template p)
    (λ made forms. choose-so (is_written_so scripting name made.raw) (and_then (stand made) on) P
    (λ c. then-so (stand made) on (λ q. AreForms kids) P
    (kids-so name kids inside made (λ drops p. walked-forms scripting kids (below parent) false drops p) (is_void name))
    (λ q inner. weaker (on q) (λ after. AreForms rest) P (walked-forms scripting rest parent false false q)
    (λ after h. (forms.0, forms.1, inner, h))))))
