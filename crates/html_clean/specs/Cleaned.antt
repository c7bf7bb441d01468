-- What cleaning leaves of trees, and the pieces that it is written as.
use Rattle.std.specs.Prelude.{ℕ, Bool, true, false, ◌&&◌, ◌||◌, not, List, [], ◌∷◌, drop, length}
use Rattle.std.specs.List.{list_all, starts_with}
use Rattle.std.specs.Str.{bytes_eq}
use Rattle.markup.specs.Attributes.{are_distinct}
use Rattle.markup.specs.Equality.{attribute_eq}
use Rattle.markup.specs.Trees.{Trees, Nothing, Text, Comment, ProcessingInstruction, Doctype, Element, is_html}
use Rattle.markup.specs.declared.attributes.Attribute.{Attribute}
use Rattle.markup.specs.declared.names.QualName.{QualName}
use Rattle.html_round_trip.specs.Slices.Forms.{is_no_text}
use Rattle.html_clean.specs.Pieces as piece
use Rattle.html_clean.specs.Pieces.{Piece}
use Rattle.html_clean.specs.Names.{is_void}
use Rattle.html_clean.specs.Policies.{added_attributes, fate, is_kept_attribute, is_kept_name, is_plain_character, kept_attributes}
use Rattle.html_clean.specs.Policies.{plain_text, without_marks}
use Rattle.html_clean.specs.declared.elements.Fate.{Fate}
use Rattle.html_clean.specs.declared.elements.Fate.TheVariants.{Kept, Dropped, Unwrapped}
use Rattle.html_clean.specs.declared.policy.Policy.{Policy}

-- CLEANING

-- a text before trees, if it is not empty
abbrev pub text_before : List ℕ → Trees → Trees
text_before [] after = after
text_before (c ∷ cs) after = Text (c ∷ cs) after

-- a void element has nothing in it
abbrev pub kids_of : Bool → Trees → Trees
kids_of true kids = Nothing
kids_of false kids = kids

-- what is left of an element before trees, by what is left of its children before others
abbrev pub element_before : Fate → QualName → List Attribute → (Trees → Trees) → Trees → Trees
element_before Kept name attributes inner after = Element name attributes false (kids_of (is_void name.local) (inner Nothing)) after
element_before Dropped name attributes inner after = after
element_before Unwrapped name attributes inner after = inner after

-- what is left of trees before others
abbrev pub cleaned_before : Policy → Trees → Trees → Trees
cleaned_before policy Nothing after = after
cleaned_before policy (Text text rest) after = text_before (plain_text text) (cleaned_before policy rest after)
cleaned_before policy (Comment text rest) after = cleaned_before policy rest after
cleaned_before policy (ProcessingInstruction target text rest) after = cleaned_before policy rest after
cleaned_before policy (Doctype name public_id system_id rest) after = cleaned_before policy rest after
cleaned_before policy (Element name attributes template kids rest) after =
    element_before (fate policy name) name (kept_attributes policy name.local attributes)
    (cleaned_before policy kids) (cleaned_before policy rest after)

-- a text before trees, or if it is empty what is left of these in front
abbrev pub unmarked_by : List ℕ → Trees → Trees → Trees
unmarked_by [] front after = front
unmarked_by (c ∷ cs) front after = Text (c ∷ cs) after

-- trees without U+FEFF in front of all else
abbrev pub unmarked : Trees → Trees
unmarked (Text text rest) = unmarked_by (without_marks text) (unmarked rest) rest
unmarked trees = trees

abbrev pub cleaned : Policy → Trees → Trees
cleaned policy trees = unmarked (cleaned_before policy trees Nothing)

-- WHAT IS KEPT

abbrev pub is_nothing : Trees → Bool
is_nothing Nothing = true
is_nothing _ = false

-- an attribute that an element may have, with a plain value
abbrev pub is_lawful_attribute : Policy → List ℕ → Attribute → Bool
is_lawful_attribute policy element a = is_kept_attribute policy element a && list_all is_plain_character a.value

-- the attributes that are added to an element, and then such that it may have, of which no two have one name
abbrev pub are_lawful_attributes : Policy → List ℕ → List Attribute → Bool
are_lawful_attributes policy element attributes =
    let added = added_attributes policy element in
    starts_with attribute_eq attributes added
    && (list_all (is_lawful_attribute policy element) (drop (length added) attributes) && are_distinct attributes)

-- a text that is not empty and has neither U+0000 nor U+000D
abbrev pub is_lawful_text : List ℕ → Bool
is_lawful_text text = not (is_no_text text) && list_all is_plain_character text

-- whether all that stands in trees is kept by a policy
abbrev pub are_kept : Policy → Trees → Bool
are_kept policy Nothing = true
are_kept policy (Text text rest) = is_lawful_text text && are_kept policy rest
are_kept policy (Element name attributes template kids rest) =
    ((is_html name && is_kept_name policy name.local) && are_lawful_attributes policy name.local attributes)
    && (((not (is_void name.local) || is_nothing kids) && are_kept policy kids) && (not template && are_kept policy rest))
are_kept policy _ = false

-- PIECES

-- a void element has no end tag
abbrev pub end_before : Bool → List ℕ → List Piece → List Piece
end_before true name rest = rest
end_before false name rest = piece.End name ∷ rest

-- the tags and texts of trees, before others
abbrev pub pieces_before : Trees → List Piece → List Piece
pieces_before Nothing after = after
pieces_before (Text text rest) after = piece.Text text ∷ pieces_before rest after
pieces_before (Comment text rest) after = pieces_before rest after
pieces_before (ProcessingInstruction target text rest) after = pieces_before rest after
pieces_before (Doctype name public_id system_id rest) after = pieces_before rest after
pieces_before (Element name attributes template kids rest) after =
    piece.Start name.local attributes ∷ pieces_before kids (end_before (is_void name.local) name.local (pieces_before rest after))

abbrev pub pieces_of : Trees → List Piece
pieces_of trees = pieces_before trees []

-- whether a tag or a text is kept by a policy
abbrev pub is_kept_piece : Policy → Piece → Bool
is_kept_piece policy (piece.Start name attributes) = is_kept_name policy name && are_lawful_attributes policy name attributes
is_kept_piece policy (piece.Text text) = is_lawful_text text
is_kept_piece policy (piece.End name) = is_kept_name policy name

abbrev pub are_kept_pieces : Policy → List Piece → Bool
are_kept_pieces policy pieces = list_all (is_kept_piece policy) pieces

abbrev pub opened : Bool → List ℕ → List (List ℕ) → List (List ℕ)
opened true name stack = stack
opened false name stack = name ∷ stack

abbrev pub is_last : List ℕ → List (List ℕ) → Bool
is_last name [] = false
is_last name (last ∷ stack) = bytes_eq last name

abbrev pub ended : List (List ℕ) → List (List ℕ)
ended [] = []
ended (last ∷ stack) = stack

abbrev pub is_ended : List (List ℕ) → Bool
is_ended [] = true
is_ended (last ∷ stack) = false

-- whether each end tag ends the element that began last of those that have not ended, and all end
abbrev pub is_balanced : List Piece → List (List ℕ) → Bool
is_balanced [] stack = is_ended stack
is_balanced (piece.Start name attributes ∷ rest) stack = is_balanced rest (opened (is_void name) name stack)
is_balanced (piece.Text text ∷ rest) stack = is_balanced rest stack
is_balanced (piece.End name ∷ rest) stack = is_last name stack && is_balanced rest (ended stack)
