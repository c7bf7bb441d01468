-- Which trees are faithful: what is written of them (HTML Standard, section 13.3) is read as just them (section 13.2).
use Rattle.std.specs.Prelude.{ℕ, Bool, true, false, cond, ◌&&◌, ◌||◌, not, nat_eq, List, [], ◌∷◌, Option, Some, None, is_none, codes}
use Rattle.std.specs.Str.{bytes_eq}
use Rattle.std.specs.Option.{option_eq}
use Rattle.std.specs.Cmp.Lexicographic.{pointwise}
use Rattle.markup.specs.Equality.{attribute_eq}
use Rattle.markup.specs.Forest.{Forest, children_of}
use Rattle.markup.specs.Trees.{Trees, Nothing, Text, Comment, ProcessingInstruction, Doctype, Element, is_among, is_raw, trees_of}
use Rattle.markup.specs.Trees.{void_names}
use Rattle.markup.specs.Trees.{is_html}
use Rattle.markup.specs.declared.attributes.Attribute.{Attribute}
use Rattle.markup.specs.declared.names.QualName.{QualName}
use Rattle.markup.specs.declared.quirks.QuirksMode.{QuirksMode}
use Rattle.markup.specs.declared.quirks.QuirksMode.TheVariants.{NoQuirks, Quirks}
use Rattle.html_tokens.specs.Tags.{named}
use Rattle.html_tokens.specs.declared.states.RawKind.{RawKind}
use Rattle.html_tokens.specs.declared.states.RawKind.TheVariants.{Rcdata}
use Rattle.html_tokens.specs.declared.tags.TagKind.TheVariants.{StartTag, EndTag}
use Rattle.html_tokens.specs.declared.token.Token.{Token}
use Rattle.html_tokens.specs.declared.token.Token.TheVariants.{TagToken, CharacterTokens, CommentToken}
use Rattle.html_rules.specs.Choice.{choose}
use Rattle.html_rules.specs.Conditions.{is_alone, is_nonempty}
use Rattle.html_rules.specs.Names.{Namespace, Other, element_name_of}
use Rattle.html_rules.specs.Stack.{has_open}
use Rattle.html_rules.specs.State.{current_is, is_in}
use Rattle.html_rules.specs.Tokens.{is_white, name_of}
use Rattle.html_rules.specs.declared.insertion_mode.InsertionMode.{InsertionMode}
use Rattle.html_rules.specs.declared.insertion_mode.InsertionMode.TheVariants as mode
use Rattle.html_rules.specs.declared.rules.Rules.{Rules}
use Rattle.html_rules.specs.declared.rules.Rules.TheVariants.{Html5ever}
use Rattle.html_rules.specs.declared.tag_set.TagSet.TheVariants as set
use Rattle.html_faithful.specs.Forms.{are_told, is_comment_text, is_kept, is_raw_text, is_tag_name, lowered, told_attribute}
use Rattle.html_faithful.specs.Checks.{is_kept_so}
use Rattle.html_faithful.specs.Harmless.{Made, Put, TextHere, CommentHere, InRoot, InDocument, and_then, made_of}
use Rattle.html_faithful.specs.Harmless as put
use Rattle.html_faithful.specs.Spots.{Spot}
use Rattle.std.specs.Prelude.{map}

-- what nodes stand in: the document, the root, or the current node
pub data Parent : Type 0 where
  OfDocument : Parent
  OfRoot : Parent
  OfCurrent : Parent

abbrev pub below : Parent → Parent
below OfDocument = OfRoot
below OfRoot = OfCurrent
below OfCurrent = OfCurrent

-- whether the parent is the current node: a body that ended is still that
abbrev pub is_current : Parent → Spot → Bool
is_current OfDocument p = not (is_nonempty p.path)
is_current OfRoot p = is_alone p.path && not (has_open set.Template p.path)
is_current OfCurrent p = true

-- whether what was put stands in the parent
abbrev pub stands : Parent → Spot → Option Put → Bool
stands parent p (Some CommentHere) = is_current parent p
stands OfRoot p (Some InRoot) = true
stands OfDocument p (Some InDocument) = true
stands parent p put = false

-- what is made of a token that passes a test, and keeps the list and the form pointer those of the path; and what is made then
abbrev pub taken : {A : Type 0} → (Made → Bool) → Token → Spot → (Made → Option A) → Option A
taken test t p then = and_then (made_of t p) (λ made. choose (test made && is_kept_so (name_of t) p made) (λ _. then made) (λ _. None))

-- TEXTS AND COMMENTS

-- nothing is closed, and no line feed is dropped
abbrev pub is_plain : Made → Bool
is_plain made = not made.closed && not made.drops_line_feed

-- a comment, put in the parent
abbrev pub comment_put : Parent → List ℕ → Spot → Option Spot
comment_put parent text p =
    taken (λ made. stands parent p made.put && is_plain made) (CommentToken text) p (λ made. Some made.spot)

abbrev pub is_text_put : Option Put → Bool
is_text_put (Some TextHere) = true
is_text_put put = false

-- a text, of which each character is put in the current node
abbrev pub text_walked : List ℕ → Spot → Option Spot
text_walked [] p = Some p
text_walked (c ∷ cs) p =
    taken (λ made. is_text_put made.put && is_plain made) (CharacterTokens (c ∷ [])) p (λ made. text_walked cs made.spot)

-- in the parts of a table white space waits, and is put in its place (section 13.2.6.4.10)
abbrev pub is_table_mode : InsertionMode → Bool
is_table_mode mode.InTable = true
is_table_mode mode.InTableBody = true
is_table_mode mode.InRow = true
is_table_mode m = false

abbrev pub waits_at : Spot → Bool
waits_at p = is_table_mode p.mode && current_is (is_in set.FosterTarget) p.path

abbrev pub text_put : List ℕ → Spot → Option Spot
text_put text p = choose (waits_at p) (λ _. choose (is_white text) (λ _. Some (record p { orig_mode = None })) (λ _. None))
    (λ _. text_walked text p)

abbrev pub begins_with_line_feed : List ℕ → Bool
begins_with_line_feed [] = false
begins_with_line_feed (c ∷ cs) = nat_eq c 10

-- a text that stands beside no other, nor begins with a line feed where one is dropped
abbrev pub is_text : Bool → Bool → List ℕ → Bool
is_text after_text drops text = not after_text && is_nonempty text && is_kept text && not (drops && begins_with_line_feed text)

-- ELEMENTS

abbrev pub same_name : QualName → QualName → Bool
same_name a b = option_eq (pointwise nat_eq) a.prefix b.prefix && (pointwise nat_eq a.ns b.ns && pointwise nat_eq a.local b.local)

-- HTML's, MathML's or SVG's
abbrev pub is_known : Namespace → Bool
is_known (Other uri) = false
is_known namespace = true

-- an element is put that has that name and those attributes; `opened` says whether it was opened
abbrev pub is_made : QualName → List Attribute → Bool → Option Put → Bool
is_made name attributes opened (Some (put.Element namespace local found o)) =
    same_name (element_name_of namespace local) name && pointwise attribute_eq found attributes && cond opened o (not o)
    && is_known namespace
is_made name attributes opened put = false

abbrev pub is_void : QualName → Bool
is_void name = is_html name && is_among name.local void_names

abbrev pub is_template : QualName → Bool
is_template name = is_html name && bytes_eq name.local (codes "template")

-- its start tag, as it is written (section 13.1.2.1)
abbrev pub start_tag : QualName → List Attribute → Token
start_tag name attributes = TagToken (record (named StartTag (lowered name.local)) { attrs = map told_attribute attributes })

abbrev pub end_tag : QualName → Token
end_tag name = TagToken (named EndTag (lowered name.local))

abbrev pub is_written_tag : QualName → List Attribute → Bool → Bool
is_written_tag name attributes template =
    is_tag_name (lowered name.local) && are_told (map told_attribute attributes)
    && cond template (is_template name) (not (is_template name))

-- the start tag of an element at a spot
abbrev pub started : QualName → List Attribute → Bool → Spot → Option Made
started name attributes template p =
    choose (is_written_tag name attributes template)
    (λ _. taken (λ made. is_made name attributes (not (is_void name)) made.put && not made.closed) (start_tag name attributes) p Some)
    (λ _. None)

-- `body` and `html` stay open where they end (sections 13.2.6.4.7 and 13.2.6.4.19)
abbrev pub stays_open : QualName → Bool
stays_open name = is_html name && (bytes_eq name.local (codes "body") || bytes_eq name.local (codes "html"))

-- its end tag, which puts nothing
abbrev pub finished : QualName → Spot → Option Spot
finished name p =
    taken (λ made. (is_none made.put && not made.drops_line_feed && is_none made.raw)
    && cond (stays_open name) (not made.closed) made.closed) (end_tag name) p (λ made. Some made.spot)

-- what stands in an element that has raw text: one text, or nothing
abbrev pub is_raw_inside : RawKind → List ℕ → Trees → Bool
is_raw_inside kind name Nothing = is_raw_text kind name []
is_raw_inside kind name (Text text Nothing) = is_raw_text kind name text
is_raw_inside kind name trees = false

abbrev pub is_rcdata : RawKind → Bool
is_rcdata Rcdata = true
is_rcdata kind = false

-- whether the text of an element is written as it is read: as it is, or escaped
abbrev pub is_written_so : Bool → QualName → Option RawKind → Bool
is_written_so scripting name None = not (is_html name && is_raw scripting name.local)
is_written_so scripting name (Some kind) = is_html name && cond (is_rcdata kind) (not (is_raw scripting name.local))
    (is_raw scripting name.local)

abbrev pub are_none : Trees → Bool
are_none Nothing = true
are_none trees = false

abbrev pub fits_inside : QualName → Trees → Option RawKind → Bool
fits_inside name kids None = true
fits_inside name kids (Some kind) = bytes_eq (lowered name.local) name.local && is_raw_inside kind name.local kids

-- what stands in an element that was opened, up to its end tag; `inside` walks its children
abbrev pub kids_walked : QualName → Trees → (Bool → Spot → Option Spot) → Made → Option Spot
kids_walked name kids inside made =
    choose (fits_inside name kids made.raw) (λ _. and_then (inside made.drops_line_feed made.spot) (λ p. finished name p)) (λ _. None)

-- THE WALK

-- `html` stands in the document, and `body` in the root
abbrev pub may_stay : Parent → QualName → Bool
may_stay OfDocument name = bytes_eq name.local (codes "html")
may_stay OfRoot name = true
may_stay OfCurrent name = not (stays_open name)

-- whether an element that has no children ends with its start tag
abbrev pub ends_there : Trees → Made → Bool
ends_there kids made = are_none kids && not made.drops_line_feed && is_none made.raw

-- Trees from a spot on, written where scripts run or do not: where they end. `after_text`: a text stands just before; `drops`: a line
-- feed is dropped here.
unfoldable pub walk : Bool → Parent → Bool → Bool → Trees → Spot → Option Spot
walk scripting parent after_text drops Nothing p = Some p
walk scripting parent after_text drops (Text text rest) p =
    choose (is_text after_text drops text && is_current parent p)
    (λ _. and_then (text_put text p) (λ p. walk scripting parent true false rest p)) (λ _. None)
walk scripting parent after_text drops (Comment text rest) p =
    choose (is_comment_text text)
    (λ _. and_then (comment_put parent text p) (λ p. walk scripting parent false false rest p)) (λ _. None)
walk scripting parent after_text drops (ProcessingInstruction target text rest) p = None
walk scripting parent after_text drops (Doctype name public_id system_id rest) p = None
walk scripting parent after_text drops (Element name attributes template kids rest) p =
    choose (is_current parent p && may_stay parent name)
    (λ _. and_then (started name attributes template p)
    (λ made. choose (is_written_so scripting name made.raw)
    (λ _. and_then (choose (is_void name)
    (λ _. choose (ends_there kids made) (λ _. Some made.spot) (λ _. None))
    (λ _. kids_walked name kids (λ drops p. walk scripting (below parent) false drops kids p) made))
    (λ p. walk scripting parent false false rest p))
    (λ _. None)))
    (λ _. None)

-- DOCUMENTS

abbrev pub first_spot : Rules → Bool → QuirksMode → Spot
first_spot rules scripting quirks = record {
  mode = mode.BeforeHtml;
  orig_mode = None;
  path = [];
  template_modes = [];
  has_head = false;
  frameset_ok = true;
  quirks_mode = quirks;
  scripting = scripting;
  rules = rules;
}

-- after the end of `html`
abbrev pub is_end_mode : InsertionMode → Bool
is_end_mode mode.AfterAfterBody = true
is_end_mode mode.AfterAfterFrameset = true
is_end_mode m = false

abbrev pub is_at_end : Option Spot → Bool
is_at_end None = false
is_at_end (Some p) = is_end_mode p.mode

-- A document (section 13.2.6.4.1): comments, and a doctype `html`, of any identifiers, which are not written, and what follows it; or no
-- doctype, so that what is written is read in quirks mode, after an error.
unfoldable pub is_faithful_by : Rules → Bool → Trees → Bool
is_faithful_by rules scripting (Comment text rest) = is_comment_text text && is_faithful_by rules scripting rest
is_faithful_by rules scripting (Doctype name public_id system_id rest) =
    bytes_eq name (codes "html") && is_at_end (walk scripting OfDocument false false rest (first_spot rules scripting NoQuirks))
is_faithful_by rules scripting (Element name attributes template kids rest) =
    is_at_end (walk scripting OfDocument false false (Element name attributes template kids rest) (first_spot rules scripting Quirks))
is_faithful_by rules scripting trees = false

-- by html5ever's rules
abbrev pub is_faithful : Bool → Trees → Bool
is_faithful scripting trees = is_faithful_by Html5ever scripting trees

abbrev pub is_faithful_forest : Bool → Forest → Bool
is_faithful_forest scripting f = is_faithful scripting (trees_of f (children_of f 0))
