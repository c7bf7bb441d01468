-- The steps of the walk, in the code.
use Rattle.std.specs.Prelude.{◌≡◌, ℕ, Bool, true, false, ◌&&◌, not, cond, List, [], ◌∷◌, map, Option, Some, None, is_none}
use Rattle.markup.specs.declared.attributes.Attribute.{Attribute}
use Rattle.markup.specs.declared.names.QualName.{QualName}
use Rattle.html_tokens.specs.Tags.{named}
use Rattle.html_tokens.specs.declared.tags.Tag.{Tag}
use Rattle.html_tokens.specs.declared.tags.TagKind.TheVariants.{StartTag}
use Rattle.html_tokens.specs.declared.token.Token.TheVariants.{TagToken}
use Rattle.html_rules.specs.Choice.{choose}
use Rattle.html_rules.specs.ForeignContent.{is_html_element}
use Rattle.html_rules.specs.State.{current_is}
use Rattle.html_rules.specs.Tokens.{is_white}
use Rattle.html_rules.specs.declared.insertion_mode.InsertionMode.{InsertionMode}
use Rattle.html_rules.specs.declared.insertion_mode.InsertionMode.TheVariants as mode
use Rattle.html_faithful.specs.Checks.{is_kept_so}
use Rattle.html_faithful.specs.Forms.{lowered, told_attribute}
use Rattle.html_faithful.specs.Harmless.{Made, and_then, made_of}
use Rattle.html_faithful.specs.Spots.{Spot}
use Rattle.html_faithful.specs.Walk.{Parent, OfDocument, OfRoot, OfCurrent, is_made, is_plain, is_text_put, is_void, is_written_tag}
use Rattle.html_faithful.specs.Walk.{stands, stays_open, text_walked}
use Rattle.html_faithful_walk.specs.Svg.{takes_svg}
use Rattle.html_faithful_walk.specs.declared.parents.Parent as declared
use Rattle.html_faithful_walk.specs.declared.parents.Parent.TheVariants as parent

abbrev pub parent_of : declared.Parent → Parent
parent_of parent.Document = OfDocument
parent_of parent.Root = OfRoot
parent_of parent.Current = OfCurrent

abbrev pub spot_if : Bool → Spot → Option Spot
spot_if true p = Some p
spot_if false p = None

-- whether what was made of a comment is that it was put in its parent
abbrev pub is_comment_made : Parent → Spot → Made → Bool
is_comment_made parent p made = (stands parent p made.put && is_plain made) && is_kept_so [] p made

-- and of a character, that it was put in the current node
abbrev pub is_text_made : Spot → Made → Bool
is_text_made p made = (is_text_put made.put && is_plain made) && is_kept_so [] p made

-- and of a start tag, that just its element was
abbrev pub is_started : QualName → List Attribute → Tag → Spot → Made → Bool
is_started name attributes tag p made =
    is_made name attributes (not (is_void name)) made.put && not made.closed && is_kept_so tag.name p made

-- a character is walked, or ends the walk
abbrev pub is_character_walked : ℕ → Spot → Spot → Bool → Type 0
is_character_walked c old new goes_on = (cs : List ℕ)
    → text_walked (c ∷ cs) old ≡ choose goes_on (λ _. text_walked cs new) (λ _. None)

-- whether every text is put in the current node in a mode, and changes nothing else: in raw text, and in the body once no frameset may come
abbrev pub takes_text : InsertionMode → Bool → Bool
takes_text mode.Text frameset_ok = true
takes_text mode.InBody frameset_ok = not frameset_ok
takes_text mode.InCell frameset_ok = not frameset_ok
takes_text mode.InCaption frameset_ok = not frameset_ok
takes_text m frameset_ok = false

-- and at a spot; so it is in SVG
abbrev pub takes_any_text : Spot → Bool
takes_any_text p = choose (current_is is_html_element p.path) (λ _. takes_text p.mode p.frameset_ok)
    (λ _. not p.frameset_ok && takes_svg p.path)

-- whether white space is put in the current node in a mode, and changes nothing else
abbrev pub takes_white : InsertionMode → Bool
takes_white mode.InHead = true
takes_white mode.AfterHead = true
takes_white mode.InBody = true
takes_white mode.InCaption = true
takes_white mode.InColumnGroup = true
takes_white mode.InCell = true
takes_white m = false

abbrev pub takes_white_text : List ℕ → Spot → Bool
takes_white_text text p = (current_is is_html_element p.path && takes_white p.mode) && is_white text

-- and a comment
abbrev pub takes_comments : InsertionMode → Bool
takes_comments mode.BeforeHead = true
takes_comments mode.InHead = true
takes_comments mode.AfterHead = true
takes_comments mode.InBody = true
takes_comments mode.InTable = true
takes_comments mode.InCaption = true
takes_comments mode.InColumnGroup = true
takes_comments mode.InTableBody = true
takes_comments mode.InRow = true
takes_comments mode.InCell = true
takes_comments m = false

abbrev pub takes_comment : Spot → Bool
takes_comment p = current_is is_html_element p.path && takes_comments p.mode

-- the start tag of an element, as it is read
abbrev pub start_of : QualName → List Attribute → Tag
start_of name attributes = record (named StartTag (lowered name.local)) { attrs = map told_attribute attributes }

-- where it is read as it is written
abbrev pub written_of : QualName → List Attribute → Bool → Option Tag
written_of name attributes template = choose (is_written_tag name attributes template) (λ _. Some (start_of name attributes)) (λ _. None)

-- what the start tag makes, if it puts just this element
abbrev pub started_by : QualName → List Attribute → Tag → Spot → Option Made
started_by name attributes tag p = and_then (made_of (TagToken tag) p)
    (λ made. choose (is_started name attributes tag p made) (λ _. Some made) (λ _. None))

-- whether an end tag puts nothing, and closes the current node, unless that stays open
abbrev pub ends_as : QualName → Made → Bool
ends_as name made = (is_none made.put && not made.drops_line_feed && is_none made.raw)
    && cond (stays_open name) (not made.closed) made.closed
