-- How the open elements nest, and what each mode has of them.
use Rattle.std.specs.Prelude.{◌≡◌, ℕ, Bool, true, false, ◌||◌, ◌&&◌, not, List, [], ◌∷◌, length, Option, Some, None, Ok, IfErr}
use Rattle.std.specs.Prelude.{IfOk, IfSome, codes}
use Rattle.markup.specs.Forest.{Forest, above_of, data_of, element_name}
use Rattle.markup.specs.Named.{IsTree}
use Rattle.html_tokens.specs.Sink.{Reply, Unfit}
use Rattle.html_tokens.specs.declared.token.Token.{Token}
use Rattle.html_rules.specs.Choice.{choose}
use Rattle.html_rules.specs.Conditions.{context_is, is_nonempty}
use Rattle.html_rules.specs.Documents.{Setting, before_document, before_fragment, form_of_context}
use Rattle.html_rules.specs.ForeignContent.{is_html_element}
use Rattle.html_rules.specs.Names.{Html, element_name_of}
use Rattle.html_rules.specs.Rules.{turn}
use Rattle.html_rules.specs.Shape.{has_root, is_fit}
use Rattle.html_rules.specs.Stack.{open_templates}
use Rattle.html_rules.specs.State.{Open, State, is_in}
use Rattle.html_rules.specs.Step.{step}
use Rattle.html_rules.specs.declared.insertion_mode.InsertionMode.{InsertionMode}
use Rattle.html_rules.specs.declared.insertion_mode.InsertionMode.TheVariants.{Initial, BeforeHtml, BeforeHead, InHead}
use Rattle.html_rules.specs.declared.insertion_mode.InsertionMode.TheVariants.{InHeadNoscript, AfterHead, InBody, Text, InTable}
use Rattle.html_rules.specs.declared.insertion_mode.InsertionMode.TheVariants.{InTableText, InCaption, InColumnGroup}
use Rattle.html_rules.specs.declared.insertion_mode.InsertionMode.TheVariants.{InTableBody, InRow, InCell, InTemplate}
use Rattle.html_rules.specs.declared.insertion_mode.InsertionMode.TheVariants.{AfterBody, InFrameset, AfterFrameset}
use Rattle.html_rules.specs.declared.insertion_mode.InsertionMode.TheVariants.{AfterAfterBody, AfterAfterFrameset}
use Rattle.html_rules.specs.declared.tag_set.TagSet.{TagSet}
use Rattle.html_rules.specs.declared.tag_set.TagSet.TheVariants as set
use Rattle.html_rules_laws.specs.Held.{wanted}
use Rattle.html_rules_laws.specs.Sound.{Sound, is_table_mode}
use Rattle.html_rules_laws.specs.Soundness.{IsOwn}
use Rattle.html_rules_laws.specs.Upright.{MayCome, Steady}

-- the elements that modes go by: `html`, `head`, `body`, `frameset`, `template`, `table`, `tbody` and the like, `tr`, cells, `caption`,
-- `colgroup`; any other element; nothing
pub data Part : Type 0 where
  Root : Part
  HeadPart : Part
  BodyPart : Part
  Frames : Part
  Contents : Part
  TablePart : Part
  Section : Part
  RowPart : Part
  Cell : Part
  CaptionPart : Part
  Columns : Part
  Loose : Part
  Nothing : Part

abbrev pub set_of : Part → TagSet
set_of Root = set.Html
set_of HeadPart = set.Head
set_of BodyPart = set.Body
set_of Frames = set.Frameset
set_of Contents = set.Template
set_of TablePart = set.Table
set_of Section = set.TbodyTfootThead
set_of RowPart = set.Tr
set_of Cell = set.TdTh
set_of CaptionPart = set.Caption
set_of Columns = set.Colgroup
set_of Loose = set.P
set_of Nothing = set.P

abbrev pub parts : List Part
parts = Root ∷ HeadPart ∷ BodyPart ∷ Frames ∷ Contents ∷ TablePart ∷ Section ∷ RowPart ∷ Cell ∷ CaptionPart ∷ Columns ∷ []

abbrev pub part_among : List Part → Open → Part
part_among [] x = Loose
part_among (p ∷ ps) x = choose (is_in (set_of p) x) (λ _. p) (λ _. part_among ps x)

unfoldable pub part_of : Open → Part
part_of x = part_among parts x

abbrev pub top : List Open → Part
top [] = Nothing
top (x ∷ xs) = part_of x

-- what is parsed: a document, or a fragment in `html`; a fragment in `frameset`; any other fragment, which begins in the root
pub data Ground : Type 0 where
  Document : Ground
  InFrames : Ground
  Flow : Ground

abbrev pub ground_in : Open → Ground
ground_in c = choose (is_in set.Html c) (λ _. Document) (λ _. choose (is_in set.Frameset c) (λ _. InFrames) (λ _. Flow))

abbrev pub ground_of : Option Open → Ground
ground_of None = Document
ground_of (Some c) = ground_in c

abbrev pub is_flow : Ground → Bool
is_flow Flow = true
is_flow g = false

abbrev pub is_document : Ground → Bool
is_document Document = true
is_document g = false

-- what other elements and tables may stand on
abbrev pub takes : Ground → Part → Bool
takes g Root = is_flow g
takes g HeadPart = false
takes g Frames = false
takes g Nothing = false
takes g p = true

abbrev pub is_root : Part → Bool
is_root Root = true
is_root p = false

-- what a part may stand on: the parts of tables on one another
abbrev pub may_stand : Ground → Part → Part → Bool
may_stand g Root Nothing = true
may_stand g HeadPart Root = is_document g
may_stand g BodyPart Root = is_document g
may_stand g Frames Root = not (is_flow g)
may_stand g Frames Frames = true
may_stand g Contents Nothing = false
may_stand g Contents Frames = false
may_stand g Contents q = true
may_stand g TablePart q = takes g q
may_stand g Section TablePart = true
may_stand g Section Contents = true
may_stand g Section Root = is_flow g
may_stand g RowPart Section = true
may_stand g RowPart Contents = true
may_stand g RowPart Root = is_flow g
may_stand g Cell RowPart = true
may_stand g Cell Contents = true
may_stand g Cell Root = is_flow g
may_stand g CaptionPart TablePart = true
may_stand g CaptionPart Contents = true
may_stand g CaptionPart Root = is_flow g
may_stand g Columns TablePart = true
may_stand g Columns Contents = true
may_stand g Columns Root = is_flow g
may_stand g Loose q = takes g q
may_stand g p q = false

abbrev pub nested : Ground → List Open → Bool
nested g [] = true
nested g (x ∷ xs) = may_stand g (part_of x) (top xs) && nested g xs

abbrev pub is_loose : Part → Bool
is_loose Loose = true
is_loose p = false

-- the part that was opened last
abbrev pub base : List Open → Part
base [] = Nothing
base (x ∷ xs) = choose (is_loose (part_of x)) (λ _. base xs) (λ _. part_of x)

-- which part it is in the modes in which elements come one in another
abbrev pub has_base : InsertionMode → Part → Bool
has_base InBody BodyPart = true
has_base InBody Contents = true
has_base InBody Root = true
has_base AfterBody BodyPart = true
has_base AfterBody Contents = true
has_base AfterBody Root = true
has_base AfterAfterBody BodyPart = true
has_base AfterAfterBody Contents = true
has_base AfterAfterBody Root = true
has_base InTable TablePart = true
has_base InTable Contents = true
has_base InTable Root = true
has_base InTableBody Section = true
has_base InTableBody Contents = true
has_base InTableBody Root = true
has_base InRow RowPart = true
has_base InRow Contents = true
has_base InRow Root = true
has_base InCell Cell = true
has_base InCaption CaptionPart = true
has_base InCaption Root = true
has_base InColumnGroup Columns = true
has_base InColumnGroup Contents = true
has_base InColumnGroup Root = true
has_base InTemplate Contents = true
has_base InTemplate Root = true
has_base m p = false

abbrev pub is_in_template : InsertionMode → Bool
is_in_template InTemplate = true
is_in_template m = false

-- the root is the base only in a fragment, and in the mode "in template" in that of a template
abbrev pub fits_root : Ground → Bool → InsertionMode → Part → Bool
fits_root g template m Root = is_flow g && (template || not (is_in_template m))
fits_root g template m p = true

abbrev pub is_head : Part → Bool
is_head HeadPart = true
is_head p = false

abbrev pub is_frames : Part → Bool
is_frames Root = true
is_frames Frames = true
is_frames p = false

abbrev pub are_html : List Open → Bool
are_html [] = true
are_html (x ∷ xs) = is_html_element x && are_html xs

-- what is open in a mode that is no mode of text
abbrev pub fits_nested : Ground → Bool → InsertionMode → List Open → Bool
fits_nested g template Initial xs = not (is_nonempty xs)
fits_nested g template BeforeHtml xs = not (is_nonempty xs)
fits_nested g template BeforeHead xs = is_document g && (nested g xs && is_root (top xs))
fits_nested g template AfterHead xs = is_document g && (nested g xs && is_root (top xs))
fits_nested g template InHead xs = nested g xs && is_head (top xs)
fits_nested g template InHeadNoscript [] = false
fits_nested g template InHeadNoscript (x ∷ xs) = is_loose (part_of x) && (nested g xs && is_head (top xs))
fits_nested g template InFrameset xs = not (is_flow g) && (nested g xs && is_frames (top xs))
fits_nested g template AfterFrameset xs = not (is_flow g) && (nested g xs && is_frames (top xs))
-- white space opens formatting elements again there
fits_nested g template AfterAfterFrameset xs = not (is_flow g) && (are_html xs && has_root xs)
fits_nested g template Text xs = false
fits_nested g template InTableText xs = false
fits_nested g template m xs = nested g xs && (has_base m (base xs) && fits_root g template m (base xs))

-- under the element of a text, what is open in the original mode
abbrev pub fits_under : Ground → Bool → Option InsertionMode → List Open → Bool
fits_under g template None xs = false
fits_under g template (Some original) [] = false
fits_under g template (Some original) (x ∷ xs) = is_loose (part_of x) && (is_nonempty xs && fits_nested g template original xs)

-- what text of a table comes over
abbrev pub is_foster : Part → Bool
is_foster TablePart = true
is_foster Section = true
is_foster RowPart = true
is_foster p = false

abbrev pub fits_table : Ground → Bool → Option InsertionMode → List Open → Bool
fits_table g template None xs = false
fits_table g template (Some original) xs = is_foster (top xs) && (is_table_mode original && fits_nested g template original xs)

abbrev pub fits_parts : Ground → Bool → InsertionMode → Option InsertionMode → List Open → Bool
fits_parts g template Text original xs = fits_under g template original xs
fits_parts g template InTableText original xs = fits_table g template original xs
fits_parts g template mode original xs = fits_nested g template mode xs

-- a state in which the parts nest
pub record IsNested (s : State) : Type 0 where
  pub fits : fits_parts (ground_of s.context_elem) (context_is set.Template s.context_elem) s.mode s.orig_mode s.open_elems ≡ true
  -- each open template has its mode, and so has a context that is one
  pub count : wanted s ≡ length s.template_modes
  -- a frameset comes only where no template is open
  pub framed : s.frameset_ok ≡ true → open_templates s.open_elems ≡ 0
  -- the form element pointer names a `form`
  pub form : IfSome s.form_elem (λ n. element_name (data_of s.forest n) ≡ Some (element_name_of Html (codes "form")))

pub record AreNestedStatesFit : Type 0 where
  -- such a state takes every token but one that is barred in text
  pub fit : (s : State) → Sound s → IsNested s → is_fit s ≡ true
  -- the states before the first token are such, where a fragment's form is one
  pub document : (setting : Setting) (f : Forest) → IsNested (before_document setting f)
  pub fragment : (setting : Setting) (context : Open) (form : Option ℕ) (f : Forest) → IsTree f
      → IfSome (form_of_context setting.opts.rules context form) (λ n. element_name (data_of f n) ≡ Some (element_name_of Html (codes "form")))
      → IsNested (before_fragment setting context form f)
  -- turns lead to such states
  pub turn : (t : Token) (s : State) → MayCome t s → IsNested s → IsNested (turn t s).state

-- states to which tokens lead from those before a document or a fragment, over a tree with the document on top
pub data Reached : State → Type 0 where
  document : (setting : Setting) (f : Forest) → IsTree f → above_of f 0 ≡ None → Reached (before_document setting f)
  fragment : (setting : Setting) (context : Open) (form : Option ℕ) (f : Forest) → IsTree f → above_of f 0 ≡ None
      → IsOwn context.namespace
      → IfSome (form_of_context setting.opts.rules context form) (λ n. element_name (data_of f n) ≡ Some (element_name_of Html (codes "form")))
      → Reached (before_fragment setting context form f)
  token : (s r : State) (t : Token) (line : ℕ) (reply : Reply) → Reached s → step s t line ≡ Ok (r, reply) → Reached r

pub record AreReachedStatesFit : Type 0 where
  -- tokens keep the parts nested
  pub kept : (s : State) → Steady s → IsNested s → (t : Token) (line : ℕ) → IfOk (step s t line) (λ p. IsNested p.0)
  -- every state that is reached fits its mode, so that no token is refused as unfit
  pub fit : (s : State) → Reached s → is_fit s ≡ true
  pub taken : (s : State) → Reached s → (t : Token) (line : ℕ) → IfErr (step s t line) (λ refusal. refusal ≡ Unfit → ⊥)
