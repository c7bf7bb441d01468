-- What `check` prints of a document.
use Rattle.std.specs.Prelude.{◌≡◌, ◌⊎◌, ◌++◌, ◌∷◌, ℕ, false, true, List, [], Option, Some, None, codes}
use Rattle.html_faithful.specs.Walk.{is_faithful_forest}
use Rattle.html_faithful_walk.specs.First.{IsFirst}
use Rattle.html_faithful_walk.specs.Reasons.{is_reason}
use Rattle.html_faithful_walk.specs.declared.reasons.Unfaithful.{Unfaithful}
use Rattle.html_faithful_walk.specs.declared.reasons.Unfaithful.TheVariants as why
use Rattle.html_listings.specs.Listings.{local_of}
use Rattle.figpliers.specs.Forest.{Forest, data_of, element_name, parent_of}
use Rattle.figpliers.specs.QualName.{QualName}
use Rattle.figpliers_program.specs.declared.faults.Verdict.{Verdict}
use Rattle.figpliers_program.specs.declared.faults.Verdict.TheVariants.{Errors, Fine}

-- PATHS

-- a node, if it has a name
abbrev pub if_named : Option QualName → ℕ → List ℕ
if_named None n = []
if_named (Some name) n = n ∷ []

abbrev pub element_at : Forest → ℕ → List ℕ
element_at f n = if_named (element_name (data_of f n)) n

-- the elements that a node is in, and the node itself if it is one; each before the one that it is in
pub data AreAround (f : Forest) : ℕ → List ℕ → Type 0 where
  top : {n : ℕ} → parent_of f n ≡ None → AreAround f n (element_at f n)
  inner : {n p : ℕ} {around : List ℕ} → parent_of f n ≡ Some p → AreAround f p around → AreAround f n (element_at f n ++ around)

-- the names of elements, each after a slash, the last one first
abbrev pub slashed : Forest → List ℕ → List ℕ
slashed f [] = []
slashed f (n ∷ around) = slashed f around ++ (codes "/" ++ local_of f n)

-- the path to the first of some elements, as html/body/pre
abbrev pub path : Forest → List ℕ → List ℕ
path f [] = codes "document"
path f (n ∷ []) = local_of f n
path f (n ∷ m ∷ around) = path f (m ∷ around) ++ (codes "/" ++ local_of f n)

-- REASONS

abbrev pub reason : Unfaithful → List ℕ
reason why.Instruction = codes "a processing instruction is read as a comment"
reason why.Doctype = codes "the doctype has another name than html"
reason why.Name = codes "the name is not read as it is written"
reason why.Attributes = codes "an attribute is not read as it is written"
reason why.Comment = codes "the comment is not read as it is written"
reason why.EmptyText = codes "the text is empty"
reason why.Characters = codes "the text has U+0000 or U+000D"
reason why.LineFeed = codes "a line feed comes first"
reason why.BesideText = codes "the text follows another text"
reason why.RawText = codes "the text does not end where its element ends"
reason why.Place = codes "something else is read here"

-- LINES

abbrev pub faithful_line : List ℕ → List ℕ
faithful_line name = name ++ codes ": faithful\n"

abbrev pub unfaithful_line : (name path reason : List ℕ) → List ℕ
unfaithful_line name path reason = name ++ (codes ": " ++ (path ++ (codes ": " ++ (reason ++ codes "\n"))))

-- a document is not faithful, and this is the line of the first of its nodes that is not read as it is written: where it is, and a reason
-- that holds of it
pub record IsUnfaithful (name : List ℕ) (document : Forest) (text : List ℕ) (verdict : Verdict) : Type 0 where
  pub judged : is_faithful_forest true document ≡ false
  pub node : ℕ
  pub first : IsFirst true document node
  pub around : List ℕ
  pub are_around : AreAround document node around
  pub why : Unfaithful
  pub holds : is_reason true document node why ≡ true
  pub written : text ≡ unfaithful_line name (path document around) (reason why)
  pub done : verdict ≡ Errors

-- `check`: whether a document is faithful, where scripts run
abbrev pub CheckText : (name : List ℕ) → Forest → (text : List ℕ) → Verdict → Type 0
CheckText name document text verdict =
    ((is_faithful_forest true document ≡ true) × (text ≡ faithful_line name) × (verdict ≡ Fine))
    ⊎ IsUnfaithful name document text verdict
