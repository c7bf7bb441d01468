-- What was made of a page's trees, and why there is no image of them.
use Rattle.std.proofs.Common.{◌≡◌, ℕ, true, false, List, [], Option, Some, refl, subst, sym}
use Rattle.std.specs.Str.{IsUtf8, IsValidUpTo, chars}
use Rattle.markup.specs.Forest.{Forest}
use Rattle.markup.specs.TreeLaws.{with_errors}
use Rattle.markup.specs.declared.names.QualName.{QualName}
use Rattle.html_input.specs.TableFault.{IsTableFile}
use Rattle.html_normal.specs.Normal.{IsRead}
use Rattle.html_normal.specs.Fragment.{IsFragment, IsFragmentRead}
use Rattle.html_pages.specs.Pages.{html_name}
use Rattle.html_tokens.specs.Table.{Row}
use Rattle.html_tree_image.specs.Image.{is_too_large}
use Rattle.html_tree_image.specs.declared.image.ImageFault.{ImageFault}
use Rattle.html_tree_image.specs.declared.image.ImageFault.TheVariants as image
use Rattle.html_ffi.specs.Answers.{Fails, FailsAsTree, FailsOver, IsTooLarge, image_failure_of}
use Rattle.html_ffi.specs.Trees.{FailsAsFragment, IsDocumentBy, IsFragmentIn}
use Rattle.html_ffi.specs.declared.answer.Answer.{Answer}
use Rattle.html_ffi.specs.declared.answer.Answer.TheVariants.{Done, NotUtf8, TooShort, Memory, TooLarge, TableNotUtf8}
use Rattle.html_ffi.specs.declared.answer.Answer.TheVariants.{TableLine, TableName, TableDuplicate, TableValue}
use Rattle.html_ffi.specs.declared.answer.Answer.TheVariants.{SelectorNotUtf8, Selector, NotAnImage, NoNode}
use Rattle.html_ffi.specs.declared.answer.Answer.TheVariants.{PolicyNotUtf8, PolicyLine, NeverKept, NoPolicy, ContextNotUtf8}
use Rattle.html_ffi.specs.declared.answer.Failure.{Failure}

-- why a forest has no image
pub image-failed : (f : Forest) (fault : ImageFault) (made : Failure) → made ≡ image_failure_of fault
    → (fault ≡ image.TooLarge → is_too_large f ≡ true) → FailsOver f made.answer made.at
image-failed f image.Memory made is large = subst (λ (m : Failure). FailsOver f m.answer m.at) (sym is) refl
image-failed f image.TooLarge made is large = subst (λ (m : Failure). FailsOver f m.answer m.at) (sym is) (refl, large refl)

-- the document of a page that was read to its end
pub read-made : (rows : List Row) (page : List ℕ) (left : Option (List ℕ)) (f : Forest)
    → IsRead rows false page left (with_errors 0 f) f.errors → IsDocumentBy rows page f
read-made rows page left f read = record { document = read.input; counts = read.counts }

-- a fragment that was read to its end
pub fragment-made : (context : List ℕ) (rows : List Row) (page : List ℕ) (left : Option (List ℕ)) (f : Forest) (name : QualName)
    → name ≡ html_name (chars context) → IsFragmentRead rows name page left (with_errors 0 f) → IsUtf8 context
    → IsFragmentIn context rows page f
fragment-made context rows page left f name is read utf8 =
    record { utf8 = utf8; fragment = subst (λ (n : QualName). IsFragment rows n page (with_errors 0 f)) is read.input }

-- the name of a context, as a text
pub fragment-is : (context text : List ℕ) (rows : List Row) (page : List ℕ) (f : Forest) → text ≡ context → IsUtf8 context
    → (IsUtf8 text → IsFragmentIn text rows page f) → IsFragmentIn context rows page f
fragment-is context text rows page f same utf8 made =
    subst (λ (t : List ℕ). IsFragmentIn t rows page f) same (made (subst (λ (t : List ℕ). IsUtf8 t) (sym same) utf8))

module _ (Of : List Row → List ℕ → Forest → Type 0) (file page : List ℕ) where
  -- the image of a forest that a page has is too large
  pub over-large : (rows : List Row) (f : Forest) → IsTableFile file (Some []) rows → Of rows page f → is_too_large f ≡ true
      → IsTooLarge Of file page
  over-large rows f table is large = record { rows = rows; table = table; forest = f; is = is; large = large }

  -- a forest that a page has is no image
  pub over-fails : (f : Forest) → (is_too_large f ≡ true → IsTooLarge Of file page) → (answer : Answer) (at : ℕ) → FailsOver f answer at
      → FailsAsTree Of file page answer at
  over-fails f large Done at why = absurd why
  over-fails f large NotUtf8 at why = absurd why
  over-fails f large TooShort at why = absurd why
  over-fails f large Memory at why = why
  over-fails f large TooLarge at why = (why.0, large why.1)
  over-fails f large TableNotUtf8 at why = absurd why
  over-fails f large TableLine at why = absurd why
  over-fails f large TableName at why = absurd why
  over-fails f large TableDuplicate at why = absurd why
  over-fails f large TableValue at why = absurd why
  over-fails f large SelectorNotUtf8 at why = absurd why
  over-fails f large Selector at why = absurd why
  over-fails f large NotAnImage at why = absurd why
  over-fails f large NoNode at why = absurd why
  over-fails f large PolicyNotUtf8 at why = absurd why
  over-fails f large PolicyLine at why = absurd why
  over-fails f large NeverKept at why = absurd why
  over-fails f large NoPolicy at why = absurd why
  over-fails f large ContextNotUtf8 at why = absurd why

  -- what is wrong with the table or the page is so for a call that makes an image too
  pub tree-fails : (answer : Answer) (at : ℕ) → Fails file page answer at → FailsAsTree Of file page answer at
  tree-fails Done at why = absurd why
  tree-fails NotUtf8 at why = why
  tree-fails TooShort at why = absurd why
  tree-fails Memory at why = why
  tree-fails TooLarge at why = absurd why
  tree-fails TableNotUtf8 at why = why
  tree-fails TableLine at why = why
  tree-fails TableName at why = why
  tree-fails TableDuplicate at why = why
  tree-fails TableValue at why = why
  tree-fails SelectorNotUtf8 at why = absurd why
  tree-fails Selector at why = absurd why
  tree-fails NotAnImage at why = absurd why
  tree-fails NoNode at why = absurd why
  tree-fails PolicyNotUtf8 at why = absurd why
  tree-fails PolicyLine at why = absurd why
  tree-fails NeverKept at why = absurd why
  tree-fails NoPolicy at why = absurd why
  tree-fails ContextNotUtf8 at why = absurd why

module _ (context file page : List ℕ) where
  -- the name of a context is not UTF-8
  pub context-fails : (answer : Answer) (at : ℕ) → answer ≡ ContextNotUtf8 → IsValidUpTo context at
      → FailsAsFragment context file page answer at
  context-fails answer at is valid = subst (λ (a : Answer). FailsAsFragment context file page a at) (sym is) valid

  -- what is wrong with the rest is so for a call that takes a context too
  pub fragment-fails : (answer : Answer) (at : ℕ) → FailsAsTree (IsFragmentIn context) file page answer at
      → FailsAsFragment context file page answer at
  fragment-fails Done at why = absurd why
  fragment-fails NotUtf8 at why = why
  fragment-fails TooShort at why = absurd why
  fragment-fails Memory at why = why
  fragment-fails TooLarge at why = why
  fragment-fails TableNotUtf8 at why = why
  fragment-fails TableLine at why = why
  fragment-fails TableName at why = why
  fragment-fails TableDuplicate at why = why
  fragment-fails TableValue at why = why
  fragment-fails SelectorNotUtf8 at why = absurd why
  fragment-fails Selector at why = absurd why
  fragment-fails NotAnImage at why = absurd why
  fragment-fails NoNode at why = absurd why
  fragment-fails PolicyNotUtf8 at why = absurd why
  fragment-fails PolicyLine at why = absurd why
  fragment-fails NeverKept at why = absurd why
  fragment-fails NoPolicy at why = absurd why
  fragment-fails ContextNotUtf8 at why = absurd why
