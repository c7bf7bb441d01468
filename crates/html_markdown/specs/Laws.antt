-- What descriptions and fences are to a reader of Markdown.
use Rattle.std.specs.Prelude.{◌≡◌, ℕ, ◌<◌, suc, false, List, ◌++◌, replicate}
use Rattle.html_markdown.specs.Description.{description, has_markup, read, spaced}
use Rattle.html_markdown.specs.Fence.{longest_run}

-- a reader makes of a description the text, and finds no markup in it
pub record IsReadBack (text : List ℕ) : Type 0 where
  pub same : read false (description text) ≡ spaced text
  pub bare : has_markup false (description text) ≡ false

abbrev pub AreDescriptionsReadBack : Type 0
AreDescriptionsReadBack = (text : List ℕ) → IsReadBack text

-- wherever so many backticks stand together in a text, a fence is longer
abbrev pub AreFencesLonger : Type 0
AreFencesLonger = (before after : List ℕ) (count : ℕ) → count < suc (longest_run (before ++ (replicate count 96 ++ after)))
