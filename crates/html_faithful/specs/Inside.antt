-- The tokens of trees.
use Rattle.std.specs.Prelude.{cond}
use Rattle.markup.specs.Trees.{Trees, Nothing, Text, Comment, ProcessingInstruction, Doctype, Element}
use Rattle.html_tokens.specs.declared.token.Token.{Token}
use Rattle.html_tokens.specs.declared.token.Token.TheVariants.{CharacterTokens, CommentToken}
use Rattle.html_rules.specs.Rules.{Settled}
use Rattle.html_rules.specs.Step.{followed_by, taken}
use Rattle.html_faithful.specs.Walk.{end_tag, is_void, start_tag}

-- one more token
abbrev pub next : Token → Settled → Settled
next t before = followed_by before (taken t before.state)

-- the tokens of trees: of each element its start tag, what stands in it, and its end tag
abbrev pub trees_taken : Trees → Settled → Settled
trees_taken Nothing before = before
trees_taken (Text text rest) before = trees_taken rest (next (CharacterTokens text) before)
trees_taken (Comment text rest) before = trees_taken rest (next (CommentToken text) before)
trees_taken (ProcessingInstruction target text rest) before = trees_taken rest before
trees_taken (Doctype name public_id system_id rest) before = trees_taken rest before
trees_taken (Element name attributes template kids rest) before =
    let opened = next (start_tag name attributes) before in
    trees_taken rest (cond (is_void name) opened (next (end_tag name) (trees_taken kids opened)))
