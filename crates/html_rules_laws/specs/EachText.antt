-- Each text has a document.
use Rattle.std.specs.Prelude.{◌≡◌, ℕ, Bool, List, Option, Some, None, IfSome, IsOk, codes}
use Rattle.markup.specs.Forest.{Forest, above_of, data_of, element_name}
use Rattle.markup.specs.Named.{IsTree}
use Rattle.html_tokens.specs.Table.{Row}
use Rattle.html_tokens.specs.declared.options.TokenizerOpts.{TokenizerOpts}
use Rattle.html_rules.specs.Documents.{Setting, document, fragment, form_of_context}
use Rattle.html_rules.specs.Names.{Html, element_name_of}
use Rattle.html_rules.specs.State.{Open}
use Rattle.html_rules_laws.specs.Soundness.{IsOwn}

-- no token of a text is refused, over a tree with the document on top, with whatever options
pub record IsEachTextTaken : Type 0 where
  pub document : (table : List Row) (opts : TokenizerOpts) (setting : Setting) (f : Forest) → IsTree f
      → above_of f 0 ≡ None → (text : List ℕ) → IsOk (document table opts setting f text)
  pub fragment : (table : List Row) (opts : TokenizerOpts) (setting : Setting) (context : Open) (form : Option ℕ)
      (scripting : Bool) (f : Forest) → IsTree f → above_of f 0 ≡ None → IsOwn context.namespace
      → IfSome (form_of_context setting.opts.rules context form) (λ n. element_name (data_of f n) ≡ Some (element_name_of Html (codes "form"))) → (text : List ℕ)
      → IsOk (fragment table opts setting context form scripting f text)
