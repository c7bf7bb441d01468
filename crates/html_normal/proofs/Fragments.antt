-- What was read and parsed of a fragment, as one.
use Rattle.std.proofs.Common.{◌≡◌, ◌∙◌, ℕ, Bool, true, List, [], ◌++◌, ap, sym, subst, Option, Some, IsUtf8}
use Rattle.std.specs.Io.KnownBytes.{IsAtEnd, prepend_known}
use Rattle.std.specs.Str.{chars}
use Rattle.std.proofs.lemmas.List.{append-nil}
use Rattle.markup.specs.Forest.{Forest, empty_forest}
use Rattle.markup.specs.TreeLaws.{with_errors}
use Rattle.markup.specs.declared.attributes.Attribute.{Attribute}
use Rattle.markup.specs.declared.names.QualName.{QualName}
use Rattle.markup.specs.declared.tree_sink.TreeSink.{Ghosts as TreeGhosts}
use Rattle.html_input.proofs.Whole.{all-read}
use Rattle.html_parser.specs.Documents.{IsBuilt, of_new_context}
use Rattle.html_rules.specs.Documents.{Setting}
use Rattle.html_tokens.specs.Table.{Row}
use Rattle.html_tokens.specs.declared.options.TokenizerOpts.{TokenizerOpts}
use Rattle.html_normal.specs.Document.{default_setting}
use Rattle.html_normal.specs.Fragment.{IsFragmentRead}
use Rattle.html_normal.proofs.Meanings.{opts_with}

module _ {K H : Type 0} (Sink : TreeGhosts K H Forest) (table : List Row) (exact : Bool) (name : QualName) where
  -- what a fragment of a text is built from
  abbrev Built : TokenizerOpts → Setting → List Attribute → Forest → List ℕ → Forest → Type 0
  Built opts setting attributes f text out = IsBuilt Sink (of_new_context table opts setting name attributes true f) text out

  -- how a fragment begins does not depend on how the parts of its beginning are named
  built-same : (opts : TokenizerOpts) (setting : Setting) (attributes : List Attribute) (f : Forest)
      (text waits : List ℕ) (out : Forest) → opts ≡ opts_with exact → setting ≡ default_setting → attributes ≡ []
      → f ≡ empty_forest → waits ≡ []
      → Built opts setting attributes f (text ++ waits) out → Built (opts_with exact) default_setting [] empty_forest text out
  built-same opts setting attributes f text waits out opts_is setting_is none_is forest_is empty built =
      subst (λ (g : Forest). Built (opts_with exact) default_setting [] g text out) forest_is
      (subst (λ (a : List Attribute). Built (opts_with exact) default_setting a f text out) none_is
      (subst (λ (s : Setting). Built (opts_with exact) s attributes f text out) setting_is
      (subst (λ (o : TokenizerOpts). Built o setting attributes f text out) opts_is
      (subst (λ (cs : List ℕ). Built opts setting attributes f cs out) (append-nil text)
      (subst (λ (cs : List ℕ). Built opts setting attributes f (text ++ cs) out) empty built)))))

  -- what was built of all that a reader had is its fragment
  pub fragment-made : (opts : TokenizerOpts) (setting : Setting) (attributes : List Attribute) (f : Forest)
      (old new : Option (List ℕ)) (bytes waits : List ℕ) (out : Forest)
      → ((sink : K) → Sink.finish_gives sink out → out ≡ Sink.forest sink) → opts ≡ opts_with exact
      → setting ≡ default_setting → attributes ≡ [] → f ≡ empty_forest → waits ≡ []
      → IsUtf8 bytes → old ≡ prepend_known bytes new → IsAtEnd new → Built opts setting attributes f (chars bytes ++ waits) out
      → (whole : List ℕ) → old ≡ Some whole → IsFragmentRead table name whole new (with_errors 0 out)
  fragment-made opts setting attributes f old new bytes waits out gives opts_is setting_is none_is forest_is empty
      text moved end built whole told =
      let every = all-read old new bytes whole moved end told in
      let made = built-same opts setting attributes f (chars bytes) waits out opts_is setting_is none_is forest_is empty built in
      let of_all = subst (λ (bs : List ℕ). Built (opts_with exact) default_setting [] empty_forest (chars bs) out) every.same made in
      record {
        input = record {
          text = subst IsUtf8 every.same text;
          state = of_all.state;
          read = of_all.is;
          tree = ap (with_errors 0) (gives of_all.sink of_all.gives) ∙ of_all.same;
        };
        taken = every.taken;
      }
