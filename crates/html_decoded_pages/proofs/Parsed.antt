-- What a parser makes of a text that was decoded.
use Rattle.std.proofs.Common.{◌≡◌, ◌∙◌, ℕ, Bool, true, List, [], Option, Some, None, Result, Ok, IsUtf8, refl, sym, ap, subst}
use Rattle.std.specs.Prelude.{IfOk}
use Rattle.std.specs.Str.{chars}
use Rattle.markup.specs.Forest.{Forest, empty_forest}
use Rattle.markup.specs.declared.fault.ParseFault.{ParseFault}
use Rattle.markup.specs.declared.tree_sink.TreeSink.{Ghosts as TreeGhosts}
use Rattle.html_normal.specs.Document.{default_setting, forest_answers}
use Rattle.html_normal.specs.Faults.{fault_of}
use Rattle.html_normal.specs.declared.fault.NormalFault.TheVariants.{Memory}
use Rattle.html_normal.proofs.Meanings.{finish-fault, opts_with}
use Rattle.html_parser.specs.Documents.{IsBuilt, builder, of_document}
use Rattle.html_parser.specs.Read.{Beginning, FailsAfter, IsLeft, RisesTo, owed_by}
use Rattle.html_rules.specs.Documents.{Setting}
use Rattle.html_rules.specs.State.{Answers, State}
use Rattle.html_rules.specs.declared.rules.Rules.TheVariants.{Html5ever}
use Rattle.html_tokens.specs.Table.{Row}
use Rattle.html_tokens.specs.declared.options.TokenizerOpts.{TokenizerOpts}
use Rattle.html_tokenizer.specs.declared.tokenizer.Tokenizer.{Tokenizer}
use Rattle.html_tree_builder.specs.States.{answers_of, setting_of}
use Rattle.html_tree_builder.specs.declared.options.TreeBuilderOpts.{TreeBuilderOpts}
use Rattle.html_tree_builder.specs.declared.builder.TreeBuilder.{TreeBuilder}
use Rattle.html_pages.specs.Pages.{IsPage}
use Rattle.html_pages.proofs.Emitted.{page-of-all}
use Rattle.html_places.specs.Noted.{IsPlaced}
use Rattle.html_places.specs.declared.noted.NotedForest.{NotedForest}
use Rattle.html_tokens.specs.Forbidden.{is_forbidden}
use Rattle.std.specs.List.{list_any}
use Rattle.html_pages.proofs.Parsed.{memory-alone, page-made}
use Rattle.html_encodings.specs.declared.names.Encoding.{Encoding}
use Rattle.html_decoded_pages.specs.Changing.{named_in, settled}
use Rattle.html_decoded_pages.specs.DecodedPages.{IsNotedPage, IsParsedPage}
use Rattle.html_decoded_pages.specs.Parsing.{IsOutcome, IsParsed, beginning_of, setting_with}
use Rattle.html_decoded_pages.specs.Pauses.{IsBefore, ReadsIn, settled_by}
use Rattle.html_decoded_pages.specs.declared.parsing.Parsed.{Parsed}
use Rattle.html_decoded_pages.specs.declared.parsing.Parsed.TheVariants.{Other, Whole}

module _ {K H O : Type 0} (Sink : TreeGhosts K H O) where
  pub reading-fault : (begin : Beginning State) (k : Tokenizer (TreeBuilder K H O)) (fault : ParseFault)
      → IsBefore (builder Sink) begin k → FailsAfter (builder Sink) k fault → fault_of fault ≡ Memory
  reading-fault begin k fault before fails =
      memory-alone fault (finish-fault (builder Sink) fault None None begin [] k before.read before.taken fails)

  -- what a sink gives whose builder was left so
  pub built-of : (begin : Beginning State) (text : List ℕ) (b : TreeBuilder K H O) (out : O)
      → IsLeft (builder Sink) begin text b → Sink.finish_gives b.sink out → IsBuilt Sink begin text out
  built-of begin text b out left gives = record {
    sink = b.sink;
    gives = gives;
    state = (builder Sink).view b;
    is = left.is;
    same = refl;
    rises = subst (λ n. RisesTo (owed_by (builder Sink) begin text) begin.errors n) (sym left.counts) left.rises;
  }

-- how a document begins does not depend on how the parts of its beginning are named
begins-same : (table : List Row) (exact : Bool) (opts : TokenizerOpts) (tree_opts : TreeBuilderOpts) (answers : Answers) (f : Forest)
    → opts ≡ opts_with exact → setting_of forest_answers tree_opts ≡ default_setting
    → of_document table opts (setting_of answers tree_opts) f ≡ of_document table (opts_with exact) (setting_with answers) f
begins-same table exact opts tree_opts answers f opts_is setting_is =
    ap (λ o. of_document table o (setting_of answers tree_opts) f) opts_is
    ∙ ap (λ (s : Setting). of_document table (opts_with exact) (record s { answers = answers }) f) setting_is

-- what was read to its end, or is to be read in another encoding
module _ {K H O : Type 0} (Sink : TreeGhosts K H O) (table : List Row) (exact : Bool) (f : Forest) (text : List ℕ)
    (encoding : Encoding) where
  parsed-whole : (b : TreeBuilder K H O) (out : O)
      → ReadsIn (builder Sink) (beginning_of Sink table exact f) text encoding b None → Sink.finish_gives b.sink out
      → IsParsed Sink table exact f text encoding (Whole out)
  unfolding IsParsed
  parsed-whole b out reads gives = (built-of Sink (beginning_of Sink table exact f) text b out reads.0 gives, reads.1)

  parsed-other : (b : TreeBuilder K H O) (other : Encoding)
      → ReadsIn (builder Sink) (beginning_of Sink table exact f) text encoding b (Some other)
      → IsParsed Sink table exact f text encoding (Other other)
  unfolding IsParsed
  parsed-other b other reads = reads

  parsed-outcome : (b : TreeBuilder K H O) (other : Option Encoding) (parsed : Parsed O)
      → ReadsIn (builder Sink) (beginning_of Sink table exact f) text encoding b other → IsOutcome Sink b other parsed
      → IsParsed Sink table exact f text encoding parsed
  parsed-outcome b None (Whole out) reads outcome = parsed-whole b out reads outcome
  parsed-outcome b None (Other named) reads outcome = absurd outcome
  parsed-outcome b (Some other) (Whole out) reads outcome = absurd outcome
  parsed-outcome b (Some other) (Other named) reads outcome =
      subst (λ (e : Encoding). IsParsed Sink table exact f text encoding (Other e)) (sym outcome) (parsed-other b other reads)

  abbrev answers : Answers
  answers = answers_of Sink.integration_point Sink.allows_shadow_roots Sink.attaches_shadow

  -- what a tokenizer has read that had read nothing
  pub parsed-read : (opts : TokenizerOpts) (tree_opts : TreeBuilderOpts) (k new : Tokenizer (TreeBuilder K H O)) (queue : List ℕ)
      (answer : Result (Option Encoding) ParseFault) (other : Option Encoding) (left : TreeBuilder K H O) (parsed : Parsed O)
      → opts ≡ opts_with exact → setting_of forest_answers tree_opts ≡ default_setting
      → IsBefore (builder Sink) (of_document table opts (setting_of answers tree_opts) f) k → queue ≡ text
      → IfOk answer (λ named. (begin : Beginning State) → IsBefore (builder Sink) begin k
      → ReadsIn (builder Sink) begin queue encoding new.sink named)
      → answer ≡ Ok other → left ≡ new.sink → IsOutcome Sink left other parsed
      → IsParsed Sink table exact f text encoding parsed
  parsed-read opts tree_opts k new queue answer other left parsed opts_is setting_is before queue_is reads answer_is left_is outcome =
      let read = rw answer_is at reads in
      let first = read (of_document table opts (setting_of answers tree_opts) f) before in
      let begun = subst (λ (b : Beginning State). ReadsIn (builder Sink) b queue encoding new.sink other)
      (begins-same table exact opts tree_opts answers f opts_is setting_is) first in
      let whole = subst (λ (t : List ℕ). ReadsIn (builder Sink) (beginning_of Sink table exact f) t encoding new.sink other)
      queue_is begun in
      let there = subst (λ (b : TreeBuilder K H O). ReadsIn (builder Sink) (beginning_of Sink table exact f) text encoding b other)
      (sym left_is) whole in
      parsed-outcome left other parsed there outcome

-- before a document of a forest
abbrev first_of : List Row → Bool → Beginning State
first_of table exact = of_document table (opts_with exact) default_setting empty_forest

-- the encoding in which a text is to be read depends neither on the sink nor on how exactly errors are reported
settled-same : {K H O : Type 0} (Sink : TreeGhosts K H O) (table : List Row) (exact : Bool) (bytes : List ℕ) (encoding : Encoding)
    → settled_by (builder Sink) (first_of table exact) (chars bytes) encoding
    ≡ settled encoding (named_in table bytes)
unfolding settled_by named_in
settled-same Sink table exact bytes encoding = refl

-- What was parsed of a text has its document, or it is to be read in another encoding.
module _ {K H O : Type 0} (Sink : TreeGhosts K H O) (forest_of : O → Forest)
    (is_its : (sink : K) (out : O) → Sink.finish_gives sink out → forest_of out ≡ Sink.forest sink)
    (answers : answers_of Sink.integration_point Sink.allows_shadow_roots Sink.attaches_shadow ≡ forest_answers) (exact : Bool) where
  begins-first : (table : List Row) (f : Forest) → f ≡ empty_forest → beginning_of Sink table exact f ≡ first_of table exact
  begins-first table f f_is = ap (λ (a : Answers). of_document table (opts_with exact) (setting_with a) f) answers
      ∙ ap (of_document table (opts_with exact) default_setting) f_is

  abbrev IsPageOf : List Row → List ℕ → O → Type 0
  IsPageOf table text out = IsPage table exact text (forest_of out)

  page-parsed : (table : List Row) (bytes : List ℕ) (encoding : Encoding) (f : Forest) (parsed : Parsed O) → f ≡ empty_forest
      → IsUtf8 bytes → IsParsed Sink table exact f (chars bytes) encoding parsed
      → IsParsedPage (IsPageOf table) table bytes encoding parsed
  unfolding IsParsed IsParsedPage
  page-parsed table bytes encoding f (Whole out) f_is text is =
      let built = subst (λ (b : Beginning State). IsBuilt Sink b (chars bytes) out) (begins-first table f f_is) is.0 in
      let same = subst (λ (b : Beginning State). settled_by (builder Sink) b (chars bytes) encoding ≡ encoding)
      (begins-first table f f_is) is.1 in (
        page-made Sink forest_of is_its Html5ever table exact
            (opts_with exact) default_setting empty_forest bytes out refl refl refl text built,
        sym (settled-same Sink table exact bytes encoding) ∙ same,
      )
  page-parsed table bytes encoding f (Other other) f_is text is =
      sym (settled-same Sink table exact bytes encoding)
      ∙ subst (λ (b : Beginning State). settled_by (builder Sink) b (chars bytes) encoding ≡ other) (begins-first table f f_is) is

  -- the same with a copy of the table
  pub page-copied : (table copied : List Row) (bytes : List ℕ) (encoding : Encoding) (f : Forest) (parsed : Parsed O) → copied ≡ table
      → f ≡ empty_forest → IsUtf8 bytes → IsParsed Sink copied exact f (chars bytes) encoding parsed
      → IsParsedPage (IsPageOf table) table bytes encoding parsed
  page-copied table copied bytes encoding f parsed table_is f_is text is =
      page-parsed table bytes encoding f parsed f_is text
      (subst (λ (t : List Row). IsParsed Sink t exact f (chars bytes) encoding parsed) table_is is)

-- what a parsed page says
module _ {T : Type 0} (Is : List ℕ → T → Type 0) (table : List Row) (text : List ℕ) (encoding : Encoding) where
  pub made-of : (made : T) → IsParsedPage Is table text encoding (Whole made) → Is text made
  unfolding IsParsedPage
  made-of made is = is.0

  pub stays : (made : T) → IsParsedPage Is table text encoding (Whole made) → settled encoding (named_in table text) ≡ encoding
  unfolding IsParsedPage
  stays made is = is.1

  pub changes : (other : Encoding) → IsParsedPage Is table text encoding (Other other)
      → settled encoding (named_in table text) ≡ other
  unfolding IsParsedPage
  changes other is = is

-- a parsed page is one by any definition that each document meets which was made of the text
pub parsed-as : {T : Type 0} (Is Is' : List ℕ → T → Type 0) (table : List Row) (text : List ℕ) (encoding : Encoding) (parsed : Parsed T)
    → ((made : T) → Is text made → Is' text made) → IsParsedPage Is table text encoding parsed
    → IsParsedPage Is' table text encoding parsed
unfolding IsParsedPage
parsed-as Is Is' table text encoding (Whole made) fits is = (fits made is.0, is.1)
parsed-as Is Is' table text encoding (Other other) fits is = is

-- a parsed page into which places were put
pub page-placed : (table : List Row) (exact : Bool) (text : List ℕ) (encoding : Encoding) (noted made : NotedForest)
    → exact ≡ list_any is_forbidden (chars text)
    → IsParsedPage (λ bytes (n : NotedForest). IsPage table exact bytes n.forest) table text encoding (Whole noted)
    → made.forest ≡ noted.forest → IsPlaced (chars text) made → IsParsedPage (IsNotedPage table) table text encoding (Whole made)
unfolding IsParsedPage
page-placed table exact text encoding noted made finds is same placed = (
  (subst (λ (f : Forest). IsPage table true text f) (sym same) (page-of-all table exact text noted.forest finds is.0), placed),
  is.1,
)

-- that a page is to be read in another encoding says nothing of what was made
pub page-other : {T U : Type 0} (Is : List ℕ → T → Type 0) (Is' : List ℕ → U → Type 0) (table : List Row) (text : List ℕ)
    (encoding other : Encoding) → IsParsedPage Is table text encoding (Other other) → IsParsedPage Is' table text encoding (Other other)
unfolding IsParsedPage
page-other Is Is' table text encoding other is = is
