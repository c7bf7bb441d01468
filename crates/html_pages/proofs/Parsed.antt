-- What parsers that have begun make of whole texts.
use Rattle.std.proofs.Common.{◌≡◌, ◌∙◌, ℕ, Bool, true, List, [], ◌++◌, Option, Some, None, Result, Ok, Err, refl, sym, ap}
use Rattle.std.proofs.Common.{subst, append-nil, IsUtf8}
use Rattle.std.specs.Prelude.{IfErr, IfOk}
use Rattle.std.specs.Str.{chars}
use Rattle.markup.specs.Forest.{Forest, empty_forest}
use Rattle.markup.specs.TreeLaws.{with_errors}
use Rattle.markup.specs.declared.attributes.Attribute.{Attribute}
use Rattle.markup.specs.declared.fault.ParseFault.{ParseFault}
use Rattle.markup.specs.declared.fault.ParseFault.TheVariants as parse
use Rattle.markup.specs.declared.names.QualName.{QualName}
use Rattle.markup.specs.declared.tree_sink.TreeSink.{Ghosts as TreeGhosts}
use Rattle.html_normal.specs.Document.{default_opts, setting_by}
use Rattle.html_normal.specs.Faults.{fault_of}
use Rattle.html_normal.specs.Fragment.{fragment_opts}
use Rattle.html_normal.specs.Normal.{IsInputFault}
use Rattle.html_normal.specs.declared.fault.NormalFault.TheVariants.{Memory}
use Rattle.html_normal.proofs.Meanings.{document-made, finish-fault}
use Rattle.html_parser.specs.Documents.{Begins, Finishes, IsBuilt, builder, of_document, of_new_context}
use Rattle.html_parser.specs.Read.{Beginning, stopped_by}
use Rattle.html_queue.specs.Queue.{Queue}
use Rattle.html_rules.specs.Documents.{Setting}
use Rattle.html_rules.specs.State.{State}
use Rattle.html_rules.specs.declared.rules.Rules.{Rules}
use Rattle.html_tokens.specs.Table.{Row}
use Rattle.html_tokens.specs.declared.options.TokenizerOpts.{TokenizerOpts}
use Rattle.html_tokenizer.specs.Calls.{refusal_of}
use Rattle.html_tokenizer.specs.declared.tokenizer.Tokenizer.{Tokenizer}
use Rattle.html_tree_builder.specs.declared.builder.TreeBuilder.{TreeBuilder}
use Rattle.html_pages.specs.Pages.{IsFragmentBy, IsPageBy}

pub on-ok : {A E : Type 0} {P Q : A → Type 0} (r : Result A E) → IfOk r P → ((x : A) → P x → Q x) → IfOk r Q
on-ok (Ok x) h f = f x h
on-ok (Err e) h f = tt

pub on-err : {A E : Type 0} {P Q : E → Type 0} (r : Result A E) → IfErr r P → ((e : E) → P e → Q e) → IfErr r Q
on-err (Ok x) h f = tt
on-err (Err e) h f = f e h

-- the only fault of the parsers is out of memory
pub memory-alone : (fault : ParseFault) → IsInputFault ⊥ None None (fault_of fault) → fault_of fault ≡ Memory
memory-alone parse.Memory h = refl
memory-alone parse.Failed h = refl
memory-alone parse.TokenInText h = absurd h
memory-alone parse.Ended h = absurd h
memory-alone parse.Shape h = absurd h

module _ {K H O : Type 0} (Sink : TreeGhosts K H O) (begin : Beginning State) (failed : Bool)
    (k : Tokenizer (TreeBuilder K H O)) (input : Queue) (begins : Begins Sink begin failed k input) (text : List ℕ) where
  pub whole-built : (out : O) → Finishes Sink (stopped_by failed (refusal_of k)) k (input.characters ++ text)
      (Ok out) → IsBuilt Sink begin text out
  whole-built out gives =
      let free = subst (λ (o : Option ParseFault). Finishes Sink o k (input.characters ++ text) (Ok out)) begins.starts.begun gives in
      subst (λ (cs : List ℕ). IsBuilt Sink begin (cs ++ text) out) begins.starts.empty (free begin [] begins.starts.read)

  pub whole-failed : (fault : ParseFault) → Finishes {O = O} Sink (stopped_by failed (refusal_of k)) k
      (input.characters ++ text) (Err fault) → fault_of fault ≡ Memory
  whole-failed fault gives =
      let free = subst (λ (o : Option ParseFault). Finishes {O = O} Sink o k (input.characters ++ text) (Err fault))
      begins.starts.begun gives in
      memory-alone fault (finish-fault (builder Sink) fault None None begin [] k begins.starts.read begins.taken free)

-- a sink that gives a forest in which it is, as one that gives that forest
abbrev forest_sink : {K H O : Type 0} → TreeGhosts K H O → TreeGhosts K H Forest
forest_sink Sink = record {
  forest = Sink.forest;
  node = Sink.node;
  finish_gives = λ sink out. out ≡ Sink.forest sink;
  integration_point = Sink.integration_point;
  allows_shadow_roots = Sink.allows_shadow_roots;
  attaches_shadow = Sink.attaches_shadow;
}

module _ {K H O : Type 0} (Sink : TreeGhosts K H O) (forest_of : O → Forest)
    (is_its : (sink : K) (out : O) → Sink.finish_gives sink out → forest_of out ≡ Sink.forest sink) where
  forest-built : (begin : Beginning State) (text : List ℕ) (out : O) → IsBuilt Sink begin text out
      → IsBuilt (forest_sink Sink) begin text (forest_of out)
  forest-built begin text out built = record {
    sink = built.sink;
    gives = is_its built.sink out built.gives;
    state = built.state;
    is = built.is;
    same = built.same;
    rises = built.rises;
  }

  -- what was built of a text is its page
  pub page-made : (rules : Rules) (table : List Row) (exact : Bool) (opts : TokenizerOpts) (setting : Setting) (f : Forest)
      (bytes : List ℕ) (out : O)
      → opts ≡ record default_opts { exact_errors = exact } → setting ≡ setting_by rules → f ≡ empty_forest → IsUtf8 bytes
      → IsBuilt Sink (of_document table opts setting f) (chars bytes) out → IsPageBy rules table exact bytes (forest_of out)
  page-made rules table exact opts setting f bytes out opts_is setting_is forest_is text built =
      let made = forest-built (of_document table opts setting f) (chars bytes) out built in
      let all = subst (λ (cs : List ℕ). IsBuilt (forest_sink Sink) (of_document table opts setting f) cs
      (forest_of out)) (sym (append-nil (chars bytes))) made in
      let read = document-made (forest_sink Sink) rules table exact opts setting f (Some bytes) (Some []) bytes []
      (forest_of out) (λ sink is. is) opts_is setting_is forest_is refl text
      (ap (λ (bs : List ℕ). Some bs) (sym (append-nil bytes))) refl all bytes refl in
      record { document = read.input; counts = read.counts }

-- what was built of a text in a new element is its fragment
pub fragment-made : {K H : Type 0} (Sink : TreeGhosts K H Forest)
    → ((sink : K) (out : Forest) → Sink.finish_gives sink out → out ≡ Sink.forest sink) → (rules : Rules) (table : List Row)
    (opts : TokenizerOpts) (setting : Setting) (f : Forest) (name : QualName) (attrs : List Attribute) (text : List ℕ) (out : Forest)
    → opts ≡ fragment_opts rules → setting ≡ setting_by rules → f ≡ empty_forest → attrs ≡ []
    → IsBuilt Sink (of_new_context table opts setting name attrs true f) text out → IsFragmentBy rules table name text out
fragment-made Sink gives rules table opts setting f name attrs text out opts_is setting_is forest_is none built =
    let made =
    subst (λ (g : Forest). IsBuilt Sink (of_new_context table (fragment_opts rules) (setting_by rules) name [] true g) text out) forest_is
    (subst (λ (s : Setting). IsBuilt Sink (of_new_context table (fragment_opts rules) s name [] true f) text out) setting_is
    (subst (λ (o : TokenizerOpts). IsBuilt Sink (of_new_context table o setting name [] true f) text out) opts_is
    (subst (λ (none' : List Attribute). IsBuilt Sink (of_new_context table opts setting name none' true f) text out) none built))) in
    record { state = made.state; read = made.is; tree = ap (with_errors 0) (gives made.sink out made.gives) ∙ made.same }
