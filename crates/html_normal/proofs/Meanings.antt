-- What was read, parsed and written, as one.
use Rattle.std.proofs.Common.{◌≡◌, ◌∙◌, ℕ, ◌+◌, ◌≤◌, Bool, true, false, cond, List, [], ◌++◌, length, take, arith, rules, sym}
use Rattle.std.proofs.Common.{ap, subst, Option, Some, None, Result, Ok, Err, inr, IsUtf8, encode_utf8_all}
use Rattle.std.specs.Prelude.{IsErr, IsOk, min}
use Rattle.std.specs.Io.KnownBytes.{IsAtEnd, append_known, prepend_known}
use Rattle.std.specs.Str.{chars}
use Rattle.std.proofs.lemmas.Bool.{and_from}
use Rattle.std.proofs.lemmas.List.{append-nil}
use Rattle.devices.specs.Devices.{count_after}
use Rattle.markup.specs.Forest.{Forest, children_of, data_of, empty_forest, template_of}
use Rattle.markup.specs.Forest.NodeData.{Document}
use Rattle.markup.specs.TreeLaws.{with_errors}
use Rattle.markup.specs.Trees.{default_entry, trees_of, written}
use Rattle.markup.specs.declared.fault.ParseFault.{ParseFault}
use Rattle.markup.specs.declared.fault.ParseFault.TheVariants as parse
use Rattle.markup.specs.declared.quirks.QuirksMode.{QuirksMode}
use Rattle.markup.specs.declared.serializer.SerializeFault.{SerializeFault}
use Rattle.markup.specs.declared.serializer.SerializeFault.TheVariants as serial
use Rattle.markup.specs.declared.serializer.TraversalScope.TheVariants.{ChildrenOnly}
use Rattle.markup.specs.declared.tree_sink.TreeSink.{Ghosts as TreeGhosts}
use Rattle.html_forest.specs.Walk.{walked}
use Rattle.html_input.proofs.Whole.{all-read}
use Rattle.html_parser.specs.Documents.{IsBuilt, builder, of_document}
use Rattle.html_parser.specs.Read.{Beginning, FailsAfter, HasRead, IsRefusedAfter, IsTaken, RisesTo, owed_by, read_whole}
use Rattle.html_plain.specs.Grammar.{is_plain_forest}
use Rattle.html_rules.specs.Documents.{Setting}
use Rattle.html_serialize.specs.Puts.{WriterView, with_bytes}
use Rattle.html_serialize.specs.Serializing.{Writes, bytes_in}
use Rattle.html_serialize.specs.declared.opts.SerializeOpts.{SerializeOpts}
use Rattle.html_tokens.specs.Table.{Row}
use Rattle.html_tokens.specs.declared.options.TokenizerOpts.{TokenizerOpts}
use Rattle.html_tokens.specs.declared.sink.TokenSink.{Ghosts}
use Rattle.html_tokenizer.specs.declared.tokenizer.Tokenizer.{Tokenizer}
use Rattle.html_rules.specs.declared.rules.Rules.{Rules}
use Rattle.html_rules.specs.declared.rules.Rules.TheVariants.{Html5ever}
use Rattle.html_normal.specs.Document.{CountsErrorsBy, default_opts, document_bytes, emitted_characters, faults_by}
use Rattle.html_normal.specs.Document.{is_free_of_emitted, is_quiet_by, setting_by}
use Rattle.html_normal.specs.Faults.{fault_of, write_fault_of}
use Rattle.html_normal.specs.Normal.{CountsReads, IsBegunBy, IsFailedBy, IsInputFault, IsNormalised, IsNormalisedBy, IsReadBy}
use Rattle.html_normal.specs.Normal.{is_write_fault}
use Rattle.html_normal.specs.declared.fault.NormalFault.{NormalFault}
use Rattle.html_normal.specs.declared.fault.NormalFault.TheVariants.{NotUtf8, Read, Write, Memory, Refused}
use Rattle.html_normal.specs.declared.report.Report.{Report}
use Rattle.html_normal.proofs.Again.{plain-normal}
use Rattle.html_normal.proofs.SameTrees.{bytes-same, plain-same}

-- READING

ok-or-err : {A E : Type 0} (x : Result A E) → IsOk x → IsErr x → ⊥
ok-or-err (Ok x) ok err = absurd (search rules)
ok-or-err (Err e) ok err = absurd (search rules)

-- where no text is refused, none was
pub none-refused : {K H : Type 0} (Sink : Ghosts K H) (begin : Beginning Sink.State) (k : Tokenizer K)
    → HasRead Sink begin [] k → IsTaken Sink begin
    → ((b : Beginning Sink.State) (before : List ℕ) → HasRead Sink b before k → IsRefusedAfter Sink b before) → ⊥
none-refused Sink begin k read taken refuses =
    let there = refuses begin [] read in
    ok-or-err (read_whole Sink begin there.behind) (taken there.behind) there.is

pub not-refused : (refused : Type 0) (fault : NormalFault) (old new : Option (List ℕ)) → (refused → ⊥)
    → IsInputFault refused old new fault → IsInputFault ⊥ old new fault
not-refused refused (NotUtf8 at) old new never is = is
not-refused refused Read old new never is = is
not-refused refused Write old new never is = is
not-refused refused Memory old new never is = is
not-refused refused Refused old new never is = never is

-- a fault of the end
pub finish-fault : {K H : Type 0} (Sink : Ghosts K H) (fault : ParseFault) (old new : Option (List ℕ))
    (begin : Beginning Sink.State) (before : List ℕ) (k : Tokenizer K) → HasRead Sink begin before k
    → IsTaken Sink begin → FailsAfter Sink k fault
    → IsInputFault ⊥ old new (fault_of fault)
finish-fault Sink parse.Memory old new begin before k read taken fails = tt
finish-fault Sink parse.Failed old new begin before k read taken fails = tt
finish-fault Sink parse.TokenInText old new begin before k read taken fails = let there =
    fails.refused tt begin before read in ok-or-err (read_whole Sink begin (before ++ there.behind))
    (taken (before ++ there.behind)) there.is
finish-fault Sink parse.Ended old new begin before k read taken fails = let there =
    fails.refused tt begin before read in ok-or-err (read_whole Sink begin (before ++ there.behind))
    (taken (before ++ there.behind)) there.is
finish-fault Sink parse.Shape old new begin before k read taken fails = let there =
    fails.refused tt begin before read in ok-or-err (read_whole Sink begin (before ++ there.behind))
    (taken (before ++ there.behind)) there.is

-- how often a reader failed does not depend on what is answered else
pub counts-any : (T U : Type 0) (fault : NormalFault) (left left' : Option (List ℕ)) (failures failures' : Option ℕ)
    → CountsReads {T = T} (Err fault) left left' failures failures' → CountsReads {T = U} (Err fault) left left' failures failures'
counts-any T U (NotUtf8 at) left left' failures failures' is = is
counts-any T U Read left left' failures failures' is = is
counts-any T U Write left left' failures failures' is = is
counts-any T U Memory left left' failures failures' is = is
counts-any T U Refused left left' failures failures' is = is

-- options that are the default ones but for whether characters are told
abbrev pub opts_with : Bool → TokenizerOpts
opts_with exact = record default_opts { exact_errors = exact }

from-none : (m errors : ℕ) → min (0 + m) 0xffff_ffff_ffff_ffff ≤ errors → min m 0xffff_ffff_ffff_ffff ≤ errors
from-none m errors h = omega arith

-- the errors of a forest that was built count what its text owes
built-counts : {K H : Type 0} (Sink : TreeGhosts K H Forest) (rules : Rules) (table : List Row) (exact : Bool) (text : List ℕ)
    (errors : ℕ) → RisesTo (owed_by (builder Sink)
    (of_document table (opts_with exact) (setting_by rules) empty_forest) text) 0 errors → CountsErrorsBy rules table exact text errors
built-counts Sink rules table exact text errors r = record {
  enough = from-none (faults_by rules table text + emitted_characters exact text) errors r.enough;
  none = λ quiet free. r.stays (and_from (is_quiet_by rules table text) (is_free_of_emitted exact text) quiet free);
}

module _ {K H : Type 0} (Sink : TreeGhosts K H Forest) where
  -- how a document begins does not depend on how the parts of its beginning are named
  built-same : (rules : Rules) (table : List Row) (exact : Bool) (opts : TokenizerOpts) (setting : Setting) (f : Forest)
      (text waits : List ℕ) (out : Forest) → opts ≡ opts_with exact → setting ≡ setting_by rules → f ≡ empty_forest → waits ≡ []
      → IsBuilt Sink (of_document table opts setting f) (text ++ waits) out
      → IsBuilt Sink (of_document table (opts_with exact) (setting_by rules) empty_forest) text out
  built-same rules table exact opts setting f text waits out opts_is setting_is forest_is none built =
      subst (λ (g : Forest). IsBuilt Sink (of_document table (opts_with exact) (setting_by rules) g) text out) forest_is
      (subst (λ (s : Setting). IsBuilt Sink (of_document table (opts_with exact) s f) text out) setting_is
      (subst (λ (o : TokenizerOpts). IsBuilt Sink (of_document table o setting f) text out) opts_is
      (subst (λ (cs : List ℕ). IsBuilt Sink (of_document table opts setting f) cs out) (append-nil text)
      (subst (λ (cs : List ℕ). IsBuilt Sink (of_document table opts setting f) (text ++ cs) out) none built))))

  -- what was built of all that a reader had is its document
  pub document-made : (rules : Rules) (table : List Row) (exact : Bool) (opts : TokenizerOpts) (setting : Setting) (f : Forest)
      (old new : Option (List ℕ)) (bytes waits : List ℕ) (out : Forest)
      → ((sink : K) → Sink.finish_gives sink out → out ≡ Sink.forest sink) → opts ≡ opts_with exact
      → setting ≡ setting_by rules → f ≡ empty_forest → waits ≡ []
      → IsUtf8 bytes → old ≡ prepend_known bytes new → IsAtEnd new
      → IsBuilt Sink (of_document table opts setting f) (chars bytes ++ waits) out
      → (whole : List ℕ) → old ≡ Some whole → IsReadBy rules table exact whole new (with_errors 0 out) out.errors
  document-made rules table exact opts setting f old new bytes waits out gives opts_is setting_is forest_is none text moved end built
      whole told =
      let every = all-read old new bytes whole moved end told in
      let made = built-same rules table exact opts setting f (chars bytes) waits out opts_is setting_is forest_is none built in
      let of_all = subst (λ (bs : List ℕ). IsBuilt Sink
      (of_document table (opts_with exact) (setting_by rules) empty_forest) (chars bs) out) every.same made in
      let is = gives of_all.sink of_all.gives in
      record {
        input = record {
          text = subst IsUtf8 every.same text;
          state = of_all.state;
          read = of_all.is;
          tree = ap (with_errors 0) is ∙ of_all.same;
        };
        taken = every.taken;
        counts = built-counts Sink rules table exact (chars whole) out.errors
            (subst (λ (g : Forest). RisesTo
            (owed_by (builder Sink) (of_document table (opts_with exact) (setting_by rules) empty_forest)
            (chars whole)) 0 g.errors) (sym is) of_all.rises);
      }

-- WRITING

-- the bytes of what stands in the document
pub bytes-walked : (f : Forest) → data_of f 0 ≡ Document → bytes_in true (ChildrenOnly None)
    (walked f 0 (ChildrenOnly None)) ≡ document_bytes f
bytes-walked f is = ap (λ about. encode_utf8_all
    (written true default_entry (trees_of f (children_of f (cond (template_of about) 1 0))))) is

abbrev report_with : Bool → QuirksMode → ℕ → Report
report_with plain mode errors = record { plain = plain; quirks = mode; errors = errors }

-- the bytes that a serializer is to write, by what it was given
abbrev pub given_bytes : SerializeOpts → Forest → ℕ → List ℕ
given_bytes opts f id = bytes_in opts.scripting_enabled opts.traversal_scope (walked f id opts.traversal_scope)

-- a serializer was given the document, with default options
module _ (opts : SerializeOpts) (f g : Forest) (id : ℕ)
    (opts_is : opts ≡ record {
      scripting_enabled = true;
      traversal_scope = ChildrenOnly None;
      create_missing_parent = false;
    }) (id_is : id ≡ 0) (forest_is : f ≡ g) (top : data_of f 0 ≡ Document) where
  given_bytes-are : given_bytes opts f id ≡ document_bytes (with_errors 0 g)
  given_bytes-are =
      ap (λ (o : SerializeOpts). given_bytes o f id) opts_is
      ∙ ap (λ n. bytes_in true (ChildrenOnly None) (walked f n (ChildrenOnly None))) id_is
      ∙ bytes-walked f top ∙ ap document_bytes forest_is ∙ sym (bytes-same 0 g)

  -- the document was written, and the report is of it
  pub normalised : (rules : Rules) (table : List Row) (exact : Bool) (whole : List ℕ) (left : Option (List ℕ))
      (old new : WriterView) (plain : Bool) (mode : QuirksMode) (errors : ℕ)
      → IsReadBy rules table exact whole left (with_errors 0 g) g.errors → new ≡ with_bytes old (given_bytes opts f id)
      → plain ≡ is_plain_forest g → mode ≡ f.quirks → errors ≡ f.errors
      → IsNormalisedBy rules table exact whole left old.written new.written (report_with plain mode errors)
  normalised rules table exact whole left old new plain mode errors read wrote plain_is mode_is errors_is = record {
    document = with_errors 0 g;
    input = read.input;
    taken = read.taken;
    output = ap (λ (t : WriterView). t.written) wrote ∙ ap (append_known old.written) given_bytes-are;
    plain = plain_is ∙ sym (plain-same 0 g);
    quirks = mode_is ∙ ap (λ (h : Forest). h.quirks) forest_is;
    errors = subst (λ (n : ℕ). CountsErrorsBy rules table exact (chars whole) n)
        (sym (errors_is ∙ ap (λ (h : Forest). h.errors) forest_is)) read.counts;
  }

  begun : (rules : Rules) (table : List Row) (exact : Bool) (whole : List ℕ) (left old new : Option (List ℕ)) (count : ℕ)
      → IsReadBy rules table exact whole left (with_errors 0 g) g.errors → count ≤ length (given_bytes opts f id)
      → new ≡ append_known old (take count (given_bytes opts f id)) → IsBegunBy rules table whole old new
  begun rules table exact whole left old new count read within moved = record {
    document = with_errors 0 g;
    input = read.input;
    count = count;
    within = subst (λ (bs : List ℕ). count ≤ length bs) given_bytes-are within;
    output = moved ∙ ap (λ (bs : List ℕ). append_known old (take count bs)) given_bytes-are;
  }

  -- a fault of the serializer
  pub write-failed : (rules : Rules) (table : List Row) (exact : Bool) (fault : SerializeFault) (left left' : Option (List ℕ))
      (old new : WriterView)
      → ((whole : List ℕ) → left ≡ Some whole → IsReadBy rules table exact whole left' (with_errors 0 g) g.errors)
      → Writes {R = Unit {0}} (given_bytes opts f id) old (Err fault) new
      → IsFailedBy rules table left left' old.written new.written (write_fault_of fault)
  write-failed rules table exact serial.Write left left' old new read wrote =
      λ whole told. begun rules table exact whole left' old.written new.written wrote.count (read whole told) wrote.within wrote.written
  write-failed rules table exact serial.NoParent left left' old new read wrote = absurd wrote
  write-failed rules table exact serial.NoElemInfo left left' old new read wrote = absurd wrote
  write-failed rules table exact serial.Memory left left' old new read wrote =
      inr (λ whole told. begun rules table exact whole left' old.written new.written wrote.count (read whole told)
      wrote.within (ap (λ (t : WriterView). t.written) wrote.told))
  write-failed rules table exact serial.Failed left left' old new read wrote = absurd wrote

-- by html5ever's rules a plain document's text is read back
pub read-again : (table : List Row) (exact : Bool) (whole : List ℕ) (left old new : Option (List ℕ)) (report : Report)
    → IsNormalisedBy Html5ever table exact whole left old new report → IsNormalised table exact whole left old new report
read-again table exact whole left old new report n = record {
  document = n.document;
  input = n.input;
  taken = n.taken;
  output = n.output;
  plain = n.plain;
  quirks = n.quirks;
  errors = n.errors;
  again = λ is other reads. plain-normal other reads n.document (sym n.plain ∙ is);
}

-- how often the writer failed, where a serializer did
pub writes-counted : (T : Type 0) (fault : SerializeFault) (bytes : List ℕ) (old new : WriterView)
    → Writes {R = Unit {0}} bytes old (Err fault) new → new.failures ≡ count_after
    (is_write_fault {T = T} (Err (write_fault_of fault))) old.failures
writes-counted T serial.Write bytes old new wrote = wrote.failed
writes-counted T serial.NoParent bytes old new wrote = absurd wrote
writes-counted T serial.NoElemInfo bytes old new wrote = absurd wrote
writes-counted T serial.Memory bytes old new wrote = ap (λ (t : WriterView). t.failures) wrote.told
writes-counted T serial.Failed bytes old new wrote = absurd wrote

-- a serializer reads nothing
pub reads-counted : (T : Type 0) (fault : SerializeFault) (left left' : Option (List ℕ))
    (failures failures' : Option ℕ) → failures' ≡ failures → CountsReads {T = T} (Err (write_fault_of fault)) left left' failures failures'
reads-counted T serial.Write left left' failures failures' same = same
reads-counted T serial.NoParent left left' failures failures' same = same
reads-counted T serial.NoElemInfo left left' failures failures' same = same
reads-counted T serial.Memory left left' failures failures' same = same
reads-counted T serial.Failed left left' failures failures' same = same
