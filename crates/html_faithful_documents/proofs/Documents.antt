-- The written text of a faithful document is read as that document.
use lib.Utf8.{scalars}
use Rattle.std.proofs.Common.{◌≡◌, ◌∙◌, ℕ, Bool, true, false, List, [], ◌∷◌, ◌++◌, Option, Some, None, refl}
use Rattle.std.proofs.Common.{sym, ap, subst}
use Rattle.std.proofs.Common.{append-nil, true≢false, Result, Ok}
use Rattle.std.proofs.Common.{encode_utf8_all}
use Rattle.std.proofs.lemmas.Str.{chars-encodes}
use Rattle.std.proofs.lemmas.Bool.{and_parts}
use Rattle.std.specs.Prelude.{IfSome, IsOk, codes}
use Rattle.std.specs.Str.{bytes_eq}
use Rattle.markup.specs.Equality.{texts_by_value}
use Rattle.markup.specs.Escape.{escape, start_tag, written_comment, written_doctype, written_instruction}
use Rattle.markup.specs.Calls.{Call, EndElem, StartElem, WriteComment, WriteDoctype, WriteProcessingInstruction, WriteText}
use Rattle.markup.specs.Calls.{calls_before, calls_of}
use Rattle.markup.specs.Forest as forest
use Rattle.markup.specs.Forest.{Forest, Last, children_of, empty_forest, one_more, put_new}
use Rattle.markup.specs.Named.{IsTree}
use Rattle.markup.specs.Trees.{Trees, Nothing, Text, Comment, ProcessingInstruction, Doctype, Element, default_entry, end_of}
use Rattle.markup.specs.Trees.{entry_under, trees_of, written}
use Rattle.markup.specs.declared.quirks.QuirksMode.TheVariants.{NoQuirks, Quirks}
use Rattle.markup.specs.declared.attributes.Attribute.{Attribute}
use Rattle.markup.specs.declared.names.QualName.{QualName}
use Rattle.markup.proofs.Forests.{IsForest-empty}
use Rattle.markup.proofs.PutTexts.{IsParent-document}
use Rattle.markup.proofs.TemplateContents.{HasContents-empty}
use Rattle.markup.proofs.Trees.{IsTree-same_nodes}
use Rattle.html_rules.specs.Actions.{set_ignore_lf, set_mode, set_quirks_mode}
use Rattle.html_rules.specs.Documents.{Setting, before_document, document}
use Rattle.html_rules.specs.Doctypes.{doctype_error, quirks_of, quirky_public_prefixes}
use Rattle.html_rules.specs.ForeignContent.{is_foreign}
use Rattle.html_rules.specs.Places.{append_comment_to_doc, append_doctype_to_document}
use Rattle.html_rules.specs.Rules.{Finished, Settled, Turn, four_for_each, rows, settle, settled_by, turn_of, using_rules_for, within}
use Rattle.html_rules.specs.State.{Answers, State, hushed}
use Rattle.html_rules.specs.Step.{ended, taken, untouched}
use Rattle.html_rules.specs.declared.insertion_mode.InsertionMode.{InsertionMode}
use Rattle.html_rules.specs.declared.insertion_mode.InsertionMode.TheVariants as mode
use Rattle.html_rules.specs.declared.rules.Rules.{Rules}
use Rattle.html_rules.specs.declared.rules.Rules.TheVariants.{Html5ever, Standard}
use Rattle.html_rules_laws.proofs.Progress.Texts.{each-text}
use Rattle.html_rules_laws.proofs.Progress.UsableTokens.{states-usable, usable-unhushed}
use Rattle.html_tokens.specs.Laws.{ReadsEscapes, in_data}
use Rattle.html_tokens.specs.NormalText.{newlines_after, normal_text, without_mark}
use Rattle.html_tokens.specs.Reading.{◌>>=◌, first_place, line_number, next_stand, reading_from}
use Rattle.html_tokens.specs.declared.replies.TokenSinkResult.TheVariants.{Continue}
use Rattle.html_tokens.specs.Sink.{Refusal, Reply}
use Rattle.html_tokens.specs.Table.{Row}
use Rattle.html_tokens.specs.declared.options.TokenizerOpts.{TokenizerOpts}
use Rattle.html_tokens.specs.declared.token.Token.TheVariants.{CommentToken, EOFToken}
use Rattle.html_tokens.proofs.NewlineLaws.{newlines-own}
use Rattle.html_round_trip.specs.Slices.Forms.{has_no_return}
use Rattle.html_faithful.specs.Begins.{before_html, beginning}
use Rattle.html_faithful.specs.Faces.{Face}
use Rattle.html_faithful.specs.Forms.{is_comment_text}
use Rattle.html_faithful.specs.Inside.{trees_taken}
use Rattle.html_faithful.specs.Planted.{AreAllPlanted, missed_forest, missed_setting}
use Rattle.html_faithful.specs.Planting.{ArePlantable, planted}
use Rattle.html_faithful.specs.Spots.{Spot, setting_of}
use Rattle.html_faithful.specs.Waiting.{Still, Untyped}
use Rattle.html_faithful.specs.Walk.{OfDocument, is_at_end, is_end_mode, is_faithful_by, walk}
use Rattle.html_faithful.proofs.Around.{Ready}
use Rattle.html_faithful.proofs.Begins.{begins, document-planted, untyped-planted, untyped-ready}
use Rattle.html_faithful.proofs.Planting.{new-keeps, planted-shown}
use Rattle.html_faithful.proofs.Turns.{first-turn, turn-at_mode}
use Rattle.html_faithful_documents.specs.Documents.{AreBytesReadBack, IsReadBack, as_told, document_trees, text_of, told_quirks}
use Rattle.html_faithful_documents.specs.Forms.{doctype_token}
use Rattle.html_faithful_documents.specs.Reads.{Reads, ReadsInData, read}
use Rattle.html_faithful_documents.specs.Written.{AreForms}
use Rattle.html_faithful_documents.proofs.Dressed.{dressed, planted-dressed, trees-dressed}
use Rattle.html_faithful_documents.proofs.Forms.{forms-told}
use Rattle.html_faithful_documents.proofs.Reading.{reads-comment, reads-token, step-taken}
use Rattle.html_faithful_documents.proofs.Returns.{comment-returns, joined as no-returns, trees-return}
use Rattle.html_faithful_documents.proofs.Trees.{and-so, data-then, trees-read}
use Rattle.html_faithful_documents.proofs.Written.{walked-forms}

-- THE END

end-mode : (m : InsertionMode) (s : State) → is_end_mode m ≡ true → using_rules_for 4 m EOFToken s ≡ turn_of s (Finished false)
unfolding using_rules_for rows
end-mode mode.AfterAfterBody s h = refl
end-mode mode.AfterAfterFrameset s h = refl
end-mode m s h = absurd (true≢false (sym h))

end-foreign : (s : State) → is_foreign s EOFToken ≡ false
unfolding is_foreign
end-foreign s = refl

-- after the end of `html` the end of the text changes nothing
end-taken : (s : State) → is_end_mode s.mode ≡ true → (taken EOFToken s).state ≡ set_ignore_lf false s
unfolding taken settle set_ignore_lf
end-taken s h =
    let r = set_ignore_lf false s in
    let beyond = four_for_each r.open_elems EOFToken in
    ap (λ (x : Settled). x.state) (first-turn 15 beyond EOFToken r)
    ∙ ap (λ (made : Turn). (settled_by (within 15 beyond EOFToken) made.ends EOFToken made.state).state)
    (turn-at_mode EOFToken r (end-foreign r) ∙ end-mode r.mode r h)

end-read : (rows : List Row) (last : Option (List ℕ)) (n : ℕ) (s : State) → IsOk (read rows (in_data last) n (hushed s) [])
    → read rows (in_data last) n (hushed s) [] ≡ Ok (ended (hushed (taken EOFToken s).state))
unfolding reading_from
end-read rows last n s ok =
    let go = λ (p : State × Reply). let r : Result State Refusal = Ok (ended p.0) in r in
    ap (λ r. r >>= go) (step-taken EOFToken s (line_number n) go refl ok)

-- WHAT COMES BEFORE

doctype-taken : (rules : Rules) (scripting : Bool) (answers : Answers) (f : Forest)
    → (taken doctype_token (before_document (setting_of rules scripting answers) f)).state
    ≡ before_html (setting_of rules scripting answers)
    (dressed NoQuirks f.errors (put_new f (Last 0) (forest.NodeData.Doctype (codes "html") [] [])))
unfolding taken set_ignore_lf set_mode set_quirks_mode append_doctype_to_document quirks_of doctype_error quirky_public_prefixes
doctype-taken Html5ever scripting answers f = refl
doctype-taken Standard scripting answers f = refl

doctype-replied : (rules : Rules) (scripting : Bool) (answers : Answers) (f : Forest)
    → (taken doctype_token (before_document (setting_of rules scripting answers) f)).reply ≡ Continue
unfolding taken set_ignore_lf
doctype-replied Html5ever scripting answers f = refl
doctype-replied Standard scripting answers f = refl

comment-initial : (setting : Setting) (f : Forest) (text : List ℕ)
    → using_rules_for 4 mode.Initial (CommentToken text) (before_document setting f)
    ≡ turn_of (before_document setting (put_new f (Last 0) (forest.NodeData.Comment text))) (Finished false)
unfolding using_rules_for rows append_comment_to_doc
comment-initial setting f text = refl

nothing-foreign : (setting : Setting) (f : Forest) (text : List ℕ) → is_foreign (before_document setting f) (CommentToken text) ≡ false
unfolding is_foreign
nothing-foreign setting f text = refl

comment-taken : (setting : Setting) (f : Forest) (text : List ℕ)
    → (taken (CommentToken text) (before_document setting f)).state ≡ before_document setting
    (put_new f (Last 0) (forest.NodeData.Comment text))
unfolding taken settle set_ignore_lf
comment-taken setting f text =
    let s = before_document setting f in
    let t = CommentToken text in
    let beyond = four_for_each s.open_elems t in
    ap (λ (x : Settled). x.state) (first-turn 15 beyond t s)
    ∙ ap (λ (made : Turn). (settled_by (within 15 beyond t) made.ends t made.state).state)
    (turn-at_mode t s (nothing-foreign setting f text) ∙ comment-initial setting f text)

-- A DOCUMENT

as-told-same : (trees : Trees) → AreForms trees → as_told trees ≡ trees
as-told-same Nothing f = refl
as-told-same (Text text rest) f = ap (λ r. Text text r) (as-told-same rest f.2)
as-told-same (Comment text rest) f = ap (λ r. Comment text r) (as-told-same rest f.1)
as-told-same (ProcessingInstruction target text rest) f = absurd f
as-told-same (Doctype name public_id system_id rest) f = absurd f
as-told-same (Element name attributes template kids rest) f = ap (λ r. Element name attributes template kids r) (as-told-same rest f.3)

-- what is read of a document before the end of the text
record IsDocumentRead (rows : List Row) (rules : Rules) (scripting : Bool) (answers : Answers) (f : Forest) (trees : Trees) : Type 0 where
  left : State
  errors : ℕ
  reads : ReadsInData rows (before_document (setting_of rules scripting answers) f) (text_of scripting trees) left
  over : is_end_mode left.mode ≡ true
  tree : left.forest ≡ dressed (told_quirks trees) errors (planted (Last 0) (as_told trees) f)
  plantable : ArePlantable false (as_told trees)
  no_return : has_no_return (text_of scripting trees) ≡ true

record HasEnd (o : Option Spot) (P : Spot → Type 0) : Type 0 where
  after : Spot
  holds : P after
  over : is_end_mode after.mode ≡ true

some-end : (o : Option Spot) (P : Spot → Type 0) → is_at_end o ≡ true → IfSome o P → HasEnd o P
some-end None P h k = absurd (true≢false (sym h))
some-end (Some after) P h k = record { after = after; holds = k; over = h }

told-written : (scripting : Bool) (trees : Trees) → text_of scripting (as_told trees) ≡ text_of scripting trees
unfolding written
told-written scripting Nothing = refl
told-written scripting (Text text rest) = ap (λ w. escape text ++ w) (told-written scripting rest)
told-written scripting (Comment text rest) = ap (λ w. written_comment text ++ w) (told-written scripting rest)
told-written scripting (ProcessingInstruction target text rest) = ap (λ w. written_instruction target text ++ w)
    (told-written scripting rest)
told-written scripting (Doctype name public_id system_id rest) = ap (λ w. written_doctype name ++ w) (told-written scripting rest)
told-written scripting (Element name attributes template kids rest) =
    let own = entry_under scripting default_entry name in
    ap (λ w. start_tag name.local attributes ++ (written scripting own kids ++ (end_of own name ++ w))) (told-written scripting rest)

told-calls : (trees : Trees) (calls : List Call) → calls_before (as_told trees) calls ≡ calls_before trees calls
told-calls Nothing calls = refl
told-calls (Text text rest) calls = ap (λ r. WriteText text ∷ r) (told-calls rest calls)
told-calls (Comment text rest) calls = ap (λ r. WriteComment text ∷ r) (told-calls rest calls)
told-calls (ProcessingInstruction target text rest) calls = ap (λ r. WriteProcessingInstruction target text ∷ r) (told-calls rest calls)
told-calls (Doctype name public_id system_id rest) calls = ap (λ r. WriteDoctype name ∷ r) (told-calls rest calls)
told-calls (Element name attributes template kids rest) calls =
    ap (λ r. StartElem name attributes ∷ calls_before kids (EndElem name ∷ r)) (told-calls rest calls)

module _ (rows : List Row) (reads : ReadsEscapes rows) (rules : Rules) (scripting : Bool) (answers : Answers) where
  abbrev setting : Setting
  setting = setting_of rules scripting answers

  abbrev Read : Forest → Trees → Type 0
  Read f trees = IsDocumentRead rows rules scripting answers f trees

  abbrev doctype_node : forest.NodeData
  doctype_node = forest.NodeData.Doctype (codes "html") [] []

  -- after a doctype
  module _ (f : Forest) (tree : IsTree f) (rest : Trees) where
    abbrev typed : Forest
    typed = put_new f (Last 0) doctype_node

    abbrev here : Forest
    here = dressed NoQuirks f.errors typed

    typed-tree : IsTree here
    typed-tree = IsTree-same_nodes typed NoQuirks f.errors
        (new-keeps f 0 doctype_node tree (IsParent-document f tree.forest) (record { contents = refl; template = refl; name = refl })).tree

    abbrev left : State
    left = (trees_taken rest (untouched (before_html setting here))).state

    abbrev Whole : Spot → Type 0
    Whole after =
        AreAllPlanted rest here (trees_taken rest (untouched (before_html setting here))) after
        × (ReadsInData rows (before_html setting here) (text_of scripting rest) left × AreForms rest)

    rest-read : IfSome (walk scripting OfDocument false false rest (beginning setting)) Whole
    rest-read =
        let o = walk scripting OfDocument false false rest (beginning setting) in
        let s = before_html setting here in
        let now : Ready OfDocument 0 (untouched s) Still s (beginning setting) = record {
          between = refl;
          still = refl;
          here = begins setting here refl;
          done = refl;
          tree = typed-tree;
          at = IsParent-document here typed-tree.forest;
          is = refl;
        } in
        and-so o (λ after. AreAllPlanted rest here (trees_taken rest (untouched s)) after)
        (λ after. ReadsInData rows s (text_of scripting rest) left × AreForms rest)
        (document-planted scripting setting here rest refl typed-tree)
        (and-so o (λ after. ReadsInData rows s (text_of scripting rest) left) (λ after. AreForms rest)
        (trees-read rows reads scripting OfDocument rest 0 false false (untouched s) Still s (beginning setting) now refl (λ e. refl) refl)
        (walked-forms scripting rest OfDocument false false (beginning setting)))

    doctype-goes : ReadsInData rows (before_document setting f) (written_doctype (codes "html")) (before_html setting here)
    unfolding taken
    doctype-goes = λ last. record {
      last_tag = last;
      reads = subst (λ s. Reads rows (in_data last) (before_document setting f) (written_doctype (codes "html")) (in_data last) s)
          (doctype-taken rules scripting answers f)
          (subst (λ r. Reads rows (in_data last) (before_document setting f) (written_doctype (codes "html"))
          (next_stand (in_data last) r) (taken doctype_token (before_document setting f)).state)
          (doctype-replied rules scripting answers f)
          (reads-token rows (in_data last) (in_data last) (before_document setting f) (written_doctype (codes "html")) doctype_token
          ((forms-told rows reads).doctype last) refl));
    }

    doctype-read : (public_id system_id : List ℕ)
        → is_at_end (walk scripting OfDocument false false rest (beginning setting)) ≡ true
        → Read f (Doctype (codes "html") public_id system_id rest)
    unfolding written
    doctype-read public_id system_id h =
        let e = some-end (walk scripting OfDocument false false rest (beginning setting)) Whole h rest-read in
        let planted_all = e.holds.0 in
        let same = as-told-same rest e.holds.1.1 in
        record {
          left = left;
          errors = f.errors;
          reads = data-then rows (before_document setting f) (before_html setting here) left (written_doctype (codes "html"))
              (text_of scripting rest) doctype-goes e.holds.1.0;
          over = ap (λ (face : Face). is_end_mode face.mode) planted_all.now.looks ∙ e.over;
          tree = planted_all.tree ∙ (planted-dressed NoQuirks f.errors (Last 0) rest typed
              ∙ ap (λ trees. dressed NoQuirks f.errors (planted (Last 0) trees typed)) (sym same));
          plantable = subst (ArePlantable false) (sym same) planted_all.are_plantable;
          no_return = trees-return scripting default_entry rest e.holds.1.1;
        }

  -- without a doctype
  untyped-read : (f : Forest) → IsTree f → (name : QualName) (attributes : List Attribute) (template : Bool) (kids rest : Trees)
      → is_at_end (walk scripting OfDocument false false (Element name attributes template kids rest)
      (beginning (missed_setting setting))) ≡ true
      → Read f (Element name attributes template kids rest)
  untyped-read f tree name attributes template kids rest h =
      let trees = Element name attributes template kids rest in
      let p = beginning (missed_setting setting) in
      let o = walk scripting OfDocument false false trees p in
      let s = before_document setting f in
      let left = trees_taken trees (untouched s) in
      let P = λ (after : Spot). AreAllPlanted trees (missed_forest f) left after in
      let Q = λ (after : Spot). ReadsInData rows s (text_of scripting trees) left.state in
      let all = and-so o P (λ after. Q after × AreForms trees) (untyped-planted scripting setting f trees refl tree refl)
      (and-so o Q (λ after. AreForms trees)
      (trees-read rows reads scripting OfDocument trees 0 false false (untouched s) Untyped
      (before_html (missed_setting setting) (missed_forest f)) p
      (untyped-ready setting f refl tree) refl (λ e. refl) refl)
      (walked-forms scripting trees OfDocument false false p)) in
      let e = some-end o (λ after. P after × (Q after × AreForms trees)) h all in
      let same = as-told-same trees e.holds.1.1 in
      record {
        left = left.state;
        errors = one_more f.errors;
        reads = e.holds.1.0;
        over = ap (λ (face : Face). is_end_mode face.mode) e.holds.0.now.looks ∙ e.over;
        tree = e.holds.0.tree ∙ (planted-dressed Quirks (one_more f.errors) (Last 0) trees f
            ∙ ap (λ trees. dressed Quirks (one_more f.errors) (planted (Last 0) trees f)) (sym same));
        plantable = subst (ArePlantable false) (sym same) e.holds.0.are_plantable;
        no_return = trees-return scripting default_entry trees e.holds.1.1;
      }

  comment-goes : (f : Forest) (text : List ℕ) → is_comment_text text ≡ true
      → ReadsInData rows (before_document setting f) (written_comment text)
      (before_document setting (put_new f (Last 0) (forest.NodeData.Comment text)))
  comment-goes f text h = λ last. record {
    last_tag = last;
    reads = subst (λ s. Reads rows (in_data last) (before_document setting f) (written_comment text) (in_data last) s)
        (comment-taken setting f text)
        (reads-comment rows (in_data last) (in_data last) (before_document setting f) (written_comment text) text
        ((forms-told rows reads).comment last text h));
  }

  read-document : (trees : Trees) (f : Forest) → IsTree f → is_faithful_by rules scripting trees ≡ true → Read f trees
  unfolding is_faithful_by written
  read-document (Comment text rest) f tree h =
      let p = and_parts (is_comment_text text) (is_faithful_by rules scripting rest) h in
      let g = put_new f (Last 0) (forest.NodeData.Comment text) in
      let kept = new-keeps f 0 (forest.NodeData.Comment text) tree (IsParent-document f tree.forest)
      (record { contents = refl; template = refl; name = refl }) in
      let more = read-document rest g kept.tree p.1 in
      record {
        left = more.left;
        errors = more.errors;
        reads = data-then rows (before_document setting f) (before_document setting g) more.left (written_comment text)
            (text_of scripting rest) (comment-goes f text p.0) more.reads;
        over = more.over;
        tree = more.tree;
        plantable = more.plantable;
        no_return = no-returns (written_comment text) (text_of scripting rest) (comment-returns text p.0) more.no_return;
      }
  read-document (Doctype name public_id system_id rest) f tree h =
      let p = and_parts (bytes_eq name (codes "html")) (is_at_end (walk scripting OfDocument false false rest (beginning setting))) h in
      subst (λ name. Read f (Doctype name public_id system_id rest)) (sym ((texts_by_value name (codes "html")).0 p.0))
      (doctype-read f tree rest public_id system_id p.1)
  read-document Nothing f tree h = absurd (true≢false (sym h))
  read-document (Text text rest) f tree h = absurd (true≢false (sym h))
  read-document (ProcessingInstruction target text rest) f tree h = absurd (true≢false (sym h))
  read-document (Element name attributes template kids rest) f tree h = untyped-read f tree name attributes template kids rest h

  -- what is written begins with "<", so that no byte order mark is dropped
  marked-by : (b : Bool) (t : List ℕ) → without_mark b (60 ∷ t) ≡ 60 ∷ t
  marked-by true t = refl
  marked-by false t = refl

  no-mark : (trees : Trees) (b : Bool) → is_faithful_by rules scripting trees ≡ true
      → without_mark b (text_of scripting trees) ≡ text_of scripting trees
  unfolding is_faithful_by written
  no-mark (Comment text rest) b h = marked-by b _
  no-mark (Doctype name public_id system_id rest) b h = marked-by b _
  no-mark Nothing b h = absurd (true≢false (sym h))
  no-mark (Text text rest) b h = absurd (true≢false (sym h))
  no-mark (ProcessingInstruction target text rest) b h = absurd (true≢false (sym h))
  no-mark (Element name attributes template kids rest) b h = marked-by b _

  empty-tree : IsTree empty_forest
  empty-tree = record { forest = IsForest-empty; contents = HasContents-empty }

  module _ (opts : TokenizerOpts) (initial : opts.initial_state ≡ None) (trees : Trees)
      (faithful : is_faithful_by rules scripting trees ≡ true) where
    abbrev text : List ℕ
    text = text_of scripting trees

    abbrev begun : State
    begun = before_document setting empty_forest

    abbrev last : Option (List ℕ)
    last = opts.last_start_tag_name

    whole : Read empty_forest trees
    whole = read-document trees empty_forest empty-tree faithful

    as-read : document rows opts setting empty_forest text ≡ read rows (in_data last) 0 (hushed begun) text
    as-read =
        let normal : normal_text opts.discard_bom text ≡ text =
        ap (newlines_after false) (no-mark trees opts.discard_bom faithful) ∙ newlines-own text whole.no_return in
        ap (λ o. read rows (record { place = first_place o; last_start_tag = last }) 0 (hushed begun)
        (normal_text opts.discard_bom text)) initial
        ∙ ap (read rows (in_data last) 0 (hushed begun)) normal

    is-ok : IsOk (read rows (in_data last) 0 (hushed begun) (text ++ []))
    is-ok = subst IsOk (as-read ∙ ap (read rows (in_data last) 0 (hushed begun)) (sym (append-nil text)))
        (each-text.document rows opts setting empty_forest empty-tree refl text)

    abbrev final : State
    final = ended (hushed (set_ignore_lf false whole.left))

    gives : document rows opts setting empty_forest text ≡ Ok final
    gives =
        let usable = usable-unhushed begun (states-usable.document setting empty_forest empty-tree refl) in
        let on = whole.reads last in
        let r = on.reads usable 0 [] is-ok in
        as-read
        ∙ (ap (read rows (in_data last) 0 (hushed begun)) (sym (append-nil text))
        ∙ (r.is
        ∙ (end-read rows on.last_tag r.behind whole.left (subst IsOk r.is is-ok)
        ∙ ap (λ s. let done : Result State Refusal = Ok (ended (hushed s)) in done) (end-taken whole.left whole.over))))

    abbrev grown : Forest
    grown = planted (Last 0) (as_told trees) empty_forest

    final-tree : final.forest ≡ dressed (told_quirks trees) 0 grown
    unfolding ended set_ignore_lf
    final-tree = ap (λ (f : Forest). record f { errors = 0 }) whole.tree

    grown-tree : IsTree grown
    grown-tree =
        (planted-shown (as_told trees) 0 empty_forest empty-tree
        (IsParent-document empty_forest IsForest-empty) whole.plantable refl).0.tree

    final-shows : document_trees final.forest ≡ as_told trees
    final-shows =
        let shown = planted-shown (as_told trees) 0 empty_forest empty-tree
        (IsParent-document empty_forest IsForest-empty) whole.plantable refl in
        ap document_trees final-tree
        ∙ (trees-dressed (told_quirks trees) 0 grown (children_of grown 0)
        ∙ (ap (trees_of grown) shown.1.1.children ∙ shown.1.2))

    read-back : IsReadBack rows opts rules answers scripting trees
    read-back = record {
      tree = subst IsTree (sym final-tree) (IsTree-same_nodes grown (told_quirks trees) 0 grown-tree);
      told = ap calls_of final-shows ∙ told-calls trees [];
      left = final;
      gives = gives;
      shows = final-shows;
      quirks = ap (λ (f : Forest). f.quirks) final-tree;
      written_again = ap (text_of scripting) final-shows ∙ told-written scripting trees;
    }

pub trees-read_back : (rows : List Row) → ReadsEscapes rows → (opts : TokenizerOpts) → opts.initial_state ≡ None
    → (rules : Rules) (answers : Answers) (scripting : Bool) (trees : Trees) → is_faithful_by rules scripting trees ≡ true → IsReadBack rows opts rules answers scripting trees
trees-read_back rows reads opts initial rules answers scripting trees faithful = read-back rows reads rules scripting answers opts initial trees
    faithful

pub bytes-read_back : (rows : List Row) → ReadsEscapes rows → (opts : TokenizerOpts) → opts.initial_state ≡ None
    → (rules : Rules) (answers : Answers) (scripting : Bool) (trees : Trees) → is_faithful_by rules scripting trees ≡ true → scalars (text_of scripting trees) ≡ true
    → AreBytesReadBack rows opts rules answers scripting trees (encode_utf8_all (text_of scripting trees))
bytes-read_back rows reads opts initial rules answers scripting trees faithful are =
    let read = trees-read_back rows reads opts initial rules answers scripting trees faithful in
    record {
      utf8 = (text_of scripting trees, (are, refl));
      text = chars-encodes (text_of scripting trees) are;
      read = read;
      same_bytes = ap encode_utf8_all read.written_again;
    }
