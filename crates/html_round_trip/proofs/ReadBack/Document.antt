-- The written text of a plain document is read as that document.
use Rattle.std.proofs.Common.{◌≡◌, ◌==◌, ◌∙◌, ℕ, ◌+◌, Bool, true, false, length, List, [], ◌∷◌, ◌++◌, Option, Some, None, Ok}
use Rattle.std.proofs.Common.{refl, sym, ap, append-nil, codes, subst, encode_utf8_all, Err, Result}
use Rattle.std.proofs.lemmas.Bool.{cond_both}
use Rattle.markup.specs.Escape.{end_tag, escape, start_tag, written_doctype}
use Rattle.std.specs.Str.{chars}
use Rattle.markup.specs.Forest as forest
use Rattle.markup.specs.Forest.{Forest, data_if, empty_forest, joined_text, node_count, previous_at, put_new, put_text, text_of as text_in}
use Rattle.markup.specs.Forest.Place.{Last}
use Rattle.markup.specs.Trees.{Trees, Nothing, Text, Comment, ProcessingInstruction, Doctype, Element, written}
use Rattle.markup.specs.declared.attributes.Attribute.{Attribute}
use Rattle.markup.specs.declared.quirks.QuirksMode.TheVariants.{NoQuirks}
use Rattle.markup.proofs.Forests.{IsForest-empty}
use Rattle.markup.proofs.PutTexts.{IsParent-document}
use Rattle.markup.proofs.TemplateContents.{HasContents-empty}
use Rattle.html_plain.specs.Elements.{html_name, spelled}
use Rattle.html_plain.specs.Frames.{Frame, IsPlainFrame, framed, text_before}
use Rattle.html_plain.specs.Grammar.{IsPlainDocument, is_plain_document, is_plain_forest}
use Rattle.html_plain.specs.Laws.{text_of}
use Rattle.html_plain.specs.declared.elements.PlainElement.TheVariants.{Html, Head, Body}
use Rattle.html_plain.specs.declared.place.PlainPlace.TheVariants.{BeforeDoctype, InFlow, InHead}
use Rattle.html_plain.proofs.Agreement.{computed-cases}
use Rattle.html_plain.proofs.Frames.{documents-framed}
use Rattle.html_plain.proofs.WrittenForms.{element-written}
use Rattle.html_round_trip.specs.Planting.Planted.{planted}
use Rattle.html_round_trip.proofs.Planting.PlainTrees.{document-walked, plain-plantable}
use Rattle.html_rules.specs.Actions.{set_ignore_lf}
use Rattle.html_rules.specs.Documents.{document}
use Rattle.html_rules.specs.ForeignContent.{asks_cdata}
use Rattle.html_rules.specs.Sets.{names_of}
use Rattle.html_rules.specs.Shape.{is_fit}
use Rattle.html_rules.specs.State.{State}
use Rattle.html_rules.specs.Step.{ended, is_quiet, step, taken}
use Rattle.html_rules.specs.declared.insertion_mode.InsertionMode.TheVariants as mode
use Rattle.html_round_trip.specs.Slices.Forms.{doctype_token, end_token, start_token}
use Rattle.html_round_trip.proofs.Slices.Readers.{are-readers}
use Rattle.html_round_trip.proofs.Slices.SpelledForms.{doctype-spelled}
use Rattle.html_tokens.specs.Clean.{clean_from, is_clean_reading}
use Rattle.html_tokens.specs.Item.{Stand}
use Rattle.html_tokens.specs.Laws.{ReadsEscapes, in_data}
use Rattle.html_tokens.specs.NormalText.{normal_text}
use Rattle.html_tokens.specs.Reading.{line_breaks, line_number, reading, reading_from}
use Rattle.html_tokens.specs.Sink.{Refusal}
use Rattle.html_tokens.specs.Table.{Row}
use Rattle.html_tokens.specs.Tags.{named}
use Rattle.html_tokens.specs.declared.replies.TokenSinkResult.TheVariants.{Continue}
use Rattle.html_tokens.specs.declared.tags.TagKind.TheVariants.{EndTag}
use Rattle.html_tokens.specs.declared.token.Token.TheVariants.{EOFToken}
use Rattle.html_tokens.proofs.CleanItems.{reading-clean}
use Rattle.html_round_trip.specs.ReadBack.Forms.{doctype_node}
use Rattle.html_round_trip.specs.ReadBack.Places.{IsGood}
use Rattle.html_round_trip.specs.ReadBack.ReadBack.{AreBytesReadAgain, IsSameAgain, default_opts, default_setting, IsReadAs}
use Rattle.html_round_trip.specs.ReadBack.ReadBack.{IsReadAgain, document_trees}
use Rattle.html_round_trip.specs.ReadBack.Runs as runs
use Rattle.html_round_trip.specs.ReadBack.Runs.{Reads, TakesQuietly}
use Rattle.html_round_trip.specs.ReadBack.States.{Around, at, element_node, opened, tag_of}
use Rattle.html_round_trip.proofs.ReadBack.Frame.{body-reads, end-reads, head-ends, head-reads, start-reads}
use Rattle.html_round_trip.proofs.ReadBack.Goods.{good-around, good-element, good-new, good-planted, good-text}
use Rattle.html_round_trip.proofs.ReadBack.Returns.{own-normal, trees-none}
use Rattle.html_round_trip.proofs.ReadBack.Scalars.{trees-utf8}
use Rattle.html_round_trip.proofs.ReadBack.Runs.{reader-reads, reads-both, reads-one}
use Rattle.html_round_trip.proofs.ReadBack.Taking.{end-takes, tag-once, takes-from}
use Rattle.html_round_trip.proofs.ReadBack.Turns.Frame.{doctype-taken, end-html, end-of_file, start-head, start-html}

good-empty : IsGood empty_forest 0
good-empty = record {
  tree = record { forest = IsForest-empty; contents = HasContents-empty };
  parent = IsParent-document empty_forest IsForest-empty;
  silent = refl;
}

good-doctype : (f : Forest) → IsGood f 0 → IsGood (put_new f (Last 0) doctype_node) 0
good-doctype f good = good-new f 0 doctype_node (record { contents = refl; template = refl; name = refl }) good

-- planting leaves the quirks mode
text-quirks : (f : Forest) (p : ℕ) (t : List ℕ) → (put_text f (Last p) t).quirks ≡ f.quirks
text-quirks f p t = cond_both (length t == 0) f
    (joined_text f (Last p) t (previous_at f (Last p)) (text_in (data_if f (previous_at f (Last p)))))
    (λ (g : Forest). g.quirks ≡ f.quirks) (λ e. refl)
    (λ e. by (previous_at f (Last p)) (text_in (data_if f (previous_at f (Last p))))) where
      by : (o : Option ℕ) (earlier : Option (List ℕ)) → (joined_text f (Last p) t o earlier).quirks ≡ f.quirks
      by None earlier = refl
      by (Some n) None = refl
      by (Some n) (Some earlier) = refl

planted-quirks : (trees : Trees) (p : ℕ) (f : Forest) → (planted trees p f).quirks ≡ f.quirks
planted-quirks Nothing p f = refl
planted-quirks (Text text rest) p f = planted-quirks rest p (put_text f (Last p) text) ∙ text-quirks f p text
planted-quirks (Comment text rest) p f = planted-quirks rest p (put_new f (Last p) (forest.NodeData.Comment text))
planted-quirks (ProcessingInstruction target text rest) p f = planted-quirks rest p
    (put_new f (Last p) (forest.NodeData.ProcessingInstruction target text))
planted-quirks (Doctype name public_id system_id rest) p f = planted-quirks rest p
    (put_new f (Last p) (forest.NodeData.Doctype name public_id system_id))
planted-quirks (Element name attributes template kids rest) p f =
    let g = put_new f (Last p) (forest.NodeData.Element name attributes template false) in
    planted-quirks rest p (planted kids (node_count f) g) ∙ planted-quirks kids (node_count f) g

-- white space, or none, and what follows it
space-text : (sc : Bool) (space : List ℕ) (rest : Trees) → text_of sc (text_before space rest) ≡ escape space ++ text_of sc rest
unfolding written
space-text sc [] rest = refl
space-text sc (c ∷ space) rest = refl

space-planted : (space : List ℕ) (rest : Trees) (n : ℕ) (f : Forest) → planted (text_before space rest) n
    f ≡ planted rest n (put_text f (Last n) space)
space-planted [] rest n f = refl
space-planted (c ∷ space) rest n f = refl

module _ (rows : List Row) (reads : ReadsEscapes rows) (sc : Bool) (o : Around) where
  -- what a text of a whole document is read to, before its end
  record WholeRead (f : Forest) (text : List ℕ) (g : Forest) : Type 0 where
    head : ℕ
    root : ℕ
    body : ℕ
    left : Option (List ℕ)
    frameset_ok : Bool
    runs : Reads rows (in_data None) (at o None mode.Initial f [] [] true) text (in_data left)
        (at o (Some head) mode.AfterAfterBody g (opened body Body ∷ opened root Html ∷ []) [] frameset_ok)

  pub doctype-takes : (f : Forest) → f.errors ≡ 0 → f.quirks ≡ NoQuirks
      → TakesQuietly rows (at o None mode.Initial f [] [] true) (doctype_token (codes "html"))
      (at o None mode.BeforeHtml (put_new f (Last 0) doctype_node) [] [] true) Continue
  unfolding is_fit taken set_ignore_lf
  doctype-takes f silent quirks = takes-from rows _ _ (doctype_token (codes "html")) Continue
      (record { goes_on = refl; fit = refl; free = refl; keeps_lf = refl; silent = silent }) refl
      (doctype-taken o f quirks) refl silent (λ pauses. refl)

  pub html-takes : (f : Forest) (attrs : List Attribute) → f.errors ≡ 0
      → TakesQuietly rows (at o None mode.BeforeHtml f [] [] true) (start_token (spelled Html) attrs)
      (at o None mode.BeforeHead (put_new f (Last 0) (element_node Html attrs)) (opened (node_count f) Html ∷ []) [] true) Continue
  unfolding is_fit
  html-takes f attrs silent = tag-once rows _ _ (tag_of Html attrs) false
      (record { goes_on = refl; fit = refl; free = refl; keeps_lf = refl; silent = silent }) refl (start-html o f attrs) silent

  pub head-takes : (f : Forest) (n : ℕ) (attrs : List Attribute) → f.errors ≡ 0
      → TakesQuietly rows (at o None mode.BeforeHead f (opened n Html ∷ []) [] true)
      (start_token (spelled Head) attrs)
      (at o (Some (node_count f)) mode.InHead (put_new f (Last n) (element_node Head attrs))
      (opened (node_count f) Head ∷ opened n Html ∷ []) [] true) Continue
  unfolding is_fit names_of
  head-takes f n attrs silent = tag-once rows _ _ (tag_of Head attrs) false
      (record { goes_on = refl; fit = refl; free = refl; keeps_lf = refl; silent = silent }) refl (start-head o f n attrs) silent

  pub html-ends : (hd n b : ℕ) (f : Forest) (ok : Bool) → f.errors ≡ 0
      → TakesQuietly rows (at o (Some hd) mode.AfterBody f (opened b Body ∷ opened n Html ∷ []) [] ok)
      (end_token (spelled Html)) (at o (Some hd) mode.AfterAfterBody f (opened b Body ∷ opened n Html ∷ []) [] ok) Continue
  unfolding is_fit names_of
  html-ends hd n b f ok silent = tag-once rows _ _ (named EndTag (spelled Html)) false
      (record { goes_on = refl; fit = refl; free = refl; keeps_lf = refl; silent = silent }) refl (end-html o (Some hd) f n b [] ok) silent

  file-ends : (hd n b : ℕ) (f : Forest) (ok : Bool) → f.errors ≡ 0 → let s = at o (Some hd) mode.AfterAfterBody f
      (opened b Body ∷ opened n Html ∷ []) [] ok in TakesQuietly rows s EOFToken s Continue
  unfolding is_fit names_of
  file-ends hd n b f ok silent = end-takes rows _ _ false
      (record { goes_on = refl; fit = refl; free = refl; keeps_lf = refl; silent = silent }) (end-of_file o (Some hd) f n b [] ok) silent

  -- what stands in `html`
  record RootRead (n : ℕ) (last : Option (List ℕ)) (f : Forest) (text : List ℕ) (g : Forest) : Type 0 where
    head : ℕ
    body : ℕ
    left : Option (List ℕ)
    frameset_ok : Bool
    runs : Reads rows (in_data last) (at o None mode.BeforeHead f (opened n Html ∷ []) [] true) text (in_data left)
        (at o (Some head) mode.AfterBody g (opened body Body ∷ opened n Html ∷ []) [] frameset_ok)

  -- the forest after the head
  abbrev head_forest : Frame → ℕ → Forest → Forest
  head_forest frame n f = planted frame.heads (node_count f) (put_new f (Last n) (element_node Head frame.head))

  abbrev body_forest : Frame → ℕ → Forest → Forest
  body_forest frame n f =
      let g = put_text (head_forest frame n f) (Last n) frame.space in
      planted frame.flow (node_count g) (put_new g (Last n) (element_node Body frame.body))

  abbrev body_text : Frame → List ℕ
  body_text frame = escape frame.space ++ (start_tag (spelled Body) frame.body ++ (text_of sc frame.flow ++ (end_tag (spelled Body) ++ [])))

  good-head : (frame : Frame) → IsPlainFrame frame → (n : ℕ) (f : Forest) → IsGood f n → IsGood (head_forest frame n f) n
  good-head frame plain n f good =
      good-planted frame.heads (node_count f) n (put_new f (Last n) (element_node Head frame.head)) false
      (plain-plantable InHead false frame.heads plain.heads) (good-element f n Head frame.head good)
      (good-around f n Head frame.head good).parent

  good-body : (frame : Frame) → IsPlainFrame frame → (n : ℕ) (f : Forest) → IsGood f n → IsGood (body_forest frame n f) n
  good-body frame plain n f good =
      let g = put_text (head_forest frame n f) (Last n) frame.space in
      let good_g = good-text (head_forest frame n f) n frame.space (good-head frame plain n f good) in
      good-planted frame.flow (node_count g) n (put_new g (Last n) (element_node Body frame.body)) false
      (plain-plantable InFlow false frame.flow plain.flow) (good-element g n Body frame.body good_g)
      (good-around g n Body frame.body good_g).parent

  root-reads : (frame : Frame) → IsPlainFrame frame → (n : ℕ) (last : Option (List ℕ)) (f : Forest) → IsGood f n
      → RootRead n last f (start_tag (spelled Head) frame.head
      ++ (text_of sc frame.heads ++ (end_tag (spelled Head) ++ body_text frame))) (body_forest frame n f)
  root-reads frame plain n last f good =
      let m = node_count f in
      let f₁ = put_new f (Last n) (element_node Head frame.head) in
      let f₂ = head_forest frame n f in
      let good₂ = good-head frame plain n f good in
      let heads = head-reads rows reads sc o m n m frame.heads false plain.heads (Some (spelled Head)) f₁
      (good-element f n Head frame.head good) in
      let body = body-reads rows reads sc o m n m frame.space plain.space frame.body plain.body frame.flow plain.flow heads.left f₂ good₂ in
      let g = put_text f₂ (Last n) frame.space in
      record {
        head = m;
        body = node_count g;
        left = body.left;
        frameset_ok = body.frameset_ok;
        runs =
            reads-both rows (in_data last) (in_data (Some (spelled Head))) (in_data body.left) _ _ _
            (start_tag (spelled Head) frame.head) _
            (start-reads rows reads sc o Head frame.head plain.head last _ _ (head-takes f n frame.head good.silent))
            (reads-both rows (in_data (Some (spelled Head))) (in_data heads.left) (in_data body.left) _ _ _
            (text_of sc frame.heads) _ heads.runs
            (reads-both rows (in_data heads.left) (in_data heads.left) (in_data body.left) _ _ _
            (end_tag (spelled Head)) _
            (end-reads rows reads sc o Head heads.left _ _ (head-ends rows reads sc o m n m f₂ good₂.silent)) body.runs));
      }

  -- THE WHOLE

  abbrev root_text : Frame → List ℕ
  root_text frame = start_tag (spelled Head) frame.head ++ (text_of sc frame.heads ++ (end_tag (spelled Head) ++ body_text frame))

  whole-text : (frame : Frame) → text_of sc (framed frame) ≡ written_doctype (codes "html")
      ++ (start_tag (spelled Html) frame.root ++ (root_text frame ++ (end_tag (spelled Html) ++ [])))
  unfolding written
  whole-text frame =
      let body = Element (html_name (spelled Body)) frame.body false frame.flow Nothing in
      let inner = Element (html_name (spelled Head)) frame.head false frame.heads (text_before frame.space body) in
      let e₁ : text_of sc body ≡ start_tag (spelled Body) frame.body
      ++ (text_of sc frame.flow ++ (end_tag (spelled Body) ++ [])) = element-written Body refl sc frame.body frame.flow Nothing in
      let e₂ : text_of sc (text_before frame.space body) ≡ body_text frame = space-text sc frame.space body
      ∙ ap (λ (t : List ℕ). escape frame.space ++ t) e₁ in
      let e₃ : text_of sc inner ≡ root_text frame = element-written Head refl sc frame.head frame.heads
      (text_before frame.space body) ∙ ap (λ (t : List ℕ). start_tag (spelled Head) frame.head
      ++ (text_of sc frame.heads ++ (end_tag (spelled Head) ++ t))) e₂ in
      ap (λ (t : List ℕ). written_doctype (codes "html") ++ t)
      (element-written Html refl sc frame.root inner Nothing
      ∙ ap (λ (t : List ℕ). start_tag (spelled Html) frame.root ++ (t ++ (end_tag (spelled Html) ++ []))) e₃)

  abbrev root_forest : Frame → Forest → Forest
  root_forest frame f = let f₁ = put_new f (Last 0) doctype_node in body_forest frame (node_count f₁)
      (put_new f₁ (Last 0) (element_node Html frame.root))

  whole-planted : (frame : Frame) (f : Forest) → planted (framed frame) 0 f ≡ root_forest frame f
  whole-planted frame f =
      let f₁ = put_new f (Last 0) doctype_node in
      let n = node_count f₁ in
      space-planted frame.space (Element (html_name (spelled Body)) frame.body false frame.flow Nothing) n
      (head_forest frame n (put_new f₁ (Last 0) (element_node Html frame.root)))

  whole-reads : (frame : Frame) → IsPlainFrame frame → (f : Forest) → IsGood f 0 → f.quirks ≡ NoQuirks
      → WholeRead f (text_of sc (framed frame)) (planted (framed frame) 0 f)
  whole-reads frame plain f good quirks =
      let f₁ = put_new f (Last 0) doctype_node in
      let good₁ = good-doctype f good in
      let n = node_count f₁ in
      let f₂ = put_new f₁ (Last 0) (element_node Html frame.root) in
      let good₂ = good-element f₁ 0 Html frame.root good₁ in
      let root = root-reads frame plain n (Some (spelled Html)) f₂ good₂ in
      let good₃ = good-body frame plain n f₂ good₂ in
      subst (λ t. WholeRead f t (planted (framed frame) 0 f)) (sym (whole-text frame))
      (subst (λ g. WholeRead f (written_doctype (codes "html")
      ++ (start_tag (spelled Html) frame.root ++ (root_text frame ++ (end_tag (spelled Html) ++ [])))) g)
      (sym (whole-planted frame f))
      record {
        head = root.head;
        root = n;
        body = root.body;
        left = root.left;
        frameset_ok = root.frameset_ok;
        runs =
            reads-both rows (in_data None) (in_data None) (in_data root.left) _ _ _ (written_doctype (codes "html")) _
            (reads-one rows (in_data None) (in_data None) _ _ (written_doctype (codes "html"))
            (doctype_token (codes "html")) Continue (doctype-spelled rows None) (doctype-takes f good.silent quirks))
            (reads-both rows (in_data None) (in_data (Some (spelled Html))) (in_data root.left) _ _ _
            (start_tag (spelled Html) frame.root) _
            (start-reads rows reads sc o Html frame.root plain.root None _ _ (html-takes f₁ frame.root good₁.silent))
            (reads-both rows (in_data (Some (spelled Html))) (in_data root.left) (in_data root.left) _ _ _ (root_text frame) _ root.runs
            (reads-both rows (in_data root.left) (in_data root.left) (in_data root.left) _ _ _
            (end_tag (spelled Html)) []
            (end-reads rows reads sc o Html root.left _ _
            (html-ends root.head n root.body (root_forest frame f) root.frameset_ok good₃.silent)) runs.NoText)));
      })

  -- BY EACH READER, WITH THE END

  whole-given : (f g : Forest) (text : List ℕ) (whole : WholeRead f text g) → g.errors ≡ 0
      → reading step (λ fault s. s) asks_cdata ended rows (in_data None) 0 (at o None mode.Initial f [] [] true) text
      ≡ Ok (ended (at o (Some whole.head) mode.AfterAfterBody g (opened whole.body Body ∷ opened whole.root Html ∷
      []) [] whole.frameset_ok))
  unfolding reading_from
  whole-given f g text whole silent =
      let s = at o (Some whole.head) mode.AfterAfterBody g (opened whole.body Body ∷ opened whole.root Html ∷ []) [] whole.frameset_ok in
      let read = λ (st : Stand) (breaks : ℕ) (s : State) (t : List ℕ). reading step (λ fault s. s) asks_cdata ended rows st breaks s t in
      let n = 0 + line_breaks text in
      let end = file-ends whole.head whole.root whole.body g whole.frameset_ok silent (line_number n) in
      ap (read (in_data None) 0 (at o None mode.Initial f [] [] true)) (sym (append-nil text))
      ∙ (reader-reads rows read ((are-readers step is_quiet asks_cdata ended rows).reads (λ fault s. s))
      (in_data None) (in_data whole.left) _ s text [] 0 whole.runs
      ∙ (rw end.gives refl))

  whole-clean : (f g : Forest) (text : List ℕ) (whole : WholeRead f text g) → g.errors ≡ 0
      → is_clean_reading step is_quiet asks_cdata rows (in_data None) 0 (at o None mode.Initial f [] [] true) text ≡ true
  unfolding clean_from
  whole-clean f g text whole silent =
      let s = at o (Some whole.head) mode.AfterAfterBody g (opened whole.body Body ∷ opened whole.root Html ∷ []) [] whole.frameset_ok in
      let read = λ (st : Stand) (breaks : ℕ) (s : State) (t : List ℕ). is_clean_reading step is_quiet asks_cdata rows st breaks s t in
      let n = 0 + line_breaks text in
      let end = file-ends whole.head whole.root whole.body g whole.frameset_ok silent (line_number n) in
      ap (read (in_data None) 0 (at o None mode.Initial f [] [] true)) (sym (append-nil text))
      ∙ (reader-reads rows read (are-readers step is_quiet asks_cdata ended rows).cleans (in_data None)
      (in_data whole.left) _ s text [] 0 whole.runs
      ∙ end.is_quiet)

  -- READ BACK

  abbrev last_state : (f g : Forest) (text : List ℕ) → WholeRead f text g → State
  last_state f g text whole =
      ended (at o (Some whole.head) mode.AfterAfterBody g (opened whole.body Body ∷ opened whole.root Html ∷ []) [] whole.frameset_ok)

  framed-back : (exact : Bool) (frame : Frame) → IsPlainFrame frame → IsPlainDocument (framed frame)
      → IsReadAs rows exact o (text_of sc (framed frame)) (framed frame)
  unfolding ended written
  framed-back exact frame plain is =
      let trees = framed frame in
      let g = planted trees 0 empty_forest in
      let text = text_of sc trees in
      let whole = whole-reads frame plain empty_forest good-empty refl in
      let good = good-planted trees 0 0 empty_forest false (plain-plantable BeforeDoctype false trees is) good-empty good-empty.parent in
      let own : normal_text true text ≡ text = own-normal true _ (trees-none sc trees BeforeDoctype false is) in
      let given : reading step (λ fault s. s) asks_cdata ended rows (in_data None) 0
      (at o None mode.Initial empty_forest [] [] true) (normal_text true text) ≡ Ok (last_state empty_forest g text whole) =
      ap (reading step (λ fault s. s) asks_cdata ended rows (in_data None) 0
      (at o None mode.Initial empty_forest [] [] true)) own ∙ whole-given empty_forest g text whole good.silent in
      let clean : is_clean_reading step is_quiet asks_cdata rows (in_data None) 0
      (at o None mode.Initial empty_forest [] [] true) (normal_text true text) ≡ true =
      ap (is_clean_reading step is_quiet asks_cdata rows (in_data None) 0
      (at o None mode.Initial empty_forest [] [] true)) own ∙ whole-clean empty_forest g text whole good.silent in
      let noted = reading-clean step is_quiet asks_cdata ended rows (in_data None) 0
      (at o None mode.Initial empty_forest [] [] true) (normal_text true text) clean in
      record {
        left = last_state empty_forest g text whole;
        gives = given;
        shows = document-walked trees is;
        no_quirks = refl;
        told_no_quirks = planted-quirks trees 0 empty_forest;
        quiet = clean;
        noted_quiet = noted.1;
        owes_none = noted.0;
      }

  pub document-back : (exact : Bool) (trees : Trees) → IsPlainDocument trees → IsReadAs rows exact o (text_of sc trees) trees
  document-back exact trees is =
      let made = documents-framed trees is in
      subst (λ t. IsReadAs rows exact o (text_of sc t) t) (sym made.1.0)
      (framed-back exact made.0 made.1.1 (subst IsPlainDocument made.1.0 is))

  pub forest-again : (exact : Bool) (f : Forest) → is_plain_forest f ≡ true → IsReadAgain rows exact o sc f
  forest-again exact f judged =
      let trees = document_trees f in
      let read = document-back exact trees (computed-cases BeforeDoctype false trees judged) in
      record {
        read = read;
        plain = ap is_plain_document read.shows ∙ judged;
        written = ap (text_of sc) read.shows;
      }

  -- the same by bytes
  pub bytes-again : (exact : Bool) (f : Forest) → is_plain_forest f ≡ true → AreBytesReadAgain rows exact o sc f
      (encode_utf8_all (text_of sc (document_trees f)))
  bytes-again exact f judged =
      let trees = document_trees f in
      let is = computed-cases BeforeDoctype false trees judged in
      let text = trees-utf8 sc trees BeforeDoctype false is in
      let read = subst (λ t. IsReadAs rows exact o t trees) (sym text.1) (document-back exact trees is) in
      record {
        utf8 = text.0;
        read = read;
        plain = ap is_plain_document read.shows ∙ judged;
        written = ap (λ t. encode_utf8_all (text_of sc t)) read.shows;
      }

  ok-same : (r : Result State Refusal) (s t : State) → r ≡ Ok s → r ≡ Ok t → s ≡ t
  ok-same (Ok x) s t h k = cc
  ok-same (Err e) s t h k = absurd (cc)

  -- what is read has one document
  pub bytes-stable : (exact : Bool) (f : Forest) → is_plain_forest f ≡ true → (left : State)
      → document rows (default_opts exact) (default_setting o) empty_forest
      (chars (encode_utf8_all (text_of sc (document_trees f)))) ≡ Ok left → IsSameAgain sc f left
  bytes-stable exact f judged left given =
      let again = bytes-again exact f judged in
      let same : again.read.left ≡ left =
      ok-same (document rows (default_opts exact) (default_setting o) empty_forest
      (chars (encode_utf8_all (text_of sc (document_trees f))))) again.read.left left again.read.gives given in
      subst (λ s. IsSameAgain sc f s) same record {
        trees = again.read.shows;
        plain = again.plain;
        no_quirks = again.read.told_no_quirks;
        bytes = again.written;
      }
