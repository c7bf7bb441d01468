-- What the rules make of each tag of a document's frame, and of the text of a head and of a title.
use Rattle.std.proofs.Common.{◌≡◌, ℕ, Bool, true, false, List, [], ◌∷◌, Option, Some, None, refl, ap, sym}
use Rattle.std.specs.Prelude.{codes}
use Rattle.markup.specs.Forest.{Forest, node_count, put_new, put_text}
use Rattle.markup.specs.Forest.Place.{Last}
use Rattle.markup.specs.declared.attributes.Attribute.{Attribute}
use Rattle.markup.specs.declared.quirks.QuirksMode.{QuirksMode}
use Rattle.markup.specs.declared.quirks.QuirksMode.TheVariants.{NoQuirks}
use Rattle.html_plain.specs.Elements.{spelled}
use Rattle.html_plain.specs.declared.elements.PlainElement.TheVariants.{Html, Head, Title, Body}
use Rattle.html_rules.specs.Actions.{restore_mode, frameset_not_ok, save_mode, set_head_elem, set_ignore_lf, set_mode, set_quirks_mode}
use Rattle.html_rules.specs.Doctypes.{doctype_error, quirks_of}
use Rattle.html_rules.specs.Encodings.{is_space}
use Rattle.html_rules.specs.ForeignContent.{is_foreign}
use Rattle.html_rules.specs.Places.{append_doctype_to_document, append_text, create_root}
use Rattle.html_rules.specs.Rules.{Finished, Replied, rows, turn, turn_of, using_rules_for}
use Rattle.html_rules.specs.Sets.{names_of}
use Rattle.html_rules.specs.Stack.{check_body_end, pop_but_root}
use Rattle.html_rules.specs.State.{Entry, Open, State}
use Rattle.html_rules.specs.Step.{taken}
use Rattle.html_rules.specs.declared.insertion_mode.InsertionMode.TheVariants as mode
use Rattle.html_round_trip.specs.Slices.Forms.{doctype_token, end_token, start_token}
use Rattle.html_tokens.specs.declared.replies.TokenSinkResult.TheVariants.{RawData}
use Rattle.html_tokens.specs.declared.states.RawKind.TheVariants.{Rcdata}
use Rattle.html_tokens.specs.declared.token.Token.TheVariants.{CharacterTokens, EOFToken}
use Rattle.html_round_trip.specs.ReadBack.Forms.{doctype_node}
use Rattle.html_round_trip.specs.ReadBack.States.{Around, at, element_node, opened, state}
use Rattle.html_round_trip.proofs.ReadBack.Words.{inserted}

-- the state in a title
abbrev pub in_title : Around → Option ℕ → Forest → List Open → State
in_title o head f stack = state o (record {
  mode = mode.Text;
  original = Some mode.InHead;
  head = head;
  forest = f;
  stack = stack;
  entries = [];
  frameset_ok = true;
  waiting = [];
})

quirks-same : (f : Forest) → f.quirks ≡ NoQuirks → record f { quirks = NoQuirks } ≡ f
quirks-same f e = ap (λ (q : QuirksMode). record f { quirks = q }) (sym e)

module _ (o : Around) where
  pub doctype-taken : (f : Forest) → f.quirks ≡ NoQuirks
      → (taken (doctype_token (codes "html")) (at o None mode.Initial f [] [] true)).state ≡ at o None
      mode.BeforeHtml (put_new f (Last 0) doctype_node) [] [] true
  unfolding taken set_ignore_lf set_mode set_quirks_mode doctype_error quirks_of append_doctype_to_document
  doctype-taken f e = ap (λ f. at o None mode.BeforeHtml f [] [] true) (quirks-same (put_new f (Last 0) doctype_node) e)

  pub start-html : (f : Forest) (attrs : List Attribute) → turn (start_token (spelled Html) attrs)
      (at o None mode.BeforeHtml f [] [] true) ≡ turn_of
      (at o None mode.BeforeHead (put_new f (Last 0) (element_node Html attrs)) (opened (node_count f) Html ∷ []) [] true) (Finished false)
  unfolding turn is_foreign using_rules_for rows names_of create_root set_mode
  start-html f attrs = refl

  pub start-head : (f : Forest) (n : ℕ) (attrs : List Attribute) → turn (start_token (spelled Head) attrs)
      (at o None mode.BeforeHead f (opened n Html ∷ []) [] true)
      ≡ turn_of (at o (Some (node_count f)) mode.InHead (put_new f (Last n) (element_node Head attrs))
      (opened (node_count f) Head ∷ opened n Html ∷ []) [] true) (Finished false)
  unfolding turn is_foreign using_rules_for rows names_of set_head_elem set_mode
  start-head f n attrs = ap (λ s. turn_of (set_mode mode.InHead (set_head_elem s)) (Finished false))
      (inserted o None mode.BeforeHead Head attrs n Html f [] [] true)

  module _ (head : Option ℕ) (f : Forest) (n m : ℕ) where
    pub space-in_head : (c : ℕ) → is_space c ≡ true → turn (CharacterTokens (c ∷ []))
        (at o head mode.InHead f (opened m Head ∷ opened n Html ∷ []) [] true) ≡ turn_of
        (append_text (c ∷ []) (at o head mode.InHead f (opened m Head ∷ opened n Html ∷ []) [] true)) (Finished false)
    unfolding turn is_foreign using_rules_for rows
    space-in_head c h = rw h refl

    pub space-after_head : (c : ℕ) → is_space c ≡ true → turn (CharacterTokens (c ∷ []))
        (at o head mode.AfterHead f (opened n Html ∷ []) [] true) ≡ turn_of
        (append_text (c ∷ []) (at o head mode.AfterHead f (opened n Html ∷ []) [] true)) (Finished false)
    unfolding turn is_foreign using_rules_for rows
    space-after_head c h = rw h refl

    pub start-title : (attrs : List Attribute) → turn (start_token (spelled Title) attrs)
        (at o head mode.InHead f (opened m Head ∷ opened n Html ∷ []) [] true)
        ≡ turn_of (in_title o head (put_new f (Last m) (element_node Title attrs))
        (opened (node_count f) Title ∷ opened m Head ∷ opened n Html ∷ [])) (Replied (RawData Rcdata))
    unfolding turn is_foreign using_rules_for rows names_of save_mode set_mode
    start-title attrs = ap (λ s. turn_of (set_mode mode.Text (save_mode s)) (Replied (RawData Rcdata)))
        (inserted o head mode.InHead Title attrs m Head f (opened n Html ∷ []) [] true)

    pub character-in_title : (t : ℕ) (c : ℕ) → turn (CharacterTokens (c ∷ []))
        (in_title o head f (opened t Title ∷ opened m Head ∷ opened n Html ∷ [])) ≡ turn_of
        (in_title o head (put_text f (Last t) (c ∷ [])) (opened t Title ∷ opened m Head ∷ opened n Html ∷ [])) (Finished false)
    unfolding turn is_foreign using_rules_for rows append_text names_of
    character-in_title t c = refl

    pub end-title : (t : ℕ) → turn (end_token (spelled Title))
        (in_title o head f (opened t Title ∷ opened m Head ∷ opened n Html ∷ [])) ≡ turn_of
        (at o head mode.InHead f (opened m Head ∷ opened n Html ∷ []) [] true) (Finished false)
    unfolding turn is_foreign using_rules_for rows names_of pop_but_root restore_mode
    end-title t = refl

    pub end-head : turn (end_token (spelled Head)) (at o head mode.InHead f (opened m Head ∷ opened n Html ∷ [])
        [] true) ≡ turn_of (at o head mode.AfterHead f (opened n Html ∷ []) [] true) (Finished false)
    unfolding turn is_foreign using_rules_for rows names_of pop_but_root set_mode
    end-head = refl

    pub start-body : (attrs : List Attribute) → turn (start_token (spelled Body) attrs)
        (at o head mode.AfterHead f (opened n Html ∷ []) [] true)
        ≡ turn_of (at o head mode.InBody (put_new f (Last n) (element_node Body attrs))
        (opened (node_count f) Body ∷ opened n Html ∷ []) [] false) (Finished false)
    unfolding turn is_foreign using_rules_for rows names_of frameset_not_ok set_mode
    start-body attrs = ap (λ s. turn_of (set_mode mode.InBody (frameset_not_ok s)) (Finished false))
        (inserted o head mode.AfterHead Body attrs n Html f [] [] true)

    pub end-body : (es : List Entry) (ok : Bool) → turn (end_token (spelled Body))
        (at o head mode.InBody f (opened m Body ∷ opened n Html ∷ []) es ok) ≡ turn_of
        (at o head mode.AfterBody f (opened m Body ∷ opened n Html ∷ []) es ok) (Finished false)
    unfolding turn is_foreign using_rules_for rows names_of check_body_end set_mode
    end-body es ok = refl

    pub end-html : (es : List Entry) (ok : Bool) → turn (end_token (spelled Html))
        (at o head mode.AfterBody f (opened m Body ∷ opened n Html ∷ []) es ok) ≡ turn_of
        (at o head mode.AfterAfterBody f (opened m Body ∷ opened n Html ∷ []) es ok) (Finished false)
    unfolding turn is_foreign using_rules_for rows names_of set_mode
    end-html es ok = refl

    pub end-of_file : (es : List Entry) (ok : Bool)
        → turn EOFToken (at o head mode.AfterAfterBody f (opened m Body ∷ opened n Html ∷ []) es ok) ≡ turn_of
        (at o head mode.AfterAfterBody f (opened m Body ∷ opened n Html ∷ []) es ok) (Finished false)
    unfolding turn is_foreign using_rules_for rows
    end-of_file es ok = refl
