-- A reading and the rules together: "text" is a mode of raw text alone (HTML Standard, sections 13.2.5.2 to 13.2.5.4 and 13.2.6.4.8).
use Rattle.std.specs.Prelude.{◌≡◌, ℕ, Bool, true, false, List, Option, Some, None, IfSome, Ok, codes}
use Rattle.markup.specs.Forest.{Forest, above_of, data_of, element_name}
use Rattle.markup.specs.Named.{IsTree}
use Rattle.html_tokens.specs.Item.{TextPlace, InRaw, InTag, Stand}
use Rattle.html_tokens.specs.Items.{item}
use Rattle.html_tokens.specs.Reading.{next_stand, said}
use Rattle.html_tokens.specs.Sink.{Reply}
use Rattle.html_tokens.specs.Table.{Row}
use Rattle.html_tokens.specs.declared.options.TokenizerOpts.{TokenizerOpts}
use Rattle.html_rules.specs.Documents.{Setting, before_document, before_fragment, stand_of, tokenizer_state, form_of_context}
use Rattle.html_rules.specs.ForeignContent.{asks_cdata, is_end_tag}
use Rattle.html_rules.specs.Names.{Html, element_name_of}
use Rattle.html_rules.specs.Shape.{is_fit}
use Rattle.html_rules.specs.State.{Open, State, current_is, hushed, is_named}
use Rattle.html_rules.specs.Step.{step}
use Rattle.html_rules.specs.declared.insertion_mode.InsertionMode.TheVariants.{Text}
use Rattle.html_rules_laws.specs.Soundness.{IsOwn}

-- raw text, and inside of an end tag
abbrev pub is_raw_place : TextPlace → Bool
is_raw_place (InRaw kind) = true
is_raw_place (InTag tag) = is_end_tag tag.kind
is_raw_place p = false

-- Where a reading stands and the state that the rules have made of all before, item by item from where a document or a fragment begins,
-- over a tree with the document on top, with whatever options and whatever text.
pub data Met (table : List Row) : Stand → State → Type 0 where
  document : (opts : TokenizerOpts) (setting : Setting) (f : Forest) → IsTree f → above_of f 0 ≡ None
      → Met table (stand_of opts) (hushed (before_document setting f))
  fragment : (opts : TokenizerOpts) (setting : Setting) (context : Open) (form : Option ℕ) (scripting : Bool)
      (f : Forest) → IsTree f → above_of f 0 ≡ None → IsOwn context.namespace
      → IfSome (form_of_context setting.opts.rules context form) (λ n. element_name (data_of f n) ≡ Some (element_name_of Html (codes "form")))
      → Met table (stand_of (record opts { initial_state = Some (tokenizer_state context scripting) }))
      (hushed (before_fragment setting context form f))
  behind : (st : Stand) (s r : State) (c : ℕ) (t : List ℕ) (breaks : ℕ) (reply : Reply) → Met table st s
      → said step (λ fault s. s) (item table (asks_cdata s) st c t).fault (item table (asks_cdata s) st c t).token
      breaks s ≡ Ok (r, reply) → Met table (next_stand (item table (asks_cdata s) st c t).next reply) r

-- the current node is HTML's of the name of the last start tag
abbrev pub is_last_opened : Option (List ℕ) → List Open → Bool
is_last_opened None xs = false
is_last_opened (Some name) xs = current_is (is_named name) xs

-- Up to the end of the input the state fits its mode, and the mode is "text" only where raw text is read, or an end tag in it, and the last
-- start tag is that of the current node.
pub record IsJoint (st : Stand) (s : State) : Type 0 where
  pub going : s.has_ended ≡ false
  pub fits : is_fit s ≡ true
  pub raw : s.mode ≡ Text → is_raw_place st.place ≡ true
  pub named : s.mode ≡ Text → is_last_opened st.last_start_tag s.open_elems ≡ true

abbrev pub AreJoint : Type 0
AreJoint = (table : List Row) (st : Stand) (s : State) → Met table st s → IsJoint st s
