-- Each form of the plain grammar is read as its subtree.
use Rattle.std.proofs.Common.{◌≡◌, Bool, true, false, List, refl}
use Rattle.markup.specs.Trees.{Trees, Nothing, Text, Comment, ProcessingInstruction, Doctype, Element}
use Rattle.html_plain.specs.Elements.{holds}
use Rattle.html_plain.specs.Grammar.{IsPlain}
use Rattle.html_plain.specs.declared.elements.CellKind.{CellKind}
use Rattle.html_plain.specs.declared.elements.Format.{Format}
use Rattle.html_plain.specs.declared.elements.Level.{Level}
use Rattle.html_plain.specs.declared.elements.ListKind.{ListKind}
use Rattle.html_plain.specs.declared.elements.PlainElement.{PlainElement}
use Rattle.html_plain.specs.declared.elements.PlainElement.TheVariants.{Paragraph, Heading, Division, List as ListElement, Item}
use Rattle.html_plain.specs.declared.elements.PlainElement.TheVariants.{Table, TableBody, Row, Cell, Break, Formatted, Link}
use Rattle.html_plain.specs.declared.place.PlainPlace.{PlainPlace}
use Rattle.html_plain.specs.declared.place.PlainPlace.TheVariants.{InBreak, InFlow, InLine, InList, InRow, InTable, InTableBody}
use Rattle.html_round_trip.proofs.Planting.PlainTrees.{plain-plantable}
use Rattle.html_tokens.specs.Laws.{ReadsEscapes}
use Rattle.html_tokens.specs.Table.{Row as TableRow}
use Rattle.html_round_trip.specs.ReadBack.Forms.{AreBlocksRead, AreInlinesRead, AreTablesRead, AreTextsRead, IsFormRead}
use Rattle.html_round_trip.proofs.ReadBack.Entries.{link-left}
use Rattle.html_round_trip.proofs.ReadBack.Flow.{bare-no_link, block-law, break-law, format-law, heading-law, item-law}
use Rattle.html_round_trip.proofs.ReadBack.Flow.{link-law, lists-formatted, takes-division, takes-list, text-flows}
use Rattle.html_round_trip.proofs.ReadBack.Tables.{cell-law, row-law, table-law, table_body-law, text-part}
use Rattle.html_round_trip.proofs.ReadBack.Texts.{white-not_null}

pub nothing-in_break : (b : Bool) (trees : Trees) → IsPlain InBreak b trees → trees ≡ Nothing
nothing-in_break b Nothing h = refl
nothing-in_break b (Text text rest) h = absurd (let no = h.2 in cc)
nothing-in_break b (Comment text rest) h = absurd (let no = h.0 in cc)
nothing-in_break b (ProcessingInstruction target text rest) h = absurd h
nothing-in_break b (Doctype name public_id system_id rest) h = absurd (let no = h.0 in cc)
nothing-in_break b (Element name attributes template kids rest) h = absurd (let no = h.1.2 in cc)

module _ (rows : List TableRow) (reads : ReadsEscapes rows) where
  paragraph-form : IsFormRead rows InFlow Paragraph
  paragraph-form sc o head attrs kids plain is law = block-law rows reads sc o head Paragraph refl refl refl attrs
      plain kids (plain-plantable (InLine false) false kids is) (InLine false) (λ b n stack takes. tt) bare-no_link law

  heading-form : (level : Level) → IsFormRead rows InFlow (Heading level)
  heading-form level sc o head attrs kids plain is law = heading-law rows reads sc o head level attrs plain kids
      (plain-plantable (InLine false) false kids is) law

  division-form : IsFormRead rows InFlow Division
  division-form sc o head attrs kids plain is law = block-law rows reads sc o head Division refl refl refl attrs
      plain kids (plain-plantable InFlow false kids is) InFlow takes-division (λ es bare. bare) law

  list-form : (kind : ListKind) → IsFormRead rows InFlow (ListElement kind)
  list-form kind sc o head attrs kids plain is law = block-law rows reads sc o head (ListElement kind) refl refl
      refl attrs plain kids (plain-plantable InList false kids is) InList (takes-list kind) (λ es bare. bare) law

  item-form : IsFormRead rows InList Item
  item-form sc o head attrs kids plain is law = item-law rows reads sc o head attrs plain kids (plain-plantable InFlow false kids is) law

  pub blocks-read : AreBlocksRead rows
  blocks-read = record { paragraph = paragraph-form; heading = heading-form; division = division-form; list = list-form; item = item-form }

  break-form : IsFormRead rows InFlow Break
  break-form sc o head attrs kids plain is law = break-law rows reads sc o head InFlow attrs plain kids (nothing-in_break false kids is)

  break-form_in_line : (in_link : Bool) → IsFormRead rows (InLine in_link) Break
  break-form_in_line in_link sc o head attrs kids plain is law = break-law rows reads sc o head (InLine in_link)
      attrs plain kids (nothing-in_break false kids is)

  format-form : (format : Format) → IsFormRead rows InFlow (Formatted format)
  format-form format sc o head attrs kids plain is law =
      format-law rows reads sc o head (Formatted format) refl refl refl attrs plain kids
      (plain-plantable (InLine false) false kids is) InFlow false law
      (λ m es room less bare. lists-formatted rows reads sc o head (Formatted format) refl attrs m room
      (link-left es room less (bare-no_link es bare)))

  format-form_in_line : (in_link : Bool) (format : Format) → IsFormRead rows (InLine in_link) (Formatted format)
  format-form_in_line true format sc o head attrs kids plain is law =
      format-law rows reads sc o head (Formatted format) refl refl refl attrs plain kids
      (plain-plantable (InLine true) false kids is) (InLine true) true law (λ m es room less none. tt)
  format-form_in_line false format sc o head attrs kids plain is law =
      format-law rows reads sc o head (Formatted format) refl refl refl attrs plain kids
      (plain-plantable (InLine false) false kids is) (InLine false) false law
      (λ m es room less none. lists-formatted rows reads sc o head (Formatted format) refl attrs m room (link-left es room less none))

  link-form : IsFormRead rows InFlow Link
  link-form sc o head attrs kids plain is law = link-law rows reads sc o head attrs plain kids
      (plain-plantable (InLine true) false kids is) InFlow law bare-no_link

  link-form_in_line : IsFormRead rows (InLine false) Link
  link-form_in_line sc o head attrs kids plain is law = link-law rows reads sc o head attrs plain kids
      (plain-plantable (InLine true) false kids is) (InLine false) law (λ es none. none)

  pub inlines-read : AreInlinesRead rows
  inlines-read = record {
    break = break-form;
    break_in_line = break-form_in_line;
    format = format-form;
    format_in_line = format-form_in_line;
    link = link-form;
    link_in_line = link-form_in_line;
  }

  table-form : IsFormRead rows InFlow Table
  table-form sc o head attrs kids plain is law = table-law rows reads sc o head attrs plain kids (plain-plantable InTable false kids is) law

  table_body-form : IsFormRead rows InTable TableBody
  table_body-form sc o head attrs kids plain is law = table_body-law rows reads sc o head attrs plain kids
      (plain-plantable InTableBody false kids is) law

  row-form : IsFormRead rows InTableBody Row
  row-form sc o head attrs kids plain is law = row-law rows reads sc o head attrs plain kids (plain-plantable InRow false kids is) law

  cell-form : (kind : CellKind) → IsFormRead rows InRow (Cell kind)
  cell-form kind sc o head attrs kids plain is law = cell-law rows reads sc o head kind attrs plain kids
      (plain-plantable InFlow false kids is) law

  pub tables-read : AreTablesRead rows
  tables-read = record { table = table-form; table_body = table_body-form; row = row-form; cell = cell-form }

  pub texts-read_there : AreTextsRead rows
  texts-read_there = record {
    flow = λ o head place b n top os last f es ok text shown good fits. text-flows rows reads false o head place b n
        top os last f es ok text shown good fits;
    part = λ o head part n os last f es ok waiting text good rooted white more. text-part rows reads false o head
        part n os last f es ok waiting text (white-not_null text more) good rooted white more;
  }

  -- EACH ELEMENT WHERE IT MAY STAND

  in-flow : (k : PlainElement) → holds InFlow k ≡ true → IsFormRead rows InFlow k
  in-flow Paragraph h = paragraph-form
  in-flow (Heading level) h = heading-form level
  in-flow Division h = division-form
  in-flow (ListElement kind) h = list-form kind
  in-flow Table h = table-form
  in-flow Break h = break-form
  in-flow (Formatted format) h = format-form format
  in-flow Link h = link-form
  in-flow k h = absurd (cc)

  in-line : (in_link : Bool) (k : PlainElement) → holds (InLine in_link) k ≡ true → IsFormRead rows (InLine in_link) k
  in-line in_link Break h = break-form_in_line in_link
  in-line in_link (Formatted format) h = format-form_in_line in_link format
  in-line false Link h = link-form_in_line
  in-line in_link k h = absurd (cc)

  in-list : (k : PlainElement) → holds InList k ≡ true → IsFormRead rows InList k
  in-list Item h = item-form
  in-list k h = absurd (cc)

  in-table : (k : PlainElement) → holds InTable k ≡ true → IsFormRead rows InTable k
  in-table TableBody h = table_body-form
  in-table k h = absurd (cc)

  in-table_body : (k : PlainElement) → holds InTableBody k ≡ true → IsFormRead rows InTableBody k
  in-table_body Row h = row-form
  in-table_body k h = absurd (cc)

  in-row : (k : PlainElement) → holds InRow k ≡ true → IsFormRead rows InRow k
  in-row (Cell kind) h = cell-form kind
  in-row k h = absurd (cc)

  pub form : (place : PlainPlace) (k : PlainElement) → holds place k ≡ true → IsFormRead rows place k
  form InFlow k h = in-flow k h
  form (InLine in_link) k h = in-line in_link k h
  form InList k h = in-list k h
  form InTable k h = in-table k h
  form InTableBody k h = in-table_body k h
  form InRow k h = in-row k h
  form place k h = λ sc o head attrs kids plain is law. tt
