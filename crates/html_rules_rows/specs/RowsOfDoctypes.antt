-- Worked rows: which doctypes are errors, and the quirks modes that they set.
use Rattle.std.specs.Prelude.{◌≡◌, ℕ, Bool, true, false, List, [], ◌∷◌, map, Option}
use Rattle.html_tokens.specs.RowForms.{no, yes}
use Rattle.html_tokens.specs.declared.token.Doctype.{Doctype}
use Rattle.markup.specs.declared.quirks.QuirksMode.{QuirksMode}
use Rattle.markup.specs.declared.quirks.QuirksMode.TheVariants.{Quirks, LimitedQuirks, NoQuirks}
use Rattle.html_rules.specs.Doctypes.{doctype_error, quirks_of}
use Rattle.html_rules.specs.declared.rules.Rules.TheVariants.{Html5ever}

-- a doctype, whether it is an error, and the mode that it sets
pub record DoctypeRow : Type 0 where
  pub doctype : Doctype
  pub error : Bool
  pub quirks : QuirksMode

-- by name, public and system identifier
abbrev doctype : Option (List ℕ) → Option (List ℕ) → Option (List ℕ) → Bool → QuirksMode → DoctypeRow
doctype name public_id system_id error quirks =
    record {
      doctype = record { name = name; public_id = public_id; system_id = system_id; force_quirks = false };
      error = error;
      quirks = quirks;
    }

abbrev forced : DoctypeRow → DoctypeRow
forced r = record r { doctype = record r.doctype { force_quirks = true } }

abbrev pub doctype_rows : List DoctypeRow
doctype_rows =
    doctype (yes "html") no no false NoQuirks
    ∷ doctype (yes "html") no (yes "about:legacy-compat") false NoQuirks
    ∷ doctype (yes "html") no (yes "x") true NoQuirks
    ∷ doctype (yes "html") (yes "x") no true NoQuirks
    ∷ doctype (yes "htm") no no true Quirks
    ∷ doctype no no no true Quirks
    ∷ forced (doctype (yes "html") no no false Quirks)
    -- old doctypes that are no errors
    ∷ doctype (yes "html") (yes "-//W3C//DTD HTML 4.0//EN") no false NoQuirks
    ∷ doctype (yes "html") (yes "-//W3C//DTD HTML 4.0//EN") (yes "http://www.w3.org/TR/REC-html40/strict.dtd") false NoQuirks
    ∷ doctype (yes "html") (yes "-//W3C//DTD HTML 4.01//EN") (yes "http://www.w3.org/TR/html4/strict.dtd") false NoQuirks
    ∷ doctype (yes "html") (yes "-//W3C//DTD XHTML 1.0 Strict//EN") (yes "http://www.w3.org/TR/xhtml1/DTD/xhtml1-strict.dtd") false NoQuirks
    ∷ doctype (yes "html") (yes "-//W3C//DTD XHTML 1.0 Strict//EN") no true NoQuirks
    ∷ doctype (yes "html") (yes "-//W3C//DTD XHTML 1.1//EN") (yes "http://www.w3.org/TR/xhtml11/DTD/xhtml11.dtd") false NoQuirks
    -- identifiers in any case
    ∷ doctype (yes "html") (yes "-//W3O//DTD W3 HTML Strict 3.0//EN//") no true Quirks
    ∷ doctype (yes "html") (yes "-/W3C/DTD HTML 4.0 Transitional/EN") no true Quirks
    ∷ doctype (yes "html") (yes "HTML") no true Quirks
    ∷ doctype (yes "html") no (yes "HTTP://www.ibm.com/data/dtd/v11/ibmxhtml1-transitional.dtd") true Quirks
    -- by what a public identifier begins with
    ∷ doctype (yes "html") (yes "-//IETF//DTD HTML//EN") no true Quirks
    ∷ doctype (yes "html") (yes "-//IETF//DTD HTML 3.2//") no true Quirks
    ∷ doctype (yes "html") (yes "-//IETF//DTD HTML 3.3//") no true NoQuirks
    ∷ doctype (yes "html") (yes "-//WebTechs//DTD Mozilla HTML 2.0//x") no true Quirks
    ∷ doctype (yes "html") (yes "-//W3C//DTD XHTML 1.0 Frameset//EN") no true LimitedQuirks
    ∷ doctype (yes "html") (yes "-//W3C//DTD XHTML 1.0 Transitional//EN") (yes "x") true LimitedQuirks
    ∷ doctype (yes "html") (yes "-//W3C//DTD HTML 4.01 Transitional//EN") no true Quirks
    ∷ doctype (yes "html") (yes "-//W3C//DTD HTML 4.01 Transitional//EN") (yes "http://www.w3.org/TR/html4/loose.dtd") true LimitedQuirks
    ∷ doctype (yes "html") (yes "-//W3C//DTD HTML 4.01 Frameset//EN") no true Quirks
    ∷ doctype (yes "html") (yes "-//W3C//DTD HTML 4.01 Frameset//EN") (yes "") true LimitedQuirks
    ∷ []

abbrev pub AreDoctypeRowsRead : Type 0
AreDoctypeRowsRead =
    (map (λ r. doctype_error r.doctype) doctype_rows ≡ map (λ r. r.error) doctype_rows)
    × (map (λ r. quirks_of Html5ever false r.doctype) doctype_rows ≡ map (λ r. r.quirks) doctype_rows)
