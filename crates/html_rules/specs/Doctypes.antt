-- Which doctypes are errors, and the quirks mode that each sets (HTML Standard, section 13.2.6.4.1).
use Rattle.std.specs.Prelude.{ℕ, Bool, false, not, ◌&&◌, ◌||◌, map, List, [], ◌∷◌, Option, Some, None, is_none, codes}
use Rattle.std.specs.Char.{to_ascii_lowercase}
use Rattle.std.specs.List.{list_any}
use Rattle.std.specs.Str.{bytes_eq}
use Rattle.markup.specs.declared.quirks.QuirksMode.{QuirksMode}
use Rattle.markup.specs.declared.quirks.QuirksMode.TheVariants.{Quirks, LimitedQuirks, NoQuirks}
use Rattle.html_tokens.specs.Characters.{begins}
use Rattle.html_tokens.specs.declared.token.Doctype.{Doctype}
use Rattle.html_rules.specs.Choice.{choose}
use Rattle.html_rules.specs.declared.rules.Rules.{Rules}
use Rattle.html_rules.specs.declared.rules.Rules.TheVariants.{Html5ever, Standard}

-- whether a part of a doctype is there and is that text
abbrev pub is_given : Option (List ℕ) → List ℕ → Bool
is_given None text = false
is_given (Some given) text = bytes_eq given text

-- no identifiers, or those of an old doctype that is no error
abbrev pub is_allowed : Option (List ℕ) → Option (List ℕ) → Bool
is_allowed public_id system_id =
    (is_none public_id && (is_none system_id || is_given system_id (codes "about:legacy-compat")))
    || (is_given public_id (codes "-//W3C//DTD HTML 4.0//EN")
    && (is_none system_id || is_given system_id (codes "http://www.w3.org/TR/REC-html40/strict.dtd")))
    || (is_given public_id (codes "-//W3C//DTD HTML 4.01//EN")
    && (is_none system_id || is_given system_id (codes "http://www.w3.org/TR/html4/strict.dtd")))
    || (is_given public_id (codes "-//W3C//DTD XHTML 1.0 Strict//EN") && is_given system_id
    (codes "http://www.w3.org/TR/xhtml1/DTD/xhtml1-strict.dtd"))
    || (is_given public_id (codes "-//W3C//DTD XHTML 1.1//EN") && is_given system_id (codes "http://www.w3.org/TR/xhtml11/DTD/xhtml11.dtd"))

-- whether a doctype is an error
unfoldable pub doctype_error : Doctype → Bool
doctype_error d = not (is_given d.name (codes "html") && is_allowed d.public_id d.system_id)

abbrev pub lowered : Option (List ℕ) → Option (List ℕ)
lowered None = None
lowered (Some text) = Some (map to_ascii_lowercase text)

-- whether an identifier is there and begins with one of these
abbrev pub begins_with_one : Option (List ℕ) → List (List ℕ) → Bool
begins_with_one None prefixes = false
begins_with_one (Some given) prefixes = list_any (λ prefix. begins prefix given) prefixes

unfoldable pub quirky_public_prefixes : List (List ℕ)
quirky_public_prefixes =
    codes "-//ietf//dtd html//"
    ∷ codes "-//ietf//dtd html 2.0//"
    ∷ codes "-//ietf//dtd html 2.0 level 1//"
    ∷ codes "-//ietf//dtd html 2.0 level 2//"
    ∷ codes "-//ietf//dtd html 2.0 strict//"
    ∷ codes "-//ietf//dtd html 2.0 strict level 1//"
    ∷ codes "-//ietf//dtd html 2.0 strict level 2//"
    ∷ codes "-//ietf//dtd html 2.1e//"
    ∷ codes "-//ietf//dtd html 3//"
    ∷ codes "-//ietf//dtd html 3.0//"
    ∷ codes "-//ietf//dtd html 3.2//"
    ∷ codes "-//ietf//dtd html 3.2 final//"
    ∷ codes "-//ietf//dtd html level 0//"
    ∷ codes "-//ietf//dtd html level 1//"
    ∷ codes "-//ietf//dtd html level 2//"
    ∷ codes "-//ietf//dtd html level 3//"
    ∷ codes "-//ietf//dtd html strict//"
    ∷ codes "-//ietf//dtd html strict level 0//"
    ∷ codes "-//ietf//dtd html strict level 1//"
    ∷ codes "-//ietf//dtd html strict level 2//"
    ∷ codes "-//ietf//dtd html strict level 3//"
    ∷ codes "-//w3c//dtd html 3 1995-03-24//"
    ∷ codes "-//w3c//dtd html 3.2//"
    ∷ codes "-//w3c//dtd html 3.2 draft//"
    ∷ codes "-//w3c//dtd html 3.2 final//"
    ∷ codes "-//w3c//dtd html 3.2s draft//"
    ∷ codes "-//w3c//dtd html 4.0 frameset//"
    ∷ codes "-//w3c//dtd html 4.0 transitional//"
    ∷ codes "-//w3c//dtd html experimental 19960712//"
    ∷ codes "-//w3c//dtd html experimental 970421//"
    ∷ codes "-//w3c//dtd w3 html//"
    ∷ codes "-//microsoft//dtd internet explorer 2.0 html//"
    ∷ codes "-//microsoft//dtd internet explorer 2.0 html strict//"
    ∷ codes "-//microsoft//dtd internet explorer 2.0 tables//"
    ∷ codes "-//microsoft//dtd internet explorer 3.0 html//"
    ∷ codes "-//microsoft//dtd internet explorer 3.0 html strict//"
    ∷ codes "-//microsoft//dtd internet explorer 3.0 tables//"
    ∷ codes "-//advasoft ltd//dtd html 3.0 aswedit + extensions//"
    ∷ codes "-//as//dtd html 3.0 aswedit + extensions//"
    ∷ codes "-//metrius//dtd metrius presentational//"
    ∷ codes "-//netscape comm. corp.//dtd html//"
    ∷ codes "-//netscape comm. corp.//dtd strict html//"
    ∷ codes "-//o'reilly and associates//dtd html 2.0//"
    ∷ codes "-//o'reilly and associates//dtd html extended 1.0//"
    ∷ codes "-//o'reilly and associates//dtd html extended relaxed 1.0//"
    ∷ codes "-//softquad software//dtd hotmetal pro 6.0::19990601::extensions to html 4.0//"
    ∷ codes "-//softquad//dtd hotmetal pro 4.0::19971010::extensions to html 4.0//"
    ∷ codes "-//spyglass//dtd html 2.0 extended//"
    ∷ codes "-//sq//dtd html 2.0 hotmetal + extensions//"
    ∷ codes "-//sun microsystems corp.//dtd hotjava html//"
    ∷ codes "-//sun microsystems corp.//dtd hotjava strict html//"
    ∷ codes "-//w3o//dtd w3 html 3.0//"
    ∷ codes "-//webtechs//dtd mozilla html//"
    ∷ codes "-//webtechs//dtd mozilla html 2.0//"
    ∷ []

-- doctypes of no standard, or of one that browsers lay out as old ones did
abbrev pub is_quirky : Option (List ℕ) → Option (List ℕ) → Bool
is_quirky public_id system_id =
    is_given public_id (codes "-//w3o//dtd w3 html strict 3.0//en//") || is_given public_id
    (codes "-/w3c/dtd html 4.0 transitional/en") || is_given public_id (codes "html")
    || is_given system_id (codes "http://www.ibm.com/data/dtd/v11/ibmxhtml1-transitional.dtd")
    || begins_with_one public_id quirky_public_prefixes

abbrev pub xhtml_prefixes : List (List ℕ)
xhtml_prefixes = codes "-//w3c//dtd xhtml 1.0 frameset//" ∷ codes "-//w3c//dtd xhtml 1.0 transitional//" ∷ []

-- quirks or limited quirks, by whether there is a system identifier
abbrev pub html401_prefixes : List (List ℕ)
html401_prefixes = codes "-//w3c//dtd html 4.01 frameset//" ∷ codes "-//w3c//dtd html 4.01 transitional//" ∷ []

-- a doctype that only the Standard lists
abbrev pub is_quirky_by : Rules → Option (List ℕ) → Bool
is_quirky_by Html5ever public_id = false
is_quirky_by Standard public_id = begins_with_one public_id (codes "+//silmaril//dtd html pro v0r11 19970101//" ∷ [])

-- the mode by the identifiers, which are lowered
abbrev pub quirks_of_identifiers : Rules → Option (List ℕ) → Option (List ℕ) → QuirksMode
quirks_of_identifiers rules public_id system_id =
    choose (is_quirky public_id system_id || is_quirky_by rules public_id) (λ _. Quirks)
    (λ _. choose (begins_with_one public_id xhtml_prefixes) (λ _. LimitedQuirks)
    (λ _. choose (begins_with_one public_id html401_prefixes) (λ _. choose (is_none system_id) (λ _. Quirks) (λ _. LimitedQuirks))
    (λ _. NoQuirks)))

-- the mode that a doctype sets, in the document of an `iframe` with `srcdoc` or in another
unfoldable pub quirks_of : Rules → Bool → Doctype → QuirksMode
quirks_of rules iframe_srcdoc d =
    choose (d.force_quirks || not (is_given d.name (codes "html"))) (λ _. Quirks)
    (λ _. choose iframe_srcdoc (λ _. NoQuirks)
    (λ _. quirks_of_identifiers rules (lowered d.public_id) (lowered d.system_id)))
