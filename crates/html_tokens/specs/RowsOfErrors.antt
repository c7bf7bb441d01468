-- Worked rows: how many errors a text owes, and whether it is clean.
use Prim.Native.String.{String}
use Rattle.std.specs.Prelude.{◌≡◌, ℕ, Bool, true, false, List, [], ◌∷◌, ◌++◌, codes, map}
use Rattle.html_tokens.specs.Clean.{is_clean_reading}
use Rattle.html_tokens.specs.Notes.{owed}
use Rattle.html_tokens.specs.Listing.{step, end as finished, empty}
use Rattle.html_tokens.specs.NormalText.{normal_text}
use Rattle.html_tokens.specs.RowForms.{raw_text, data_stand, five}

abbrev pub owes : String → ℕ → List ℕ × ℕ
owes input errors = (codes input, errors)

-- inputs and how many faulty items each has
abbrev pub owed_rows : List (List ℕ × ℕ)
owed_rows =
    owes "" 0
    ∷ owes "<!DOCTYPE html><p>a &amp; b</p><!--c--><!----><br/><a b=c d='e'>" 0
    ∷ owes "</>x</ a><?b?><!c>y</" 4
    ∷ owes "<!-->" 1
    ∷ owes "<!--->" 1
    ∷ owes "<!--a--!>" 1
    ∷ owes "<!--a" 1
    ∷ owes "<!--a--" 1
    ∷ owes "<!--a---><!--a-b--><!--<!-->" 0
    ∷ owes "<A B=1 b=2 =c d>" 1
    ∷ owes "</a b></a/></a></a b b>" 3
    ∷ owes "a<b c" 1
    ∷ owes "<a b='" 1
    ∷ owes "<!DOCTYPE>" 1
    ∷ owes "<!DOCTYPE html x>" 1
    ∷ owes "<!DOCTYPE html PUBLIC \"a>b" 1
    ∷ owes "<!DOCTYPE html SYSTEM \"a\" x>" 0
    ∷ owes "&#x80;&#0;&#xD800;&#x110000;&#13x&#x;" 3
    ∷ owes "&#xFFFD;&#65533" 0
    ∷ owes "<title>&#0;</title><style>&#0;</style>" 1
    ∷ owes "<![CDATA[a]]>" 1
    ∷ (codes "a" ++ 0 ∷ codes "<style>" ++ 0 ∷ 0 ∷ [], 3)
    ∷ []

abbrev pub owed_of : Bool → List ℕ → ℕ
owed_of cdata t = owed (step raw_text) (λ s token. true) (λ s. s.cdata) finished five data_stand 0 (empty cdata) (normal_text true t)

abbrev pub AreErrorRowsRead : Type 0
AreErrorRowsRead =
    (map (λ r. owed_of false r.0) owed_rows ≡ map (λ r. r.1) owed_rows)
    × (owed_of true (codes "<![CDATA[a]]>b<![CDATA[c]]") ≡ 1)
    × (owed_of true (codes "<![CDATA[" ++ 0 ∷ codes "]]>") ≡ 1)

-- inputs that are clean, and inputs that are not
abbrev pub clean_rows : List (List ℕ)
clean_rows =
    codes ""
    ∷
    codes
    "<!DOCTYPE html><html><head><title>a&amp;b</title></head><body><p class=\"b c\" id=\"&quot;&nbsp;>\">x</p><h1>y</h1></body></html>"
    ∷ codes "<a >&lt;p>"
    ∷ codes "<input disabled><a b c = \"d\" e>"
    ∷ codes "<!----><!--a--><p><!-- b!&c\"d' --></p>"
    ∷ (codes "<!--" ++ 0xFFFD ∷ 9 ∷ 10 ∷ 13 ∷ codes "-->")
    ∷ []

abbrev pub unclean_rows : List (List ℕ)
unclean_rows =
    codes "a & b" ∷ codes "a < b" ∷ codes "&amp" ∷ codes "&#38;" ∷ codes "<P>" ∷ codes "<br/>" ∷ codes "<a b=>" ∷
    codes "<a b =c>" ∷ codes "<a b/>" ∷ codes "<a b='c'>" ∷ codes "<a b=c>"
    ∷ codes "<a b=\"c\"d=\"e\">" ∷ codes "<a b=\"c\" b=\"d\">" ∷ codes "<a B=\"c\">" ∷ codes "<a b=\"<\">" ∷
    codes "<a b=\"&\">" ∷ codes "</a b=\"c\">" ∷ codes "<a b=\"c\""
    ∷ codes "<!doctype html>" ∷ codes "<!DOCTYPE html >" ∷ codes "</>" ∷ codes "<?>" ∷ codes "<a-B>" ∷
    codes "<title></Title>" ∷ codes "<title><" ∷ (0 ∷ [])
    ∷ codes "<!--a-b-->" ∷ codes "<!-----" ∷ codes "<!-----><p>" ∷ codes "<!--<-->" ∷ codes "<!--a>b-->" ∷
    (codes "<!--a" ++ 0 ∷ codes "-->") ∷ codes "<!-->" ∷ codes "<!--->" ∷ codes "<!--a--!>" ∷ codes "<!--a" ∷
    codes "<!--a--" ∷ codes "<!-a-->" ∷ codes "<!a>" ∷ codes "<?a>" ∷ []

abbrev pub is_clean_of : List ℕ → Bool
is_clean_of t = is_clean_reading (step raw_text) (λ s token. true) (λ s. s.cdata) five data_stand 0 (empty false) (normal_text true t)

abbrev pub AreCleanRowsRead : Type 0
AreCleanRowsRead = (map is_clean_of clean_rows ≡ map (λ t. true) clean_rows)
    × (map is_clean_of unclean_rows ≡ map (λ t. false) unclean_rows)
