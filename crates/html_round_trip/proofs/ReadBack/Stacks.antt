-- What the names of plain elements say of the stack of open elements.
use Rattle.std.proofs.Common.{◌≡◌, ℕ, Bool, true, false, List, ◌∷◌, Option, refl, arith}
use Rattle.std.proofs.lemmas.Bool.Decides.{nat_tests}
use Rattle.std.specs.Prelude.{◌||◌, nat_eq}
use Rattle.markup.specs.Forest.{Forest}
use Rattle.html_plain.specs.declared.elements.CellKind.TheVariants.{Data, Header}
use Rattle.html_plain.specs.declared.elements.Format.TheVariants.{Bold, Italic, Emphasis, Code}
use Rattle.html_plain.specs.declared.elements.Level.TheVariants.{One, Two, Three, Four, Five, Six}
use Rattle.html_plain.specs.declared.elements.ListKind.TheVariants.{Unordered, Ordered}
use Rattle.html_plain.specs.declared.elements.PlainElement.{PlainElement}
use Rattle.html_plain.specs.declared.elements.PlainElement.TheVariants.{Html, Head, Title, Body, Paragraph, Heading, Division}
use Rattle.html_plain.specs.declared.elements.PlainElement.TheVariants.{List as ListElement, Item, Table, TableBody, Row, Cell}
use Rattle.html_plain.specs.declared.elements.PlainElement.TheVariants.{Break, Formatted, Link}
use Rattle.html_rules.specs.Shape.{is_fit}
use Rattle.html_rules.specs.Sets.{names_of}
use Rattle.html_rules.specs.Stack.{is_open}
use Rattle.html_rules.specs.State.{Entry, Open, is_in}
use Rattle.html_rules.specs.Step.{is_barred}
use Rattle.html_rules.specs.declared.tag_set.TagSet.TheVariants as set
use Rattle.html_tokens.specs.declared.token.Token.{Token}
use Rattle.html_round_trip.specs.ReadBack.Places.{IsHome, IsRooted}
use Rattle.html_round_trip.specs.ReadBack.States.{Around, Home, OfBody, OfCell, Part, OfTable, OfBodies, OfRow, at, mode_in}
use Rattle.html_round_trip.specs.ReadBack.States.{mode_of_part, opened, waiting_at}
use Rattle.html_round_trip.proofs.ReadBack.Taking.{IsReady}

pub same : (n : ℕ) → nat_eq n n ≡ true
same n = grind (arith, nat_tests)

-- no plain element is a template
pub no-template_open : (n : ℕ) (k : PlainElement) → is_in set.Template (opened n k) ≡ false
unfolding names_of
no-template_open n Html = refl
no-template_open n Head = refl
no-template_open n Title = refl
no-template_open n Body = refl
no-template_open n Paragraph = refl
no-template_open n (Heading One) = refl
no-template_open n (Heading Two) = refl
no-template_open n (Heading Three) = refl
no-template_open n (Heading Four) = refl
no-template_open n (Heading Five) = refl
no-template_open n (Heading Six) = refl
no-template_open n Division = refl
no-template_open n (ListElement Unordered) = refl
no-template_open n (ListElement Ordered) = refl
no-template_open n Item = refl
no-template_open n Table = refl
no-template_open n TableBody = refl
no-template_open n Row = refl
no-template_open n (Cell Data) = refl
no-template_open n (Cell Header) = refl
no-template_open n Break = refl
no-template_open n (Formatted Bold) = refl
no-template_open n (Formatted Italic) = refl
no-template_open n (Formatted Emphasis) = refl
no-template_open n (Formatted Code) = refl
no-template_open n Link = refl

-- elements that stand in flow or in a line
abbrev pub is_in_flow : PlainElement → Bool
is_in_flow Paragraph = true
is_in_flow (Heading level) = true
is_in_flow Division = true
is_in_flow (ListElement kind) = true
is_in_flow Item = true
is_in_flow (Formatted format) = true
is_in_flow Link = true
is_in_flow _ = false

-- one more of them leaves what is asked of the stack
pub home-more : (k : PlainElement) → is_in_flow k ≡ true → (b : Home) (n : ℕ) (stack : List Open) → IsHome b stack
    → IsHome b (opened n k ∷ stack)
unfolding names_of
home-more Paragraph h OfBody n stack home = record { root = home.root; templates = home.templates; cell = home.cell }
home-more Paragraph h OfCell n stack home = record { root = home.root; templates = home.templates; cell = home.cell }
home-more (Heading One) h OfBody n stack home = record { root = home.root; templates = home.templates; cell = home.cell }
home-more (Heading One) h OfCell n stack home = record { root = home.root; templates = home.templates; cell = home.cell }
home-more (Heading Two) h OfBody n stack home = record { root = home.root; templates = home.templates; cell = home.cell }
home-more (Heading Two) h OfCell n stack home = record { root = home.root; templates = home.templates; cell = home.cell }
home-more (Heading Three) h OfBody n stack home = record { root = home.root; templates = home.templates; cell = home.cell }
home-more (Heading Three) h OfCell n stack home = record { root = home.root; templates = home.templates; cell = home.cell }
home-more (Heading Four) h OfBody n stack home = record { root = home.root; templates = home.templates; cell = home.cell }
home-more (Heading Four) h OfCell n stack home = record { root = home.root; templates = home.templates; cell = home.cell }
home-more (Heading Five) h OfBody n stack home = record { root = home.root; templates = home.templates; cell = home.cell }
home-more (Heading Five) h OfCell n stack home = record { root = home.root; templates = home.templates; cell = home.cell }
home-more (Heading Six) h OfBody n stack home = record { root = home.root; templates = home.templates; cell = home.cell }
home-more (Heading Six) h OfCell n stack home = record { root = home.root; templates = home.templates; cell = home.cell }
home-more Division h OfBody n stack home = record { root = home.root; templates = home.templates; cell = home.cell }
home-more Division h OfCell n stack home = record { root = home.root; templates = home.templates; cell = home.cell }
home-more (ListElement Unordered) h OfBody n stack home = record { root = home.root; templates = home.templates; cell = home.cell }
home-more (ListElement Unordered) h OfCell n stack home = record { root = home.root; templates = home.templates; cell = home.cell }
home-more (ListElement Ordered) h OfBody n stack home = record { root = home.root; templates = home.templates; cell = home.cell }
home-more (ListElement Ordered) h OfCell n stack home = record { root = home.root; templates = home.templates; cell = home.cell }
home-more Item h OfBody n stack home = record { root = home.root; templates = home.templates; cell = home.cell }
home-more Item h OfCell n stack home = record { root = home.root; templates = home.templates; cell = home.cell }
home-more (Formatted Bold) h OfBody n stack home = record { root = home.root; templates = home.templates; cell = home.cell }
home-more (Formatted Bold) h OfCell n stack home = record { root = home.root; templates = home.templates; cell = home.cell }
home-more (Formatted Italic) h OfBody n stack home = record { root = home.root; templates = home.templates; cell = home.cell }
home-more (Formatted Italic) h OfCell n stack home = record { root = home.root; templates = home.templates; cell = home.cell }
home-more (Formatted Emphasis) h OfBody n stack home = record { root = home.root; templates = home.templates; cell = home.cell }
home-more (Formatted Emphasis) h OfCell n stack home = record { root = home.root; templates = home.templates; cell = home.cell }
home-more (Formatted Code) h OfBody n stack home = record { root = home.root; templates = home.templates; cell = home.cell }
home-more (Formatted Code) h OfCell n stack home = record { root = home.root; templates = home.templates; cell = home.cell }
home-more Link h OfBody n stack home = record { root = home.root; templates = home.templates; cell = home.cell }
home-more Link h OfCell n stack home = record { root = home.root; templates = home.templates; cell = home.cell }
home-more k h b n stack home = absurd (cc)

pub open-more : (n m : ℕ) (k : PlainElement) (stack : List Open) → is_open n stack ≡ true → is_open n (opened m k ∷ stack) ≡ true
open-more n m k stack h = by (nat_eq m n) where
  by : (b : Bool) → (b || is_open n stack) ≡ true
  by true = refl
  by false = h

-- NOTHING STANDS AGAINST A TOKEN

pub home-fit : (o : Around) (head : Option ℕ) (b : Home) (f : Forest) (stack : List Open) (es : List Entry)
    (ok : Bool) → IsHome b stack → is_fit (at o head (mode_in b) f stack es ok) ≡ true
unfolding is_fit
home-fit o head OfBody f stack es ok home = rw (home.root, home.templates) refl
home-fit o head OfCell f stack es ok home = rw (home.root, home.cell, home.templates) refl

home-free : (b : Home) (t : Token) → is_barred (mode_in b) t ≡ false
home-free OfBody t = refl
home-free OfCell t = refl

pub home-ready : (o : Around) (head : Option ℕ) (b : Home) (f : Forest) (stack : List Open) (es : List Entry)
    (ok : Bool) (t : Token) → IsHome b stack → f.errors ≡ 0 → IsReady (at o head (mode_in b) f stack es ok) t
home-ready o head b f stack es ok t home silent = record {
  goes_on = refl;
  fit = home-fit o head b f stack es ok home;
  free = home-free b t;
  keeps_lf = refl;
  silent = silent;
}

part-fit : (o : Around) (head : Option ℕ) (part : Part) (f : Forest) (stack : List Open) (es : List Entry)
    (ok : Bool) → IsRooted stack → is_fit (at o head (mode_of_part part) f stack es ok) ≡ true
unfolding is_fit
part-fit o head OfTable f stack es ok rooted = rw (rooted.root, rooted.templates) refl
part-fit o head OfBodies f stack es ok rooted = rw (rooted.root, rooted.templates) refl
part-fit o head OfRow f stack es ok rooted = rw (rooted.root, rooted.templates) refl

part-free : (part : Part) (t : Token) → is_barred (mode_of_part part) t ≡ false
part-free OfTable t = refl
part-free OfBodies t = refl
part-free OfRow t = refl

pub part-ready : (o : Around) (head : Option ℕ) (part : Part) (f : Forest) (stack : List Open) (es : List Entry)
    (ok : Bool) (t : Token) → IsRooted stack → f.errors ≡ 0 → IsReady (at o head (mode_of_part part) f stack es ok) t
part-ready o head part f stack es ok t rooted silent = record {
  goes_on = refl;
  fit = part-fit o head part f stack es ok rooted;
  free = part-free part t;
  keeps_lf = refl;
  silent = silent;
}

waiting-fit : (o : Around) (head : Option ℕ) (part : Part) (f : Forest) (stack : List Open) (es : List Entry)
    (ok : Bool) (text : List ℕ) → IsRooted stack → is_fit (waiting_at o head (mode_of_part part) f stack es ok text) ≡ true
unfolding is_fit
waiting-fit o head OfTable f stack es ok text rooted = rw (rooted.root, rooted.templates) refl
waiting-fit o head OfBodies f stack es ok text rooted = rw (rooted.root, rooted.templates) refl
waiting-fit o head OfRow f stack es ok text rooted = rw (rooted.root, rooted.templates) refl

pub waiting-ready : (o : Around) (head : Option ℕ) (part : Part) (f : Forest) (stack : List Open) (es : List Entry)
    (ok : Bool) (text : List ℕ) (t : Token) → IsRooted stack → f.errors ≡ 0
    → IsReady (waiting_at o head (mode_of_part part) f stack es ok text) t
waiting-ready o head part f stack es ok text t rooted silent = record {
  goes_on = refl;
  fit = waiting-fit o head part f stack es ok text rooted;
  free = refl;
  keeps_lf = refl;
  silent = silent;
}
